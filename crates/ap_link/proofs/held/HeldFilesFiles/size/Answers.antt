use Rattle.std.specs.Option.{option_copied}
use Rattle.ap_link.proofs.HeldLemmas.{held-size, held-missing}
use Rattle.ap_link.proofs.held.HeldFilesFiles.size.Goals as goal

pub returns-in-Some : goal.returns-in-Some
returns-in-Some c = held-size c.args.self.now.first.now (option_copied c.args.self.now.second) c.args.self.now.out.items c.args.self.now.is_made c.args.self.now.is_open c.args.name.now c.in-Some.bytes.now c.in-Some.ensures

pub returns-in-None : goal.returns-in-None
returns-in-None c = held-missing c.args.self.now.first.now (option_copied c.args.self.now.second) c.args.self.now.out.items c.args.self.now.is_made c.args.self.now.is_open c.args.name.now _ c.in-None.ensures
