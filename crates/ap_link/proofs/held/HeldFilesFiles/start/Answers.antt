use Rattle.std.specs.Option.{option_copied}
use Rattle.ap_link.proofs.HeldLemmas.{held-start}
use Rattle.ap_link.proofs.held.HeldFilesFiles.start.Goals as goal

pub returns : goal.returns
returns c = held-start c.args.self.now.first.now (option_copied c.args.self.now.second) c.args.self.now.out.items c.clear.new.self.items c.args.self.now.is_made c.args.self.now.is_open c.args.name.now c.if-ne.ensures c.clear.ensures.items
