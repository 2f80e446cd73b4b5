use Rattle.std.specs.Option.{option_copied}
use Rattle.ap_link.proofs.HeldLemmas.{held-add}
use Rattle.ap_link.proofs.held.HeldFilesFiles.add.Goals as goal

pub returns-in-Ok : goal.returns-in-Ok
returns-in-Ok c =
    held-add c.args.self.now.first.now (option_copied c.args.self.now.second) c.args.self.now.out.items c.extend_from_slice.new.self.items c.args.self.now.is_made c.args.self.now.is_open c.args.name.now c.args.piece.now c.requires c.in-Ok.ensures.items
