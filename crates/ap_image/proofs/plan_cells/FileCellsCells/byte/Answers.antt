use Rattle.ap_image.proofs.FileSizes.{has-size}
use Rattle.ap_image.proofs.plan_cells.FileCellsCells.byte.Goals as goal

pub read-requires-clause-size : goal.read-requires-clause-size
read-requires-clause-size g c =
    let s = c.args.self.now in
    has-size (g.F.Files.state s.files.now).kept s.name.now s.size s.sized
