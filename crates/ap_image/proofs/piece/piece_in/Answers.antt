use Rattle.std.proofs.Common.{◌<◌, sym, ◌∙◌, subst}
use Rattle.ap_image.specs.declared.plan.Region.{Region}
use Rattle.ap_image.specs.Plans.{region_at}
use Rattle.ap_image.proofs.RegionCells.{region_at-gap}
use Rattle.ap_image.proofs.PieceLemmas.{no-piece}
use Rattle.ap_image.proofs.piece.piece_in.Goals as goal

pub returns-then-a-r-clause-piece : goal.returns-then-a-r-clause-piece
returns-then-a-r-clause-piece c =
    let regions = c.args.regions.now in
    let here = c.in_ok-r.ensures.lookup in
    let gap = region_at-gap 0 regions c.ended.result c.in_ok-r.r.now c.args.a c.requires.regions here.3.0 (subst (λ (r : Region). c.args.a < r.start) here.1 c.if-a-r.true) in
    no-piece c.args.file.now (region_at regions c.args.a) c.args.a c.args.most (sym c.ended.ensures.region ∙ gap)
