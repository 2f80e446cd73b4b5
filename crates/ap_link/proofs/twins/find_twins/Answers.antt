use Rattle.std.proofs.Common.{ℕ, ◌∙◌, ap, subst, IfSome}
use Rattle.arrayvec.specs.ArrayVec.{ArrayVec}
use Rattle.ap_link.specs.Sources.{IsSource}
use Rattle.ap_link.proofs.Sides.{side-backed, none-true, some-true}
use Rattle.ap_link.proofs.twins.find_twins.Goals.{in-None, in-Some+in-Ok}
use Rattle.ap_link.proofs.twins.find_twins.Goals as goal

pub find_masks-requires-clause-ours : goal.find_masks-requires-clause-ours
find_masks-requires-clause-ours g c =
    side-backed (g.F.Files.state c.args.files.now).kept c.args.sources.now.first.name.now c.side_of-one.result.name.now c.args.sources.now.first.input.now c.side_of-one.result.loads.now
    c.requires.first.size c.side_of-one.ensures.meets c.side_of-one.ensures.name c.side_of-one.ensures.loads

pub find_masks-requires-clause-theirs : goal.find_masks-requires-clause-theirs
find_masks-requires-clause-theirs g c =
    let second = subst (λ o. IfSome o (λ s. IsSource (g.F.Files.state c.args.files.now).kept 2 s)) c.in-Some.is c.requires.second in
    side-backed (g.F.Files.state c.args.files.now).kept c.in-Some.second.name.now c.side_of-other.result.name.now c.in-Some.second.input.now c.side_of-other.result.loads.now
    second.size c.side_of-other.ensures.meets c.side_of-other.ensures.name c.side_of-other.ensures.loads

pub returns : goal.returns
returns g c =
    elim c.match-sources.branch [
      | in-None w ↦ (
        ap (λ f. g.F.Files.state f) w.files-is,
        none-true (g.F.Files.state c.args.files.now).kept c.match-sources.masks.items c.args.sources.now.first c.args.sources.now.second w.in-None.is,
      )
      | in-Some+in-Ok w ↦ (
        ap (λ f. g.F.Files.state f) w.files-is ∙ w.in-Ok.ensures.0,
        some-true (g.F.Files.state c.args.files.now).kept c.match-sources.masks.items c.args.sources.now.first c.args.sources.now.second w.in-Some.second w.side_of-one.result w.side_of-other.result w.in-Some.is
            w.side_of-one.ensures.name w.side_of-one.ensures.loads w.side_of-one.ensures.granule w.side_of-other.ensures.name w.side_of-other.ensures.loads w.side_of-other.ensures.granule
            (λ m k. ap (λ (x : ArrayVec ℕ). x.items) w.masks-is ∙ w.in-Ok.ensures.1 m k),
      )
    ]
