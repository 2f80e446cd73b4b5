use Rattle.std.proofs.Common.{[], None, Some, sym, ap, ◌∙◌, subst}
use Rattle.std.specs.Option.{option_copied}
use Rattle.ap_fields.specs.declared.sizes.TheConstants.{BLOCK}
use Rattle.ap_layout.specs.Apart.{Ascend, first_areas}
use Rattle.ap_layout.specs.Positions.{Positions, positions_of}
use Rattle.ap_layout.proofs.Fitting.{places-apart, first-ascend, masks-none}
use Rattle.ap_layout.proofs.position.place.Goals as goal

pub returns-in-None-clause-apart : goal.returns-in-None-clause-apart
returns-in-None-clause-apart c = places-apart c.args.job.now.options c.args.job.now.first.now None [] c.place_one.result c.place_one.ensures.positions c.place_one.ensures.fits

pub returns-in-None-clause-ascend : goal.returns-in-None-clause-ascend
returns-in-None-clause-ascend c =
    subst (λ (l : Positions). Ascend BLOCK (first_areas l.areas)) (sym c.place_one.ensures.positions) (first-ascend c.args.job.now.options c.args.job.now.first.now None [])

pub returns-in-Some-clause-apart : goal.returns-in-Some-clause-apart
returns-in-Some-clause-apart c = places-apart c.args.job.now.options c.args.job.now.first.now (Some c.in-Some.second.now) c.args.twins.now.masks.items c.place_two.result c.place_two.ensures.positions c.place_two.ensures.fits

pub returns-in-Some-clause-ascend : goal.returns-in-Some-clause-ascend
returns-in-Some-clause-ascend c =
    subst (λ (l : Positions). Ascend BLOCK (first_areas l.areas)) (sym c.place_two.ensures.positions) (first-ascend c.args.job.now.options c.args.job.now.first.now (Some c.in-Some.second.now) c.args.twins.now.masks.items)

pub returns-in-None-clause-positions : goal.returns-in-None-clause-positions
returns-in-None-clause-positions c =
    c.place_one.ensures.positions
    ∙ sym (masks-none c.args.job.now.options c.args.job.now.first.now c.args.twins.now.masks.items)
    ∙ ap (λ o. positions_of c.args.job.now.options c.args.job.now.first.now (option_copied o) c.args.twins.now.masks.items) (sym c.in-None.is)
