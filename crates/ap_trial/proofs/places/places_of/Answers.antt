use Rattle.std.proofs.Common.{◌∙◌}
use Rattle.ap_trial.proofs.PlaceLemmas.{granule-power}
use Rattle.ap_trial.proofs.places.places_of.Goals as goal

pub ceil_to-part_room-requires-clause-power : goal.ceil_to-part_room-requires-clause-power
ceil_to-part_room-requires-clause-power c = let p = granule-power c.args.machine in (p.0, c.granule-granule.ensures ∙ p.1)

pub ceil_to-requires-clause-power : goal.ceil_to-requires-clause-power
ceil_to-requires-clause-power c = let p = granule-power c.args.machine in (p.0, c.granule-granule.ensures ∙ p.1)
