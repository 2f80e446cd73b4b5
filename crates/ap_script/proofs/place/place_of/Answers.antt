use Rattle.std.proofs.Common.{◌<◌, ◌∙◌, sym, length, arith}
use Rattle.ap_fields.proofs.Granules.{granule_power}
use Rattle.ap_layout.specs.Areas.{no_area}
use Rattle.ap_script.proofs.Entries.{no_load, place_of-next}
use Rattle.ap_script.proofs.place.place_of.Goals as goal

pub floor_to-requires : goal.floor_to-requires
floor_to-requires c = granule_power c.args.granule c.requires.granule

pub loop-i-preserved : goal.loop-i-preserved
loop-i-preserved c =
    let same = c.requires.same in
    let within : c.loop-i.i < length c.args.areas.now = omega arith in
    c.loop-i.invariant
    ∙ place_of-next c.args.granule c.args.loads.now c.args.areas.now c.args.address c.loop-i.i no_load no_area c.loop-i-test.true within (sym c.is_backed.ensures ∙ c.if-is_backed.false)
