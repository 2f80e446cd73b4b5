use Rattle.ap_fields.proofs.Granules.{power_pos, ceil_of-multiple, ceil_of-over}
use Rattle.std.proofs.Common.{sym}
use Rattle.ap_fields.proofs.granule.ceil_to.Goals as goal

pub returns-then-over-eq0 : goal.returns-then-over-eq0
returns-then-over-eq0 c =
    sym (ceil_of-multiple c.args.a c.args.g (power_pos c.args.g c.requires.power) c.if-over-eq0.true)

pub returns-else-over-eq0 : goal.returns-else-over-eq0
returns-else-over-eq0 c = sym (ceil_of-over c.args.a c.args.g (power_pos c.args.g c.requires.power) c.if-over-eq0.false)
