use Rattle.std.proofs.Common.{refl}
use Rattle.ap_octal.proofs.OctalFronts.{begins-plain}
use Rattle.ap_octal.proofs.octal.next_byte.Goals as goal

pub returns-then-is_plain : goal.returns-then-is_plain
returns-then-is_plain c = begins-plain c.args.text.now _ c.requires refl (c.is_plain.ensures.0 c.if-is_plain.true)
