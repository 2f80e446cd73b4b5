use Rattle.std.proofs.Common.{arith}
use Rattle.ap_octal.proofs.DdPlaces.{has_room}
use Rattle.ap_octal.proofs.dd.short_number.Goals as goal

pub overflow_mul-value : goal.overflow_mul-value
overflow_mul-value c = let room = has_room c.loop-digit.value c.loop-digit.digit-index c.loop-digit.invariant.small (omega arith) in omega arith

pub overflow_add-value : goal.overflow_add-value
overflow_add-value c =
    let room = has_room c.loop-digit.value c.loop-digit.digit-index c.loop-digit.invariant.small (omega arith) in
    let byte = c.type_inv.text c.loop-digit.digit-index in
    omega arith
