use Rattle.std.proofs.Common.{arith}
use Rattle.std.proofs.lemmas.Fmt.{length-decimal-le}
use Rattle.ap_fields.proofs.decimal.put_decimal.Goals as goal

pub put_digits-requires : goal.put_digits-requires
put_digits-requires c = let e = length-decimal-le 20 c.args.v (omega arith) (omega arith) (omega arith) in omega arith
