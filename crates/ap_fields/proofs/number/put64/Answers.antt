use Rattle.std.proofs.Common.{arith}
use Rattle.ap_fields.proofs.Numbers.{write_to}
use Rattle.ap_fields.proofs.number.put64.Goals as goal

pub returns : goal.returns
returns c = write_to 8 c.args.at c.args.v c.args.b.now c.write_u64.new.buf (omega arith) (omega arith) c.write_u64.ensures
