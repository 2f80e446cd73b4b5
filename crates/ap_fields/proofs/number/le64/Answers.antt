use Rattle.ap_fields.proofs.Numbers.{read_from}
use Rattle.ap_fields.proofs.number.le64.Goals as goal

pub returns : goal.returns
returns c = read_from 8 c.args.at c.args.b.now c.read_u64.result c.read_u64.ensures
