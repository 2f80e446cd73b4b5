use Rattle.ap_fields.proofs.Numbers.{read_from}
use Rattle.ap_fields.proofs.number.le32.Goals as goal

pub returns : goal.returns
returns c = read_from 4 c.args.at c.args.b.now c.read_u32.result c.read_u32.ensures
