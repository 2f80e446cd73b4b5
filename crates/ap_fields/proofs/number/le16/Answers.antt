use Rattle.ap_fields.proofs.Numbers.{read_from}
use Rattle.ap_fields.proofs.number.le16.Goals as goal

pub returns : goal.returns
returns c = read_from 2 c.args.at c.args.b.now c.read_u16.result c.read_u16.ensures
