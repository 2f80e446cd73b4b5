use Rattle.ap_script.proofs.Endings.{closing-next}
use Rattle.ap_script.proofs.ending.push_closing.Goals as goal

pub returns-clause-items : goal.returns-clause-items
returns-clause-items c =
    closing-next c.args.text.now.items c.push_text.new.out.items c.push_text-2.new.out.items c.push_text-3.new.out.items c.delimiter.result c.args.number
    c.push_text.ensures c.delimiter.ensures c.push_text-2.ensures c.push_text-3.ensures
