use Rattle.ap_script.proofs.Endings.{spaces-next}
use Rattle.ap_script.proofs.ending.push_spaces.Goals as goal

pub returns : goal.returns
returns c = spaces-next c.args.text.now.items c.push_text.new.out.items c.args.len 8192 c.requires.room (rw (← c.len.ensures.value) c.push_text.ensures)
