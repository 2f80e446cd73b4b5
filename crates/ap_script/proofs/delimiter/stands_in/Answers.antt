use Rattle.std.proofs.Common.{◌∙◌}
use Rattle.ap_script.proofs.Words.{finds-stands}
use Rattle.ap_script.proofs.delimiter.stands_in.Goals as goal

pub returns : goal.returns
returns c = c.is_some.ensures ∙ finds-stands c.args.word.now c.args.text.now c.find.result c.find.ensures
