use Rattle.std.proofs.Common.{◌∙◌, sym}
use Rattle.std.proofs.lemmas.Bool.{eqb-true}
use Rattle.ap_shell.proofs.OctalLemmas.{octal_none, octal_some}
use Rattle.ap_shell.proofs.text_commands.octal_bytes.Goals as goal

pub returns-in_default : goal.returns-in_default
returns-in_default c = sym (octal_none c.args.text.now c.loop-rest.bytes c.loop-rest.rest.now c.loop-rest.invariant c.in_default.ensures)

pub returns : goal.returns
returns c = sym (octal_some c.args.text.now c.loop-rest.bytes c.loop-rest.rest.now c.loop-rest.invariant (eqb-true _ _ (sym c.is_empty.ensures ∙ c.loop-rest-test.false)))
