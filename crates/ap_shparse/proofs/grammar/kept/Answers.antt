use Rattle.std.proofs.Common.{◌∙◌, sym, subst}
use Rattle.ap_shparse.specs.Grammar.{IsOutside}
use Rattle.ap_shparse.specs.declared.tree.Nul.TheVariants as nul
use Rattle.ap_shparse.proofs.OutsideLemmas.{outside_kept}
use Rattle.ap_shparse.proofs.JoinLemmas.{no_ok, ok_of}
use Rattle.ap_shparse.proofs.ScriptMeets.{read_programs, scripts_obey}
use Rattle.ap_shparse.proofs.grammar.kept.Goals as goal

pub returns-in-Err-Outside-clause-outside : goal.returns-in-Err-Outside-clause-outside
returns-in-Err-Outside-clause-outside c =
    let h = rw c.in-Err-Outside.field-0-is at c.in-Err-Outside.ensures in
    subst (λ at. IsOutside nul.Keep c.args.text.now at) (sym h.2) (outside_kept c.args.text.now h.0 h.1)

pub returns-in-Ok-clause-program : goal.returns-in-Ok-clause-program
returns-in-Ok-clause-program c = scripts_obey nul.Keep c.args.text.now c.in-Ok.items c.in-Ok.ensures

pub returns-in-Ok-clause-taken : goal.returns-in-Ok-clause-taken
returns-in-Ok-clause-taken c = λ cs x. ok_of cs c.in-Ok.items (sym (read_programs nul.Keep c.args.text.now cs x) ∙ c.in-Ok.ensures)

pub returns-in-Err-Outside-clause-taken : goal.returns-in-Err-Outside-clause-taken
returns-in-Err-Outside-clause-taken c =
    let h = rw c.in-Err-Outside.field-0-is at c.in-Err-Outside.ensures in
    λ cs x. no_ok h.0 cs (sym h.1 ∙ read_programs nul.Keep c.args.text.now cs x)
