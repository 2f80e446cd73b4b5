use Rattle.std.proofs.Common.{◌≡◌, ◌∙◌, ◌-◌, sym, subst, ap, length}
use Rattle.ap_shparse.specs.Grammar.{IsOutside, past_nul}
use Rattle.ap_shparse.specs.Scripts.{script}
use Rattle.ap_shparse.specs.declared.tree.Nul.TheVariants as nul
use Rattle.ap_shparse.proofs.OutsideLemmas.{outside_dropped, shown}
use Rattle.ap_shparse.proofs.JoinLemmas.{no_ok, ok_of}
use Rattle.ap_shparse.proofs.ScriptMeets.{read_programs, scripts_obey}
use Rattle.ap_shparse.proofs.grammar.dropped.Goals as goal

pub returns-clause-outside : goal.returns-clause-outside
returns-clause-outside c =
    let h = rw c.in-Err-Outside.field-0-is at c.in-Err-Outside.ensures in
    let s : c.deref.result.now ≡ shown c.args.text.now = c.deref.ensures.value ∙ c.in_ok-seen.ensures in
    subst (λ at. IsOutside nul.Drop c.args.text.now at)
    (sym (c.past_nul.ensures ∙ ap (λ k. past_nul k c.args.text.now) (h.2 ∙ ap (λ t. length t - h.0) s)))
    (outside_dropped c.args.text.now h.0 (ap script (sym s) ∙ h.1))

pub returns-in-Ok-clause-program : goal.returns-in-Ok-clause-program
returns-in-Ok-clause-program c =
    let s : c.deref.result.now ≡ shown c.args.text.now = c.deref.ensures.value ∙ c.in_ok-seen.ensures in
    scripts_obey nul.Drop c.args.text.now c.in-Ok.items (ap script (sym s) ∙ c.in-Ok.ensures)

pub returns-in-Ok-clause-taken : goal.returns-in-Ok-clause-taken
returns-in-Ok-clause-taken c =
    let s : c.deref.result.now ≡ shown c.args.text.now = c.deref.ensures.value ∙ c.in_ok-seen.ensures in
    λ cs x. ok_of cs c.in-Ok.items (sym (read_programs nul.Drop c.args.text.now cs x) ∙ ap script (sym s) ∙ c.in-Ok.ensures)

pub returns-clause-taken : goal.returns-clause-taken
returns-clause-taken c =
    let h = rw c.in-Err-Outside.field-0-is at c.in-Err-Outside.ensures in
    let s : c.deref.result.now ≡ shown c.args.text.now = c.deref.ensures.value ∙ c.in_ok-seen.ensures in
    λ cs x. no_ok h.0 cs (sym (ap script (sym s) ∙ h.1) ∙ read_programs nul.Drop c.args.text.now cs x)
