use Rattle.std.proofs.Common.{◌≡◌, ◌∙◌, sym, subst, arith}
use Rattle.std.specs.Prelude.{IfOk}
use Rattle.ap_shell.proofs.TextLemmas.{trimmed_end, trimmed_less}
use Rattle.ap_shell.proofs.copies.trimmed.Goals as goal
use Rattle.ap_shell.proofs.copies.trimmed.Goals.{then-loop-end-test+else-text-end-eq10, else-loop-end-test}

pub loop-end-preserved : goal.loop-end-preserved
loop-end-preserved c = record {
  within = omega arith;
  same = c.loop-end.invariant.same ∙ trimmed_less c.args.text.now c.loop-end.end c.loop-end-test.true c.loop-end.invariant.within c.if-text-end-eq10.true;
}

pub returns : goal.returns
returns c =
    subst (λ x. IfOk c.copy.result (λ t. t ≡ x)) (sym (c.loop-end.invariant.same ∙ trimmed_end c.args.text.now c.loop-end.end c.loop-end.invariant.within (λ some is.
    elim c.loop-end-test.branch [
      | then-loop-end-test+else-text-end-eq10 w ↦ w.if-text-end-eq10.false is
      | else-loop-end-test w ↦ absurd (omega arith)
    ]))) c.copy.ensures
