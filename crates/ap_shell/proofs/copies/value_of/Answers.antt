use Rattle.std.proofs.Common.{◌≡◌, ◌∙◌, ap, sym, subst, true, false, arith}
use Rattle.std.specs.Prelude.{IfOk}
use Rattle.std.specs.Str.{bytes_eq}
use Rattle.ap_shell.proofs.TextLemmas.{value_last}
use Rattle.ap_shell.proofs.copies.value_of.Goals as goal

pub returns-then-eq : goal.returns-then-eq
returns-then-eq c =
    subst (λ x. IfOk c.copy.result (λ t. t ≡ x)) (c.as_slice-then-eq.ensures ∙ sym (c.loop-end.invariant.same
    ∙ value_last c.args.name.now c.args.vars.now c.loop-end.end c.index-vars-end.result true c.loop-end-test.true c.loop-end.invariant.within c.index-vars-end.is
    (ap (λ n. bytes_eq n c.args.name.now) (sym c.as_slice.ensures) ∙ sym c.eq.ensures ∙ c.if-eq.true))) c.copy.ensures

pub loop-end-preserved : goal.loop-end-preserved
loop-end-preserved c = record {
  within = omega arith;
  same = c.loop-end.invariant.same
      ∙ value_last c.args.name.now c.args.vars.now c.loop-end.end c.index-vars-end.result false c.loop-end-test.true c.loop-end.invariant.within c.index-vars-end.is
      (ap (λ n. bytes_eq n c.args.name.now) (sym c.as_slice.ensures) ∙ sym c.eq.ensures ∙ c.if-eq.false);
}
