use Rattle.std.proofs.Common.{◌≡◌, ◌+◌, ◌-◌, ◌∙◌, Bool, true, false, ap, sym, arith, List, ℕ}
use Rattle.std.specs.Prelude.{not}
use Rattle.ap_script.specs.Delimiter.{delimiter, stands_in, without_nul}
use Rattle.ap_script.proofs.LeastNumbers.{least_from-next, least_from-now, least_from-none, delimiter_number-is}
use Rattle.ap_script.proofs.delimiter.choose_delimiter.Goals as goal

-- what the search says of the body
told : (word asked text body : List ℕ) (b r : Bool) → asked ≡ word → text ≡ without_nul body → r ≡ stands_in asked text → r ≡ b → not (stands_in word (without_nul body)) ≡ not b
told word asked text body b r word_is text_is answer is = ap not (sym (answer ∙ ap (λ w. stands_in w text) word_is ∙ ap (stands_in word) text_is) ∙ is)

pub loop-number-preserved : goal.loop-number-preserved
loop-number-preserved c =
    let body = c.args.body.now in
    let k = c.loop-number.number in
    record {
      within = omega arith;
      whole = c.loop-number.invariant.whole
          ∙ least_from-next (8192 - k) k (8192 - (k + 1)) (λ n. not (stands_in (delimiter n) (without_nul body))) (omega arith)
          (told (delimiter k) c.delimiter.result c.deref.result.now body true c.stands_in.result c.delimiter.ensures (c.deref.ensures.0 ∙ c.without_nul-text.ensures) c.stands_in.ensures c.if-stands_in.true);
    }

pub returns-else-stands_in : goal.returns-else-stands_in
returns-else-stands_in c =
    let body = c.args.body.now in
    let k = c.loop-number.number in
    sym (delimiter_number-is body ∙ c.loop-number.invariant.whole
    ∙ least_from-now (8192 - k) k (λ n. not (stands_in (delimiter n) (without_nul body)))
    (told (delimiter k) c.delimiter.result c.deref.result.now body false c.stands_in.result c.delimiter.ensures (c.deref.ensures.0 ∙ c.without_nul-text.ensures) c.stands_in.ensures c.if-stands_in.false))

pub returns-after-loop-number : goal.returns-after-loop-number
returns-after-loop-number c =
    let body = c.args.body.now in
    let k = c.loop-number.number in
    sym (delimiter_number-is body ∙ c.loop-number.invariant.whole
    ∙ least_from-none (8192 - k) k (λ n. not (stands_in (delimiter n) (without_nul body))) (omega arith))
