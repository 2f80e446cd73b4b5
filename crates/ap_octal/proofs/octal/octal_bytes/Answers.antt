use Rattle.std.proofs.Common.{◌+◌, ◌≤◌, [], ◌∷◌, ◌++◌, drop, length, sym, ap, ◌∙◌, subst, arith}
use Rattle.std.proofs.lemmas.List.{take_rest, length_push, length-drop, length-set}
use Rattle.std.proofs.lemmas.Bool.Decides.{nat_tests}
use Rattle.ap_octal.specs.OctalSteps.{Splits}
use Rattle.ap_octal.proofs.OctalSplits.{splits-more, whole}
use Rattle.ap_octal.proofs.KeptBytes.{kept-more, kept-past}
use Rattle.ap_octal.proofs.octal.octal_bytes.Goals as goal
use Rattle.ap_octal.proofs.octal.octal_bytes.Goals.{then-count-lt-HEADER_SIZE, else-count-lt-HEADER_SIZE}

pub loop-rest-preserved : goal.loop-rest-preserved
loop-rest-preserved c =
    let i = c.loop-rest.invariant in
    let b = c.in_ok-byte.byte in
    let rest = take_rest c.loop-rest.rest.now c.in_ok-byte.width in
    let more = length_push i.front b in
    let begins = c.in_ok-byte.ensures in
    let some = begins.some in
    let within = begins.within in
    let long = length-drop c.in_ok-byte.width c.loop-rest.rest.now in
    record {
      front = i.front ++ b ∷ [];
      splits = subst (λ r. Splits c.args.text.now (i.front ++ b ∷ []) r) (sym rest)
          (splits-more c.args.text.now i.front c.loop-rest.rest.now (b ∷ []) (drop c.in_ok-byte.width c.loop-rest.rest.now) i.splits begins.splits);
      count = omega arith;
      most = subst (λ r. c.loop-rest.count + 1 + length r ≤ length c.args.text.now) (sym rest) (omega (arith, long));
      size = elim c.if-count-lt-HEADER_SIZE.branch [
        | then-count-lt-HEADER_SIZE w ↦ ap length w.first-is ∙ length-set c.loop-rest.first c.loop-rest.count b ∙ i.size
        | else-count-lt-HEADER_SIZE w ↦ ap length w.first-is ∙ i.size
      ];
      kept = elim c.if-count-lt-HEADER_SIZE.branch [
        | then-count-lt-HEADER_SIZE w ↦ kept-more c.loop-rest.first _ i.front c.loop-rest.count b i.size i.count w.if-count-lt-HEADER_SIZE.true i.kept w.first-is
        | else-count-lt-HEADER_SIZE w ↦ kept-past c.loop-rest.first _ i.front c.loop-rest.count b i.size i.count w.if-count-lt-HEADER_SIZE.false i.kept w.first-is
      ];
    }

pub returns : goal.returns
returns c =
    let i = c.loop-rest.invariant in
    record {
      bytes = i.front;
      octal = whole c.args.text.now c.loop-rest.rest.now i.front i.splits (grind (arith, nat_tests, c.loop-rest-test.ensures));
      count = i.count;
      first = i.kept;
    }
