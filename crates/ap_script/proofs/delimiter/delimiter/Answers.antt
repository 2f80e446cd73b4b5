use Rattle.std.proofs.Common.{◌-◌, ◌+◌, ◌%◌, ◌∙◌, arith}
use Rattle.std.proofs.lemmas.List.{take-set-le, length-set}
use Rattle.ap_script.specs.Delimiter.{digits_of}
use Rattle.ap_script.proofs.Digits.{digits-written}
use Rattle.ap_script.proofs.delimiter.delimiter.Goals as goal

pub loop-at-preserved : goal.loop-at-preserved
loop-at-preserved c =
    let i = c.loop-at.invariant in
    let long = i.long in
    record {
      long = length-set c.loop-at.word (c.loop-at.at - 1) (48 + c.loop-at.rest % 10) ∙ i.long;
      within = omega arith;
      front = omega arith;
      name = take-set-le 7 c.loop-at.word (c.loop-at.at - 1) (48 + c.loop-at.rest % 10) (omega arith) ∙ i.name;
      digits = digits-written c.loop-at.word (digits_of 8 c.args.number) c.loop-at.at c.loop-at.rest (omega arith) (omega arith) i.digits;
    }
