use Rattle.std.proofs.Common.{length, take, ap, ◌∙◌, arith, length-append}
use Rattle.std.proofs.lemmas.List.{length-take}
use Rattle.std.proofs.lemmas.Fmt.{length-decimal-le}
use Rattle.ap_script.proofs.script.push_number.Goals as goal

pub push_text-requires : goal.push_text-requires
push_text-requires c =
    let digits = length-decimal-le 4 c.from.result (omega arith) (omega arith) (omega arith) in
    let cut = length-take c.put_decimal-count.result c.put_decimal-count.new.out in
    omega arith

pub returns-clause-len : goal.returns-clause-len
returns-clause-len c =
    let digits = length-decimal-le 4 c.from.result (omega arith) (omega arith) (omega arith) in
    let text = take c.put_decimal-count.result c.put_decimal-count.new.out in
    let cut = length-take c.put_decimal-count.result c.put_decimal-count.new.out in
    let whole = ap length c.push_text.ensures ∙ length-append c.args.out.now.items text in
    omega arith
