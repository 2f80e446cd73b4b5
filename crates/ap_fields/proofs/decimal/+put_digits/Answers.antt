use Rattle.std.proofs.Common.{arith, ◌+◌, ◌%◌, ◌/◌, length, ap, sym, ◌∙◌}
use Rattle.std.proofs.lemmas.Fmt.{decimal_step, decimal_digit, decimal_nonempty}
use Rattle.std.specs.Fmt.{decimal}
use Rattle.ap_fields.specs.Fields.{patched}
use Rattle.ap_fields.proofs.Patches.{patched-one, patched-more, length-decimal_step}
use Rattle.ap_fields.proofs.decimal.+put_digits.Goals as goal

pub bounds-out-at : goal.bounds-out-at
bounds-out-at t c = omega (arith, decimal_nonempty c.args.v)

pub returns-then-v-lt10-clause-count : goal.returns-then-v-lt10-clause-count
returns-then-v-lt10-clause-count t c = sym (ap length (decimal_digit c.args.v c.if-v-lt10.true))

pub returns-then-v-lt10-clause-text : goal.returns-then-v-lt10-clause-text
returns-then-v-lt10-clause-text t c =
    patched-one c.args.out.now c.args.at (48 + c.args.v) (omega (arith, decimal_nonempty c.args.v))
    ∙ ap (patched c.args.out.now c.args.at) (sym (decimal_digit c.args.v c.if-v-lt10.true))

pub put_digits-front-requires : goal.put_digits-front-requires
put_digits-front-requires t c =
    let e = length-decimal_step c.args.v c.if-v-lt10.false (omega arith) in (omega arith, omega arith)

pub bounds-out-at-2 : goal.bounds-out-at-2
bounds-out-at-2 t c = let e = length-decimal_step c.args.v c.if-v-lt10.false (omega arith) in omega arith

pub returns-clause-count : goal.returns-clause-count
returns-clause-count t c = let e = length-decimal_step c.args.v c.if-v-lt10.false (omega arith) in omega arith

pub returns-clause-text : goal.returns-clause-text
returns-clause-text t c =
    let ds = decimal (c.args.v / 10) in
    let d = 48 + c.args.v % 10 in
    let more = length-decimal_step c.args.v c.if-v-lt10.false (omega arith) in
    rw (c.put_digits-front.ensures.text, c.put_digits-front.ensures.count)
    (patched-more c.args.out.now ds c.args.at d (omega arith) ∙ ap (patched c.args.out.now c.args.at) (sym (decimal_step c.args.v c.if-v-lt10.false (omega arith))))
