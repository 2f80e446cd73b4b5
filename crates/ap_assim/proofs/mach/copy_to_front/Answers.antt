use Rattle.std.proofs.Common.{◌∙◌, ◌*◌, sym, true, arith}
use Rattle.ap_octal.proofs.DdOntoItself.{past_end}
use Rattle.ap_assim.proofs.Moves.{onto_itself, copied}
use Rattle.ap_assim.proofs.mach.copy_to_front.Goals as goal

-- src/mach.rt:53:9
pub returns-then-from-file : goal.returns-then-from-file
returns-then-from-file c =
    let past = c.if-from-file.true in
    sym (past_end true c.args.size c.args.skip c.args.count c.args.file.now c.args.file.now past)

-- src/mach.rt:46:1
pub returns : goal.returns
returns c =
    let file = c.args.file.now in
    let m = c.args.count * c.args.size in
    let a = c.args.skip * c.args.size in
    let less = c.if-from-file.false in
    let n = c.min-length.ensures in
    c.copy_within.ensures.after
    ∙ copied a _ m file (omega (arith, less)) (λ short. omega (arith, n, short)) (λ long. omega (arith, n, long))
    ∙ sym (onto_itself c.args.size c.args.skip c.args.count file c.requires)
