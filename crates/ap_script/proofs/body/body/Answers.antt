use Rattle.std.proofs.Common.{◌++◌, sym, ap, ◌∙◌, append-nil, arith}
use Rattle.ap_script.specs.Blocks.{body_of, tables_text}
use Rattle.ap_layout.specs.Jobs.{job_inputs}
use Rattle.ap_layout.proofs.Known.{placed-end}
use Rattle.ap_script.proofs.body.body.Goals as goal

pub returns-clause-items : goal.returns-clause-items
unfolding body_of
returns-clause-items c =
    let made = c.loop-i.body.items in
    let none = placed-end c.args.job.now.options (job_inputs c.args.job.now) c.args.lay.now c.loop-i.i c.requires (omega arith) in
    sym (append-nil made) ∙ ap (λ ps. made ++ tables_text ps) (sym none) ∙ c.loop-i.invariant.items
