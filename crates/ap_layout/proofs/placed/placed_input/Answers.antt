use Rattle.std.proofs.Common.{◌+◌, [], drop, get_or, sym, ap, ◌∙◌, arith}
use Rattle.std.specs.Option.{option_copied}
use Rattle.ap_layout.specs.Jobs.{job_inputs}
use Rattle.ap_layout.proofs.Known.{place-found, areas-held, few-inputs}
use Rattle.ap_layout.proofs.placed.placed_input.Goals as goal

pub returns : goal.returns
returns c =
    let inputs = job_inputs c.args.job.now in
    let l = c.args.lay.now in
    let vs = c.lay.inside.areas in
    let few = few-inputs c.args.job.now.first.now (option_copied c.args.job.now.second) in
    let two = c.lay.told in
    let found = place-found c.args.job.now.options inputs (drop (c.args.i + 1) inputs) l c.args.i c.input_at.result.now c.deref.result.now (get_or c.deref-2.result.now c.args.i 0) c.requires.fits c.input_at.ensures
    (c.deref.ensures.0 ∙ sym (areas-held vs c.index-lay-i.result c.args.i (omega arith)) ∙ ap (λ x. get_or x.areas c.args.i []) c.lay.view_is)
    (ap (λ ts. get_or ts c.args.i 0) (c.deref-2.ensures.0 ∙ ap (λ x. x.tables) c.lay.view_is)) in
    record { next = found.0; known = found.1 }
