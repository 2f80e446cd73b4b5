use Rattle.std.proofs.Common.{◌∙◌, ap, sym, map}
use Rattle.ap_shell.specs.Meaning.{chain_meaning, finished, in_turn, shell_meaning}
use Rattle.ap_shell.proofs.script.run.Goals as goal

pub returns : goal.returns
unfolding shell_meaning
returns c =
    ap (λ s. finished (in_turn (map (chain_meaning c.args.env.now) c.args.script.now.items) s)) (sym c.in_ok-state.ensures)
    ∙ ap finished (rw c.as_slice.ensures at c.in_ok-ended.ensures)
    ∙ c.finish.ensures
