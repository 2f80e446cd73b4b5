use Rattle.std.proofs.Common.{rules, arith, ◌∙◌, ap, sym, map, [], ◌∷◌, ◌+◌, drop}
use Rattle.std.specs.Prelude.{Some, None}
use Rattle.std.proofs.lemmas.Grind.{common_steps}
use Rattle.ap_shell.specs.Redirecting as routing
use Rattle.ap_shell.specs.Obeying as obeying
use Rattle.ap_shell.specs.Simples as simples
use Rattle.ap_shell.proofs.Carried.{after, assigned_turn, layer, redirected_turn, simply_by, simply_is}
use Rattle.ap_shparse.specs.declared.tree.Simple.{out-Simple}
use Rattle.ap_shell.proofs.Layers.{part_text, part_variable, part_fallback, part_zero, part_process, part_output, word_args, word_parts, target_write, target_read, target_both, target_same, target_here, simple_out}
use Rattle.ap_shell.proofs.expand.+expand.Goals as goal

pub part-returns-in-Text : goal.part-returns-in-Text
part-returns-in-Text t c = layer _ _ _ _ _ (ap (simples.part_meaning c.args.env.now) c.in-Text.is ∙ part_text c.args.env.now _) (search rules)

pub part-returns-in-Variable : goal.part-returns-in-Variable
part-returns-in-Variable t c = layer _ _ _ _ _ (ap (simples.part_meaning c.args.env.now) c.in-Variable.is ∙ part_variable c.args.env.now _) (search rules)

pub part-returns-in-Zero : goal.part-returns-in-Zero
part-returns-in-Zero t c = layer _ _ _ _ _ (ap (simples.part_meaning c.args.env.now) c.in-Zero.is ∙ part_zero c.args.env.now) (search rules)

pub part-returns-in-Process : goal.part-returns-in-Process
part-returns-in-Process t c = layer _ _ _ _ _ (ap (simples.part_meaning c.args.env.now) c.in-Process.is ∙ part_process c.args.env.now) (search rules)

pub part-returns-in-Output : goal.part-returns-in-Output
part-returns-in-Output t c = layer _ _ _ _ _ (ap (simples.part_meaning c.args.env.now) c.in-Output.is ∙ part_output c.args.env.now _) c.within.ensures

pub part-returns-in_ok-value-in-Fallback : goal.part-returns-in_ok-value-in-Fallback
part-returns-in_ok-value-in-Fallback t c = layer _ _ _ _ _ (ap (simples.part_meaning c.args.env.now) c.in-Fallback.is ∙ part_fallback c.args.env.now _ _) (search rules)

pub word-returns-in-Args : goal.word-returns-in-Args
word-returns-in-Args t c = layer _ _ _ _ _ (ap (simples.word_meaning c.args.env.now) c.in-Args.is ∙ word_args c.args.env.now) (search rules)

pub word-returns-in_ok-push-in-Parts : goal.word-returns-in_ok-push-in-Parts
word-returns-in_ok-push-in-Parts t c = ap (λ k. k c.args.state.now) (ap (simples.word_meaning c.args.env.now) c.in-Parts.is ∙ word_parts c.args.env.now _)
    ∙ ap (λ r. (r.0 ∷ [], r.1)) (rw c.as_slice-in-Parts.ensures at c.in_ok-text-in-Parts.ensures) ∙ ap (λ ws. (ws, c.joined.new.state)) (first_of (search rules, grind (arith, common_steps)))

pub target-returns-in-Here : goal.target-returns-in-Here
target-returns-in-Here t c = ap (λ k. k c.args.number c.args.routes c.args.state.now) (ap (simples.target_meaning c.args.env.now) c.in-Here.is ∙ target_here c.args.env.now _)

pub target-returns-in-Same : goal.target-returns-in-Same
target-returns-in-Same t c = layer _ _ _ _ _ (ap (λ k. k c.args.number c.args.routes) (ap (simples.target_meaning c.args.env.now) c.in-Same.is ∙ target_same c.args.env.now _)) (search rules)

pub target-returns-in_ok-words-in-Read : goal.target-returns-in_ok-words-in-Read
target-returns-in_ok-words-in-Read t c = layer _ _ _ _ _ (ap (λ k. k c.args.number c.args.routes) (ap (simples.target_meaning c.args.env.now) c.in-Read.is ∙ target_read c.args.env.now _))
    (after _ (simples.word_meaning c.args.env.now c.in-Read.w c.args.state.now) (λ w. routing.opens_there w c.args.routes) _ _ _ c.in_ok-words-in-Read.ensures c.open_there.ensures)

pub target-returns-in_ok-words-in-Write : goal.target-returns-in_ok-words-in-Write
target-returns-in_ok-words-in-Write t c = layer _ _ _ _ _ (ap (λ k. k c.args.number c.args.routes) (ap (simples.target_meaning c.args.env.now) c.in-Write.is ∙ target_write c.args.env.now _))
    (after _ (simples.word_meaning c.args.env.now c.in-Write.w c.args.state.now) (λ w. routing.opens_emptied c.args.number w c.args.routes) _ _ _ c.in_ok-words-in-Write.ensures c.open_emptied.ensures)

pub target-returns-in_ok-words-in-Both : goal.target-returns-in_ok-words-in-Both
target-returns-in_ok-words-in-Both t c = layer _ _ _ _ _ (ap (λ k. k c.args.number c.args.routes) (ap (simples.target_meaning c.args.env.now) c.in-Both.is ∙ target_both c.args.env.now _))
    (after _ (simples.word_meaning c.args.env.now c.in-Both.w c.args.state.now) (λ w. routing.opens_ensured c.args.number w c.args.routes) _ _ _ c.in_ok-words-in-Both.ensures c.open_ensured.ensures)

pub simple-returns-in-None : goal.simple-returns-in-None
simple-returns-in-None t c = ap (λ k. k c.args.inside c.args.state.now) (simple_out c.args.env.now c.args.command.now)
    ∙ simply_is c.args.env.now (map (simples.word_meaning c.args.env.now) (out-Simple c.args.command.now).words) (map (simples.redirection_meaning c.args.env.now) (out-Simple c.args.command.now).redirections) (map (simples.assign_meaning c.args.env.now) (out-Simple c.args.command.now).assigns) c.args.inside c.args.state.now c.listed.new.state c.redirected.new.state c.in_ok-words.words None
    (rw c.as_slice.ensures at c.in_ok-words.ensures) ((rw c.as_slice-redirections.ensures at (rw c.plainly.ensures at c.in_ok-opened.ensures)) ∙ ap (λ o. (o, c.redirected.new.state)) c.in-None.is)
    ∙ (rw c.as_slice-in-None.ensures at c.fail.ensures)

pub simple-returns : goal.simple-returns
simple-returns t c = layer _ _ _ _ _ (ap (λ k. k c.args.inside) (simple_out c.args.env.now c.args.command.now))
    (simply_by c.args.env.now (map (simples.word_meaning c.args.env.now) (out-Simple c.args.command.now).words) (map (simples.redirection_meaning c.args.env.now) (out-Simple c.args.command.now).redirections) (map (simples.assign_meaning c.args.env.now) (out-Simple c.args.command.now).assigns) c.args.inside c.args.state.now c.listed.new.state c.redirected.new.state _ c.in_ok-words.words (Some c.in-Some.routes) _
    (rw c.as_slice.ensures at c.in_ok-words.ensures) ((rw c.as_slice-redirections.ensures at (rw c.plainly.ensures at c.in_ok-opened.ensures)) ∙ ap (λ o. (o, c.redirected.new.state)) c.in-Some.is)
    (rw c.as_slice-assigns.ensures at (rw c.as_slice-in-Some.ensures at c.performed.ensures)))

pub redirected-returns-in-None : goal.redirected-returns-in-None
redirected-returns-in-None t c = c.loop-one.invariant
    ∙ redirected_turn c.args.env.now c.args.all.now c.loop-one.one-index c.one-item.result c.loop-one.routes c.loop-one.state None c.target.new.state c.loop-one-test.true c.one-item.is
    (c.in_ok-target.ensures ∙ ap (λ o. (o, c.target.new.state)) c.in-None.is)

pub redirected-loop-one-preserved : goal.redirected-loop-one-preserved
redirected-loop-one-preserved t c = c.loop-one.invariant
    ∙ redirected_turn c.args.env.now c.args.all.now c.loop-one.one-index c.one-item.result c.loop-one.routes c.loop-one.state (Some c.in-Some.next) c.target.new.state c.loop-one-test.true c.one-item.is
    (c.in_ok-target.ensures ∙ ap (λ o. (o, c.target.new.state)) c.in-Some.is)

pub assigned-loop-one-preserved : goal.assigned-loop-one-preserved
assigned-loop-one-preserved t c = c.loop-one.invariant
    ∙ assigned_turn c.args.env.now c.args.all.now c.loop-one.one-index c.one-item.result c.loop-one.state c.in_ok-words.words c.word.new.state c.loop-one-test.true c.one-item.is c.in_ok-words.ensures
    ∙ ap (obeying.assigned (map (simples.assign_meaning c.args.env.now) (drop (c.loop-one.one-index + 1) c.args.all.now))) (sym (rw c.as_slice.ensures at c.in_ok-assign.ensures))
