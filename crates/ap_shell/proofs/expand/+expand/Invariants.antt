use Rattle.std.proofs.Common.{◌≡◌, map, drop, ◌++◌}
use Rattle.ap_shell.specs.Words as texts
use Rattle.ap_shell.specs.Redirecting as routing
use Rattle.ap_shell.specs.Obeying as obeying
use Rattle.ap_shell.specs.Simples as simples
use Rattle.ap_shell.specs.Steps.{◌then_do◌}
use Rattle.ap_shell.proofs.expand.+expand.Given as goal

abbrev pub invariant-assigned-loop-one : goal.invariant-assigned-loop-one
invariant-assigned-loop-one l = obeying.assigned (map (simples.assign_meaning l.env) l.all) l.fn.state ≡ obeying.assigned (map (simples.assign_meaning l.env) (drop l.one-index l.all)) l.state

abbrev pub invariant-joined-loop-one : goal.invariant-joined-loop-one
invariant-joined-loop-one l = texts.joined (map (simples.part_meaning l.env) l.parts) l.fn.state ≡ (texts.joined (map (simples.part_meaning l.env) (drop l.one-index l.parts)) l.state then_do (λ b s. (l.text ++ b, s)))

abbrev pub invariant-listed-loop-one : goal.invariant-listed-loop-one
invariant-listed-loop-one l = texts.listed (map (simples.word_meaning l.env) l.words) l.fn.state ≡ (texts.listed (map (simples.word_meaning l.env) (drop l.one-index l.words)) l.state then_do (λ b s. (l.out ++ b, s)))

abbrev pub invariant-redirected-loop-one : goal.invariant-redirected-loop-one
invariant-redirected-loop-one l = routing.redirected (map (simples.redirection_meaning l.env) l.all) l.fn.first l.fn.state ≡ routing.redirected (map (simples.redirection_meaning l.env) (drop l.one-index l.all)) l.routes l.state
