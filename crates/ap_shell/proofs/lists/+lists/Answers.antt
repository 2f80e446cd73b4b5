use Rattle.std.proofs.Common.{rules, ◌∙◌, ap, sym, map, true, false}
use Rattle.ap_shell.specs.Meaning as means
use Rattle.ap_shell.proofs.Carried.{layer}
use Rattle.ap_shell.proofs.Layers.{node_if, node_simple}
use Rattle.ap_shell.proofs.ListTurns.{chain_ended, chain_goes, chosen_by, chosen_ended, one_by, one_not}
use Rattle.ap_shell.proofs.lists.+lists.Goals as goal

pub chain-returns-in-Some : goal.chain-returns-in-Some
chain-returns-in-Some t c = chain_ended c.args.env.now c.args.chain.now c.args.state.now c.node.new.state c.in-Some.ended (c.in_ok-ended.ensures ∙ ap (λ o. (o, c.node.new.state)) c.in-Some.is)

pub chain-returns : goal.chain-returns
chain-returns t c = chain_goes c.args.env.now c.args.chain.now c.args.state.now c.node.new.state _ _ (c.in_ok-ended.ensures ∙ ap (λ o. (o, c.node.new.state)) c.in_default.is) (rw c.as_slice.ensures at c.joined.ensures)

pub node-returns-in-Simple : goal.node-returns-in-Simple
node-returns-in-Simple t c = layer _ _ _ _ _ (ap (means.node_meaning c.args.env.now) c.in-Simple.is ∙ node_simple c.args.env.now _) c.simple.ensures

pub node-returns-in-Some : goal.node-returns-in-Some
node-returns-in-Some t c = ap (λ k. k c.args.state.now) (ap (means.node_meaning c.args.env.now) c.in-If.is ∙ node_if c.args.env.now _ _ _)
    ∙ chosen_ended (map (means.chain_meaning c.args.env.now) c.in-If.test) (map (means.chain_meaning c.args.env.now) c.in-If.yes) (map (means.chain_meaning c.args.env.now) c.in-If.no) c.args.state.now c.in_turn.new.state c.in-Some.ended ((rw c.as_slice.ensures at c.in_ok-ended-in-If.ensures) ∙ ap (λ o. (o, c.in_turn.new.state)) c.in-Some.is)

pub node-returns-then-state-eq0 : goal.node-returns-then-state-eq0
node-returns-then-state-eq0 t c = layer _ _ _ _ _ (ap (means.node_meaning c.args.env.now) c.in-If.is ∙ node_if c.args.env.now _ _ _)
    (chosen_by (map (means.chain_meaning c.args.env.now) c.in-If.test) (map (means.chain_meaning c.args.env.now) c.in-If.yes) (map (means.chain_meaning c.args.env.now) c.in-If.no)
    c.args.state.now c.in_turn.new.state _ true _ ((rw c.as_slice.ensures at c.in_ok-ended-in-If.ensures) ∙ ap (λ o. (o, c.in_turn.new.state)) c.in_default.is)
    (search rules) (rw c.as_slice-then-state-eq0.ensures at c.branch-alloc.ensures))

pub node-returns-else-state-eq0 : goal.node-returns-else-state-eq0
node-returns-else-state-eq0 t c = layer _ _ _ _ _ (ap (means.node_meaning c.args.env.now) c.in-If.is ∙ node_if c.args.env.now _ _ _)
    (chosen_by (map (means.chain_meaning c.args.env.now) c.in-If.test) (map (means.chain_meaning c.args.env.now) c.in-If.yes) (map (means.chain_meaning c.args.env.now) c.in-If.no)
    c.args.state.now c.in_turn.new.state _ false _ ((rw c.as_slice.ensures at c.in_ok-ended-in-If.ensures) ∙ ap (λ o. (o, c.in_turn.new.state)) c.in_default.is)
    (search rules) (rw c.as_slice-else-state-eq0.ensures at c.branch-alloc-else-state-eq0.ensures))

pub one_joined-returns-then-runs : goal.one_joined-returns-then-runs
one_joined-returns-then-runs t c = one_by c.args.env.now c.args.one.now c.args.state.now _ true _ (sym c.runs.ensures ∙ c.if-runs.true) c.node.ensures

pub one_joined-returns : goal.one_joined-returns
one_joined-returns t c = one_not c.args.env.now c.args.one.now c.args.state.now (sym c.runs.ensures ∙ c.if-runs.false)
