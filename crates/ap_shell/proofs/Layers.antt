-- The meaning of a construct, by the meanings of its parts: the equations of the folds, as a tree is written out, and as code
-- opens it (`_out`).
use Rattle.std.proofs.Common.{◌≡◌, ◌∙◌, ap, sym, ℕ, List, false, map}
use Rattle.ap_shell.specs.Files.{Text}
use Rattle.ap_shell.specs.Steps.{Action}
use Rattle.ap_shell.specs.Redirecting.{Opens, Redirects}
use Rattle.ap_shell.specs.Obeying.{Assigns, simply}
use Rattle.ap_shell.specs.Meaning.{Joins, chain_meaning, node_meaning, joined_meaning, chosen, node_means, chain_means, joined_means}
use Rattle.ap_shell.specs.Simples.{Says, Lists, Does, part_meaning, target_meaning, word_meaning, assign_meaning, redirection_meaning, simple_meaning, part_means, target_means, word_means, assign_means, redirection_means, command_means}
use Rattle.ap_shell.specs.Words.{within}
use Rattle.ap_shell.specs.declared.types.Env.{Env}
use Rattle.ap_shparse.specs.declared.tree.Chain.{Chain, out-Chain}
use Rattle.ap_shparse.specs.declared.tree.Joined.{Joined, out-Joined}
use Rattle.ap_shparse.specs.declared.tree.Node.TheOpen.{Node-F}
use Rattle.ap_shparse.specs.declared.tree.Node.TheVariants as node
use Rattle.ap_shparse.specs.declared.tree.Node.TheFolds.{fold-roll-Node, fold_out-Chain, fold_out-Joined}
use Rattle.ap_shparse.specs.declared.tree.Simple.{Simple, out-Simple}
use Rattle.ap_shparse.specs.declared.tree.Assign.{Assign, out-Assign}
use Rattle.ap_shparse.specs.declared.tree.Redirection.{Redirection, out-Redirection}
use Rattle.ap_shparse.specs.declared.tree.Word.{Word}
use Rattle.ap_shparse.specs.declared.tree.Word.TheVariants as word
use Rattle.ap_shparse.specs.declared.tree.Part.{Part}
use Rattle.ap_shparse.specs.declared.tree.Part.TheVariants as part
use Rattle.ap_shparse.specs.declared.tree.Target.TheVariants as target
use Rattle.ap_shparse.specs.declared.tree.Part.TheOpen.{Part-F, Target-F, Word-F}
use Rattle.ap_shparse.specs.declared.tree.Part.TheFolds.{fold_out-Assign, fold_out-Redirection, fold_out-Simple, fold-roll-Part, fold-roll-Target, fold-roll-Word}

pub node_simple : (env : Env) (x : Simple) → node_meaning env (node.Simple x) ≡ simple_meaning env x false
unfolding chain_meaning node_meaning joined_meaning
node_simple env x = ap (node_meaning env) (sym (node.rolls-Simple x)) ∙ fold-roll-Node Action Action Joins (node_means env) chain_means joined_means (Node-F.Simple x)

pub node_if : (env : Env) (a b c : List Chain) → node_meaning env (node.If a b c) ≡ chosen (map (chain_meaning env) a) (map (chain_meaning env) b) (map (chain_meaning env) c)
unfolding chain_meaning node_meaning joined_meaning
node_if env a b c = ap (node_meaning env) (sym (node.rolls-If a b c)) ∙ fold-roll-Node Action Action Joins (node_means env) chain_means joined_means (Node-F.If a b c)

pub part_text : (env : Env) (b : Text) → part_meaning env (part.Text b) ≡ (λ s. (b, s))
unfolding part_meaning target_meaning word_meaning assign_meaning redirection_meaning simple_meaning
part_text env b = ap (part_meaning env) (sym (part.rolls-Text b)) ∙ fold-roll-Part Says Opens Lists Assigns Redirects Does (part_means env) target_means (word_means env) assign_means redirection_means (command_means env) (Part-F.Text b)

pub part_variable : (env : Env) (name : Text) → part_meaning env (part.Variable name) ≡ part_means env (Part-F.Variable name)
unfolding part_meaning target_meaning word_meaning assign_meaning redirection_meaning simple_meaning
part_variable env name = ap (part_meaning env) (sym (part.rolls-Variable name)) ∙ fold-roll-Part Says Opens Lists Assigns Redirects Does (part_means env) target_means (word_means env) assign_means redirection_means (command_means env) (Part-F.Variable name)

pub part_fallback : (env : Env) (name : Text) (other : Text) → part_meaning env (part.Fallback name other) ≡ part_means env (Part-F.Fallback name other)
unfolding part_meaning target_meaning word_meaning assign_meaning redirection_meaning simple_meaning
part_fallback env name other = ap (part_meaning env) (sym (part.rolls-Fallback name other)) ∙ fold-roll-Part Says Opens Lists Assigns Redirects Does (part_means env) target_means (word_means env) assign_means redirection_means (command_means env) (Part-F.Fallback name other)

pub part_zero : (env : Env) → part_meaning env part.Zero ≡ part_means env Part-F.Zero
unfolding part_meaning target_meaning word_meaning assign_meaning redirection_meaning simple_meaning
part_zero env = ap (part_meaning env) (sym part.rolls-Zero) ∙ fold-roll-Part Says Opens Lists Assigns Redirects Does (part_means env) target_means (word_means env) assign_means redirection_means (command_means env) Part-F.Zero

pub part_process : (env : Env) → part_meaning env part.Process ≡ part_means env Part-F.Process
unfolding part_meaning target_meaning word_meaning assign_meaning redirection_meaning simple_meaning
part_process env = ap (part_meaning env) (sym part.rolls-Process) ∙ fold-roll-Part Says Opens Lists Assigns Redirects Does (part_means env) target_means (word_means env) assign_means redirection_means (command_means env) Part-F.Process

pub part_output : (env : Env) (x : Simple) → part_meaning env (part.Output x) ≡ within (simple_meaning env x)
unfolding part_meaning target_meaning word_meaning assign_meaning redirection_meaning simple_meaning
part_output env x = ap (part_meaning env) (sym (part.rolls-Output x)) ∙ fold-roll-Part Says Opens Lists Assigns Redirects Does (part_means env) target_means (word_means env) assign_means redirection_means (command_means env) (Part-F.Output x)

pub word_args : (env : Env) → word_meaning env word.Args ≡ word_means env Word-F.Args
unfolding part_meaning target_meaning word_meaning assign_meaning redirection_meaning simple_meaning
word_args env = ap (word_meaning env) (sym word.rolls-Args) ∙ fold-roll-Word Says Opens Lists Assigns Redirects Does (part_means env) target_means (word_means env) assign_means redirection_means (command_means env) Word-F.Args

pub word_parts : (env : Env) (ps : List Part) → word_meaning env (word.Parts ps) ≡ word_means env (Word-F.Parts (map (part_meaning env) ps))
unfolding part_meaning target_meaning word_meaning assign_meaning redirection_meaning simple_meaning
word_parts env ps = ap (word_meaning env) (sym (word.rolls-Parts ps)) ∙ fold-roll-Word Says Opens Lists Assigns Redirects Does (part_means env) target_means (word_means env) assign_means redirection_means (command_means env) (Word-F.Parts ps)

pub target_write : (env : Env) (w : Word) → target_meaning env (target.Write w) ≡ target_means (Target-F.Write (word_meaning env w))
unfolding part_meaning target_meaning word_meaning assign_meaning redirection_meaning simple_meaning
target_write env w = ap (target_meaning env) (sym (target.rolls-Write w)) ∙ fold-roll-Target Says Opens Lists Assigns Redirects Does (part_means env) target_means (word_means env) assign_means redirection_means (command_means env) (Target-F.Write w)

pub target_read : (env : Env) (w : Word) → target_meaning env (target.Read w) ≡ target_means (Target-F.Read (word_meaning env w))
unfolding part_meaning target_meaning word_meaning assign_meaning redirection_meaning simple_meaning
target_read env w = ap (target_meaning env) (sym (target.rolls-Read w)) ∙ fold-roll-Target Says Opens Lists Assigns Redirects Does (part_means env) target_means (word_means env) assign_means redirection_means (command_means env) (Target-F.Read w)

pub target_both : (env : Env) (w : Word) → target_meaning env (target.Both w) ≡ target_means (Target-F.Both (word_meaning env w))
unfolding part_meaning target_meaning word_meaning assign_meaning redirection_meaning simple_meaning
target_both env w = ap (target_meaning env) (sym (target.rolls-Both w)) ∙ fold-roll-Target Says Opens Lists Assigns Redirects Does (part_means env) target_means (word_means env) assign_means redirection_means (command_means env) (Target-F.Both w)

pub target_same : (env : Env) (n : ℕ) → target_meaning env (target.Same n) ≡ target_means (Target-F.Same n)
unfolding part_meaning target_meaning word_meaning assign_meaning redirection_meaning simple_meaning
target_same env n = ap (target_meaning env) (sym (target.rolls-Same n)) ∙ fold-roll-Target Says Opens Lists Assigns Redirects Does (part_means env) target_means (word_means env) assign_means redirection_means (command_means env) (Target-F.Same n)

pub target_here : (env : Env) (t : Text) → target_meaning env (target.Here t) ≡ target_means (Target-F.Here t)
unfolding part_meaning target_meaning word_meaning assign_meaning redirection_meaning simple_meaning
target_here env t = ap (target_meaning env) (sym (target.rolls-Here t)) ∙ fold-roll-Target Says Opens Lists Assigns Redirects Does (part_means env) target_means (word_means env) assign_means redirection_means (command_means env) (Target-F.Here t)

-- ---- opened values, as the code sees them

pub assign_out : (env : Env) (x : Assign) → assign_meaning env x ≡ record { name = (out-Assign x).name; value = word_meaning env (out-Assign x).value }
unfolding assign_meaning word_meaning
assign_out env x = fold_out-Assign Says Opens Lists Assigns Redirects Does (part_means env) target_means (word_means env) assign_means redirection_means (command_means env) x

pub redirection_out : (env : Env) (x : Redirection) → redirection_meaning env x ≡ target_meaning env (out-Redirection x).to (out-Redirection x).number
unfolding redirection_meaning target_meaning
redirection_out env x = fold_out-Redirection Says Opens Lists Assigns Redirects Does (part_means env) target_means (word_means env) assign_means redirection_means (command_means env) x

pub simple_out : (env : Env) (x : Simple) → simple_meaning env x ≡ simply env (map (word_meaning env) (out-Simple x).words) (map (redirection_meaning env) (out-Simple x).redirections) (map (assign_meaning env) (out-Simple x).assigns)
unfolding simple_meaning word_meaning redirection_meaning assign_meaning
simple_out env x = fold_out-Simple Says Opens Lists Assigns Redirects Does (part_means env) target_means (word_means env) assign_means redirection_means (command_means env) x

pub chain_out : (env : Env) (x : Chain) → chain_meaning env x ≡ chain_means (record { first = node_meaning env (out-Chain x).first; rest = map (joined_meaning env) (out-Chain x).rest })
unfolding chain_meaning node_meaning joined_meaning
chain_out env x = fold_out-Chain Action Action Joins (node_means env) chain_means joined_means x

pub joined_out : (env : Env) (x : Joined) → joined_meaning env x ≡ record { or = (out-Joined x).or; does = node_meaning env (out-Joined x).node }
unfolding chain_meaning node_meaning joined_meaning
joined_out env x = fold_out-Joined Action Action Joins (node_means env) chain_means joined_means x
