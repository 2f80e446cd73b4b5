-- The meaning of a construct as a tree writes it out, by the meanings of its parts: the equations of the folds, beside those of
-- ap_shell.
use Rattle.std.proofs.Common.{◌≡◌, ap, ℕ, List, Bool, map}
use Rattle.ap_shell.specs.Files.{Text}
use Rattle.ap_shell.specs.Steps.{Action}
use Rattle.ap_shell.specs.Redirecting.{Opens, Redirects}
use Rattle.ap_shell.specs.Obeying.{Assigns, simply}
use Rattle.ap_shell.specs.Meaning.{Joins, chain_meaning, node_meaning, joined_meaning, node_means, chain_means, joined_means}
use Rattle.ap_shell.specs.Simples.{Says, Lists, Does, part_meaning, target_meaning, word_meaning, assign_meaning, redirection_meaning, simple_meaning, part_means, target_means, word_means, assign_means, redirection_means, command_means}
use Rattle.ap_shell.specs.declared.types.Env.{Env}
use Rattle.ap_shell.proofs.Layers.{node_if, node_simple, part_fallback, part_output, part_process, part_text, part_variable, part_zero, target_both, target_here, target_same, target_write, word_args, word_parts}
use Rattle.ap_shparse.specs.declared.tree.Chain.{roll-Chain}
use Rattle.ap_shparse.specs.declared.tree.Joined.{Joined, roll-Joined}
use Rattle.ap_shparse.specs.declared.tree.Node.{Node}
use Rattle.ap_shparse.specs.declared.tree.Node.TheFolds.{fold-roll-Chain, fold-roll-Joined}
use Rattle.ap_shparse.specs.declared.tree.Simple.{roll-Simple}
use Rattle.ap_shparse.specs.declared.tree.Assign.{Assign, roll-Assign}
use Rattle.ap_shparse.specs.declared.tree.Redirection.{Redirection, roll-Redirection}
use Rattle.ap_shparse.specs.declared.tree.Word.{Word}
use Rattle.ap_shparse.specs.declared.tree.Target.{Target}
use Rattle.ap_shparse.specs.declared.tree.Target.TheVariants as target
use Rattle.ap_shparse.specs.declared.tree.Part.TheOpen.{Target-F}
use Rattle.ap_shparse.specs.declared.tree.Part.TheFolds.{fold-roll-Assign, fold-roll-Redirection, fold-roll-Simple}

pub chain_is : (env : Env) (first : Node) (rest : List Joined) → chain_meaning env (roll-Chain (record { first = first; rest = rest })) ≡ chain_means (record { first = node_meaning env first; rest = map (joined_meaning env) rest })
unfolding chain_meaning node_meaning joined_meaning
chain_is env first rest = fold-roll-Chain Action Action Joins (node_means env) chain_means joined_means (record { first = first; rest = rest })

pub joined_is : (env : Env) (or : Bool) (n : Node) → joined_meaning env (roll-Joined (record { or = or; node = n })) ≡ record { or = or; does = node_meaning env n }
unfolding chain_meaning node_meaning joined_meaning
joined_is env or n = fold-roll-Joined Action Action Joins (node_means env) chain_means joined_means (record { or = or; node = n })

pub assign_is : (env : Env) (name : Text) (value : Word) → assign_meaning env (roll-Assign (record { name = name; value = value })) ≡ record { name = name; value = word_meaning env value }
unfolding part_meaning target_meaning word_meaning assign_meaning redirection_meaning simple_meaning
assign_is env name value = fold-roll-Assign Says Opens Lists Assigns Redirects Does (part_means env) target_means (word_means env) assign_means redirection_means (command_means env) (record { name = name; value = value })

pub redirection_is : (env : Env) (n : ℕ) (to : Target) → redirection_meaning env (roll-Redirection (record { number = n; to = to })) ≡ target_meaning env to n
unfolding part_meaning target_meaning word_meaning assign_meaning redirection_meaning simple_meaning
redirection_is env n to = fold-roll-Redirection Says Opens Lists Assigns Redirects Does (part_means env) target_means (word_means env) assign_means redirection_means (command_means env) (record { number = n; to = to })

pub simple_is : (env : Env) (sets : List Assign) (ws : List Word) (rs : List Redirection) → simple_meaning env (roll-Simple (record { assigns = sets; words = ws; redirections = rs })) ≡ simply env (map (word_meaning env) ws) (map (redirection_meaning env) rs) (map (assign_meaning env) sets)
unfolding part_meaning target_meaning word_meaning assign_meaning redirection_meaning simple_meaning
simple_is env sets ws rs = fold-roll-Simple Says Opens Lists Assigns Redirects Does (part_means env) target_means (word_means env) assign_means redirection_means (command_means env) (record { assigns = sets; words = ws; redirections = rs })

pub simple_at : (env : Env) (sets : List Assign) (ws : List Word) (rs : List Redirection) (inside : Bool) → simple_meaning env (roll-Simple (record { assigns = sets; words = ws; redirections = rs })) inside ≡ simply env (map (word_meaning env) ws) (map (redirection_meaning env) rs) (map (assign_meaning env) sets) inside
simple_at env sets ws rs inside = ap (λ f. f inside) (simple_is env sets ws rs)

pub write_at : (env : Env) (w : Word) (n : ℕ) → target_meaning env (target.Write w) n ≡ target_means (Target-F.Write (word_meaning env w)) n
write_at env w n = ap (λ f. f n) (target_write env w)

pub both_at : (env : Env) (w : Word) (n : ℕ) → target_meaning env (target.Both w) n ≡ target_means (Target-F.Both (word_meaning env w)) n
both_at env w n = ap (λ f. f n) (target_both env w)

pub same_at : (env : Env) (m : ℕ) (n : ℕ) → target_meaning env (target.Same m) n ≡ target_means (Target-F.Same m) n
same_at env m n = ap (λ f. f n) (target_same env m)

pub here_at : (env : Env) (t : Text) (n : ℕ) → target_meaning env (target.Here t) n ≡ target_means (Target-F.Here t) n
here_at env t n = ap (λ f. f n) (target_here env t)

pub ruleset layers = (chain_is, joined_is, node_simple, node_if, part_text, part_variable, part_fallback, part_zero, part_process, part_output, word_args, word_parts, target_write, target_both, target_same, target_here, assign_is, redirection_is, simple_is, simple_at, write_at, both_at, same_at, here_at)
