-- The meaning of a simple command, by the meanings of its parts: folds over the command tree, in which each part already
-- has its meaning where a construct's is said.
use Rattle.std.specs.Prelude.{Bool, List, [], ◌∷◌, Some}
use Rattle.std.specs.Fmt.{decimal}
use Rattle.ap_shell.specs.Files.{Text}
use Rattle.ap_shell.specs.Steps.{Action, Gives, ◌then_do◌}
use Rattle.ap_shell.specs.Words.{joined, unless_empty, value_of, within}
use Rattle.ap_shell.specs.Redirecting.{Opens, Redirects, opens_emptied, opens_ensured, opens_there, routed, source_of}
use Rattle.ap_shell.specs.Obeying.{Assigns, simply}
use Rattle.ap_shell.specs.declared.types.Env.{Env}
use Rattle.ap_shparse.specs.declared.tree.Part.{Part}
use Rattle.ap_shparse.specs.declared.tree.Target.{Target}
use Rattle.ap_shparse.specs.declared.tree.Word.{Word}
use Rattle.ap_shparse.specs.declared.tree.Assign.{Assign}
use Rattle.ap_shparse.specs.declared.tree.Redirection.{Redirection}
use Rattle.ap_shparse.specs.declared.tree.Simple.{Simple}
use Rattle.ap_shparse.specs.declared.tree.Part.TheOpen.{Part-F, Target-F, Word-F, Assign-F, Redirection-F, Simple-F}
use Rattle.ap_shparse.specs.declared.tree.Part.TheFolds.{fold-Part, fold-Target, fold-Word, fold-Assign, fold-Redirection, fold-Simple}

-- what parts, words and commands mean; the last is told whether it stands within `$(..)`
abbrev pub Says : Type 0
Says = Gives Text

abbrev pub Lists : Type 0
Lists = Gives (List Text)

abbrev pub Does : Type 0
Does = Bool → Action

abbrev pub part_means : Env → Part-F Says Opens Lists Assigns Redirects Does → Says
part_means env (Part-F.Text bytes) s = (bytes, s)
part_means env (Part-F.Variable name) s = (value_of name s.vars, s)
part_means env (Part-F.Fallback name other) s = (unless_empty (value_of name s.vars) other, s)
part_means env Part-F.Zero s = (env.zero, s)
part_means env Part-F.Process s = (decimal env.pid, s)
part_means env (Part-F.Output command) s = within command s

abbrev pub word_means : Env → Word-F Says Opens Lists Assigns Redirects Does → Lists
word_means env Word-F.Args s = (env.args, s)
word_means env (Word-F.Parts parts) s = joined parts s then_do (λ t s1. (t ∷ [], s1))

-- `>`, `<>`, `<`, `>&` and `<<`
abbrev pub target_means : Target-F Says Opens Lists Assigns Redirects Does → Opens
target_means (Target-F.Write word) n routes s = word s then_do (λ w. opens_emptied n w routes)
target_means (Target-F.Both word) n routes s = word s then_do (λ w. opens_ensured n w routes)
target_means (Target-F.Read word) n routes s = word s then_do (λ w. opens_there w routes)
target_means (Target-F.Same from) n routes s = (Some (routed n (source_of from routes) routes), s)
target_means (Target-F.Here body) n routes s = (Some routes, s)

abbrev pub assign_means : Assign-F Says Opens Lists Assigns Redirects Does → Assigns
assign_means a = record { name = a.name; value = a.value }

abbrev pub redirection_means : Redirection-F Says Opens Lists Assigns Redirects Does → Redirects
redirection_means r = r.to r.number

abbrev pub command_means : Env → Simple-F Says Opens Lists Assigns Redirects Does → Does
command_means env x = simply env x.words x.redirections x.assigns

unfoldable pub part_meaning : Env → Part → Says
part_meaning env =
    fold-Part Says Opens Lists Assigns Redirects Does
    (part_means env) target_means (word_means env) assign_means redirection_means (command_means env)

unfoldable pub target_meaning : Env → Target → Opens
target_meaning env =
    fold-Target Says Opens Lists Assigns Redirects Does
    (part_means env) target_means (word_means env) assign_means redirection_means (command_means env)

unfoldable pub word_meaning : Env → Word → Lists
word_meaning env =
    fold-Word Says Opens Lists Assigns Redirects Does
    (part_means env) target_means (word_means env) assign_means redirection_means (command_means env)

unfoldable pub assign_meaning : Env → Assign → Assigns
assign_meaning env =
    fold-Assign Says Opens Lists Assigns Redirects Does
    (part_means env) target_means (word_means env) assign_means redirection_means (command_means env)

unfoldable pub redirection_meaning : Env → Redirection → Redirects
redirection_meaning env =
    fold-Redirection Says Opens Lists Assigns Redirects Does
    (part_means env) target_means (word_means env) assign_means redirection_means (command_means env)

unfoldable pub simple_meaning : Env → Simple → Does
simple_meaning env =
    fold-Simple Says Opens Lists Assigns Redirects Does
    (part_means env) target_means (word_means env) assign_means redirection_means (command_means env)
