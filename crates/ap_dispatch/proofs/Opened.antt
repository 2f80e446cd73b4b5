-- The items of the script, each with the meanings of its parts in their places.
use Rattle.std.proofs.Common.{◌≡◌, refl, ℕ, List, [], ◌∷◌, ◌++◌, true, false, codes, map}
use Rattle.std.specs.Fmt.{decimal}
use Rattle.ap_shell.specs.Files.{Text}
use Rattle.ap_shell.specs.Steps.{Action, Gives, unless_ended}
use Rattle.ap_shell.specs.Words.{unless_empty, value_of, within}
use Rattle.ap_shell.specs.Redirecting.{Redirects}
use Rattle.ap_shell.specs.Obeying.{Assigns, simply}
use Rattle.ap_shell.specs.Meaning.{Joins, chain_meaning, chosen, joined_meaning, joined_on, node_meaning}
use Rattle.ap_shell.specs.Simples.{target_means}
use Rattle.ap_shell.specs.declared.types.Env.{Env}
use Rattle.ap_shparse.specs.declared.tree.Chain.{Chain}
use Rattle.ap_shparse.specs.declared.tree.Part.TheOpen.{Target-F}
use Rattle.ap_dispatch.proofs.Tree.{ape_start, ape_test, chmod_item, copy_item, cp_item, dd_item, equals, exit_item, if_item, is_any, opening_item, or_else, start_item, statement_item, text, uname_item, variable}
use Rattle.ap_dispatch.proofs.Equations.{chain_is, layers}

-- ---- words and redirections

abbrev pub said : Text → Gives (List Text)
said t s = (t ∷ [], s)

abbrev pub of_variable : Text → Gives (List Text)
of_variable name s = ((value_of name s.vars ++ []) ∷ [], s)

abbrev pub with_variable : Text → Gives (List Text)
with_variable t s = ((t ++ (value_of (codes "t") s.vars ++ [])) ∷ [], s)

abbrev pub all_args : Env → Gives (List Text)
all_args env s = (env.args, s)

abbrev pub to_null : ℕ → Redirects
to_null n = target_means (Target-F.Write (said (codes "/dev/null"))) n

-- ---- a command, and those behind `||`

abbrev pub exit_with : Env → Text → Joins
exit_with env n = record { or = true; does = simply env (said (codes "exit") ∷ said n ∷ []) [] [] false }

abbrev pub opened : Env → List (Gives (List Text)) → List Redirects → List Joins → Action
opened env words redirects rest s = unless_ended (simply env words redirects [] false s) (joined_on rest)

abbrev pub set_by : Env → Assigns → List Redirects → Action
set_by env a redirects s = unless_ended (simply env [] redirects (a ∷ []) false s) (joined_on [])

-- ---- the items

pub opening_opened : (env : Env) (name value body : Text) → chain_meaning env (opening_item name value body)
    ≡ set_by env (record { name = name; value = said (value ++ []) }) (target_means (Target-F.Here body) 0 ∷ [])
opening_opened env name value body = simp layers refl

abbrev pub ape_test_words : List (Gives (List Text))
ape_test_words = said (codes "command") ∷ said (codes "-v") ∷ said (codes "ape") ∷ []

pub ape_test_opened : (env : Env) → chain_meaning env ape_test ≡ opened env ape_test_words (to_null 1 ∷ target_means (Target-F.Same 1) 2 ∷ []) []
ape_test_opened env = simp layers refl

abbrev pub ape_start_words : Env → List (Gives (List Text))
ape_start_words env = said (codes "exec") ∷ said (codes "ape") ∷ said (env.zero ++ []) ∷ all_args env ∷ []

pub ape_start_opened : (env : Env) → chain_meaning env ape_start ≡ opened env (ape_start_words env) [] []
ape_start_opened env = simp layers refl

abbrev pub uname_within : Env → Text → Gives (List Text)
uname_within env option s =
    let r = within (simply env (said (codes "uname") ∷ said (option ++ []) ∷ []) [] []) s in
    ((r.0 ++ []) ∷ [], r.1)

pub uname_opened : (env : Env) (name option : Text) → chain_meaning env (uname_item name option) ≡ set_by env (record { name = name; value = uname_within env option }) []
uname_opened env name option = simp layers refl

abbrev pub copy_text : Text → ℕ → Text
copy_text directory pid = unless_empty directory (codes "/tmp") ++ (codes "/ape." ++ (decimal pid ++ []))

abbrev pub copy_value : Env → Gives (List Text)
copy_value env s = (copy_text (value_of (codes "TMPDIR") s.vars) env.pid ∷ [], s)

pub copy_opened : (env : Env) → chain_meaning env copy_item ≡ set_by env (record { name = codes "t"; value = copy_value env }) []
copy_opened env = simp layers refl

pub if_opened : (env : Env) (test : Chain) (items : List Chain) → chain_meaning env (if_item test items)
    ≡ (λ s. unless_ended (chosen (chain_meaning env test ∷ []) (map (chain_meaning env) items) [] s) (joined_on []))
if_opened env test items = simp layers refl

-- ---- tests

abbrev pub equals_words : Gives (List Text) → Text → List (Gives (List Text))
equals_words value name = said (codes "[") ∷ value ∷ said (codes "=") ∷ said (name ++ []) ∷ said (codes "]") ∷ []

pub equals_opened : (env : Env) (var name : Text) → node_meaning env (equals (variable var) name) ≡ simply env (equals_words (of_variable var) name) [] [] false
equals_opened env var name = simp layers refl

pub equals_text_opened : (env : Env) (value name : Text) → node_meaning env (equals (text value) name) ≡ simply env (equals_words (said (value ++ [])) name) [] [] false
equals_text_opened env value name = simp layers refl

pub is_any_opened : (env : Env) (var first : Text) (others : List Text) → chain_meaning env (is_any var first others)
    ≡ (λ s. unless_ended (node_meaning env (equals (variable var) first) s) (joined_on (map (joined_meaning env) (map (λ other. or_else (equals (variable var) other)) others))))
is_any_opened env var first others = chain_is env (equals (variable var) first) (map (λ other. or_else (equals (variable var) other)) others)

-- ---- the copy

abbrev pub cp_words : Env → List (Gives (List Text))
cp_words env = said (codes "cp") ∷ said (env.zero ++ []) ∷ of_variable (codes "t") ∷ []

pub cp_opened : (env : Env) → chain_meaning env cp_item ≡ opened env (cp_words env) [] (exit_with env (codes "121") ∷ [])
cp_opened env = simp layers refl

abbrev pub chmod_words : List (Gives (List Text))
chmod_words = said (codes "chmod") ∷ said (codes "700") ∷ of_variable (codes "t") ∷ []

pub chmod_opened : (env : Env) → chain_meaning env chmod_item ≡ opened env chmod_words [] (exit_with env (codes "122") ∷ [])
chmod_opened env = simp layers refl

abbrev pub dd_words : ℕ → ℕ → List (Gives (List Text))
dd_words skip count =
    said (codes "dd") ∷ with_variable (codes "if=") ∷ with_variable (codes "of=") ∷ said (codes "bs=8")
    ∷ said ((codes "skip=" ++ decimal skip) ++ []) ∷ said ((codes "count=" ++ decimal count) ++ []) ∷ said (codes "conv=notrunc") ∷ []

pub dd_opened : (env : Env) (skip count : ℕ) → chain_meaning env (dd_item skip count) ≡ opened env (dd_words skip count) (to_null 2 ∷ []) (exit_with env (codes "123") ∷ [])
dd_opened env skip count = simp layers refl

abbrev pub printf_words : Text → List (Gives (List Text))
printf_words octals = said (codes "printf") ∷ said (octals ++ []) ∷ []

abbrev pub onto_copy : Redirects
onto_copy = target_means (Target-F.Both (of_variable (codes "t"))) 1

pub statement_opened : (env : Env) (octals : Text) → chain_meaning env (statement_item octals) ≡ opened env (printf_words octals) (onto_copy ∷ []) (exit_with env (codes "124") ∷ [])
statement_opened env octals = simp layers refl

abbrev pub start_words : Env → List (Gives (List Text))
start_words env = said (codes "exec") ∷ of_variable (codes "t") ∷ all_args env ∷ []

pub start_opened : (env : Env) → chain_meaning env start_item ≡ opened env (start_words env) [] []
start_opened env = simp layers refl

abbrev pub exit_words : Text → List (Gives (List Text))
exit_words status = said (codes "exit") ∷ said (status ++ []) ∷ []

pub exit_opened : (env : Env) (status : Text) → chain_meaning env (exit_item status) ≡ opened env (exit_words status) [] []
exit_opened env status = simp layers refl
