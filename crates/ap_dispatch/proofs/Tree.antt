-- The script of a linked file as a command tree: what `script_of` says, and the assignment with the here-document before it.
use Rattle.std.specs.Prelude.{ℕ, if◌then◌else◌, Bool, true, List, [], ◌∷◌, ◌++◌, map, codes, Option, Some, None}
use Rattle.std.specs.Option.{is_some}
use Rattle.std.specs.Fmt.{decimal}
use Rattle.ap_octal.specs.Statement.{octals_of}
use Rattle.ap_check.specs.declared.options.Systems.{Systems}
use Rattle.ap_check.specs.Options.{has_system}
use Rattle.ap_elf.specs.declared.machine.Machine.{Machine}
use Rattle.ap_elf.specs.declared.machine.Machine.TheVariants.{X64, A64}
use Rattle.ap_script.specs.Script.{kernels_of, machine_names}
use Rattle.ap_shell.specs.Files.{Text}
use Rattle.ap_shparse.specs.declared.tree.Chain.{Chain, roll-Chain}
use Rattle.ap_shparse.specs.declared.tree.Joined.{Joined, roll-Joined}
use Rattle.ap_shparse.specs.declared.tree.Node.{Node}
use Rattle.ap_shparse.specs.declared.tree.Node.TheVariants as node
use Rattle.ap_shparse.specs.declared.tree.Simple.{Simple, roll-Simple}
use Rattle.ap_shparse.specs.declared.tree.Assign.{roll-Assign}
use Rattle.ap_shparse.specs.declared.tree.Word.{Word}
use Rattle.ap_shparse.specs.declared.tree.Word.TheVariants as word
use Rattle.ap_shparse.specs.declared.tree.Part.TheVariants as part
use Rattle.ap_shparse.specs.declared.tree.Redirection.{Redirection, roll-Redirection}
use Rattle.ap_shparse.specs.declared.tree.Target.{Target}
use Rattle.ap_shparse.specs.declared.tree.Target.TheVariants as target

-- ---- words

abbrev pub text : Text → Word
text t = word.Parts (part.Text t ∷ [])

abbrev pub variable : Text → Word
variable name = word.Parts (part.Variable name ∷ [])

abbrev pub zero_word : Word
zero_word = word.Parts (part.Zero ∷ [])

-- a name, and the variable `t` behind it
abbrev pub text_and_copy : Text → Word
text_and_copy t = word.Parts (part.Text t ∷ part.Variable (codes "t") ∷ [])

abbrev pub copy_word : Word
copy_word = variable (codes "t")

-- ---- commands and items

abbrev pub simple_of : List Word → List Redirection → Simple
simple_of words redirections = roll-Simple (record { assigns = []; words = words; redirections = redirections })

abbrev pub command : List Word → List Redirection → Node
command words redirections = node.Simple (simple_of words redirections)

abbrev pub redirected : ℕ → Target → Redirection
redirected number to = roll-Redirection (record { number = number; to = to })

abbrev pub chain_of : Node → List Joined → Chain
chain_of first rest = roll-Chain (record { first = first; rest = rest })

abbrev pub or_else : Node → Joined
or_else n = roll-Joined (record { or = true; node = n })

-- `|| exit STATUS`
abbrev pub or_exit : Text → List Joined
or_exit status = or_else (command (text (codes "exit") ∷ text status ∷ []) []) ∷ []

abbrev pub assigning : Text → Word → List Redirection → Chain
assigning name value redirections =
    chain_of (node.Simple (roll-Simple (record { assigns = roll-Assign (record { name = name; value = value }) ∷ []; words = []; redirections = redirections }))) []

-- `if` with one command's tests, and no `else`
abbrev pub if_item : Chain → List Chain → Chain
if_item test items = chain_of (node.If (test ∷ []) items []) []

-- `[ WORD = NAME ]`
abbrev pub equals : Word → Text → Node
equals value name = command (text (codes "[") ∷ value ∷ text (codes "=") ∷ text name ∷ text (codes "]") ∷ []) []

-- whether a variable is one of some names
abbrev pub is_any : Text → Text → List Text → Chain
is_any name first others = chain_of (equals (variable name) first) (map (λ other. or_else (equals (variable name) other)) others)

-- ---- the first items

-- the magic, and the here-document behind it
abbrev pub opening_item : Text → Text → Text → Chain
opening_item name value body = assigning name (text value) (redirected 0 (target.Here body) ∷ [])

abbrev pub ape_test : Chain
ape_test =
    chain_of (command (text (codes "command") ∷ text (codes "-v") ∷ text (codes "ape") ∷ []) (redirected 1 (target.Write (text (codes "/dev/null"))) ∷ redirected 2 (target.Same 1) ∷ [])) []

abbrev pub ape_start : Chain
ape_start = chain_of (command (text (codes "exec") ∷ text (codes "ape") ∷ zero_word ∷ word.Args ∷ []) []) []

abbrev pub ape_item : Chain
ape_item = if_item ape_test (ape_start ∷ [])

abbrev pub uname_item : Text → Text → Chain
uname_item name option = assigning name (word.Parts (part.Output (simple_of (text (codes "uname") ∷ text option ∷ []) []) ∷ [])) []

abbrev pub copy_item : Chain
copy_item = assigning (codes "t") (word.Parts (part.Fallback (codes "TMPDIR") (codes "/tmp") ∷ part.Text (codes "/ape.") ∷ part.Process ∷ [])) []

-- ---- the copy

abbrev pub cp_item : Chain
cp_item = chain_of (command (text (codes "cp") ∷ zero_word ∷ copy_word ∷ []) []) (or_exit (codes "121"))

abbrev pub chmod_item : Chain
chmod_item = chain_of (command (text (codes "chmod") ∷ text (codes "700") ∷ copy_word ∷ []) []) (or_exit (codes "122"))

abbrev pub dd_item : ℕ → ℕ → Chain
dd_item skip count = chain_of (command (
    text (codes "dd") ∷ text_and_copy (codes "if=") ∷ text_and_copy (codes "of=") ∷ text (codes "bs=8")
    ∷ text (codes "skip=" ++ decimal skip) ∷ text (codes "count=" ++ decimal count) ∷ text (codes "conv=notrunc") ∷ [])
    (redirected 2 (target.Write (text (codes "/dev/null"))) ∷ [])) (or_exit (codes "123"))

abbrev pub statement_item : Text → Chain
statement_item octals =
    chain_of (command (text (codes "printf") ∷ text octals ∷ []) (redirected 1 (target.Both copy_word) ∷ [])) (or_exit (codes "124"))

abbrev pub start_item : Chain
start_item = chain_of (command (text (codes "exec") ∷ copy_word ∷ word.Args ∷ []) []) []

-- the file is copied, the copy's first bytes are overwritten, and it is started
abbrev pub copy_items : Chain → List Chain
copy_items overwriting = cp_item ∷ chmod_item ∷ overwriting ∷ start_item ∷ []

abbrev pub exit_item : Text → Chain
exit_item status = chain_of (command (text (codes "exit") ∷ text status ∷ []) []) []

-- ---- the tests of the system and the machine

abbrev pub darwin_x64_items : Bool → ℕ → ℕ → List Chain
darwin_x64_items x64 skip count =
    if x64 then if_item (is_any (codes "m") (codes "x86_64") []) (copy_items (dd_item skip count)) ∷ [] else []

abbrev pub darwin_item : Bool → ℕ → ℕ → Chain
darwin_item x64 skip count =
    if_item (is_any (codes "s") (codes "Darwin") []) (darwin_x64_items x64 skip count ++ exit_item (codes "125") ∷ [])

abbrev pub machine_items : Machine → Option Text → List Chain
machine_items m None = []
machine_items m (Some header) =
    if_item (is_any (codes "m") (machine_names m).0 ((machine_names m).1 ∷ [])) (copy_items (statement_item (octals_of header))) ∷ []

-- one of some systems, or none
abbrev pub system_test : List Text → Chain
system_test [] = chain_of (equals (text (codes "0")) (codes "1")) []
system_test (name ∷ names) = is_any (codes "s") name names

abbrev pub systems_item : Systems → Option Text → Option Text → Chain
systems_item systems x64 a64 = if_item (system_test (kernels_of systems)) (machine_items X64 x64 ++ machine_items A64 a64)

-- ---- all items: the opening's, and those of the script

abbrev pub system_items : Systems → Option Text → Option Text → ℕ → ℕ → List Chain
system_items systems x64 a64 skip count =
    (if has_system systems 16 then darwin_item (is_some x64) skip count ∷ [] else [])
    ++ systems_item systems x64 a64 ∷ exit_item (codes "126") ∷ []

unfoldable pub script_items : Systems → Option Text → Option Text → ℕ → ℕ → List Chain
script_items systems x64 a64 skip count =
    ape_item ∷ uname_item (codes "m") (codes "-m") ∷ uname_item (codes "s") (codes "-s") ∷ copy_item
    ∷ system_items systems x64 a64 skip count
