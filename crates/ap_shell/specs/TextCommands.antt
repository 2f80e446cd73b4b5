-- The commands that print or compare texts: `uname`, `printf`, `command -v` and `[` (POSIX.1).
use Rattle.std.specs.Prelude.{ℕ, ◌&&◌, not, Bool, if◌then◌else◌, List, [], ◌∷◌, ◌++◌, codes, Option, Some, None}
use Rattle.std.specs.Str.{bytes_eq}
use Rattle.ap_octal.specs.OctalReading.{octal_bytes_of}
use Rattle.ap_shell.specs.Files.{Text}
use Rattle.ap_shell.specs.Names.{is_command}
use Rattle.ap_shell.specs.Ends.{holding, plain, printing}
use Rattle.ap_shell.specs.declared.done.Done.{Done}
use Rattle.ap_shell.specs.declared.types.Env.{Env}

abbrev pub line : Text → Done
line text = printing (text ++ 10 ∷ [])

-- ---- `uname -m` and `uname -s`

unfoldable pub uname : Env → List Text → Done
uname env (word ∷ []) = if bytes_eq word (codes "-m") then line env.machine
    else (if bytes_eq word (codes "-s") then line env.system else plain 1)
uname env _ = plain 1

-- ---- `printf T`: T is octal text

abbrev pub printed_if : Option Text → Done
printed_if None = plain 1
printed_if (Some bytes) = printing bytes

unfoldable pub printf : List Text → Done
printf (text ∷ []) = printed_if (octal_bytes_of text)
printf _ = plain 1

-- ---- `command -v N`

unfoldable pub command_v : Bool → Bool → List Text → Done
command_v inside ape (option ∷ name ∷ []) =
    if bytes_eq option (codes "-v") && is_command inside ape name then line name else plain 1
command_v inside ape _ = plain 1

-- ---- `[ a = b ]`, `[ a != b ]`, `[ -n a ]` and `[ -z a ]`, by the places of their words

abbrev pub compared : Text → Text → Text → ℕ
compared a op b = if bytes_eq op (codes "=") then holding (bytes_eq a b)
    else (if bytes_eq op (codes "!=") then holding (not (bytes_eq a b)) else 2)

abbrev pub measured : Text → Text → ℕ
measured op a = if bytes_eq op (codes "-n") then holding (not (bytes_eq a []))
    else (if bytes_eq op (codes "-z") then holding (bytes_eq a []) else 2)

abbrev pub closed : Text → ℕ → ℕ
closed word status = if bytes_eq word (codes "]") then status else 2

unfoldable pub test_status : List Text → ℕ
test_status (a ∷ op ∷ b ∷ end ∷ []) = closed end (compared a op b)
test_status (op ∷ a ∷ end ∷ []) = closed end (measured op a)
test_status _ = 2
