-- `cp` and `chmod` (POSIX.1).
use Rattle.std.specs.Prelude.{ℕ, ◌==◌, ◌||◌, ◌&&◌, Bool, false, if◌then◌else◌, List, [], ◌∷◌, Option, Some, None}
use Rattle.std.specs.Str.{bytes_eq}
use Rattle.ap_octal.specs.OctalText.{octal3}
use Rattle.ap_octal.specs.OctalReading.{is_octal_digit}
use Rattle.ap_shell.specs.Files.{Text}
use Rattle.ap_shell.specs.Places.{file_at, host_file, mode_or, with_file}
use Rattle.ap_shell.specs.Ends.{Leaves, plain}
use Rattle.ap_shell.specs.declared.map.HostFile.{HostFile}

-- ---- `cp A B`

abbrev pub begins_with : ℕ → Text → Bool
begins_with b [] = false
begins_with b (c ∷ t) = b == c

-- a name that begins with `-`, or the same name twice
abbrev pub refused : Text → Text → Bool
refused a b = begins_with 45 a || (begins_with 45 b || bytes_eq a b)

-- a new copy has the mode of what it is a copy of
abbrev pub copied : Option HostFile → Text → Leaves
copied None b files = (plain 1, files)
copied (Some f) b files =
    (plain 0, with_file b (record { bytes = f.bytes; mode = mode_or (file_at b files) f.mode }) files)

unfoldable pub cp : List Text → Leaves
cp (a ∷ b ∷ []) files = if refused a b then (plain 1, files) else copied (file_at a files) b files
cp _ files = (plain 1, files)

-- ---- `chmod DDD F`

abbrev pub mode_of : Text → Option ℕ
mode_of (a ∷ b ∷ c ∷ []) =
    if is_octal_digit a && (is_octal_digit b && is_octal_digit c) then Some (octal3 a b c) else None
mode_of _ = None

abbrev pub set_mode : Option ℕ → Option HostFile → Text → Leaves
set_mode (Some m) (Some f) name files = (plain 0, with_file name (record { bytes = f.bytes; mode = m }) files)
set_mode _ _ name files = (plain 1, files)

unfoldable pub chmod : List Text → Leaves
chmod (m ∷ name ∷ []) files = set_mode (mode_of m) (host_file name files) name files
chmod _ files = (plain 1, files)
