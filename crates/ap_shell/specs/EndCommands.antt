-- `exit` and `exec` (POSIX.1, 2.14).
use Rattle.std.specs.Prelude.{ℕ, ◌/◌, ◌%◌, ◌==◌, ◌&&◌, nat_le, Bool, if◌then◌else◌, List, [], ◌∷◌, codes, Option, Some, None}
use Rattle.std.specs.List.{list_any}
use Rattle.std.specs.Str.{bytes_eq}
use Rattle.ap_octal.specs.DdPlace.{with_digits}
use Rattle.ap_shell.specs.Files.{Text, FileMap}
use Rattle.ap_shell.specs.Places.{file_at}
use Rattle.ap_shell.specs.Ends.{plain, stopping}
use Rattle.ap_shell.specs.declared.done.Done.{Done}
use Rattle.ap_shell.specs.declared.map.HostFile.{HostFile}
use Rattle.ap_shell.specs.declared.types.Outcome.{Outcome}
use Rattle.ap_shell.specs.declared.types.Outcome.TheVariants.{Execs, Exits}

-- ---- `exit` and `exit N`, N from 0 to 255 in decimal

abbrev pub at_most_255 : Option ℕ → Option ℕ
at_most_255 None = None
at_most_255 (Some n) = if nat_le n 255 then Some n else None

abbrev pub status_of : Text → Option ℕ
status_of [] = None
status_of (b ∷ t) = at_most_255 (with_digits 0 (b ∷ t))

abbrev pub exits : Option ℕ → Outcome
exits None = Exits 2
exits (Some n) = Exits n

unfoldable pub exit : List Text → ℕ → Done
exit [] last = stopping (Exits last)
exit (n ∷ []) last = stopping (exits (status_of n))
exit _ last = stopping (Exits 2)

-- ---- `exec` and `exec N words`

abbrev pub has_slash : Text → Bool
has_slash t = list_any (λ b. b == 47) t

-- whether a mode lets the file's owner run it: bit 0100
abbrev pub may_run : ℕ → Bool
may_run mode = mode / 64 % 2 == 1

abbrev pub started_file : Option HostFile → Text → List Text → Outcome
started_file None name words = Exits 127
started_file (Some f) name words = if may_run f.mode then Execs name words else Exits 126

abbrev pub started : Bool → Text → List Text → FileMap → Outcome
started ape name words files = if has_slash name then started_file (file_at name files) name words
    else (if ape && bytes_eq name (codes "ape") then Execs name words else Exits 127)

unfoldable pub exec : Bool → List Text → FileMap → Done
exec ape [] files = plain 0
exec ape (name ∷ words) files = stopping (started ape name words files)
