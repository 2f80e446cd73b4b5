-- `dd` with the operands `if=`, `of=`, `bs=`, `skip=`, `count=` and `conv=notrunc`, each once, in any order (POSIX.1).
use Rattle.std.specs.Prelude.{ℕ, ◌==◌, ◌&&◌, nat_le, Bool, false, if◌then◌else◌, List, [], ◌∷◌, length, take, drop, codes, Option, Some, None}
use Rattle.std.specs.Option.{option_and_then}
use Rattle.std.specs.Str.{bytes_eq}
use Rattle.ap_octal.specs.DdEffect.{dd_effect}
use Rattle.ap_octal.specs.DdPlace.{short_number}
use Rattle.ap_shell.specs.Files.{Text}
use Rattle.ap_shell.specs.Places.{bytes_or_none, file_at, mode_or, with_file}
use Rattle.ap_shell.specs.Ends.{Leaves, plain}
use Rattle.ap_shell.specs.declared.operands.Blocks.{Blocks}
use Rattle.ap_shell.specs.declared.map.HostFile.{HostFile}

abbrev pub is_front : Text → Text → Bool
is_front name word = bytes_eq (take (length name) word) name

-- what stands behind a name, in the words that begin with it
abbrev pub values : Text → List Text → List Text
values name [] = []
values name (word ∷ words) =
    if is_front name word then drop (length name) word ∷ values name words else values name words

abbrev pub only : List Text → Option Text
only (value ∷ []) = Some value
only _ = None

-- the value of an operand that stands once
abbrev pub only_value : Text → List Text → Option Text
only_value name words = only (values name words)

abbrev pub only_number : Text → List Text → Option ℕ
only_number name words = option_and_then short_number (only_value name words)

abbrev pub blocks_with : Option ℕ → Option ℕ → Option ℕ → Option Blocks
blocks_with (Some size) (Some skip) (Some count) =
    if nat_le 1 size then Some (record { size = size; skip = skip; count = count }) else None
blocks_with _ _ _ = None

abbrev pub blocks_of : List Text → Option Blocks
blocks_of words =
    blocks_with (only_number (codes "bs=") words) (only_number (codes "skip=") words) (only_number (codes "count=") words)

abbrev pub is_notrunc : Option Text → Bool
is_notrunc None = false
is_notrunc (Some value) = bytes_eq value (codes "notrunc")

-- a missing output is made, of mode 0600
abbrev pub dd_on : Option HostFile → Blocks → Text → Text → Leaves
dd_on None blocks input output files = (plain 1, files)
dd_on (Some f) blocks input output files = (
  plain 0,
  with_file output (record {
    bytes = dd_effect (bytes_eq input output) blocks.size blocks.skip blocks.count f.bytes (bytes_or_none (file_at output files));
    mode = mode_or (file_at output files) 384;
  }) files,
)

abbrev pub dd_with : Option Blocks → Option Text → Option Text → Leaves
dd_with (Some blocks) (Some input) (Some output) files = dd_on (file_at input files) blocks input output files
dd_with _ _ _ files = (plain 1, files)

unfoldable pub dd : List Text → Leaves
dd words files =
    if length words == 6 && is_notrunc (only_value (codes "conv=") words)
    then dd_with (blocks_of words) (only_value (codes "if=") words) (only_value (codes "of=") words) files
    else (plain 1, files)
