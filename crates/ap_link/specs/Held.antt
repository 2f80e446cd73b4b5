-- What files mean where one or two inputs stand in memory, and the linked file grows there.
use Rattle.std.specs.Prelude.{ℕ, ◌-◌, ◌^◌, Bool, if◌then◌else◌, List, [], ◌∷◌, Option, Some, None}
use Rattle.std.specs.Str.{bytes_eq}
use Rattle.std.specs.FinMap as map
use Rattle.ap_files.specs.Files.{FileMap, FileState}
use Rattle.ap_files.specs.Slots.{put}

-- the names of the inputs and of the linked file: a, b and o
abbrev pub one_name : List ℕ
one_name = 97 ∷ []

abbrev pub two_name : List ℕ
two_name = 98 ∷ []

abbrev pub out_name : List ℕ
out_name = 111 ∷ []

-- the name of the second input, where there is one
abbrev pub two_of : Option (List ℕ) → Option (List ℕ)
two_of None = None
two_of (Some b) = Some two_name

unfoldable pub held_files : List ℕ → Option (List ℕ) → Option (List ℕ) → FileMap
held_files first second out = put (put (put map.empty one_name (Some first)) two_name second) out_name out

-- the file of a name
abbrev pub held_file : List ℕ → Option (List ℕ) → Option (List ℕ) → List ℕ → Option (List ℕ)
held_file first second out name =
    if bytes_eq name out_name then out
    else (if bytes_eq name two_name then second else (if bytes_eq name one_name then Some first else None))

-- the linked file, once it was started
abbrev pub held_out : Bool → List ℕ → Option (List ℕ)
held_out is_made out = if is_made then Some out else None

-- No read ever failed. The other counts stand at their last value, at which they stay.
abbrev pub held_state : List ℕ → Option (List ℕ) → List ℕ → Bool → Bool → FileState
held_state first second out is_made is_open =
    record {
      kept = Some (held_files first second (held_out is_made out));
      unfinished = if is_open then Some out_name else None;
      read_faults = 0;
      write_faults = 2 ^ 64 - 1;
      absences = 2 ^ 64 - 1;
    }
