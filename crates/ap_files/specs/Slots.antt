-- What slots keep: for each name the room of its file, and the file, where it is there.
use Rattle.std.specs.Prelude.{ℕ, List, [], ◌∷◌, slice_get, unwrap_or}
use Rattle.std.specs.Option.{option_map, option_and_then}
use Rattle.std.specs.declared.option.Option.{Option}
use Rattle.std.specs.declared.option.Option.TheVariants.{Some, None}
use Rattle.std.specs.Cmp.Lexicographic.{slice_cmp}
use Rattle.std.specs.Ordering.{nat_cmp}
use Rattle.std.specs.FinMap as map
use Rattle.ap_files.specs.Files.{FileMap}

pub record FileSlot : Type 0 where
  pub name : List ℕ
  -- the most bytes that the file may have
  pub room : ℕ
  -- the bytes of the file, where it is there
  pub file : Option (List ℕ)

-- the bytes of a slot's file, and none where it isn't there
abbrev pub slot_bytes : FileSlot → List ℕ
slot_bytes s = unwrap_or s.file []

-- a slot whose file has these bytes
abbrev pub slot_with : FileSlot → List ℕ → FileSlot
slot_with s bytes = record s { file = Some bytes }

-- from the bytes of a name to what stands under it
abbrev pub NameMap : Type 0 → Type 0
NameMap V = map.FinMap (slice_cmp nat_cmp) V

-- a name has this value from now on, or none
abbrev pub put : {V : Type 0} → NameMap V → List ℕ → Option V → NameMap V
put m name None = map.remove m name
put m name (Some v) = map.insert m name v

-- what slots have under each name; of two slots of one name the first counts
unfoldable pub map_in : {V : Type 0} → (FileSlot → Option V) → List FileSlot → NameMap V
map_in f [] = map.empty
map_in f (s ∷ slots) = put (map_in f slots) s.name (f s)

abbrev pub files_in : List FileSlot → FileMap
files_in slots = map_in (λ s. s.file) slots

abbrev pub rooms_in : List FileSlot → NameMap ℕ
rooms_in slots = map_in (λ s. Some s.room) slots

-- the name in a slot, where one is given
abbrev pub name_in : List FileSlot → Option ℕ → Option (List ℕ)
name_in slots place = option_and_then (λ i. option_map (λ s. s.name) (slice_get slots i)) place
