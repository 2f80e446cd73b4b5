-- What a store in memory holds: its files, the room of each name, and the file that is unfinished.
use Rattle.std.specs.Prelude.{ℕ, ◌+◌, Bool, max, nat_le, List, [], ◌++◌, length, unwrap_or, refl}
use Rattle.std.specs.Coded.{Coded, code_by, coded×, coded_ℕ, coded_list, coded_option}
use Rattle.std.specs.declared.option.Option.{Option}
use Rattle.std.specs.declared.option.Option.TheVariants.{Some, None}
use Rattle.std.specs.FinMap as map
use Rattle.ap_files.specs.Files.{FileMap, bytes_in}
use Rattle.ap_files.specs.Slots.{FileSlot, NameMap, files_in, rooms_in, name_in}

pub record Stored : Type 0 where
  pub files : FileMap
  -- the most bytes that the file of a name may have; a name without a room can have no file
  pub rooms : NameMap ℕ
  -- the file that was started and is not finished
  pub unfinished : Option (List ℕ)

-- what is stored, as the tuple of its parts, by which a proof tells two of them apart
abbrev pub stored_code : Coded Stored
stored_code =
    code_by (FileMap × (NameMap ℕ × Option (List ℕ)))
    (coded× (map.code (coded_list coded_ℕ) (coded_list coded_ℕ))
    (coded× (map.code (coded_list coded_ℕ) coded_ℕ) (coded_option (coded_list coded_ℕ))))
    (λ s. (s.files, (s.rooms, s.unfinished)))
    (λ p. record { files = p.0; rooms = p.1.0; unfinished = p.1.1 })
    (λ _. refl)

abbrev pub nothing_stored : Stored
nothing_stored = record { files = map.empty; rooms = map.empty; unfinished = None }

-- the room of a name is the greatest that was asked for
abbrev pub with_room : NameMap ℕ → List ℕ → ℕ → NameMap ℕ
with_room rooms name room = map.insert rooms name (max (unwrap_or (map.get rooms name) 0) room)

-- room is made for a file, which is not made
abbrev pub reserved_in : Stored → List ℕ → ℕ → Stored
reserved_in stored name room = record stored { rooms = with_room stored.rooms name room }

-- a file is made with these bytes
abbrev pub put_in : Stored → List ℕ → List ℕ → Stored
put_in stored name bytes =
    record stored { files = map.insert stored.files name bytes; rooms = with_room stored.rooms name (length bytes) }

-- a file is made or emptied, and is the unfinished one
abbrev pub started_in : Stored → List ℕ → Stored
started_in stored name = record stored { files = map.insert stored.files name []; unfinished = Some name }

-- bytes are appended to a file, and it is the unfinished one
abbrev pub added_in : Stored → List ℕ → List ℕ → Stored
added_in stored name bytes =
    record stored { files = map.insert stored.files name (bytes_in stored.files name ++ bytes); unfinished = Some name }

-- the room of a file takes so many bytes more
abbrev pub has_room_for : Stored → List ℕ → ℕ → Bool
has_room_for stored name size =
    nat_le (length (bytes_in stored.files name) + size) (unwrap_or (map.get stored.rooms name) 0)

-- what stands in slots, with the place of the unfinished file among them
abbrev pub stored_in : List FileSlot → Option ℕ → Stored
stored_in slots place = record { files = files_in slots; rooms = rooms_in slots; unfinished = name_in slots place }
