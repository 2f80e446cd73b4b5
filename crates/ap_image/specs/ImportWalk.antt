-- The import walk: the import directory of a program in memory (PE/COFF, "The .idata Section"), as a list of its entries and
-- of the words of their import lookup tables, and how the list ends. Bytes are looked at in the order in which they are written
-- here, one after the other, and the first that isn't there ends the walk.
use Rattle.std.specs.Prelude.{ℕ, zero, suc, ◌+◌, ◌-◌, ◌%◌, ◌^◌, ◌==◌, ◌||◌, nat_le, nat_lt, if◌then◌else◌, List, [], ◌∷◌, Option, Some, None, Result, Ok, Err}
use Rattle.ap_fields.specs.Fields.{number_at}
use Rattle.ap_image.specs.Cells.{Memory}
use Rattle.ap_image.specs.declared.import_step.Step.{Step}
use Rattle.ap_image.specs.declared.import_step.Step.TheVariants.{Entry, Word, Done}
use Rattle.ap_image.specs.declared.import_step.What.{What}
use Rattle.ap_image.specs.declared.import_step.What.TheVariants.{Name, Ordinal}
use Rattle.ap_image.specs.declared.import_step.WalkFault.{WalkFault}
use Rattle.ap_image.specs.declared.import_step.WalkCause.{WalkCause}
use Rattle.ap_image.specs.declared.import_step.WalkCause.TheVariants.{NoCell, NoEnd, Long, Many}
use Rattle.ap_image.specs.declared.import_step.Ending.{Ending}
use Rattle.ap_image.specs.declared.import_step.Ending.TheVariants as end
use Rattle.ap_image.specs.declared.import_place.DirectoryEntry.{DirectoryEntry}
use Rattle.ap_image.specs.declared.import_place.Word as word
use Rattle.ap_image.specs.declared.import_place.Place.{Place}
use Rattle.ap_image.specs.declared.import_place.Found.{Found}
use Rattle.ap_image.specs.declared.import_place.TheConstants.{ENTRY_SIZE, WORD_SIZE, HINT_SIZE, MOST_NAME, MOST_ITEMS}

-- why the walk ends, and where
abbrev pub fault : WalkCause → ℕ → WalkFault
fault cause at = record { cause = cause; at = at }

-- what is read first, and then the rest by it; a fault of the first is one of the whole
abbrev pub after : {S T : Type 0} → Result S WalkFault → (S → Result T WalkFault) → Result T WalkFault
after (Ok x) f = f x
after (Err e) f = Err e

-- the byte at an address
abbrev pub byte_or : Option ℕ → ℕ → Result ℕ WalkFault
byte_or (Some byte) a = Ok byte
byte_or None a = Err (fault NoCell a)

abbrev pub byte_at : Memory → ℕ → Result ℕ WalkFault
byte_at memory a = byte_or (memory a) a

-- n bytes from an address on
unfoldable pub bytes_from : Memory → ℕ → ℕ → Result (List ℕ) WalkFault
bytes_from memory a zero = Ok []
bytes_from memory a (suc n) = after (byte_at memory a) (λ b. after (bytes_from memory (suc a) n) (λ bytes. Ok (b ∷ bytes)))

-- what is left of a name from an address on: at most n bytes before its first NUL, and else it is too long
unfoldable pub name_from : Memory → ℕ → ℕ → ℕ → Result (List ℕ) WalkFault
name_from memory start a zero = after (byte_at memory a) (λ b. if b == 0 then Ok [] else Err (fault Long start))
name_from memory start a (suc n) =
    after (byte_at memory a) (λ b. if b == 0 then Ok [] else after (name_from memory start (suc a) n) (λ bytes. Ok (b ∷ bytes)))

-- the name at an address
abbrev pub name_at : Memory → ℕ → Result (List ℕ) WalkFault
name_at memory a = name_from memory a a MOST_NAME

-- an entry of the import directory table, whose time stamp and forwarder chain aren't looked at
unfoldable pub entry_of : List ℕ → DirectoryEntry
entry_of b = record { lookup = number_at 4 0 b; name = number_at 4 12 b; iat = number_at 4 16 b }

-- its words, and the slot of the first: they are those of the import address table where there is no lookup table
abbrev pub words_of : ℕ → DirectoryEntry → word.Word
words_of base e = record { at = base + (if e.lookup == 0 then e.iat else e.lookup); slot = base + e.iat }

-- the item that an entry is, unless it closes the table
abbrev pub entry_item : ℕ → ℕ → DirectoryEntry → Option Found
entry_item base at e =
    if e.name == 0 || e.iat == 0
    then None
    else Some (record { at = at; step = Entry (base + e.name); next = record { entry = at + ENTRY_SIZE; word = Some (words_of base e) } })

-- the entry at an address, of which all bytes are read
abbrev pub entry_at : Memory → ℕ → Result DirectoryEntry WalkFault
entry_at memory at = after (bytes_from memory at ENTRY_SIZE) (λ b. Ok (entry_of b))

abbrev pub entry_read : Memory → ℕ → ℕ → Result (Option Found) WalkFault
entry_read memory base at = after (entry_at memory at) (λ e. Ok (entry_item base at e))

-- and before it is read, that it doesn't pass the end of the table, where there is one
abbrev pub entry_found : Memory → ℕ → Option ℕ → ℕ → Result (Option Found) WalkFault
entry_found memory base None at = entry_read memory base at
entry_found memory base (Some stop) at = if nat_lt stop (at + ENTRY_SIZE) then Err (fault NoEnd stop) else entry_read memory base at

-- what a word imports: by the ordinal of its low 16 bits where its bit 63 is set, else by the name behind a hint
abbrev pub what_of : ℕ → ℕ → What
what_of base w = if nat_le (2 ^ 63) w then Ordinal (w % 2 ^ 16) else Name (base + w % 2 ^ 31 + HINT_SIZE)

-- the item that a word is
abbrev pub word_item : ℕ → ℕ → word.Word → ℕ → Found
word_item base entry p w = record {
  at = p.at;
  step = Word (what_of base w) p.slot;
  next = record { entry = entry; word = Some (record { at = p.at + WORD_SIZE; slot = p.slot + WORD_SIZE }) };
}

-- the word at an address
abbrev pub word_at : Memory → ℕ → Result ℕ WalkFault
word_at memory at = after (bytes_from memory at WORD_SIZE) (λ b. Ok (number_at 8 0 b))

-- the next item, if any: the word, or behind a word of 0 the next entry
abbrev pub found : Memory → ℕ → Option ℕ → ℕ → Option word.Word → Result (Option Found) WalkFault
found memory base stop entry None = entry_found memory base stop entry
found memory base stop entry (Some p) =
    after (word_at memory p.at) (λ w. if w == 0 then entry_found memory base stop entry else Ok (Some (word_item base entry p w)))

-- the name of an item, which for a word by name stands behind its hint
abbrev pub name_of : Memory → Step → Result (List ℕ) WalkFault
name_of memory (Entry dll) = name_at memory dll
name_of memory (Word (Name at) slot) = after (bytes_from memory (at - HINT_SIZE) HINT_SIZE) (λ hint. name_at memory at)
name_of memory (Word (Ordinal number) slot) = Ok []
name_of memory Done = Ok []

-- the items, and how they end
pub record Items : Type 0 where
  pub items : List Step
  pub ending : Ending

abbrev pub ended : Ending → Items
ended ending = record { items = []; ending = ending }

abbrev pub with_item : Step → Items → Items
with_item step rest = record { items = step ∷ rest.items; ending = rest.ending }

-- how the items end where no more may come: an entry or a word is read before it is one too many, and its name isn't
abbrev pub end_at : Result (Option Found) WalkFault → Items
end_at (Ok None) = ended end.Done
end_at (Ok (Some item)) = ended (end.Fault (fault Many item.at))
end_at (Err f) = ended (end.Fault f)

-- an item with those behind it, once its name is read
abbrev pub named_item : Step → Result (List ℕ) WalkFault → Items → Items
named_item step (Ok name) rest = with_item step rest
named_item step (Err f) rest = ended (end.Fault f)

-- the next item with those behind it, if there is one
abbrev pub items_by : Memory → Result (Option Found) WalkFault → (Place → Items) → Items
items_by memory (Ok None) rest = ended end.Done
items_by memory (Ok (Some item)) rest = named_item item.step (name_of memory item.step) (rest item.next)
items_by memory (Err f) rest = ended (end.Fault f)

-- the items from a place on, of which at most n may come
unfoldable pub items_from : Memory → ℕ → Option ℕ → Place → ℕ → Items
items_from memory base stop place zero = end_at (found memory base stop place.entry place.word)
items_from memory base stop place (suc n) = items_by memory (found memory base stop place.entry place.word) (λ next. items_from memory base stop next n)

-- the items of the import directory table at an address, with the end of the table, where there is one
abbrev pub items_of : Memory → ℕ → ℕ → Option ℕ → Items
items_of memory base table stop = items_from memory base stop (record { entry = table; word = None }) MOST_ITEMS
