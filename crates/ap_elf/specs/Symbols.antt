-- The symbols of an ELF file: which section has them and which has their names, what may be wrong with these, and the
-- value of a name (System V gABI, "Sections" and "Symbol Table").
use Rattle.std.specs.Prelude.{ℕ, zero, suc, ◌+◌, ◌*◌, ◌/◌, ◌%◌, ◌^◌, ◌≤◌, ◌==◌, ◌&&◌, ◌≡◌, not, nat_le, nat_lt, if◌then◌else◌, Bool, true, false, List, [], ◌∷◌, ◌++◌, length, take, drop, find, Option, Some, None}
use Rattle.std.specs.Option.{option_map}
use Rattle.std.specs.Str.{bytes_eq}
use Rattle.ap_fields.specs.Fields.{number_at}
use Rattle.ap_fields.specs.FirstFault.{Rules, first_fault}
use Rattle.ap_files.specs.Files.{FileMap}
use Rattle.ap_files.specs.Reads.{HasFile}
use Rattle.ap_elf.specs.declared.constants.TheConstants.{SHDR_SIZE, SYM_SIZE, SHT_SYMTAB, SHT_STRTAB, SHN_UNDEF}
use Rattle.ap_elf.specs.declared.types.Header.{Header}
use Rattle.ap_elf.specs.declared.types.Section.{Section}
use Rattle.ap_elf.specs.declared.types.Symbol.{Symbol}
use Rattle.ap_elf.specs.declared.types.Tables.{Tables}
use Rattle.ap_elf.specs.declared.types.Located.{Located}
use Rattle.ap_elf.specs.declared.types.Located.TheVariants.{Part, Missing, At}

-- the section header at a place
unfoldable pub section_at : List ℕ → ℕ → Section
section_at b at = record {
  kind = number_at 4 (at + 4) b;
  offset = number_at 8 (at + 24) b;
  size = number_at 8 (at + 32) b;
  link = number_at 4 (at + 40) b;
  entsize = number_at 8 (at + 56) b;
}

-- so many section headers, one behind the other from a place on
abbrev pub sections_from : List ℕ → ℕ → ℕ → List Section
sections_from b at zero = []
sections_from b at (suc n) = section_at b at ∷ sections_from b (at + SHDR_SIZE) n

abbrev pub is_symbol_table : Section → Bool
is_symbol_table s = s.kind == SHT_SYMTAB

-- the symbol table: the first section that is one
abbrev pub symbol_table : List ℕ → Header → Option Section
symbol_table b h = find is_symbol_table (sections_from b h.e_shoff h.e_shnum)

-- the section of a number, counted from 0
abbrev pub section_of : List ℕ → Header → ℕ → Option Section
section_of b h i = if nat_lt i h.e_shnum then Some (section_at b (h.e_shoff + SHDR_SIZE * i)) else None

-- of the section headers
abbrev pub place_rules : ℕ → Header → Rules ℕ
place_rules size h =
    (h.e_shentsize == SHDR_SIZE, 1)
    ∷ (nat_le (h.e_shoff + SHDR_SIZE * h.e_shnum) size, 2)
    ∷ []

-- of the symbol table
abbrev pub table_rules : ℕ → Section → Rules ℕ
table_rules size t =
    (t.entsize == SYM_SIZE, 3)
    ∷ (nat_le (t.offset + t.size) size, 4)
    ∷ (t.size % SYM_SIZE == 0, 5)
    ∷ []

-- of the string table
abbrev pub string_rules : ℕ → Option Section → Rules ℕ
string_rules size None = (false, 6) ∷ []
string_rules size (Some s) =
    (s.kind == SHT_STRTAB, 6)
    ∷ (nat_le (s.offset + s.size) size, 7)
    ∷ []

-- of both tables, where there is a symbol table
abbrev pub tables_rules : ℕ → List ℕ → Header → Option Section → Rules ℕ
tables_rules size b h None = []
tables_rules size b h (Some t) = table_rules size t ++ string_rules size (section_of b h t.link)

-- of a file with sections, in a file of so many bytes
unfoldable pub symbols_rules : ℕ → List ℕ → Header → Rules ℕ
symbols_rules size b h = place_rules size h ++ tables_rules size b h (symbol_table b h)

-- where two sections say that the tables are
abbrev pub tables_at : Section → Option Section → Located
tables_at t None = Missing
tables_at t (Some s) = At (record { at = t.offset; count = t.size / SYM_SIZE; strings = s.offset; length = s.size })

abbrev pub tables_of : List ℕ → Header → Option Section → Located
tables_of b h None = Missing
tables_of b h (Some t) = tables_at t (section_of b h t.link)

-- what was found, unless a part fails
abbrev pub found_unless : Option ℕ → Located → Located
found_unless None found = found
found_unless (Some p) found = Part p

abbrev pub has_sections : Header → Bool
has_sections h = not (h.e_shoff == 0) && not (h.e_shnum == 0)

-- what is found of the symbols of a file of so many bytes
unfoldable pub located : ℕ → List ℕ → Header → Located
located size b h =
    if has_sections h then found_unless (first_fault (symbols_rules size b h)) (tables_of b h (symbol_table b h)) else Missing

-- the part that fails, or 0
abbrev pub part_of : Located → ℕ
part_of (Part p) = p
part_of Missing = 0
part_of (At t) = 0

abbrev pub symbols_part_of : List ℕ → Header → ℕ
symbols_part_of b h = part_of (located (length b) b h)

-- the symbol at a place
unfoldable pub symbol_at : List ℕ → ℕ → Symbol
symbol_at b at = record {
  name = number_at 4 at b;
  section = number_at 2 (at + 6) b;
  value = number_at 8 (at + 8) b;
}

-- so many symbols, one behind the other from a place on
abbrev pub symbols_from : List ℕ → ℕ → ℕ → List Symbol
symbols_from b at zero = []
symbols_from b at (suc n) = symbol_at b at ∷ symbols_from b (at + SYM_SIZE) n

-- the string table
abbrev pub strings_of : List ℕ → Tables → List ℕ
strings_of b t = take t.length (drop t.strings b)

-- whether a text stands in the strings from a place on
abbrev pub stands_at : List ℕ → List ℕ → ℕ → Bool
stands_at strings text at =
    nat_le (at + length text) (length strings) && bytes_eq (take (length text) (drop at strings)) text

-- a name as it stands among the strings, with a NUL behind it
abbrev pub with_nul : List ℕ → List ℕ
with_nul name = name ++ 0 ∷ []

-- whether a symbol is defined and has a name
abbrev pub is_named : List ℕ → List ℕ → Symbol → Bool
is_named strings name s = not (s.section == SHN_UNDEF) && stands_at strings (with_nul name) s.name

-- the value of the first such symbol
abbrev pub value_among : List ℕ → List ℕ → List Symbol → Option ℕ
value_among strings name symbols = option_map (λ s. s.value) (find (is_named strings name) symbols)

unfoldable pub value_of : List ℕ → Tables → List ℕ → Option ℕ
value_of b t name = value_among (strings_of b t) name (symbols_from b t.at t.count)

-- the value of a name, by what was found of a file's symbols
abbrev pub value_by : List ℕ → List ℕ → Located → Option ℕ
value_by b name (Part p) = None
value_by b name Missing = None
value_by b name (At t) = value_of b t name

abbrev pub symbol_of : List ℕ → Header → List ℕ → Option ℕ
symbol_of b h name = value_by b name (located (length b) b h)

-- whether a text stands anywhere in the strings
abbrev pub Stands : List ℕ → List ℕ → Type 0
Stands strings text = (at : ℕ) × (stands_at strings text at ≡ true)

-- both tables end at or below a place
pub record EndBelow (size : ℕ) (t : Tables) : Type 0 where
  pub symbols : t.at + SYM_SIZE * t.count ≤ size
  pub strings : t.strings + t.length ≤ size

-- the tables lie in the file of a name, where it is told, and every place in them is a number of 63 bits
pub record HasTables (kept : Option FileMap) (name : List ℕ) (t : Tables) : Type 0 where
  pub small : EndBelow (2 ^ 63) t
  pub told : HasFile kept name (λ b. EndBelow (length b) t)

abbrev pub FoundBelow : ℕ → Located → Type 0
FoundBelow size (Part p) = Unit {0}
FoundBelow size Missing = Unit {0}
FoundBelow size (At t) = EndBelow size t
