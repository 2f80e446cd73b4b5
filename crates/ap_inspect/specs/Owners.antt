-- The lines of a report on the owners of a file's bytes.
use Rattle.std.specs.Prelude.{ℕ, ◌+◌, ◌-◌, ◌*◌, ◌==◌, min, if◌then◌else◌, List, [], ◌++◌, length, take, drop, flat_map, codes, decimal, Option, Some, None, Result, Ok, Err}
use Rattle.ap_fields.specs.declared.sizes.TheConstants.{WINDOW}
use Rattle.ap_elf.specs.Fields.{header_of}
use Rattle.ap_pe.specs.declared.types.PeHeaders.{PeHeaders}
use Rattle.ap_octal.specs.declared.types.DdStatement.{DdStatement}
use Rattle.ap_image.specs.declared.plan.Region.{Region}
use Rattle.ap_image.specs.Plans.{Mapping}
use Rattle.ap_loader.specs.Embedded.{has_magic, before_quote}

unfoldable pub owner_line : List ℕ → ℕ → ℕ → List ℕ
owner_line name start size =
    codes "owner " ++ (name ++ (codes " " ++ (decimal start ++ (codes " " ++ (decimal size ++ codes "\n")))))

-- the magic, where one stands
abbrev pub magic_owner : List ℕ → List ℕ
magic_owner file = if has_magic file then owner_line (codes "ape") 0 8 else []

-- the DOS fields and the PE headers
unfoldable pub pe_owners : PeHeaders → List ℕ
pe_owners h =
    owner_line (codes "dos") 0 2 ++ (owner_line (codes "dos") 60 4
    ++ owner_line (codes "pe") h.at (24 + h.optional + 40 * h.count))

-- a statement at a place, its closing quote included
abbrev pub quoted_owner : ℕ → Option (List ℕ) → List ℕ
quoted_owner at None = []
quoted_owner at (Some text) = owner_line (codes "ape") at (length text + 9)

abbrev pub statement_owner : List ℕ → Option (ℕ × List ℕ) → List ℕ
statement_owner file None = []
statement_owner file (Some (at, header)) = quoted_owner at (before_quote (drop (at + 8) (take WINDOW file)))

-- the program header table that a header names
abbrev pub header_table : List ℕ → List ℕ
header_table header = owner_line (codes "elf") (header_of header).e_phoff (56 * (header_of header).e_phnum)

abbrev pub table_owner : Option (ℕ × List ℕ) → List ℕ
table_owner None = []
table_owner (Some (at, header)) = header_table header

-- the copied blocks, as far as a file of `len` bytes has them
abbrev pub mach_owner : ℕ → Option DdStatement → List ℕ
mach_owner len None = []
mach_owner len (Some s) = owner_line (codes "mach") (s.skip * s.size) (min (s.count * s.size) (len - s.skip * s.size))

-- a region that shows the file
abbrev pub area_owner : Region → List ℕ
area_owner r = if r.backed == 0 then [] else owner_line (codes "area") r.at r.backed

-- lines that stand where a reading maps the file
abbrev pub where_mapped : {Fault : Type 0} → Result Mapping Fault → List ℕ → List ℕ
where_mapped (Ok m) lines = lines
where_mapped (Err f) lines = []

abbrev pub area_owners : {Fault : Type 0} → Result Mapping Fault → List ℕ
area_owners (Ok m) = flat_map area_owner m.regions
area_owners (Err f) = []
