-- The plan by which an ELF file is mapped: a region for each load, of the pages that the load is in (System V gABI, "Program
-- Loading"), and the entry.
use Rattle.std.specs.Prelude.{◌≡◌, ◌⊎◌, ℕ, ◌+◌, ◌*◌, ◌-◌, ◌%◌, ◌<◌, ◌≤◌, ◌==◌, nat_lt, min, if◌then◌else◌, List, length, map, Some, None, Result, MatchResult}
use Rattle.ap_fields.specs.FirstFault.{Rules, first_fault}
use Rattle.ap_fields.specs.Granules.{floor_of, ceil_of}
use Rattle.ap_elf.specs.declared.constants.TheConstants.{EHDR_SIZE, PHDR_SIZE, ADDRESS_TOP}
use Rattle.ap_elf.specs.declared.types.Header.{Header}
use Rattle.ap_elf.specs.declared.types.Entry.{Entry}
use Rattle.ap_elf.specs.declared.fault.ElfFault.{ElfFault}
use Rattle.ap_elf.specs.Fields.{header_of, entries_of, loads_in}
use Rattle.ap_elf.specs.InputCell.{permissions_of}
use Rattle.ap_elf.specs.ElfReading.{elf_rules}
use Rattle.ap_image.specs.declared.plan.Region.{Region}
use Rattle.ap_image.specs.Plans.{Mapping}
use Rattle.ap_image.specs.Reading.{mapping_unless}

-- where the pages of a load begin and end
abbrev pub start_of : ℕ → Entry → ℕ
start_of page p = floor_of p.vaddr page

abbrev pub stop_of : ℕ → Entry → ℕ
stop_of page p = ceil_of (p.vaddr + p.memsz) page

-- the place in the file that the first address of the pages shows
abbrev pub place_of : ℕ → Entry → ℕ
place_of page p = p.offset - p.vaddr % page

-- how many addresses show a file of `len` bytes: where all of a load stands in the file, up to the file's end
abbrev pub backed_of : ℕ → ℕ → Entry → ℕ
backed_of page len p =
    if p.filesz == 0 then 0
    else (if nat_lt p.filesz p.memsz then p.vaddr % page + p.filesz
    else min (stop_of page p - start_of page p) (len - place_of page p))

-- the region of a load
unfoldable pub region_of : ℕ → ℕ → Entry → Region
region_of page len p = record {
  start = start_of page p;
  span = stop_of page p - start_of page p;
  backed = backed_of page len p;
  at = if p.filesz == 0 then 0 else place_of page p;
  perms = record { 0 = permissions_of p };
}

-- the plan of a header and program headers from anywhere, in a file of `len` bytes
abbrev pub elf_plan_by : ℕ → ℕ → ℕ → Header → List Entry → Result Mapping ElfFault
elf_plan_by machine page len h entries =
    mapping_unless (first_fault (elf_rules machine page len h entries))
    (record { regions = map (region_of page len) (loads_in entries); entry = h.e_entry })

-- the plan of a file
abbrev pub elf_plan : ℕ → ℕ → List ℕ → Result Mapping ElfFault
elf_plan machine page b = elf_plan_by machine page (length b) (header_of b) (entries_of b)

-- the places that the reading looks at: the header and the program header table
abbrev pub Looks : List ℕ → ℕ → Type 0
Looks b k = (k < EHDR_SIZE) ⊎ (((header_of b).e_phoff ≤ k) × (k < (header_of b).e_phoff + PHDR_SIZE * (header_of b).e_phnum))

-- a check answers by its rules: Ok where all hold, else the first fault
abbrev pub Checks : {T : Type 0} → Result T ElfFault → Rules ElfFault → Type 0
Checks result rules = MatchResult result (λ _. first_fault rules ≡ None) (λ f. first_fault rules ≡ Some f)

-- what a load meets by its rules
pub record IsLoad (page len : ℕ) (p : Entry) : Type 0 where
  pub sizes : p.filesz ≤ p.memsz
  pub part : 0 < p.filesz → p.offset + p.filesz ≤ len
  pub top : p.vaddr + p.memsz ≤ ADDRESS_TOP
  pub congruent : 0 < p.filesz → p.offset % page ≡ p.vaddr % page
