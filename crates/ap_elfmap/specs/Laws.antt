-- Why the laws of the reading hold: proofs, which nobody has to read.
use Rattle.std.proofs.Common.{◌≡◌, ℕ, ◌+◌, ◌-◌, ◌%◌, ◌^◌, ◌<◌, ◌≤◌, Bool, true, false, if◌then◌else◌, nat_lt, nat_le, ◌==◌, ◌&&◌, List, [], ◌∷◌, ◌++◌, length, map, Option, Some, None, refl, sym, ap, ◌∙◌, subst, arith, min, inl, inr}
use Rattle.std.proofs.lemmas.Bool.Decides.{nat_tests}
use Rattle.std.proofs.lemmas.Bool.{cases_Bool, and_parts, ltb-true, leb-true}
use Rattle.ap_fields.specs.FirstFault.{Rules, first_fault}
use Rattle.ap_fields.specs.Granules.{IsGranule, floor_of, ceil_of}
use Rattle.ap_fields.specs.Readings.{Cell, MemoryImage, image_unless, bytes_in}
use Rattle.ap_fields.proofs.FirstFaults.{append-none}
use Rattle.ap_fields.proofs.Granules.{granule_pos, ceil_of-least}
use Rattle.ap_elf.specs.declared.types.Header.{Header}
use Rattle.ap_elf.specs.declared.types.Entry.{Entry}
use Rattle.ap_elf.specs.declared.fault.ElfFault.{ElfFault}
use Rattle.ap_elf.specs.Fields.{header_of, entries_of, loads_in, is_load}
use Rattle.ap_elf.specs.InputCell.{permissions_of}
use Rattle.ap_elf.specs.ElfReading.{refusal, header_rules, dynamic_rules, load_rules, loads_rules, elf_rules, has_in_pages, page_byte, page_cell, elf_reading_by}
use Rattle.ap_elf.specs.declared.fault.ElfCause.TheVariants.{NoLoad}
use Rattle.ap_elf.proofs.Alike.{header_of-same, entries_of-same}
use Rattle.ap_elf.specs.declared.machine.Machine.{Machine}
use Rattle.ap_elf.specs.declared.machine.Machine.TheVariants.{X64, A64}
use Rattle.ap_image.specs.declared.plan.Region.{Region}
use Rattle.ap_image.specs.Plans.{Mapping, IsRegion, AreAscendingFrom, AreBacked, end_of, has_address, region_byte, cell_in}
use Rattle.ap_image.specs.Reading.{Shows, IsPlanOf, AgreeAt, mapping_unless}
use Rattle.ap_elf.specs.Machines.{IsPage}
use Rattle.ap_elfmap.specs.ElfPlans.{IsLoad, start_of, stop_of, region_of, elf_plan_by, elf_plan, Looks}

pub page-granule : (m : Machine) (page : ℕ) → IsPage m page → IsGranule page
page-granule X64 page is = inl is
page-granule A64 page is = is

-- rounded up, an address stays below the top
pub ceil-top : (page a : ℕ) → IsGranule page → a ≤ 2 ^ 47 → ceil_of a page ≤ 2 ^ 47
ceil-top page a is h = elim is as (λ _. ceil_of a page ≤ 2 ^ 47) [
  | inl e ↦ (let P : ℕ → Type 0 = λ p. ceil_of a p ≤ 2 ^ 47 in let here : ceil_of a 4096 ≤ 2 ^ 47 = grind (arith, nat_tests) in subst P (sym e) here)
  | inr e ↦ (let P : ℕ → Type 0 = λ p. ceil_of a p ≤ 2 ^ 47 in let here : ceil_of a 16384 ≤ 2 ^ 47 = grind (arith, nat_tests) in subst P (sym e) here)
]

-- what the rules of a load say
pub load-from : (page len k low : ℕ) (p : Entry) → first_fault (load_rules page len k low p) ≡ None → IsLoad page len p × (low ≤ start_of page p)
load-from page len k low p h = (
  record {
    sizes = grind (arith, nat_tests);
    part = grind (arith, nat_tests);
    top = grind (arith, nat_tests);
    congruent = grind (arith, nat_tests);
  },
  grind (arith, nat_tests),
)

-- where place and address agree modulo the page, the place is no less than the address in its page
skew-below : (page a b : ℕ) → 1 ≤ page → a % page ≡ b % page → b % page ≤ a
skew-below page a b p h = let e : a % page ≤ a = omega arith in omega arith

pub skew-offset : (page len : ℕ) (p : Entry) → IsGranule page → IsLoad page len p → 0 < p.filesz → p.vaddr % page ≤ p.offset
skew-offset page len p is load some = skew-below page p.offset p.vaddr (granule_pos page is) (load.congruent some)

pub start-below : (page : ℕ) (p : Entry) → IsGranule page → start_of page p ≤ stop_of page p
start-below page p is =
    let above : p.vaddr + p.memsz ≤ ceil_of (p.vaddr + p.memsz) page = ceil_of-least (p.vaddr + p.memsz) page is in
    let positive : 1 ≤ page = granule_pos page is in
    omega arith

-- the numbers of a region
region-is : (start stop skew vaddr filesz memsz offset len : ℕ) (r : Region) → start + skew ≡ vaddr → vaddr + memsz ≤ stop → 0 < memsz → filesz ≤ memsz → (0 < filesz → offset + filesz ≤ len) → (0 < filesz → skew ≤ offset)
    → r.span ≡ stop - start
    → r.backed ≡ (if filesz == 0 then 0 else (if nat_lt filesz memsz then skew + filesz else min (stop - start) (len - (offset - skew))))
    → r.at ≡ (if filesz == 0 then 0 else offset - skew)
    → IsRegion r × (r.at + r.backed ≤ len)
region-is start stop skew vaddr filesz memsz offset len r sum above maps sizes range below span backed at = (
  record {
    maps = omega arith;
    part = grind (arith, nat_tests);
    bare = grind (arith, nat_tests);
  },
  grind (arith, nat_tests),
)

-- the region of a load that meets its rules
record IsRegionOf (page len : ℕ) (p : Entry) (r : Region) : Type 0 where
  pub start : r.start ≡ start_of page p
  pub stop : end_of r ≡ stop_of page p
  pub is : IsRegion r
  pub top : end_of r ≤ 2 ^ 47
  pub backed : r.at + r.backed ≤ len

region-good : (page len : ℕ) (p : Entry) → IsGranule page → 0 < p.memsz → IsLoad page len p → IsRegionOf page len p (region_of page len p)
unfolding region_of
region-good page len p is maps load =
    let above : p.vaddr + p.memsz ≤ ceil_of (p.vaddr + p.memsz) page = ceil_of-least (p.vaddr + p.memsz) page is in
    let top : ceil_of (p.vaddr + p.memsz) page ≤ 2 ^ 47 = ceil-top page (p.vaddr + p.memsz) is load.top in
    let positive : 1 ≤ page = granule_pos page is in
    let least : p.vaddr % page ≤ p.vaddr = omega arith in
    let whole : floor_of p.vaddr page + p.vaddr % page ≡ p.vaddr = omega arith in
    let parts = region-is (floor_of p.vaddr page) (ceil_of (p.vaddr + p.memsz) page) (p.vaddr % page) p.vaddr p.filesz p.memsz p.offset len (region_of page len p)
    whole above maps load.sizes load.part (skew-offset page len p is load) refl refl refl in
    record {
      start = refl;
      stop = omega arith;
      is = parts.0;
      top = omega arith;
      backed = parts.1;
    }

-- where the load has a part in the file
byte-tail : (len : ℕ) (byte : ℕ → ℕ) (start stop skew vaddr filesz memsz offset a place : ℕ) → start + skew ≡ vaddr → vaddr + memsz ≤ stop → filesz ≤ memsz → offset + filesz ≤ len → skew ≤ offset
    → start ≤ a → a < stop → place ≡ offset + a - vaddr
    → (if nat_lt (a - start) (if nat_lt filesz memsz then skew + filesz else min (stop - start) (len - (offset - skew))) then byte place else 0)
    ≡ (if nat_lt a (vaddr + filesz) then byte place else (if nat_lt filesz memsz then 0 else (if nat_lt place len then byte place else 0)))
byte-tail len byte start stop skew vaddr filesz memsz offset a place sum above sizes ranged skewed low high is =
    elim (cases_Bool (nat_lt filesz memsz)) [
      | inl part ↦ rw part (
          let same : nat_lt (a - start) (skew + filesz) ≡ nat_lt a (vaddr + filesz) = grind (arith, nat_tests) in
          rw same refl)
      | inr whole ↦ rw whole (
          let all : filesz ≡ memsz = grind (arith, nat_tests) in
          let same : nat_lt (a - start) (min (stop - start) (len - (offset - skew))) ≡ nat_lt place len = grind (arith, nat_tests) in
          rw same (elim (cases_Bool (nat_lt a (vaddr + filesz))) [
            | inl in_part ↦ (let lt : nat_lt place len ≡ true = grind (arith, nat_tests) in rw (in_part, lt) refl)
            | inr past ↦ rw past refl
          ]))
    ]

-- two spellings of a load's byte, by numbers
byte-same : (len : ℕ) (byte : ℕ → ℕ) (start stop skew vaddr filesz memsz offset a back at place : ℕ) → start + skew ≡ vaddr → vaddr + memsz ≤ stop → filesz ≤ memsz → (0 < filesz → offset + filesz ≤ len) → (0 < filesz → skew ≤ offset)
    → start ≤ a → a < stop
    → back ≡ (if filesz == 0 then 0 else (if nat_lt filesz memsz then skew + filesz else min (stop - start) (len - (offset - skew))))
    → at ≡ (if filesz == 0 then 0 else offset - skew)
    → place ≡ offset + a - vaddr
    → (if nat_lt (a - start) back then byte (at + (a - start)) else 0)
    ≡ (if filesz == 0 then 0 else (if nat_lt a (vaddr + filesz) then byte place else (if nat_lt filesz memsz then 0 else (if nat_lt place len then byte place else 0))))
byte-same len byte start stop skew vaddr filesz memsz offset a back at place sum above sizes range below low high backed put is =
    elim (cases_Bool (filesz == 0)) [
      | inl none ↦ rw (backed, none) (grind (arith, nat_tests))
      | inr some ↦ (
          let pos : 0 < filesz = grind (arith, nat_tests) in
          let skewed : skew ≤ offset = below pos in
          let ranged : offset + filesz ≤ len = range pos in
          let put' : at ≡ offset - skew = grind (arith, nat_tests) in
          let same : at + (a - start) ≡ place = omega arith in
          rw (backed, same, some) (byte-tail len byte start stop skew vaddr filesz memsz offset a place sum above sizes ranged skewed low high is))
    ]

-- the byte of a load's region
region-byte : (page len : ℕ) (byte : ℕ → ℕ) (p : Entry) (a : ℕ) → IsGranule page → IsLoad page len p → start_of page p ≤ a → a < stop_of page p
    → region_byte byte (region_of page len p) a ≡ page_byte len byte p a
unfolding region_of
region-byte page len byte p a is load low high =
    let above : p.vaddr + p.memsz ≤ ceil_of (p.vaddr + p.memsz) page = ceil_of-least (p.vaddr + p.memsz) page is in
    let positive : 1 ≤ page = granule_pos page is in
    let least : p.vaddr % page ≤ p.vaddr = omega arith in
    let whole : floor_of p.vaddr page + p.vaddr % page ≡ p.vaddr = omega arith in
    byte-same len byte (floor_of p.vaddr page) (ceil_of (p.vaddr + p.memsz) page) (p.vaddr % page) p.vaddr p.filesz p.memsz p.offset a _ _ _
    whole above load.sizes load.part (skew-offset page len p is load) low high refl refl refl

pages-cell : (b : Bool) (v w : ℕ) (perms : ℕ) (x y : Option Cell) → (b ≡ true → v ≡ w) → x ≡ y → (if b then Some (v, perms) else x) ≡ (if b then Some (w, perms) else y)
pages-cell true v w perms x y same rest = ap (λ (z : ℕ). Some (z, perms)) (same refl)
pages-cell false v w perms x y same rest = rest

region-perms : (page len : ℕ) (p : Entry) → (region_of page len p).perms.0 ≡ permissions_of p
unfolding region_of
region-perms page len p = refl

-- the cell of one load
region-cell : (page len : ℕ) (byte : ℕ → ℕ) (p : Entry) (a : ℕ) (x y : Option Cell) → IsGranule page → 0 < p.memsz → IsLoad page len p → x ≡ y
    → (if has_address (region_of page len p) a then Some (region_byte byte (region_of page len p) a, (region_of page len p).perms.0) else x)
    ≡ (if has_in_pages page p a then Some (page_byte len byte p a, permissions_of p) else y)
region-cell page len byte p a x y is maps load rest =
    let r : Region = region_of page len p in
    let good : IsRegionOf page len p r = region-good page len p is maps load in
    let tests : has_address r a ≡ has_in_pages page p a = ap (λ (s : ℕ). nat_le s a && nat_lt a (end_of r)) good.start ∙ ap (λ (s : ℕ). nat_le (start_of page p) a && nat_lt a s) good.stop in
    ap (λ (b : Bool). if b then Some (region_byte byte r a, r.perms.0) else x) tests
    ∙ ap (λ (z : ℕ). if has_in_pages page p a then Some (region_byte byte r a, z) else x) (region-perms page len p)
    ∙ pages-cell (has_in_pages page p a) (region_byte byte r a) (page_byte len byte p a) (permissions_of p) x y
    (λ on. let both = and_parts (nat_le (start_of page p) a) (nat_lt a (stop_of page p)) on in region-byte page len byte p a is load (leb-true (start_of page p) a both.0) (ltb-true a (stop_of page p) both.1)) rest

-- each load has bytes in memory
abbrev pub HaveMemory : List Entry → Type 0
HaveMemory [] = Unit {0}
HaveMemory (p ∷ loads) = (0 < p.memsz) × HaveMemory loads

pub loads-have : (entries : List Entry) → HaveMemory (loads_in entries)
loads-have [] = tt
loads-have (p ∷ entries) =
    elim (cases_Bool (is_load p)) [
      | inl on ↦ rw on (let some : 0 < p.memsz = grind (arith, nat_tests) in (some, loads-have entries))
      | inr off ↦ rw off (loads-have entries)
    ]

-- what the regions of loads are by the loads' rules
record AreMapped (page len low : ℕ) (byte : ℕ → ℕ) (loads : List Entry) : Type 0 where
  pub ascending : AreAscendingFrom low (map (region_of page len) loads)
  pub backed : AreBacked (map (region_of page len) loads) len
  pub cells : (a : ℕ) → cell_in byte (map (region_of page len) loads) a ≡ page_cell page len byte loads a

mapped : (page len k low : ℕ) (byte : ℕ → ℕ) (loads : List Entry) → IsGranule page → low ≤ 2 ^ 47 → HaveMemory loads → first_fault (loads_rules page len k low loads) ≡ None → AreMapped page len low byte loads
mapped page len k low byte [] is top have none = record { ascending = top; backed = tt; cells = λ a. refl }
mapped page len k low byte (p ∷ loads) is top have none =
    let parts = append-none (load_rules page len k low p) (loads_rules page len (k + 1) (stop_of page p) loads) none in
    let load = load-from page len k low p parts.0 in
    let good : IsRegionOf page len p (region_of page len p) = region-good page len p is have.0 load.0 in
    let above : stop_of page p ≤ 2 ^ 47 = ceil-top page (p.vaddr + p.memsz) is load.0.top in
    let rest : AreMapped page len (stop_of page p) byte loads = mapped page len (k + 1) (stop_of page p) byte loads is above have.1 parts.1 in
    let low_enough : low ≤ (region_of page len p).start = omega (arith, load.1, good.start) in
    record {
      ascending = (low_enough, good.is, subst (λ (z : ℕ). AreAscendingFrom z (map (region_of page len) loads)) (sym good.stop) rest.ascending);
      backed = (good.backed, rest.backed);
      cells = λ a. region-cell page len byte p a _ _ is have.0 load.0 (rest.cells a);
    }

-- what the rules of a file say of its loads
loads-none : (machine page len : ℕ) (h : Header) (entries : List Entry) → first_fault (elf_rules machine page len h entries) ≡ None → first_fault (loads_rules page len 1 0 (loads_in entries)) ≡ None
loads-none machine page len h entries none =
    let last : Rules ElfFault = (nat_lt 0 (length (loads_in entries)), refusal NoLoad 0 0) ∷ [] in
    let a = append-none (header_rules machine len h) (dynamic_rules 1 entries ++ (loads_rules page len 1 0 (loads_in entries) ++ last)) none in
    let b = append-none (dynamic_rules 1 entries) (loads_rules page len 1 0 (loads_in entries) ++ last) a.1 in
    (append-none (loads_rules page len 1 0 (loads_in entries)) last b.1).0

pub plan-ascends : (machine page len : ℕ) (h : Header) (entries : List Entry) → IsGranule page → first_fault (elf_rules machine page len h entries) ≡ None → AreAscendingFrom 0 (map (region_of page len) (loads_in entries))
plan-ascends machine page len h entries is none =
    (mapped page len 1 0 (λ i. 0) (loads_in entries) is (omega arith) (loads-have entries) (loads-none machine page len h entries none)).ascending

pub plan-backed : (machine page len : ℕ) (h : Header) (entries : List Entry) → IsGranule page → first_fault (elf_rules machine page len h entries) ≡ None → AreBacked (map (region_of page len) (loads_in entries)) len
plan-backed machine page len h entries is none =
    (mapped page len 1 0 (λ i. 0) (loads_in entries) is (omega arith) (loads-have entries) (loads-none machine page len h entries none)).backed

shows-by : (machine page : ℕ) (h : Header) (entries : List Entry) (file : List ℕ) → IsGranule page → first_fault (elf_rules machine page (length file) h entries) ≡ None
    → Shows (record { regions = map (region_of page (length file)) (loads_in entries); entry = h.e_entry }) file (record { entry = h.e_entry; cell = page_cell page (length file) (bytes_in file) (loads_in entries) })
shows-by machine page h entries file is none =
    let all : AreMapped page (length file) 0 (bytes_in file) (loads_in entries) =
    mapped page (length file) 1 0 (bytes_in file) (loads_in entries) is (omega arith) (loads-have entries) (loads-none machine page (length file) h entries none) in
    record { backed = all.backed; entry = refl; cells = all.cells }

plan-unless : (fault : Option ElfFault) (m : Mapping) (file : List ℕ) (image : MemoryImage) → (fault ≡ None → Shows m file image) → IsPlanOf (mapping_unless fault m) file (image_unless fault image)
plan-unless None m file image h = h refl
plan-unless (Some fault) m file image h = refl

-- law cells, by a header and program headers from anywhere
pub cells-by : (machine page : ℕ) (h : Header) (entries : List Entry) (file : List ℕ) → IsGranule page
    → IsPlanOf (elf_plan_by machine page (length file) h entries) file (elf_reading_by machine page (length file) h entries (bytes_in file))
cells-by machine page h entries file is =
    plan-unless (first_fault (elf_rules machine page (length file) h entries)) _ file _ (shows-by machine page h entries file is)

-- law frame
pub frame-elf : (machine page : ℕ) (f g : List ℕ) → length f ≡ length g → AgreeAt (Looks f) f g → elf_plan machine page f ≡ elf_plan machine page g
frame-elf machine page f g len h =
    let headers : header_of f ≡ header_of g = header_of-same f g len (λ k l. h k (inl l)) in
    let tables : entries_of f ≡ entries_of g = entries_of-same f g headers (λ k lo hi. h k (inr (lo, hi))) in
    ap (λ (n : ℕ). elf_plan_by machine page n (header_of f) (entries_of f)) len
    ∙ ap (λ (x : Header). elf_plan_by machine page (length g) x (entries_of f)) headers
    ∙ ap (elf_plan_by machine page (length g) (header_of g)) tables

pub ruleset load_facts = (granule_pos, ceil-top, ceil_of-least, skew-offset, start-below)
