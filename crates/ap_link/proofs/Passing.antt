-- The ELF reading refuses nothing of the loads that the linker writes, and its regions are backed by the areas.
use Rattle.std.proofs.Common.{◌≡◌, inl, ℕ, ◌+◌, ◌-◌, ◌%◌, ◌^◌, ◌<◌, ◌≤◌, true, cond, nat_le, nat_lt, ◌==◌, ◌||◌, min, List, [], ◌∷◌, length, map, None, refl, ◌∙◌, arith, bit_and}
use Rattle.std.proofs.lemmas.Bool.Decides.{nat_tests}
use Rattle.std.proofs.lemmas.Nat.{and_mask}
use Rattle.ap_fields.specs.FirstFault.{first_fault}
use Rattle.ap_fields.specs.Granules.{IsGranule, floor_of, ceil_of}
use Rattle.ap_fields.specs.Readings.{bytes_in}
use Rattle.ap_fields.proofs.FirstFaults.{none-append}
use Rattle.ap_elf.specs.declared.types.Entry.{Entry}
use Rattle.ap_elf.specs.ElfReading.{load_rules, loads_rules}
use Rattle.ap_check.specs.declared.load.Load.{Load}
use Rattle.ap_check.specs.Inputs.{IsLoad, AreLoads}
use Rattle.ap_elfmap.specs.ElfPlans as elf
use Rattle.ap_elfmap.specs.ElfPlans.{region_of}
use Rattle.ap_layout.specs.declared.layout.Area.{Area}
use Rattle.ap_layout.specs.Areas.{content_length}
use Rattle.ap_script.specs.Tables.{load_entry, load_entries}
use Rattle.ap_link.specs.LinkedIn.{IsHeld, HoldAll}
use Rattle.ap_link.proofs.Granules.{IsPaged, floor-sum, mod-on}
use Rattle.ap_link.proofs.Contents.{content-room, content-whole, length-content}
use Rattle.ap_link.specs.Same.{nothing_else}
use Rattle.ap_link.proofs.Shown.{IsBackedBy, ShowAll, backed-shows}
use Rattle.ap_fields.proofs.Granules.{ceil_of-least}

-- an area lies in the file
pub area-fits : (g : ℕ) (byte : ℕ → ℕ) (file : List ℕ) (p : Load) (x : Area) → IsGranule g → IsHeld g byte file p x → 0 < p.filesz → x.file + content_length g p ≤ length file
area-fits g byte file p x is held some = let fits = (held.holds some).fits in let long = length-content g byte p is in omega arith

-- what a load's entry meets
pub entry-meets : (page g size low : ℕ) (byte : ℕ → ℕ) (file : List ℕ) (p : Load) (x : Area) → IsGranule g → IsPaged page g → IsLoad g size low p → IsHeld g byte file p x
    → elf.IsLoad page (length file) (load_entry g p x)
entry-meets page g size low byte file p x is paging load held = record {
  sizes = load.sizes;
  part = λ some. (let f = area-fits g byte file p x is held some in let room = content-room g p is in omega arith);
  top = load.top;
  congruent = λ some. paging.even (x.file + p.vaddr % g) p.vaddr (mod-on x.file p.vaddr g is (held.granule some));
}

-- an entry that meets its rules is refused by none
meets-none : (page len k low : ℕ) (p : Entry) → elf.IsLoad page len p → low ≤ floor_of p.vaddr page → first_fault (load_rules page len k low p) ≡ None
meets-none page len k low p load above =
    let sizes = load.sizes in let part = load.part in let top = load.top in let even = load.congruent in
    let t1 : nat_le p.filesz p.memsz ≡ true = grind (arith, nat_tests) in
    let t2 : (p.filesz == 0 || nat_le (p.offset + p.filesz) len) ≡ true = grind (arith, nat_tests) in
    let t3 : nat_le (p.vaddr + p.memsz) (2 ^ 47) ≡ true = grind (arith, nat_tests) in
    let t4 : (p.filesz == 0 || p.offset % page == p.vaddr % page) ≡ true = grind (arith, nat_tests) in
    let t5 : nat_le low (floor_of p.vaddr page) ≡ true = grind (arith, nat_tests) in
    rw (t1, t2, t3, t4, t5) refl

-- no load is refused, where the pages of the load before them end at or before its granules
pub loads-pass : (page g size low to k : ℕ) (byte : ℕ → ℕ) (file : List ℕ) (loads : List Load) (areas : List Area) → IsGranule g → IsPaged page g → to ≤ low → AreLoads g size low loads → HoldAll g byte file loads areas
    → first_fault (loads_rules page (length file) k to (load_entries g loads areas)) ≡ None
loads-pass page g size low to k byte file [] areas is paging below order held = refl
loads-pass page g size low to k byte file (p ∷ loads) [] is paging below order held = refl
loads-pass page g size low to k byte file (p ∷ loads) (x ∷ areas) is paging below order held =
    let q : Entry = load_entry g p x in
    let stop : ℕ = ceil_of (p.vaddr + p.memsz) page in
    let floors = paging.floors p.vaddr in
    let first = order.0.order in
    let above : to ≤ floor_of p.vaddr page = omega arith in
    none-append (load_rules page (length file) k to q) (loads_rules page (length file) (k + 1) stop (load_entries g loads areas))
    (meets-none page (length file) k to q (entry-meets page g size low byte file p x is paging order.0 held.0) above)
    ∙ loads-pass page g size (ceil_of (p.vaddr + p.memsz) g) stop (k + 1) byte file loads areas is paging (paging.ceils (p.vaddr + p.memsz)) order.1 held.1

perms-stay : (n : ℕ) → n < 8 → bit_and n 7 ≡ n
perms-stay n small = let mask : bit_and n 7 ≡ n % 8 = and_mask n 3 in omega arith

-- the region of a load's entry, by numbers
backed-numbers : (start stop skew d base clen vaddr filesz memsz place len high at back : ℕ) → start + skew ≡ vaddr → base + d ≡ vaddr → base ≤ start → vaddr + memsz ≤ stop → stop ≤ high → filesz ≤ memsz
    → (filesz ≡ memsz → high ≤ base + clen) → d + filesz ≤ clen → (0 < filesz → place + clen ≤ len)
    → back ≡ cond (filesz == 0) 0 (cond (nat_lt filesz memsz) (skew + filesz) (min (stop - start) (len - (place + d - skew))))
    → at ≡ cond (filesz == 0) 0 (place + d - skew)
    → (filesz ≡ 0 → back ≡ 0) × (0 < filesz → at + (vaddr - start) ≡ place + d) × (0 < filesz → vaddr + filesz ≤ start + back) × (0 < filesz → start + back ≤ base + clen)
backed-numbers start stop skew d base clen vaddr filesz memsz place len high at back s1 s2 low above top sizes whole part fits backed placed =
    (λ z. grind (arith, nat_tests), λ some. grind (arith, nat_tests), λ some. grind (arith, nat_tests), λ some. grind (arith, nat_tests))

-- the region of a load's entry is backed by the load's area
pub region-backed : (page g size low : ℕ) (byte : ℕ → ℕ) (file : List ℕ) (p : Load) (x : Area) → IsGranule g → IsPaged page g → IsLoad g size low p → IsHeld g byte file p x
    → IsBackedBy g p x (region_of page (length file) (load_entry g p x))
unfolding region_of
region-backed page g size low byte file p x is paging load held =
    let start : ℕ = floor_of p.vaddr page in
    let stop : ℕ = ceil_of (p.vaddr + p.memsz) page in
    let high : ℕ = ceil_of (p.vaddr + p.memsz) g in
    let s1 : start + p.vaddr % page ≡ p.vaddr = (floor-sum p.vaddr page paging.size).0 in
    let s2 : floor_of p.vaddr g + p.vaddr % g ≡ p.vaddr = (floor-sum p.vaddr g is).0 in
    let lower : floor_of p.vaddr g ≤ start = paging.floors p.vaddr in
    let above : p.vaddr + p.memsz ≤ stop = ceil_of-least (p.vaddr + p.memsz) page paging.size in
    let top : stop ≤ high = paging.ceils (p.vaddr + p.memsz) in
    let whole : p.filesz ≡ p.memsz → high ≤ floor_of p.vaddr g + content_length g p = λ e. (let c = content-whole g p is e in omega arith) in
    let n = backed-numbers start stop (p.vaddr % page) (p.vaddr % g) (floor_of p.vaddr g) (content_length g p) p.vaddr p.filesz p.memsz x.file (length file) high _ _ s1 s2 lower above top load.sizes whole
    (content-room g p is) (area-fits g byte file p x is held) refl refl in
    record {
      low = lower;
      start = omega arith;
      stop = omega arith;
      high = omega arith;
      perms = perms-stay p.perms.0 load.perms;
      bare = n.0;
      at = n.1;
      whole = n.2;
      within = n.3;
    }

-- the regions of the table show the loads
pub regions-show : (page g size low : ℕ) (byte : ℕ → ℕ) (file : List ℕ) (loads : List Load) (areas : List Area) → IsGranule g → IsPaged page g → AreLoads g size low loads → HoldAll g byte file loads areas
    → ShowAll g byte (bytes_in file) nothing_else loads (map (region_of page (length file)) (load_entries g loads areas))
regions-show page g size low byte file [] [] is paging order held = tt
regions-show page g size low byte file [] (x ∷ areas) is paging order held = absurd held
regions-show page g size low byte file (p ∷ loads) [] is paging order held = absurd held
regions-show page g size low byte file (p ∷ loads) (x ∷ areas) is paging order held = inl (
  backed-shows g byte file p x (region_of page (length file) (load_entry g p x)) is held.0.holds (region-backed page g size low byte file p x is paging order.0 held.0),
  regions-show page g size (ceil_of (p.vaddr + p.memsz) g) byte file loads areas is paging order.1 held.1,
)
