-- The numbers that the linker writes of an input fit their fields.
use Rattle.std.proofs.Common.{◌≡◌, inl, inr, ℕ, ◌+◌, ◌-◌, ◌%◌, ◌^◌, ◌<◌, ◌≤◌, ◌==◌, ◌&&◌, true, false, Bool, cond, min, List, [], ◌∷◌, ◌++◌, length, map, Option, Some, None, refl, sym, ap, ◌∙◌, subst, arith, lit<, bit_and}
use Rattle.std.specs.Prelude.{All, IfSome}
use Rattle.std.proofs.lemmas.Bool.{cases_Bool}
use Rattle.std.proofs.lemmas.Bool.Decides.{nat_tests}
use Rattle.std.proofs.lemmas.Nat.{and_mask}
use Rattle.std.proofs.lemmas.List.Elements.{All-tail}
use Rattle.ap_fields.specs.Granules.{IsGranule, floor_of, ceil_of}
use Rattle.ap_elf.specs.declared.types.Entry.{Entry}
use Rattle.ap_elf.specs.declared.machine.Machine.{Machine}
use Rattle.ap_elf.specs.declared.machine.Machine.TheVariants.{X64, A64}
use Rattle.ap_check.specs.declared.load.Load.{Load}
use Rattle.ap_elf.specs.Machines.{granule_of, number_of}
use Rattle.ap_check.specs.Inputs.{Taken, Meets, IsLoad, AreLoads, IsTls, has_address, can_start, is_executable, in_part, has_part, is_note}
use Rattle.ap_layout.specs.declared.layout.Area.{Area}
use Rattle.ap_layout.specs.Positions.{entry_count, one_if}
use Rattle.ap_script.specs.Tables.{load_entry, load_entries, stack_entries, is_backed, place_of, note_entry, tls_entries, table_of, embedded_header}
use Rattle.ap_link.specs.LinkedIn.{IsHeld, HoldAll}
use Rattle.ap_link.proofs.Granules.{granule-fits, floor-sum}
use Rattle.ap_link.proofs.Passing.{area-fits}
use Rattle.ap_link.proofs.Rows.{other_entries, table-parts}
use Rattle.ap_elf.specs.Written.{HeaderFits, EntryFits, EntriesFit}
use Rattle.ap_layout.proofs.Rounded.{granule_of-is}

-- the place of an area
area-small : (g : ℕ) (byte : ℕ → ℕ) (file : List ℕ) (p : Load) (x : Area) → IsGranule g → IsHeld g byte file p x → length file < 2 ^ 31 → x.file < 2 ^ 31
area-small g byte file p x is held small =
    elim (cases_Bool (p.filesz == 0)) [
      | inl none ↦ (let z : p.filesz ≡ 0 = grind (arith, nat_tests) in let e : x.file ≡ 0 = ap (λ (a : Area). a.file) (held.bare z) in omega arith)
      | inr not_none ↦ (let some : 0 < p.filesz = grind (arith, nat_tests) in let f = area-fits g byte file p x is held some in omega arith)
    ]

load-fits : (g size low : ℕ) (byte : ℕ → ℕ) (file : List ℕ) (p : Load) (x : Area) → IsGranule g → IsLoad g size low p → IsHeld g byte file p x → length file < 2 ^ 31 → EntryFits (load_entry g p x)
load-fits g size low byte file p x is load held small =
    let top = load.top in let sizes = load.sizes in let perms = load.perms in
    let skew : p.vaddr % g < 16384 = (floor-sum p.vaddr g is).1 in
    let place : x.file < 2 ^ 31 = area-small g byte file p x is held small in
    let granule : g ≤ 16384 = granule-fits g is in
    record { kind = lit< tt; flags = omega arith; offset = omega arith; vaddr = omega arith; paddr = lit< tt; filesz = omega arith; memsz = omega arith; align = omega arith }

pub loads-fit : (g size low : ℕ) (byte : ℕ → ℕ) (file : List ℕ) (loads : List Load) (areas : List Area) → IsGranule g → AreLoads g size low loads → HoldAll g byte file loads areas → length file < 2 ^ 31
    → EntriesFit (load_entries g loads areas)
loads-fit g size low byte file [] areas is order held small = tt
loads-fit g size low byte file (p ∷ loads) [] is order held small = tt
loads-fit g size low byte file (p ∷ loads) (x ∷ areas) is order held small =
    (load-fits g size low byte file p x is order.0 held.0 small, loads-fit g size (ceil_of (p.vaddr + p.memsz) g) byte file loads areas is order.1 held.1 small)

-- the place of an address in the file part of a load
choice-small : (t : Bool) (x y n : ℕ) → (t ≡ true → x < n) → y < n → cond t x y < n
choice-small true x y n h k = h refl
choice-small false x y n h k = k

pub place-small : (g size low a : ℕ) (byte : ℕ → ℕ) (file : List ℕ) (loads : List Load) (areas : List Area) → IsGranule g → AreLoads g size low loads → HoldAll g byte file loads areas → length file < 2 ^ 31
    → place_of g loads areas a < 256 ^ 8
place-small g size low a byte file [] areas is order held small = lit< tt
place-small g size low a byte file (p ∷ loads) [] is order held small = lit< tt
place-small g size low a byte file (p ∷ loads) (x ∷ areas) is order held small =
    choice-small (is_backed p a) (x.file + (a - floor_of p.vaddr g)) (place_of g loads areas a) (256 ^ 8)
    (λ on.
    let place : x.file < 2 ^ 31 = area-small g byte file p x is held.0 small in
    let load = order.0 in let top = load.top in let sizes = load.sizes in
    let below : a < p.vaddr + p.filesz = grind (arith, nat_tests) in
    omega arith)
    (place-small g size (ceil_of (p.vaddr + p.memsz) g) a byte file loads areas is order.1 held.1 small)

-- an address in the file part of a load
part-top : (g size low a count : ℕ) (loads : List Load) → AreLoads g size low loads → in_part a count loads ≡ true → a + count ≤ 2 ^ 47
part-top g size low a count [] order h = absurd (cc)
part-top g size low a count (p ∷ loads) order h =
    elim (cases_Bool (has_part a count p)) [
      | inl on ↦ (let load = order.0 in let top = load.top in let sizes = load.sizes in grind (arith, nat_tests))
      | inr off ↦ part-top g size (ceil_of (p.vaddr + p.memsz) g) a count loads order.1 (let e : in_part a count (p ∷ loads) ≡ in_part a count loads = rw off refl in sym e ∙ h)
    ]

-- an address of a load
start-top : (g size low a : ℕ) (loads : List Load) → AreLoads g size low loads → can_start a loads ≡ true → a < 2 ^ 47
start-top g size low a [] order h = absurd (cc)
start-top g size low a (p ∷ loads) order h =
    elim (cases_Bool (has_address p a && is_executable p)) [
      | inl on ↦ (let load = order.0 in let top = load.top in grind (arith, nat_tests))
      | inr off ↦ start-top g size (ceil_of (p.vaddr + p.memsz) g) a loads order.1 (let e : can_start a (p ∷ loads) ≡ can_start a loads = rw off refl in sym e ∙ h)
    ]

fit-append : (xs ys : List Entry) → EntriesFit xs → EntriesFit ys → EntriesFit (xs ++ ys)
fit-append [] ys h k = k
fit-append (x ∷ xs) ys h k = (h.0, fit-append xs ys h.1 k)

masked : (n : ℕ) → bit_and n 7 < 256 ^ 4
masked n = let mask : bit_and n 7 ≡ n % 8 = and_mask n 3 in omega arith

stack-small : (n : ℕ) → min (2 ^ 30) n < 256 ^ 8
stack-small n = grind (arith, nat_tests)

stack-fits : (stack : Option Entry) → EntriesFit (stack_entries stack)
stack-fits None = tt
stack-fits (Some p) = (
  record { kind = lit< tt; flags = masked p.flags; offset = lit< tt; vaddr = lit< tt; paddr = lit< tt; filesz = lit< tt; memsz = stack-small (ceil_of p.memsz 65536); align = lit< tt },
  tt,
)

align-small : (t : Bool) → cond t 8 4 < 256 ^ 8
align-small true = lit< tt
align-small false = lit< tt

note-fits : (g size low : ℕ) (byte : ℕ → ℕ) (file : List ℕ) (loads : List Load) (areas : List Area) (p : Entry) → IsGranule g → AreLoads g size low loads → HoldAll g byte file loads areas → length file < 2 ^ 31
    → is_note loads p ≡ true → EntryFits (note_entry g loads areas p)
note-fits g size low byte file loads areas p is order held small note =
    let inside : in_part p.vaddr p.filesz loads ≡ true = grind (arith, nat_tests) in
    let top : p.vaddr + p.filesz ≤ 2 ^ 47 = part-top g size low p.vaddr p.filesz loads order inside in
    record {
      kind = lit< tt;
      flags = lit< tt;
      offset = place-small g size low p.vaddr byte file loads areas is order held small;
      vaddr = omega arith;
      paddr = lit< tt;
      filesz = omega arith;
      memsz = omega arith;
      align = align-small (p.align == 8);
    }

notes-fit : (g size low : ℕ) (byte : ℕ → ℕ) (file : List ℕ) (loads : List Load) (areas : List Area) (notes : List Entry) → IsGranule g → AreLoads g size low loads → HoldAll g byte file loads areas → length file < 2 ^ 31
    → All (λ p. is_note loads p ≡ true) notes → EntriesFit (map (note_entry g loads areas) notes)
notes-fit g size low byte file loads areas [] is order held small h = tt
notes-fit g size low byte file loads areas (p ∷ notes) is order held small h =
    (note-fits g size low byte file loads areas p is order held small (h 0 p (omega arith)), notes-fit g size low byte file loads areas notes is order held small (All-tail (λ q. is_note loads q ≡ true) p notes h))

tls-fits : (g size low : ℕ) (byte : ℕ → ℕ) (file : List ℕ) (loads : List Load) (areas : List Area) (tls : Option Entry) → IsGranule g → AreLoads g size low loads → HoldAll g byte file loads areas → length file < 2 ^ 31
    → IfSome tls (λ p. IsTls loads p) → EntriesFit (tls_entries g loads areas tls)
tls-fits g size low byte file loads areas None is order held small h = tt
tls-fits g size low byte file loads areas (Some p) is order held small h =
    let sizes = h.sizes in let memory = h.small in let aligned = h.aligned in let top = h.top in (
      record {
        kind = lit< tt;
        flags = lit< tt;
        offset = choice-small (p.filesz == 0) 0 (place_of g loads areas p.vaddr) (256 ^ 8) (λ on. lit< tt) (place-small g size low p.vaddr byte file loads areas is order held small);
        vaddr = omega arith;
        paddr = lit< tt;
        filesz = omega arith;
        memsz = omega arith;
        align = omega arith;
      },
      tt,
    )

-- the numbers of a table
pub table-fits : (e : Taken) (byte : ℕ → ℕ) (file : List ℕ) (areas : List Area) → Meets e → HoldAll (granule_of e.machine) byte file e.loads areas → length file < 2 ^ 31 → EntriesFit (table_of e areas)
table-fits e byte file areas meets held small =
    let g : ℕ = granule_of e.machine in
    let is : IsGranule g = granule_of-is e.machine in
    let notes : List Entry = map (note_entry g e.loads areas) e.notes in
    let tls : List Entry = tls_entries g e.loads areas e.tls in
    let fits : EntriesFit (load_entries g e.loads areas ++ other_entries e areas) =
    fit-append (load_entries g e.loads areas) (other_entries e areas) (loads-fit g e.size 0 byte file e.loads areas is meets.loads held small)
    (fit-append (stack_entries e.stack) (notes ++ tls) (stack-fits e.stack)
    (fit-append notes tls (notes-fit g e.size 0 byte file e.loads areas e.notes is meets.loads held small meets.notes) (tls-fits g e.size 0 byte file e.loads areas e.tls is meets.loads held small meets.tls))) in
    subst EntriesFit (sym (table-parts e areas)) fits

machine-fits : (m : Machine) → number_of m < 256 ^ 2
machine-fits X64 = lit< tt
machine-fits A64 = lit< tt

one-small : (p : Option Entry) → one_if p ≤ 1
one-small None = omega arith
one-small (Some p) = omega arith

-- there are at most 31 entries, and at least one
pub count-few : (e : Taken) → Meets e → (0 < entry_count e) × (entry_count e ≤ 31)
count-few e meets =
    let some = meets.some in let few = meets.few in let five = meets.five in
    let stack = one-small e.stack in let tls = one-small e.tls in
    (omega arith, omega arith)

-- the numbers of an embedded header
pub header-fits : (e : Taken) (at : ℕ) → Meets e → at < 2 ^ 31 → HeaderFits (embedded_header e at)
unfolding embedded_header
header-fits e at meets small =
    let start = start-top (granule_of e.machine) e.size 0 e.entry e.loads meets.loads meets.entry in
    let count = (count-few e meets).1 in
    record {
      ident = refl;
      e_type = lit< tt;
      e_machine = machine-fits e.machine;
      e_version = lit< tt;
      e_entry = omega arith;
      e_phoff = omega arith;
      e_shoff = lit< tt;
      e_flags = lit< tt;
      e_ehsize = lit< tt;
      e_phentsize = lit< tt;
      e_phnum = omega arith;
      e_shentsize = lit< tt;
      e_shnum = lit< tt;
      e_shstrndx = lit< tt;
    }
