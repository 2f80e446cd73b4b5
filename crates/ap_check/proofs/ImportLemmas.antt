-- Rule 28: what holds where its first parts do, and the regions of an input.
use Rattle.std.proofs.Common.{◌≡◌, ℕ, ◌+◌, ◌-◌, ◌^◌, ◌<◌, ◌≤◌, nat_lt, if◌then◌else◌, Bool, true, false, List, [], ◌∷◌, map, Option, Some, unwrap_or, Result, Ok, Err, refl, sym, ap, ◌∙◌, arith, inl, inr, lit≤, None}
use Rattle.std.specs.Option.{option_map}
use Rattle.std.proofs.lemmas.Bool.{cases_Bool, cases_eq, eq-eqb, ne_eqb}
use Rattle.std.proofs.lemmas.Bool.Decides.{nat_tests}
use Rattle.std.proofs.Math.Nat.{div-mul-le_self}
use Rattle.ap_fields.specs.Granules.{IsGranule, floor_of, ceil_of}
use Rattle.ap_fields.proofs.Granules.{ceil_of-least}
use Rattle.std.specs.FinMap as map
use Rattle.ap_fields.specs.Readings.{Cell, bytes_in}
use Rattle.ap_files.specs.Files.{FileMap, FileState, told_bytes}
use Rattle.ap_files.proofs.ReadLemmas.{some_same}
use Rattle.ap_elf.specs.declared.types.Entry.{Entry}
use Rattle.ap_elf.specs.InputCell.{input_cell, permissions_of}
use Rattle.ap_elf.specs.declared.machine.Machine.{Machine}
use Rattle.ap_elf.specs.declared.machine.Machine.TheVariants.{X64, A64}
use Rattle.ap_elf.specs.Machines.{granule_of}
use Rattle.ap_image.specs.declared.plan.Region.{Region}
use Rattle.ap_image.specs.Plans.{AreAscendingFrom, AreBacked, cell_in, region_byte}
use Rattle.ap_image.specs.Cells.{Memory, CellsState, Others}
use Rattle.ap_image.specs.PlanCells.{shown_by, byte_of, file_state}
use Rattle.ap_check.specs.declared.load.Load.{Load}
use Rattle.ap_check.specs.declared.end.CheckEnd.{CheckEnd}
use Rattle.ap_check.specs.declared.end.CheckEnd.TheVariants.{Rule, ReadFault}
use Rattle.ap_check.specs.Inputs.{Taken, AreLoads, IsLoad, has_address, has_part, in_part, load_of}
use Rattle.ap_check.specs.InputPlans.{region_of}
use Rattle.ap_fields.specs.FirstFault.{first_fault}
use Rattle.ap_fields.proofs.FirstFaults.{append-none}
use Rattle.ap_image.specs.ImportWalk.{items_of}
use Rattle.ap_image.specs.declared.import_step.Ending.{Ending}
use Rattle.ap_image.specs.declared.import_step.Ending.TheVariants as end
use Rattle.ap_check.specs.declared.imports.ImportTable.{ImportTable}
use Rattle.ap_check.specs.ImportRule.{range_rules, walk_rules, walked_rules, load_byte, memory_of, are_between, table_of, table_rules, import_rules, ChecksCells, ChecksTold}

-- addresses in the file part of a load
pub part-top : (g size low a count : ℕ) (loads : List Load) → AreLoads g size low loads → in_part a count loads ≡ true → a + count ≤ 2 ^ 47
part-top g size low a count [] order on = absurd (cc)
part-top g size low a count (p ∷ loads) order on =
    elim (cases_Bool (has_part a count p)) [
      | inl here ↦ (let load = order.0 in let top = load.top in let sizes = load.sizes in grind (arith, nat_tests))
      | inr off ↦
          let rest : in_part a count (p ∷ loads) ≡ in_part a count loads = rw off refl in
          part-top g size (ceil_of (p.vaddr + p.memsz) g) a count loads order.1 (sym rest ∙ on)
    ]

pub between-top : (g size least from to : ℕ) (loads : List Load) → AreLoads g size 0 loads → are_between least from to loads ≡ true → (from ≤ 2 ^ 47) × (to ≤ 2 ^ 47)
between-top g size least from to loads order on =
    let first : from + least ≤ to = grind (arith, nat_tests) in
    let part : in_part from (to - from) loads ≡ true = grind (arith, nat_tests) in
    let top = part-top g size 0 from (to - from) loads order part in
    (omega arith, omega arith)

-- the regions of loads
at_none : (p : Load) → p.filesz ≡ 0 → (region_of p).at ≡ 0
at_none p e = ap (λ (b : Bool). if b then 0 else p.offset) (eq-eqb p.filesz 0 e)

at_some : (p : Load) → 0 < p.filesz → (region_of p).at ≡ p.offset
at_some p l = ap (λ (b : Bool). if b then 0 else p.offset) (ne_eqb p.filesz 0 (λ e. absurd (omega arith)))

ascend_from : (g size low to : ℕ) (loads : List Load) → IsGranule g → to ≤ low → to ≤ 2 ^ 47 → AreLoads g size low loads → AreAscendingFrom to (map region_of loads)
ascend_from g size low to [] granule under top order = top
ascend_from g size low to (p ∷ loads) granule under top order =
    let is = order.0 in
    let floor : floor_of p.vaddr g ≤ p.vaddr = div-mul-le_self p.vaddr g in
    let above : low ≤ floor_of p.vaddr g = is.order in
    let ends : p.vaddr + p.memsz ≤ 2 ^ 47 = is.top in
    let over : p.vaddr + p.memsz ≤ ceil_of (p.vaddr + p.memsz) g = ceil_of-least (p.vaddr + p.memsz) g granule in
    let first : to ≤ p.vaddr = omega arith in
    (first, record { maps = is.some; part = is.sizes; bare = at_none p }, ascend_from g size (ceil_of (p.vaddr + p.memsz) g) (p.vaddr + p.memsz) loads granule over ends order.1)

pub regions-ascend : (m : Machine) (size : ℕ) (loads : List Load) → AreLoads (granule_of m) size 0 loads → AreAscendingFrom 0 (map region_of loads)
regions-ascend X64 size loads order = ascend_from 4096 size 0 0 loads (inl refl) (omega arith) (lit≤ tt) order
regions-ascend A64 size loads order = ascend_from 16384 size 0 0 loads (inr refl) (omega arith) (lit≤ tt) order

part_backed : (g size low : ℕ) (p : Load) → IsLoad g size low p → (region_of p).at + p.filesz ≤ size
part_backed g size low p is =
    elim (cases_eq p.filesz 0) [
      | inl none ↦ let at : (region_of p).at ≡ 0 = at_none p none in omega arith
      | inr some ↦
          let more : 0 < p.filesz = omega arith in
          let at : (region_of p).at ≡ p.offset = at_some p more in
          let fits : p.offset + p.filesz ≤ size = is.part more in
          omega arith
    ]

pub regions-backed : (g size low : ℕ) (loads : List Load) → AreLoads g size low loads → AreBacked (map region_of loads) size
regions-backed g size low [] order = tt
regions-backed g size low (p ∷ loads) order = (part_backed g size low p order.0, regions-backed g size (ceil_of (p.vaddr + p.memsz) g) loads order.1)

-- the byte of a load is that of its region
region-byte : (byte : ℕ → ℕ) (p : Load) (a : ℕ) → region_byte byte (region_of p) a ≡ load_byte byte p a
region-byte byte p a =
    elim (cases_eq p.filesz 0) [
      | inl none ↦
          let off : nat_lt (a - p.vaddr) p.filesz ≡ false = grind (arith, nat_tests) in
          rw off refl
      | inr some ↦
          let more : 0 < p.filesz = omega arith in
          ap (λ at. if nat_lt (a - p.vaddr) p.filesz then byte (at + (a - p.vaddr)) else 0) (at_some p more)
    ]

shown_first : (b : Bool) (x y perms : ℕ) (rest : Option Cell) (others : Option ℕ) → x ≡ y → option_map byte_of rest ≡ others
    → option_map byte_of (if b then Some (x, perms) else rest) ≡ (if b then Some y else others)
shown_first true x y perms rest others e f = ap (λ x. Some x) e
shown_first false x y perms rest others e f = f

pub regions-show : (byte : ℕ → ℕ) (loads : List Load) (a : ℕ) → shown_by byte (map region_of loads) a ≡ memory_of byte loads a
regions-show byte [] a = refl
regions-show byte (p ∷ loads) a =
    shown_first (has_address p a) (region_byte byte (region_of p) a) (load_byte byte p a) p.perms.0 (cell_in byte (map region_of loads) a) (memory_of byte loads a)
    (region-byte byte p a) (regions-show byte loads a)

-- the bytes of an input are those of its cells
pub memory-cells : (byte : ℕ → ℕ) (entries : List Entry) (a : ℕ) → memory_of byte (map load_of entries) a ≡ option_map byte_of (input_cell byte entries a)
memory-cells byte [] a = refl
memory-cells byte (p ∷ entries) a =
    sym (shown_first (has_address (load_of p) a) (load_byte byte (load_of p) a) (load_byte byte (load_of p) a) (permissions_of p) (input_cell byte entries a) (memory_of byte (map load_of entries) a)
    refl (sym (memory-cells byte entries a)))

-- what a check of a file's bytes in memory says of the file
files-same : (old new : FileState) (name : List ℕ) (name' : List ℕ) (regions regions' : List Region) (b b' : ℕ) → file_state new name' regions' b' ≡ file_state old name regions b
    → (new ≡ old) × (b' ≡ b)
files-same old new name name' regions regions' b b' e =
    let same = some_same (ap (λ (s : CellsState). s.others) e) in
    let faults = ap (λ (s : CellsState). s.faults) e in (
      λ i. record {
        kept = (same i).kept;
        unfinished = (same i).unfinished;
        read_faults = faults i;
        write_faults = (same i).write_faults;
        absences = (same i).absences;
      },
      ap (λ (o : Others). o.borrowed) same,
    )

told_memory : (kept : Option FileMap) (name b : List ℕ) (m : FileMap) (regions : List Region) (memory : Memory) → kept ≡ Some m → map.get m name ≡ Some b
    → ((a : ℕ) → shown_by (bytes_in b) regions a ≡ memory a)
    → option_map (λ m. shown_by (bytes_in (told_bytes (Some m) name)) regions) kept ≡ Some memory
told_memory kept name b m regions memory k at h =
    let bytes : told_bytes (Some m) name ≡ b = ap (λ o. unwrap_or o []) at in
    let shown : shown_by (bytes_in b) regions ≡ memory = λ i a. h a i in
    ap (option_map (λ m. shown_by (bytes_in (told_bytes (Some m) name)) regions)) k
    ∙ ap (λ b. Some (shown_by (bytes_in b) regions)) bytes
    ∙ ap (λ (x : Memory). Some x) shown

pub record IsInputPlan (i : Taken) (regions : List Region) : Type 0 where
  pub shows : (byte : ℕ → ℕ) (a : ℕ) → shown_by byte regions a ≡ memory_of byte i.loads a

pub file-checked : (old new : FileState) (name name' : List ℕ) (regions regions' : List Region) (b b' : ℕ) (i : Taken) (base : ℕ) (result : Result (Unit {0}) CheckEnd) → IsInputPlan i regions
    → ChecksCells (file_state old name regions b) (file_state new name' regions' b') (λ memory. table_rules i.number i.loads base memory (table_of i.symbols)) result
    → ChecksTold old new name (import_rules i base) result × (b' ≡ b)
unfolding import_rules
file-checked old new name name' regions regions' b b' i base (Ok done) plan h =
    let same = files-same old new name name' regions regions' b b' h.0 in
    ((same.0, λ m bytes told at. h.1 (memory_of (bytes_in bytes) i.loads) (told_memory old.kept name bytes m regions (memory_of (bytes_in bytes) i.loads) told at (plan.shows (bytes_in bytes)))), same.1)
file-checked old new name name' regions regions' b b' i base (Err (Rule f)) plan h =
    let same = files-same old new name name' regions regions' b b' h.0 in
    ((same.0, λ m bytes told at. h.1 (memory_of (bytes_in bytes) i.loads) (told_memory old.kept name bytes m regions (memory_of (bytes_in bytes) i.loads) told at (plan.shows (bytes_in bytes)))), same.1)
file-checked old new name name' regions regions' b b' i base (Err ReadFault) plan h =
    let same = some_same h.others in (
      record {
        files = record { kept = ap (λ (o : Others). o.kept) same; unfinished = ap (λ (o : Others). o.unfinished) same };
        rose = h.faults;
        write_faults = ap (λ (o : Others). o.write_faults) same;
        absences = ap (λ (o : Others). o.absences) same;
      },
      ap (λ (o : Others). o.borrowed) same,
    )

-- where rule 28 holds, the walk ends at the entry that closes the table
done_of : (n : ℕ) (ending : Ending) → first_fault (walk_rules n ending) ≡ None → ending ≡ end.Done
done_of n end.Done h = refl
done_of n (end.Fault f) h = absurd (cc)

pub walk-done : (n : ℕ) (loads : List Load) (base : ℕ) (memory : Memory) (t : ImportTable) → first_fault (table_rules n loads base memory (Some t)) ≡ None
    → (items_of memory base t.idata (Some t.idata_end)).ending ≡ end.Done
walk-done n loads base memory t h =
    done_of n (items_of memory base t.idata (Some t.idata_end)).ending (append-none (range_rules n loads t) (walked_rules n base memory t) h).1

pub ruleset memory_steps = (memory-cells)

pub ruleset end_steps = (walk-done)
