-- What is known of an input that is linked for Windows: its program and its directories.
use Rattle.std.proofs.Common.{◌≡◌, inl, inr, ℕ, ◌+◌, ◌-◌, ◌<◌, ◌≤◌, ◌&&◌, nat_le, nat_lt, true, List, [], ◌∷◌, length, Option, Some, None, refl, sym, subst, arith}
use Rattle.std.specs.Prelude.{All, IfSome, ◌^◌}
use Rattle.std.proofs.lemmas.Bool.{and_parts, or_cases, leb-true}
use Rattle.std.proofs.lemmas.Bool.Decides.{nat_tests}
use Rattle.ap_fields.specs.Granules.{ceil_of}
use Rattle.ap_elf.specs.declared.machine.Machine.{Machine}
use Rattle.ap_elf.specs.Machines.{granule_of}
use Rattle.ap_check.specs.declared.load.Load.{Load}
use Rattle.ap_check.specs.declared.imports.ImportTable.{ImportTable}
use Rattle.ap_check.specs.Inputs.{Taken, Meets, IsLoad, AreLoads, has_part, in_part, has_address, is_executable, can_start, first_start, last_stop}
use Rattle.ap_check.specs.ImportRule.{table_of, are_between, AreStanding}
use Rattle.ap_check.specs.Windows.{base_of, pe_entry_of, MeetsWindows, IsReady}
use Rattle.ap_layout.specs.declared.layout.Area.{Area}
use Rattle.ap_layout.specs.declared.sizes.TheConstants.{FILE_TOP}
use Rattle.ap_pe.specs.declared.program.Program.{Program}
use Rattle.ap_pe.specs.Sections.{Fit}
use Rattle.ap_pe.specs.Written.{IsProgram}
use Rattle.ap_pe.specs.Linked.{program_of, IsRange}
use Rattle.ap_pe.proofs.Rounding.{rounded}
use Rattle.ap_pe.proofs.LinkedHeaders.{from-headers}

-- where loads end at least
stop-least : (size low : ℕ) (loads : List Load) → AreLoads 4096 size low loads → low ≤ last_stop 4096 low loads
stop-least size low [] are = omega arith
stop-least size low (p ∷ loads) are =
    let n = rounded p.vaddr p.filesz p.memsz in
    let order = are.0.order in
    let sum = n.sum in
    let above = n.above in
    let more = stop-least size (ceil_of (p.vaddr + p.memsz) 4096) loads are.1 in
    omega arith

-- addresses in the file part of a load
part-within : (size low a count : ℕ) (p : Load) (loads : List Load) → IsLoad 4096 size low p → AreLoads 4096 size (ceil_of (p.vaddr + p.memsz) 4096) loads → has_part a count p ≡ true
    → (low ≤ a) × (a + count ≤ last_stop 4096 low (p ∷ loads))
part-within size low a count p loads is are h =
    let both = and_parts (nat_le p.vaddr a) (nat_le (a + count) (p.vaddr + p.filesz)) h in
    let from = leb-true p.vaddr a both.0 in
    let to = leb-true (a + count) (p.vaddr + p.filesz) both.1 in
    let sizes = is.sizes in
    let order = is.order in
    let n = rounded p.vaddr p.filesz p.memsz in
    let sum = n.sum in
    let above = n.above in
    let more = stop-least size (ceil_of (p.vaddr + p.memsz) 4096) loads are in
    (omega arith, omega arith)

in-within : (size low a count : ℕ) (loads : List Load) → AreLoads 4096 size low loads → in_part a count loads ≡ true → (low ≤ a) × (a + count ≤ last_stop 4096 low loads)
in-within size low a count [] are h = absurd (cc)
in-within size low a count (p ∷ loads) are h =
    elim (or_cases (has_part a count p) (in_part a count loads) h) [
      | inl here ↦ part-within size low a count p loads are.0 are.1 here
      | inr later ↦
          (let next = in-within size (ceil_of (p.vaddr + p.memsz) 4096) a count loads are.1 later in
          let n = rounded p.vaddr p.filesz p.memsz in
          let sum = n.sum in
          let above = n.above in
          let order = are.0.order in
          let least = next.0 in
          (omega arith, next.1))
    ]

-- an address at which a program may start
start-within : (size low a : ℕ) (loads : List Load) → AreLoads 4096 size low loads → can_start a loads ≡ true → (low ≤ a) × (a < last_stop 4096 low loads)
start-within size low a [] are h = absurd (cc)
start-within size low a (p ∷ loads) are h =
    let n = rounded p.vaddr p.filesz p.memsz in
    let sum = n.sum in
    let above = n.above in
    let order = are.0.order in
    elim (or_cases (has_address p a && is_executable p) (can_start a loads) h) [
      | inl here ↦
          (let has = (and_parts (has_address p a) (is_executable p) here).0 in
          let both = and_parts (nat_le p.vaddr a) (nat_lt a (p.vaddr + p.memsz)) has in
          let from = leb-true p.vaddr a both.0 in
          let to : a < p.vaddr + p.memsz = grind (arith, nat_tests, both.1) in
          let more = stop-least size (ceil_of (p.vaddr + p.memsz) 4096) loads are.1 in
          (omega arith, omega arith))
      | inr later ↦
          (let next = start-within size (ceil_of (p.vaddr + p.memsz) 4096) a loads are.1 later in
          let least = next.0 in
          (omega arith, next.1))
    ]

-- loads in order fit behind the headers
loads-fit : (base size low : ℕ) (loads : List Load) → AreLoads 4096 size low loads → last_stop 4096 low loads ≤ base + 2147483648 → Fit base low loads
loads-fit base size low [] are top = top
loads-fit base size low (p ∷ loads) are top = (are.0.order, are.0.sizes, loads-fit base size (ceil_of (p.vaddr + p.memsz) 4096) loads are.1 top)

-- where there are loads, what stands in front of them doesn't change where they end
stop-same : (a b : ℕ) (loads : List Load) → 0 < length loads → last_stop 4096 a loads ≡ last_stop 4096 b loads
stop-same a b [] some = absurd (omega arith)
stop-same a b (p ∷ loads) some = refl

-- what is known of its loads, behind the headers
record IsBehind (e : Taken) : Type 0 where
  pub loads : AreLoads 4096 e.size (base_of e + 8192) e.loads
  pub top : last_stop 4096 (base_of e + 8192) e.loads ≤ base_of e + 2147483648

is-behind : (e : Taken) → Meets e → MeetsWindows e → IsBehind e
is-behind e meets windows =
    let base : ℕ = base_of e in
    let order : AreLoads 4096 e.size 0 e.loads = subst (λ (m : Machine). AreLoads (granule_of m) e.size 0 e.loads) windows.machine meets.loads in
    let room : base + 8192 ≤ first_start 4096 e.loads = subst (λ (m : Machine). base + 8192 ≤ first_start (granule_of m) e.loads) windows.machine windows.room in
    let span : last_stop 4096 0 e.loads ≤ base + 2147483648 = subst (λ (m : Machine). last_stop (granule_of m) 0 e.loads ≤ base + 2147483648) windows.machine windows.span in
    record {
      loads = from-headers e.size (base + 8192) e.loads meets.some order room;
      top = subst (λ n. n ≤ base + 2147483648) (stop-same 0 (base + 8192) e.loads meets.some) span;
    }

-- it begins below 2^47
base-low : (size low : ℕ) (loads : List Load) → 0 < length loads → AreLoads 4096 size low loads → low < 2 ^ 47
base-low size low [] some are = absurd (omega arith)
base-low size low (p ∷ loads) some are =
    let n = rounded p.vaddr p.filesz p.memsz in
    let sum = n.sum in
    let order = are.0.order in
    let top = are.0.top in
    let memory = are.0.some in
    omega arith

is-program : (e : Taken) (areas : List Area) → Meets e → MeetsWindows e → length areas ≡ length e.loads → All (λ x. x.file < FILE_TOP) areas → IsProgram (program_of e) e.loads areas
is-program e areas meets windows same places =
    let behind = is-behind e meets windows in
    let low = base-low e.size (base_of e + 8192) e.loads meets.some behind.loads in
    let start = start-within e.size (base_of e + 8192) (pe_entry_of e) e.loads behind.loads windows.entry in
    let from = start.0 in
    record {
      few = meets.few;
      same = same;
      base = omega arith;
      fit = loads-fit (base_of e) e.size (base_of e + 8192) e.loads behind.loads behind.top;
      places = places;
      from = omega arith;
      to = start.1;
    }

-- where it starts
pub entry-within : (e : Taken) → Meets e → MeetsWindows e → (base_of e ≤ pe_entry_of e) × (pe_entry_of e < last_stop 4096 0 e.loads)
entry-within e meets windows =
    let behind = is-behind e meets windows in
    let start = start-within e.size (base_of e + 8192) (pe_entry_of e) e.loads behind.loads windows.entry in
    let from = start.0 in
    (omega arith, subst (λ n. pe_entry_of e < n) (stop-same (base_of e + 8192) 0 e.loads meets.some) start.1)

pub program-is : (e : Taken) (base : ℕ) (p : Program) (loads : List Load) (areas : List Area) → p ≡ program_of e → loads ≡ e.loads → Meets e → IsReady base e → length areas ≡ length e.loads
    → All (λ x. x.file < FILE_TOP) areas → IsProgram p loads areas
program-is e base p loads areas is loads_are meets ready same places =
    subst (λ x. IsProgram x loads areas) (sym is) (subst (λ x. IsProgram (program_of e) x areas) (sym loads_are) (is-program e areas meets ready.meets same places))

-- a range of addresses that stands is one of the image
range-is : (e : Taken) (least from to : ℕ) → IsBehind e → are_between least from to e.loads ≡ true → IsRange (base_of e) from to
range-is e least from to behind stands =
    let a = and_parts (nat_le (from + least) to) (nat_le (to - from) 1048576 && in_part from (to - from) e.loads) stands in
    let b = and_parts (nat_le (to - from) 1048576) (in_part from (to - from) e.loads) a.1 in
    let order = leb-true (from + least) to a.0 in
    let within = in-within e.size (base_of e + 8192) from (to - from) e.loads behind.loads b.1 in
    let low = within.0 in
    let high = within.1 in
    let top = behind.top in
    record { low = omega arith; order = omega arith; top = omega arith }

-- so are those of its directories
ranges-if : (e : Taken) (o : Option ImportTable) → IsBehind e → IfSome o (AreStanding e.loads) → IfSome o (λ t. IsRange (base_of e) t.idata t.idata_end) × IfSome o (λ t. IsRange (base_of e) t.iat t.iat_end)
ranges-if e None behind h = (tt, tt)
ranges-if e (Some t) behind h = (range-is e 20 t.idata t.idata_end behind h.table, range-is e 1 t.iat t.iat_end behind h.slots)

pub ranges-are : (e : Taken) (base : ℕ) (o : Option ImportTable) → o ≡ table_of e.symbols → IsReady base e → Meets e
    → IfSome o (λ t. IsRange base t.idata t.idata_end) × IfSome o (λ t. IsRange base t.iat t.iat_end)
ranges-are e base o is ready meets =
    let Ranges : ℕ → Option ImportTable → Type 0 = λ b x. IfSome x (λ t. IsRange b t.idata t.idata_end) × IfSome x (λ t. IsRange b t.iat t.iat_end) in
    subst (λ x. Ranges base x) (sym is) (subst (λ b. Ranges b (table_of e.symbols)) (sym ready.base) (ranges-if e (table_of e.symbols) (is-behind e meets ready.meets) ready.meets.imports))
