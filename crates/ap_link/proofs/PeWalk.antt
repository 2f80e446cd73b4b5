-- The sections of an input's loads follow each other, no rule refuses them, and their regions show the loads and gaps.
use Rattle.std.proofs.Common.{◌≡◌, inl, inr, ℕ, ◌+◌, ◌*◌, ◌-◌, ◌%◌, ◌^◌, ◌<◌, ◌≤◌, Bool, true, false, if◌then◌else◌, nat_lt, List, [], ◌∷◌, ◌++◌, length, map, Option, Some, None, refl, sym, ap, ◌∙◌, subst, arith}
use Rattle.std.proofs.lemmas.Bool.Decides.{nat_tests}
use Rattle.ap_fields.specs.FirstFault.{first_fault}
use Rattle.ap_fields.specs.Granules.{floor_of, ceil_of}
use Rattle.ap_fields.specs.Readings.{Cell, bytes_in}
use Rattle.ap_fields.proofs.FirstFaults.{none-append}
use Rattle.ap_check.specs.declared.load.Load.{Load}
use Rattle.ap_check.specs.Inputs.{IsLoad, AreLoads, first_start, last_stop}
use Rattle.ap_image.specs.declared.plan.Region.{Region}
use Rattle.ap_image.specs.Plans.{region_byte}
use Rattle.ap_layout.specs.declared.layout.Area.{Area}
use Rattle.ap_link.specs.LinkedIn.{HoldAll}
use Rattle.ap_link.proofs.Shown.{ShowAll, IsElse, backed-shows}
use Rattle.ap_pe.specs.declared.types.PeSection.{PeSection}
use Rattle.ap_pe.specs.Sections.{Named, load_section, filler_section, sections_behind}
use Rattle.ap_pe.specs.PeReading.{section_rules, sections_rules, extent_of, end_behind}
use Rattle.ap_pe.proofs.HeaderReads.{SectionsFit}
use Rattle.ap_pemap.specs.PePlans.{region_of}
use Rattle.ap_link.specs.PeImages.{IsClear}
use Rattle.ap_pe.proofs.Rounding.{rounded}
use Rattle.ap_link.proofs.PeSections.{SectionIs, load-is, filler-is, load-backed, GapIs, gap-is}

abbrev pub bare : List Named → List PeSection
bare named = map (λ s. s.1) named

-- sections from one address to another are refused by nothing
pub record Passes (len base low last : ℕ) (named : List Named) : Type 0 where
  pub passes : (k : ℕ) → first_fault (sections_rules len 4096 k (low - base) (bare named)) ≡ None
  pub ends : end_behind 4096 (low - base) (bare named) ≡ last - base
  pub fits : SectionsFit named

passes-on : (len base from to last letter : ℕ) (s : PeSection) (named : List Named) → base ≤ from → from ≤ to → SectionIs len base from to s → Passes len base to last named → Passes len base from last ((letter, s) ∷ named)
passes-on len base from to last letter s named low up is rest =
    let extent = is.extent in
    let next : from - base + extent_of 4096 s ≡ to - base = omega arith in
    record {
      passes = λ k. none-append (section_rules len 4096 k (from - base) s) (sections_rules len 4096 (k + 1) (from - base + extent_of 4096 s) (bare named)) (is.passes k)
          ∙ ap (λ n. first_fault (sections_rules len 4096 (k + 1) n (bare named))) next
          ∙ rest.passes (k + 1);
      ends = ap (λ n. end_behind 4096 n (bare named)) next ∙ rest.ends;
      fits = (is.fits, rest.fits);
    }

-- and their regions show loads
pub record IsWalk (byte : ℕ → ℕ) (file : List ℕ) (Else : ℕ → Option Cell → Type 0) (base low most : ℕ) (loads : List Load) (named : List Named) : Type 0 where
  pub passes : Passes (length file) base low (last_stop 4096 low loads) named
  pub shows : ShowAll 4096 byte (bytes_in file) Else loads (map (region_of base 4096) (bare named))
  pub count : length named ≤ most

-- zeros are allowed beside the loads
abbrev pub GapsAllowed : (ℕ → Option Cell → Type 0) → ℕ → List Load → Type 0
GapsAllowed Else low loads = (a : ℕ) → low ≤ a → a < last_stop 4096 low loads → IsClear loads a → Else a (Some (0, 4))

clear-below : (size low : ℕ) (loads : List Load) (a : ℕ) → AreLoads 4096 size low loads → a < low → IsClear loads a
clear-below size low [] a order below = tt
clear-below size low (p ∷ loads) a order below =
    let first = order.0.order in
    let n = rounded p.vaddr p.filesz p.memsz in
    let sum = n.sum in let above = n.above in
    (λ from to. absurd (omega arith), clear-below size (ceil_of (p.vaddr + p.memsz) 4096) loads a order.1 (omega arith))

pub last-above : (size low : ℕ) (loads : List Load) → AreLoads 4096 size low loads → low ≤ last_stop 4096 low loads
last-above size low [] order = omega arith
last-above size low (p ∷ loads) order =
    let first = order.0.order in
    let n = rounded p.vaddr p.filesz p.memsz in
    let sum = n.sum in let above = n.above in
    let rest = last-above size (ceil_of (p.vaddr + p.memsz) 4096) loads order.1 in
    omega arith

-- what a gap's region shows
gap-shows : (from to : ℕ) (shown : ℕ → ℕ) (r : Region) (a : ℕ) → GapIs from to r → ◌≡◌ {A = Option Cell} (Some (region_byte shown r a, r.perms.0)) (Some (0, 4))
gap-shows from to shown r a is =
    let none = is.backed in
    let perms = is.perms in
    let off : nat_lt (a - r.start) r.backed ≡ false = grind (arith, nat_tests) in
    rw (off, perms) refl

gap-else : (size low base : ℕ) (shown : ℕ → ℕ) (Else : ℕ → Option Cell → Type 0) (p : Load) (loads : List Load) (r : Region) → AreLoads 4096 size low (p ∷ loads) → GapsAllowed Else low (p ∷ loads)
    → GapIs low (floor_of p.vaddr 4096) r → IsElse 4096 shown Else (p ∷ loads) r
gap-else size low base shown Else p loads r order allowed is =
    let start = is.start in let stop = is.stop in
    let n = rounded p.vaddr p.filesz p.memsz in
    let sum = n.sum in let above = n.above in
    let load = order.0 in
    let from : IsLoad 4096 size (floor_of p.vaddr 4096) p = record { some = load.some; sizes = load.sizes; part = load.part; base = load.base; top = load.top; order = omega arith; perms = load.perms; readable = load.readable } in
    let last = last-above size (ceil_of (p.vaddr + p.memsz) 4096) loads order.1 in
    record {
      before = omega arith;
      found = λ a low below. subst (Else a) (sym (gap-shows _ _ shown r a is)) (allowed a (omega arith) (omega arith) (clear-below size (floor_of p.vaddr 4096) (p ∷ loads) a (from, order.1) (omega arith)));
    }

-- a gap before a load, if there is one
with-gap : (b : Bool) (size low base most : ℕ) (byte : ℕ → ℕ) (file : List ℕ) (Else : ℕ → Option Cell → Type 0) (p : Load) (loads : List Load) (named : List Named)
    → nat_lt low (floor_of p.vaddr 4096) ≡ b → base ≤ low → low % 4096 ≡ 0 → AreLoads 4096 size low (p ∷ loads) → last_stop 4096 low (p ∷ loads) ≤ base + 2 ^ 31 → GapsAllowed Else low (p ∷ loads)
    → IsWalk byte file Else base (floor_of p.vaddr 4096) most (p ∷ loads) named
    → IsWalk byte file Else base low (most + 1) (p ∷ loads) ((if b then (103, filler_section base low (floor_of p.vaddr 4096)) ∷ [] else []) ++ named)
with-gap false size low base most byte file Else p loads named is room even order short allowed walk =
    let first = order.0.order in
    let same : floor_of p.vaddr 4096 ≡ low = grind (arith, nat_tests) in
    let count = walk.count in
    let w : IsWalk byte file Else base low most (p ∷ loads) named = subst (λ n. IsWalk byte file Else base n most (p ∷ loads) named) same walk in
    record { passes = w.passes; shows = w.shows; count = omega arith }
with-gap true size low base most byte file Else p loads named is room even order short allowed walk =
    let to : ℕ = floor_of p.vaddr 4096 in
    let some : low < to = grind (arith, nat_tests) in
    let n = rounded p.vaddr p.filesz p.memsz in
    let sum = n.sum in let above = n.above in
    let last = last-above size (ceil_of (p.vaddr + p.memsz) 4096) loads order.1 in
    let gap : SectionIs (length file) base low to (filler_section base low to) = filler-is (length file) base low to room some (omega arith) even n.start in
    let count = walk.count in
    record {
      passes = passes-on (length file) base low to (last_stop 4096 low (p ∷ loads)) 103 (filler_section base low to) named room (omega arith) gap walk.passes;
      shows = inr (gap-else size low base (bytes_in file) Else p loads (region_of base 4096 (filler_section base low to)) order allowed (gap-is (length file) base low to room some gap), walk.shows);
      count = omega arith;
    }

-- the sections of loads, from an address on
pub walk : (size low base : ℕ) (byte : ℕ → ℕ) (file : List ℕ) (Else : ℕ → Option Cell → Type 0) (loads : List Load) (areas : List Area)
    → base ≤ low → low % 4096 ≡ 0 → AreLoads 4096 size low loads → HoldAll 4096 byte file loads areas → last_stop 4096 low loads ≤ base + 2 ^ 31 → length file < 2 ^ 31 → GapsAllowed Else low loads
    → IsWalk byte file Else base low (2 * length loads) loads (sections_behind base low loads areas)
walk size low base byte file Else [] [] room even order held span short allowed = record { passes = record { passes = λ k. refl; ends = refl; fits = tt }; shows = tt; count = omega arith }
walk size low base byte file Else [] (x ∷ areas) room even order held span short allowed = absurd held
walk size low base byte file Else (p ∷ loads) [] room even order held span short allowed = absurd held
walk size low base byte file Else (p ∷ loads) (x ∷ areas) room even order held span short allowed =
    let from : ℕ = floor_of p.vaddr 4096 in
    let to : ℕ = ceil_of (p.vaddr + p.memsz) 4096 in
    let s : PeSection = load_section base p x in
    let n = rounded p.vaddr p.filesz p.memsz in
    let first = order.0.order in
    let sum = n.sum in let above = n.above in
    let last = last-above size to loads order.1 in
    let rest : IsWalk byte file Else base to (2 * length loads) loads (sections_behind base to loads areas) =
    walk size to base byte file Else loads areas (omega arith) n.stop order.1 held.1 span short
    (λ a above below clear. allowed a (omega arith) below ((λ f t. absurd (omega arith)), clear)) in
    let is : SectionIs (length file) base from to s = load-is size low base byte file p x order.0 held.0 (omega arith) (omega arith) short in
    let count = rest.count in
    let here : IsWalk byte file Else base from (2 * length loads + 1) (p ∷ loads) ((97, s) ∷ sections_behind base to loads areas) = record {
      passes = passes-on (length file) base from to (last_stop 4096 to loads) 97 s (sections_behind base to loads areas) (omega arith) (omega arith) is rest.passes;
      shows = inl (
        backed-shows 4096 byte file p x (region_of base 4096 s) (inl refl) held.0.holds (load-backed size low base byte file p x order.0 held.0 (omega arith) is),
        rest.shows,
      );
      count = omega arith;
    } in
    let all = with-gap (nat_lt low from) size low base (2 * length loads + 1) byte file Else p loads ((97, s) ∷ sections_behind base to loads areas) refl room even order span allowed here in
    let most = all.count in
    record { passes = all.passes; shows = all.shows; count = omega arith }

-- where the loads end
pub last-is : (size low : ℕ) (loads : List Load) → AreLoads 4096 size low loads → low % 4096 ≡ 0 → low ≤ 2 ^ 47 → (last_stop 4096 low loads % 4096 ≡ 0) × (last_stop 4096 low loads ≤ 2 ^ 47)
last-is size low [] order even top = (even, top)
last-is size low (p ∷ loads) order even top =
    let n = rounded p.vaddr p.filesz p.memsz in
    let high = order.0.top in
    let fits : ceil_of (p.vaddr + p.memsz) 4096 ≤ 2 ^ 47 = omega arith in
    last-is size (ceil_of (p.vaddr + p.memsz) 4096) loads order.1 n.stop fits

-- the loads from the headers' end on
pub from-headers : (size low : ℕ) (loads : List Load) → 0 < length loads → AreLoads 4096 size 0 loads → low ≤ first_start 4096 loads → AreLoads 4096 size low loads × (last_stop 4096 low loads ≡ last_stop 4096 0 loads)
from-headers size low [] some order room = absurd (omega arith)
from-headers size low (p ∷ loads) some order room =
    let load = order.0 in
    let here : IsLoad 4096 size low p = record { some = load.some; sizes = load.sizes; part = load.part; base = load.base; top = load.top; order = room; perms = load.perms; readable = load.readable } in
    ((here, order.1), refl)
