-- The section of a load and the section of a gap: where they stand, that no rule refuses them, and what they show.
use Rattle.std.proofs.Common.{◌≡◌, inl, inr, ℕ, ◌+◌, ◌-◌, ◌%◌, ◌^◌, ◌<◌, ◌≤◌, Bool, true, false, not, if◌then◌else◌, nat_le, ◌==◌, ◌&&◌, ◌||◌, List, length, None, refl, ap, ◌∙◌, arith}
use Rattle.std.proofs.lemmas.Bool.{cases_Bool}
use Rattle.std.proofs.lemmas.Bool.Decides.{nat_tests}
use Rattle.ap_fields.specs.FirstFault.{first_fault}
use Rattle.ap_fields.specs.Granules.{floor_of, ceil_of}
use Rattle.ap_check.specs.declared.load.Load.{Load}
use Rattle.ap_check.specs.Inputs.{IsLoad}
use Rattle.ap_image.specs.declared.plan.Region.{Region}
use Rattle.ap_image.specs.Plans.{end_of}
use Rattle.ap_layout.specs.declared.layout.Area.{Area}
use Rattle.ap_layout.specs.Areas.{content_length}
use Rattle.ap_link.specs.LinkedIn.{IsHeld}
use Rattle.ap_link.proofs.Passing.{area-fits}
use Rattle.ap_link.proofs.Shown.{IsBackedBy}
use Rattle.ap_pe.specs.declared.types.PeSection.{PeSection}
use Rattle.ap_pe.specs.Sections.{raw_of, load_section, filler_section}
use Rattle.ap_pe.specs.PeReading.{section_rules, extent_of}
use Rattle.ap_pe.proofs.HeaderReads.{SectionFits}
use Rattle.ap_pemap.specs.PePlans.{region_of}
use Rattle.ap_pe.proofs.Rounding.{rounded, gap-extent}
use Rattle.ap_link.proofs.PePerms.{perms-back, flags-small, readable}

-- a section that has the addresses between two and that no rule refuses
pub record SectionIs (len base from to : ℕ) (s : PeSection) : Type 0 where
  pub vaddr : s.vaddr ≡ from - base
  pub extent : extent_of 4096 s ≡ to - from
  pub passes : (k : ℕ) → first_fault (section_rules len 4096 k (from - base) s) ≡ None
  pub fits : SectionFits s

le-test : (a b : ℕ) → a ≤ b → nat_le a b ≡ true
le-test a b h = grind (arith, nat_tests)

-- a section that meets the rules is refused by none
rules-none : (len k end : ℕ) (s : PeSection) → 0 < s.vsize → s.vaddr ≡ end → (0 < s.raw → s.at % 512 ≡ 0) → (0 < s.raw → s.at + s.raw ≤ len) → end + extent_of 4096 s ≤ 2 ^ 32
    → first_fault (section_rules len 4096 k end s) ≡ None
rules-none len k end s some there even part top =
    let t1 : not (s.vsize == 0 && s.raw == 0) ≡ true = grind (arith, nat_tests) in
    let t2 : (s.vaddr == end) ≡ true = grind (arith, nat_tests) in
    let t3 : (s.raw == 0 || s.at % 512 == 0) ≡ true = grind (arith, nat_tests) in
    let t4 : (s.raw == 0 || nat_le (s.at + s.raw) len) ≡ true = grind (arith, nat_tests) in
    let t5 : nat_le (end + extent_of 4096 s) (2 ^ 32) ≡ true = le-test (end + extent_of 4096 s) (2 ^ 32) top in
    rw (t1, t2, t3, t4, t5) refl

extent-some : (s : PeSection) → 0 < s.vsize → extent_of 4096 s ≡ ceil_of s.vsize 4096
extent-some s some = let z : (s.vsize == 0) ≡ false = grind (arith, nat_tests) in ap (λ (b : Bool). ceil_of (if b then s.raw else s.vsize) 4096) z

raw-none : (p : Load) → p.filesz ≡ 0 → raw_of p ≡ 0
raw-none p z = let t : (p.filesz == 0) ≡ true = grind (arith, nat_tests) in rw t refl

raw-some : (p : Load) → 0 < p.filesz → raw_of p ≡ ceil_of (p.vaddr % 4096 + p.filesz) 512
raw-some p some = let t : (p.filesz == 0) ≡ false = grind (arith, nat_tests) in rw t refl

-- what is known of the bytes that a load's section shows
record RawIs (len : ℕ) (p : Load) (x : Area) : Type 0 where
  pub bare : p.filesz ≡ 0 → raw_of p ≡ 0
  pub least : 0 < p.filesz → p.vaddr % 4096 + p.filesz ≤ raw_of p
  pub most : 0 < p.filesz → raw_of p ≤ content_length 4096 p
  pub within : floor_of p.vaddr 4096 + raw_of p ≤ ceil_of (p.vaddr + p.memsz) 4096
  pub even : 0 < raw_of p → x.file % 512 ≡ 0
  pub part : 0 < raw_of p → x.file + raw_of p ≤ len

raw-is : (size low : ℕ) (byte : ℕ → ℕ) (file : List ℕ) (p : Load) (x : Area) → IsLoad 4096 size low p → IsHeld 4096 byte file p x → RawIs (length file) p x
unfolding content_length
raw-is size low byte file p x load held =
    let n = rounded p.vaddr p.filesz p.memsz in
    elim (cases_Bool (p.filesz == 0)) [
      | inl none ↦
          (let z : p.filesz ≡ 0 = grind (arith, nat_tests) in
          let r = raw-none p z in
          let h1 = n.sum in let h2 = n.above in
          record {
            bare = λ h. r;
            least = λ h. absurd (omega arith);
            most = λ h. absurd (omega arith);
            within = omega arith;
            even = λ h. absurd (omega arith);
            part = λ h. absurd (omega arith);
          })
      | inr not_none ↦
          (let some : 0 < p.filesz = grind (arith, nat_tests) in
          let r = raw-some p some in
          let h1 = n.raw_least in let h2 = n.raw_most in let h3 = n.raw_within load.sizes in
          let h4 = held.granule some in
          let h5 = area-fits 4096 byte file p x (inl refl) held some in
          record {
            bare = λ h. absurd (omega arith);
            least = λ h. omega arith;
            most = λ h. omega arith;
            within = omega arith;
            even = λ h. omega arith;
            part = λ h. omega arith;
          })
    ]

-- the place of an area has 32 bits
place-small : (file : List ℕ) (byte : ℕ → ℕ) (p : Load) (x : Area) → IsHeld 4096 byte file p x → length file < 2 ^ 31 → x.file < 2 ^ 32
place-small file byte p x held short =
    elim (cases_Bool (p.filesz == 0)) [
      | inl none ↦ (let z : p.filesz ≡ 0 = grind (arith, nat_tests) in let e : x.file ≡ 0 = ap (λ (a : Area). a.file) (held.bare z) in omega arith)
      | inr not_none ↦ (let some : 0 < p.filesz = grind (arith, nat_tests) in let h = area-fits 4096 byte file p x (inl refl) held some in omega arith)
    ]

-- a load's section
pub load-is : (size low base : ℕ) (byte : ℕ → ℕ) (file : List ℕ) (p : Load) (x : Area) → IsLoad 4096 size low p → IsHeld 4096 byte file p x
    → base ≤ floor_of p.vaddr 4096 → ceil_of (p.vaddr + p.memsz) 4096 ≤ base + 2 ^ 31 → length file < 2 ^ 31
    → SectionIs (length file) base (floor_of p.vaddr 4096) (ceil_of (p.vaddr + p.memsz) 4096) (load_section base p x)
unfolding load_section
load-is size low base byte file p x load held from to short =
    let s : PeSection = load_section base p x in
    let n = rounded p.vaddr p.filesz p.memsz in
    let r = raw-is size low byte file p x load held in
    let maps = load.some in
    let sum = n.sum in let above = n.above in
    let some : 0 < s.vsize = omega arith in
    let extent : extent_of 4096 s ≡ ceil_of (p.vaddr + p.memsz) 4096 - floor_of p.vaddr 4096 = extent-some s some ∙ n.extent in
    let within = r.within in
    record {
      vaddr = refl;
      extent = extent;
      passes = λ k. rules-none (length file) k (floor_of p.vaddr 4096 - base) s some refl r.even r.part (omega arith);
      fits = record {
        vsize = omega arith;
        vaddr = omega arith;
        raw = omega arith;
        at = place-small file byte p x held short;
        flags = flags-small p.perms.0 (raw_of p == 0);
      };
    }

-- a gap's section
pub filler-is : (len base from to : ℕ) → base ≤ from → from < to → to ≤ base + 2 ^ 31 → from % 4096 ≡ 0 → to % 4096 ≡ 0 → SectionIs len base from to (filler_section base from to)
unfolding filler_section
filler-is len base from to low some high even_from even_to =
    let s : PeSection = filler_section base from to in
    let is : 0 < s.vsize = omega arith in
    let extent : extent_of 4096 s ≡ to - from = extent-some s is ∙ gap-extent from to even_from even_to (omega arith) in
    record {
      vaddr = refl;
      extent = extent;
      passes = λ k. rules-none len k (from - base) s is refl (λ h. refl) (λ h. absurd (omega arith)) (omega arith);
      fits = record { vsize = omega arith; vaddr = omega arith; raw = omega arith; at = omega arith; flags = omega arith };
    }

-- the region of a load's section is backed by the load's area
pub load-backed : (size low base : ℕ) (byte : ℕ → ℕ) (file : List ℕ) (p : Load) (x : Area) → IsLoad 4096 size low p → IsHeld 4096 byte file p x
    → base ≤ floor_of p.vaddr 4096 → SectionIs (length file) base (floor_of p.vaddr 4096) (ceil_of (p.vaddr + p.memsz) 4096) (load_section base p x)
    → IsBackedBy 4096 p x (region_of base 4096 (load_section base p x))
unfolding load_section region_of
load-backed size low base byte file p x load held from is =
    let n = rounded p.vaddr p.filesz p.memsz in
    let r = raw-is size low byte file p x load held in
    let sum = n.sum in let above = n.above in let small = n.small in
    let extent = is.extent in
    let within = r.within in
    record {
      low = omega arith;
      start = omega arith;
      stop = omega arith;
      high = omega arith;
      perms = perms-back p.perms.0 (raw_of p == 0) load.perms (readable p load.readable);
      bare = λ z. (let b = r.bare z in grind (arith, nat_tests));
      at = λ some. (let b = r.least some in let c = held.past some in grind (arith, nat_tests));
      whole = λ some. (let b = r.least some in let c = held.past some in grind (arith, nat_tests));
      within = λ some. (let b = r.most some in let c = held.past some in grind (arith, nat_tests));
    }

-- the region of a gap's section: its addresses, and what they show
pub record GapIs (from to : ℕ) (r : Region) : Type 0 where
  pub start : r.start ≡ from
  pub stop : end_of r ≡ to
  pub backed : r.backed ≡ 0
  pub perms : r.perms.0 ≡ 4

pub gap-is : (len base from to : ℕ) → base ≤ from → from < to → SectionIs len base from to (filler_section base from to) → GapIs from to (region_of base 4096 (filler_section base from to))
unfolding filler_section region_of
gap-is len base from to low some is =
    let extent = is.extent in
    record { start = omega arith; stop = omega arith; backed = refl; perms = refl }
