-- Why the laws of the reading hold: proofs, which nobody has to read.
use Rattle.std.proofs.Common.{◌≡◌, ℕ, ◌+◌, ◌-◌, ◌≤◌, Bool, true, false, if◌then◌else◌, List, length, take, drop, get_or, Option, Some, None, Result, Ok, Err, refl, sym, ap, ◌∙◌, arith, inl, inr, length-append, length-drop}
use Rattle.std.specs.Prelude.{◌||◌, codes}
use Rattle.std.specs.Str.{bytes_eq}
use Rattle.std.proofs.lemmas.Bool.{cases_lt}
use Rattle.std.proofs.lemmas.List.{get_or-drop, get_or_append_left, get_or-append_right}
use Rattle.ap_fields.specs.Bytes.{over}
use Rattle.ap_fields.specs.Granules.{IsGranule}
use Rattle.ap_fields.specs.Readings.{MemoryImage}
use Rattle.ap_fields.specs.declared.sizes.TheConstants.{WINDOW}
use Rattle.ap_elf.specs.declared.fault.ElfFault.{ElfFault}
use Rattle.ap_elf.specs.Fields.{header_of, entries_of}
use Rattle.ap_elf.proofs.Alike.{take-same, header_of-same, entries_of-same}
use Rattle.ap_image.specs.Plans.{Mapping}
use Rattle.ap_image.specs.Reading.{IsPlanOf, AgreeAt}
use Rattle.ap_elfmap.specs.ElfPlans as elf
use Rattle.ap_elfmap.specs.ElfPlans.{elf_plan_by}
use Rattle.ap_elfmap.specs.Laws.{cells-by}
use Rattle.ap_loader.specs.declared.fault.ApeFault.TheVariants.{NoMagic, Elf}
use Rattle.ap_loader.specs.Embedded.{has_magic, taken, header_of_window}
use Rattle.ap_loader.specs.ApeReading.{as_ape, reading_over, reading_by, ape_reading, plan_over, plan_by, ape_plan, LooksBy, Looks}

-- ---- law cells

as_ape-plan : (file : List ℕ) (p : Result Mapping ElfFault) (x : Result MemoryImage ElfFault) → IsPlanOf p file x → IsPlanOf (as_ape p) file (as_ape x)
as_ape-plan file (Ok m) (Ok image) h = h
as_ape-plan file (Err found) (Err fault) h = ap (λ (f : ElfFault). Elf f) h
as_ape-plan file (Ok m) (Err fault) h = absurd h
as_ape-plan file (Err found) (Ok image) h = absurd h

cells-taken : (machine page : ℕ) (file : List ℕ) (statement : Option (ℕ × List ℕ)) → IsGranule page → IsPlanOf (plan_by machine page file statement) file (reading_by machine page file statement)
cells-taken machine page file None is = refl
cells-taken machine page file (Some (at, header)) is =
    as_ape-plan file (plan_over machine page file header) (reading_over machine page file header)
    (cells-by machine page (header_of (over file header)) (entries_of (over file header)) file is)

cells-magic : (b : Bool) (machine page : ℕ) (file : List ℕ) → IsGranule page
    → IsPlanOf (if b then plan_by machine page file (taken machine file) else Err NoMagic) file (if b then reading_by machine page file (taken machine file) else Err NoMagic)
cells-magic true machine page file is = cells-taken machine page file (taken machine file) is
cells-magic false machine page file is = refl

pub cells-ape : (machine page : ℕ) (file : List ℕ) → IsGranule page → IsPlanOf (ape_plan machine page file) file (ape_reading machine page file)
cells-ape machine page file is = cells-magic (has_magic file) machine page file is

-- ---- law frame

pub magic-same : (f g : List ℕ) → take 8 f ≡ take 8 g → has_magic f ≡ has_magic g
magic-same f g same =
    ap (λ front. bytes_eq (codes "MZqFpD='") front || (bytes_eq (codes "jartsr='") front || bytes_eq (codes "APEDBG='") front)) same

pub taken-same : (machine : ℕ) (f g : List ℕ) → has_magic f ≡ has_magic g → take WINDOW f ≡ take WINDOW g → taken machine f ≡ taken machine g
unfolding taken
taken-same machine f g magic window =
    ap (λ b. if b then header_of_window machine (take WINDOW f) else None) magic
    ∙ ap (λ w. if has_magic g then header_of_window machine w else None) window

over-same : (f g header : List ℕ) (k : ℕ) → get_or f k 0 ≡ get_or g k 0 → get_or (over f header) k 0 ≡ get_or (over g header) k 0
over-same f g header k same =
    elim (cases_lt k (length header)) [
      | inl low ↦ get_or_append_left header (drop (length header) f) 0 k low ∙ sym (get_or_append_left header (drop (length header) g) 0 k low)
      | inr high ↦ (let at : length header + (k - length header) ≡ k = omega arith in
          behind f at high ∙ same ∙ sym (behind g at high))
    ]
  where
    behind : (l : List ℕ) → length header + (k - length header) ≡ k → length header ≤ k → get_or (over l header) k 0 ≡ get_or l k 0
    behind l at high =
        get_or-append_right header (drop (length header) l) (length header) k 0 refl high
        ∙ get_or-drop (length header) l (k - length header) 0
        ∙ ap (λ i. get_or l i 0) at

length-over : (f g header : List ℕ) → length f ≡ length g → length (over f header) ≡ length (over g header)
length-over f g header len =
    length-append header (drop (length header) f)
    ∙ ap (λ n. length header + n) (length-drop (length header) f ∙ ap (λ n. n - length header) len ∙ sym (length-drop (length header) g))
    ∙ sym (length-append header (drop (length header) g))

frame-over : (machine page : ℕ) (f g header : List ℕ) → length f ≡ length g → AgreeAt (elf.Looks (over f header)) f g → plan_over machine page f header ≡ plan_over machine page g header
frame-over machine page f g header len agree =
    let headers : header_of (over f header) ≡ header_of (over g header) =
    header_of-same (over f header) (over g header) (length-over f g header len) (λ k low. over-same f g header k (agree k (inl low))) in
    let tables : entries_of (over f header) ≡ entries_of (over g header) =
    entries_of-same (over f header) (over g header) headers (λ k low high. over-same f g header k (agree k (inr (low, high)))) in
    ap (λ (n : ℕ). elf_plan_by machine page n (header_of (over f header)) (entries_of (over f header))) len
    ∙ ap (λ h. elf_plan_by machine page (length g) h (entries_of (over f header))) headers
    ∙ ap (elf_plan_by machine page (length g) (header_of (over g header))) tables

frame-by : (machine page : ℕ) (f g : List ℕ) (statement : Option (ℕ × List ℕ)) → length f ≡ length g → AgreeAt (LooksBy f statement) f g
    → plan_by machine page f statement ≡ plan_by machine page g statement
frame-by machine page f g None len agree = refl
frame-by machine page f g (Some (at, header)) len agree = ap as_ape (frame-over machine page f g header len agree)

pub frame-ape : (machine page : ℕ) (f g : List ℕ) → length f ≡ length g → AgreeAt (Looks machine f) f g → ape_plan machine page f ≡ ape_plan machine page g
frame-ape machine page f g len agree =
    let front : take 8 f ≡ take 8 g = take-same 8 f g len (λ k below. agree k (inl (omega arith))) in
    let window : take WINDOW f ≡ take WINDOW g = take-same WINDOW f g len (λ k below. agree k (inl below)) in
    let magic = magic-same f g front in
    let same = taken-same machine f g magic window in
    ap (λ b. if b then plan_by machine page f (taken machine f) else Err NoMagic) magic
    ∙ ap (λ p. if has_magic g then p else Err NoMagic)
    (frame-by machine page f g (taken machine f) len (λ k looks. agree k (inr looks)) ∙ ap (plan_by machine page g) same)
