-- The ELF file that a file becomes has the plan of the file as an APE file, and its bytes but for the first 64.
use Rattle.std.proofs.Common.{◌≡◌, ◌∙◌, ℕ, ◌≤◌, Bool, true, false, cond, List, drop, length, Option, Some, None, ap, arith, length-append}
use Rattle.std.specs.Prelude.{IfOk, Err}
use Rattle.std.proofs.lemmas.List.{length-drop}
use Rattle.ap_fields.specs.Bytes.{over}
use Rattle.ap_fields.specs.Readings.{bytes_in}
use Rattle.ap_elf.specs.Fields.{header_of, entries_of}
use Rattle.ap_elfmap.specs.ElfPlans.{elf_plan, elf_plan_by}
use Rattle.ap_elfmap.proofs.Fronts.{over-behind}
use Rattle.ap_loader.specs.declared.fault.ApeFault.TheVariants.{NoMagic}
use Rattle.ap_loader.specs.ApeReading.{as_ape, ape_plan, plan_by}
use Rattle.ap_loader.specs.Embedded.{has_magic, taken}
use Rattle.ap_assim.specs.Assimilated.{elf_of, with_header}
use Rattle.ap_assim.specs.declared.fault.AssimFault.TheVariants.{NotApe}
use Rattle.ap_assim.proofs.Lengths.{FoundAt, taken_length}

length_over : (file header : List ℕ) → length header ≤ length file → length (over file header) ≡ length file
length_over file header fits = let d = length-drop (length header) file in length-append header (drop (length header) file) ∙ omega (arith, d, fits)

with-plan : (machine page : ℕ) (file : List ℕ) (found : Option (ℕ × List ℕ)) → FoundAt (length file) found
    → IfOk (with_header file found) (λ bytes. as_ape (elf_plan machine page bytes) ≡ plan_by machine page file found)
with-plan machine page file None within = tt
with-plan machine page file (Some (at, header)) within =
    let low = within.0 in
    let size = within.1 in
    ap (λ len. as_ape (elf_plan_by machine page len (header_of (over file header)) (entries_of (over file header))))
    (length_over file header (omega (arith, low, size)))

plan-by : (magic : Bool) (machine page : ℕ) (file : List ℕ)
    → IfOk (cond magic (with_header file (taken machine file)) (Err NotApe))
    (λ bytes. as_ape (elf_plan machine page bytes) ≡ cond magic (plan_by machine page file (taken machine file)) (Err NoMagic))
plan-by true machine page file = with-plan machine page file (taken machine file) (taken_length machine file)
plan-by false machine page file = tt

pub same_plan : (machine page : ℕ) (file : List ℕ) → IfOk (elf_of machine file) (λ bytes. as_ape (elf_plan machine page bytes) ≡ ape_plan machine page file)
same_plan machine page file = plan-by (has_magic file) machine page file

with-bytes : (file : List ℕ) (found : Option (ℕ × List ℕ)) → FoundAt (length file) found
    → IfOk (with_header file found) (λ bytes. (length bytes ≡ length file) × ((k : ℕ) → 64 ≤ k → bytes_in bytes k ≡ bytes_in file k))
with-bytes file None within = tt
with-bytes file (Some (at, header)) within =
    let low = within.0 in
    let size = within.1 in
    (length_over file header (omega (arith, low, size)), λ k behind. over-behind file header k (omega (arith, size, behind)))

bytes-by : (magic : Bool) (machine : ℕ) (file : List ℕ)
    → IfOk (cond magic (with_header file (taken machine file)) (Err NotApe))
    (λ bytes. (length bytes ≡ length file) × ((k : ℕ) → 64 ≤ k → bytes_in bytes k ≡ bytes_in file k))
bytes-by true machine file = with-bytes file (taken machine file) (taken_length machine file)
bytes-by false machine file = tt

pub same_bytes : (machine : ℕ) (file : List ℕ) → IfOk (elf_of machine file)
    (λ bytes. (length bytes ≡ length file) × ((k : ℕ) → 64 ≤ k → bytes_in bytes k ≡ bytes_in file k))
same_bytes machine file = bytes-by (has_magic file) machine file
