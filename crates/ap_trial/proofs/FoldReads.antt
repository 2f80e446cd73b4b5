-- What readings find in a file that they don't refuse, and its fold.
use Rattle.std.proofs.Common.{◌≡◌, ◌∙◌, ℕ, Bool, true, false, cond, List, length, Option, Some, None, Result, Ok, Err, sym, subst, arith}
use Rattle.ap_fields.specs.Bytes.{over}
use Rattle.ap_fields.specs.Readings.{MemoryImage, image_unless, bytes_in}
use Rattle.ap_elf.specs.declared.types.Entry.{Entry}
use Rattle.ap_elf.specs.declared.fault.ElfFault.{ElfFault}
use Rattle.ap_elf.specs.Fields.{header_of, entries_of, loads_in}
use Rattle.ap_elf.specs.ElfReading.{elf_reading, elf_reading_by, elf_rules, page_cell}
use Rattle.ap_fields.specs.FirstFault.{first_fault}
use Rattle.ap_image.specs.Plans.{Mapping, cell_in}
use Rattle.ap_image.specs.Reading.{IsPlanOf}
use Rattle.ap_loader.specs.declared.fault.ApeFault.TheVariants.{NoMagic}
use Rattle.ap_loader.specs.ApeReading.{as_ape, ape_reading, reading_by, reading_over}
use Rattle.ap_loader.specs.Embedded.{has_magic, taken}
use Rattle.ap_assim.specs.Assimilated.{BecomesElf, elf_of, with_header}
use Rattle.ap_assim.specs.declared.fault.AssimFault.{AssimFault}
use Rattle.ap_assim.specs.declared.fault.AssimFault.TheVariants.{NotApe}
use Rattle.ap_assim.proofs.Lengths.{FoundAt, taken_length}
use Rattle.ap_link.proofs.Holding.{length-over}
use Rattle.ap_trial.specs.Folds.{fold_over}
use Rattle.ap_trial.specs.Trials.{HasFold}
use Rattle.ap_trial.proofs.ShownFolds.{fold-shown}
use Rattle.ap_trial.specs.Refusals.{IsRead}

-- ---- folds

pub has-fold : {Fault : Type 0} (loads : List Entry) (h : ℕ) (m : Mapping) (file : List ℕ) (r : Result MemoryImage Fault) → IsPlanOf (Ok m) file r
    → h ≡ fold_over (cell_in (bytes_in file) m.regions) 0 loads → HasFold loads h r
has-fold loads h m file (Ok image) shows is = is ∙ fold-shown m file image 0 loads shows
has-fold loads h m file (Err fault) shows is = absurd shows

pub not-refused : {Fault : Type 0} (fault : Fault) (file : List ℕ) (r : Result MemoryImage Fault) → IsPlanOf (Err fault) file r → IsRead r → ⊥
not-refused fault file (Ok image) is read = is
not-refused fault file (Err other) is read = read

-- ---- the ELF files that a file becomes

read-unless : {Fault : Type 0} (o : Option Fault) (i j : MemoryImage) → IsRead (image_unless o i) → IsRead (image_unless o j)
read-unless None i j read = tt
read-unless (Some fault) i j read = absurd read

read-as : (r : Result MemoryImage ElfFault) → IsRead (as_ape r) → IsRead r
read-as (Ok image) read = tt
read-as (Err fault) read = absurd read

over-read : (machine page : ℕ) (file header : List ℕ) → length (over file header) ≡ length file → IsRead (as_ape (reading_over machine page file header)) → IsRead (elf_reading machine page (over file header))
over-read machine page file header same read =
    let b = over file header in
    subst (λ n. IsRead (elf_reading_by machine page n (header_of b) (entries_of b) (bytes_in b))) (sym same)
    (read-unless (first_fault (elf_rules machine page (length file) (header_of b) (entries_of b)))
    (record { entry = (header_of b).e_entry; cell = page_cell page (length file) (bytes_in file) (loads_in (entries_of b)) })
    (record { entry = (header_of b).e_entry; cell = page_cell page (length file) (bytes_in b) (loads_in (entries_of b)) })
    (read-as (reading_over machine page file header) read))

-- what the ELF reading makes of an ELF file that is made
abbrev Made : ℕ → ℕ → Result (List ℕ) AssimFault → Type 0
Made machine page (Ok bytes) = IsRead (elf_reading machine page bytes)
Made machine page (Err fault) = ⊥

with-made : (machine page : ℕ) (file : List ℕ) (found : Option (ℕ × List ℕ)) → FoundAt (length file) found → IsRead (reading_by machine page file found) → Made machine page (with_header file found)
with-made machine page file None within read = absurd read
with-made machine page file (Some (at, header)) within read =
    let low = within.0 in
    let size = within.1 in
    over-read machine page file header (length-over file header (omega (arith, low, size))) read

made-by : (magic : Bool) (machine page : ℕ) (file : List ℕ) → IsRead (cond magic (reading_by machine page file (taken machine file)) (Err NoMagic))
    → Made machine page (cond magic (with_header file (taken machine file)) (Err NotApe))
made-by true machine page file read = with-made machine page file (taken machine file) (taken_length machine file) read
made-by false machine page file read = absurd read

made : (machine page : ℕ) (file : List ℕ) → IsRead (ape_reading machine page file) → Made machine page (elf_of machine file)
made machine page file read = made-by (has_magic file) machine page file read

pub elf-read : (machine page : ℕ) (file bytes : List ℕ) → BecomesElf machine file (Ok bytes) → IsRead (ape_reading machine page file) → IsRead (elf_reading machine page bytes)
elf-read machine page file bytes is read = subst (Made machine page) is (made machine page file read)

pub elf-made : (machine page : ℕ) (file : List ℕ) (fault : AssimFault) → BecomesElf machine file (Err fault) → IsRead (ape_reading machine page file) → ⊥
elf-made machine page file fault is read = subst (Made machine page) is (made machine page file read)
