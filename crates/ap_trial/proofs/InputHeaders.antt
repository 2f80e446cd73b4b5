-- The headers of an input are read as they were written.
use Rattle.std.proofs.Common.{◌≡◌, ℕ, ◌-◌, ◌^◌, ◌<◌, ◌≤◌, List, ◌++◌, refl, ap, ◌∙◌, arith, lit<}
use Rattle.ap_fields.specs.Bytes.{Holds, zeros}
use Rattle.ap_fields.proofs.Bytes.{holds-front, holds-behind}
use Rattle.ap_elf.specs.declared.types.Header.{Header}
use Rattle.ap_elf.specs.declared.machine.Machine.{Machine}
use Rattle.ap_elf.specs.declared.machine.Machine.TheVariants.{X64, A64}
use Rattle.ap_elf.specs.Machines.{granule_of, number_of}
use Rattle.ap_elf.specs.Fields.{header_of, entries_from, entries_of}
use Rattle.ap_elf.specs.Written.{header_bytes, table_bytes, HeaderFits, EntriesFit}
use Rattle.ap_elf.proofs.ReadBack.{header_of-holds, entries_from-holds}
use Rattle.ap_trial.specs.TrialInputs.{trial_header, trial_load, trial_loads, headers_text, trial_input}
use Rattle.ap_trial.proofs.Lengths.{length-header_bytes}
use Rattle.ap_trial.proofs.InputPlaces.{are-placed}
use Rattle.ap_trial.proofs.Standing.{headers-held}

machine-fits : (machine : Machine) → number_of machine < 256 ^ 2
machine-fits X64 = lit< tt
machine-fits A64 = lit< tt

header-fits : (pages : ℕ) (machine : Machine) → pages ≤ 16384 → HeaderFits (trial_header pages machine)
unfolding trial_header
header-fits pages machine few =
    let placed = are-placed machine pages few in
    let tables = placed.tables in
    record {
      ident = refl;
      e_type = lit< tt;
      e_machine = machine-fits machine;
      e_version = lit< tt;
      e_entry = lit< tt;
      e_phoff = lit< tt;
      e_shoff = omega arith;
      e_flags = lit< tt;
      e_ehsize = lit< tt;
      e_phentsize = lit< tt;
      e_phnum = lit< tt;
      e_shentsize = lit< tt;
      e_shnum = lit< tt;
      e_shstrndx = lit< tt;
    }

loads-fit : (pages : ℕ) (machine : Machine) → pages ≤ 16384 → EntriesFit (trial_loads (granule_of machine) pages)
unfolding trial_load
loads-fit pages machine few = let placed = are-placed machine pages few in (omega arith, (omega arith, (omega arith, tt)))

header-held : (number pages : ℕ) (machine : Machine)
    → Holds (trial_input number pages machine) 0 (header_bytes (trial_header pages machine) ++ (table_bytes (trial_loads (granule_of machine) pages) ++ zeros (granule_of machine - 232)))
unfolding headers_text
header-held number pages machine = headers-held number pages machine

pub input-header : (number pages : ℕ) (machine : Machine) → pages ≤ 16384 → header_of (trial_input number pages machine) ≡ trial_header pages machine
input-header number pages machine few =
    let w : List ℕ = trial_input number pages machine in
    let h : Header = trial_header pages machine in
    header_of-holds w h (header-fits pages machine few) (holds-front w 0 (header_bytes h) _ (header-held number pages machine))

table-held : (number pages : ℕ) (machine : Machine) → pages ≤ 16384 → Holds (trial_input number pages machine) 64 (table_bytes (trial_loads (granule_of machine) pages))
table-held number pages machine few =
    let w : List ℕ = trial_input number pages machine in
    let h : Header = trial_header pages machine in
    let table : List ℕ = table_bytes (trial_loads (granule_of machine) pages) in
    let fits = header-fits pages machine few in
    let long = length-header_bytes h fits.ident in
    holds-front w 64 table (zeros (granule_of machine - 232))
    (holds-behind w 0 64 (header_bytes h) (table ++ zeros (granule_of machine - 232)) (omega arith) (header-held number pages machine))

phoff-is : (pages : ℕ) (machine : Machine) → (trial_header pages machine).e_phoff ≡ 64
unfolding trial_header
phoff-is pages machine = refl

phnum-is : (pages : ℕ) (machine : Machine) → (trial_header pages machine).e_phnum ≡ 3
unfolding trial_header
phnum-is pages machine = refl

pub input-entries : (number pages : ℕ) (machine : Machine) → pages ≤ 16384 → entries_of (trial_input number pages machine) ≡ trial_loads (granule_of machine) pages
unfolding entries_of
input-entries number pages machine few =
    let w : List ℕ = trial_input number pages machine in
    let h : Header = trial_header pages machine in
    ap (λ (x : Header). entries_from w x.e_phoff x.e_phnum) (input-header number pages machine few)
    ∙ ap (λ n. entries_from w n h.e_phnum) (phoff-is pages machine)
    ∙ ap (entries_from w 64) (phnum-is pages machine)
    ∙ entries_from-holds w 64 (trial_loads (granule_of machine) pages) (loads-fit pages machine few) (table-held number pages machine few)
