-- Where the parts of an input stand.
use Rattle.std.proofs.Common.{◌≡◌, ℕ, ◌+◌, List, ◌++◌, length, slice_index, take, drop, ap, ◌∙◌, arith}
use Rattle.std.proofs.lemmas.Grind.{same_number_lists}
use Rattle.std.proofs.lemmas.List.{length-take-le, length-drop, get_or-take, get_or-drop}
use Rattle.ap_fields.specs.Bytes.{Holds}
use Rattle.ap_fields.proofs.Bytes.{holds-front, holds-behind}
use Rattle.ap_elf.specs.declared.machine.Machine.{Machine}
use Rattle.ap_elf.specs.Machines.{granule_of}
use Rattle.ap_trial.specs.TrialInputs.{tables_place, symbols_text, sections_text, headers_text, loads_text, trial_input}
use Rattle.ap_trial.proofs.Lengths.{length-headers, length-loads, length-symbols}

whole-held : (w : List ℕ) → Holds w 0 w
whole-held w = record {
  fits = omega arith;
  same = λ k l. ap (λ i. slice_index w i) (let e : 0 + k ≡ k = omega arith in e);
}

-- bytes that a file holds are the part of it that stands there
pub part-held : (w : List ℕ) (at : ℕ) (bytes : List ℕ) → Holds w at bytes → take (length bytes) (drop at w) ≡ bytes
part-held w at bytes h =
    let n : ℕ = length bytes in
    let fits = h.fits in
    let rest = length-drop at w in
    same_number_lists (take n (drop at w)) bytes (length-take-le n (drop at w) (omega arith))
    (λ k low. let long = length-take-le n (drop at w) (omega arith) in get_or-take n (drop at w) k 0 (omega arith) ∙ get_or-drop at w k 0 ∙ h.same k (omega arith))

-- the headers, and what stands behind them
input-held : (number pages : ℕ) (machine : Machine)
    → Holds (trial_input number pages machine) 0 (headers_text pages machine ++ (loads_text number (granule_of machine) pages ++ (symbols_text ++ sections_text (tables_place (granule_of machine) pages))))
unfolding trial_input
input-held number pages machine = whole-held (trial_input number pages machine)

pub headers-held : (number pages : ℕ) (machine : Machine) → Holds (trial_input number pages machine) 0 (headers_text pages machine)
headers-held number pages machine = holds-front (trial_input number pages machine) 0 (headers_text pages machine) _ (input-held number pages machine)

tables-held : (number pages : ℕ) (machine : Machine)
    → Holds (trial_input number pages machine) (tables_place (granule_of machine) pages) (symbols_text ++ sections_text (tables_place (granule_of machine) pages))
tables-held number pages machine =
    let g : ℕ = granule_of machine in
    let w : List ℕ = trial_input number pages machine in
    let tables : List ℕ = symbols_text ++ sections_text (tables_place g pages) in
    let loads : List ℕ = loads_text number g pages in
    let l1 = length-headers pages machine in
    let l2 = length-loads number pages machine in
    holds-behind w g (tables_place g pages) loads tables (omega arith)
    (holds-behind w 0 g (headers_text pages machine) (loads ++ tables) (omega arith) (input-held number pages machine))

pub symbols-held : (number pages : ℕ) (machine : Machine) → Holds (trial_input number pages machine) (tables_place (granule_of machine) pages) symbols_text
symbols-held number pages machine =
    let at : ℕ = tables_place (granule_of machine) pages in
    holds-front (trial_input number pages machine) at symbols_text (sections_text at) (tables-held number pages machine)

pub sections-held : (number pages : ℕ) (machine : Machine)
    → Holds (trial_input number pages machine) (tables_place (granule_of machine) pages + 64) (sections_text (tables_place (granule_of machine) pages))
sections-held number pages machine =
    let at : ℕ = tables_place (granule_of machine) pages in
    let long = length-symbols in
    holds-behind (trial_input number pages machine) at (at + 64) symbols_text (sections_text at) (omega arith) (tables-held number pages machine)
