-- An input meets rules 1 to 21.
use Rattle.std.proofs.Common.{◌≡◌, ℕ, ◌+◌, ◌*◌, ◌-◌, ◌^◌, ◌<◌, ◌≤◌, ◌==◌, ◌&&◌, ◌||◌, not, nat_le, nat_lt, true, false, cond, List, [], ◌∷◌, ◌++◌, map, Some, None, refl, ap, ◌∙◌, arith}
use Rattle.std.specs.Prelude.{bit_and}
use Rattle.std.proofs.lemmas.Bool.Decides.{nat_tests}
use Rattle.ap_fields.specs.Fields.{number_at}
use Rattle.ap_fields.specs.FirstFault.{first_fault}
use Rattle.ap_fields.specs.Granules.{floor_of, ceil_of}
use Rattle.ap_fields.proofs.FirstFaults.{none-append}
use Rattle.ap_elf.specs.declared.types.Header.{Header}
use Rattle.ap_elf.specs.declared.types.Entry.{Entry}
use Rattle.ap_elf.specs.declared.machine.Machine.{Machine}
use Rattle.ap_elf.specs.declared.machine.Machine.TheVariants.{X64, A64}
use Rattle.ap_elf.specs.Machines.{granule_of}
use Rattle.ap_elf.specs.Fields.{loads_in}
use Rattle.ap_check.specs.declared.fault.Fault.{Fault}
use Rattle.ap_check.specs.declared.load.Load.{Load}
use Rattle.ap_check.specs.Inputs.{can_start, loads_of, load_of}
use Rattle.ap_check.specs.Rules.{size_rules, header_rules, load_rules, loads_rules, span_rules, entry_rules, tls_rules, count_of_loads_rules, laid_rules, end_rules, table_rules, bare_rules}
use Rattle.ap_trial.specs.TrialInputs.{part_length, data_place, data_address, rest_address, tables_place, trial_header, trial_load, trial_loads}
use Rattle.ap_trial.proofs.InputPlaces.{ArePlaced, are-placed}

-- rules 1 and 2
size-passes : (n size : ℕ) → 64 ≤ size → size ≤ 2 ^ 28 → first_fault (size_rules n size) ≡ None
size-passes n size least most =
    let t0 : nat_le size (2 ^ 28) ≡ true = grind (arith, nat_tests) in
    let t1 : nat_le 64 size ≡ true = grind (arith, nat_tests) in
    rw (t0, t1) refl

-- rules 3 to 11
header-passes : (n size pages : ℕ) (machine : Machine) → 232 ≤ size → first_fault (header_rules n size (trial_header pages machine)) ≡ None
unfolding header_rules trial_header number_at
header-passes n size pages X64 least =
    let t : nat_le 232 size ≡ true = grind (arith, nat_tests) in
    rw t refl
header-passes n size pages A64 least =
    let t : nat_le 232 size ≡ true = grind (arith, nat_tests) in
    rw t refl

-- the loads are those that have bytes, all three
pub loads-are : (g pages : ℕ) → 1 ≤ pages → loads_in (trial_loads g pages) ≡ trial_loads g pages
unfolding trial_load
loads-are g pages some =
    let t : (4096 * pages == 0) ≡ false = grind (arith, nat_tests) in
    rw t refl

-- rules 12 and 13
count-passes : (n g pages : ℕ) → 1 ≤ pages → first_fault (count_of_loads_rules n (trial_loads g pages)) ≡ None
unfolding count_of_loads_rules trial_load
count-passes n g pages some =
    let t : (4096 * pages == 0) ≡ false = grind (arith, nat_tests) in
    rw t refl

-- rules 14 to 18 of a load
load-passes : (n size g k low offset vaddr filesz memsz flags : ℕ) → filesz ≤ memsz → (filesz == 0 || nat_le (offset + filesz) size) ≡ true → 65536 ≤ vaddr → vaddr + memsz ≤ 2 ^ 47
    → (not (bit_and flags 4 == 0) && not (bit_and flags 3 == 3)) ≡ true → low ≤ floor_of vaddr g → first_fault (load_rules n size g k low (trial_load g offset vaddr filesz memsz flags)) ≡ None
unfolding trial_load
load-passes n size g k low offset vaddr filesz memsz flags sizes part base top perms order =
    let t14 : nat_le filesz memsz ≡ true = grind (arith, nat_tests) in
    let t16 : (nat_le 65536 vaddr && nat_le (vaddr + memsz) (2 ^ 47)) ≡ true = grind (arith, nat_tests) in
    let t18 : nat_le low (floor_of vaddr g) ≡ true = grind (arith, nat_tests) in
    rw (t14, part, t16, perms, t18) refl

-- where a load ends
load-ends : (g offset vaddr filesz memsz flags : ℕ) → ceil_of ((trial_load g offset vaddr filesz memsz flags).vaddr + (trial_load g offset vaddr filesz memsz flags).memsz) g ≡ ceil_of (vaddr + memsz) g
unfolding trial_load
load-ends g offset vaddr filesz memsz flags = refl

one-load : (n size g k low : ℕ) (p : Entry) (loads : List Entry) → first_fault (load_rules n size g k low p) ≡ None
    → first_fault (loads_rules n size g k low (p ∷ loads)) ≡ first_fault (loads_rules n size g (k + 1) (ceil_of (p.vaddr + p.memsz) g) loads)
one-load n size g k low p loads passes = none-append (load_rules n size g k low p) (loads_rules n size g (k + 1) (ceil_of (p.vaddr + p.memsz) g) loads) passes

file-part : (filesz offset size : ℕ) → offset + filesz ≤ size → (filesz == 0 || nat_le (offset + filesz) size) ≡ true
file-part filesz offset size fits = grind (arith, nat_tests)

loads-pass : (n size g pages : ℕ) → ArePlaced g pages → tables_place g pages ≤ size → first_fault (loads_rules n size g 1 0 (trial_loads g pages)) ≡ None
loads-pass n size g pages placed fits =
    let part : ℕ = part_length pages in
    let second : ℕ = data_address g pages in
    let third : ℕ = rest_address g pages in
    let p : Entry = trial_load g g 4194304 part part 5 in
    let q : Entry = trial_load g (data_place g pages) second 4096 9096 6 in
    let r : Entry = trial_load g 0 third 0 10000 6 in
    let h1 = placed.room in let h2 = placed.part in let h3 = placed.second in let h4 = placed.address in let h5 = placed.third in let h6 = placed.rest in let h7 = placed.low in
    one-load n size g 1 0 p (q ∷ r ∷ [])
    (load-passes n size g 1 0 g 4194304 part part 5 (omega arith) (file-part part g size (omega arith)) (omega arith) (omega arith) refl (omega arith))
    ∙ ap (λ low. first_fault (loads_rules n size g 2 low (q ∷ r ∷ []))) (load-ends g g 4194304 part part 5)
    ∙ one-load n size g 2 (ceil_of (4194304 + part) g) q (r ∷ [])
    (load-passes n size g 2 (ceil_of (4194304 + part) g) (data_place g pages) second 4096 9096 6 (omega arith) (file-part 4096 (data_place g pages) size (omega arith)) (omega arith) (omega arith) refl (omega arith))
    ∙ ap (λ low. first_fault (loads_rules n size g 3 low (r ∷ []))) (load-ends g (data_place g pages) second 4096 9096 6)
    ∙ one-load n size g 3 (ceil_of (second + 9096) g) r []
    (load-passes n size g 3 (ceil_of (second + 9096) g) 0 third 0 10000 6 (omega arith) refl (omega arith) (omega arith) refl (omega arith))

-- rule 19
span-passes : (n g pages : ℕ) → ArePlaced g pages → first_fault (span_rules n g (map load_of (trial_loads g pages))) ≡ None
unfolding trial_load
span-passes n g pages placed =
    let h1 = placed.stop in let h2 = placed.part in
    let t1 : nat_le (ceil_of (rest_address g pages + 10000) g - floor_of 4194304 g) (2 ^ 30) ≡ true = grind (arith, nat_tests) in
    let t2 : nat_le (0 + part_length pages + 4096 + 0) (2 ^ 28) ≡ true = grind (arith, nat_tests) in
    rw (t1, t2) refl

-- rules 14 to 19
laid-passes : (n size g pages : ℕ) → ArePlaced g pages → tables_place g pages ≤ size → first_fault (laid_rules n size g (trial_loads g pages)) ≡ None
unfolding laid_rules
laid-passes n size g pages placed fits =
    none-append (loads_rules n size g 1 0 (trial_loads g pages)) (span_rules n g (map load_of (trial_loads g pages))) (loads-pass n size g pages placed fits)
    ∙ span-passes n g pages placed

-- an address of the first load may be started at
pub starts : (a g pages : ℕ) → 4194304 ≤ a → a < 4194304 + part_length pages → can_start a (map load_of (trial_loads g pages)) ≡ true
unfolding trial_load
starts a g pages low high =
    let t1 : nat_le 4194304 a ≡ true = grind (arith, nat_tests) in
    let t2 : nat_lt a (4194304 + part_length pages) ≡ true = grind (arith, nat_tests) in
    rw (t1, t2) refl

-- rule 21: no entry is a template
tls-passes : (n g pages : ℕ) (loads : List Load) → first_fault (tls_rules n 1 loads (trial_loads g pages)) ≡ None
unfolding trial_load
tls-passes n g pages loads = refl

-- rules 20 and 21
end-passes : (n g pages : ℕ) → 1 ≤ pages → first_fault (end_rules n 4194304 (map load_of (trial_loads g pages)) (trial_loads g pages)) ≡ None
unfolding end_rules
end-passes n g pages some =
    let loads : List Load = map load_of (trial_loads g pages) in
    let fault : Fault = record { rule = 20; input = n; item = 0; value = 4194304 } in
    none-append (entry_rules n 4194304 loads) (tls_rules n 1 loads (trial_loads g pages))
    (ap (λ t. cond t None (Some fault)) (starts 4194304 g pages (omega arith) (omega arith)))
    ∙ tls-passes n g pages loads

machine-is : (pages : ℕ) (machine : Machine) (n size : ℕ) (entries : List Entry)
    → table_rules n size (trial_header pages machine) entries ≡ count_of_loads_rules n entries ++ (laid_rules n size (granule_of machine) (loads_in entries) ++ end_rules n 4194304 (loads_of entries) entries)
unfolding table_rules trial_header
machine-is pages X64 n size entries = refl
machine-is pages A64 n size entries = refl

-- rules 12 to 21
table-passes : (n size pages : ℕ) (machine : Machine) → 1 ≤ pages → pages ≤ 16384 → tables_place (granule_of machine) pages ≤ size
    → first_fault (table_rules n size (trial_header pages machine) (trial_loads (granule_of machine) pages)) ≡ None
table-passes n size pages machine some few fits =
    let g : ℕ = granule_of machine in
    let loads : List Entry = trial_loads g pages in
    ap first_fault (machine-is pages machine n size loads)
    ∙ none-append (count_of_loads_rules n loads) (laid_rules n size g (loads_in loads) ++ end_rules n 4194304 (loads_of loads) loads) (count-passes n g pages some)
    ∙ ap (λ (l : List Entry). first_fault (laid_rules n size g l ++ end_rules n 4194304 (map load_of l) loads)) (loads-are g pages some)
    ∙ none-append (laid_rules n size g loads) (end_rules n 4194304 (map load_of loads) loads) (laid-passes n size g pages (are-placed machine pages few) fits)
    ∙ end-passes n g pages some

-- rules 1 to 21
pub bare-passes : (n pages : ℕ) (machine : Machine) → 1 ≤ pages → pages ≤ 16384
    → first_fault (bare_rules n (tables_place (granule_of machine) pages + 256) (trial_header pages machine) (trial_loads (granule_of machine) pages)) ≡ None
unfolding bare_rules
bare-passes n pages machine some few =
    let g : ℕ = granule_of machine in
    let size : ℕ = tables_place g pages + 256 in
    let h : Header = trial_header pages machine in
    let loads : List Entry = trial_loads g pages in
    let placed = are-placed machine pages few in
    let h1 = placed.tables in
    none-append (size_rules n size) (header_rules n size h ++ table_rules n size h loads) (size-passes n size (omega arith) (omega arith))
    ∙ none-append (header_rules n size h) (table_rules n size h loads) (header-passes n size pages machine (omega arith))
    ∙ table-passes n size pages machine some few (omega arith)
