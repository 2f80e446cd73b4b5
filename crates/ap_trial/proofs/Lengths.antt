-- How long an input is, and where its parts end.
use Rattle.std.proofs.Common.{◌≡◌, ℕ, zero, suc, ◌+◌, ◌-◌, ◌≤◌, List, ◌++◌, length, refl, ap, arith, length-append}
use Rattle.ap_fields.specs.Bytes.{zeros}
use Rattle.ap_fields.specs.Fields.{bytes_of}
use Rattle.ap_fields.specs.Structures.{structure}
use Rattle.ap_fields.proofs.Bytes.{length-zeros}
use Rattle.ap_fields.proofs.Numbers.{length-bytes_of}
use Rattle.ap_fields.proofs.FieldReads.{length-structure}
use Rattle.ap_elf.specs.declared.types.Header.{Header}
use Rattle.ap_elf.specs.declared.machine.Machine.{Machine}
use Rattle.ap_elf.specs.declared.machine.Machine.TheVariants.{X64, A64}
use Rattle.ap_elf.specs.Machines.{granule_of}
use Rattle.ap_elf.specs.Written.{header_bytes, table_bytes}
use Rattle.ap_elf.proofs.ReadBack.{length-table_bytes}
use Rattle.ap_trial.specs.Draws.{next_of, stepped, drawn}
use Rattle.ap_trial.specs.TrialInputs.{part_length, part_room, tables_place, trial_header, trial_loads, symbols_rows, strings_rows, symbols_text, sections_text, headers_text, loads_text, trial_input}

pub length-drawn : (x n : ℕ) → length (drawn x n) ≡ n
unfolding drawn
length-drawn x zero = refl
length-drawn x (suc n) = ap suc (length-drawn (next_of x) n)

pub length-header_bytes : (h : Header) → length h.ident ≡ 16 → length (header_bytes h) ≡ 64
unfolding header_bytes
length-header_bytes h long = simp (length-append, length-bytes_of) (omega arith)

ident-long : (pages : ℕ) (machine : Machine) → length (trial_header pages machine).ident ≡ 16
unfolding trial_header
ident-long pages machine = refl

-- the headers fill a granule
granule-least : (machine : Machine) → 232 ≤ granule_of machine
granule-least X64 = omega arith
granule-least A64 = omega arith

pub length-headers : (pages : ℕ) (machine : Machine) → length (headers_text pages machine) ≡ granule_of machine
unfolding headers_text
length-headers pages machine =
    let g : ℕ = granule_of machine in
    let least = granule-least machine in
    let header : List ℕ = header_bytes (trial_header pages machine) in
    let table : List ℕ = table_bytes (trial_loads g pages) in
    let rest : List ℕ = zeros (g - 232) in
    let l1 = length-header_bytes (trial_header pages machine) (ident-long pages machine) in
    let l2 : length table ≡ 168 = length-table_bytes (trial_loads g pages) in
    let l3 = length-zeros (g - 232) in
    let l4 = length-append header (table ++ rest) in
    let l5 = length-append table rest in
    omega arith

-- the bytes of the first load are no more than those of its granules
pub room-least : (machine : Machine) (pages : ℕ) → part_length pages ≤ part_room (granule_of machine) pages
room-least X64 pages = omega arith
room-least A64 pages = omega arith

pub length-loads : (number pages : ℕ) (machine : Machine) → length (loads_text number (granule_of machine) pages) ≡ part_room (granule_of machine) pages + 4096
unfolding loads_text
length-loads number pages machine =
    let part : ℕ = part_length pages in
    let room : ℕ = part_room (granule_of machine) pages in
    let least : part ≤ room = room-least machine pages in
    let first : List ℕ = drawn number part in
    let gap : List ℕ = zeros (room - part) in
    let second : List ℕ = drawn (stepped number part) 4096 in
    let l1 : length first ≡ part = length-drawn number part in
    let l2 : length gap ≡ room - part = length-zeros (room - part) in
    let l3 : length second ≡ 4096 = length-drawn (stepped number part) 4096 in
    let l4 = length-append first (gap ++ second) in
    let l5 = length-append gap second in
    omega arith

pub length-symbols : length symbols_text ≡ 64
unfolding symbols_text zeros bytes_of
length-symbols = refl

pub length-sections : (at : ℕ) → length (sections_text at) ≡ 192
unfolding sections_text
length-sections at =
    let none : List ℕ = zeros 64 in
    let symbols : List ℕ = structure 64 0 (symbols_rows at) in
    let strings : List ℕ = structure 64 0 (strings_rows (at + 48)) in
    let l1 : length none ≡ 64 = length-zeros 64 in
    let l2 : length symbols ≡ 64 = length-structure 64 (symbols_rows at) refl in
    let l3 : length strings ≡ 64 = length-structure 64 (strings_rows (at + 48)) refl in
    let l4 = length-append none (symbols ++ strings) in
    let l5 = length-append symbols strings in
    omega arith

pub length-input : (number pages : ℕ) (machine : Machine) → length (trial_input number pages machine) ≡ tables_place (granule_of machine) pages + 256
unfolding trial_input
length-input number pages machine =
    let g : ℕ = granule_of machine in
    let headers : List ℕ = headers_text pages machine in
    let loads : List ℕ = loads_text number g pages in
    let sections : List ℕ = sections_text (tables_place g pages) in
    let l1 = length-headers pages machine in
    let l2 = length-loads number pages machine in
    let l3 = length-symbols in
    let l4 = length-sections (tables_place g pages) in
    let l5 = length-append headers (loads ++ (symbols_text ++ sections)) in
    let l6 = length-append loads (symbols_text ++ sections) in
    let l7 = length-append symbols_text sections in
    omega arith
