-- The program headers that the linker writes: which of them are loads, and that none is for a dynamic linker.
use Rattle.std.proofs.Common.{◌≡◌, ◌⊎◌, inl, inr, ℕ, ◌+◌, ◌<◌, ◌≤◌, ◌==◌, ◌||◌, true, false, List, [], ◌∷◌, ◌++◌, length, map, Option, Some, None, refl, ap, ◌∙◌, arith, length-append}
use Rattle.std.proofs.lemmas.Bool.{cond-true, cond-false}
use Rattle.std.proofs.lemmas.Bool.Decides.{nat_tests}
use Rattle.std.proofs.lemmas.List.Elements.{filter-append}
use Rattle.std.proofs.lemmas.List.{append-nil, length-map}
use Rattle.ap_fields.specs.FirstFault.{first_fault}
use Rattle.ap_fields.specs.Granules.{ceil_of}
use Rattle.ap_elf.specs.declared.types.Entry.{Entry}
use Rattle.ap_elf.specs.Fields.{is_load, loads_in}
use Rattle.ap_elf.specs.ElfReading.{dynamic_rules}
use Rattle.ap_check.specs.declared.load.Load.{Load}
use Rattle.ap_elf.specs.Machines.{granule_of}
use Rattle.ap_check.specs.Inputs.{Taken, AreLoads}
use Rattle.ap_layout.specs.declared.layout.Area.{Area}
use Rattle.ap_layout.specs.Positions.{entry_count, one_if}
use Rattle.ap_script.specs.Tables.{load_entry, load_entries, stack_entries, note_entry, tls_entries, table_of}
use Rattle.ap_link.specs.LinkedIn.{HoldAll}

-- entries that aren't loads, and not for a dynamic linker
abbrev pub AreOthers : List Entry → Type 0
AreOthers [] = Unit {0}
AreOthers (p ∷ entries) = (4 ≤ p.kind) × AreOthers entries

-- the entries of an input behind its loads
abbrev pub other_entries : Taken → List Area → List Entry
other_entries e areas =
    stack_entries e.stack
    ++ (map (note_entry (granule_of e.machine) e.loads areas) e.notes
    ++ tls_entries (granule_of e.machine) e.loads areas e.tls)

pub table-parts : (e : Taken) (areas : List Area) → table_of e areas ≡ load_entries (granule_of e.machine) e.loads areas ++ other_entries e areas
unfolding table_of
table-parts e areas = refl

others-append : (xs ys : List Entry) → AreOthers xs → AreOthers ys → AreOthers (xs ++ ys)
others-append [] ys h k = k
others-append (x ∷ xs) ys h k = (h.0, others-append xs ys h.1 k)

stack-others : (stack : Option Entry) → AreOthers (stack_entries stack)
stack-others None = tt
stack-others (Some p) = (omega arith, tt)

notes-others : (g : ℕ) (loads : List Load) (areas : List Area) (notes : List Entry) → AreOthers (map (note_entry g loads areas) notes)
notes-others g loads areas [] = tt
notes-others g loads areas (p ∷ notes) = (omega arith, notes-others g loads areas notes)

tls-others : (g : ℕ) (loads : List Load) (areas : List Area) (tls : Option Entry) → AreOthers (tls_entries g loads areas tls)
tls-others g loads areas None = tt
tls-others g loads areas (Some p) = (omega arith, tt)

pub others : (e : Taken) (areas : List Area) → AreOthers (other_entries e areas)
others e areas =
    let g : ℕ = granule_of e.machine in
    others-append (stack_entries e.stack) (map (note_entry g e.loads areas) e.notes ++ tls_entries g e.loads areas e.tls) (stack-others e.stack)
    (others-append (map (note_entry g e.loads areas) e.notes) (tls_entries g e.loads areas e.tls) (notes-others g e.loads areas e.notes) (tls-others g e.loads areas e.tls))

entry-load : (g : ℕ) (p : Load) (x : Area) → 0 < p.memsz → is_load (load_entry g p x) ≡ true
entry-load g p x some = let t : (p.memsz == 0) ≡ false = grind (arith, nat_tests) in rw t refl

other-load : (p : Entry) → 4 ≤ p.kind → is_load p ≡ false
other-load p h = grind (arith, nat_tests)

others-none : (entries : List Entry) → AreOthers entries → loads_in entries ≡ []
others-none [] h = refl
others-none (p ∷ entries) h = cond-false (is_load p) (p ∷ loads_in entries) (loads_in entries) (other-load p h.0) ∙ others-none entries h.1

-- the loads of the loads' entries
loads-are : (g size low : ℕ) (loads : List Load) (areas : List Area) → AreLoads g size low loads → loads_in (load_entries g loads areas) ≡ load_entries g loads areas
loads-are g size low [] areas order = refl
loads-are g size low (p ∷ loads) [] order = refl
loads-are g size low (p ∷ loads) (x ∷ areas) order =
    let q : Entry = load_entry g p x in
    let rest : List Entry = load_entries g loads areas in
    cond-true (is_load q) (q ∷ loads_in rest) (loads_in rest) (entry-load g p x order.0.some) ∙ ap (λ (l : List Entry). q ∷ l) (loads-are g size (ceil_of (p.vaddr + p.memsz) g) loads areas order.1)

-- the loads of a table
pub table-loads : (e : Taken) (areas : List Area) (size : ℕ) → AreLoads (granule_of e.machine) size 0 e.loads → loads_in (table_of e areas) ≡ load_entries (granule_of e.machine) e.loads areas
table-loads e areas size order =
    let front : List Entry = load_entries (granule_of e.machine) e.loads areas in
    let more : List Entry = other_entries e areas in
    ap loads_in (table-parts e areas)
    ∙ filter-append is_load front more
    ∙ ap (λ (l : List Entry). l ++ loads_in more) (loads-are (granule_of e.machine) size 0 e.loads areas order)
    ∙ ap (λ (l : List Entry). front ++ l) (others-none more (others e areas))
    ∙ append-nil front

-- an entry that isn't for a dynamic linker
still : (k : ℕ) (p : Entry) (entries : List Entry) → ((p.kind ≡ 1) ⊎ (4 ≤ p.kind)) → first_fault (dynamic_rules k (p ∷ entries)) ≡ first_fault (dynamic_rules (k + 1) entries)
still k p entries h = let t : (p.kind == 3 || p.kind == 2) ≡ false = grind (arith, nat_tests) in rw t refl

others-still : (k : ℕ) (entries : List Entry) → AreOthers entries → first_fault (dynamic_rules k entries) ≡ None
others-still k [] h = refl
others-still k (p ∷ entries) h = still k p entries (inr h.0) ∙ others-still (k + 1) entries h.1

rows-still : (g k : ℕ) (loads : List Load) (areas : List Area) (more : List Entry) → AreOthers more → first_fault (dynamic_rules k (load_entries g loads areas ++ more)) ≡ None
rows-still g k [] areas more h = others-still k more h
rows-still g k (p ∷ loads) [] more h = others-still k more h
rows-still g k (p ∷ loads) (x ∷ areas) more h = still k (load_entry g p x) (load_entries g loads areas ++ more) (inl refl) ∙ rows-still g (k + 1) loads areas more h

-- none of a table's entries is
pub table-still : (e : Taken) (areas : List Area) → first_fault (dynamic_rules 1 (table_of e areas)) ≡ None
table-still e areas =
    ap (λ (l : List Entry). first_fault (dynamic_rules 1 l)) (table-parts e areas) ∙ rows-still (granule_of e.machine) 1 e.loads areas (other_entries e areas) (others e areas)

-- how many entries a table has
pub length-loads : (g : ℕ) (byte : ℕ → ℕ) (file : List ℕ) (loads : List Load) (areas : List Area) → HoldAll g byte file loads areas → length (load_entries g loads areas) ≡ length loads
length-loads g byte file [] areas h = refl
length-loads g byte file (p ∷ loads) [] h = absurd h
length-loads g byte file (p ∷ loads) (x ∷ areas) h = let rest = length-loads g byte file loads areas h.1 in omega arith

length-stack : (stack : Option Entry) → length (stack_entries stack) ≡ one_if stack
length-stack None = refl
length-stack (Some p) = refl

length-tls : (g : ℕ) (loads : List Load) (areas : List Area) (tls : Option Entry) → length (tls_entries g loads areas tls) ≡ one_if tls
length-tls g loads areas None = refl
length-tls g loads areas (Some p) = refl

pub length-table_of : (e : Taken) (areas : List Area) (byte : ℕ → ℕ) (file : List ℕ) → HoldAll (granule_of e.machine) byte file e.loads areas → length (table_of e areas) ≡ entry_count e
length-table_of e areas byte file h =
    let g : ℕ = granule_of e.machine in
    let notes : List Entry = map (note_entry g e.loads areas) e.notes in
    let tls : List Entry = tls_entries g e.loads areas e.tls in
    let a = ap length (table-parts e areas) in
    let b = length-append (load_entries g e.loads areas) (other_entries e areas) in
    let c = length-append (stack_entries e.stack) (notes ++ tls) in
    let d = length-append notes tls in
    let l = length-loads g byte file e.loads areas h in
    let s = length-stack e.stack in
    let n : length notes ≡ length e.notes = length-map e.notes (note_entry g e.loads areas) in
    let t = length-tls g e.loads areas e.tls in
    omega arith
