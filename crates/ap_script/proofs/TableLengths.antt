-- How long program header tables are, and where they stand.
use Rattle.std.proofs.Common.{◌≡◌, ℕ, suc, ◌+◌, ◌*◌, List, [], ◌∷◌, ◌++◌, length, map, refl, sym, ap, ◌∙◌, arith, length-append, append_assoc, subst, Option, Some, None}
use Rattle.std.proofs.lemmas.List.{length-map}
use Rattle.ap_fields.specs.Bytes.{Holds}
use Rattle.ap_fields.proofs.Bytes.{holds-part}
use Rattle.ap_elf.specs.declared.types.Entry.{Entry}
use Rattle.ap_elf.proofs.ReadBack.{length-table_bytes}
use Rattle.ap_check.specs.declared.load.Load.{Load}
use Rattle.ap_elf.specs.Machines.{granule_of}
use Rattle.ap_check.specs.Inputs.{Taken}
use Rattle.ap_layout.specs.declared.layout.Area.{Area}
use Rattle.ap_layout.specs.Areas.{ServeAll}
use Rattle.ap_layout.specs.Positions.{PlacedInput, one_if, entry_count, table_length, AreServed, AreTables}
use Rattle.ap_script.specs.Tables.{load_entries, stack_entries, note_entry, tls_entries, table_of, table_text}
use Rattle.ap_script.specs.Blocks.{tables_text}
use Rattle.ap_script.specs.Stands.{HoldsTables}

length-loads : (g : ℕ) (news : List Area) (loads : List Load) (areas : List Area) → ServeAll g news loads areas → length (load_entries g loads areas) ≡ length loads
length-loads g news [] [] h = refl
length-loads g news [] (a ∷ areas) h = absurd h
length-loads g news (p ∷ loads) [] h = absurd h
length-loads g news (p ∷ loads) (a ∷ areas) h = ap suc (length-loads g news loads areas h.1)

length-stack : (stack : Option Entry) → length (stack_entries stack) ≡ one_if stack
length-stack None = refl
length-stack (Some p) = refl

length-tls : (g : ℕ) (loads : List Load) (areas : List Area) (tls : Option Entry) → length (tls_entries g loads areas tls) ≡ one_if tls
length-tls g loads areas None = refl
length-tls g loads areas (Some p) = refl

pub length-table_of : (news : List Area) (e : Taken) (areas : List Area) → ServeAll (granule_of e.machine) news e.loads areas → length (table_of e areas) ≡ entry_count e
unfolding table_of
length-table_of news e areas h =
    let g = granule_of e.machine in
    let loads = load_entries g e.loads areas in
    let stack = stack_entries e.stack in
    let notes = map (note_entry g e.loads areas) e.notes in
    let tls = tls_entries g e.loads areas e.tls in
    let a = length-append loads (stack ++ (notes ++ tls)) in
    let b = length-append stack (notes ++ tls) in
    let c = length-append notes tls in
    let l = length-loads g news e.loads areas h in
    let s = length-stack e.stack in
    let n = length-map e.notes (note_entry g e.loads areas) in
    let t = length-tls g e.loads areas e.tls in
    omega arith

pub length-table_text : (news : List Area) (e : Taken) (areas : List Area) → ServeAll (granule_of e.machine) news e.loads areas → length (table_text e areas) ≡ table_length e
length-table_text news e areas h = length-table_bytes (table_of e areas) ∙ ap (λ n. 56 * n) (length-table_of news e areas h)

-- the tables end where their last one does
pub length-tables : (news : List Area) (at end : ℕ) (ps : List PlacedInput) → AreServed news ps → AreTables at ps end → at + length (tables_text ps) ≡ end
length-tables news at end [] served are = (let e : end ≡ at = are in omega arith)
length-tables news at end (p ∷ ps) served are =
    let here = length-table_text news p.input p.areas served.0 in
    let rest = length-tables news (at + table_length p.input) end ps served.1 are.1 in
    let a = length-append (table_text p.input p.areas) (tables_text ps) in
    omega arith

-- each stands behind those before it
pub holds-tables : (news : List Area) (at end : ℕ) (ps : List PlacedInput) (front behind : List ℕ) → AreServed news ps → AreTables at ps end
    → length front ≡ at → HoldsTables (front ++ (tables_text ps ++ behind)) ps
holds-tables news at end [] front behind served are long = tt
holds-tables news at end (p ∷ ps) front behind served are long =
    let here = table_text p.input p.areas in
    let rest = tables_text ps in
    let there : p.table ≡ length front = are.0 ∙ sym long in
    let size = length-table_text news p.input p.areas served.0 in
    let joined = length-append front here in
    let one : front ++ ((here ++ rest) ++ behind) ≡ front ++ (here ++ (rest ++ behind)) = ap (λ r. front ++ r) (append_assoc here rest behind) in
    let two : (front ++ here) ++ (rest ++ behind) ≡ front ++ ((here ++ rest) ++ behind) = append_assoc front here (rest ++ behind) ∙ sym one in (
      subst (λ w. Holds w p.table here) (sym one) (holds-part front here (rest ++ behind) p.table there),
      subst (λ w. HoldsTables w ps) two
          (holds-tables news (at + table_length p.input) end ps (front ++ here) behind served.1 are.1 (omega arith)),
    )
