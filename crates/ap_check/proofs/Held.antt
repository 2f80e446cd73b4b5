-- What stands where rules hold: the tests turned into facts, and what is taken of a table.
use Rattle.std.proofs.Common.{◌≡◌, ℕ, zero, suc, ◌+◌, ◌^◌, ◌<◌, ◌≤◌, Bool, true, false, cond, nat_le, List, [], ◌∷◌, ◌++◌, length, map, filter, take, All, IfSome, Some, None, refl, sym, arith, subst}
use Rattle.std.proofs.lemmas.Nat.{and_assoc}
use Rattle.std.specs.Int.Bits.{and_le_r}
use Rattle.std.proofs.lemmas.Bool.Decides.{nat_tests}
use Rattle.std.proofs.lemmas.Bool.{leb-true}
use Rattle.std.proofs.lemmas.List.{length-take, length-map}
use Rattle.std.proofs.lemmas.List.Elements.{All-nil, All-cons}
use Rattle.ap_fields.specs.declared.sizes.TheConstants.{MOST_LOADS}
use Rattle.ap_fields.specs.Granules.{ceil_of}
use Rattle.ap_fields.specs.FirstFault.{Rules, first_fault}
use Rattle.ap_fields.proofs.FirstFaults.{append-none}
use Rattle.ap_elf.specs.declared.types.Header.{Header}
use Rattle.ap_elf.specs.declared.types.Entry.{Entry}
use Rattle.ap_elf.specs.Fields.{is_load, loads_in}
use Rattle.ap_check.specs.declared.load.Load.{Load}
use Rattle.ap_check.specs.declared.symbols.Symbols.{Symbols}
use Rattle.ap_elf.specs.Machines.{granule_of}
use Rattle.ap_check.specs.Rules.{fault_of, size_rules, dynamic_rules, count_rules, count_of_loads_rules, load_rules, loads_rules, span_rules, entry_rules, stands, single_rules, tls_rules, laid_rules, end_rules, table_rules}
use Rattle.ap_check.specs.Inputs.{Taken, IsLoad, AreLoads, IsTls, Meets, can_start, is_permitted, span_of, bytes_of_loads, is_tls, is_note, is_stack, load_of, loads_of, first_of, machine_of, taken_of}

-- a rule that holds, before others
pub held : {F : Type 0} (test : Bool) (f : F) (rest : Rules F) → first_fault ((test, f) ∷ rest) ≡ None → (test ≡ true) × (first_fault rest ≡ None)
held true f rest h = (refl, h)
held false f rest h = absurd (cc)

-- each element passes a test
Pass : (Entry → Bool) → List Entry → Type 0
Pass t [] = Unit {0}
Pass t (p ∷ ps) = (t p ≡ true) × Pass t ps

filter-if : (t : Entry → Bool) (p : Entry) (ps : List Entry) (b : Bool) → t p ≡ b → Pass t ps → Pass t (cond b (p ∷ ps) ps)
unfolding Pass
filter-if t p ps true e h = (e, h)
filter-if t p ps false e h = h

filter-all : (t : Entry → Bool) (es : List Entry) → Pass t (filter t es)
unfolding Pass
filter-all t [] = tt
filter-all t (p ∷ es) = filter-if t p (filter t es) (t p) refl (filter-all t es)

-- what may be done with a load
load-permitted : (n size g k low : ℕ) (p : Entry) → first_fault (load_rules n size g k low p) ≡ None → is_permitted (load_of p) ≡ true
load-permitted n size g k low p h =
    let read = and_assoc 4 p.flags 7 in
    let apart = and_assoc 3 p.flags 7 in
    grind (arith, nat_tests)

-- one load
load-held : (n size g k low : ℕ) (p : Entry) → is_load p ≡ true → first_fault (load_rules n size g k low p) ≡ None → IsLoad g size low (load_of p)
load-held n size g k low p is h = record {
  some = grind (arith, nat_tests);
  sizes = grind (arith, nat_tests);
  part = grind (arith, nat_tests);
  base = grind (arith, nat_tests);
  top = grind (arith, nat_tests);
  order = grind (arith, nat_tests);
  perms = let most = and_le_r p.flags 7 in omega arith;
  readable = load-permitted n size g k low p h;
}

loads-held : (n size g k low : ℕ) (ps : List Entry) → Pass is_load ps → first_fault (loads_rules n size g k low ps) ≡ None → AreLoads g size low (map load_of ps)
unfolding Pass
loads-held n size g k low [] all h = tt
loads-held n size g k low (p ∷ ps) all h =
    let parts = append-none (load_rules n size g k low p) (loads_rules n size g (k + 1) (ceil_of (p.vaddr + p.memsz) g) ps) h in
    (load-held n size g k low p all.0 parts.0, loads-held n size g (k + 1) (ceil_of (p.vaddr + p.memsz) g) ps all.1 parts.1)

pub size-held : (n size : ℕ) → first_fault (size_rules n size) ≡ None → (64 ≤ size) × (size ≤ 2 ^ 28)
size-held n size h =
    let most = held (nat_le size (2 ^ 28)) (fault_of n 1 0 size) ((nat_le 64 size, fault_of n 2 0 size) ∷ []) h in
    let least = held (nat_le 64 size) (fault_of n 2 0 size) [] most.1 in
    (leb-true 64 size least.0, leb-true size (2 ^ 28) most.0)

count-held : (n loads : ℕ) → first_fault (count_rules n loads) ≡ None → (0 < loads) × (loads ≤ MOST_LOADS)
count-held n loads h = (grind (arith, nat_tests), grind (arith, nat_tests))

span-held : (n g : ℕ) (loads : List Load) → first_fault (span_rules n g loads) ≡ None → (span_of g loads ≤ 2 ^ 30) × (bytes_of_loads loads ≤ 2 ^ 28)
span-held n g loads h =
    let a = held (nat_le (span_of g loads) (2 ^ 30)) (fault_of n 19 1 (span_of g loads)) ((nat_le (bytes_of_loads loads) (2 ^ 28), fault_of n 19 2 (bytes_of_loads loads)) ∷ []) h in
    let b = held (nat_le (bytes_of_loads loads) (2 ^ 28)) (fault_of n 19 2 (bytes_of_loads loads)) [] a.1 in
    (leb-true (span_of g loads) (2 ^ 30) a.0, leb-true (bytes_of_loads loads) (2 ^ 28) b.0)

-- the one entry of type 7
tls-stands : (loads : List Load) (p : Entry) → is_tls p ≡ true → stands loads p ≡ true → IsTls loads p
tls-stands loads p is h = record {
  kind = grind (arith, nat_tests);
  sizes = grind (arith, nat_tests);
  small = grind (arith, nat_tests);
  aligned = grind (arith, nat_tests);
  top = grind (arith, nat_tests);
  part = grind (arith, nat_tests);
}

tls-case : (n k : ℕ) (loads : List Load) (p : Entry) (ps : List Entry) (b : Bool) → is_tls p ≡ b
    → (first_fault (tls_rules n (k + 1) loads ps) ≡ None → IfSome (first_of is_tls ps) (IsTls loads))
    → first_fault (cond b (single_rules n (k + 1) ps ++ ((stands loads p, fault_of n 21 k p.vaddr) ∷ [])) (tls_rules n (k + 1) loads ps)) ≡ None
    → IfSome (cond b (Some p) (first_of is_tls ps)) (IsTls loads)
tls-case n k loads p ps true is rest h =
    let parts = append-none (single_rules n (k + 1) ps) ((stands loads p, fault_of n 21 k p.vaddr) ∷ []) h in
    tls-stands loads p is (held (stands loads p) (fault_of n 21 k p.vaddr) [] parts.1).0
tls-case n k loads p ps false is rest h = rest h

tls-held : (n k : ℕ) (loads : List Load) (es : List Entry) → first_fault (tls_rules n k loads es) ≡ None → IfSome (first_of is_tls es) (IsTls loads)
tls-held n k loads [] h = tt
tls-held n k loads (p ∷ ps) h = tls-case n k loads p ps (is_tls p) refl (λ r. tls-held n (k + 1) loads ps r) h

-- the first that passes a test passes it
first-case : (t : Entry → Bool) (p : Entry) (ps : List Entry) (b : Bool) → t p ≡ b → IfSome (first_of t ps) (λ q. t q ≡ true) → IfSome (cond b (Some p) (first_of t ps)) (λ q. t q ≡ true)
first-case t p ps true is rest = is
first-case t p ps false is rest = rest

first-passes : (t : Entry → Bool) (es : List Entry) → IfSome (first_of t es) (λ q. t q ≡ true)
first-passes t [] = tt
first-passes t (p ∷ ps) = first-case t p ps (t p) refl (first-passes t ps)

-- and so do the first of those that pass it
filter-case : (j : ℕ) (t : Entry → Bool) (p : Entry) (ps : List Entry) (b : Bool) → t p ≡ b → ((i : ℕ) → All (λ q. t q ≡ true) (take i ps)) → All (λ q. t q ≡ true) (take j (cond b (p ∷ ps) ps))
filter-case zero t p ps b is rest = All-nil (λ q. t q ≡ true)
filter-case (suc j) t p ps true is rest = All-cons (λ q. t q ≡ true) p (take j ps) is (rest j)
filter-case (suc j) t p ps false is rest = rest (suc j)

filter-passes : (j : ℕ) (t : Entry → Bool) (es : List Entry) → All (λ q. t q ≡ true) (take j (filter t es))
filter-passes zero t es = All-nil (λ q. t q ≡ true)
filter-passes (suc j) t [] = All-nil (λ q. t q ≡ true)
filter-passes (suc j) t (p ∷ ps) = filter-case (suc j) t p (filter t ps) (t p) refl (λ i. filter-passes i t ps)

-- what is taken of a table whose rules hold
pub table_meets : (n size : ℕ) (h : Header) (entries : List Entry) (s : Symbols) → 64 ≤ size → size ≤ 2 ^ 28
    → first_fault (table_rules n size h entries) ≡ None → Meets (taken_of n size h entries s)
unfolding table_rules count_of_loads_rules laid_rules end_rules taken_of
table_meets n size h entries s least most none =
    let g : ℕ = granule_of (machine_of h.e_machine) in
    let found : List Entry = loads_in entries in
    let loads : List Load = loads_of entries in
    let few = append-none (count_of_loads_rules n entries) (laid_rules n size g found ++ end_rules n h.e_entry loads entries) none in
    let counted = append-none (dynamic_rules n 1 entries) (count_rules n (length found)) few.0 in
    let behind = append-none (laid_rules n size g found) (end_rules n h.e_entry loads entries) few.1 in
    let laid = append-none (loads_rules n size g 1 0 found) (span_rules n g loads) behind.0 in
    let ends = append-none (entry_rules n h.e_entry loads) (tls_rules n 1 loads entries) behind.1 in
    let number = count-held n (length found) counted.1 in
    let span = span-held n g loads laid.1 in
    let long = length-map found load_of in
    record {
      least = least;
      most = most;
      some = omega arith;
      few = omega arith;
      loads = loads-held n size g 1 0 found (filter-all is_load entries) laid.0;
      span = span.0;
      bytes = span.1;
      entry = (held (can_start h.e_entry loads) (fault_of n 20 0 h.e_entry) [] ends.0).0;
      tls = tls-held n 1 loads entries ends.1;
      stack = first-passes is_stack entries;
      notes = filter-passes 5 (is_note loads) entries;
      five = omega (arith, length-take 5 (filter (is_note loads) entries));
    }

-- and what is equal to it
pub meets_from : (n size : ℕ) (h : Header) (entries : List Entry) (s : Symbols) (i : Taken) → 64 ≤ size → size ≤ 2 ^ 28
    → first_fault (table_rules n size h entries) ≡ None → i ≡ taken_of n size h entries s → Meets i
meets_from n size h entries s i least most none is = subst Meets (sym is) (table_meets n size h entries s least most none)
