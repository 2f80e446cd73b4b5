-- Each eighth byte of a program header table is zero.
use Rattle.std.proofs.Common.{◌≡◌, inl, inr, ℕ, zero, suc, ◌+◌, ◌*◌, ◌-◌, ◌%◌, ◌^◌, ◌≤◌, ◌<◌, ◌==◌, ◌&&◌, not, cond, Bool, true, false, List, [], ◌∷◌, ◌++◌, length, map, get_or, refl, sym, ap, ◌∙◌, subst, arith, Option, Some, None, nat_le, nat_lt}
use Rattle.std.specs.Prelude.{All, IfSome, bit_and}
use Rattle.std.specs.Int.{byte_at}
use Rattle.std.specs.List.{flat_map}
use Rattle.std.proofs.lemmas.Bool.{and_parts, cases_lt, or_cases}
use Rattle.std.proofs.lemmas.Bool.Decides.{nat_tests}
use Rattle.std.proofs.lemmas.Nat.{and_mask}
use Rattle.std.proofs.lemmas.List.Elements.{All-tail}
use Rattle.std.proofs.lemmas.List.{get_or_append_left, get_or-append_right, get_or_past}
use Rattle.ap_fields.specs.Fields.{bytes_of}
use Rattle.ap_fields.specs.Bytes.{zeros}
use Rattle.ap_fields.specs.Granules.{floor_of, ceil_of}
use Rattle.ap_fields.specs.declared.sizes.TheConstants.{BLOCK}
use Rattle.ap_fields.proofs.Sparse.{Sparse, zeros-some, zeros-from}
use Rattle.ap_elf.specs.declared.types.Entry.{Entry}
use Rattle.ap_elf.specs.Written.{entry_bytes, table_bytes}
use Rattle.ap_elf.proofs.ReadBack.{length-entry_bytes}
use Rattle.ap_elf.specs.declared.machine.Machine.{Machine}
use Rattle.ap_elf.specs.declared.machine.Machine.TheVariants.{X64, A64}
use Rattle.ap_check.specs.declared.load.Load.{Load}
use Rattle.ap_elf.specs.Machines.{granule_of}
use Rattle.ap_check.specs.declared.options.Options.{Options}
use Rattle.ap_check.specs.Inputs.{Taken, IsLoad, AreLoads, IsTls, Meets, has_part, in_part, is_note}
use Rattle.ap_layout.specs.declared.layout.Area.{Area}
use Rattle.ap_layout.specs.declared.sizes.TheConstants.{FILE_TOP}
use Rattle.ap_layout.specs.Areas.{new_areas}
use Rattle.ap_layout.specs.Positions.{Positions, Fits, entry_count, PlacedInput, AreServed, all_areas, only_inputs, placed_inputs}
use Rattle.ap_pe.specs.Linked.{pe_text}
use Rattle.ap_pe.proofs.LinkedHeaders.{pe_text-sparse}
use Rattle.ap_script.specs.Tables.{load_entry, load_entries, stack_entries, is_backed, place_of, note_entry, tls_entries, table_of, table_text}
use Rattle.ap_script.specs.Blocks.{tables_text, body_of}
use Rattle.ap_script.specs.Stands.{HasZeros}
use Rattle.ap_layout.specs.Jobs.{IsKnown}
use Rattle.ap_layout.proofs.Known.{fits-known}
use Rattle.ap_script.proofs.TableLengths.{length-table_text}

-- ---- texts whose eighth bytes are zero

abbrev pub Eighths : List ℕ → Type 0
Eighths text = (i : ℕ) → get_or text (8 * i + 7) 0 ≡ 0

eighths-append : (n : ℕ) (xs ys : List ℕ) → length xs ≡ 8 * n → Eighths xs → Eighths ys → Eighths (xs ++ ys)
eighths-append n xs ys long x y i =
    elim (cases_lt i n) [
      | inl low ↦ get_or_append_left xs ys 0 (8 * i + 7) (omega arith) ∙ x i
      | inr high ↦
          (let back : 8 * i + 7 - 8 * n ≡ 8 * (i - n) + 7 = omega arith in
          get_or-append_right xs ys (8 * n) (8 * i + 7) 0 long (omega arith)
          ∙ ap (λ k. get_or ys k 0) back ∙ y (i - n))
    ]

-- ---- entries whose fields leave their last byte zero

pub record IsShort (p : Entry) : Type 0 where
  pub flags : p.flags < 256 ^ 3
  pub offset : p.offset < 256 ^ 7
  pub vaddr : p.vaddr < 256 ^ 7
  pub paddr : p.paddr < 256 ^ 7
  pub filesz : p.filesz < 256 ^ 7
  pub memsz : p.memsz < 256 ^ 7
  pub align : p.align < 256 ^ 7

zero-last : (p : Entry) (i : ℕ) → IsShort p → i < 7 → get_or (entry_bytes p) (8 * i + 7) 0 ≡ 0
unfolding entry_bytes bytes_of
zero-last p zero fits h = let f = fits.flags in let z : byte_at 3 p.flags ≡ 0 = omega arith in z
zero-last p (suc zero) fits h = let f = fits.offset in let z : byte_at 7 p.offset ≡ 0 = omega arith in z
zero-last p (suc (suc zero)) fits h = let f = fits.vaddr in let z : byte_at 7 p.vaddr ≡ 0 = omega arith in z
zero-last p (suc (suc (suc zero))) fits h = let f = fits.paddr in let z : byte_at 7 p.paddr ≡ 0 = omega arith in z
zero-last p (suc (suc (suc (suc zero)))) fits h = let f = fits.filesz in let z : byte_at 7 p.filesz ≡ 0 = omega arith in z
zero-last p (suc (suc (suc (suc (suc zero))))) fits h = let f = fits.memsz in let z : byte_at 7 p.memsz ≡ 0 = omega arith in z
zero-last p (suc (suc (suc (suc (suc (suc zero)))))) fits h = let f = fits.align in let z : byte_at 7 p.align ≡ 0 = omega arith in z
zero-last p (suc (suc (suc (suc (suc (suc (suc i))))))) fits h = absurd (omega (arith, h))

eighths-entry : (p : Entry) → IsShort p → Eighths (entry_bytes p)
eighths-entry p fits i =
    elim (cases_lt i 7) [
      | inl low ↦ zero-last p i fits low
      | inr high ↦ (let long = length-entry_bytes p in get_or_past (entry_bytes p) (8 * i + 7) 0 (omega arith))
    ]

abbrev pub AreShort : List Entry → Type 0
AreShort [] = Unit {0}
AreShort (p ∷ entries) = IsShort p × AreShort entries

short-append : (xs ys : List Entry) → AreShort xs → AreShort ys → AreShort (xs ++ ys)
short-append [] ys x y = y
short-append (p ∷ xs) ys x y = (x.0, short-append xs ys x.1 y)

eighths-table : (entries : List Entry) → AreShort entries → Eighths (table_bytes entries)
unfolding table_bytes
eighths-table [] h = λ i. refl
eighths-table (p ∷ entries) h = eighths-append 7 (entry_bytes p) (flat_map entry_bytes entries) (length-entry_bytes p) (eighths-entry p h.0) (eighths-table entries h.1)

-- ---- the numbers of a table

-- areas that start below what a file's length stays below
abbrev AreLow : List Area → Type 0
AreLow areas = All (λ x. x.file < FILE_TOP) areas

low-part : (m : Machine) (v : ℕ) → v % granule_of m < 16384
low-part X64 v = omega arith
low-part A64 v = omega arith

granule-low : (m : Machine) → granule_of m ≤ 16384
granule-low X64 = omega arith
granule-low A64 = omega arith

has_part-top : (g size low a count : ℕ) (p : Load) → IsLoad g size low p → has_part a count p ≡ true → a + count ≤ 2 ^ 47
has_part-top g size low a count p is h =
    let both = and_parts (nat_le p.vaddr a) (nat_le (a + count) (p.vaddr + p.filesz)) h in
    let below : a + count ≤ p.vaddr + p.filesz = grind (arith, nat_tests, both.1) in
    let sizes = is.sizes in
    let top = is.top in
    omega arith

in_part-top : (g size low a count : ℕ) (loads : List Load) → AreLoads g size low loads → in_part a count loads ≡ true → a + count ≤ 2 ^ 47
in_part-top g size low a count [] are h = absurd (cc)
in_part-top g size low a count (p ∷ loads) are h =
    elim (or_cases (has_part a count p) (in_part a count loads) h) [
      | inl here ↦ has_part-top g size low a count p are.0 here
      | inr later ↦ in_part-top g size (ceil_of (p.vaddr + p.memsz) g) a count loads are.1 later
    ]

place-here : (g size low a : ℕ) (p : Load) (x : Area) → IsLoad g size low p → x.file < FILE_TOP → is_backed p a ≡ true → x.file + (a - floor_of p.vaddr g) < 256 ^ 7
place-here g size low a p x is file backed =
    let below : a < p.vaddr + p.filesz = grind (arith, nat_tests, (and_parts (nat_le p.vaddr a) (nat_lt a (p.vaddr + p.filesz)) backed).1) in
    let sizes = is.sizes in
    let top = is.top in
    omega arith

short-by : (t : Bool) (x y : ℕ) → (t ≡ true → x < 256 ^ 7) → y < 256 ^ 7 → cond t x y < 256 ^ 7
short-by true x y one other = one refl
short-by false x y one other = other

place-short : (g size low a : ℕ) (loads : List Load) (areas : List Area) → AreLoads g size low loads → AreLow areas → place_of g loads areas a < 256 ^ 7
place-short g size low a [] areas are lows = omega arith
place-short g size low a (p ∷ loads) [] are lows = omega arith
place-short g size low a (p ∷ loads) (x ∷ areas) are lows =
    short-by (is_backed p a) (x.file + (a - floor_of p.vaddr g)) (place_of g loads areas a) (place-here g size low a p x are.0 (lows 0 x (omega arith)))
    (place-short g size (ceil_of (p.vaddr + p.memsz) g) a loads areas are.1 (All-tail (λ (y : Area). y.file < FILE_TOP) x areas lows))

short-load : (m : Machine) (size low : ℕ) (p : Load) (x : Area) → IsLoad (granule_of m) size low p → x.file < FILE_TOP → IsShort (load_entry (granule_of m) p x)
short-load m size low p x is file =
    let part = low-part m p.vaddr in
    let granule = granule-low m in
    let perms = is.perms in
    let sizes = is.sizes in
    let top = is.top in
    record {
      flags = omega arith;
      offset = omega arith;
      vaddr = omega arith;
      paddr = omega arith;
      filesz = omega arith;
      memsz = omega arith;
      align = omega arith;
    }

short-loads : (m : Machine) (size low : ℕ) (loads : List Load) (areas : List Area) → AreLoads (granule_of m) size low loads → AreLow areas → AreShort (load_entries (granule_of m) loads areas)
short-loads m size low [] areas are lows = tt
short-loads m size low (p ∷ loads) [] are lows = tt
short-loads m size low (p ∷ loads) (x ∷ areas) are lows =
    (short-load m size low p x are.0 (lows 0 x (omega arith)), short-loads m size (ceil_of (p.vaddr + p.memsz) (granule_of m)) loads areas are.1 (All-tail (λ (y : Area). y.file < FILE_TOP) x areas lows))

short-stack : (stack : Option Entry) → AreShort (stack_entries stack)
short-stack None = tt
short-stack (Some p) =
    let mask : bit_and p.flags 7 ≡ p.flags % 8 = and_mask p.flags 3 in (
      record {
        flags = omega arith;
        offset = omega arith;
        vaddr = omega arith;
        paddr = omega arith;
        filesz = omega arith;
        memsz = omega arith;
        align = omega arith;
      },
      tt,
    )

short-note : (g size : ℕ) (loads : List Load) (areas : List Area) (p : Entry) → AreLoads g size 0 loads → AreLow areas → is_note loads p ≡ true → IsShort (note_entry g loads areas p)
short-note g size loads areas p are lows is =
    let rest = (and_parts (p.kind == 4) (not (p.filesz == 0) && in_part p.vaddr p.filesz loads) is).1 in
    let part = (and_parts (not (p.filesz == 0)) (in_part p.vaddr p.filesz loads) rest).1 in
    let top = in_part-top g size 0 p.vaddr p.filesz loads are part in
    record {
      flags = omega arith;
      offset = place-short g size 0 p.vaddr loads areas are lows;
      vaddr = omega arith;
      paddr = omega arith;
      filesz = omega arith;
      memsz = omega arith;
      align = short-by (p.align == 8) 8 4 (λ e. omega arith) (omega arith);
    }

short-notes : (g size : ℕ) (loads : List Load) (areas : List Area) (notes : List Entry) → AreLoads g size 0 loads → AreLow areas → All (λ p. is_note loads p ≡ true) notes
    → AreShort (map (note_entry g loads areas) notes)
short-notes g size loads areas [] are lows h = tt
short-notes g size loads areas (p ∷ notes) are lows h =
    (short-note g size loads areas p are lows (h 0 p (omega arith)), short-notes g size loads areas notes are lows (λ k d low. h (suc k) d (omega arith)))

short-tls : (g size : ℕ) (loads : List Load) (areas : List Area) (tls : Option Entry) → AreLoads g size 0 loads → AreLow areas → IfSome tls (λ p. IsTls loads p) → AreShort (tls_entries g loads areas tls)
short-tls g size loads areas None are lows h = tt
short-tls g size loads areas (Some p) are lows h =
    let sizes = h.sizes in
    let small = h.small in
    let top = h.top in
    let aligned = h.aligned in (
      record {
        flags = omega arith;
        offset = short-by (p.filesz == 0) 0 (place_of g loads areas p.vaddr) (λ e. omega arith) (place-short g size 0 p.vaddr loads areas are lows);
        vaddr = omega arith;
        paddr = omega arith;
        filesz = omega arith;
        memsz = omega arith;
        align = omega arith;
      },
      tt,
    )

short-table : (e : Taken) (areas : List Area) → Meets e → AreLow areas → AreShort (table_of e areas)
unfolding table_of
short-table e areas meets lows =
    let g = granule_of e.machine in
    let notes = map (note_entry g e.loads areas) e.notes in
    let tls = tls_entries g e.loads areas e.tls in
    short-append (load_entries g e.loads areas) (stack_entries e.stack ++ (notes ++ tls)) (short-loads e.machine e.size 0 e.loads areas meets.loads lows)
    (short-append (stack_entries e.stack) (notes ++ tls) (short-stack e.stack)
    (short-append notes tls (short-notes g e.size e.loads areas e.notes meets.loads lows meets.notes) (short-tls g e.size e.loads areas e.tls meets.loads lows meets.tls)))

eighths-tables : (news : List Area) (ps : List PlacedInput) → All Meets (only_inputs ps) → All IsKnown ps → AreServed news ps → Eighths (tables_text ps)
eighths-tables news [] meets known served = λ i. refl
eighths-tables news (p ∷ ps) meets known served =
    let long = length-table_text news p.input p.areas served.0 in
    eighths-append (7 * entry_count p.input) (table_text p.input p.areas) (tables_text ps) (omega arith)
    (eighths-table (table_of p.input p.areas) (short-table p.input p.areas (meets 0 p.input (omega arith)) (known 0 p (omega arith)).places))
    (eighths-tables news ps (λ k d low. meets (suc k) d (omega arith)) (All-tail IsKnown p ps known) served.1)

-- ---- the body

-- texts with a zero at a place and at each eighth behind it
sparse-eighths : (c j : ℕ) (text : List ℕ) → c + j ≤ 7 → ((i : ℕ) → get_or text (8 * i + j) 0 ≡ 0) → Sparse c text
sparse-eighths c j [] few h = tt
sparse-eighths c zero (b ∷ text) few h =
    inl (h 0, sparse-eighths 0 7 text (omega arith) (λ i. ap (λ k. get_or (b ∷ text) k 0) (let e : suc (8 * i + 7) ≡ 8 * suc i + 0 = omega arith in e) ∙ h (suc i)))
sparse-eighths c (suc j) (b ∷ text) few h =
    inr (omega arith, sparse-eighths (c + 1) j text (omega arith) (λ i. ap (λ k. get_or (b ∷ text) k 0) (let e : suc (8 * i + j) ≡ 8 * i + suc j = omega arith in e) ∙ h i))

-- those whose second byte is zero, too
sparse-second : (text : List ℕ) → get_or text 1 0 ≡ 0 → Eighths text → Sparse 2 text
sparse-second [] second h = tt
sparse-second (a ∷ []) second h = inr (omega arith, tt)
sparse-second (a ∷ b ∷ text) second h =
    inr (omega arith, inl (second, sparse-eighths 0 5 text (omega arith) (λ i. ap (λ k. get_or (a ∷ b ∷ text) k 0) (let e : suc (suc (8 * i + 5)) ≡ 8 * i + 7 = omega arith in e) ∙ h i)))

-- the first entry of a table is a load, whose type has one byte
first-type : (g : ℕ) (loads : List Load) (areas : List Area) (more : List Entry) (rest : List ℕ) → 0 < length loads → length areas ≡ length loads → get_or (table_bytes (load_entries g loads areas ++ more) ++ rest) 1 0 ≡ 0
unfolding table_bytes entry_bytes bytes_of
first-type g [] areas more rest some same = absurd (omega arith)
first-type g (p ∷ loads) [] more rest some same = absurd (omega arith)
first-type g (p ∷ loads) (x ∷ areas) more rest some same = refl

tables-second : (ps : List PlacedInput) → All Meets (only_inputs ps) → All IsKnown ps → get_or (tables_text ps) 1 0 ≡ 0
unfolding table_of
tables-second [] meets known = refl
tables-second (p ∷ ps) meets known =
    let e : Taken = p.input in
    first-type (granule_of e.machine) e.loads p.areas _ (tables_text ps) (meets 0 e (omega arith)).some (known 0 p (omega arith)).same

pub body-zeros : (options : Options) (inputs : List Taken) (l : Positions) → All Meets inputs → Fits options inputs l → HasZeros (body_of options inputs l)
unfolding body_of
body-zeros options inputs l meets fits =
    let ps = placed_inputs inputs l in
    let tables = tables_text ps in
    let all = subst (All Meets) (sym fits.all) meets in
    let known = fits-known options inputs l fits in
    let sparse = sparse-second tables (tables-second ps all known) (eighths-tables (new_areas BLOCK (all_areas ps)) ps all known fits.areas) in
    zeros-from 0 (zeros 10 ++ (pe_text options inputs l ++ tables)) (omega arith)
    (zeros-some 0 9 (pe_text options inputs l ++ tables) (pe_text-sparse options inputs l tables meets fits sparse))
