-- What the positions of a linked file that fit its inputs give to those who write its parts.
use Rattle.std.proofs.Common.{◌≡◌, ℕ, suc, ◌+◌, ◌<◌, ◌≤◌, List, [], ◌∷◌, ◌++◌, length, zero, Option, Some, None, refl, ap, ◌∙◌, sym, map, get_or, drop, subst, arith}
use Rattle.std.specs.Prelude.{All}
use Rattle.std.proofs.lemmas.List.{drop_all, length-map}
use Rattle.arrayvec.specs.ArrayVec.{ArrayVec}
use Rattle.std.proofs.lemmas.List.Elements.{All-cons, All-nil, All-tail}
use Rattle.ap_fields.specs.declared.sizes.TheConstants.{BLOCK}
use Rattle.ap_elf.specs.Machines.{granule_of}
use Rattle.ap_check.specs.declared.options.Options.{Options}
use Rattle.ap_check.specs.Inputs.{Taken, inputs_of}
use Rattle.ap_layout.specs.declared.layout.Area.{Area}
use Rattle.ap_layout.specs.declared.sizes.TheConstants.{MOST_BODY, FILE_TOP}
use Rattle.ap_layout.specs.Areas.{end_from, after, new_areas}
use Rattle.ap_layout.specs.Positions.{Positions, PlacedInput, Fits, AreServed, AreTables, tables_start, table_length, placed, placed_inputs, only_inputs, all_areas}
use Rattle.ap_layout.proofs.NewAreas.{end-least}
use Rattle.ap_layout.proofs.Fitting.{serve-same}
use Rattle.ap_layout.specs.Jobs.{IsKnown}

-- an area begins below the end
areas-below : (c n : ℕ) (areas : List Area) → end_from c areas < n → All (λ x. x.file < n) areas
areas-below c n [] h = All-nil (λ x. x.file < n)
areas-below c n (a ∷ areas) h =
    let r = end-least (after c a) areas in
    All-cons (λ x. x.file < n) a areas (omega arith) (areas-below (after c a) n areas h)

front-all : (n : ℕ) (xs ys : List Area) → All (λ x. x.file < n) (xs ++ ys) → All (λ x. x.file < n) xs
front-all n [] ys h = All-nil (λ x. x.file < n)
front-all n (x ∷ xs) ys h = All-cons (λ x. x.file < n) x xs (h 0 x (omega arith)) (front-all n xs ys (All-tail (λ x. x.file < n) x (xs ++ ys) h))

back-all : (n : ℕ) (xs ys : List Area) → All (λ x. x.file < n) (xs ++ ys) → All (λ x. x.file < n) ys
back-all n [] ys h = h
back-all n (x ∷ xs) ys h = back-all n xs ys (All-tail (λ x. x.file < n) x (xs ++ ys) h)

-- each input of some is known, where all of them are served
known-all : (news : List Area) (at end : ℕ) (ps : List PlacedInput) → AreServed news ps → AreTables at ps end → end ≤ MOST_BODY → All (λ x. x.file < FILE_TOP) (all_areas ps) → All IsKnown ps
known-all news at end [] served tables low below = All-nil IsKnown
known-all news at end (p ∷ ps) served tables low below =
    let behind = tables-behind (at + table_length p.input) end ps tables.1 in
    let place = tables.0 in
    All-cons IsKnown p ps
    (record {
      same = serve-same (granule_of p.input.machine) news p.input.loads p.areas served.0;
      places = front-all FILE_TOP p.areas (all_areas ps) below;
      table = omega arith;
    })
    (known-all news (at + table_length p.input) end ps served.1 tables.1 low (back-all FILE_TOP p.areas (all_areas ps) below))
  where
    tables-behind : (at end : ℕ) (ps : List PlacedInput) → AreTables at ps end → at ≤ end
    tables-behind at end [] tables = (let is : end ≡ at = tables in omega arith)
    tables-behind at end (p ∷ ps) tables = (let later = tables-behind (at + table_length p.input) end ps tables.1 in omega arith)

pub fits-known : (options : Options) (inputs : List Taken) (l : Positions) → Fits options inputs l → All IsKnown (placed_inputs inputs l)
fits-known options inputs l fits =
    let ps = placed_inputs inputs l in
    let total = fits.total in
    let small = fits.small in
    known-all (new_areas BLOCK (all_areas ps)) (tables_start options inputs) l.body_end ps fits.areas fits.tables fits.body (areas-below BLOCK FILE_TOP (all_areas ps) (omega arith))

-- ---- the inputs of a job

-- an input is placed by its number
placed-at : (inputs rest : List Taken) (lists : List (List Area)) (tables : List ℕ) (i : ℕ) (e : Taken) → only_inputs (placed inputs lists tables) ≡ inputs → drop i inputs ≡ e ∷ rest
    → drop i (placed inputs lists tables) ≡ record { input = e; areas = get_or lists i []; table = get_or tables i 0 } ∷ drop (suc i) (placed inputs lists tables)
placed-at [] rest lists tables zero e all is = cc
placed-at [] rest lists tables (suc i) e all is = cc
placed-at (x ∷ inputs) rest [] tables i e all is = let none : [] ≡ x ∷ inputs = all in cc
placed-at (x ∷ inputs) rest (areas ∷ more) [] i e all is = let none : [] ≡ x ∷ inputs = all in cc
placed-at (x ∷ inputs) rest (areas ∷ more) (t ∷ tables) zero e all is =
    let same : x ≡ e = cc in
    ap (λ (y : Taken). record { input = y; areas = areas; table = t } ∷ placed inputs more tables) same
placed-at (x ∷ inputs) rest (areas ∷ more) (t ∷ tables) (suc i) e all is =
    let later : only_inputs (placed inputs more tables) ≡ inputs = cc in
    placed-at inputs rest more tables i e later is

pub few-inputs : (e : Taken) (o : Option Taken) → length (inputs_of e o) ≤ 2
few-inputs e None = omega arith
few-inputs e (Some f) = omega arith

-- what is known of all is known of the next
known-next : (ps rest : List PlacedInput) (i : ℕ) (p : PlacedInput) → All IsKnown ps → drop i ps ≡ p ∷ rest → IsKnown p
known-next [] rest zero p h is = cc
known-next [] rest (suc i) p h is = cc
known-next (q ∷ ps) rest zero p h is = let same : q ≡ p = cc in subst IsKnown same (h 0 q (omega arith))
known-next (q ∷ ps) rest (suc i) p h is = known-next ps rest i p (All-tail IsKnown q ps h) is

-- the input of a number with its places is the next of those that are left, and is known
pub place-found : (options : Options) (inputs rest : List Taken) (l : Positions) (i : ℕ) (e : Taken) (areas : List Area) (t : ℕ) → Fits options inputs l → drop i inputs ≡ e ∷ rest
    → areas ≡ get_or l.areas i [] → t ≡ get_or l.tables i 0
    → let p : PlacedInput = record { input = e; areas = areas; table = t } in (drop i (placed_inputs inputs l) ≡ p ∷ drop (i + 1) (placed_inputs inputs l)) × IsKnown p
place-found options inputs rest l i e areas t fits is areas_are table_is =
    let ps = placed_inputs inputs l in
    let p : PlacedInput = record { input = e; areas = areas; table = t } in
    let after : drop (suc i) ps ≡ drop (i + 1) ps = ap (λ n. drop n ps) (let one : suc i ≡ i + 1 = omega arith in one) in
    let next : drop i ps ≡ p ∷ drop (i + 1) ps =
    placed-at inputs rest l.areas l.tables i e fits.all is
    ∙ ap (λ (xs : List Area). record { input = e; areas = xs; table = get_or l.tables i 0 } ∷ drop (suc i) ps) (sym areas_are)
    ∙ ap (λ (n : ℕ). record { input = e; areas = areas; table = n } ∷ drop (suc i) ps) (sym table_is)
    ∙ ap (λ (qs : List PlacedInput). p ∷ qs) after in
    (next, known-next ps (drop (i + 1) ps) i p (fits-known options inputs l fits) next)

-- the lists of areas as they are held
pub areas-held : (vs : List (ArrayVec Area)) (v : ArrayVec Area) (i : ℕ) → i < length vs → get_or (map (λ x. x.items) vs) i [] ≡ (get_or vs i v).items
areas-held [] v i h = absurd (omega arith)
areas-held (x ∷ vs) v zero h = refl
areas-held (x ∷ vs) v (suc i) h = areas-held vs v i (omega arith)

-- where no input is left, nothing of them is
pub placed-end : (options : Options) (inputs : List Taken) (l : Positions) (i : ℕ) → Fits options inputs l → length inputs ≤ i → drop i (placed_inputs inputs l) ≡ []
placed-end options inputs l i fits h =
    let ps = placed_inputs inputs l in
    let same : length ps ≡ length inputs = sym (length-map ps (λ p. p.input)) ∙ ap length fits.all in
    drop_all i ps (omega arith)
