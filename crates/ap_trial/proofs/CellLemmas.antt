-- The numbers of the cells of plans, and folds of them.
use Rattle.std.proofs.Common.{◌≡◌, ℕ, zero, suc, ◌+◌, ◌-◌, ◌*◌, ◌^◌, ◌<◌, ◌≤◌, min, List, [], ◌∷◌, ◌++◌, length, get_or, take, drop, map, replicate, Option, Some, None, refl, sym, ap, ◌∙◌, subst, inl, inr, arith, length-append}
use Rattle.std.proofs.lemmas.Bool.{cases_Bool}
use Rattle.std.proofs.lemmas.Bool.Decides.{nat_tests}
use Rattle.std.proofs.lemmas.List.{map-append, drop_all}
use Rattle.std.proofs.lemmas.List.Sums.{fold-append, fold_more}
use Rattle.ap_fields.specs.Bytes.{zeros, listed}
use Rattle.ap_fields.specs.Readings.{Cell, bytes_in}
use Rattle.ap_fields.proofs.Bytes.{get_or-zeros, length-zeros}
use Rattle.ap_files.proofs.ReadLemmas.{some_same}
use Rattle.ap_elf.specs.declared.types.Entry.{Entry}
use Rattle.ap_image.specs.declared.plan.Region.{Region}
use Rattle.ap_image.specs.declared.piece.Piece.{Piece}
use Rattle.ap_image.specs.Plans.{AreAscendingFrom, end_of, region_at, cell_in, has_address}
use Rattle.ap_image.specs.Images.{IsPieceAt, HasCells}
use Rattle.ap_image.proofs.RegionBytes.{listed-append, listed-zeros}
use Rattle.ap_image.proofs.RegionCells.{ascending-top, cell_in-drop}
use Rattle.ap_trial.specs.Folds.{folded, folded_all, cell_number, cell_numbers, piece_numbers, fold_over}

-- the cells of one more load
pub over-more : (cell : ℕ → Option Cell) (h : ℕ) (loads : List Entry) (i : ℕ) (d : Entry) → i < length loads
    → fold_over cell h (take (i + 1) loads) ≡ folded_all (fold_over cell h (take i loads)) (cell_numbers cell (get_or loads i d).vaddr (get_or loads i d).memsz)
over-more cell h loads i d below = fold_more (λ k (p : Entry). folded_all k (cell_numbers cell p.vaddr p.memsz)) h loads i d below

pub ruleset load_steps = (over-more)

-- numbers of cells in two parts
numbers-append : (cell : ℕ → Option Cell) (a m n : ℕ) → cell_numbers cell a (m + n) ≡ cell_numbers cell a m ++ cell_numbers cell (a + m) n
unfolding cell_numbers
numbers-append cell a m n = listed-append (λ b. cell_number (cell b)) a m n

numbers-none : (cell : ℕ → Option Cell) (a n : ℕ) → ((k : ℕ) → k < n → cell (a + k) ≡ None) → cell_numbers cell a n ≡ replicate n 0
unfolding cell_numbers zeros
numbers-none cell a n bare = listed-zeros (λ b. cell_number (cell b)) a n (λ k l. ap cell_number (bare k l))

-- behind the last piece nothing stands
pub span-whole : (cell : ℕ → Option Cell) (h k r a end count : ℕ) → a ≤ end → end ≤ a + count → ((b : ℕ) → end ≤ b → b < a + count → cell b ≡ None)
    → k ≡ folded_all h (cell_numbers cell a (end - a)) → r ≡ folded_all k (replicate (count - (end - a)) 0) → r ≡ folded_all h (cell_numbers cell a count)
span-whole cell h k r a end count from most bare is last =
    let n = end - a in
    let m = count - (end - a) in
    let sum : count ≡ n + m = omega arith in
    let rest : cell_numbers cell (a + n) m ≡ replicate m 0 = numbers-none cell (a + n) m (λ i l. bare (a + n + i) (omega arith) (omega arith)) in
    last ∙ ap (λ x. folded_all x (replicate m 0)) is ∙ sym (fold-append folded h (cell_numbers cell a n) (replicate m 0))
    ∙ ap (λ l. folded_all h (cell_numbers cell a n ++ l)) (sym rest) ∙ ap (folded_all h) (sym (numbers-append cell a n m)) ∙ ap (λ x. folded_all h (cell_numbers cell a x)) (sym sum)

-- one more piece
pub pieces-more : (cell : ℕ → Option Cell) (h k q a at end size : ℕ) (numbers : List ℕ) → at ≤ end → size ≤ end - at → cell_numbers cell at size ≡ numbers → q ≡ folded_all k numbers
    → folded_all h (cell_numbers cell a (end - a)) ≡ folded_all k (cell_numbers cell at (end - at))
    → folded_all h (cell_numbers cell a (end - a)) ≡ folded_all q (cell_numbers cell (at + size) (end - (at + size)))
pieces-more cell h k q a at end size numbers below few are is done =
    let m = end - (at + size) in
    let sum : end - at ≡ size + m = omega arith in
    done ∙ ap (λ n. folded_all k (cell_numbers cell at n)) sum ∙ ap (folded_all k) (numbers-append cell at size m)
    ∙ fold-append folded k (cell_numbers cell at size) (cell_numbers cell (at + size) m)
    ∙ ap (λ l. folded_all (folded_all k l) (cell_numbers cell (at + size) m)) are
    ∙ ap (λ x. folded_all x (cell_numbers cell (at + size) m)) (sym is)

pub pieces-end : (cell : ℕ → Option Cell) (h k a at end : ℕ) → end ≤ at → folded_all h (cell_numbers cell a (end - a)) ≡ folded_all k (cell_numbers cell at (end - at)) → k ≡ folded_all h (cell_numbers cell a (end - a))
unfolding cell_numbers
pieces-end cell h k a at end over done =
    let none : end - at ≡ 0 = omega arith in
    sym (done ∙ ap (λ n. folded_all k (cell_numbers cell at n)) none)

-- numbers of cells that a list gives
numbers-map : (cell : ℕ → Option Cell) (f : ℕ → ℕ) (a : ℕ) (xs : List ℕ) → ((i : ℕ) → i < length xs → cell_number (cell (a + i)) ≡ f (get_or xs i 0)) → cell_numbers cell a (length xs) ≡ map f xs
unfolding cell_numbers
numbers-map cell f a [] h = refl
numbers-map cell f a (x ∷ xs) h =
    let here : a + 0 ≡ a = omega arith in
    let first : cell_number (cell a) ≡ f x = ap (λ b. cell_number (cell b)) (sym here) ∙ h 0 (omega arith) in
    let rest : listed (λ b. cell_number (cell b)) (suc a) (length xs) ≡ map f xs = numbers-map cell f (suc a) xs (λ i l.
    let next : suc a + i ≡ a + suc i = omega arith in ap (λ b. cell_number (cell b)) next ∙ h (suc i) (omega arith)) in
    ap (λ y. y ∷ listed (λ b. cell_number (cell b)) (suc a) (length xs)) first ∙ ap (λ l. f x ∷ l) rest

get_or-padded : (xs : List ℕ) (z i : ℕ) → get_or (xs ++ zeros z) i 0 ≡ get_or xs i 0
get_or-padded [] z i = get_or-zeros z i
get_or-padded (x ∷ xs) z zero = refl
get_or-padded (x ∷ xs) z (suc i) = get_or-padded xs z i

pub piece-cells : (file : List ℕ) (regions : List Region) (a : ℕ) (p : Piece) → HasCells file regions a p → cell_numbers (cell_in (bytes_in file) regions) a (length p.bytes.now + p.zeros) ≡ piece_numbers p
piece-cells file regions a p has =
    let xs = p.bytes.now ++ zeros p.zeros in
    let size : length p.bytes.now + p.zeros ≡ length xs = (let e = length-append p.bytes.now (zeros p.zeros) in let z = length-zeros p.zeros in omega arith) in
    ap (cell_numbers (cell_in (bytes_in file) regions) a) size
    ∙ numbers-map (cell_in (bytes_in file) regions) (λ byte. byte + 256 * p.perms.0) a xs (λ i l.
    ap cell_number (has i (omega arith)) ∙ ap (λ byte. byte + 256 * p.perms.0) (sym (get_or-padded p.bytes.now p.zeros i)))

-- a piece has an address, and no more than were asked for
region-below : (regions : List Region) (r : Region) (a : ℕ) → region_at regions a ≡ Some r → a < end_of r
region-below [] r a is = absurd (cc)
region-below (q ∷ regions) r a is =
    elim (cases_Bool (has_address q a)) [
      | inl on ↦
          let same : Some q ≡ Some r = (let e : region_at (q ∷ regions) a ≡ Some q = rw on refl in sym e ∙ is) in
          let below : a < end_of q = grind (arith, nat_tests) in
          subst (λ s. a < end_of s) (some_same same) below
      | inr off ↦
          let rest : region_at regions a ≡ Some r = (let e : region_at (q ∷ regions) a ≡ region_at regions a = rw off refl in sym e ∙ is) in
          region-below regions r a rest
    ]

sizes-at : (file : List ℕ) (regions : List Region) (o : Option Region) (a most : ℕ) (p : Piece) → region_at regions a ≡ o → 0 < most → IsPieceAt file o a most (Some p)
    → (0 < length p.bytes.now + p.zeros) × (length p.bytes.now + p.zeros ≤ most)
sizes-at file regions None a most p e some is = absurd is
sizes-at file regions (Some r) a most p e some is =
    let below : a < end_of r = region-below regions r a e in
    let count : length p.bytes.now + p.zeros ≡ min most (end_of r - a) = is.count in
    (omega arith, omega arith)

pub piece-sizes : (file : List ℕ) (regions : List Region) (a most : ℕ) (p : Piece) → 0 < most → IsPieceAt file (region_at regions a) a most (Some p)
    → (0 < length p.bytes.now + p.zeros) × (length p.bytes.now + p.zeros ≤ most)
piece-sizes file regions a most p some is = sizes-at file regions (region_at regions a) a most p refl some is

-- an address that no piece has
no-region : (file : List ℕ) (o : Option Region) (a most : ℕ) → IsPieceAt file o a most None → o ≡ None
no-region file None a most is = refl
no-region file (Some r) a most is = absurd is

no-cell : (byte : ℕ → ℕ) (regions : List Region) (a : ℕ) → region_at regions a ≡ None → cell_in byte regions a ≡ None
no-cell byte [] a is = refl
no-cell byte (q ∷ regions) a is =
    elim (cases_Bool (has_address q a)) [
      | inl on ↦ (let e : region_at (q ∷ regions) a ≡ Some q = rw on refl in let f : Some q ≡ None = sym e ∙ is in absurd (cc))
      | inr off ↦
          let rest : region_at regions a ≡ None = (let e : region_at (q ∷ regions) a ≡ region_at regions a = rw off refl in sym e ∙ is) in
          rw off (no-cell byte regions a rest)
    ]

pub gap-cells : (file : List ℕ) (regions : List Region) (a most perms : ℕ) → perms ≡ 0 → IsPieceAt file (region_at regions a) a most None
    → cell_numbers (cell_in (bytes_in file) regions) a 1 ≡ map (λ byte. byte + 256 * perms) ([] ++ zeros 1)
unfolding cell_numbers zeros
gap-cells file regions a most perms bare is =
    let none : cell_in (bytes_in file) regions a ≡ None = no-cell (bytes_in file) regions a (no-region file (region_at regions a) a most is) in
    rw (none, bare) refl

-- behind the last region nothing stands
none-above : (byte : ℕ → ℕ) (low : ℕ) (regions : List Region) (n : ℕ) (d : Region) (a : ℕ) → AreAscendingFrom low regions → n + 1 ≡ length regions → end_of (get_or regions n d) ≤ a → cell_in byte regions a ≡ None
none-above byte low regions n d a up last above =
    let all : drop (n + 1) regions ≡ [] = drop_all (n + 1) regions (omega arith) in
    sym (cell_in-drop byte low regions n d a up (omega arith) above) ∙ ap (λ l. cell_in byte l a) all

ends-low : (low : ℕ) (regions : List Region) (i : ℕ) (d : Region) → AreAscendingFrom low regions → i < length regions → end_of (get_or regions i d) ≤ 2 ^ 47
ends-low low [] i d up l = absurd (omega arith)
ends-low low (r ∷ regions) zero d up l = ascending-top (end_of r) regions up.2
ends-low low (r ∷ regions) (suc i) d up l = ends-low (end_of r) regions i d up.2 (omega arith)

pub last-low : (regions : List Region) (r : Region) → AreAscendingFrom 0 regions → 0 < length regions → r ≡ get_or regions (length regions - 1) r → end_of r ≤ 2 ^ 47
last-low regions r up some is = subst (λ q. end_of q ≤ 2 ^ 47) (sym is) (ends-low 0 regions (length regions - 1) r up (omega arith))

pub last-none : (byte : ℕ → ℕ) (regions : List Region) (r : Region) (a : ℕ) → AreAscendingFrom 0 regions → 0 < length regions → r ≡ get_or regions (length regions - 1) r → end_of r ≤ a → cell_in byte regions a ≡ None
last-none byte regions r a up some is above = none-above byte 0 regions (length regions - 1) r a up (omega arith) (subst (λ q. end_of q ≤ a) is above)

-- the cells of a piece
zeros-map : (v n : ℕ) → map (λ byte. byte + v) (zeros n) ≡ replicate n v
unfolding zeros
zeros-map v zero = refl
zeros-map v (suc n) = ap (λ l. (0 + v) ∷ l) (zeros-map v n) ∙ ap (λ y. y ∷ replicate n v) (let e : 0 + v ≡ v = omega arith in e)

pub piece-whole : (h k r v : ℕ) (bytes : List ℕ) (z : ℕ) → k ≡ folded_all h (map (λ byte. byte + v) bytes) → r ≡ folded_all k (replicate z v) → r ≡ folded_all h (map (λ byte. byte + v) (bytes ++ zeros z))
piece-whole h k r v bytes z is last =
    last ∙ ap (λ x. folded_all x (replicate z v)) is ∙ sym (fold-append folded h (map (λ byte. byte + v) bytes) (replicate z v))
    ∙ ap (λ l. folded_all h (map (λ byte. byte + v) bytes ++ l)) (sym (zeros-map v z)) ∙ ap (folded_all h) (sym (map-append (λ byte. byte + v) bytes (zeros z)))
