-- Texts compared with parts of a file.
use Rattle.std.proofs.Common.{◌≡◌, ℕ, zero, suc, ◌+◌, ◌-◌, ◌<◌, ◌≤◌, ◌==◌, ◌&&◌, nat_le, nat_eq, List, [], ◌∷◌, length, take, drop, slice_index, Bool, true, false, refl, sym, ap, ◌∙◌, arith, length-drop}
use Rattle.std.specs.Str.{bytes_eq}
use Rattle.std.proofs.lemmas.Bool.{le-leb, and_left}
use Rattle.std.proofs.Math.Bool.{and_assoc, and-true}
use Rattle.std.proofs.lemmas.List.{take-take, drop-drop, drop-take, drop_more, length_push, get_or-take, get_or-drop}
use Rattle.ap_elf.specs.declared.types.Tables.{Tables}
use Rattle.ap_elf.specs.Symbols.{strings_of, stands_at, with_nul, EndBelow}
use Rattle.ap_elf.proofs.Names.{with_nul-begins}
use Rattle.ap_elf.proofs.Searches.{part-part, length-strings}

bytes_eq-split : (m : ℕ) (x y : List ℕ) → bytes_eq x y ≡ (bytes_eq (take m x) (take m y) && bytes_eq (drop m x) (drop m y))
bytes_eq-split zero x y = refl
bytes_eq-split (suc m) [] [] = refl
bytes_eq-split (suc m) [] (b ∷ y) = refl
bytes_eq-split (suc m) (a ∷ x) [] = refl
bytes_eq-split (suc m) (a ∷ x) (b ∷ y) =
    ap (λ t. nat_eq a b && t) (bytes_eq-split m x y) ∙ sym (and_assoc (nat_eq a b) (bytes_eq (take m x) (take m y)) (bytes_eq (drop m x) (drop m y)))

-- what is left to compare, by the next piece and the rest
pub agree-step : (b y : List ℕ) (at done n : ℕ) → done + n ≤ length y
    → bytes_eq (take (length y - done) (drop (at + done) b)) (drop done y)
    ≡ (bytes_eq (take n (drop (at + done) b)) (take n (drop done y)) && bytes_eq (take (length y - (done + n)) (drop (at + (done + n)) b)) (drop (done + n) y))
agree-step b y at done n h =
    let left : length y - done ≡ n + (length y - (done + n)) = omega arith in
    let x : List ℕ = drop (at + done) b in
    let rest : drop n (take (length y - done) x) ≡ take (length y - (done + n)) (drop (at + (done + n)) b) =
    ap (λ k. drop n (take k x)) left ∙ drop-take n (length y - (done + n)) x
    ∙ ap (take (length y - (done + n))) (drop-drop n (at + done) b ∙ ap (λ k. drop k b) (omega arith)) in
    bytes_eq-split n (take (length y - done) x) (drop done y)
    ∙ ap (λ l. bytes_eq l (take n (drop done y)) && bytes_eq (drop n (take (length y - done) x)) (drop n (drop done y))) (take-take n (length y - done) x (omega arith))
    ∙ ap (λ l. bytes_eq (take n x) (take n (drop done y)) && bytes_eq l (drop n (drop done y))) rest
    ∙ ap (λ l. bytes_eq (take n x) (take n (drop done y)) && bytes_eq (take (length y - (done + n)) (drop (at + (done + n)) b)) l) (drop-drop n done y)

-- a piece that agrees, and one that doesn't
pub agree-next : (b y : List ℕ) (at done n : ℕ) (whole : Bool) → done + n ≤ length y → whole ≡ bytes_eq (take (length y - done) (drop (at + done) b)) (drop done y)
    → true ≡ bytes_eq (take n (drop (at + done) b)) (take n (drop done y))
    → whole ≡ bytes_eq (take (length y - (done + n)) (drop (at + (done + n)) b)) (drop (done + n) y)
agree-next b y at done n whole h left same = left ∙ agree-step b y at done n h
    ∙ ap (λ t. t && bytes_eq (take (length y - (done + n)) (drop (at + (done + n)) b)) (drop (done + n) y)) (sym same)

pub agree-not : (b y : List ℕ) (at done n : ℕ) (whole : Bool) → done + n ≤ length y → whole ≡ bytes_eq (take (length y - done) (drop (at + done) b)) (drop done y)
    → false ≡ bytes_eq (take n (drop (at + done) b)) (take n (drop done y)) → false ≡ whole
agree-not b y at done n whole h left other = sym (left ∙ agree-step b y at done n h ∙ and_left _ _ (sym other))

-- a byte, compared as a text
byte_eq : (b : List ℕ) (at : ℕ) → at < length b → (slice_index b at == 0) ≡ bytes_eq (take 1 (drop at b)) (0 ∷ [])
byte_eq b at h = sym (ap (λ l. bytes_eq (take 1 l) (0 ∷ [])) (drop_more b at 0 h) ∙ and-true (slice_index b at == 0))

-- a name and its NUL among the strings, by the file's bytes
pub stands_at-file : (b name : List ℕ) (t : Tables) (at : ℕ) → EndBelow (length b) t → at + length name < t.length
    → stands_at (strings_of b t) (with_nul name) at
    ≡ (bytes_eq (take (length name) (drop (t.strings + at) b)) name && bytes_eq (take 1 (drop (t.strings + at + length name) b)) (0 ∷ []))
stands_at-file b name t at ends fits =
    let strings : List ℕ = strings_of b t in
    let below = ends.strings in
    let long : length strings ≡ t.length = length-strings b t ends in
    let more : length (with_nul name) ≡ length name + 1 = length_push name 0 in
    let test : nat_le (at + length (with_nul name)) (length strings) ≡ true = le-leb _ _ (omega arith) in
    let begins = with_nul-begins (drop at strings) name (omega (arith, length-drop at strings)) in
    let byte : slice_index (drop at strings) (length name) ≡ slice_index b (t.strings + at + length name) =
    get_or-drop at strings (length name) 0 ∙ get_or-take t.length (drop t.strings b) (at + length name) 0 fits ∙ get_or-drop t.strings b (at + length name) 0
    ∙ ap (slice_index b) (let e : t.strings + (at + length name) ≡ t.strings + at + length name = omega arith in e) in
    ap (λ x. x && bytes_eq (take (length (with_nul name)) (drop at strings)) (with_nul name)) test
    ∙ begins
    ∙ ap (λ l. bytes_eq l name && slice_index (drop at strings) (length name) == 0) (part-part b t.strings t.length at (length name) (omega arith))
    ∙ ap (λ x. bytes_eq (take (length name) (drop (t.strings + at) b)) name && x == 0) byte
    ∙ ap (λ x. bytes_eq (take (length name) (drop (t.strings + at) b)) name && x) (byte_eq b (t.strings + at + length name) (omega arith))
