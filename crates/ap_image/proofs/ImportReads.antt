-- What is read of an import directory, byte by byte.
use Rattle.std.proofs.Common.{◌≡◌, ℕ, suc, ◌+◌, ◌-◌, ◌<◌, ◌≤◌, List, [], ◌∷◌, ◌++◌, length, take, set, Result, Ok, Err, refl, sym, ap, ◌∙◌, arith, append_assoc}
use Rattle.std.proofs.lemmas.List.{append-nil, take_more_set, take_all}
use Rattle.ap_image.specs.declared.import_step.WalkFault.{WalkFault}
use Rattle.ap_image.specs.Cells.{Memory}
use Rattle.ap_image.specs.ImportWalk.{after, byte_at, bytes_from}

pub after-after : {R S T : Type 0} (r : Result R WalkFault) (f : R → Result S WalkFault) (g : S → Result T WalkFault) → after (after r f) g ≡ after r (λ x. after (f x) g)
after-after (Ok x) f g = refl
after-after (Err e) f g = refl

pub after-same : {S T : Type 0} (r : Result S WalkFault) (f g : S → Result T WalkFault) → ((x : S) → f x ≡ g x) → after r f ≡ after r g
after-same (Ok x) f g h = h x
after-same (Err e) f g h = refl

-- n bytes by the first and the others
bytes_from-suc : (m : Memory) (a n k : ℕ) → n ≡ suc k → bytes_from m a n ≡ after (byte_at m a) (λ b. after (bytes_from m (suc a) k) (λ bytes. Ok (b ∷ bytes)))
unfolding bytes_from
bytes_from-suc m a n k e = ap (bytes_from m a) e

-- what is left to fill of a buffer
abbrev pub filled_from : Memory → ℕ → ℕ → ℕ → List ℕ → Result (List ℕ) WalkFault
filled_from m at n i buffer = after (bytes_from m (at + i) (n - i)) (λ rest. Ok (take i buffer ++ rest))

filled-byte : (m : Memory) (at n i : ℕ) (buffer : List ℕ) (r : Result ℕ WalkFault) → i < n → byte_at m (at + i) ≡ r
    → filled_from m at n i buffer ≡ after (after r (λ b. after (bytes_from m (suc (at + i)) (n - (i + 1))) (λ bytes. Ok (b ∷ bytes)))) (λ rest. Ok (take i buffer ++ rest))
filled-byte m at n i buffer r l e =
    ap (λ r. after r (λ rest. Ok (take i buffer ++ rest)))
    (bytes_from-suc m (at + i) (n - i) (n - (i + 1)) (omega arith)
    ∙ ap (λ r. after r (λ b. after (bytes_from m (suc (at + i)) (n - (i + 1))) (λ bytes. Ok (b ∷ bytes)))) e)

-- one byte more
pub filled-more : (m : Memory) (at n i b : ℕ) (buffer : List ℕ) (whole : Result (List ℕ) WalkFault) → i < n → i < length buffer
    → whole ≡ filled_from m at n i buffer → byte_at m (at + i) ≡ Ok b → whole ≡ filled_from m at n (i + 1) (set buffer i b)
filled-more m at n i b buffer whole l long h e =
    let place : suc (at + i) ≡ at + (i + 1) = omega arith in
    let rest : Result (List ℕ) WalkFault = bytes_from m (suc (at + i)) (n - (i + 1)) in
    h ∙ filled-byte m at n i buffer (Ok b) l e
    ∙ after-after rest (λ bytes. Ok (b ∷ bytes)) (λ rest. Ok (take i buffer ++ rest))
    ∙ after-same rest (λ bytes. Ok (take i buffer ++ (b ∷ bytes))) (λ bytes. Ok (take (i + 1) (set buffer i b) ++ bytes))
    (λ bytes. ap (λ l. Ok l) (sym (append_assoc (take i buffer) (b ∷ []) bytes) ∙ ap (λ l. l ++ bytes) (sym (take_more_set buffer i b long))))
    ∙ ap (λ a. after (bytes_from m a (n - (i + 1))) (λ bytes. Ok (take (i + 1) (set buffer i b) ++ bytes))) place

-- a byte that isn't there
pub filled-none : (m : Memory) (at n i : ℕ) (buffer : List ℕ) (f : WalkFault) (whole : Result (List ℕ) WalkFault) → i < n
    → whole ≡ filled_from m at n i buffer → byte_at m (at + i) ≡ Err f → whole ≡ Err f
filled-none m at n i buffer f whole l h e = h ∙ filled-byte m at n i buffer (Err f) l e

-- before the first byte, and behind the last
pub filled-start : (m : Memory) (at n : ℕ) (buffer : List ℕ) → bytes_from m at n ≡ filled_from m at n 0 buffer
filled-start m at n buffer =
    let place : at + 0 ≡ at = omega arith in
    let all : n - 0 ≡ n = omega arith in
    let same : (r : Result (List ℕ) WalkFault) → r ≡ after r (λ rest. Ok rest) = elim [ Ok x ↦ refl | Err e ↦ refl ] in
    same (bytes_from m at n) ∙ ap (λ a. after (bytes_from m a n) (λ rest. Ok rest)) (sym place) ∙ ap (λ k. after (bytes_from m (at + 0) k) (λ rest. Ok rest)) (sym all)

pub filled-end : (m : Memory) (at n i : ℕ) (buffer : List ℕ) (whole : Result (List ℕ) WalkFault) → n ≤ i → length buffer ≡ n
    → whole ≡ filled_from m at n i buffer → whole ≡ Ok buffer
unfolding bytes_from
filled-end m at n i buffer whole l long h =
    let none : n - i ≡ 0 = omega arith in
    h ∙ ap (λ k. after (bytes_from m (at + i) k) (λ rest. Ok (take i buffer ++ rest))) none
    ∙ ap (λ l. Ok l) (append-nil (take i buffer) ∙ take_all i buffer (omega arith))
