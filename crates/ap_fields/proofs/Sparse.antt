-- Bytes of which each eight that follow each other hold a zero: by the fields of structures.
use Rattle.std.proofs.Common.{◌≡◌, ◌⊎◌, inl, inr, ℕ, zero, suc, ◌+◌, ◌-◌, ◌<◌, ◌≤◌, Bool, true, if◌then◌else◌, nat_lt, List, [], ◌∷◌, ◌++◌, length, slice_index, refl, sym, ap, ◌∙◌, subst, arith, append_assoc}
use Rattle.std.specs.Int.{byte_at, bytes_low_first}
use Rattle.std.proofs.lemmas.Bool.Decides.{nat_tests}
use Rattle.ap_fields.specs.Bytes.{zeros}
use Rattle.ap_fields.specs.Fields.{bytes_of}
use Rattle.ap_fields.proofs.Numbers.{length-bytes_of}
use Rattle.ap_fields.specs.Structures.{Rows, structure}

-- at most seven bytes that aren't zero follow each other, where c of them stand before
abbrev pub Sparse : ℕ → List ℕ → Type 0
Sparse c [] = Unit {0}
Sparse c (b ∷ bytes) = ((b ≡ 0) × Sparse 0 bytes) ⊎ ((c < 7) × Sparse (c + 1) bytes)

-- any bytes, if they are few
sparse-any : (c d : ℕ) (xs ys : List ℕ) → d ≡ c + length xs → d ≤ 7 → Sparse d ys → Sparse c (xs ++ ys)
sparse-any c d [] ys is few h = subst (λ k. Sparse k ys) (let e : d ≡ c = omega arith in e) h
sparse-any c d (x ∷ xs) ys is few h = inr (omega arith, sparse-any (c + 1) d xs ys (omega arith) few h)

-- bytes of which one is zero
sparse-one : (c d k : ℕ) (xs ys : List ℕ) → k < length xs → slice_index xs k ≡ 0 → c + k ≤ 7 → d + k + 1 ≡ length xs → d ≤ 7 → Sparse d ys → Sparse c (xs ++ ys)
sparse-one c d k [] ys low z few is short h = absurd (omega arith)
sparse-one c d zero (x ∷ xs) ys low z few is short h = inl (z, sparse-any 0 d xs ys (omega arith) short h)
sparse-one c d (suc k) (x ∷ xs) ys low z few is short h = inr (omega arith, sparse-one (c + 1) d k xs ys (omega arith) z (omega arith) (omega arith) short h)

pub zeros-some : (c n : ℕ) (ys : List ℕ) → Sparse 0 ys → Sparse c (zeros (suc n) ++ ys)
unfolding zeros
zeros-some c zero ys h = inl (refl, h)
zeros-some c (suc n) ys h = inl (refl, zeros-some 0 n ys h)

zeros-front : (c n : ℕ) (ys : List ℕ) → Sparse (if nat_lt 0 n then 0 else c) ys → Sparse c (zeros n ++ ys)
unfolding zeros
zeros-front c zero ys h = h
zeros-front c (suc n) ys h =
    let some : nat_lt 0 (suc n) ≡ true = grind (arith, nat_tests) in
    zeros-some c n ys (subst (λ (b : Bool). Sparse (if b then 0 else c) ys) some h)

low-at : (i j n x k : ℕ) → k < n → j ≡ i + k → slice_index (bytes_low_first i n x) k ≡ byte_at j x
low-at i j zero x k low is = absurd (omega arith)
low-at i j (suc n) x zero low is = ap (λ m. byte_at m x) (let e : i ≡ j = omega arith in e)
low-at i j (suc n) x (suc k) low is = low-at (suc i) j n x k (omega arith) (omega arith)

pub byte-of : (n x k : ℕ) → k < n → slice_index (bytes_of n x) k ≡ byte_at k x
unfolding bytes_of
byte-of n x k low = low-at 0 k n x k low (omega arith)

-- how many bytes other than zero may stand before a place, behind a gap
abbrev pub behind : ℕ → ℕ → ℕ → ℕ
behind c from to = if nat_lt 0 (to - from) then 0 else c

-- the fields of a structure leave zeros: each is short, or one of its bytes is zero; behind all there may be `last` other bytes
abbrev pub RowsSparse : ℕ → ℕ → ℕ → ℕ → Rows → Type 0
RowsSparse last n c from [] = behind c from n ≡ last
RowsSparse last n c from (r ∷ rows) =
    ((behind c from r.0.0 + r.0.1 ≤ 7) × RowsSparse last n (behind c from r.0.0 + r.0.1) (r.0.0 + r.0.1) rows)
    ⊎ ((k : ℕ) × (k < r.0.1) × (r.0.1 ≤ 8) × (byte_at k r.1 ≡ 0) × (behind c from r.0.0 + k ≤ 7) × RowsSparse last n (r.0.1 - k - 1) (r.0.0 + r.0.1) rows)

pub rows-sparse : (last n c from : ℕ) (rows : Rows) (ys : List ℕ) → RowsSparse last n c from rows → Sparse last ys → Sparse c (structure n from rows ++ ys)
rows-sparse last n c from [] ys h rest = zeros-front c (n - from) ys (subst (λ k. Sparse k ys) (sym h) rest)
rows-sparse last n c from (r ∷ rows) ys (inl h) rest =
    let gap : List ℕ = zeros (r.0.0 - from) in
    let bytes : List ℕ = bytes_of r.0.1 r.1 in
    let more : List ℕ = structure n (r.0.0 + r.0.1) rows in
    let len : length bytes ≡ r.0.1 = length-bytes_of r.0.1 r.1 in
    let tail = rows-sparse last n (behind c from r.0.0 + r.0.1) (r.0.0 + r.0.1) rows ys h.1 rest in
    let joined : (gap ++ (bytes ++ more)) ++ ys ≡ gap ++ (bytes ++ (more ++ ys)) = append_assoc gap (bytes ++ more) ys ∙ ap (λ z. gap ++ z) (append_assoc bytes more ys) in
    subst (Sparse c) (sym joined) (zeros-front c (r.0.0 - from) (bytes ++ (more ++ ys)) (sparse-any (behind c from r.0.0) (behind c from r.0.0 + r.0.1) bytes (more ++ ys) (omega arith) h.0 tail))
rows-sparse last n c from (r ∷ rows) ys (inr h) rest =
    let k : ℕ = h.0 in
    let low = h.1 in let short = h.2 in let z = h.3 in let few = h.4 in
    let gap : List ℕ = zeros (r.0.0 - from) in
    let bytes : List ℕ = bytes_of r.0.1 r.1 in
    let more : List ℕ = structure n (r.0.0 + r.0.1) rows in
    let len : length bytes ≡ r.0.1 = length-bytes_of r.0.1 r.1 in
    let tail = rows-sparse last n (r.0.1 - k - 1) (r.0.0 + r.0.1) rows ys h.5 rest in
    let joined : (gap ++ (bytes ++ more)) ++ ys ≡ gap ++ (bytes ++ (more ++ ys)) = append_assoc gap (bytes ++ more) ys ∙ ap (λ z. gap ++ z) (append_assoc bytes more ys) in
    let zero_at : slice_index bytes k ≡ 0 = byte-of r.0.1 r.1 k low ∙ z in
    subst (Sparse c) (sym joined) (zeros-front c (r.0.0 - from) (bytes ++ (more ++ ys)) (sparse-one (behind c from r.0.0) (r.0.1 - k - 1) k bytes (more ++ ys) (omega arith) zero_at few (omega arith) (omega arith) tail))

-- fewer bytes before
pub lower : (c d : ℕ) (text : List ℕ) → d ≤ c → Sparse c text → Sparse d text
lower c d [] below h = tt
lower c d (b ∷ text) below (inl h) = inl h
lower c d (b ∷ text) below (inr h) = inr (let l = h.0 in omega arith, lower (c + 1) (d + 1) text (omega arith) h.1)

-- the first zero of bytes that are enough
zero-in : (c : ℕ) (text : List ℕ) → c ≤ 7 → Sparse c text → 8 ≤ c + length text → (i : ℕ) × (i + c < 8) × (slice_index text i ≡ 0)
zero-in c [] few h long = absurd (omega arith)
zero-in c (b ∷ text) few (inl h) long = (0, omega arith, h.0)
zero-in c (b ∷ text) few (inr h) long =
    let rest = zero-in (c + 1) text (let l = h.0 in omega arith) h.1 (omega arith) in
    let i : ℕ = rest.0 in
    let low = rest.1 in
    (suc i, omega arith, rest.2)

one-more : (b : ℕ) (text : List ℕ) (k : ℕ) → ((i : ℕ) × (i < 8) × (slice_index text (k + i) ≡ 0)) → (i : ℕ) × (i < 8) × (slice_index (b ∷ text) (suc k + i) ≡ 0)
one-more b text k found =
    let i : ℕ = found.0 in
    (i, found.1, ap (slice_index (b ∷ text)) (let e : suc k + i ≡ suc (k + i) = omega arith in e) ∙ found.2)

-- so each eight bytes that follow each other hold a zero
pub zeros-from : (c : ℕ) (text : List ℕ) → c ≤ 7 → Sparse c text → (k : ℕ) → k + 8 ≤ length text → (i : ℕ) × (i < 8) × (slice_index text (k + i) ≡ 0)
zeros-from c [] few h k long = absurd (omega arith)
zeros-from c (b ∷ text) few h zero long =
    let found = zero-in 0 (b ∷ text) (omega arith) (lower c 0 (b ∷ text) (omega arith) h) (omega arith) in
    let i : ℕ = found.0 in
    let low = found.1 in
    (i, omega arith, ap (slice_index (b ∷ text)) (let e : 0 + i ≡ i = omega arith in e) ∙ found.2)
zeros-from c (b ∷ text) few (inl h) (suc k) long = one-more b text k (zeros-from 0 text (omega arith) h.1 k (omega arith))
zeros-from c (b ∷ text) few (inr h) (suc k) long = one-more b text k (zeros-from (c + 1) text (let l = h.0 in omega arith) h.1 k (omega arith))
