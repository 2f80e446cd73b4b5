-- Headers and program headers of files that agree on their bytes.
use Rattle.std.proofs.Common.{◌≡◌, ℕ, zero, suc, ◌+◌, ◌*◌, ◌<◌, ◌≤◌, List, [], ◌∷◌, ◌++◌, length, take, slice_index, refl, ap, ◌∙◌, arith}
use Rattle.std.proofs.lemmas.List.{get_or_append_left}
use Rattle.ap_fields.specs.Fields.{number_at}
use Rattle.ap_fields.proofs.Numbers.{number_at-same}
use Rattle.ap_elf.specs.declared.types.Header.{Header}
use Rattle.ap_elf.specs.declared.types.Entry.{Entry}
use Rattle.ap_elf.specs.Fields.{header_of, entry_at, entries_from, entries_of}

-- the fronts of files that have equal bytes there, and both are long enough or equally long
pub take-same : (n : ℕ) (f g : List ℕ) → length f ≡ length g → ((k : ℕ) → k < n → slice_index f k ≡ slice_index g k) → take n f ≡ take n g
take-same zero f g len h = refl
take-same (suc n) [] [] len h = refl
take-same (suc n) [] (y ∷ g) len h = absurd (omega arith)
take-same (suc n) (x ∷ f) [] len h = absurd (omega arith)
take-same (suc n) (x ∷ f) (y ∷ g) len h =
    let first : x ≡ y = h 0 (omega arith) in
    let rest : take n f ≡ take n g = take-same n f g (omega arith) (λ k l. h (suc k) (omega arith)) in
    ap (λ z. z ∷ take n f) first ∙ ap (λ l. y ∷ l) rest

fields-same : (f g : List ℕ) → take 16 f ≡ take 16 g → ((k : ℕ) → k < 64 → slice_index f k ≡ slice_index g k) → header_of f ≡ header_of g
unfolding header_of
fields-same f g ident h =
    let at : (n at : ℕ) → at + n ≤ 64 → number_at n at f ≡ number_at n at g = λ n at l. number_at-same n at at f g (λ i u. h (at + i) (omega arith)) in
    rw (ident, at 2 16 (omega arith), at 2 18 (omega arith), at 4 20 (omega arith), at 8 24 (omega arith), at 8 32 (omega arith), at 8 40 (omega arith), at 4 48 (omega arith), at 2 52 (omega arith), at 2 54 (omega arith), at 2 56 (omega arith), at 2 58 (omega arith), at 2 60 (omega arith), at 2 62 (omega arith)) refl

-- files of equal length that agree on their first 64 bytes have one header
pub header_of-same : (f g : List ℕ) → length f ≡ length g → ((k : ℕ) → k < 64 → slice_index f k ≡ slice_index g k) → header_of f ≡ header_of g
header_of-same f g len h = fields-same f g (take-same 16 f g len (λ k l. h k (omega arith))) h

take-append : (n : ℕ) (xs ys : List ℕ) → n ≤ length xs → take n (xs ++ ys) ≡ take n xs
take-append zero xs ys h = refl
take-append (suc n) [] ys h = absurd (omega arith)
take-append (suc n) (x ∷ xs) ys h = ap (λ l. x ∷ l) (take-append n xs ys (omega arith))

-- the header of bytes that others follow
pub header_of-append : (xs ys : List ℕ) → 64 ≤ length xs → header_of (xs ++ ys) ≡ header_of xs
header_of-append xs ys h =
    fields-same (xs ++ ys) xs (take-append 16 xs ys (omega arith)) (λ k l. get_or_append_left xs ys 0 k (omega arith))

entry_at-same : (at : ℕ) (f g : List ℕ) → ((k : ℕ) → at ≤ k → k < at + 56 → slice_index f k ≡ slice_index g k) → entry_at f at ≡ entry_at g at
unfolding entry_at
entry_at-same at f g h =
    let one : (n d : ℕ) → d + n ≤ 56 → number_at n (at + d) f ≡ number_at n (at + d) g = λ n d l. number_at-same n (at + d) (at + d) f g (λ i u. h (at + d + i) (omega arith) (omega arith)) in
    let kind : number_at 4 at f ≡ number_at 4 at g = number_at-same 4 at at f g (λ i u. h (at + i) (omega arith) (omega arith)) in
    rw (kind, one 4 4 (omega arith), one 8 8 (omega arith), one 8 16 (omega arith), one 8 24 (omega arith), one 8 32 (omega arith), one 8 40 (omega arith), one 8 48 (omega arith)) refl

-- files that agree on a table have its entries
pub entries_from-same : (n at : ℕ) (f g : List ℕ) → ((k : ℕ) → at ≤ k → k < at + 56 * n → slice_index f k ≡ slice_index g k) → entries_from f at n ≡ entries_from g at n
entries_from-same zero at f g h = refl
entries_from-same (suc n) at f g h =
    let here : entry_at f at ≡ entry_at g at = entry_at-same at f g (λ k lo hi. h k lo (omega arith)) in
    let rest : entries_from f (at + 56) n ≡ entries_from g (at + 56) n = entries_from-same n (at + 56) f g (λ k lo hi. h k (omega arith) (omega arith)) in
    ap (λ (e : Entry). e ∷ entries_from f (at + 56) n) here ∙ ap (λ (es : List Entry). entry_at g at ∷ es) rest

-- the program headers of files that agree on the header and on the table
pub entries_of-same : (f g : List ℕ) → header_of f ≡ header_of g
    → ((k : ℕ) → (header_of f).e_phoff ≤ k → k < (header_of f).e_phoff + 56 * (header_of f).e_phnum → slice_index f k ≡ slice_index g k)
    → entries_of f ≡ entries_of g
unfolding entries_of
entries_of-same f g same h =
    entries_from-same (header_of f).e_phnum (header_of f).e_phoff f g h ∙ ap (λ (x : Header). entries_from g x.e_phoff x.e_phnum) same
