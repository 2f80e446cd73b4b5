-- The delimiter that is chosen doesn't stand in the body: each place of a text spells one number at most, so one of so many
-- numbers as the text has places, and one more, is free.
use Rattle.std.proofs.Common.{◌≡◌, inl, inr, ℕ, zero, suc, ◌+◌, ◌*◌, ◌-◌, ◌/◌, ◌%◌, ◌^◌, ◌≤◌, ◌<◌, ◌==◌, ◌||◌, not, cond, Bool, true, false, List, [], ◌∷◌, ◌++◌, length, take, drop, refl, sym, ap, ◌∙◌, arith, length-append}
use Rattle.std.specs.Prelude.{codes, ◌≢◌}
use Rattle.std.proofs.Math.Nat.{pow-suc}
use Rattle.std.proofs.lemmas.Bool.{and_parts, cases_Bool, false_from_ne_true, not-true, or_right}
use Rattle.std.proofs.lemmas.Bool.Decides.{nat_tests}
use Rattle.ap_fields.specs.declared.sizes.TheConstants.{WINDOW}
use Rattle.ap_script.specs.Delimiter.{digits_of, delimiter, begins_with, stands_in, without_nul, least_from, delimiter_number}
use Rattle.ap_script.specs.Stands.{HasPart, HasFreeDelimiter}

-- ---- how many numbers below n pass a test

abbrev one_if : Bool → ℕ
one_if true = 1
one_if false = 0

abbrev count : (ℕ → Bool) → ℕ → ℕ
count test zero = 0
count test (suc n) = count test n + one_if (test n)

one-or : (a b : Bool) → one_if (a || b) ≤ one_if a + one_if b
one-or true b = omega arith
one-or false b = omega arith

count-or : (f g : ℕ → Bool) (n : ℕ) → count (λ k. f k || g k) n ≤ count f n + count g n
count-or f g zero = omega arith
count-or f g (suc n) = let rest = count-or f g n in let here = one-or (f n) (g n) in omega arith

count-none : (f : ℕ → Bool) (n : ℕ) → ((k : ℕ) → k < n → f k ≡ false) → count f n ≡ 0
count-none f zero none = refl
count-none f (suc n) none =
    let rest = count-none f n (λ k low. none k (omega arith)) in
    let here : one_if (f n) ≡ 0 = ap one_if (none n (omega arith)) in
    omega arith

count-one : (f : ℕ → Bool) (m n : ℕ) → ((k : ℕ) → k < n → f k ≡ true → k ≡ m) → count f n ≤ 1
count-one f m zero only = omega arith
count-one f m (suc n) only =
    elim (cases_Bool (f n)) [
      | inl here ↦
          (let is : n ≡ m = only n (omega arith) here in
          let rest = count-none f n (λ k low. false_from_ne_true (f k) (λ there. let same : k ≡ m = only k (omega arith) there in omega arith)) in
          let one : one_if (f n) ≡ 1 = ap one_if here in
          omega arith)
      | inr none ↦
          (let rest = count-one f m n (λ k low. only k (omega arith)) in
          let here : one_if (f n) ≡ 0 = ap one_if none in
          omega arith)
    ]

-- fewer than all leave one
free-one : (f : ℕ → Bool) (n : ℕ) → count f n < n → (j : ℕ) × (j < n) × (f j ≡ false)
free-one f zero few = absurd (omega (arith, few))
free-one f (suc n) few =
    elim (cases_Bool (f n)) [
      | inl here ↦
          (let one : one_if (f n) ≡ 1 = ap one_if here in
          let rest = free-one f n (omega arith) in
          let low = rest.1 in
          (rest.0, omega arith, rest.2))
      | inr none ↦ (n, omega arith, none)
    ]

-- ---- the number that a text spells

abbrev read : ℕ → List ℕ → ℕ
read value [] = value
read value (c ∷ text) = read (value * 10 + (c - 48)) text

read-append : (value : ℕ) (xs ys : List ℕ) → read value (xs ++ ys) ≡ read (read value xs) ys
read-append value [] ys = refl
read-append value (c ∷ xs) ys = read-append (value * 10 + (c - 48)) xs ys

read-digits : (n k : ℕ) → k < 10 ^ n → read 0 (digits_of n k) ≡ k
read-digits zero k low = let l : k < 1 = low in omega arith
read-digits (suc n) k low =
    let power : 10 ^ suc n ≡ 10 ^ n * 10 = pow-suc 10 n in
    let front : read 0 (digits_of n (k / 10)) ≡ k / 10 = read-digits n (k / 10) (omega arith) in
    read-append 0 (digits_of n (k / 10)) ((48 + k % 10) ∷ [])
    ∙ ap (λ v. v * 10 + (48 + k % 10 - 48)) front
    ∙ omega arith

pub length-digits : (n k : ℕ) → length (digits_of n k) ≡ n
length-digits zero k = refl
length-digits (suc n) k = let a = length-append (digits_of n (k / 10)) ((48 + k % 10) ∷ []) in let r = length-digits n (k / 10) in omega arith

pub length-delimiter : (number : ℕ) → length (delimiter number) ≡ 15
length-delimiter number = let a = length-append (codes "apelink") (digits_of 8 number) in let r = length-digits 8 number in omega arith

begins_with-take : (word text : List ℕ) → begins_with word text ≡ true → take (length word) text ≡ word
begins_with-take [] text h = refl
begins_with-take (c ∷ word) [] h = absurd (cc)
begins_with-take (c ∷ word) (d ∷ text) h =
    let b = and_parts (c == d) (begins_with word text) h in
    let same : c ≡ d = grind (arith, nat_tests, b.0) in
    let rest = begins_with-take word text b.1 in
    ap (λ r. d ∷ r) rest ∙ ap (λ e. e ∷ word) (sym same)

spelled : (k : ℕ) (text : List ℕ) → k < 10 ^ 8 → begins_with (delimiter k) text ≡ true → k ≡ read 0 (drop 7 (take 15 text))
spelled k text low h =
    let long = length-delimiter k in
    sym (read-digits 8 k low)
    ∙ ap (λ (w : List ℕ). read 0 (drop 7 w)) (sym (begins_with-take (delimiter k) text h))
    ∙ ap (λ n. read 0 (drop 7 (take n text))) long

begins_with-nothing : (k : ℕ) → begins_with (delimiter k) [] ≡ false
begins_with-nothing k = refl

-- a text spells no more numbers than it has places
few-spelled : (n : ℕ) (text : List ℕ) → n ≤ 10 ^ 8 → count (λ k. stands_in (delimiter k) text) n ≤ length text
few-spelled n [] low = let none = count-none (λ k. stands_in (delimiter k) []) n (λ k h. begins_with-nothing k) in omega arith
few-spelled n (d ∷ text) low =
    let here = count-one (λ k. begins_with (delimiter k) (d ∷ text)) (read 0 (drop 7 (take 15 (d ∷ text)))) n (λ k h. spelled k (d ∷ text) (omega arith)) in
    let rest = few-spelled n text low in
    let whole = count-or (λ k. begins_with (delimiter k) (d ∷ text)) (λ k. stands_in (delimiter k) text) n in
    omega arith

-- ---- the least that is free

least-by : (b : Bool) (test : ℕ → Bool) (k n rest : ℕ) → test k ≡ b → (b ≡ false → (rest < k + suc n) × (test rest ≡ true)) → (cond b k rest < k + suc n) × (test (cond b k rest) ≡ true)
least-by true test k n rest is later = (omega arith, is)
least-by false test k n rest is later = later refl

least-found : (n : ℕ) (test : ℕ → Bool) (k j : ℕ) → k ≤ j → j < k + n → test j ≡ true → (least_from n test k < k + n) × (test (least_from n test k) ≡ true)
unfolding least_from
least-found zero test k j low high is = absurd (omega arith)
least-found (suc n) test k j low high is =
    least-by (test k) test k n (least_from n test (k + 1)) refl (λ fails.
    let apart : k ≢ j = λ e. (let there : test k ≡ true = ap test e ∙ is in let f : false ≡ true = sym fails ∙ there in cc) in
    let rest = least-found n test (k + 1) j (omega arith) (omega arith) is in
    let below = rest.0 in
    (omega arith, rest.1))

length-kept : (b : Bool) (x : ℕ) (xs : List ℕ) → length (cond b (x ∷ xs) xs) ≤ 1 + length xs
length-kept true x xs = omega arith
length-kept false x xs = omega arith

length-without_nul : (xs : List ℕ) → length (without_nul xs) ≤ length xs
length-without_nul [] = omega arith
length-without_nul (x ∷ xs) = let h = length-kept (not (x == 0)) x (without_nul xs) in let r = length-without_nul xs in omega arith

one-free : (n : ℕ) (text : List ℕ) → n ≤ 10 ^ 8 → length text < n → (j : ℕ) × (j < n) × (stands_in (delimiter j) text ≡ false)
one-free n text low short = let few = few-spelled n text low in free-one (λ k. stands_in (delimiter k) text) n (omega arith)

least-free : (n : ℕ) (text : List ℕ) → n ≤ 10 ^ 8 → length text < n
    → (least_from n (λ k. not (stands_in (delimiter k) text)) 0 < n) × (stands_in (delimiter (least_from n (λ k. not (stands_in (delimiter k) text)) 0)) text ≡ false)
least-free n text low short =
    let free = one-free n text low short in
    let below = free.1 in
    let found = least-found n (λ k. not (stands_in (delimiter k) text)) 0 free.0 (omega arith) (omega arith) (ap not free.2) in
    let end = found.0 in
    (omega arith, not-true (stands_in (delimiter (least_from n (λ k. not (stands_in (delimiter k) text)) 0)) text) found.1)

pub number-free : (body : List ℕ) → length body < WINDOW
    → (delimiter_number body < WINDOW) × (stands_in (delimiter (delimiter_number body)) (without_nul body) ≡ false)
unfolding delimiter_number
number-free body short = let long = length-without_nul body in least-free WINDOW (without_nul body) (omega arith) (omega arith)

-- ---- a text that has the word as a part

begins_with-front : (word behind : List ℕ) → begins_with word (word ++ behind) ≡ true
begins_with-front [] behind = refl
begins_with-front (c ∷ word) behind = let same : (c == c) ≡ true = grind (arith, nat_tests) in rw same (begins_with-front word behind)

stands_in-first : (word text : List ℕ) → begins_with word text ≡ true → stands_in word text ≡ true
stands_in-first word [] h = h
stands_in-first word (d ∷ text) h = rw h refl

stands_in-part : (word front behind : List ℕ) → stands_in word (front ++ (word ++ behind)) ≡ true
stands_in-part word [] behind = stands_in-first word (word ++ behind) (begins_with-front word behind)
stands_in-part word (c ∷ front) behind =
    or_right (begins_with word (c ∷ (front ++ (word ++ behind)))) (stands_in word (front ++ (word ++ behind))) (stands_in-part word front behind)

not-part : (word text : List ℕ) → stands_in word text ≡ false → ¬ HasPart text word
not-part word text none part =
    let there : stands_in word text ≡ true = ap (stands_in word) part.2 ∙ stands_in-part word part.0 part.1 in
    let f : false ≡ true = sym none ∙ there in
    cc

kept : (b : Bool) (x : ℕ) (xs ys : List ℕ) → without_nul (xs ++ ys) ≡ without_nul xs ++ without_nul ys → cond (not b) (x ∷ without_nul (xs ++ ys)) (without_nul (xs ++ ys)) ≡ cond (not b) (x ∷ without_nul xs) (without_nul xs) ++ without_nul ys
kept true x xs ys e = e
kept false x xs ys e = ap (λ r. x ∷ r) e

-- NUL bytes are taken out part by part
pub without_nul-append : (xs ys : List ℕ) → without_nul (xs ++ ys) ≡ without_nul xs ++ without_nul ys
without_nul-append [] ys = refl
without_nul-append (x ∷ xs) ys = kept (x == 0) x xs ys (without_nul-append xs ys)

without_nul-digits : (n k : ℕ) → without_nul (digits_of n k) ≡ digits_of n k
without_nul-digits zero k = refl
without_nul-digits (suc n) k =
    let some : (48 + k % 10 == 0) ≡ false = grind (arith, nat_tests) in
    without_nul-append (digits_of n (k / 10)) ((48 + k % 10) ∷ [])
    ∙ ap (λ r. r ++ without_nul ((48 + k % 10) ∷ [])) (without_nul-digits n (k / 10))
    ∙ ap (λ b. digits_of n (k / 10) ++ cond (not b) ((48 + k % 10) ∷ []) []) some

without_nul-delimiter : (number : ℕ) → without_nul (delimiter number) ≡ delimiter number
without_nul-delimiter number = ap (λ r. codes "apelink" ++ r) (without_nul-digits 8 number)

-- what stands in a text also stands in it without NUL
part-without_nul : (text : List ℕ) (number : ℕ) → HasPart text (delimiter number) → HasPart (without_nul text) (delimiter number)
part-without_nul text number part = (
  without_nul part.0,
  without_nul part.1,
  ap without_nul part.2
      ∙ without_nul-append part.0 (delimiter number ++ part.1)
      ∙ ap (λ r. without_nul part.0 ++ r)
      (without_nul-append (delimiter number) part.1 ∙ ap (λ r. r ++ without_nul part.1) (without_nul-delimiter number)),
)

pub free-delimiter : (body : List ℕ) → length body < WINDOW → HasFreeDelimiter body
free-delimiter body short =
    let none = not-part (delimiter (delimiter_number body)) (without_nul body) (number-free body short).1 in
    record { kept = λ part. none (part-without_nul body (delimiter_number body) part); dropped = none }
