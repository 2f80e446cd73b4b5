-- The bytes of a region are a part of the file, and zeros.
use Rattle.std.proofs.Common.{◌≡◌, ℕ, zero, suc, ◌+◌, ◌-◌, ◌<◌, ◌≤◌, if◌then◌else◌, List, ◌∷◌, ◌++◌, length, get_or, take, drop, replicate, refl, sym, ap, ◌∙◌, arith, nat_lt}
use Rattle.std.proofs.lemmas.Bool.Decides.{nat_tests}
use Rattle.ap_fields.specs.Bytes.{zeros, listed}
use Rattle.ap_fields.proofs.Bytes.{listed-slice}
use Rattle.ap_fields.specs.Readings.{bytes_in}
use Rattle.ap_image.specs.declared.plan.Region.{Region}
use Rattle.ap_image.specs.Plans.{region_byte, IsRegion}
use Rattle.ap_image.specs.ImageFiles.{region_bytes}

-- equal bytes, listed
pub listed-same : (f g : ℕ → ℕ) (a b n : ℕ) → ((k : ℕ) → k < n → f (a + k) ≡ g (b + k)) → listed f a n ≡ listed g b n
listed-same f g a b zero h = refl
listed-same f g a b (suc n) h =
    let first : f a ≡ g b = (let x : a + 0 ≡ a = omega arith in let y : b + 0 ≡ b = omega arith in ap f (sym x) ∙ h 0 (omega arith) ∙ ap g y) in
    let rest : listed f (suc a) n ≡ listed g (suc b) n = listed-same f g (suc a) (suc b) n (λ k l.
    let x : suc a + k ≡ a + suc k = omega arith in let y : b + suc k ≡ suc b + k = omega arith in ap f x ∙ h (suc k) (omega arith) ∙ ap g y) in
    ap (λ x. x ∷ listed f (suc a) n) first ∙ ap (λ l. g b ∷ l) rest

-- bytes that are listed in two parts
pub listed-append : (f : ℕ → ℕ) (a m n : ℕ) → listed f a (m + n) ≡ listed f a m ++ listed f (a + m) n
listed-append f a zero n = (let x : 0 + n ≡ n = omega arith in let y : a ≡ a + 0 = omega arith in ap (listed f a) x ∙ ap (λ b. listed f b n) y)
listed-append f a (suc m) n =
    let count : suc m + n ≡ suc (m + n) = omega arith in
    let place : suc a + m ≡ a + suc m = omega arith in
    ap (listed f a) count ∙ ap (λ l. f a ∷ l) (listed-append f (suc a) m n) ∙ ap (λ b. f a ∷ (listed f (suc a) m ++ listed f b n)) place

pub listed-zeros : (f : ℕ → ℕ) (a n : ℕ) → ((k : ℕ) → k < n → f (a + k) ≡ 0) → listed f a n ≡ zeros n
unfolding zeros
listed-zeros f a zero h = refl
listed-zeros f a (suc n) h =
    let first : f a ≡ 0 = (let x : a + 0 ≡ a = omega arith in ap f (sym x) ∙ h 0 (omega arith)) in
    let rest : listed f (suc a) n ≡ replicate n 0 = listed-zeros f (suc a) n (λ k l.
    let x : suc a + k ≡ a + suc k = omega arith in ap f x ∙ h (suc k) (omega arith)) in
    ap (λ x. x ∷ listed f (suc a) n) first ∙ ap (λ l. 0 ∷ l) rest

-- the byte at an offset of a region, in the file's part and behind it
byte-part : (byte : ℕ → ℕ) (start backed at k : ℕ) → k < backed → (if nat_lt (start + k - start) backed then byte (at + (start + k - start)) else 0) ≡ byte (at + k)
byte-part byte start backed at k h = let x : start + k - start ≡ k = omega arith in rw x (grind (arith, nat_tests))

byte-behind : (byte : ℕ → ℕ) (start backed at k : ℕ) → (if nat_lt (start + backed + k - start) backed then byte (at + (start + backed + k - start)) else 0) ≡ 0
byte-behind byte start backed at k = let x : start + backed + k - start ≡ backed + k = omega arith in rw x (grind (arith, nat_tests))

pub part-and-zeros : (file : List ℕ) (r : Region) → IsRegion r → r.at + r.backed ≤ length file
    → region_bytes (bytes_in file) r ≡ take r.backed (drop r.at file) ++ zeros (r.span - r.backed)
part-and-zeros file r is fits =
    let part : r.backed ≤ r.span = is.part in
    let split : r.span ≡ r.backed + (r.span - r.backed) = omega arith in
    ap (listed (region_byte (bytes_in file) r) r.start) split
    ∙ listed-append (region_byte (bytes_in file) r) r.start r.backed (r.span - r.backed)
    ∙ ap (λ l. l ++ listed (region_byte (bytes_in file) r) (r.start + r.backed) (r.span - r.backed))
    (listed-same (region_byte (bytes_in file) r) (λ i. get_or file i 0) r.start r.at r.backed (λ k l. byte-part (bytes_in file) r.start r.backed r.at k l)
    ∙ listed-slice file r.at r.backed fits)
    ∙ ap (λ l. take r.backed (drop r.at file) ++ l)
    (listed-zeros (region_byte (bytes_in file) r) (r.start + r.backed) (r.span - r.backed) (λ k l. byte-behind (bytes_in file) r.start r.backed r.at k))

pub ruleset part_steps = (part-and-zeros)
