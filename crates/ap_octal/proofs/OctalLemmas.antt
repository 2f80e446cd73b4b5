-- Octal text of a list of bytes.
use Rattle.std.proofs.Common.{◌≡◌, ℕ, ◌+◌, ◌/◌, ◌%◌, ◌<◌, List, [], ◌∷◌, ◌++◌, Bool, true, false, cond, refl, sym, ap, ◌∙◌, subst, arith, get_or}
use Rattle.std.specs.List.{All, AllByRecursion}
use Rattle.std.proofs.lemmas.List.Elements.{recursion_from_All}
use Rattle.std.proofs.lemmas.Bool.Decides.{nat_tests}
use Rattle.std.proofs.lemmas.List.{get_or_default}
use Rattle.ap_octal.specs.OctalText.{IsOctal, IsPlain, octal1, octal2, octal3}
use Rattle.ap_octal.specs.OctalText.IsOctal.{empty, plain, one, two, three}
use Rattle.ap_octal.specs.Statement.{is_letter, octals_of}
use Rattle.ap_octal.proofs.OctalSplits.{splits-plain, splits-one, splits-two, splits-three, splits-done, splits-all}

-- a text stands for at most one list
pub exact : (text a b : List ℕ) → IsOctal text a → IsOctal text b → a ≡ b
exact _ _ b empty k = sym (splits-done [] [] (splits-all []) b k)
exact _ _ b (plain c text bytes p h) k =
    let r = (splits-plain c text p).back b k in ap (λ l. c ∷ l) (exact text bytes r.0 h r.2) ∙ sym r.1
exact _ _ b (one a text bytes d e h) k =
    let r = (splits-one a text d e).back b k in ap (λ l. octal1 a ∷ l) (exact text bytes r.0 h r.2) ∙ sym r.1
exact _ _ b (two x y text bytes d e f h) k =
    let r = (splits-two x y text d e f).back b k in ap (λ l. octal2 x y ∷ l) (exact text bytes r.0 h r.2) ∙ sym r.1
exact _ _ b (three x y z text bytes d e f v h) k =
    let r = (splits-three x y z text d e f v).back b k in ap (λ l. octal3 x y z ∷ l) (exact text bytes r.0 h r.2) ∙ sym r.1

plain-letter : (c : ℕ) → is_letter c ≡ true → IsPlain c
plain-letter c h = record {
  above = grind (arith, nat_tests);
  ascii = grind (arith, nat_tests);
  percent = grind (arith, nat_tests);
  quote = grind (arith, nat_tests);
  backslash = grind (arith, nat_tests);
}

digits-value : (c : ℕ) → c < 256 → octal3 (48 + c / 64) (48 + c / 8 % 8) (48 + c % 8) ≡ c
digits-value c small = omega arith

octal-byte : (b : Bool) (c : ℕ) (text bytes : List ℕ) → is_letter c ≡ b → c < 256 → IsOctal text bytes
    → IsOctal (cond b (c ∷ []) (92 ∷ (48 + c / 64) ∷ (48 + c / 8 % 8) ∷ (48 + c % 8) ∷ []) ++ text) (c ∷ bytes)
octal-byte true c text bytes is small h = plain c text bytes (plain-letter c is) h
octal-byte false c text bytes is small h =
    let v = digits-value c small in
    subst (λ x. IsOctal (92 ∷ (48 + c / 64) ∷ (48 + c / 8 % 8) ∷ (48 + c % 8) ∷ text) (x ∷ bytes)) v
    (three (48 + c / 64) (48 + c / 8 % 8) (48 + c % 8) text bytes
    (record { low = omega arith; high = omega arith }) (record { low = omega arith; high = omega arith }) (record { low = omega arith; high = omega arith })
    (omega arith) h)

octal-each : (header : List ℕ) → AllByRecursion (λ c. c < 256) header → IsOctal (octals_of header) header
octal-each [] all = empty
octal-each (c ∷ header) all = octal-byte (is_letter c) c (octals_of header) header refl all.0 (octal-each header all.1)

-- the canonical text of bytes is octal text of them
pub octal-octals : (header : List ℕ) → All (λ c. c < 256) header → IsOctal (octals_of header) header
octal-octals header all = octal-each header (recursion_from_All (λ c. c < 256) header all)

pub octal-bytes : (header : List ℕ) → ((i : ℕ) → get_or header i 0 < 256) → IsOctal (octals_of header) header
octal-bytes header small = octal-octals header (λ k d h. subst (λ c. c < 256) (get_or_default header k 0 d h) (small k))
