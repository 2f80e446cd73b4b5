-- Names that begin alike: where their beginning stands nowhere among the strings, no symbol has one of them.
use Rattle.std.proofs.Common.{◌≡◌, ℕ, ◌+◌, Bool, true, false, cond, ◌&&◌, not, nat_le, ◌==◌, List, [], ◌∷◌, ◌++◌, length, take, drop, Some, None, refl, sym, ap, ◌∙◌, arith, append_assoc, length-append}
use Rattle.std.specs.Prelude.{find, codes, IsTrue}
use Rattle.std.specs.Option.{option_map}
use Rattle.std.specs.Str.{bytes_eq}
use Rattle.std.proofs.lemmas.Bool.{leb-true, and_parts}
use Rattle.std.proofs.lemmas.Bool.Decides.{nat_tests}
use Rattle.std.proofs.lemmas.List.{take-take}
use Rattle.std.proofs.lemmas.Slice.Eq.{bytes_eq-Decides}
use Rattle.std.proofs.Math.Seq.{take-append_seam}
use Rattle.ap_elf.specs.declared.types.Tables.{Tables}
use Rattle.ap_elf.specs.Symbols.{stands_at, with_nul, is_named, value_of, strings_of, symbols_from, Stands}
use Rattle.ap_elf.specs.Begun.{NoneBegins}
use Rattle.ap_elf.proofs.Beginnings.{value-begun-not}
use Rattle.ap_check.specs.Inputs.{no_symbols, symbols_at}

-- the beginning of a text stands where the text does
stands-prefix : (strings p q : List ℕ) (at : ℕ) → stands_at strings (p ++ q) at ≡ true → stands_at strings p at ≡ true
stands-prefix strings p q at h =
    let parts = and_parts (nat_le (at + length (p ++ q)) (length strings)) (bytes_eq (take (length (p ++ q)) (drop at strings)) (p ++ q)) h in
    let fits = leb-true (at + length (p ++ q)) (length strings) parts.0 in
    let long = length-append p q in
    let same = (bytes_eq-Decides (take (length (p ++ q)) (drop at strings)) (p ++ q)).0 parts.1 in
    let front : take (length p) (drop at strings) ≡ p =
    sym (take-take (length p) (length (p ++ q)) (drop at strings) (omega arith)) ∙ ap (take (length p)) same ∙ take-append_seam p q in
    let eq = (bytes_eq-Decides (take (length p) (drop at strings)) p).1 front in
    let le : nat_le (at + length p) (length strings) ≡ true = grind (arith, nat_tests, fits, long) in
    ap (λ t. t && bytes_eq (take (length p) (drop at strings)) p) le ∙ eq

-- none passes a test
find-case : {X : Type 0} (test : X → Bool) (f : X → ℕ) (x : X) (xs : List X) (b : Bool) → test x ≡ b → (test x ≡ true → ⊥) → option_map f (find test xs) ≡ None
    → option_map f (cond b (Some x) (find test xs)) ≡ None
find-case test f x xs true is never rest = absurd (never is)
find-case test f x xs false is never rest = rest

find-none : {X : Type 0} (test : X → Bool) (f : X → ℕ) (xs : List X) → ((x : X) → test x ≡ true → ⊥) → option_map f (find test xs) ≡ None
find-none test f [] never = refl
find-none test f (x ∷ xs) never = find-case test f x xs (test x) refl (never x) (find-none test f xs never)

-- no symbol has the name
pub value-none : (b : List ℕ) (t : Tables) (p q : List ℕ) → (Stands (strings_of b t) p → ⊥) → value_of b t (p ++ q) ≡ None
unfolding value_of
value-none b t p q never =
    let strings = strings_of b t in
    find-none (is_named strings (p ++ q)) (λ s. s.value) (symbols_from b t.at t.count)
    (λ s named.
    let stands = (and_parts (not (s.section == 0)) (stands_at strings (with_nul (p ++ q)) s.name) named).1 in
    never (s.name, stands-prefix strings p (q ++ 0 ∷ []) s.name (ap (λ x. stands_at strings x s.name) (sym (append_assoc p q (0 ∷ []))) ∙ stands)))

pub not-true : (b : Bool) → b ≡ false → IsTrue b → ⊥
not-true true e h = absurd (cc)
not-true false e h = absurd (cc)

-- nor where no symbol's name begins so
pub value-begun : (b : List ℕ) (t : Tables) (p q : List ℕ) → NoneBegins (strings_of b t) p (symbols_from b t.at t.count) → value_of b t (p ++ q) ≡ None
unfolding value_of
value-begun b t p q none =
    let strings = strings_of b t in
    value-begun-not strings p (p ++ q)
    (λ at stands. stands-prefix strings p (q ++ 0 ∷ []) at (ap (λ x. stands_at strings x at) (sym (append_assoc p q (0 ∷ []))) ∙ stands))
    (symbols_from b t.at t.count) none

-- none of the seven names
pub no-symbols-at : (b : List ℕ) (t : Tables) → (Stands (strings_of b t) (codes "ape_") → ⊥) → no_symbols ≡ symbols_at b t
unfolding symbols_at
no-symbols-at b t never i = record {
  pe_entry = (sym (value-none b t (codes "ape_") (codes "pe_entry") never)) i;
  mach_entry = (sym (value-none b t (codes "ape_") (codes "mach_entry") never)) i;
  image_base = (sym (value-none b t (codes "ape_") (codes "image_base") never)) i;
  idata = (sym (value-none b t (codes "ape_") (codes "idata") never)) i;
  idata_end = (sym (value-none b t (codes "ape_") (codes "idata_end") never)) i;
  iat = (sym (value-none b t (codes "ape_") (codes "iat") never)) i;
  iat_end = (sym (value-none b t (codes "ape_") (codes "iat_end") never)) i;
}

pub no-symbols-begun : (b : List ℕ) (t : Tables) → NoneBegins (strings_of b t) (codes "ape_") (symbols_from b t.at t.count) → no_symbols ≡ symbols_at b t
unfolding symbols_at
no-symbols-begun b t none i = record {
  pe_entry = (sym (value-begun b t (codes "ape_") (codes "pe_entry") none)) i;
  mach_entry = (sym (value-begun b t (codes "ape_") (codes "mach_entry") none)) i;
  image_base = (sym (value-begun b t (codes "ape_") (codes "image_base") none)) i;
  idata = (sym (value-begun b t (codes "ape_") (codes "idata") none)) i;
  idata_end = (sym (value-begun b t (codes "ape_") (codes "idata_end") none)) i;
  iat = (sym (value-begun b t (codes "ape_") (codes "iat") none)) i;
  iat_end = (sym (value-begun b t (codes "ape_") (codes "iat_end") none)) i;
}
