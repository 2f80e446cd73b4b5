-- Names between commas.
use Rattle.std.proofs.Common.{◌≡◌, ◌≢◌, ℕ, ◌<◌, List, [], ◌∷◌, ◌++◌, length, get_or, false, refl, ap, ◌∙◌, arith, suc}
use Rattle.std.specs.Prelude.{◌==◌}
use Rattle.std.specs.Option.{option_map, option_and_then}
use Rattle.std.specs.List.{onto_first}
use Rattle.std.proofs.lemmas.Bool.Decides.{nat_tests}
use Rattle.std.proofs.lemmas.List.Splits.{slice_split-cons_no, length-slice_split}
use Rattle.ap_check.specs.declared.options.Systems.{Systems}
use Rattle.ap_words.specs.Systems.{names_of, system_named, both_systems, systems_named, systems_in}

no_comma : (x : ℕ) → x ≢ 44 → (x == 44) ≡ false
no_comma x h = grind (arith, nat_tests)

names-one : (xs : List ℕ) → ((i : ℕ) → i < length xs → get_or xs i 0 ≢ 44) → names_of xs ≡ xs ∷ []
names-one [] h = refl
names-one (x ∷ xs) h =
    slice_split-cons_no (λ c. c == 44) x xs (no_comma x (h 0 (omega arith)))
    ∙ ap (onto_first x) (names-one xs (λ i l. h (suc i) (omega arith)))

names-more : (xs ys : List ℕ) → ((i : ℕ) → i < length xs → get_or xs i 0 ≢ 44) → names_of (xs ++ 44 ∷ ys) ≡ xs ∷ names_of ys
names-more [] ys h = refl
names-more (x ∷ xs) ys h =
    slice_split-cons_no (λ c. c == 44) x (xs ++ 44 ∷ ys) (no_comma x (h 0 (omega arith)))
    ∙ ap (onto_first x) (names-more xs ys (λ i l. h (suc i) (omega arith)))

named-more : (name : List ℕ) (names : List (List ℕ)) → 0 < length names → systems_named (name ∷ names) ≡ option_and_then (λ s. option_map (both_systems s) (systems_named names)) (system_named name)
named-more name [] some = absurd (omega arith)
named-more name (next ∷ names) some = refl

-- a list without a comma is one name
pub systems-one : (list : List ℕ) → ((i : ℕ) → i < length list → get_or list i 0 ≢ 44) → systems_in list ≡ system_named list
unfolding systems_in
systems-one list h = ap systems_named (names-one list h)

-- and else a name and a list
pub systems-more : (list name rest : List ℕ) → list ≡ name ++ 44 ∷ rest → ((i : ℕ) → i < length name → get_or name i 0 ≢ 44)
    → systems_in list ≡ option_and_then (λ s. option_map (both_systems s) (systems_in rest)) (system_named name)
unfolding systems_in
systems-more list name rest is h =
    ap (λ l. systems_named (names_of l)) is
    ∙ ap systems_named (names-more name rest h)
    ∙ named-more name (names_of rest) (omega (arith, length-slice_split (λ c. c == 44) rest))

pub one-system : (a b : Systems) → a.0 ≡ b.0 → a ≡ b
one-system a b e i = record { 0 = e i }
