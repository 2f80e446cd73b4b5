-- A link whose conditions are met.
use Rattle.std.proofs.Common.{◌≡◌, ◌≢◌, ℕ, Bool, true, false, List, [], ◌∷◌, refl, ap}
use Rattle.std.specs.Prelude.{◌&&◌, ◌||◌, not, IfSome}
use Rattle.std.specs.List.{list_any}
use Rattle.std.specs.Str.{bytes_eq}
use Rattle.std.proofs.lemmas.Slice.Eq.{bytes_eq-Decides}
use Rattle.ap_check.specs.declared.options.Options.{Options}
use Rattle.ap_words.specs.declared.command.Command.TheVariants.{Link}
use Rattle.ap_words.specs.Conditions.{conditions_are_met, fit, is_magic, is_none_of}
use Rattle.ap_run.specs.Links.{first_name, second_name}

left : (a b : Bool) → (a && b) ≡ true → a ≡ true
left true b h = refl
left false b h = h

right : (a b : Bool) → (a && b) ≡ true → b ≡ true
right true b h = h
right false b h = absurd cc

not-both : (a b : Bool) → not (a || b) ≡ true → (a ≡ false) × (b ≡ false)
not-both true b h = absurd cc
not-both false true h = absurd cc
not-both false false h = (refl, refl)

other : (name out : List ℕ) → bytes_eq name out ≡ false → name ≢ out
other name out h e = let t = (bytes_eq-Decides name out).1 e in absurd cc

none-of : (out : List ℕ) (options : Options) (names : List (List ℕ)) → conditions_are_met (Link out options names) ≡ true → is_none_of out names ≡ true
none-of out options names met = right _ (is_none_of out names) (right (is_magic options) (fit out names) met)

pub link-first : (out : List ℕ) (options : Options) (names : List (List ℕ)) → conditions_are_met (Link out options names) ≡ true → first_name names ≢ out
link-first out options [] met = let none = right (is_magic options) (fit out []) met in absurd cc
link-first out options (name ∷ names) met = other name out (not-both (bytes_eq name out) (list_any (λ n. bytes_eq n out) names) (none-of out options (name ∷ names) met)).0

pub link-second : (out : List ℕ) (options : Options) (names : List (List ℕ)) → conditions_are_met (Link out options names) ≡ true → IfSome (second_name names) (λ n. n ≢ out)
link-second out options [] met = tt
link-second out options (name ∷ []) met = tt
link-second out options (name ∷ second ∷ names) met =
    let behind = (not-both (bytes_eq name out) (list_any (λ n. bytes_eq n out) (second ∷ names)) (none-of out options (name ∷ second ∷ names) met)).1 in
    other second out (not-both (bytes_eq second out) (list_any (λ n. bytes_eq n out) names) (ap not behind)).0
