-- What a function that reads promises.
use Rattle.std.specs.Prelude.{◌≡◌, Option, Some, None, Result, Ok, Err, Bool, true, false, ℕ, List}
use Rattle.std.specs.Borrow.{Bor}
use Rattle.ap_shparse.specs.declared.refusal.Refusal.{Refusal}
use Rattle.ap_shparse.specs.declared.refusal.Refusal.TheVariants.{Outside, NoMemory}

-- a value and what is left, or none where the grammar has none
abbrev pub Outcome : Type 0 → Type 0 → Type 0
Outcome S A = Option (A × S)

abbrev pub and_then : {S T A B : Type 0} → Outcome S A → (A → S → Outcome T B) → Outcome T B
and_then None f = None
and_then (Some p) f = f p.0 p.1

infixl 10 ◌>>=◌
abbrev pub ◌>>=◌ : {S A B : Type 0} → (S → Outcome S A) → (A → S → Outcome S B) → S → Outcome S B
p >>= f = λ s. and_then (p s) f

abbrev pub pure : {S A : Type 0} → A → S → Outcome S A
pure a = λ s. Some (a, s)

-- what is eaten in front, and then the one, or else the other
abbrev pub if_eaten : {S R : Type 0} → Option S → (S → R) → R → R
if_eaten None f other = other
if_eaten (Some s) f other = f s

abbrev pub eaten : {S : Type 0} → Option S → Outcome S (Unit {0})
eaten None = None
eaten (Some s) = Some (tt, s)

-- the outcome, unless memory runs out
abbrev pub Reads : {S A : Type 0} → Outcome S A → Result A Refusal → S → Type 0
Reads outcome (Ok a) new = outcome ≡ Some (a, new)
Reads outcome (Err Outside) new = outcome ≡ None
Reads outcome (Err NoMemory) new = Unit {0}

-- what was to be eaten is gone, or nothing is
abbrev pub Eats : {S : Type 0} → Option S → Bool → S → S → Type 0
Eats eaten true old new = eaten ≡ Some new
Eats eaten false old new = (eaten ≡ None) × (new ≡ old)

-- the same, where the value is a part of the text
abbrev pub Lends : {S : Type 0} → Outcome S (List ℕ) → Result (Bor (List ℕ)) Refusal → S → Type 0
Lends outcome (Ok a) new = outcome ≡ Some (a.now, new)
Lends outcome (Err Outside) new = outcome ≡ None
Lends outcome (Err NoMemory) new = Unit {0}

-- the same, where the value stands behind a reference
abbrev pub Leads : {S A U : Type 0} → Outcome S A → Result U Refusal → A → S → Type 0
Leads outcome (Ok _) a new = outcome ≡ Some (a, new)
Leads outcome (Err Outside) a new = outcome ≡ None
Leads outcome (Err NoMemory) a new = Unit {0}

-- where the reading went, or that there is no such place
abbrev pub Goes : {S : Type 0} → Option S → Bool → S → Type 0
Goes place true new = place ≡ Some new
Goes place false new = place ≡ None
