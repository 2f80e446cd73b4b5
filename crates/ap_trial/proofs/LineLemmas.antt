-- Lines that are appended one after the other.
use Rattle.std.proofs.Common.{◌≡◌, List, ℕ, ◌++◌, OnOk, Result, ap, ◌∙◌, append_assoc}
use Rattle.std.proofs.lemmas.Result.{on_ok_weaker}

two : (old text last a b : List ℕ) → text ≡ old ++ a → last ≡ text ++ b → last ≡ old ++ (a ++ b)
two old text last a b e f = f ∙ ap (λ t. t ++ b) e ∙ append_assoc old a b

pub three-lines : {E : Type 0} (r : Result (Unit {0}) E) (old first text last a b c : List ℕ) → first ≡ old ++ a → text ≡ first ++ b → OnOk r (last ≡ text ++ c) → OnOk r (last ≡ old ++ (a ++ (b ++ c)))
three-lines r old first text last a b c e f = on_ok_weaker r (λ g. two old first last a (b ++ c) e (two first text last b c f g))

pub four-lines : {E : Type 0} (r : Result (Unit {0}) E) (old first second text last a b c d : List ℕ) → first ≡ old ++ a → second ≡ first ++ b → text ≡ second ++ c → OnOk r (last ≡ text ++ d) → OnOk r (last ≡ old ++ (a ++ (b ++ (c ++ d))))
four-lines r old first second text last a b c d e f g = on_ok_weaker r (λ h. two old first last a (b ++ (c ++ d)) e (two first second last b (c ++ d) f (two second text last c d g h)))
