-- Writes one behind the other.
use Rattle.std.proofs.Common.{◌≡◌, ℕ, ◌+◌, ◌-◌, ◌≤◌, List, [], ◌++◌, length, take, drop, Option, Some, None, Ok, refl, sym, ap, ◌∙◌, subst, arith, append_assoc, append-nil, length-drop}
use Rattle.std.proofs.lemmas.List.{take_rest}
use Rattle.ap_files.proofs.Growing.{take_piece}
use Rattle.std.specs.Option.{option_map}
use Rattle.ap_files.specs.Sinks.{SinkState, Writes}
use Rattle.ap_files.specs.Prints.{Gains}

gained-nothing : (o : Option (List ℕ)) → o ≡ option_map (λ w. w ++ []) o
gained-nothing None = refl
gained-nothing (Some w) = ap (λ x. Some x) (sym (append-nil w))

gained-again : (o : Option (List ℕ)) (a b : List ℕ) → option_map (λ w. w ++ b) (option_map (λ w. w ++ a) o) ≡ option_map (λ w. w ++ (a ++ b)) o
gained-again None a b = refl
gained-again (Some w) a b = ap (λ x. Some x) (append_assoc w a b)

-- nothing is written yet
pub gains-nothing : (s : SinkState) → Gains s s []
gains-nothing s = gained-nothing s.written

pub gains-again : (old mid new : SinkState) (a b : List ℕ) → Gains old mid a → Gains mid new b → Gains old new (a ++ b)
gains-again old mid new a b first second = second ∙ ap (option_map (λ w. w ++ b)) first ∙ gained-again old.written a b

pub written-below : (mid new : SinkState) (text : List ℕ) (at n : ℕ) → at ≤ length text → Writes mid new (take (length text - at) (drop at text)) (Ok n) → at + n ≤ length text
written-below mid new text at n below w =
    let c = w.count.0 in let r = take_rest text at in let l = length-drop at text in omega (arith, ap length r)

pub written-more : (old mid new : SinkState) (text : List ℕ) (at n : ℕ) → at ≤ length text → Gains old mid (take at text)
    → Writes mid new (take (length text - at) (drop at text)) (Ok n) → Gains old new (take (at + n) text)
written-more old mid new text at n below gained w =
    subst (Gains old new) (take_piece text at n (written-below mid new text at n below w))
    (gains-again old mid new (take at text) (take n (take (length text - at) (drop at text))) gained w.count.2)
