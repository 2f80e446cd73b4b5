-- The first byte of a range that doesn't agree.
use Rattle.std.proofs.Common.{◌≡◌, ◌≢◌, ℕ, zero, suc, ◌+◌, ◌-◌, ◌<◌, true, false, eqb, List, [], ◌∷◌, length, get_or, Some, None, Ok, Err, refl, sym, ap, ◌∙◌, subst, arith, inl, inr}
use Rattle.std.proofs.lemmas.Bool.{cases_Bool, cond-true, cond-false, or_cases, eqb-true}
use Rattle.std.proofs.lemmas.Bool.Decides.{nat_tests}
use Rattle.ap_claims.specs.declared.block.Clash.{Clash}
use Rattle.ap_claims.specs.Blocks.{BlockState, agrees, clash_at, clash_of}
use Rattle.ap_claims.specs.Places.{IsFreeOr, AreFreeOr, IsFirstClash, HasClaimed, ClaimsAreExact}
use Rattle.ap_claims.proofs.OwnerSets.{first_owner-in}
use Rattle.ap_claims.proofs.Ranges.{claimed-all}

agrees-true : (b : BlockState) (k v : ℕ) → agrees b k v ≡ true → IsFreeOr b k v
agrees-true b k v on = elim (or_cases (eqb (get_or b.owners k 0) 0) (eqb (get_or b.bytes k 0) v) on) [
  | inl free ↦ inl (eqb-true (get_or b.owners k 0) 0 free)
  | inr is ↦ inr (eqb-true (get_or b.bytes k 0) v is)
]

agrees-false : (b : BlockState) (k v : ℕ) → agrees b k v ≡ false → (0 < get_or b.owners k 0) × (get_or b.bytes k 0 ≢ v)
agrees-false b k v off = grind (arith, nat_tests)

-- the first place of a range, and the places behind it
free-cons : (b : BlockState) (at v : ℕ) (vs : List ℕ) (n : ℕ) → IsFreeOr b at v → ((k : ℕ) → k < n → IsFreeOr b (at + 1 + k) (get_or vs k 0)) → (k : ℕ) → k < suc n → IsFreeOr b (at + k) (get_or (v ∷ vs) k 0)
free-cons b at v vs n first rest zero h = let place : at + 0 ≡ at = omega arith in rw place first
free-cons b at v vs n first rest (suc k) h = let place : at + suc k ≡ at + 1 + k = omega arith in rw place (rest k (omega arith))

clash_of-none : (b : BlockState) (at : ℕ) (vs : List ℕ) → clash_of b at vs ≡ None → AreFreeOr b at vs
clash_of-none b at [] none = λ k h. absurd (omega arith)
clash_of-none b at (v ∷ vs) none =
    elim (cases_Bool (agrees b at v)) [
      | inl on ↦ free-cons b at v vs (length vs) (agrees-true b at v on) (clash_of-none b (at + 1) vs (sym (cond-true (agrees b at v) _ _ on) ∙ none))
      | inr off ↦ (let bad : Some (clash_at b at v) ≡ None = sym (cond-false (agrees b at v) (clash_of b (at + 1) vs) _ off) ∙ none in cc)
    ]

first-here : (b : BlockState) (at v : ℕ) (vs : List ℕ) → get_or b.owners at 0 < 128 → agrees b at v ≡ false → IsFirstClash b at (v ∷ vs) (clash_at b at v)
first-here b at v vs known off =
    let no = agrees-false b at v off in
    record {
      from = omega arith;
      below = omega arith;
      before = λ k h. absurd (omega arith);
      owned = no.0;
      held = refl;
      asked = (let z : at - at ≡ 0 = omega arith in rw z refl);
      other = no.1;
      by = refl;
      holder = first_owner-in (get_or b.owners at 0) no.0 known;
    }

first-later : (b : BlockState) (at v : ℕ) (vs : List ℕ) (clash : Clash) → agrees b at v ≡ true → IsFirstClash b (at + 1) vs clash → IsFirstClash b at (v ∷ vs) clash
first-later b at v vs clash on first =
    let from = first.from in
    let below = first.below in
    let before = free-cons b at v vs (clash.at - (at + 1)) (agrees-true b at v on) (λ k h. first.before k (omega arith)) in
    let place : clash.at - at ≡ suc (clash.at - (at + 1)) = omega arith in
    record {
      from = omega arith;
      below = omega arith;
      before = λ k h. before k (omega arith);
      owned = first.owned;
      held = first.held;
      asked = first.asked ∙ sym (ap (λ (k : ℕ). get_or (v ∷ vs) k 0) place);
      other = first.other;
      by = first.by;
      holder = first.holder;
    }

clash_of-some : (b : BlockState) (at : ℕ) (vs : List ℕ) (clash : Clash) → ((k : ℕ) → get_or b.owners k 0 < 128) → clash_of b at vs ≡ Some clash → IsFirstClash b at vs clash
clash_of-some b at [] clash known h = cc
clash_of-some b at (v ∷ vs) clash known h =
    elim (cases_Bool (agrees b at v)) [
      | inl on ↦ first-later b at v vs clash on (clash_of-some b (at + 1) vs clash known (sym (cond-true (agrees b at v) _ _ on) ∙ h))
      | inr off ↦ (
          let is : Some (clash_at b at v) ≡ Some clash = sym (cond-false (agrees b at v) (clash_of b (at + 1) vs) _ off) ∙ h in
          let same : clash_at b at v ≡ clash = cc in
          subst (IsFirstClash b at (v ∷ vs)) same (first-here b at v vs (known at) off))
    ]

-- a range with a clash isn't free
first-held : (b : BlockState) (at : ℕ) (vs : List ℕ) (clash : Clash) → IsFirstClash b at vs clash → AreFreeOr b at vs → ⊥
first-held b at vs clash first free =
    let from = first.from in
    let below = first.below in
    let owned = first.owned in
    let place : at + (clash.at - at) ≡ clash.at = omega arith in
    let here : IsFreeOr b clash.at (get_or vs (clash.at - at) 0) = subst (λ (k : ℕ). IsFreeOr b k (get_or vs (clash.at - at) 0)) place (free (clash.at - at) (omega arith)) in
    elim here [
      | inl none ↦ absurd (omega arith)
      | inr same ↦ first.other (first.held ∙ same ∙ sym first.asked)
    ]

pub claims-exact : ClaimsAreExact
claims-exact o old new at bytes (Ok u) is room h =
    let lb = is.bytes in
    let lo = is.owners in
    record {
      free = ((λ _. clash_of-none old at bytes h.0), (λ _. refl));
      ok = subst (λ (b : BlockState). HasClaimed o old b at bytes) (sym h.1) (claimed-all o old at bytes (omega arith) (omega arith));
      err = tt;
      stays = tt;
    }
claims-exact o old new at bytes (Err clash) is room h =
    let first = clash_of-some old at bytes clash is.known h.0 in
    record {
      free = ((λ no. cc), (λ free. absurd (first-held old at bytes clash first free)));
      ok = tt;
      err = first;
      stays = h.1;
    }
