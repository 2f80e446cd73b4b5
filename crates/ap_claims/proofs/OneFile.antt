-- The one file of some claims.
use Rattle.std.proofs.Common.{◌≡◌, inl, inr, ℕ, ◌+◌, ◌-◌, ◌<◌, ◌≤◌, Bool, true, false, cond, List, [], ◌∷◌, length, get_or, refl, sym, ap, ◌∙◌, subst, arith}
use Rattle.std.proofs.lemmas.Grind.{same_number_lists}
use Rattle.ap_fields.specs.Bytes.{Holds, listed}
use Rattle.ap_fields.proofs.Bytes.{length-listed, get_or-listed}
use Rattle.ap_claims.specs.Places.{IsOutside}
use Rattle.ap_claims.specs.Lists.{Claim, end_of, Among}
use Rattle.ap_claims.specs.Files.{IsFree, ClaimsAgree, FilesAreMade, FilesAreOne, byte_at, file_of, has_place}
use Rattle.ap_claims.proofs.Filled.{has_place-or}

held-at : (file : List ℕ) (c : Claim) (k : ℕ) → Holds file c.at c.bytes → c.at ≤ k → k < end_of c → get_or file k 0 ≡ get_or c.bytes (k - c.at) 0
held-at file c k h low high =
    let place : c.at + (k - c.at) ≡ k = omega arith in
    ap (λ (i : ℕ). get_or file i 0) (sym place) ∙ h.same (k - c.at) (omega arith)

pub claims-agree : ClaimsAgree
claims-agree size claims file h c d mc md k cl ch dl dh = sym (held-at file c k (h.held c mc) cl ch) ∙ held-at file d k (h.held d md) dl dh

-- two files of the claims have the same byte at a place
same-at : (claims : List Claim) (file other : List ℕ) (k : ℕ)
    → ((c : Claim) → Among c claims → Holds file c.at c.bytes) → ((c : Claim) → Among c claims → Holds other c.at c.bytes)
    → (IsFree claims k → get_or file k 0 ≡ get_or other k 0) → get_or file k 0 ≡ get_or other k 0
same-at [] file other k held other_held free = free (λ c among. absurd among)
same-at (c ∷ claims) file other k held other_held free =
    elim (has_place-or c k) [
      | inl on ↦ held-at file c k (held c (inl refl)) on.0 on.1 ∙ sym (held-at other c k (other_held c (inl refl)) on.0 on.1)
      | inr off ↦
          (let out : (d : Claim) → d ≡ c → IsOutside d.at (length d.bytes) k = λ d e. subst (λ (x : Claim). IsOutside x.at (length x.bytes) k) (sym e) off.0 in
          same-at claims file other k (λ d m. held d (inr m)) (λ d m. other_held d (inr m))
          (λ none. free (λ d m. elim m [ inl e ↦ out d e | inr more ↦ none d more ])))
    ]

pub files-one : FilesAreOne
files-one size claims file other h g =
    same_number_lists file other (h.len ∙ sym g.len) (λ k lt. same-at claims file other k h.held g.held (λ free. h.free k free ∙ sym (g.free k free)))

-- a file of the claims has at a place the byte that they give it
made-by : (b : Bool) (c : Claim) (claims : List Claim) (k v : ℕ) → has_place c k ≡ b → v ≡ cond b (get_or c.bytes (k - c.at) 0) (byte_at claims k) → v ≡ byte_at (c ∷ claims) k
made-by b c claims k v is made = made ∙ ap (λ x. cond x (get_or c.bytes (k - c.at) 0) (byte_at claims k)) (sym is)

made-at : (claims : List Claim) (file : List ℕ) (k : ℕ)
    → ((c : Claim) → Among c claims → Holds file c.at c.bytes) → (IsFree claims k → get_or file k 0 ≡ 0) → get_or file k 0 ≡ byte_at claims k
made-at [] file k held free = free (λ c among. absurd among)
made-at (c ∷ claims) file k held free =
    elim (has_place-or c k) [
      | inl on ↦ made-by true c claims k (get_or file k 0) on.2 (held-at file c k (held c (inl refl)) on.0 on.1)
      | inr off ↦
          (let out : (d : Claim) → d ≡ c → IsOutside d.at (length d.bytes) k = λ d e. subst (λ (x : Claim). IsOutside x.at (length x.bytes) k) (sym e) off.0 in
          made-by false c claims k (get_or file k 0) off.1
          (made-at claims file k (λ d m. held d (inr m)) (λ none. free (λ d m. elim m [ inl e ↦ out d e | inr more ↦ none d more ]))))
    ]

pub files-made : FilesAreMade
unfolding file_of
files-made size claims file h =
    same_number_lists file (listed (byte_at claims) 0 size) (h.len ∙ sym (length-listed (byte_at claims) 0 size))
    (λ k lt.
    made-at claims file k h.held (h.free k)
    ∙ ap (byte_at claims) (let e : k ≡ 0 + k = omega arith in e)
    ∙ sym (get_or-listed (byte_at claims) 0 size k (omega (arith, h.len, lt))))
