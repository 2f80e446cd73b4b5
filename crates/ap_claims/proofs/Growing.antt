-- Files of claims that are made of texts, one behind the other.
use Rattle.std.proofs.Common.{◌≡◌, ◌⊎◌, inl, inr, ℕ, ◌+◌, ◌-◌, ◌<◌, ◌≤◌, cond, List, [], ◌∷◌, ◌++◌, length, get_or, refl, sym, ap, ◌∙◌, subst, arith, length-append, bit_or}
use Rattle.std.proofs.lemmas.Bool.{cases_lt, cond-false}
use Rattle.std.proofs.lemmas.List.{get_or-append-add, get_or_append_left, get_or-append_right}
use Rattle.ap_fields.specs.Bytes.{zeros, Holds}
use Rattle.ap_fields.specs.declared.sizes.TheConstants.{BLOCK}
use Rattle.ap_fields.proofs.Bytes.{length-zeros, get_or-zeros, holds-part}
use Rattle.ap_claims.specs.Blocks.{only}
use Rattle.ap_claims.specs.Places.{IsOutside}
use Rattle.ap_claims.specs.Lists.{Claim, end_of, Among}
use Rattle.ap_claims.specs.Files.{IsFile, IsFree, AreInside, has_place, owners_with}
use Rattle.ap_claims.proofs.Filled.{has_place-or}

-- a text that stands in a file from a place on has each claim's bytes, and 0 where no claim is
pub record IsFrom (at : ℕ) (claims : List Claim) (text : List ℕ) : Type 0 where
  pub from : (c : Claim) → Among c claims → at ≤ c.at
  pub held : (c : Claim) → Among c claims → Holds text (c.at - at) c.bytes
  pub free : (k : ℕ) → IsFree claims (at + k) → get_or text k 0 ≡ 0

pub holds-front : (xs ys : List ℕ) (k : ℕ) (part : List ℕ) → Holds xs k part → Holds (xs ++ ys) k part
holds-front xs ys k part h = record {
  fits = (let a = length-append xs ys in let f = h.fits in omega arith);
  same = λ i low. (let f = h.fits in get_or_append_left xs ys 0 (k + i) (omega arith)) ∙ h.same i low;
}

holds-behind : (xs ys : List ℕ) (k place : ℕ) (part : List ℕ) → place ≡ length xs + k → Holds ys k part → Holds (xs ++ ys) place part
holds-behind xs ys k place part is h = record {
  fits = (let a = length-append xs ys in let f = h.fits in omega arith);
  same = λ i low.
      let there : place + i ≡ length xs + (k + i) = omega arith in
      ap (λ j. get_or (xs ++ ys) j 0) there ∙ get_or-append-add xs ys (k + i) 0 ∙ h.same i low;
}

pub no-text : (at : ℕ) → IsFrom at [] []
no-text at = record { from = λ c among. absurd among; held = λ c among. absurd among; free = λ k free. refl }

-- a claim's bytes in front of a text
pub front-claim : (c : Claim) (claims : List Claim) (text : List ℕ) → IsFrom (end_of c) claims text → IsFrom c.at (c ∷ claims) (c.bytes ++ text)
front-claim c claims text h = record {
  from = λ d among. elim among [
    | inl e ↦ rw e (omega arith)
    | inr more ↦ (let f = h.from d more in omega arith)
  ];
  held = λ d among. elim among [
    | inl e ↦
        (let none : c.at - c.at ≡ 0 = omega arith in
        subst (λ (x : Claim). Holds (c.bytes ++ text) (x.at - c.at) x.bytes) (sym e) (holds-part [] c.bytes text (c.at - c.at) none))
    | inr more ↦ (let f = h.from d more in holds-behind c.bytes text (d.at - end_of c) (d.at - c.at) d.bytes (omega arith) (h.held d more))
  ];
  free = λ k free. elim (cases_lt k (length c.bytes)) [
    | inl low ↦ elim (free c (inl refl)) [
      | inl before ↦ absurd (omega arith)
      | inr behind ↦ absurd (omega arith)
    ]
    | inr past ↦
        (let place : c.at + k ≡ end_of c + (k - length c.bytes) = omega arith in
        get_or-append_right c.bytes text (length c.bytes) k 0 refl past
        ∙ h.free (k - length c.bytes) (λ d more. subst (IsOutside d.at (length d.bytes)) place (free d (inr more))))
  ];
}

-- zeros in front of a text
pub front-zeros : (at n next : ℕ) (claims : List Claim) (text : List ℕ) → next ≡ at + n → IsFrom next claims text → IsFrom at claims (zeros n ++ text)
front-zeros at n next claims text is h =
    let long = length-zeros n in
    record {
      from = λ d among. let f = h.from d among in omega arith;
      held = λ d among. let f = h.from d among in holds-behind (zeros n) text (d.at - next) (d.at - at) d.bytes (omega arith) (h.held d among);
      free = λ k free. elim (cases_lt k n) [
        | inl low ↦ get_or_append_left (zeros n) text 0 k (omega arith) ∙ get_or-zeros n k
        | inr past ↦
            (let place : at + k ≡ next + (k - n) = omega arith in
            get_or-append_right (zeros n) text n k 0 long past
            ∙ h.free (k - n) (λ d among. subst (IsOutside d.at (length d.bytes)) place (free d among)))
      ];
    }

pub among-front : (c : Claim) (xs ys : List Claim) → Among c xs → Among c (xs ++ ys)
among-front c [] ys among = absurd among
among-front c (x ∷ xs) ys among = elim among [ inl e ↦ inl e | inr more ↦ inr (among-front c xs ys more) ]

pub among-behind : (c : Claim) (xs ys : List Claim) → Among c ys → Among c (xs ++ ys)
among-behind c [] ys among = among
among-behind c (x ∷ xs) ys among = inr (among-behind c xs ys among)

pub among-either : (c : Claim) (xs ys : List Claim) → Among c (xs ++ ys) → Among c xs ⊎ Among c ys
among-either c [] ys among = inr among
among-either c (x ∷ xs) ys among = elim among [
  | inl e ↦ inl (inl e)
  | inr more ↦ elim (among-either c xs ys more) [ inl front ↦ inl (inr front) | inr behind ↦ inr behind ]
]

pub no-file : IsFile 0 [] []
no-file = record { len = refl; held = λ c among. absurd among; free = λ k free. refl }

-- a text behind a file
pub joined-file : (n size : ℕ) (xs ys : List Claim) (file text : List ℕ) → IsFile n xs file → IsFrom n ys text → n + length text ≡ size → IsFile size (xs ++ ys) (file ++ text)
joined-file n size xs ys file text h t is =
    let long = h.len in
    record {
      len = length-append file text ∙ ap (λ m. m + length text) long ∙ is;
      held = λ c among. elim (among-either c xs ys among) [
        | inl front ↦ holds-front file text c.at c.bytes (h.held c front)
        | inr behind ↦ (let f = t.from c behind in holds-behind file text (c.at - n) c.at c.bytes (omega arith) (t.held c behind))
      ];
      free = λ k free. elim (cases_lt k n) [
        | inl low ↦ get_or_append_left file text 0 k (omega arith) ∙ h.free k (λ c front. free c (among-front c xs ys front))
        | inr past ↦
            (let place : k ≡ n + (k - n) = omega arith in
            get_or-append_right file text n k 0 long past
            ∙ t.free (k - n) (λ c behind. subst (IsOutside c.at (length c.bytes)) place (free c (among-behind c xs ys behind))))
      ];
    }

-- a claim of bytes that the file has
pub added-file : (n : ℕ) (c : Claim) (claims : List Claim) (file : List ℕ) → Holds file c.at c.bytes → IsFile n claims file → IsFile n (c ∷ claims) file
added-file n c claims file here h = record {
  len = h.len;
  held = λ d among. elim among [
    | inl e ↦ subst (λ (x : Claim). Holds file x.at x.bytes) (sym e) here
    | inr more ↦ h.held d more
  ];
  free = λ k free. h.free k (λ d more. free d (inr more));
}

-- the same claims in another order
pub turned-file : (n : ℕ) (xs ys : List Claim) (file : List ℕ) → ((c : Claim) → Among c xs → Among c ys) → ((c : Claim) → Among c ys → Among c xs) → IsFile n xs file → IsFile n ys file
turned-file n xs ys file there back h = record {
  len = h.len;
  held = λ c among. h.held c (back c among);
  free = λ k free. h.free k (λ c among. free c (there c among));
}

-- no claim passes the file's end
pub inside-file : (claims : List Claim) (file : List ℕ) → IsFile BLOCK claims file → AreInside claims
inside-file claims file h c among = let held = h.held c among in let f = held.fits in let l = h.len in omega arith

-- claims that all begin behind a place don't have it
pub owners-before : (xs ys : List Claim) (k owners : ℕ) → ((c : Claim) → Among c ys → k < c.at) → owners_with owners (xs ++ ys) k ≡ owners_with owners xs k
owners-before [] [] k owners past = refl
owners-before [] (c ∷ ys) k owners past =
    elim (has_place-or c k) [
      | inl on ↦ (let low = on.0 in let before = past c (inl refl) in absurd (omega arith))
      | inr off ↦
          ap (λ s. owners_with s ys k) (cond-false (has_place c k) (bit_or owners (only c.owner)) owners off.1)
          ∙ owners-before [] ys k owners (λ d among. past d (inr among))
    ]
owners-before (x ∷ xs) ys k owners past = owners-before xs ys k (cond (has_place x k) (bit_or owners (only x.owner)) owners) past
