-- Writers of claims, one after the other.
use Rattle.std.proofs.Common.{◌≡◌, ℕ, zero, suc, ◌+◌, List, [], ◌∷◌, ◌++◌, length, take, Option, Some, None, Result, Ok, Err, refl, sym, ap, ◌∙◌, subst, arith}
use Rattle.ap_claims.specs.declared.block.Clash.{Clash}
use Rattle.ap_claims.specs.Blocks.{BlockState, clash_of, claimed, Claims}
use Rattle.ap_claims.specs.Lists.{Claim, claims_on, clash_on, first_clash, Makes, AreWriters}

claims_on-append : (b : BlockState) (xs ys : List Claim) → claims_on b (xs ++ ys) ≡ claims_on (claims_on b xs) ys
claims_on-append b [] ys = refl
claims_on-append b (x ∷ xs) ys = claims_on-append (claimed x.owner b x.at x.bytes) xs ys

first_clash-assoc : (x y z : Option Clash) → first_clash (first_clash x y) z ≡ first_clash x (first_clash y z)
first_clash-assoc None y z = refl
first_clash-assoc (Some e) y z = refl

clash_on-append : (b : BlockState) (xs ys : List Claim) → clash_on b (xs ++ ys) ≡ first_clash (clash_on b xs) (clash_on (claims_on b xs) ys)
clash_on-append b [] ys = refl
clash_on-append b (x ∷ xs) ys =
    ap (first_clash (clash_of b x.at x.bytes)) (clash_on-append (claimed x.owner b x.at x.bytes) xs ys) ∙ sym (first_clash-assoc (clash_of b x.at x.bytes) (clash_on (claimed x.owner b x.at x.bytes) xs) _)

take-past : (xs ys : List Claim) (n : ℕ) → take (length xs + n) (xs ++ ys) ≡ xs ++ take n ys
take-past [] ys n = let e : 0 + n ≡ n = omega arith in rw e refl
take-past (x ∷ xs) ys n = let e : suc (length xs) + n ≡ suc (length xs + n) = omega arith in rw e (ap (λ (zs : List Claim). x ∷ zs) (take-past xs ys n))

-- a front of a front of a list
take-append : (xs ys : List Claim) (n : ℕ) → (j : ℕ) × (take j (xs ++ ys) ≡ take n xs)
take-append xs ys zero = (0, refl)
take-append [] ys (suc n) = (0, refl)
take-append (x ∷ xs) ys (suc n) = let rest = take-append xs ys n in (suc rest.0, ap (λ (zs : List Claim). x ∷ zs) rest.1)

-- one claim
pub makes-one : (c : Claim) (b after : BlockState) (r : Result (Unit {0}) Clash) → Claims c.owner b after c.at c.bytes r → Makes b after (c ∷ []) r
makes-one c b after (Ok u) h = (ap (λ (x : Option Clash). first_clash x None) h.0, h.1)
makes-one c b after (Err e) h = (ap (λ (x : Option Clash). first_clash x None) h.0, (0, refl, h.1))

-- claims after claims that were made
pub makes-onward : (xs ys : List Claim) (b c d : BlockState) (r : Result (Unit {0}) Clash) → Makes b c xs (Ok tt) → Makes c d ys r → Makes b d (xs ++ ys) r
makes-onward xs ys b c d (Ok v) h g = (
  clash_on-append b xs ys ∙ ap (λ (x : Option Clash). first_clash x (clash_on (claims_on b xs) ys)) h.0 ∙ ap (λ (x : BlockState). clash_on x ys) (sym h.1) ∙ g.0,
  g.1 ∙ ap (λ (x : BlockState). claims_on x ys) h.1 ∙ sym (claims_on-append b xs ys),
)
makes-onward xs ys b c d (Err e) h g =
    let j = g.1.0 in
    let part : take (length xs + j) (xs ++ ys) ≡ xs ++ take j ys = take-past xs ys j in (
      clash_on-append b xs ys ∙ ap (λ (x : Option Clash). first_clash x (clash_on (claims_on b xs) ys)) h.0 ∙ ap (λ (x : BlockState). clash_on x ys) (sym h.1) ∙ g.0,
      (
        length xs + j,
        ap (clash_on b) part ∙ clash_on-append b xs (take j ys) ∙ ap (λ (x : Option Clash). first_clash x (clash_on (claims_on b xs) (take j ys))) h.0 ∙ ap (λ (x : BlockState). clash_on x (take j ys)) (sym h.1) ∙ g.1.1,
        g.1.2 ∙ ap (λ (x : BlockState). claims_on x (take j ys)) h.1 ∙ sym (claims_on-append b xs (take j ys)) ∙ ap (claims_on b) (sym part),
      ),
    )

-- no claim after a clash
pub makes-stopped : (xs ys : List Claim) (b c : BlockState) (e : Clash) → Makes b c xs (Err e) → Makes b c (xs ++ ys) (Err e)
makes-stopped xs ys b c e h =
    let j = take-append xs ys h.1.0 in (
      clash_on-append b xs ys ∙ ap (λ (x : Option Clash). first_clash x (clash_on (claims_on b xs) ys)) h.0,
      (j.0, ap (clash_on b) j.1 ∙ h.1.1, h.1.2 ∙ ap (claims_on b) (sym j.1)),
    )

pub are-writers : AreWriters
are-writers = record { one = makes-one; onward = makes-onward; stopped = makes-stopped }

-- ---- writers that stop at a clash, as `?` does

-- a writer that clashes, in front of others
pub stopped-writer : (xs ys : List Claim) (b after : BlockState) (made answer : Result (Unit {0}) Clash) (clash : Clash) → Makes b after xs made → made ≡ Err clash → answer ≡ Err clash → Makes b after (xs ++ ys) answer
stopped-writer xs ys b after made answer clash h stops is = subst (Makes b after (xs ++ ys)) (sym is) (makes-stopped xs ys b after clash (subst (Makes b after xs) stops h))

-- a writer that doesn't
pub next-writer : (xs ys : List Claim) (b between after : BlockState) (made answer : Result (Unit {0}) Clash) (done : Unit {0}) → Makes b between xs made → made ≡ Ok done → Makes between after ys answer → Makes b after (xs ++ ys) answer
next-writer xs ys b between after made answer done h goes later = makes-onward xs ys b between after answer (subst (Makes b between xs) goes h) later

-- the same of one claim, of bytes that are spelled otherwise
pub one-claim : (c : Claim) (b after : BlockState) (bytes : List ℕ) (answer : Result (Unit {0}) Clash) → bytes ≡ c.bytes → Claims c.owner b after c.at bytes answer → Makes b after (c ∷ []) answer
one-claim c b after bytes answer spelled h = makes-one c b after answer (subst (λ (v : List ℕ). Claims c.owner b after c.at v answer) spelled h)

pub stopped-claim : (c : Claim) (more : List Claim) (b after : BlockState) (bytes : List ℕ) (made answer : Result (Unit {0}) Clash) (clash : Clash)
    → bytes ≡ c.bytes → Claims c.owner b after c.at bytes made → made ≡ Err clash → answer ≡ Err clash → Makes b after (c ∷ more) answer
stopped-claim c more b after bytes made answer clash spelled h stops is = stopped-writer (c ∷ []) more b after made answer clash (one-claim c b after bytes made spelled h) stops is

pub next-claim : (c : Claim) (more : List Claim) (b between after : BlockState) (bytes : List ℕ) (made answer : Result (Unit {0}) Clash) (done : Unit {0})
    → bytes ≡ c.bytes → Claims c.owner b between c.at bytes made → made ≡ Ok done → Makes between after more answer → Makes b after (c ∷ more) answer
next-claim c more b between after bytes made answer done spelled h goes later = next-writer (c ∷ []) more b between after made answer done (one-claim c b between bytes made spelled h) goes later
