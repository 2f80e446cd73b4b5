-- Cells of regions that ascend, and of files that agree on what regions show.
use Rattle.std.proofs.Common.{◌≡◌, ℕ, zero, suc, ◌+◌, ◌-◌, ◌^◌, ◌<◌, ◌≤◌, Bool, true, false, if◌then◌else◌, nat_lt, List, [], ◌∷◌, length, get_or, drop, Option, Some, None, refl, sym, ap, ◌∙◌, subst, inl, inr, arith}
use Rattle.std.proofs.lemmas.Bool.{cases_Bool}
use Rattle.std.proofs.lemmas.Bool.Decides.{nat_tests}
use Rattle.std.proofs.lemmas.Bool.{ltb-true}
use Rattle.ap_files.proofs.ReadLemmas.{some_same}
use Rattle.ap_fields.specs.Readings.{Cell, bytes_in}
use Rattle.ap_image.specs.declared.plan.Region.{Region}
use Rattle.ap_image.specs.Plans.{IsRegion, AreAscendingFrom, AreBacked, end_of, region_byte, region_at, cell_in, has_address}
use Rattle.ap_image.specs.Reading.{AgreeOn}

-- regions that ascend from an address on, don't reach past the top
pub ascending-top : (low : ℕ) (regions : List Region) → AreAscendingFrom low regions → low ≤ 2 ^ 47
ascending-top low [] h = h
ascending-top low (r ∷ regions) h =
    let top : end_of r ≤ 2 ^ 47 = ascending-top (end_of r) regions h.2 in
    let from : low ≤ r.start = h.0 in
    omega arith

-- the cell at an address is one of the region that has it
cell_by : (ℕ → ℕ) → Option Region → ℕ → Option Cell
cell_by byte None a = None
cell_by byte (Some r) a = Some (region_byte byte r a, r.perms.0)

cell_in-by : (byte : ℕ → ℕ) (regions : List Region) (a : ℕ) → cell_in byte regions a ≡ cell_by byte (region_at regions a) a
unfolding cell_by
cell_in-by byte [] a = refl
cell_in-by byte (r ∷ regions) a =
    elim (cases_Bool (has_address r a)) [
      | inl on ↦ rw on refl
      | inr off ↦ rw off (cell_in-by byte regions a)
    ]

pub cell_in-at : (byte : ℕ → ℕ) (regions : List Region) (r : Region) (a : ℕ) → region_at regions a ≡ Some r → cell_in byte regions a ≡ Some (region_byte byte r a, r.perms.0)
unfolding cell_by
cell_in-at byte regions r a is = cell_in-by byte regions a ∙ ap (λ o. cell_by byte o a) is

-- below them no region has an address
region_at-below : (low : ℕ) (regions : List Region) (a : ℕ) → AreAscendingFrom low regions → a < low → region_at regions a ≡ None
region_at-below low [] a h l = refl
region_at-below low (r ∷ regions) a h l =
    let from : low ≤ r.start = h.0 in
    let off : has_address r a ≡ false = grind (arith, nat_tests) in
    let rest : region_at regions a ≡ None = region_at-below (end_of r) regions a h.2 (omega arith) in
    rw off rest

-- each of them starts no lower
start-from : (low : ℕ) (regions : List Region) (i : ℕ) (d : Region) → AreAscendingFrom low regions → i < length regions → low ≤ (get_or regions i d).start
start-from low [] i d h l = absurd (omega arith)
start-from low (r ∷ regions) zero d h l = h.0
start-from low (r ∷ regions) (suc i) d h l =
    let from : low ≤ r.start = h.0 in
    let later : end_of r ≤ (get_or regions i d).start = start-from (end_of r) regions i d h.2 (omega arith) in
    omega arith

-- regions that end at or before an address don't have it
pub region_at-drop : (low : ℕ) (regions : List Region) (i : ℕ) (d : Region) (a : ℕ) → AreAscendingFrom low regions → i < length regions → end_of (get_or regions i d) ≤ a
    → region_at (drop (i + 1) regions) a ≡ region_at regions a
region_at-drop low [] i d a h l e = absurd (omega arith)
region_at-drop low (r ∷ regions) zero d a h l e =
    let off : has_address r a ≡ false = grind (arith, nat_tests) in
    let n : 0 + 1 ≡ 1 = refl in
    rw off refl
region_at-drop low (r ∷ regions) (suc i) d a h l e =
    let later : end_of r ≤ (get_or regions i d).start = start-from (end_of r) regions i d h.2 (omega arith) in
    let off : has_address r a ≡ false = grind (arith, nat_tests) in
    let next : suc i + 1 ≡ suc (i + 1) = omega arith in
    let rest : region_at (drop (i + 1) regions) a ≡ region_at regions a = region_at-drop (end_of r) regions i d a h.2 (omega arith) e in
    ap (λ k. region_at (drop k (r ∷ regions)) a) next ∙ rest ∙ rw off refl

pub cell_in-drop : (byte : ℕ → ℕ) (low : ℕ) (regions : List Region) (i : ℕ) (d : Region) (a : ℕ) → AreAscendingFrom low regions → i < length regions → end_of (get_or regions i d) ≤ a
    → cell_in byte (drop (i + 1) regions) a ≡ cell_in byte regions a
cell_in-drop byte low regions i d a h l e =
    cell_in-by byte (drop (i + 1) regions) a ∙ ap (λ o. cell_by byte o a) (region_at-drop low regions i d a h l e) ∙ sym (cell_in-by byte regions a)

-- where the first of those that are left begins behind an address, none of them has it
pub region_at-gap : (low : ℕ) (regions : List Region) (i : ℕ) (d : Region) (a : ℕ) → AreAscendingFrom low regions → i < length regions → a < (get_or regions i d).start
    → region_at (drop i regions) a ≡ None
region_at-gap low [] i d a h l e = absurd (omega arith)
region_at-gap low (r ∷ regions) zero d a h l e =
    let same : r.start ≤ r.start = omega arith in
    region_at-below r.start (r ∷ regions) a (same, h.1, h.2) e
region_at-gap low (r ∷ regions) (suc i) d a h l e = region_at-gap (end_of r) regions i d a h.2 (omega arith) e

pub cell_in-gap : (byte : ℕ → ℕ) (low : ℕ) (regions : List Region) (i : ℕ) (d : Region) (a : ℕ) → AreAscendingFrom low regions → i < length regions → a < (get_or regions i d).start
    → cell_in byte (drop i regions) a ≡ None
unfolding cell_by
cell_in-gap byte low regions i d a h l e = cell_in-by byte (drop i regions) a ∙ ap (λ o. cell_by byte o a) (region_at-gap low regions i d a h l e)

-- the first of those that are left has an address
pub region_at-here : (regions : List Region) (i : ℕ) (d : Region) (a : ℕ) → i < length regions → (get_or regions i d).start ≤ a → a < end_of (get_or regions i d) → region_at (drop i regions) a ≡ Some (get_or regions i d)
region_at-here [] i d a l from below = absurd (omega arith)
region_at-here (r ∷ regions) zero d a l from below = (let on : has_address r a ≡ true = grind (arith, nat_tests) in rw on refl)
region_at-here (r ∷ regions) (suc i) d a l from below = region_at-here regions i d a (omega arith) from below

-- the region that has an address has those behind it up to its end, too
pub region_at-has : (low : ℕ) (regions : List Region) (r : Region) (a : ℕ) → AreAscendingFrom low regions → region_at regions a ≡ Some r → (low ≤ r.start) × (r.start ≤ a) × (a < end_of r)
region_at-has low [] r a h is = absurd (cc)
region_at-has low (q ∷ regions) r a h is =
    elim (cases_Bool (has_address q a)) [
      | inl on ↦
          let same : Some q ≡ Some r = (let e : region_at (q ∷ regions) a ≡ Some q = rw on refl in sym e ∙ is) in
          let eq : q ≡ r = some_same same in
          let from : low ≤ q.start = h.0 in
          let above : q.start ≤ a = grind (arith, nat_tests) in
          let below : a < end_of q = grind (arith, nat_tests) in
          subst (λ s. (low ≤ s.start) × (s.start ≤ a) × (a < end_of s)) eq (from, above, below)
      | inr off ↦
          let rest : region_at regions a ≡ Some r = (let e : region_at (q ∷ regions) a ≡ region_at regions a = rw off refl in sym e ∙ is) in
          let t = region_at-has (end_of q) regions r a h.2 rest in
          let from : low ≤ q.start = h.0 in
          let next : end_of q ≤ r.start = t.0 in
          let low : low ≤ r.start = omega arith in
          (low, t.1, t.2)
    ]

pub region_at-along : (low : ℕ) (regions : List Region) (r : Region) (a b : ℕ) → AreAscendingFrom low regions → region_at regions a ≡ Some r → a ≤ b → b < end_of r → region_at regions b ≡ Some r
region_at-along low [] r a b h is above below = absurd (cc)
region_at-along low (q ∷ regions) r a b h is above below =
    elim (cases_Bool (has_address q a)) [
      | inl on ↦
          let same : Some q ≡ Some r = (let e : region_at (q ∷ regions) a ≡ Some q = rw on refl in sym e ∙ is) in
          let eq : q ≡ r = some_same same in
          let ends : b < end_of q = subst (λ s. b < end_of s) (sym eq) below in
          let still : has_address q b ≡ true = grind (arith, nat_tests) in
          rw still same
      | inr off ↦
          let rest : region_at regions a ≡ Some r = (let e : region_at (q ∷ regions) a ≡ region_at regions a = rw off refl in sym e ∙ is) in
          let t = region_at-has (end_of q) regions r a h.2 rest in
          let next : end_of q ≤ r.start = t.0 in
          let start : r.start ≤ a = t.1 in
          let still : has_address q b ≡ false = grind (arith, nat_tests) in
          rw still (region_at-along (end_of q) regions r a b h.2 rest above below)
    ]

-- the part of the file that a region shows
pub backed-at : (regions : List Region) (len i : ℕ) (d : Region) → AreBacked regions len → i < length regions → (get_or regions i d).at + (get_or regions i d).backed ≤ len
backed-at [] len i d h l = absurd (omega arith)
backed-at (r ∷ regions) len zero d h l = h.0
backed-at (r ∷ regions) len (suc i) d h l = backed-at regions len i d h.1 (omega arith)

pub region-at : (low : ℕ) (regions : List Region) (i : ℕ) (d : Region) → AreAscendingFrom low regions → i < length regions → IsRegion (get_or regions i d)
region-at low [] i d h l = absurd (omega arith)
region-at low (r ∷ regions) zero d h l = h.1
region-at low (r ∷ regions) (suc i) d h l = region-at (end_of r) regions i d h.2 (omega arith)

region_byte-same : (f g : ℕ → ℕ) (r : Region) (a : ℕ) → ((k : ℕ) → k < r.backed → f (r.at + k) ≡ g (r.at + k)) → region_byte f r a ≡ region_byte g r a
region_byte-same f g r a h =
    let P : Bool → Type 0 = λ b. nat_lt (a - r.start) r.backed ≡ b → (if b then f (r.at + (a - r.start)) else 0) ≡ (if b then g (r.at + (a - r.start)) else 0) in
    let step : P (nat_lt (a - r.start) r.backed) = elim (nat_lt (a - r.start) r.backed) as P [ true ↦ λ e. h (a - r.start) (ltb-true _ _ e) | false ↦ λ e. refl ] in
    step refl

-- the cells of files that agree on what the regions show
pub cell_in-same : (regions : List Region) (f g : List ℕ) (a : ℕ) → AgreeOn regions f g → cell_in (bytes_in f) regions a ≡ cell_in (bytes_in g) regions a
cell_in-same [] f g a h = refl
cell_in-same (r ∷ regions) f g a h =
    let here : region_byte (bytes_in f) r a ≡ region_byte (bytes_in g) r a = region_byte-same (bytes_in f) (bytes_in g) r a h.0 in
    let rest : cell_in (bytes_in f) regions a ≡ cell_in (bytes_in g) regions a = cell_in-same regions f g a h.1 in
    ap (λ x. if has_address r a then Some (x, r.perms.0) else cell_in (bytes_in f) regions a) here
    ∙ ap (λ (c : Option Cell). if has_address r a then Some (region_byte (bytes_in g) r a, r.perms.0) else c) rest

pub ruleset cell_steps = (region_at-drop, cell_in-drop, cell_in-gap, backed-at)
