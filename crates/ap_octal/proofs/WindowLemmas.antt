-- What stands in a part of a file's window.
use Rattle.std.proofs.Common.{◌≡◌, ℕ, ◌+◌, ◌-◌, ◌<◌, ◌≤◌, List, length, take, drop, get_or, min, sym, ap, ◌∙◌, arith, length-drop, length-take, refl, subst}
use Rattle.std.specs.Prelude.{codes, slice_index, Some, None}
use Rattle.std.proofs.lemmas.List.{get_or-drop, get_or-take, take_rest}
use Rattle.std.proofs.lemmas.Bool.Decides.{nat_tests}
use Rattle.memchr.specs.Find.{IsFirst, IsFirstByte, FindsNeedle, OccursAt, Passes, is_byte}
use Rattle.ap_fields.specs.declared.sizes.TheConstants.{WINDOW}
use Rattle.ap_octal.specs.Embedded.{Opens, Closes}

pub part-at : (file : List ℕ) (n from i : ℕ) → from + i < n → get_or (drop from (take n file)) i 0 ≡ get_or file (from + i) 0
part-at file n from i h = get_or-drop from (take n file) i 0 ∙ get_or-take n file (from + i) 0 h

pub length-part : (file : List ℕ) (n from : ℕ) → length (drop from (take n file)) ≡ min n (length file) - from
length-part file n from = length-drop from (take n file) ∙ ap (λ k. k - from) (length-take n file)

-- the part of the window that code looks through
pub part-is : (file window : List ℕ) (from : ℕ) → window ≡ take WINDOW file → take (length window - from) (drop from window) ≡ drop from (take WINDOW file)
part-is file window from is = take_rest window from ∙ ap (drop from) is

passes : (part : List ℕ) (i : ℕ) → slice_index part i ≡ 39 → Passes (is_byte 39) part i
passes part i e = grind (arith, nat_tests)

passed : (part : List ℕ) (i : ℕ) → Passes (is_byte 39) part i → slice_index part i ≡ 39
passed part i e = grind (arith, nat_tests)

pub closes-found : (file part : List ℕ) (from i : ℕ) → part ≡ drop from (take WINDOW file) → IsFirstByte (is_byte 39) part (Some i) → Closes file from (from + i)
closes-found file part from i is h =
    let long : length part ≡ min WINDOW (length file) - from = ap length is ∙ length-part file WINDOW from in
    let high = h.0.high in
    record {
      behind = omega arith;
      fits = omega arith;
      within = omega arith;
      quote = sym (ap (λ p. slice_index p i) is ∙ part-at file WINDOW from i (omega arith)) ∙ passed part i h.1;
      first = λ k low below e.
          let at : from + (k - from) ≡ k = omega arith in
          h.0.before (k - from) (omega arith) (omega arith)
          (passes part (k - from) (ap (λ p. slice_index p (k - from)) is ∙ part-at file WINDOW from (k - from) (omega arith) ∙ ap (λ j. slice_index file j) at ∙ e));
    }

pub closes-none : (file part : List ℕ) (from : ℕ) → part ≡ drop from (take WINDOW file) → IsFirstByte (is_byte 39) part None → (end : ℕ) → ¬ Closes file from end
closes-none file part from is h end c =
    let long : length part ≡ min WINDOW (length file) - from = ap length is ∙ length-part file WINDOW from in
    let low = c.behind in
    let fits = c.fits in
    let within = c.within in
    let at : from + (end - from) ≡ end = omega arith in
    h (end - from) (omega arith) (omega arith)
    (passes part (end - from) (ap (λ p. slice_index p (end - from)) is ∙ part-at file WINDOW from (end - from) (omega arith) ∙ ap (λ j. slice_index file j) at ∙ c.quote))

occurs : (file part : List ℕ) (from k : ℕ) → part ≡ drop from (take WINDOW file) → from ≤ k → Opens file k → OccursAt part (codes "printf '") (k - from)
occurs file part from k is low o =
    let long : length part ≡ min WINDOW (length file) - from = ap length is ∙ length-part file WINDOW from in
    let fits = o.stands.fits in
    let within = o.within in
    record {
      fits = omega arith;
      reads = λ j below.
          let at : from + (k - from + j) ≡ k + j = omega arith in
          ap (λ p. slice_index p (k - from + j)) is ∙ part-at file WINDOW from (k - from + j) (omega arith) ∙ ap (λ i. slice_index file i) at ∙ o.stands.same j below;
    }

opens : (file part : List ℕ) (from i : ℕ) → part ≡ drop from (take WINDOW file) → OccursAt part (codes "printf '") i → Opens file (from + i)
opens file part from i is o =
    let long : length part ≡ min WINDOW (length file) - from = ap length is ∙ length-part file WINDOW from in
    let fits = o.fits in
    record {
      stands = record {
        fits = omega arith;
        same = λ j below.
            let at : from + (i + j) ≡ from + i + j = omega arith in
            ap (λ k. slice_index file k) (sym at) ∙ sym (ap (λ p. slice_index p (i + j)) is ∙ part-at file WINDOW from (i + j) (omega arith)) ∙ o.reads j below;
      };
      within = omega arith;
    }

pub opens-found : (file part : List ℕ) (from i : ℕ) → part ≡ drop from (take WINDOW file) → FindsNeedle part (codes "printf '") 0 (Some i)
    → IsFirst (Opens file) from WINDOW (Some (from + i))
opens-found file part from i is h =
    let o = opens file part from i is h.1 in
    let within = o.within in (
      record {
        low = omega arith;
        high = omega arith;
        before = λ k low below o'. h.0.before (k - from) (omega arith) (omega arith) (occurs file part from k is low o');
      },
      o,
    )

pub opens-none : (file part : List ℕ) (from : ℕ) → part ≡ drop from (take WINDOW file) → FindsNeedle part (codes "printf '") 0 None
    → IsFirst (Opens file) from WINDOW None
opens-none file part from is h k low below o =
    let there = occurs file part from k is low o in
    let fits = there.fits in
    h (k - from) (omega arith) (omega arith) there

-- over the whole window
pub window-occurs : (file : List ℕ) (k : ℕ) → Opens file k → OccursAt (take WINDOW file) (codes "printf '") k
window-occurs file k o =
    let same : k - 0 ≡ k = omega arith in
    subst (λ i. OccursAt (take WINDOW file) (codes "printf '") i) same (occurs file (drop 0 (take WINDOW file)) 0 k refl (omega arith) o)

pub window-opens : (file : List ℕ) (k : ℕ) → OccursAt (take WINDOW file) (codes "printf '") k → Opens file k
window-opens file k o =
    let same : 0 + k ≡ k = omega arith in
    subst (λ i. Opens file i) same (opens file (drop 0 (take WINDOW file)) 0 k refl o)
