-- Searches of the strings by pieces.
use Rattle.std.proofs.Common.{◌≡◌, ℕ, ◌+◌, ◌-◌, ◌<◌, ◌≤◌, List, length, take, drop, slice_index, Option, Some, None, IfSome, sym, ap, ◌∙◌, arith, length-drop}
use Rattle.std.proofs.lemmas.List.{take-take, drop-drop, drop-take, get_or-take, get_or-drop, length-take-le}
use Rattle.memchr.specs.Find.{Nowhere, OccursAt, FindsNeedle}
use Rattle.memchr.proofs.lemmas.FindLemmas.{Nowhere-then}
use Rattle.memchr.proofs.lemmas.MatchLemmas.{occurs_at-true, OccursAt-true}
use Rattle.ap_elf.specs.declared.types.Tables.{Tables}
use Rattle.ap_elf.specs.Symbols.{strings_of, Stands, EndBelow}

-- a part of a part of a list
pub part-part : (b : List ℕ) (from n at len : ℕ) → at + len ≤ n → take len (drop at (take n (drop from b))) ≡ take len (drop (from + at) b)
part-part b from n at len h =
    let whole : n ≡ at + (n - at) = omega arith in
    ap (λ k. take len (drop at (take k (drop from b)))) whole
    ∙ ap (take len) (drop-take at (n - at) (drop from b))
    ∙ take-take len (n - at) (drop at (drop from b)) (omega arith)
    ∙ ap (take len) (drop-drop at from b)

pub length-strings : (b : List ℕ) (t : Tables) → EndBelow (length b) t → length (strings_of b t) ≡ t.length
length-strings b t ends = let below = ends.strings in length-take-le t.length (drop t.strings b) (omega (arith, length-drop t.strings b))

module _ (strings text : List ℕ) (at count : ℕ) (inside : at + count ≤ length strings) where
  length-piece : length (take count (drop at strings)) ≡ count
  length-piece = length-take-le count (drop at strings) (omega (arith, length-drop at strings))

  piece-at : (k : ℕ) → k < count → slice_index (take count (drop at strings)) k ≡ slice_index strings (at + k)
  piece-at k h = get_or-take count (drop at strings) k 0 h ∙ get_or-drop at strings k 0

  piece-occurs : (i : ℕ) → OccursAt (take count (drop at strings)) text i → OccursAt strings text (at + i)
  piece-occurs i o =
      let fits = o.fits in
      let long = length-piece in
      record {
        fits = omega arith;
        reads = λ j l. ap (slice_index strings) (let e : at + i + j ≡ at + (i + j) = omega arith in e) ∙ sym (piece-at (i + j) (omega arith)) ∙ o.reads j l;
      }

  pub occurs-piece : (k : ℕ) → at ≤ k → k + length text ≤ at + count → OccursAt strings text k → OccursAt (take count (drop at strings)) text (k - at)
  occurs-piece k low high o =
      let long = length-piece in
      record {
        fits = omega arith;
        reads = λ j l. piece-at (k - at + j) (omega arith) ∙ ap (slice_index strings) (let e : at + (k - at + j) ≡ k + j = omega arith in e) ∙ o.reads j l;
      }

  -- a piece without the text
  pub search-next : (from : ℕ) → length text ≤ count → Nowhere (OccursAt strings text) from at → FindsNeedle (take count (drop at strings)) text 0 None
      → Nowhere (OccursAt strings text) from (at + (count - length text + 1))
  search-next from fits before none =
      Nowhere-then before (λ k low high o.
      let long = length-piece in
      none (k - at) (omega arith) (omega arith) (occurs-piece k low (omega arith) o))

  -- a piece with the text
  pub search-found : (from i : ℕ) → from ≤ at → Nowhere (OccursAt strings text) from at → FindsNeedle (take count (drop at strings)) text 0 (Some i)
      → FindsNeedle strings text from (Some (at + i))
  search-found from i low before found =
      let here = piece-occurs i found.1 in
      let fits = here.fits in (
        record {
          low = omega arith;
          high = omega arith;
          before = Nowhere-then before (λ k low high o.
              let end = o.fits in
              let inner = found.1.fits in
              let long = length-piece in
              found.0.before (k - at) (omega arith) (omega arith) (occurs-piece k low (omega arith) o));
        },
        here,
      )

-- no piece is left
pub search-none : (strings text : List ℕ) (from at : ℕ) → length strings < at + length text → Nowhere (OccursAt strings text) from at → FindsNeedle strings text from None
search-none strings text from at past before =
    Nowhere-then before (λ k low high o. let fits = o.fits in absurd (omega arith))

-- what was read is a piece of the strings
pub piece-read : (b part : List ℕ) (t : Tables) (at count : ℕ) → at + count ≤ t.length → part ≡ take count (drop (t.strings + at) b) → part ≡ take count (drop at (strings_of b t))
piece-read b part t at count inside e = e ∙ sym (part-part b t.strings t.length at count inside)

pub found-within : (part text : List ℕ) (count : ℕ) (r : Option ℕ) → length part ≡ count → FindsNeedle part text 0 r → IfSome r (λ place. place + length text ≤ count)
found-within part text count None long h = tt
found-within part text count (Some k) long h = let fits = h.1.fits in omega arith

-- a search tells whether the text stands anywhere
pub found-stands : (strings text : List ℕ) (k : ℕ) → FindsNeedle strings text 0 (Some k) → Stands strings text
found-stands strings text k h = (k, occurs_at-true strings text k h.1)

pub none-stands : (strings text : List ℕ) → FindsNeedle strings text 0 None → Stands strings text → ⊥
none-stands strings text h s =
    let there = OccursAt-true strings text s.0 s.1 in
    let fits = there.fits in
    h s.0 (omega arith) (omega arith) there
