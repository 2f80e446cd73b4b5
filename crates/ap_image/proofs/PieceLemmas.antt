-- Pieces of regions: their bytes, and the cells that they have.
use Rattle.std.proofs.Common.{◌≡◌, ℕ, ◌+◌, ◌-◌, ◌<◌, ◌≤◌, min, if◌then◌else◌, List, ◌++◌, length, get_or, take, drop, length-drop, Option, Some, None, sym, ap, ◌∙◌, inl, inr, arith, nat_lt}
use Rattle.std.proofs.lemmas.Bool.{cases_Bool}
use Rattle.std.proofs.lemmas.Bool.Decides.{nat_tests}
use Rattle.std.proofs.lemmas.List.{get_or-take, get_or-drop, get_or_past, length-take-le}
use Rattle.std.proofs.Math.ListN.{length-take}
use Rattle.std.proofs.Math.Nat.{min-le_left}
use Rattle.ap_fields.specs.Bytes.{zeros}
use Rattle.ap_fields.specs.Readings.{bytes_in}
use Rattle.ap_image.specs.declared.plan.Region.{Region}
use Rattle.ap_fields.specs.declared.perms.Perms.{Perms}
use Rattle.ap_image.specs.declared.piece.Piece.{Piece}
use Rattle.ap_image.specs.Plans.{AreAscendingFrom, IsRegion, end_of, region_at}
use Rattle.ap_image.specs.Images.{IsPieceOf, IsPieceAt, HasCells, count_from}
use Rattle.ap_image.specs.ImageFiles.{region_bytes}
use Rattle.ap_image.proofs.RegionCells.{cell_in-at, region_at-along, region_at-has, region_at-here, region-at}
use Rattle.ap_image.proofs.RegionBytes.{part-and-zeros}

length-take-below : (n : ℕ) (l : List ℕ) → length (take n l) ≤ n
length-take-below n l = let e = length-take n l in let m = min-le_left n (length l) in omega arith

-- the byte at a place of a piece
piece-byte : (file : List ℕ) (at start backed a i count : ℕ) → start ≤ a → i < count
    → (if nat_lt (a + i - start) backed then get_or file (at + (a + i - start)) 0 else 0) ≡ get_or (take (min count (backed - (a - start))) (drop (at + (a - start)) file)) i 0
piece-byte file at start backed a i count from below =
    elim (cases_Bool (nat_lt (a + i - start) backed)) [
      | inl on ↦
          let small : i < min count (backed - (a - start)) = grind (arith, nat_tests) in
          let sum : at + (a + i - start) ≡ at + (a - start) + i = omega arith in
          rw on (ap (λ k. get_or file k 0) sum ∙ sym (get_or-drop (at + (a - start)) file i 0) ∙ sym (get_or-take (min count (backed - (a - start))) (drop (at + (a - start)) file) i 0 small))
      | inr off ↦
          let large : min count (backed - (a - start)) ≤ i = grind (arith, nat_tests) in
          let short : length (take (min count (backed - (a - start))) (drop (at + (a - start)) file)) ≤ min count (backed - (a - start)) = length-take-below _ _ in
          let past : length (take (min count (backed - (a - start))) (drop (at + (a - start)) file)) ≤ i = omega arith in
          rw off (sym (get_or_past (take (min count (backed - (a - start))) (drop (at + (a - start)) file)) i 0 past))
    ]

-- a piece has the cells
pub has-cells : (file : List ℕ) (low : ℕ) (regions : List Region) (r : Region) (a most : ℕ) (p : Piece) → AreAscendingFrom low regions → region_at regions a ≡ Some r → IsPieceOf file r a most p
    → HasCells file regions a p
has-cells file low regions r a most p up at is i below =
    let has = region_at-has low regions r a up at in
    let from : r.start ≤ a = has.1 in
    let count : length p.bytes.now + p.zeros ≡ min most (end_of r - a) = is.count in
    let inside : a + i < end_of r = omega arith in
    let within : i < count_from r a most = omega arith in
    cell_in-at (bytes_in file) regions r (a + i) (region_at-along low regions r a (a + i) up at (omega arith) inside)
    ∙ ap (λ b. Some (b, r.perms.0)) (piece-byte file r.at r.start r.backed a i (count_from r a most) from within)
    ∙ ap (λ l. Some (get_or l i 0, r.perms.0)) (sym is.bytes)
    ∙ ap (λ (q : Perms). Some (get_or p.bytes.now i 0, q.0)) (sym is.perms)

-- the piece that is a whole region
pub whole : (file : List ℕ) (r : Region) (p : Piece) → IsRegion r → r.at + r.backed ≤ length file → IsPieceOf file r r.start r.span p → region_bytes (bytes_in file) r ≡ p.bytes.now ++ zeros p.zeros
whole file r p region fits is =
    let part : r.backed ≤ r.span = region.part in
    let n : min (min r.span (r.start + r.span - r.start)) (r.backed - (r.start - r.start)) ≡ r.backed = omega arith in
    let k : r.at + (r.start - r.start) ≡ r.at = omega arith in
    let bytes : p.bytes.now ≡ take r.backed (drop r.at file) = is.bytes ∙ ap (λ m. take m (drop (r.at + (r.start - r.start)) file)) n ∙ ap (λ m. take r.backed (drop m file)) k in
    let left : length (drop r.at file) ≡ length file - r.at = length-drop r.at file in
    let long : length (take r.backed (drop r.at file)) ≡ r.backed = length-take-le r.backed (drop r.at file) (omega arith) in
    let same : length p.bytes.now ≡ r.backed = ap length bytes ∙ long in
    let count : length p.bytes.now + p.zeros ≡ min r.span (r.start + r.span - r.start) = is.count in
    let rest : r.span - r.backed ≡ p.zeros = omega arith in
    part-and-zeros file r region fits ∙ ap (λ l. l ++ zeros (r.span - r.backed)) (sym bytes) ∙ ap (λ m. p.bytes.now ++ zeros m) rest

pub no-piece : (file : List ℕ) (o : Option Region) (a most : ℕ) → o ≡ None → IsPieceAt file o a most None
no-piece file o a most is = rw is tt

pub ruleset piece_steps = (has-cells, region_at-here, region-at, no-piece)

pub ruleset whole_steps = (whole)
