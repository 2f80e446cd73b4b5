-- What a file holds once its first bytes are replaced.
use Rattle.std.proofs.Common.{◌≡◌, ℕ, ◌+◌, ◌-◌, ◌≤◌, List, length, drop, slice_index, refl, ap, ◌∙◌, arith, length-append, length-drop}
use Rattle.std.proofs.lemmas.List.{get_or-drop, get_or-append_right}
use Rattle.ap_fields.specs.Bytes.{Holds, over}

pub length-over : (file bytes : List ℕ) → length bytes ≤ length file → length (over file bytes) ≡ length file
length-over file bytes fits = length-append bytes (drop (length bytes) file) ∙ (let l = length-drop (length bytes) file in omega arith)

-- a file whose first bytes are replaced holds what stood behind them
pub over-holds : (file front : List ℕ) (at : ℕ) (bytes : List ℕ) → length front ≤ at → length front ≤ length file → Holds file at bytes → Holds (over file front) at bytes
over-holds file front at bytes past fits h =
    let long = length-over file front fits in
    let inside = h.fits in
    record {
      fits = omega arith;
      same = λ k l.
          let n : ℕ = length front in
          let back : n + (at + k - n) ≡ at + k = omega arith in
          get_or-append_right front (drop n file) n (at + k) 0 refl (omega arith)
          ∙ get_or-drop n file (at + k - n) 0
          ∙ ap (slice_index file) back
          ∙ h.same k l;
    }
