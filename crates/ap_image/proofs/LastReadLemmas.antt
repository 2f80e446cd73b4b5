-- A byte of the part that was read last.
use Rattle.std.proofs.Common.{◌≡◌, ℕ, zero, suc, ◌+◌, ◌-◌, ◌<◌, ◌≤◌, List, ◌++◌, length, replicate, take, drop, get_or, slice_index, sym, ap, ◌∙◌, arith}
use Rattle.std.proofs.lemmas.List.{get_or-take, get_or-drop, drop_more, length-take-le, length-replicate}

pub part-byte : (file bytes : List ℕ) (from count at : ℕ) → take count bytes ≡ take count (drop from file) → from ≤ at → at - from < count → get_or bytes (at - from) 0 ≡ slice_index file at
part-byte file bytes from count at e low l =
    let place : from + (at - from) ≡ at = omega arith in
    sym (get_or-take count bytes (at - from) 0 l) ∙ ap (λ x. get_or x (at - from) 0) e ∙ get_or-take count (drop from file) (at - from) 0 l
    ∙ get_or-drop from file (at - from) 0 ∙ ap (slice_index file) place

-- the first byte of a part that is read, where the bytes behind it are others
pub first-byte : (file buffer rest : List ℕ) (n at : ℕ) → 0 < n → at < length file → buffer ≡ take n (drop at file) → get_or (buffer ++ rest) 0 0 ≡ slice_index file at
first-byte file buffer rest zero at some l e = absurd (omega arith)
first-byte file buffer rest (suc n) at some l e =
    ap (λ x. get_or (x ++ rest) 0 0) e ∙ ap (λ x. get_or (take (suc n) x ++ rest) 0 0) (drop_more file at 0 l)

-- a part of a room
pub room-part : (n k : ℕ) → 0 < n → n ≤ k → 0 < length (take n (replicate {A = ℕ} k 0))
room-part n k some least =
    let room : List ℕ = replicate k 0 in
    let all : length room ≡ k = length-replicate k 0 in
    let long : length (take n room) ≡ n = length-take-le n room (omega arith) in
    omega arith

pub ruleset part_steps = (part-byte)
