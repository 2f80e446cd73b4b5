-- The fields of a structure are read as they were written.
use Rattle.std.proofs.Common.{◌≡◌, ℕ, ◌+◌, ◌-◌, ◌^◌, ◌<◌, ◌≤◌, true, nat_le, List, [], ◌∷◌, ◌++◌, length, subst, arith, length-append}
use Rattle.std.proofs.lemmas.Bool.{and_parts, leb-true}
use Rattle.ap_fields.specs.Bytes.{Holds, zeros}
use Rattle.ap_fields.specs.Fields.{bytes_of}
use Rattle.ap_fields.specs.Structures.{Rows, value_at, structure, in_order}
use Rattle.ap_fields.proofs.Numbers.{length-bytes_of}
use Rattle.ap_fields.proofs.Bytes.{length-zeros, holds-front, holds-behind, number_at-holds}

-- each field has its number, if that has the field's width
abbrev pub FieldsHeld : List ℕ → ℕ → Rows → Type 0
FieldsHeld w at [] = Unit {0}
FieldsHeld w at (r ∷ rows) = (r.1 < 256 ^ r.0.1 → value_at r.0 at w ≡ r.1) × FieldsHeld w at rows

fields-from : (w : List ℕ) (at n from : ℕ) (rows : Rows) → in_order n from rows ≡ true → Holds w (at + from) (structure n from rows) → FieldsHeld w at rows
fields-from w at n from [] order held = tt
fields-from w at n from (r ∷ rows) order held =
    let place : ℕ = r.0.0 in
    let width : ℕ = r.0.1 in
    let more : List ℕ = structure n (place + width) rows in
    let both = and_parts (nat_le from place) (in_order n (place + width) rows) order in
    let low : from ≤ place = leb-true from place both.0 in
    let rest : Holds w (at + place) (bytes_of width r.1 ++ more) =
    holds-behind w (at + from) (at + place) (zeros (place - from)) (bytes_of width r.1 ++ more) (let l = length-zeros (place - from) in omega arith) held in (
      λ small. number_at-holds width r.1 (at + place) w small (holds-front w (at + place) (bytes_of width r.1) more rest),
      fields-from w at n (place + width) rows both.1
          (holds-behind w (at + place) (at + (place + width)) (bytes_of width r.1) more (let l = length-bytes_of width r.1 in omega arith) rest),
    )

-- what a file that holds a structure has in its fields
pub fields-held : (w : List ℕ) (at n : ℕ) (rows : Rows) → in_order n 0 rows ≡ true → Holds w at (structure n 0 rows) → FieldsHeld w at rows
fields-held w at n rows order held =
    let e : at ≡ at + 0 = omega arith in
    fields-from w at n 0 rows order (subst (λ k. Holds w k (structure n 0 rows)) e held)

length-from : (n from : ℕ) (rows : Rows) → in_order n from rows ≡ true → from + length (structure n from rows) ≡ n
length-from n from [] order =
    let low : from ≤ n = leb-true from n order in
    let l = length-zeros (n - from) in
    omega arith
length-from n from (r ∷ rows) order =
    let place : ℕ = r.0.0 in
    let width : ℕ = r.0.1 in
    let more : List ℕ = structure n (place + width) rows in
    let both = and_parts (nat_le from place) (in_order n (place + width) rows) order in
    let low : from ≤ place = leb-true from place both.0 in
    let l1 = length-zeros (place - from) in
    let l2 = length-bytes_of width r.1 in
    let l3 = length-from n (place + width) rows both.1 in
    let l4 = length-append (zeros (place - from)) (bytes_of width r.1 ++ more) in
    let l5 = length-append (bytes_of width r.1) more in
    omega arith

pub length-structure : (n : ℕ) (rows : Rows) → in_order n 0 rows ≡ true → length (structure n 0 rows) ≡ n
length-structure n rows order = let l = length-from n 0 rows order in omega arith
