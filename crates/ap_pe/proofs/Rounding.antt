-- Rounding to 4096 and to 512.
use Rattle.std.proofs.Common.{◌≡◌, ℕ, ◌+◌, ◌-◌, ◌%◌, ◌<◌, ◌≤◌, ◌∙◌, arith, ap}
use Rattle.std.proofs.lemmas.Bool.Decides.{nat_tests}
use Rattle.ap_fields.specs.Granules.{floor_of, ceil_of}

-- what is known of a load's granules and of the bytes that its section shows, by its address and its sizes
pub record Rounded (v f m : ℕ) : Type 0 where
  pub sum : floor_of v 4096 + v % 4096 ≡ v
  pub small : v % 4096 < 4096
  pub start : floor_of v 4096 % 4096 ≡ 0
  pub stop : ceil_of (v + m) 4096 % 4096 ≡ 0
  pub above : v + m ≤ ceil_of (v + m) 4096
  pub extent : ceil_of (v + m - floor_of v 4096) 4096 ≡ ceil_of (v + m) 4096 - floor_of v 4096
  pub raw_least : v % 4096 + f ≤ ceil_of (v % 4096 + f) 512
  pub raw_most : ceil_of (v % 4096 + f) 512 ≤ ceil_of (v % 4096 + f) 4096
  pub raw_within : f ≤ m → floor_of v 4096 + ceil_of (v % 4096 + f) 4096 ≤ ceil_of (v + m) 4096

ceil-apart : (v n : ℕ) → ceil_of (v + n) 4096 ≡ floor_of v 4096 + ceil_of (v % 4096 + n) 4096
ceil-apart v n = grind (arith, nat_tests)

ceil-grows : (a b : ℕ) → a ≤ b → ceil_of a 4096 ≤ ceil_of b 4096
ceil-grows a b h = grind (arith, nat_tests)

ceil-two : (a : ℕ) → ceil_of a 512 ≤ ceil_of a 4096
ceil-two a =
    let h : a ≤ ceil_of a 4096 = omega arith in
    let e : ceil_of a 4096 % 512 ≡ 0 = omega arith in
    omega arith

pub rounded : (v f m : ℕ) → Rounded v f m
rounded v f m =
    let sum : floor_of v 4096 + v % 4096 ≡ v = omega arith in
    let apart : ceil_of (v + m) 4096 ≡ floor_of v 4096 + ceil_of (v % 4096 + m) 4096 = ceil-apart v m in
    let same : v + m - floor_of v 4096 ≡ v % 4096 + m = omega arith in
    record {
      sum = sum;
      small = omega arith;
      start = omega arith;
      stop = omega arith;
      above = omega arith;
      extent = ap (λ n. ceil_of n 4096) same ∙ omega arith;
      raw_least = omega arith;
      raw_most = ceil-two (v % 4096 + f);
      raw_within = λ h. let g = ceil-grows (v % 4096 + f) (v % 4096 + m) (omega arith) in omega arith;
    }

-- the gap between two multiples
pub gap-extent : (from to : ℕ) → from % 4096 ≡ 0 → to % 4096 ≡ 0 → from ≤ to → ceil_of (to - from) 4096 ≡ to - from
gap-extent from to a b h = omega arith
