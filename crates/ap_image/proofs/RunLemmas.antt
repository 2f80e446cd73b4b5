-- Runs of regions: how many there are, which addresses they have, and that they are apart.
use Rattle.std.proofs.Common.{◌≡◌, ℕ, zero, suc, ◌+◌, ◌^◌, ◌≤◌, ◌<◌, ◌&&◌, nat_le, nat_lt, false, if◌then◌else◌, List, [], ◌∷◌, length, get_or, Option, Some, refl, ap, ◌∙◌, arith, inl, inr}
use Rattle.std.proofs.lemmas.Bool.{cases_Bool}
use Rattle.std.proofs.lemmas.Bool.Decides.{nat_tests}
use Rattle.ap_image.specs.declared.plan.Region.{Region}
use Rattle.ap_image.specs.declared.run.Run.{Run}
use Rattle.ap_image.specs.Plans.{AreAscendingFrom, end_of}
use Rattle.ap_image.specs.Runs.{run_of, continues, through, runs_from, runs_of, perms_in, perms_at, AreTwo, AreApartFrom, AreApart}
use Rattle.ap_image.proofs.RegionCells.{ascending-top}

-- no more than the regions
length-runs_from : (run : Run) (regions : List Region) → length (runs_from run regions) ≤ suc (length regions)
length-runs_from run [] = omega arith
length-runs_from run (r ∷ regions) =
    let joined : length (runs_from (through run r) regions) ≤ suc (length regions) = length-runs_from (through run r) regions in
    let alone : length (runs_from (run_of r) regions) ≤ suc (length regions) = length-runs_from (run_of r) regions in
    elim (cases_Bool (continues run r)) [
      | inl on ↦ rw on (omega arith)
      | inr off ↦ rw off (omega arith)
    ]

pub length-runs_of : (regions : List Region) → length (runs_of regions) ≤ length regions
length-runs_of [] = omega arith
length-runs_of (r ∷ regions) = length-runs_from (run_of r) regions

-- a region that goes on where a run ends
pub end-top : (low : ℕ) (regions : List Region) (i : ℕ) (d : Region) → AreAscendingFrom low regions → i < length regions → end_of (get_or regions i d) ≤ 2 ^ 47
end-top low [] i d h l = absurd (omega arith)
end-top low (r ∷ regions) zero d h l = ascending-top (end_of r) regions h.2
end-top low (r ∷ regions) (suc i) d h l = end-top (end_of r) regions i d h.2 (omega arith)

-- a run that goes on through a region has the addresses of both
joined-has : (start len from span : ℕ) (a p q : ℕ) (rest : Option ℕ) → start + len ≡ from → p ≡ q
    → (if nat_le start a && nat_lt a (start + (len + span)) then Some p else rest)
    ≡ (if nat_le start a && nat_lt a (start + len) then Some p else (if nat_le from a && nat_lt a (from + span) then Some q else rest))
joined-has start len from span a p q rest touch same = grind (arith, nat_tests)

perms_in-runs_from : (run : Run) (regions : List Region) (a : ℕ)
    → perms_in (runs_from run regions) a ≡ (if nat_le run.start a && nat_lt a (run.start + run.length) then Some run.perms.0 else perms_at regions a)
perms_in-runs_from run [] a = refl
perms_in-runs_from run (r ∷ regions) a =
    elim (cases_Bool (continues run r)) [
      | inl on ↦ rw on (
          let touch : run.start + run.length ≡ r.start = grind (arith, nat_tests) in
          let same : run.perms.0 ≡ r.perms.0 = grind (arith, nat_tests) in
          perms_in-runs_from (through run r) regions a
          ∙ joined-has run.start run.length r.start r.span a run.perms.0 r.perms.0 (perms_at regions a) touch same)
      | inr off ↦ rw off (ap (λ (o : Option ℕ). if nat_le run.start a && nat_lt a (run.start + run.length) then Some run.perms.0 else o) (perms_in-runs_from (run_of r) regions a))
    ]

-- the runs have the addresses of the regions, with their permissions
pub perms_in-runs_of : (regions : List Region) (a : ℕ) → perms_in (runs_of regions) a ≡ perms_at regions a
perms_in-runs_of [] a = refl
perms_in-runs_of (r ∷ regions) a = perms_in-runs_from (run_of r) regions a

two : (run : Run) (r : Region) → continues run r ≡ false → AreTwo run (run_of r)
two run r off = λ touch same. absurd (grind (arith, nat_tests))

apart-from : (before run : Run) (regions : List Region) → AreTwo before run → AreApartFrom before (runs_from run regions)
apart-from before run [] h = (h, tt)
apart-from before run (r ∷ regions) h =
    elim (cases_Bool (continues run r)) [
      | inl on ↦ rw on (apart-from before (through run r) regions h)
      | inr off ↦ rw off (h, apart-from run (run_of r) regions (two run r off))
    ]

apart-run : (run : Run) (regions : List Region) → AreApart (runs_from run regions)
apart-run run [] = tt
apart-run run (r ∷ regions) =
    elim (cases_Bool (continues run r)) [
      | inl on ↦ rw on (apart-run (through run r) regions)
      | inr off ↦ rw off (apart-from run (run_of r) regions (two run r off))
    ]

pub are_apart : (regions : List Region) → AreApart (runs_of regions)
are_apart [] = tt
are_apart (r ∷ regions) = apart-run (run_of r) regions

pub apart-items : (runs : List Run) (regions : List Region) → runs ≡ runs_of regions → AreApart runs
apart-items runs regions is = rw is (are_apart regions)

pub addresses-items : (runs : List Run) (regions : List Region) → runs ≡ runs_of regions → (a : ℕ) → perms_in runs a ≡ perms_at regions a
addresses-items runs regions is = λ a. rw is (perms_in-runs_of regions a)

pub ruleset run_steps = (apart-items, addresses-items)

pub ruleset run_bounds = (length-runs_of, end-top)
