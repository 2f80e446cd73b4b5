-- The least number that passes a test.
use Rattle.std.proofs.Common.{◌≡◌, ℕ, zero, suc, ◌+◌, List, Bool, true, false, cond, refl, ap}
use Rattle.std.specs.Prelude.{not}
use Rattle.ap_script.specs.Delimiter.{delimiter, delimiter_number, stands_in, without_nul, least_from}

pub least_from-next : (n k m : ℕ) (test : ℕ → Bool) → n ≡ suc m → test k ≡ false → least_from n test k ≡ least_from m test (k + 1)
unfolding least_from
least_from-next n k m test is h = rw is (ap (λ b. cond b k (least_from m test (k + 1))) h)

pub least_from-now : (n k : ℕ) (test : ℕ → Bool) → test k ≡ true → least_from n test k ≡ k
unfolding least_from
least_from-now zero k test h = refl
least_from-now (suc n) k test h = ap (λ b. cond b k (least_from n test (k + 1))) h

pub least_from-none : (n k : ℕ) (test : ℕ → Bool) → n ≡ 0 → least_from n test k ≡ k
unfolding least_from
least_from-none n k test is = rw is refl

pub delimiter_number-is : (body : List ℕ) → delimiter_number body ≡ least_from 8192 (λ k. not (stands_in (delimiter k) (without_nul body))) 0
unfolding delimiter_number
delimiter_number-is body = refl
