-- The digits of a delimiter, from the last one on.
use Rattle.std.proofs.Common.{◌≡◌, ℕ, suc, ◌+◌, ◌-◌, ◌/◌, ◌%◌, ◌<◌, ◌≤◌, List, [], ◌∷◌, ◌++◌, length, drop, sym, ap, ◌∙◌, arith, append_assoc}
use Rattle.std.specs.Prelude.{slice_set}
use Rattle.std.proofs.lemmas.List.{drop-set}
use Rattle.ap_script.specs.Delimiter.{digits_of}

digits_of-next : (n m rest : ℕ) (more : List ℕ) → n ≡ suc m → digits_of m (rest / 10) ++ (48 + rest % 10) ∷ more ≡ digits_of n rest ++ more
digits_of-next n m rest more is = rw is (sym (append_assoc (digits_of m (rest / 10)) ((48 + rest % 10) ∷ []) more))

-- one digit more is written in front of those that stand
pub digits-written : (word all : List ℕ) (at rest : ℕ) → 7 < at → at ≤ length word → digits_of (at - 7) rest ++ drop at word ≡ all
    → digits_of (at - 1 - 7) (rest / 10) ++ drop (at - 1) (slice_set word (at - 1) (48 + rest % 10)) ≡ all
digits-written word all at rest low high is =
    let there : at - 1 + 1 ≡ at = omega arith in
    ap (λ d. digits_of (at - 1 - 7) (rest / 10) ++ d) (drop-set word (at - 1) (48 + rest % 10) (omega arith) ∙ ap (λ k. (48 + rest % 10) ∷ drop k word) there)
    ∙ digits_of-next (at - 7) (at - 1 - 7) rest (drop at word) (omega arith)
    ∙ is
