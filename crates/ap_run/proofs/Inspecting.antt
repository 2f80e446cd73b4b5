-- What is reported on a file is one answer.
use Rattle.std.proofs.Common.{◌≡◌, ◌∙◌, ℕ, ◌^◌, List, length, inl, inr, sym, ap, arith}
use Rattle.std.specs.Prelude.{Result, Ok, Err, nat_lt}
use Rattle.std.proofs.lemmas.Bool.{cases_Bool}
use Rattle.std.proofs.lemmas.Bool.Decides.{nat_tests}
use Rattle.ap_inspect.proofs.OneReport.{one-report}
use Rattle.ap_run.specs.declared.end.ReadingFault.{ReadingFault}
use Rattle.ap_run.specs.Inspected.{Inspected, ReportsTo}

reports-one : (file : List ℕ) (x y : Result (List ℕ) ReadingFault) → ReportsTo file x → ReportsTo file y → x ≡ y
reports-one file (Ok s) (Ok t) h k = ap (λ (l : List ℕ). Ok l) (one-report file s t h k)
reports-one file (Ok s) (Err f) h k = absurd k
reports-one file (Err f) y h k = absurd h

pub one-inspected : (file : List ℕ) (x y : Result (List ℕ) ReadingFault) → Inspected file x → Inspected file y → x ≡ y
one-inspected file x y h k = elim (cases_Bool (nat_lt (2 ^ 30) (length file))) [
  | inl large ↦ h.large (grind (arith, nat_tests)) ∙ sym (k.large (grind (arith, nat_tests)))
  | inr small ↦ reports-one file x y (h.read (grind (arith, nat_tests))) (k.read (grind (arith, nat_tests)))
]
