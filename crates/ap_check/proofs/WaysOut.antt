-- What is known of a way out by `?`.
use Rattle.std.proofs.Common.{◌≡◌, Result, Ok, Err, sym, subst}
use Rattle.std.specs.Prelude.{IsErrAnd}
use Rattle.ap_check.specs.declared.end.CheckEnd.{CheckEnd}

pub way_out : {T : Type 0} (P : Result T CheckEnd → Type 0) (result : Result T CheckEnd) (end : CheckEnd) → IsErrAnd result (λ e. e ≡ end) → P (Err end) → P result
way_out P (Ok v) end other h = absurd other
way_out P (Err e) end is h = subst (λ x. P (Err x)) (sym is) h
