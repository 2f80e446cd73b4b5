-- A file becomes one Mach-O file at most.
use Rattle.std.proofs.Common.{◌≡◌, ◌∙◌, ℕ, true, List, Some, sym, ap}
use Rattle.memchr.specs.Find.{Nowhere}
use Rattle.ap_fields.specs.declared.sizes.TheConstants.{WINDOW}
use Rattle.ap_octal.specs.DdEffect.{dd_effect}
use Rattle.ap_octal.specs.DdPlace.{HasDd}
use Rattle.ap_octal.specs.declared.types.DdStatement.{DdStatement}
use Rattle.ap_octal.proofs.DdOnce.{dd-one}
use Rattle.ap_assim.specs.Assimilated.{IsCopied}

pub copied-apart : (file bytes : List ℕ) → Nowhere (HasDd file) 0 WINDOW → IsCopied file bytes → ⊥
copied-apart file bytes none is = none is.dd.at is.first.0.low is.first.0.high (is.dd.size, is.dd.skip, is.dd.count, is.first.1)

some-same : {s t : DdStatement} → Some s ≡ Some t → s ≡ t
some-same e = cc

pub copied-once : (file bytes others : List ℕ) → IsCopied file bytes → IsCopied file others → bytes ≡ others
copied-once file bytes others x y =
    x.effect
    ∙ ap (λ (s : DdStatement). dd_effect true s.size s.skip s.count file file) (some-same (dd-one file (Some x.dd) (Some y.dd) x.first y.first))
    ∙ sym y.effect
