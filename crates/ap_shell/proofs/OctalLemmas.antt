-- The bytes that a text stands for, where its front was read.
use Rattle.std.proofs.Common.{◌≡◌, refl, ℕ, List, length}
use Rattle.std.specs.Prelude.{Option, Some, None}
use Rattle.ap_octal.specs.OctalReading.{octal_bytes_of}
use Rattle.ap_octal.specs.OctalSteps.{IsNoOctal, Splits}
use Rattle.ap_octal.proofs.OctalSplits.{whole}
use Rattle.ap_octal.proofs.OctalReads.{octal_bytes_of-some, octal_bytes_of-back}

none_by : (o : Option (List ℕ)) → ((bytes : List ℕ) → o ≡ Some bytes → ⊥) → o ≡ None
none_by None never = refl
none_by (Some bytes) never = absurd (never bytes refl)

pub octal_none : (text front rest : List ℕ) → Splits text front rest → IsNoOctal rest → octal_bytes_of text ≡ None
octal_none text front rest splits never =
    none_by (octal_bytes_of text) (λ bytes is.
    let back = splits.back bytes (octal_bytes_of-back text bytes is) in
    never back.0 back.2)

pub octal_some : (text front rest : List ℕ) → Splits text front rest → length rest ≡ 0 → octal_bytes_of text ≡ Some front
octal_some text front rest splits none = octal_bytes_of-some text front (whole text rest front splits none)
