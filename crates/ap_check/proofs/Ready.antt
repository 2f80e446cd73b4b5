-- What a job is known for, where it is for Windows.
use Rattle.std.proofs.Common.{◌≡◌, ℕ, true, List, Option, Some, None}
use Rattle.std.specs.Prelude.{IsSomeAnd}
use Rattle.ap_check.specs.declared.options.Options.{Options}
use Rattle.ap_check.specs.Options.{for_windows}
use Rattle.ap_check.specs.Inputs.{Taken}
use Rattle.ap_check.specs.Windows.{x64_of, MeetsWindows, IsReady, AreReady}

some-meets : (at : ℕ) (o : Option Taken) → IsSomeAnd o (IsReady at) → IsSomeAnd o MeetsWindows
some-meets at None h = absurd h
some-meets at (Some e) h = h.meets

-- its input for x86-64 meets what Windows asks
pub ready-inputs : (options : Options) (inputs : List Taken) (at : ℕ) → (for_windows options ≡ true → IsSomeAnd (x64_of inputs) (IsReady at)) → AreReady options inputs
ready-inputs options inputs at h = λ chosen. some-meets at (x64_of inputs) (h chosen)
