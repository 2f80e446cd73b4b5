-- How a trial ends.
use Rattle.std.specs.Prelude.{◌≡◌, ℕ, List}
use Rattle.ap_files.specs.Sinks.{SinkState}
use Rattle.ap_trial.specs.Trials.{IsTrial}
use Rattle.ap_run.specs.declared.end.Cause.{Cause}
use Rattle.ap_run.specs.declared.end.Cause.TheVariants.{NoMemory}
use Rattle.ap_run.specs.Shows.{Printed}

-- The summary of a trial is printed, or a front of it where a write failed.
abbrev pub TrialEnds : SinkState → SinkState → ℕ → ℕ → Cause → Type 0
TrialEnds before after number pages NoMemory = after ≡ before
TrialEnds before after number pages cause = (text : List ℕ) × IsTrial number pages text × Printed before after text cause
