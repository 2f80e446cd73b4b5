-- A line that is written to a sink.
use Rattle.std.specs.Prelude.{◌≡◌, ◌⊎◌, ℕ, List, Option, Some, None}
use Rattle.ap_files.specs.Sinks.{SinkState}
use Rattle.ap_files.specs.Prints.{Written, Broken}

-- a line is reported, where there is one, or a front of it where a write failed
abbrev pub Reports : SinkState → SinkState → Option (List ℕ) → Type 0
Reports old new None = new ≡ old
Reports old new (Some line) = Written old new line ⊎ Broken old new line
