-- A text that is written to a sink.
use Rattle.std.specs.Prelude.{◌≡◌, ℕ, List, ◌++◌, take, Result, Ok, Err}
use Rattle.std.specs.Option.{option_map}
use Rattle.ap_files.specs.Files.{Rose}
use Rattle.ap_files.specs.Sinks.{SinkState}
use Rattle.ap_files.specs.declared.failure.Failed.{Failed}

-- a sink has gained bytes, behind those written before
abbrev pub Gains : SinkState → SinkState → List ℕ → Type 0
Gains old new bytes = new.written ≡ option_map (λ w. w ++ bytes) old.written

-- all of a text is written, and no write failed
pub record Written (old new : SinkState) (text : List ℕ) : Type 0 where
  pub bytes : Gains old new text
  pub faults : new.faults ≡ old.faults

-- a front of a text is written, and a write failed
pub record Broken (old new : SinkState) (text : List ℕ) : Type 0 where
  pub front : (n : ℕ) × Gains old new (take n text)
  pub rose : Rose old.faults new.faults

-- a text is printed
abbrev pub Prints : SinkState → SinkState → List ℕ → Result (Unit {0}) Failed → Type 0
Prints old new text (Ok done) = Written old new text
Prints old new text (Err failed) = Broken old new text
