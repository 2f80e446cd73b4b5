-- What a sink in memory is, and which of its writes fail.
use Rattle.std.specs.Prelude.{◌≡◌, ℕ, ◌+◌, Bool, ◌||◌, not, nat_le, List, [], length, refl}
use Rattle.std.specs.Coded.{Coded, code_by, coded×, coded_ℕ, coded_list, coded_option}
use Rattle.std.specs.declared.option.Option.{Option}
use Rattle.std.specs.declared.option.Option.TheVariants.{Some, None}
use Rattle.ap_files.specs.Sinks.{SinkState}
use Rattle.ap_files.specs.Calls.{Numbering, numbering_code, first_numbering, is_due, after_call}

pub record Gathered : Type 0 where
  -- the bytes written so far
  pub written : List ℕ
  -- the most bytes that may be written in all
  pub room : ℕ
  pub faults : ℕ
  -- which writes fail
  pub calls : Numbering
  -- the most bytes that one write takes, and none where it takes whole pieces
  pub most : Option ℕ

-- the same, as nested pairs, by which a proof tells two of them apart
abbrev pub gathered_code : Coded Gathered
gathered_code =
    code_by (List ℕ × (ℕ × (ℕ × (Numbering × Option ℕ))))
    (coded× (coded_list coded_ℕ) (coded× coded_ℕ (coded× coded_ℕ (coded× numbering_code (coded_option coded_ℕ)))))
    (λ g. (g.written, (g.room, (g.faults, (g.calls, g.most)))))
    (λ p. record { written = p.0; room = p.1.0; faults = p.1.1.0; calls = p.1.1.1.0; most = p.1.1.1.1 })
    (λ _. refl)

-- what the trait sees: the written bytes are told
abbrev pub sink_state_of : Gathered → SinkState
sink_state_of g = record { written = Some g.written; faults = g.faults }

-- nothing is written, and writes with these numbers fail
abbrev pub empty_sink : ℕ → List ℕ → Gathered
empty_sink room failing = record { written = []; room = room; faults = 0; calls = first_numbering failing; most = None }

-- a write is counted, and the room and what a write takes stay
pub record CountsWrite (old new : Gathered) : Type 0 where
  pub calls : new.calls ≡ after_call old.calls
  pub room : new.room ≡ old.room
  pub most : new.most ≡ old.most

-- the next write fails, where its piece has this size, which counts whole against the room
abbrev pub is_write_failing : Gathered → ℕ → Bool
is_write_failing g size = is_due g.calls || not (nat_le (length g.written + size) g.room)
