-- What is known of the machine's files and streams: how many calls failed, and nothing of the bytes.
use Rattle.std.specs.Prelude.{ℕ}
use Rattle.std.specs.declared.option.Option.TheVariants.{None}
use Rattle.ap_files.specs.Files.{FileState}
use Rattle.ap_files.specs.Sinks.{SinkState}

pub record Faults : Type 0 where
  pub read_faults : ℕ
  pub write_faults : ℕ

abbrev pub no_faults : Faults
no_faults = record { read_faults = 0; write_faults = 0 }

-- no file is told, and no absence is counted
abbrev pub untold_files : Faults → FileState
untold_files f =
    record {
      kept = None;
      unfinished = None;
      read_faults = f.read_faults;
      write_faults = f.write_faults;
      absences = 0;
    }

-- nothing is told of what was written
abbrev pub untold_stream : ℕ → SinkState
untold_stream faults = record { written = None; faults = faults }
