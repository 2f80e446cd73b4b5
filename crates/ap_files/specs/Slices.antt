-- What is told where bytes in memory are the one file, whose name is empty.
use Rattle.std.specs.Prelude.{ℕ, ◌-◌, ◌^◌, List, []}
use Rattle.std.specs.declared.option.Option.TheVariants.{Some}
use Rattle.std.specs.FinMap as map
use Rattle.ap_files.specs.Files.{FileMap, FileState}

unfoldable pub one_file : List ℕ → FileMap
one_file bytes = map.insert map.empty [] bytes

-- No read has failed, so none fails in a state that is this one again. Of writes and of questions for another file the
-- counts stand at their last value, where each may fail. The file is the unfinished one, so that writes may be asked for.
abbrev pub slice_state : List ℕ → FileState
slice_state bytes =
    record {
      kept = Some (one_file bytes);
      unfinished = Some [];
      read_faults = 0;
      write_faults = 2 ^ 64 - 1;
      absences = 2 ^ 64 - 1;
    }
