-- How a command that makes a file of a file ends. It prints nothing.
use Rattle.std.specs.Prelude.{◌≡◌, ℕ, List, Ok, Err, Some}
use Rattle.ap_files.specs.Files.{FileState}
use Rattle.ap_files.specs.Appends.{IsMade, Makes}
use Rattle.ap_files.specs.declared.failure.FileFault.TheVariants as file
use Rattle.ap_files.specs.Reads as reads
use Rattle.ap_run.specs.declared.end.Cause.{Cause}
use Rattle.ap_run.specs.declared.end.Cause.TheVariants.{Done, Refused, Unread, Usage, Unbuilt, ReadFault, WriteFault, OutFault, NoMemory}
use Rattle.ap_run.specs.Shows.{IsShown}
use Rattle.ap_run.specs.Whole.{Telling}

-- How it ends by its cause, where a relation tells what is made of a file. Where it doesn't say otherwise, no file and no count
-- changes.
abbrev pub WriteEnds : FileState → FileState → Telling → List ℕ → List ℕ → Cause → Type 0
WriteEnds old new P name out Done = (bytes : List ℕ) × IsMade old new out bytes × IsShown old P name (Ok bytes)
WriteEnds old new P name out WriteFault = (bytes : List ℕ) × Makes old new out bytes (Some file.Write) × IsShown old P name (Ok bytes)
WriteEnds old new P name out (Unread fault) = (new ≡ old) × IsShown old P name (Err fault)
WriteEnds old new P name out ReadFault = reads.Unread old new name
WriteEnds old new P name out NoMemory = new ≡ old
WriteEnds old new P name out (Refused fault) = ⊥
WriteEnds old new P name out Usage = ⊥
WriteEnds old new P name out (Unbuilt word) = ⊥
WriteEnds old new P name out OutFault = ⊥
