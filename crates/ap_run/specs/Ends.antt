-- How a run ends.
use Rattle.std.specs.Prelude.{◌≡◌, ℕ, ◌^◌, ◌-◌, ◌<◌, ◌⊎◌, List, Result, Ok, Err, Some, None, Option}
use Rattle.ap_files.specs.Files.{FileMap, FileState, ForFile}
use Rattle.ap_check.specs.declared.fault.Fault.{Fault}
use Rattle.ap_check.specs.declared.options.Options.{Options}
use Rattle.ap_check.specs.Rules.{first_fault_of}
use Rattle.ap_check.specs.Both.{first_fault_of_both}
use Rattle.ap_link.specs.declared.end.LinkEnd.{LinkEnd}
use Rattle.ap_link.specs.declared.end.LinkEnd.TheVariants as end
use Rattle.ap_link.specs.FileAnswers.{LinksFiles}
use Rattle.ap_files.specs.Sinks.{SinkState}
use Rattle.ap_words.specs.declared.command.Command.{Command}
use Rattle.ap_words.specs.declared.command.Command.TheVariants.{Link, Load, Map, Script, Assimilate, Inspect, Trial, Bind, Bundle, Stack, Audit}
use Rattle.ap_words.specs.declared.word.Word.TheVariants as word
use Rattle.ap_words.specs.Meaning.{command_of}
use Rattle.ap_run.specs.Links.{LinkNames, link_names, options_of}
use Rattle.ap_run.specs.Views.{load_format, map_format}
use Rattle.ap_run.specs.Scripted.{Scripted}
use Rattle.ap_run.specs.Inspected.{Inspected}
use Rattle.ap_run.specs.Shows.{Ends, ShowsBy}
use Rattle.ap_run.specs.Dumps.{DumpEnds, dumped_in}
use Rattle.ap_run.specs.Writes.{WriteEnds}
use Rattle.ap_run.specs.Assimilates.{Assimilated}
use Rattle.ap_run.specs.Trials.{TrialEnds}
use Rattle.ap_run.specs.Whole.{Telling}
use Rattle.ap_run.specs.declared.format.Format.{Format}
use Rattle.ap_run.specs.declared.end.ReadingFault.{ReadingFault}
use Rattle.ap_run.specs.declared.end.Cause.{Cause}
use Rattle.ap_run.specs.declared.end.Cause.TheVariants.{Done, Refused, Unread, Usage, Unbuilt, ReadFault, WriteFault, OutFault, NoMemory}

abbrev pub status_of : Cause → ℕ
status_of Done = 0
status_of (Refused fault) = 1
status_of (Unread fault) = 1
status_of Usage = 2
status_of (Unbuilt word) = 2
status_of ReadFault = 3
status_of WriteFault = 4
status_of OutFault = 4
status_of NoMemory = 5

-- how a link of files answers, by what its words name
abbrev pub LinkAnswered : FileState → FileState → LinkNames → Result ℕ LinkEnd → Type 0
LinkAnswered old new names answer = LinksFiles (options_of names) old new names.first names.second names.out answer

-- how a link ends, by its cause
abbrev pub LinkEnds : FileState → FileState → LinkNames → Cause → Type 0
LinkEnds old new names Done = (size : ℕ) × LinkAnswered old new names (Ok size)
LinkEnds old new names (Refused fault) = LinkAnswered old new names (Err (end.Rule fault))
LinkEnds old new names (Unread fault) = ⊥
LinkEnds old new names Usage = ⊥
LinkEnds old new names (Unbuilt word) = ⊥
LinkEnds old new names ReadFault = LinkAnswered old new names (Err end.ReadFault)
LinkEnds old new names WriteFault = LinkAnswered old new names (Err end.WriteFault)
LinkEnds old new names OutFault = ⊥
LinkEnds old new names NoMemory = new ≡ old

-- how a view ends, without an image file or with one
abbrev pub ViewEnds : FileState → FileState → SinkState → SinkState → Format → List ℕ → Option (List ℕ) → Cause → Type 0
ViewEnds old new before after format file None cause = Ends old new before after (ShowsBy format) file cause
ViewEnds old new before after format file (Some image) cause = DumpEnds old new before after format file image cause

-- no file, no count and no sink changes, and the cause is this one, unless memory runs out
abbrev pub StaysFor : FileState → FileState → SinkState → SinkState → Cause → Cause → Type 0
StaysFor old new before after expected cause = ((cause ≡ expected) ⊎ (cause ≡ NoMemory)) × (new ≡ old) × (after ≡ before)

-- How each command ends; one that makes a file alone prints nothing.
abbrev pub CommandEnds : FileState → FileState → SinkState → SinkState → Command → Cause → Type 0
CommandEnds old new before after (Link out options names) cause = LinkEnds old new (link_names out options names) cause × (after ≡ before)
CommandEnds old new before after (Load machine page dump file) cause = ViewEnds old new before after (load_format machine page) file dump cause
CommandEnds old new before after (Map form machine page imports file) cause =
    ViewEnds old new before after (map_format form machine page imports) file None cause
CommandEnds old new before after (Script system machine ape nul file) cause =
    Ends old new before after (Scripted (record { system = system; machine = machine; ape = ape; nul = nul; file = file })) file cause
CommandEnds old new before after (Assimilate form machine out file) cause =
    WriteEnds old new (Assimilated form machine) file out cause × (after ≡ before)
CommandEnds old new before after (Inspect file) cause = Ends old new before after Inspected file cause
CommandEnds old new before after (Trial number pages) cause = (new ≡ old) × TrialEnds before after number pages cause
CommandEnds old new before after (Bind base out file) cause = StaysFor old new before after (Unbuilt word.Bind) cause
CommandEnds old new before after (Bundle out app x64 a64) cause = StaysFor old new before after (Unbuilt word.Bundle) cause
CommandEnds old new before after (Stack machine page out file words) cause = StaysFor old new before after (Unbuilt word.Stack) cause
CommandEnds old new before after (Audit file) cause = StaysFor old new before after (Unbuilt word.Audit) cause

-- how a run ends, by the command that its words are, where they are one
abbrev pub EndsBy : FileState → FileState → SinkState → SinkState → Option Command → Cause → Type 0
EndsBy old new before after (Some command) cause = CommandEnds old new before after command cause
EndsBy old new before after None cause = StaysFor old new before after Usage cause

abbrev pub RunEnds : FileState → FileState → SinkState → SinkState → List (List ℕ) → Cause → Type 0
RunEnds old new before after words cause = EndsBy old new before after (command_of words) cause

-- a count stands, and is below its last value
abbrev pub Stands : ℕ → ℕ → Type 0
Stands before now = (now ≡ before) × (before < 2 ^ 64 - 1)

-- where files are told and the second input is there, where there is one, its bytes have a property
abbrev pub ForSecond : Option FileMap → Option (List ℕ) → (Option (List ℕ) → Type 0) → Type 0
ForSecond kept None P = P None
ForSecond kept (Some name) P = ForFile kept name (λ b. P (Some b))

-- a link is refused for this fault, where there is one
abbrev pub RefusedFor : Option Fault → Cause → Type 0
RefusedFor first cause = (fault : Fault) → first ≡ Some fault → (cause ≡ Refused fault) ⊎ (cause ≡ NoMemory)

-- it is done where there is none
abbrev pub DoneWithout : Option Fault → Cause → Type 0
DoneWithout first cause = first ≡ None → (cause ≡ Done) ⊎ (cause ≡ NoMemory)

-- what is said of a link of these inputs that meets no fault of the files
abbrev pub BothComplete : Options → Cause → List ℕ → Option (List ℕ) → Type 0
BothComplete options cause a b = DoneWithout (first_fault_of_both options a b) cause × RefusedFor (first_fault_of_both options a b) cause

-- Where the inputs are told and no read or write failed, a link is done exactly where all rules hold, and else refused for the
-- first that doesn't, unless memory runs out. Where input 1 breaks a rule, input 2 needn't be there.
abbrev pub LinkComplete : FileState → FileState → LinkNames → Cause → Type 0
LinkComplete old new names cause =
    Stands old.read_faults new.read_faults → Stands old.write_faults new.write_faults → ForFile old.kept names.first (λ a.
    RefusedFor (first_fault_of 1 a) cause × ForSecond old.kept names.second (BothComplete (options_of names) cause a))

-- A file that a relation refuses is unread for that fault, and the work is done where it makes something of the file and no
-- print failed.
abbrev pub AnswersBy : {T : Type 0} → SinkState → SinkState → Cause → (Result T ReadingFault → Type 0) → Type 0
AnswersBy {T} before after cause P =
    ((fault : ReadingFault) → P (Err fault) → (cause ≡ Unread fault) ⊎ (cause ≡ NoMemory))
    × ((made : T) → P (Ok made) → Stands before.faults after.faults → (cause ≡ Done) ⊎ (cause ≡ NoMemory))

-- by the text, or by the text and the image file
abbrev pub ViewAnswers : SinkState → SinkState → Cause → Format → Option (List ℕ) → List ℕ → Type 0
ViewAnswers before after cause format None file = AnswersBy before after cause (ShowsBy format file)
ViewAnswers before after cause format (Some image) file = AnswersBy before after cause (λ dumped. dumped_in format file ≡ dumped)

-- Where the file is told and no read or write failed, a view is refused exactly where the format refuses the file, and done
-- where it doesn't and no print failed, unless memory runs out.
abbrev pub ViewComplete : FileState → FileState → SinkState → SinkState → Format → List ℕ → Option (List ℕ) → Cause → Type 0
ViewComplete old new before after format file dump cause =
    Stands old.read_faults new.read_faults → Stands old.write_faults new.write_faults → ForFile old.kept file (ViewAnswers before after cause format dump)

-- so is a command that shows a file by a relation that has a text for it
abbrev pub ShowComplete : FileState → FileState → SinkState → SinkState → Telling → List ℕ → Cause → Type 0
ShowComplete old new before after P name cause =
    Stands old.read_faults new.read_faults → Stands old.write_faults new.write_faults → ForFile old.kept name (λ file. AnswersBy before after cause (P file))

-- A file of which another is made: the cause is its fault exactly where a relation refuses it, and Done where it makes something
-- of it, unless memory runs out.
abbrev pub MadeBy : Cause → (Result (List ℕ) ReadingFault → Type 0) → Type 0
MadeBy cause P =
    ((fault : ReadingFault) → P (Err fault) → (cause ≡ Unread fault) ⊎ (cause ≡ NoMemory))
    × ((bytes : List ℕ) → P (Ok bytes) → (cause ≡ Done) ⊎ (cause ≡ NoMemory))

abbrev pub WriteComplete : FileState → FileState → Telling → List ℕ → Cause → Type 0
WriteComplete old new P name cause =
    Stands old.read_faults new.read_faults → Stands old.write_faults new.write_faults → ForFile old.kept name (λ file. MadeBy cause (P file))

-- a trial is done where no print failed, unless memory runs out
abbrev pub TrialComplete : SinkState → SinkState → Cause → Type 0
TrialComplete before after cause = Stands before.faults after.faults → (cause ≡ Done) ⊎ (cause ≡ NoMemory)

-- What each command answers where no file is missing and no call fails; of one that isn't built yet nothing more is said.
abbrev pub CommandComplete : FileState → FileState → SinkState → SinkState → Command → Cause → Type 0
CommandComplete old new before after (Link out options names) cause = LinkComplete old new (link_names out options names) cause
CommandComplete old new before after (Load machine page dump file) cause = ViewComplete old new before after (load_format machine page) file dump cause
CommandComplete old new before after (Map form machine page imports file) cause =
    ViewComplete old new before after (map_format form machine page imports) file None cause
CommandComplete old new before after (Script system machine ape nul file) cause =
    ShowComplete old new before after (Scripted (record { system = system; machine = machine; ape = ape; nul = nul; file = file })) file cause
CommandComplete old new before after (Assimilate form machine out file) cause = WriteComplete old new (Assimilated form machine) file cause
CommandComplete old new before after (Inspect file) cause = ShowComplete old new before after Inspected file cause
CommandComplete old new before after (Trial number pages) cause = TrialComplete before after cause
CommandComplete old new before after (Bind base out file) cause = Unit {0}
CommandComplete old new before after (Bundle out app x64 a64) cause = Unit {0}
CommandComplete old new before after (Stack machine page out file words) cause = Unit {0}
CommandComplete old new before after (Audit file) cause = Unit {0}

abbrev pub CompleteBy : FileState → FileState → SinkState → SinkState → Option Command → Cause → Type 0
CompleteBy old new before after (Some command) cause = CommandComplete old new before after command cause
CompleteBy old new before after None cause = Unit {0}

abbrev pub IsComplete : FileState → FileState → SinkState → SinkState → List (List ℕ) → Cause → Type 0
IsComplete old new before after words cause = CompleteBy old new before after (command_of words) cause
