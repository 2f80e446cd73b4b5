-- How a command that shows a file ends.
use Rattle.std.specs.Prelude.{◌≡◌, ℕ, List, Vec, Result, Ok, Err}
use Rattle.std.specs.declared.alloc.Global.{Global}
use Rattle.ap_files.specs.Files.{FileState}
use Rattle.ap_files.specs.Sinks.{SinkState}
use Rattle.ap_files.specs.Reads as reads
use Rattle.ap_files.specs.Reads.{HasFile}
use Rattle.ap_image.specs.Plans.{Mapping}
use Rattle.ap_run.specs.declared.end.ReadingFault.{ReadingFault}
use Rattle.ap_run.specs.declared.end.Cause.{Cause}
use Rattle.ap_run.specs.declared.end.Cause.TheVariants.{Done, Refused, Unread, Usage, Unbuilt, ReadFault, WriteFault, OutFault, NoMemory}
use Rattle.ap_run.specs.declared.format.Format.{Format}
use Rattle.ap_files.specs.Prints.{Written, Broken}
use Rattle.ap_texts.specs.PlanTexts.{plan_text}
use Rattle.ap_run.specs.Formats.{text_in, listing}
use Rattle.ap_run.specs.Whole.{Telling}

-- what a format shows of a file
abbrev pub ShowsBy : Format → Telling
ShowsBy format file shown = text_in format file ≡ shown

-- and what the plan and the imports do
abbrev pub Lists : Telling
Lists file shown = listing file ≡ shown

-- the file is there, where files are told, and this is the text that shows it, or the refusal
abbrev pub IsShown : FileState → Telling → List ℕ → Result (List ℕ) ReadingFault → Type 0
IsShown old P name shown = HasFile old.kept name (λ b. P b shown)

-- How a command ends by its cause. Where it doesn't say otherwise, no file and no count changes, and nothing is printed.
abbrev pub Ends : FileState → FileState → SinkState → SinkState → Telling → List ℕ → Cause → Type 0
Ends old new before after P name Done = (new ≡ old) × ((text : List ℕ) × Written before after text × IsShown old P name (Ok text))
Ends old new before after P name (Unread fault) = (new ≡ old) × (after ≡ before) × IsShown old P name (Err fault)
Ends old new before after P name ReadFault = reads.Unread old new name × (after ≡ before)
Ends old new before after P name OutFault = (new ≡ old) × ((text : List ℕ) × Broken before after text × IsShown old P name (Ok text))
Ends old new before after P name NoMemory = (new ≡ old) × (after ≡ before)
Ends old new before after P name (Refused fault) = ⊥
Ends old new before after P name Usage = ⊥
Ends old new before after P name (Unbuilt word) = ⊥
Ends old new before after P name WriteFault = ⊥

-- how a text is printed
abbrev pub Printed : SinkState → SinkState → List ℕ → Cause → Type 0
Printed before after text Done = Written before after text
Printed before after text OutFault = Broken before after text
Printed before after text _ = ⊥

-- how the text of a file is made
abbrev pub Answers : FileState → FileState → Telling → List ℕ → Result (Vec ℕ Global) Cause → Type 0
Answers old new P name (Ok text) = (new ≡ old) × IsShown old P name (Ok text.items)
Answers old new P name (Err (Unread fault)) = (new ≡ old) × IsShown old P name (Err fault)
Answers old new P name (Err ReadFault) = reads.Unread old new name
Answers old new P name (Err NoMemory) = new ≡ old
Answers old new P name (Err _) = ⊥

-- and of its plan
abbrev pub Makes : Mapping → Result (Vec ℕ Global) Cause → Type 0
Makes m (Ok text) = text.items ≡ plan_text m
Makes m (Err NoMemory) = Unit {0}
Makes m (Err _) = ⊥
