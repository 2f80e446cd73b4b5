-- How a command that shows a file and dumps its image file ends.
use Rattle.std.specs.Prelude.{◌≡◌, ℕ, ◌^◌, ◌<◌, ◌≤◌, nat_lt, if◌then◌else◌, List, length, Vec, Result, Ok, Err, Some}
use Rattle.std.specs.declared.alloc.Global.{Global}
use Rattle.ap_fields.specs.Readings.{bytes_in}
use Rattle.ap_files.specs.Files.{FileState}
use Rattle.ap_files.specs.Sinks.{SinkState}
use Rattle.ap_files.specs.Prints.{Written, Broken}
use Rattle.ap_files.specs.Appends.{IsMade, Makes}
use Rattle.ap_files.specs.declared.failure.FileFault.TheVariants as file
use Rattle.ap_files.specs.Reads as reads
use Rattle.ap_files.specs.Reads.{HasFile}
use Rattle.ap_image.specs.Plans.{Mapping, Imaged}
use Rattle.ap_image.specs.ImageFiles.{total_of, front_of, image_file}
use Rattle.ap_run.specs.declared.end.ReadingFault.{ReadingFault}
use Rattle.ap_run.specs.declared.end.ReadingFault.TheVariants as fault
use Rattle.ap_run.specs.declared.end.Cause.{Cause}
use Rattle.ap_run.specs.declared.end.Cause.TheVariants.{Done, Refused, Unread, Usage, Unbuilt, ReadFault, WriteFault, OutFault, NoMemory}
use Rattle.ap_run.specs.declared.format.Format.{Format}
use Rattle.ap_run.specs.declared.dump.Parts.{Parts}
use Rattle.ap_texts.specs.PlanTexts.{plan_text}
use Rattle.ap_run.specs.Formats.{plan_in}

-- the image file, and the text
pub record Dumped : Type 0 where
  pub image : List ℕ
  pub text : List ℕ

-- those of a plan over a file, or the refusal of one with more than 2^30 addresses
abbrev pub dumped_by : List ℕ → Result Mapping ReadingFault → Result Dumped ReadingFault
dumped_by file (Err f) = Err f
dumped_by file (Ok m) =
    if nat_lt (2 ^ 30) (total_of m.regions) then Err (fault.Wide (total_of m.regions))
    else Ok (record { image = image_file (bytes_in file) m; text = plan_text m })

-- those of a file by a format, or the refusal; a file longer than 2^30 bytes isn't read
unfoldable pub dumped_in : Format → List ℕ → Result Dumped ReadingFault
dumped_in format file = if nat_lt (2 ^ 30) (length file) then Err (fault.Large (length file)) else dumped_by file (plan_in format file)

abbrev pub IsDumped : FileState → Format → List ℕ → Result Dumped ReadingFault → Type 0
IsDumped old format name dumped = HasFile old.kept name (λ b. dumped_in format b ≡ dumped)

-- How a command ends by its cause. Where it doesn't say otherwise, no file and no count changes, and nothing is printed.
abbrev pub DumpEnds : FileState → FileState → SinkState → SinkState → Format → List ℕ → List ℕ → Cause → Type 0
DumpEnds old new before after format name image Done =
    (d : Dumped) × IsMade old new image d.image × Written before after d.text × IsDumped old format name (Ok d)
DumpEnds old new before after format name image OutFault =
    (d : Dumped) × IsMade old new image d.image × Broken before after d.text × IsDumped old format name (Ok d)
DumpEnds old new before after format name image WriteFault =
    (d : Dumped) × Makes old new image d.image (Some file.Write) × (after ≡ before) × IsDumped old format name (Ok d)
DumpEnds old new before after format name image (Unread f) = (new ≡ old) × (after ≡ before) × IsDumped old format name (Err f)
DumpEnds old new before after format name image ReadFault = reads.Unread old new name × (after ≡ before)
DumpEnds old new before after format name image NoMemory = (new ≡ old) × (after ≡ before)
DumpEnds old new before after format name image (Refused f) = ⊥
DumpEnds old new before after format name image Usage = ⊥
DumpEnds old new before after format name image (Unbuilt word) = ⊥

-- what is made of a plan over a file
pub record ArePartsOf (whole : Imaged) (parts : Parts) : Type 0 where
  pub image : parts.image ≡ whole
  pub front : parts.front.items ≡ front_of whole.plan
  pub text : parts.text.items ≡ plan_text whole.plan

abbrev pub dumped_as : Parts → Dumped
dumped_as parts = record { image = image_file (bytes_in parts.image.file) parts.image.plan; text = parts.text.items }

-- and of a file's bytes
abbrev pub MakesParts : Format → List ℕ → Result Parts Cause → Type 0
MakesParts format file (Ok parts) = (dumped_by file (plan_in format file) ≡ Ok (dumped_as parts)) × (parts.front.items ≡ front_of parts.image.plan)
MakesParts format file (Err (Unread f)) = dumped_by file (plan_in format file) ≡ Err f
MakesParts format file (Err NoMemory) = Unit {0}
MakesParts format file (Err _) = ⊥
