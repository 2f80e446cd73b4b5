-- The plan of a file, by its name.
use Rattle.std.specs.Prelude.{◌≡◌, ℕ, ◌^◌, nat_lt, if◌then◌else◌, List, length, Result, Ok, Err}
use Rattle.ap_files.specs.Files.{FileState}
use Rattle.ap_files.specs.Reads as reads
use Rattle.ap_files.specs.Reads.{HasFile, HasSize}
use Rattle.ap_image.specs.Plans.{Mapping}
use Rattle.ap_run.specs.declared.end.ReadingFault.{ReadingFault}
use Rattle.ap_run.specs.declared.end.ReadingFault.TheVariants as fault
use Rattle.ap_run.specs.declared.end.Cause.{Cause}
use Rattle.ap_run.specs.declared.end.Cause.TheVariants.{Unread, ReadFault}
use Rattle.ap_run.specs.declared.format.Format.{Format}
use Rattle.ap_run.specs.declared.planned.Planned.{Planned}
use Rattle.ap_run.specs.Formats.{plan_in}

-- the plan of a file by a format, or the refusal; a file longer than 2^30 bytes isn't read
unfoldable pub sized_plan_in : Format → List ℕ → Result Mapping ReadingFault
sized_plan_in format file = if nat_lt (2 ^ 30) (length file) then Err (fault.Large (length file)) else plan_in format file

-- the file is there, where files are told, and this is its plan, or the refusal
abbrev pub IsPlanned : FileState → Format → List ℕ → Result Mapping ReadingFault → Type 0
IsPlanned old format name plan = HasFile old.kept name (λ b. sized_plan_in format b ≡ plan)

abbrev pub Plans : FileState → FileState → Format → List ℕ → Result Planned Cause → Type 0
Plans old new format name (Ok planned) = (new ≡ old) × HasSize old.kept name planned.size × IsPlanned old format name (Ok planned.plan)
Plans old new format name (Err (Unread fault)) = (new ≡ old) × IsPlanned old format name (Err fault)
Plans old new format name (Err ReadFault) = reads.Unread old new name
Plans old new format name (Err _) = ⊥
