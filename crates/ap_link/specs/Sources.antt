-- One or two inputs of files, as they were taken.
use Rattle.std.specs.Prelude.{◌≡◌, ◌≢◌, ℕ, if◌then◌else◌, List, [], ◌++◌, get_or, IfSome, Result, Ok, Err, Option, Some, None}
use Rattle.ap_fields.specs.Bytes.{listed}
use Rattle.ap_fields.specs.Readings.{bytes_in}
use Rattle.ap_files.specs.Files.{FileMap, FileState, told_bytes}
use Rattle.ap_files.specs.declared.failure.Failed.{Failed}
use Rattle.ap_files.specs.Reads.{HasFile, HasSize, ReadFails}
use Rattle.ap_files.specs.declared.failure.FileFault.{FileFault}
use Rattle.ap_files.specs.declared.failure.FileFault.TheVariants as file
use Rattle.ap_elf.specs.declared.machine.Machine.TheVariants.{X64}
use Rattle.ap_elf.specs.Machines.{is_machine}
use Rattle.ap_check.specs.declared.end.CheckEnd.{CheckEnd}
use Rattle.ap_check.specs.declared.end.CheckEnd.TheVariants as check
use Rattle.ap_check.specs.declared.options.Options.{Options}
use Rattle.ap_check.specs.Inputs.{Taken}
use Rattle.ap_check.specs.Both.{IsTakenOf}
use Rattle.ap_fields.specs.declared.sizes.TheConstants.{BLOCK}
use Rattle.ap_layout.specs.declared.layout.Area.{Area}
use Rattle.ap_layout.specs.Areas.{end_from}
use Rattle.ap_layout.specs.declared.twins.Twins.{Twins}
use Rattle.ap_layout.specs.Twins.{masks_of}
use Rattle.ap_layout.specs.Positions.{Positions, positions_of}
use Rattle.ap_link.specs.declared.end.LinkEnd.{LinkEnd}
use Rattle.ap_link.specs.declared.end.LinkEnd.TheVariants.{Rule, ReadFault, WriteFault}
use Rattle.ap_link.specs.declared.source.Source.{Source}
use Rattle.ap_link.specs.Linked.{input_text}

-- the name of the second input's file, and what was taken of it
abbrev pub second_name : Option Source → Option (List ℕ)
second_name None = None
second_name (Some s) = Some s.name.now

abbrev pub second_taken : Option Source → Option Taken
second_taken None = None
second_taken (Some s) = Some s.input.now

-- the name of the file of the input for x86-64, of one or two inputs; that of either where there is none
abbrev pub x64_name : Source → Option Source → List ℕ
x64_name first None = first.name.now
x64_name first (Some s) = if is_machine X64 first.input.now.machine then first.name.now else s.name.now

-- the bytes of the second input's file, and none where files aren't told
abbrev pub second_told : Option FileMap → Option (List ℕ) → Option (List ℕ)
second_told kept None = None
second_told kept (Some name) = Some (told_bytes kept name)

-- what stands for an input behind the first c bytes, by the bytes of its file
abbrev pub source_text : ℕ → Option FileMap → Source → List Area → List ℕ
source_text c kept s areas = input_text c s.input.now (told_bytes kept s.name.now) areas

-- what stands behind the block of a linked file, by the bytes of the inputs' files and the areas of each
abbrev pub tail_told : Option FileMap → Source → Option Source → List (List Area) → List ℕ
tail_told kept first None areas = source_text BLOCK kept first (get_or areas 0 [])
tail_told kept first (Some s) areas =
    source_text BLOCK kept first (get_or areas 0 []) ++ source_text (end_from BLOCK (get_or areas 0 [])) kept s (get_or areas 1 [])

-- the bytes of a part of an input
abbrev pub part_of : ℕ → ℕ → List ℕ → List ℕ
part_of from count input = listed (bytes_in input) from count

-- the file of an input is there with so many bytes, and isn't the one that is written
pub record IsReadable (kept : Option FileMap) (name : List ℕ) (n : ℕ) (out : List ℕ) : Type 0 where
  pub size : HasSize kept name n
  pub apart : name ≢ out

abbrev pub IsReadableSource : Option FileMap → List ℕ → Source → Type 0
IsReadableSource kept out s = IsReadable kept s.name.now s.input.now.size out

abbrev pub AreReadable : Option FileMap → Source → Option Source → List ℕ → Type 0
AreReadable kept first second out = IsReadableSource kept out first × IfSome second (IsReadableSource kept out)

-- it was taken of the file of its name, which has its size, as the input of this number
pub record IsSource (kept : Option FileMap) (n : ℕ) (s : Source) : Type 0 where
  pub told : HasFile kept s.name.now (λ b. IsTakenOf n b s.input.now)
  pub size : HasSize kept s.name.now s.input.now.size
  pub number : s.input.now.number ≡ n

-- the positions of one or two inputs, whatever the options and the masks are
abbrev pub ArePositions : Taken → Option Taken → Positions → Type 0
ArePositions e o l = (options : Options) × (masks : List ℕ) × (l ≡ positions_of options e o masks)

-- masks are true of the files of two inputs, where files are told
abbrev pub AreTrueFor : Option FileMap → List ℕ → Source → Option Source → Type 0
AreTrueFor kept masks first None = Unit {0}
AreTrueFor kept masks first (Some s) =
    (m : FileMap) → kept ≡ Some m → masks ≡ masks_of first.input.now (bytes_in (told_bytes kept first.name.now)) s.input.now (bytes_in (told_bytes kept s.name.now))

-- the masks of two inputs are found, and the state is as before; or a read failed
abbrev pub FindsTwins : FileState → FileState → Source → Option Source → Result Twins Failed → Type 0
FindsTwins old new first second (Ok twins) = (new ≡ old) × AreTrueFor old.kept twins.masks.items first second
FindsTwins old new first second (Err failed) = ReadFails old new

-- how a link ends where an input isn't taken, and where a file isn't made
abbrev pub end_of_check : CheckEnd → LinkEnd
end_of_check (check.Rule fault) = Rule fault
end_of_check check.ReadFault = ReadFault

abbrev pub end_of_fault : FileFault → LinkEnd
end_of_fault file.Read = ReadFault
end_of_fault file.Write = WriteFault
