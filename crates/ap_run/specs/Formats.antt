-- The formats that files are read by, and what a file is by a format.
use Rattle.std.specs.Prelude.{ℕ, ◌^◌, ◌++◌, nat_lt, if◌then◌else◌, List, length, Result, Ok, Err}
use Rattle.ap_elf.specs.declared.machine.Machine.{Machine}
use Rattle.ap_elf.specs.Machines.{number_of}
use Rattle.ap_elf.specs.declared.fault.ElfFault.{ElfFault}
use Rattle.ap_loader.specs.declared.fault.ApeFault.{ApeFault}
use Rattle.ap_fields.specs.Readings.{MemoryImage}
use Rattle.ap_image.specs.Plans.{Mapping}
use Rattle.ap_elf.specs.ElfReading.{elf_reading}
use Rattle.ap_elfmap.specs.ElfPlans.{elf_plan}
use Rattle.ap_loader.specs.ApeReading.{ape_reading, ape_plan}
use Rattle.ap_mach.specs.declared.fault.MachFault.{MachFault}
use Rattle.ap_mach.specs.MachReading.{mach_reading}
use Rattle.ap_machmap.specs.MachPlans.{mach_plan}
use Rattle.ap_pe.specs.declared.fault.PeFault.{PeFault}
use Rattle.ap_pe.specs.PeReading.{pe_reading}
use Rattle.ap_pemap.specs.PePlans.{pe_plan}
use Rattle.ap_run.specs.declared.end.ReadingFault.{ReadingFault}
use Rattle.ap_run.specs.declared.end.ReadingFault.TheVariants as fault
use Rattle.ap_run.specs.declared.format.Form.{Form}
use Rattle.ap_run.specs.declared.format.Form.TheVariants.{Ape, Elf, Mach, Pe}
use Rattle.ap_run.specs.declared.format.Format.{Format}
use Rattle.ap_texts.specs.PlanTexts.{plan_text}
use Rattle.ap_image.specs.Imports.{imports_of}
use Rattle.ap_image.specs.declared.import_step.Ending.{Ending}
use Rattle.ap_image.specs.declared.import_step.Ending.TheVariants as ends
use Rattle.ap_pemap.specs.PeImports.{items_in, memory_of}
use Rattle.ap_run.specs.ImportTexts.{imports_text}

-- what a reading answers, as a run does
abbrev pub by_ape : {T : Type 0} → Result T ApeFault → Result T ReadingFault
by_ape (Ok answer) = Ok answer
by_ape (Err f) = Err (fault.Ape f)

abbrev pub by_elf : {T : Type 0} → Result T ElfFault → Result T ReadingFault
by_elf (Ok answer) = Ok answer
by_elf (Err f) = Err (fault.Elf f)

abbrev pub by_pe : {T : Type 0} → Result T PeFault → Result T ReadingFault
by_pe (Ok answer) = Ok answer
by_pe (Err f) = Err (fault.Pe f)

abbrev pub by_mach : {T : Type 0} → Result T MachFault → Result T ReadingFault
by_mach (Ok answer) = Ok answer
by_mach (Err f) = Err (fault.Mach f)

abbrev pub ape_plan_in : Machine → ℕ → List ℕ → Result Mapping ReadingFault
ape_plan_in machine page file = by_ape (ape_plan (number_of machine) page file)

abbrev pub elf_plan_in : Machine → ℕ → List ℕ → Result Mapping ReadingFault
elf_plan_in machine page file = by_elf (elf_plan (number_of machine) page file)

abbrev pub pe_plan_in : List ℕ → Result Mapping ReadingFault
pe_plan_in file = by_pe (pe_plan file)

abbrev pub mach_plan_in : List ℕ → Result Mapping ReadingFault
mach_plan_in file = by_mach (mach_plan file)

abbrev pub plan_by_form : Form → Machine → ℕ → List ℕ → Result Mapping ReadingFault
plan_by_form Ape machine page file = ape_plan_in machine page file
plan_by_form Elf machine page file = elf_plan_in machine page file
plan_by_form Pe machine page file = pe_plan_in file
plan_by_form Mach machine page file = mach_plan_in file

-- the plan of a file by a format, or the refusal
unfoldable pub plan_in : Format → List ℕ → Result Mapping ReadingFault
plan_in format file = plan_by_form format.form format.machine format.page file

abbrev pub reading_by_form : Form → Machine → ℕ → List ℕ → Result MemoryImage ReadingFault
reading_by_form Ape machine page file = by_ape (ape_reading (number_of machine) page file)
reading_by_form Elf machine page file = by_elf (elf_reading (number_of machine) page file)
reading_by_form Pe machine page file = by_pe (pe_reading file)
reading_by_form Mach machine page file = by_mach (mach_reading file)

-- what a file puts into memory by a format's definition, address by address, or the refusal
unfoldable pub reading_in : Format → List ℕ → Result MemoryImage ReadingFault
reading_in format file = reading_by_form format.form format.machine format.page file

abbrev pub text_of : Result Mapping ReadingFault → Result (List ℕ) ReadingFault
text_of (Ok m) = Ok (plan_text m)
text_of (Err f) = Err f

-- the text of a PE32+ file's plan and of what it imports
abbrev pub walked : Ending → List ℕ → Result (List ℕ) ReadingFault
walked ends.Done text = Ok text
walked (ends.Fault f) text = Err (fault.Walk f)

abbrev pub listing_by : List ℕ → Result Mapping ReadingFault → Result (List ℕ) ReadingFault
listing_by file (Ok m) = walked (items_in file).ending (plan_text m ++ imports_text (imports_of (memory_of file) (items_in file)))
listing_by file (Err f) = Err f

abbrev pub listing : List ℕ → Result (List ℕ) ReadingFault
listing file = listing_by file (pe_plan_in file)

-- the text that shows a file by a format, or the refusal; a file longer than 2^30 bytes isn't read
unfoldable pub text_in : Format → List ℕ → Result (List ℕ) ReadingFault
text_in format file =
    if nat_lt (2 ^ 30) (length file) then Err (fault.Large (length file))
    else (if format.imports then listing file else text_of (plan_in format file))
