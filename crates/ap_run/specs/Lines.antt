-- The line on standard error for each cause. Numbers are in decimal.
use Rattle.std.specs.Prelude.{ℕ, List, ◌++◌, codes, decimal, Option, Some, None}
use Rattle.ap_check.specs.declared.fault.Fault.{Fault}
use Rattle.ap_elf.specs.declared.fault.ElfFault.{ElfFault}
use Rattle.ap_loader.specs.declared.fault.ApeFault.{ApeFault}
use Rattle.ap_loader.specs.declared.fault.ApeFault.TheVariants as ape
use Rattle.ap_image.specs.declared.import_step.WalkCause.{WalkCause}
use Rattle.ap_image.specs.declared.import_step.WalkCause.TheVariants as walk
use Rattle.ap_mach.specs.declared.fault.MachFault.{MachFault}
use Rattle.ap_pe.specs.declared.fault.PeFault.{PeFault}
use Rattle.ap_texts.specs.CauseNames.{cause_name, mach_cause_name, pe_cause_name}
use Rattle.ap_run.specs.declared.end.ReadingFault.{ReadingFault}
use Rattle.ap_run.specs.declared.end.ReadingFault.TheVariants.{Large, Wide, Elf, Ape, Pe, Mach, Walk, Shell, NotApe, NoStatement}
use Rattle.ap_words.specs.Names.{name_of}
use Rattle.ap_run.specs.declared.end.Cause.{Cause}
use Rattle.ap_run.specs.declared.end.Cause.TheVariants.{Done, Refused, Unread, Usage, Unbuilt, ReadFault, WriteFault, OutFault, NoMemory}

-- a rule that is broken
unfoldable pub rule_line : Fault → List ℕ
rule_line f =
    codes "apetool: rule " ++ (decimal f.rule ++ (codes " input " ++ (decimal f.input
    ++ (codes " item " ++ (decimal f.item ++ (codes " value " ++ (decimal f.value ++ codes "\n")))))))

-- a fault of a form: its name, its item and its value
unfoldable pub fault_line : List ℕ → List ℕ → ℕ → ℕ → List ℕ
fault_line form name item value =
    codes "apetool: " ++ (form ++ (codes " " ++ (name
    ++ (codes " item " ++ (decimal item ++ (codes " value " ++ (decimal value ++ codes "\n")))))))

abbrev pub elf_line : ElfFault → List ℕ
elf_line f = fault_line (codes "elf") (cause_name f.cause) f.item f.value

abbrev pub ape_line : ApeFault → List ℕ
ape_line ape.NoMagic = fault_line (codes "ape") (codes "NoMagic") 0 0
ape_line ape.NoStatement = fault_line (codes "ape") (codes "NoStatement") 0 0
ape_line (ape.Elf f) = elf_line f

abbrev pub pe_line : PeFault → List ℕ
pe_line f = fault_line (codes "pe") (pe_cause_name f.cause) f.item f.value

abbrev pub mach_line : MachFault → List ℕ
mach_line f = fault_line (codes "mach") (mach_cause_name f.cause) f.item f.value

abbrev pub walk_cause_name : WalkCause → List ℕ
walk_cause_name walk.NoCell = codes "NoCell"
walk_cause_name walk.NoEnd = codes "NoEnd"
walk_cause_name walk.Long = codes "Long"
walk_cause_name walk.Many = codes "Many"

abbrev pub reading_line : ReadingFault → List ℕ
reading_line (Large size) = fault_line (codes "file") (codes "Large") 0 size
reading_line (Wide total) = fault_line (codes "image") (codes "Wide") 0 total
reading_line (Elf f) = elf_line f
reading_line (Ape f) = ape_line f
reading_line (Pe f) = pe_line f
reading_line (Mach f) = mach_line f
reading_line (Walk f) = fault_line (codes "import") (walk_cause_name f.cause) 0 f.at
reading_line (Shell at) = fault_line (codes "shell") (codes "Outside") 0 at
reading_line NotApe = fault_line (codes "assimilate") (codes "NotApe") 0 0
reading_line NoStatement = fault_line (codes "assimilate") (codes "NoStatement") 0 0

-- a command that isn't built yet, by its name
abbrev pub unbuilt_line : List ℕ → List ℕ
unbuilt_line name = codes "apetool: " ++ (name ++ codes " isn't built yet\n")

-- the line of a cause, but for a command that did its work
abbrev pub line_of : Cause → Option (List ℕ)
line_of Done = None
line_of (Refused f) = Some (rule_line f)
line_of (Unread f) = Some (reading_line f)
line_of Usage = Some (codes "apetool: usage: apetool link|load|map|script|assimilate|inspect|trial ...\n")
line_of (Unbuilt word) = Some (unbuilt_line (name_of word))
line_of ReadFault = Some (codes "apetool: cannot read\n")
line_of WriteFault = Some (codes "apetool: cannot write\n")
line_of OutFault = Some (codes "apetool: cannot print\n")
line_of NoMemory = Some (codes "apetool: no memory\n")
