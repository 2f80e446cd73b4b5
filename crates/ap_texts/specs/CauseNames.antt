-- The names of the causes for which the readings refuse files.
use Rattle.std.specs.Prelude.{ℕ, List, codes}
use Rattle.ap_elf.specs.declared.fault.ElfCause.{ElfCause}
use Rattle.ap_elf.specs.declared.fault.ElfCause.TheVariants as elf
use Rattle.ap_mach.specs.declared.fault.MachCause.{MachCause}
use Rattle.ap_mach.specs.declared.fault.MachCause.TheVariants as mach
use Rattle.ap_pe.specs.declared.fault.PeCause.{PeCause}
use Rattle.ap_pe.specs.declared.fault.PeCause.TheVariants as pe

abbrev pub cause_name : ElfCause → List ℕ
cause_name elf.Short = codes "Short"
cause_name elf.Magic = codes "Magic"
cause_name elf.Class = codes "Class"
cause_name elf.Endian = codes "Endian"
cause_name elf.Version = codes "Version"
cause_name elf.FileType = codes "FileType"
cause_name elf.Machine = codes "Machine"
cause_name elf.TableSize = codes "TableSize"
cause_name elf.TableCount = codes "TableCount"
cause_name elf.TableRange = codes "TableRange"
cause_name elf.Dynamic = codes "Dynamic"
cause_name elf.Sizes = codes "Sizes"
cause_name elf.Range = codes "Range"
cause_name elf.Top = codes "Top"
cause_name elf.Congruent = codes "Congruent"
cause_name elf.Order = codes "Order"
cause_name elf.NoLoad = codes "NoLoad"

abbrev pub pe_cause_name : PeCause → List ℕ
pe_cause_name pe.Mz = codes "Mz"
pe_cause_name pe.Signature = codes "Signature"
pe_cause_name pe.Machine = codes "Machine"
pe_cause_name pe.Sections = codes "Sections"
pe_cause_name pe.OptionalSize = codes "OptionalSize"
pe_cause_name pe.OptionalMagic = codes "OptionalMagic"
pe_cause_name pe.Base = codes "Base"
pe_cause_name pe.Alignment = codes "Alignment"
pe_cause_name pe.Directories = codes "Directories"
pe_cause_name pe.SectionTable = codes "SectionTable"
pe_cause_name pe.HeadersSize = codes "HeadersSize"
pe_cause_name pe.Empty = codes "Empty"
pe_cause_name pe.Adjacent = codes "Adjacent"
pe_cause_name pe.RawAlign = codes "RawAlign"
pe_cause_name pe.RawRange = codes "RawRange"
pe_cause_name pe.SectionEnd = codes "SectionEnd"
pe_cause_name pe.ImageSize = codes "ImageSize"
pe_cause_name pe.Top = codes "Top"
pe_cause_name pe.Entry = codes "Entry"

abbrev pub mach_cause_name : MachCause → List ℕ
mach_cause_name mach.Short = codes "Short"
mach_cause_name mach.Magic = codes "Magic"
mach_cause_name mach.Cpu = codes "Cpu"
mach_cause_name mach.FileType = codes "FileType"
mach_cause_name mach.Count = codes "Count"
mach_cause_name mach.CommandRange = codes "CommandRange"
mach_cause_name mach.CommandSize = codes "CommandSize"
mach_cause_name mach.Dynamic = codes "Dynamic"
mach_cause_name mach.SegmentSize = codes "SegmentSize"
mach_cause_name mach.Aligned = codes "Aligned"
mach_cause_name mach.Sizes = codes "Sizes"
mach_cause_name mach.Range = codes "Range"
mach_cause_name mach.Top = codes "Top"
mach_cause_name mach.Order = codes "Order"
mach_cause_name mach.Many = codes "Many"
mach_cause_name mach.Thread = codes "Thread"
mach_cause_name mach.NoThread = codes "NoThread"
