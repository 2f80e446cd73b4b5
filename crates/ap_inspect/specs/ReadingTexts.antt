-- The texts of a report on the readings of a file.
use Rattle.std.specs.Prelude.{ℕ, List, ◌++◌, codes, Result, Ok, Err}
use Rattle.ap_pe.specs.declared.fault.PeFault.{PeFault}
use Rattle.ap_mach.specs.declared.fault.MachFault.{MachFault}
use Rattle.ap_loader.specs.declared.fault.ApeFault.{ApeFault}
use Rattle.ap_loader.specs.declared.fault.ApeFault.TheVariants as ape
use Rattle.ap_image.specs.Plans.{Mapping}
use Rattle.ap_inspect.specs.StatementLines.{pair_text}
use Rattle.ap_texts.specs.CauseNames.{cause_name, pe_cause_name, mach_cause_name}
use Rattle.ap_texts.specs.PlanTexts.{plan_text}

-- a reading that maps the file
unfoldable pub ok_text : List ℕ → Mapping → List ℕ
ok_text name m = codes "reading " ++ (name ++ (codes " ok\n" ++ plan_text m))

-- a reading that refuses the file, by a cause's name, an item and a value
unfoldable pub fault_text : List ℕ → List ℕ → ℕ → ℕ → List ℕ
fault_text name cause item value =
    codes "reading " ++ (name ++ (codes " " ++ (cause ++ pair_text item value)))

abbrev pub pe_text : Result Mapping PeFault → List ℕ
pe_text (Ok m) = ok_text (codes "pe") m
pe_text (Err f) = fault_text (codes "pe") (pe_cause_name f.cause) f.item f.value

abbrev pub mach_text : Result Mapping MachFault → List ℕ
mach_text (Ok m) = ok_text (codes "mach") m
mach_text (Err f) = fault_text (codes "mach") (mach_cause_name f.cause) f.item f.value

abbrev pub ape_fault_text : List ℕ → ApeFault → List ℕ
ape_fault_text name ape.NoMagic = fault_text name (codes "NoMagic") 0 0
ape_fault_text name ape.NoStatement = fault_text name (codes "NoStatement") 0 0
ape_fault_text name (ape.Elf f) = fault_text name (cause_name f.cause) f.item f.value

-- the APE reading, by its name
abbrev pub ape_text : List ℕ → Result Mapping ApeFault → List ℕ
ape_text name (Ok m) = ok_text name m
ape_text name (Err f) = ape_fault_text name f
