-- The plan of a file, by the format of a command's words, shows what the format's reading says.
use Rattle.std.proofs.Common.{◌≡◌, ℕ, Bool, true, false, List, [], ◌∷◌, Option, Some, None, Result, Ok, Err, refl, sym, ap, subst, ◌∙◌, inl, inr, arith}
use Rattle.std.specs.Prelude.{◌==◌, ◌&&◌}
use Rattle.std.specs.Option.{option_and_then}
use Rattle.std.proofs.lemmas.Bool.Decides.{nat_tests}
use Rattle.std.proofs.lemmas.Bool.{cases_Bool}
use Rattle.ap_fields.specs.Readings.{MemoryImage}
use Rattle.ap_elf.specs.declared.machine.Machine.{Machine}
use Rattle.ap_elf.specs.declared.machine.Machine.TheVariants.{X64, A64}
use Rattle.ap_elf.specs.Machines.{number_of}
use Rattle.ap_elf.specs.declared.fault.ElfFault.{ElfFault}
use Rattle.ap_elf.specs.ElfReading.{elf_reading}
use Rattle.ap_elf.specs.Fields.{header_of, entries_of}
use Rattle.ap_image.specs.Plans.{Mapping}
use Rattle.ap_image.specs.Reading.{IsPlanOf}
use Rattle.ap_elf.specs.Machines.{IsPage}
use Rattle.ap_elfmap.specs.ElfPlans.{elf_plan}
use Rattle.ap_elfmap.specs.Laws.{cells-by, page-granule}
use Rattle.ap_loader.specs.declared.fault.ApeFault.{ApeFault}
use Rattle.ap_loader.specs.ApeReading.{ape_reading, ape_plan}
use Rattle.ap_loader.specs.Laws.{cells-ape}
use Rattle.ap_mach.specs.declared.fault.MachFault.{MachFault}
use Rattle.ap_mach.specs.MachReading.{mach_reading}
use Rattle.ap_machmap.specs.MachPlans.{mach_plan}
use Rattle.ap_machmap.specs.Laws.{cells-mach}
use Rattle.ap_pe.specs.declared.fault.PeFault.{PeFault}
use Rattle.ap_pe.specs.PeReading.{pe_reading}
use Rattle.ap_pemap.specs.PePlans.{pe_plan}
use Rattle.ap_pemap.specs.Laws.{cells-pe}
use Rattle.ap_run.specs.declared.end.ReadingFault.TheVariants as fault
use Rattle.ap_run.specs.declared.format.Form.{Form}
use Rattle.ap_run.specs.declared.format.Form.TheVariants.{Ape, Elf, Mach, Pe}
use Rattle.ap_run.specs.declared.format.Format.{Format}
use Rattle.ap_words.specs.declared.command.Command.{Command}
use Rattle.ap_words.specs.declared.command.Command.TheVariants.{Link, Load, Map, Script, Assimilate, Inspect, Trial, Bind, Bundle, Stack, Audit}
use Rattle.ap_words.specs.declared.command.Form.{Form as WordsForm}
use Rattle.ap_words.specs.declared.word.Word.{Word}
use Rattle.ap_words.specs.Names.{has_page, word_named}
use Rattle.ap_words.specs.Conditions.{conditions_are_met}
use Rattle.ap_words.specs.Meaning.{asked, command_of, kept}
use Rattle.ap_run.specs.Views.{format_of, load_format, map_format}
use Rattle.ap_run.specs.Formats.{by_ape, by_elf, by_mach, by_pe, plan_in, plan_by_form, reading_in, reading_by_form}

by_ape-plan : (file : List ℕ) (p : Result Mapping ApeFault) (x : Result MemoryImage ApeFault) → IsPlanOf p file x → IsPlanOf (by_ape p) file (by_ape x)
by_ape-plan file (Ok m) (Ok image) h = h
by_ape-plan file (Err found) (Err refused) h = ap (λ (f : ApeFault). fault.Ape f) h
by_ape-plan file (Ok m) (Err refused) h = absurd h
by_ape-plan file (Err found) (Ok image) h = absurd h

by_elf-plan : (file : List ℕ) (p : Result Mapping ElfFault) (x : Result MemoryImage ElfFault) → IsPlanOf p file x → IsPlanOf (by_elf p) file (by_elf x)
by_elf-plan file (Ok m) (Ok image) h = h
by_elf-plan file (Err found) (Err refused) h = ap (λ (f : ElfFault). fault.Elf f) h
by_elf-plan file (Ok m) (Err refused) h = absurd h
by_elf-plan file (Err found) (Ok image) h = absurd h

by_pe-plan : (file : List ℕ) (p : Result Mapping PeFault) (x : Result MemoryImage PeFault) → IsPlanOf p file x → IsPlanOf (by_pe p) file (by_pe x)
by_pe-plan file (Ok m) (Ok image) h = h
by_pe-plan file (Err found) (Err refused) h = ap (λ (f : PeFault). fault.Pe f) h
by_pe-plan file (Ok m) (Err refused) h = absurd h
by_pe-plan file (Err found) (Ok image) h = absurd h

by_mach-plan : (file : List ℕ) (p : Result Mapping MachFault) (x : Result MemoryImage MachFault) → IsPlanOf p file x → IsPlanOf (by_mach p) file (by_mach x)
by_mach-plan file (Ok m) (Ok image) h = h
by_mach-plan file (Err found) (Err refused) h = ap (λ (f : MachFault). fault.Mach f) h
by_mach-plan file (Ok m) (Err refused) h = absurd h
by_mach-plan file (Err found) (Ok image) h = absurd h

form-cells : (form : Form) (machine : Machine) (page : ℕ) (file : List ℕ) → IsPage machine page → IsPlanOf (plan_by_form form machine page file) file (reading_by_form form machine page file)
form-cells Ape machine page file is =
    by_ape-plan file (ape_plan (number_of machine) page file) (ape_reading (number_of machine) page file) (cells-ape (number_of machine) page file (page-granule machine page is))
form-cells Elf machine page file is =
    by_elf-plan file (elf_plan (number_of machine) page file) (elf_reading (number_of machine) page file)
    (cells-by (number_of machine) page (header_of file) (entries_of file) file (page-granule machine page is))
form-cells Pe machine page file is = by_pe-plan file (pe_plan file) (pe_reading file) (cells-pe file)
form-cells Mach machine page file is = by_mach-plan file (mach_plan file) (mach_reading file) (cells-mach file)

-- ---- the words' format has a page of its machine

page-is : (machine : Machine) (page : ℕ) → has_page machine page ≡ true → IsPage machine page
page-is X64 page h = grind (arith, nat_tests)
page-is A64 page h = elim (cases_Bool (page == 4096)) [ inl small ↦ inl (grind (arith, nat_tests)) | inr other ↦ inr (grind (arith, nat_tests)) ]

abbrev HasPage : Format → Type 0
HasPage format = IsPage format.machine format.page

both-true : (a b : Bool) → (a && b) ≡ true → a ≡ true
both-true true b h = refl
both-true false b h = h

-- a command is kept where its conditions are met
kept-met : (c command : Command) → kept c ≡ Some command → conditions_are_met command ≡ true
kept-met c command h = elim (cases_Bool (conditions_are_met c)) [
  | inl met ↦ let g : Some c ≡ Some command = rw met at h in let e : c ≡ command = cc in ap conditions_are_met (sym e) ∙ met
  | inr unmet ↦ let g : None ≡ Some command = rw unmet at h in absurd cc
]

then-met : (o : Option Command) (command : Command) → option_and_then kept o ≡ Some command → conditions_are_met command ≡ true
then-met None command h = absurd cc
then-met (Some c) command h = kept-met c command h

by-met : (w : Option Word) (words : List (List ℕ)) (command : Command) → option_and_then (λ word. option_and_then kept (asked word words)) w ≡ Some command → conditions_are_met command ≡ true
by-met None words command h = absurd cc
by-met (Some word) words command h = then-met (asked word words) command h

pub words-met : (words : List (List ℕ)) (command : Command) → command_of words ≡ Some command → conditions_are_met command ≡ true
unfolding command_of
words-met [] command h = absurd cc
words-met (name ∷ rest) command h = by-met (word_named name) (name ∷ rest) command h

pub load-page : (machine : Machine) (page : ℕ) (dump : Option (List ℕ)) (file : List ℕ) → conditions_are_met (Load machine page dump file) ≡ true → IsPage machine page
load-page machine page dump file met = page-is machine page (both-true (has_page machine page) _ met)

pub map-page : (form : WordsForm) (machine : Machine) (page : ℕ) (imports : Bool) (file : List ℕ) → conditions_are_met (Map form machine page imports file) ≡ true → IsPage machine page
map-page form machine page imports file met = page-is machine page (both-true (has_page machine page) _ met)

format-page : (command : Command) (format : Format) → conditions_are_met command ≡ true → format_of command ≡ Some format → HasPage format
format-page (Load machine page dump file) format met is = let e : load_format machine page ≡ format = cc in subst HasPage e (load-page machine page dump file met)
format-page (Map form machine page imports file) format met is = let e : map_format form machine page imports ≡ format = cc in subst HasPage e (map-page form machine page imports file met)
format-page (Link out options names) format met is = absurd cc
format-page (Script system machine ape nul file) format met is = absurd cc
format-page (Assimilate form machine out file) format met is = absurd cc
format-page (Inspect file) format met is = absurd cc
format-page (Trial number pages) format met is = absurd cc
format-page (Bind base out file) format met is = absurd cc
format-page (Bundle out app x64 a64) format met is = absurd cc
format-page (Stack machine page out file words) format met is = absurd cc
format-page (Audit file) format met is = absurd cc

pub words-cells : (words : List (List ℕ)) (command : Command) (format : Format) (file : List ℕ) → command_of words ≡ Some command → format_of command ≡ Some format → IsPlanOf (plan_in format file) file (reading_in format file)
unfolding plan_in reading_in
words-cells words command format file is has =
    form-cells format.form format.machine format.page file (format-page command format (words-met words command is) has)
