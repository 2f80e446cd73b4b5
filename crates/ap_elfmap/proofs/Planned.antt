-- The plan of a header and program headers that meet their rules.
use Rattle.std.proofs.Common.{◌≡◌, ◌++◌, ℕ, List, [], ◌∷◌, None, length, map, nat_lt, sym, ◌∙◌, subst}
use Rattle.ap_fields.specs.FirstFault.{first_fault}
use Rattle.ap_fields.specs.Granules.{IsGranule}
use Rattle.ap_fields.proofs.FirstFaults.{none-append}
use Rattle.ap_elf.specs.declared.types.Header.{Header}
use Rattle.ap_elf.specs.declared.types.Entry.{Entry}
use Rattle.ap_elf.specs.Fields.{loads_in}
use Rattle.ap_elf.specs.ElfReading.{refusal, header_rules, dynamic_rules, loads_rules, elf_rules}
use Rattle.ap_elf.specs.declared.fault.ElfCause.TheVariants.{NoLoad}
use Rattle.ap_image.specs.declared.plan.Region.{Region}
use Rattle.ap_image.specs.Plans.{AreAscendingFrom, AreBacked}
use Rattle.ap_elfmap.specs.ElfPlans.{region_of}
use Rattle.ap_elfmap.specs.Laws.{plan-ascends, plan-backed}

-- the rules of both
pub rules-hold : (machine page len : ℕ) (h : Header) (entries : List Entry) → first_fault (header_rules machine len h) ≡ None
    → first_fault (dynamic_rules 1 entries ++ (loads_rules page len 1 0 (loads_in entries) ++ ((nat_lt 0 (length (loads_in entries)), refusal NoLoad 0 0) ∷ []))) ≡ None
    → first_fault (elf_rules machine page len h entries) ≡ None
rules-hold machine page len h entries header table =
    none-append (header_rules machine len h) (dynamic_rules 1 entries ++ (loads_rules page len 1 0 (loads_in entries) ++ ((nat_lt 0 (length (loads_in entries)), refusal NoLoad 0 0) ∷ []))) header ∙ table

-- its regions ascend
pub planned-ascends : (machine page len : ℕ) (h : Header) (entries : List Entry) (regions : List Region) → IsGranule page → first_fault (elf_rules machine page len h entries) ≡ None
    → regions ≡ map (region_of page len) (loads_in entries) → AreAscendingFrom 0 regions
planned-ascends machine page len h entries regions is none made =
    subst (AreAscendingFrom 0) (sym made) (plan-ascends machine page len h entries is none)

-- they lie in the file
pub planned-backed : (machine page len : ℕ) (h : Header) (entries : List Entry) (regions : List Region) → IsGranule page → first_fault (elf_rules machine page len h entries) ≡ None
    → regions ≡ map (region_of page len) (loads_in entries) → AreBacked regions len
planned-backed machine page len h entries regions is none made =
    subst (λ (rs : List Region). AreBacked rs len) (sym made) (plan-backed machine page len h entries is none)
