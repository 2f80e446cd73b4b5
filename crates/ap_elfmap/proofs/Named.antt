-- The plan of a file of which the header and the program header table are read by the file's name.
use Rattle.std.proofs.Common.{◌≡◌, ℕ, ◌+◌, ◌*◌, ◌<◌, ◌≤◌, min, List, [], ◌∷◌, ◌++◌, length, take, map, nat_lt, Option, Some, Result, Err, sym, ap, ◌∙◌, arith}
use Rattle.ap_fields.specs.Bytes.{over}
use Rattle.ap_fields.specs.FirstFault.{Rules, first_fault}
use Rattle.ap_fields.proofs.FirstFaults.{some-append}
use Rattle.ap_elf.specs.declared.types.Header.{Header}
use Rattle.ap_elf.specs.declared.types.Entry.{Entry}
use Rattle.ap_elf.specs.declared.fault.ElfFault.{ElfFault}
use Rattle.ap_elf.specs.declared.fault.ElfCause.TheVariants.{NoLoad}
use Rattle.ap_elf.specs.Fields.{header_of, entries_from, entries_of, loads_in}
use Rattle.ap_elf.specs.ElfReading.{refusal, header_rules, dynamic_rules, loads_rules}
use Rattle.ap_elf.proofs.Alike.{entries_from-same}
use Rattle.ap_image.specs.Plans.{Mapping}
use Rattle.ap_image.specs.Reading.{mapping_unless}
use Rattle.ap_elfmap.specs.declared.file.TheConstants.{FRONT}
use Rattle.ap_elfmap.specs.ElfPlans.{region_of, elf_plan_by}
use Rattle.ap_elfmap.proofs.Fronts.{header-over, over-front, over-own}

-- a header that breaks its rules decides
pub refused-by : (machine page len : ℕ) (h : Header) (entries : List Entry) (f : ElfFault) → first_fault (header_rules machine len h) ≡ Some f → Err f ≡ elf_plan_by machine page len h entries
refused-by machine page len h entries f some =
    let m : Mapping = record { regions = map (region_of page len) (loads_in entries); entry = h.e_entry } in
    let rest : Rules ElfFault = dynamic_rules 1 entries ++ (loads_rules page len 1 0 (loads_in entries) ++ ((nat_lt 0 (length (loads_in entries)), refusal NoLoad 0 0) ∷ [])) in
    sym (ap (λ (o : Option ElfFault). mapping_unless o m) (some-append (header_rules machine len h) rest f some))

pub refused-named : (number machine page size : ℕ) (h : Header) (first b : List ℕ) (f : ElfFault) → number ≡ machine → h ≡ header_of first → length first ≡ 64 → size ≡ length b
    → first_fault (header_rules number size h) ≡ Some f → Err f ≡ elf_plan_by machine page (length b) (header_of (over b first)) (entries_of (over b first))
refused-named number machine page size h first b f is header long sized some =
    let all : header_rules number size h ≡ header_rules machine (length b) (header_of (over b first)) =
    ap (λ n. header_rules n size h) is ∙ ap (λ n. header_rules machine n h) sized ∙ ap (header_rules machine (length b)) (header ∙ sym (header-over b first long)) in
    refused-by machine page (length b) (header_of (over b first)) (entries_of (over b first)) f (ap first_fault (sym all) ∙ some)

pub planned-named : (machine page size : ℕ) (h : Header) (entries : List Entry) (first b : List ℕ) (plan : Result Mapping ElfFault) → plan ≡ elf_plan_by machine page size h entries → h ≡ header_of first
    → length first ≡ 64 → size ≡ length b → entries ≡ entries_from (over b first) h.e_phoff h.e_phnum
    → plan ≡ elf_plan_by machine page (length b) (header_of (over b first)) (entries_of (over b first))
unfolding entries_of
planned-named machine page size h entries first b plan is header long sized table =
    is
    ∙ ap (λ n. elf_plan_by machine page n h entries) sized
    ∙ ap (elf_plan_by machine page (length b) h) table
    ∙ ap (λ (x : Header). elf_plan_by machine page (length b) x (entries_from (over b first) x.e_phoff x.e_phnum)) (header ∙ sym (header-over b first long))

-- a table that begins in the bytes that are replaced, in the front that was read
pub front-named : (b buf front first : List ℕ) (at n count : ℕ) → count ≡ min (length b) FRONT → buf ≡ take count b → front ≡ over buf first → at < 64 → n ≤ 64 → at + 56 * n ≤ length b
    → entries_from front at n ≡ entries_from (over b first) at n
front-named b buf front first at n count counted read replaced low few fits =
    ap (λ l. entries_from l at n) (replaced ∙ ap (λ l. over l first) read)
    ∙ entries_from-same n at (over (take count b) first) (over b first) (λ k from to. over-front b first count k (omega arith))

-- and the whole file with its own first bytes
pub own-named : (machine page : ℕ) (first b : List ℕ) (plan : Result Mapping ElfFault) → first ≡ take 64 b → 64 ≤ length b
    → plan ≡ elf_plan_by machine page (length b) (header_of (over b first)) (entries_of (over b first)) → plan ≡ elf_plan_by machine page (length b) (header_of b) (entries_of b)
own-named machine page first b plan is enough h = h ∙ ap (λ f. elf_plan_by machine page (length b) (header_of f) (entries_of f)) (over-own b first is enough)
