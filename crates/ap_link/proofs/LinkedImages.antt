-- The readings of a linked file have the image of an input that was linked into it.
use Rattle.std.proofs.Common.{◌≡◌, ℕ, ◌+◌, ◌*◌, ◌≤◌, true, nat_le, nat_lt, ◌==◌, ◌&&◌, List, [], ◌∷◌, ◌++◌, length, map, drop, Option, None, refl, sym, ap, ◌∙◌, subst, arith}
use Rattle.std.proofs.lemmas.Bool.Decides.{nat_tests}
use Rattle.ap_fields.specs.Bytes.{over}
use Rattle.ap_fields.specs.declared.sizes.TheConstants.{BLOCK}
use Rattle.ap_fields.specs.Fields.{number_at}
use Rattle.ap_fields.specs.FirstFault.{Rules, first_fault}
use Rattle.ap_fields.specs.Granules.{IsGranule}
use Rattle.ap_fields.specs.Readings.{MemoryImage, bytes_in, image_unless}
use Rattle.ap_fields.proofs.FirstFaults.{none-append}
use Rattle.ap_elf.specs.declared.types.Header.{Header}
use Rattle.ap_elf.specs.declared.types.Entry.{Entry}
use Rattle.ap_elf.specs.declared.fault.ElfFault.{ElfFault}
use Rattle.ap_elf.specs.declared.fault.ElfCause.TheVariants.{NoLoad}
use Rattle.ap_elf.specs.Fields.{header_of, entries_of, entries_from, loads_in}
use Rattle.ap_elf.specs.ElfReading.{refusal, header_rules, dynamic_rules, loads_rules, elf_rules, elf_reading_by, page_cell}
use Rattle.ap_check.specs.declared.load.Load.{Load}
use Rattle.ap_elf.specs.Machines.{granule_of, number_of}
use Rattle.ap_check.specs.Inputs.{Taken, Meets, AreLoads, loads_of}
use Rattle.ap_image.specs.Plans.{Mapping}
use Rattle.ap_image.specs.Reading.{Shows, IsPlanOf, mapping_unless}
use Rattle.ap_elf.specs.Machines.{IsPage}
use Rattle.ap_elfmap.specs.ElfPlans.{region_of}
use Rattle.ap_elfmap.specs.Laws.{cells-by}
use Rattle.ap_layout.specs.declared.layout.Area.{Area}
use Rattle.ap_layout.specs.Positions.{entry_count}
use Rattle.ap_script.specs.Tables.{load_entries, table_of, embedded_header, embedded_bytes, table_text}
use Rattle.ap_link.specs.Same.{Same, nothing_else}
use Rattle.ap_link.specs.LinkedIn.{IsHeld, HoldAll, IsLinkedIn}
use Rattle.ap_link.specs.Images.{ElfIsSame, ApeIsSame}
use Rattle.ap_link.proofs.Granules.{IsPaged, paged}
use Rattle.ap_link.proofs.Shown.{ShowAll, same-image}
use Rattle.ap_link.proofs.Rows.{table-loads, table-still, length-table_of, length-loads}
use Rattle.ap_link.proofs.Passing.{loads-pass, regions-show}
use Rattle.ap_link.proofs.Holding.{length-over, over-holds}
use Rattle.ap_elf.proofs.ReadBack.{header_of-bytes, entries_from-holds}
use Rattle.ap_link.proofs.Fitting.{table-fits, header-fits, count-few}
use Rattle.ap_layout.proofs.Rounded.{granule_of-is}
use Rattle.ap_script.proofs.ScriptParts.{length-embedded}

phoff-is : (e : Taken) (at : ℕ) → (embedded_header e at).e_phoff ≡ at
unfolding embedded_header
phoff-is e at = refl

phnum-is : (e : Taken) (at : ℕ) → (embedded_header e at).e_phnum ≡ entry_count e
unfolding embedded_header
phnum-is e at = refl

entry-is : (e : Taken) (at : ℕ) → (embedded_header e at).e_entry ≡ e.entry
unfolding embedded_header
entry-is e at = refl

-- the header of the file with the embedded header over its first bytes
pub header-found : (e : Taken) (entries : List Entry) (byte : ℕ → ℕ) (areas : List Area) (at : ℕ) (file : List ℕ) → IsLinkedIn e entries byte areas at file
    → header_of (over file (embedded_bytes e at)) ≡ embedded_header e at
header-found e entries byte areas at file linked =
    let h : List ℕ = embedded_bytes e at in
    let long = length-embedded e at in
    let inside = linked.inside in
    header_of-bytes (embedded_header e at) (drop (length h) file) (header-fits e at linked.meets (omega arith))

-- and its program headers
pub table-found : (e : Taken) (entries : List Entry) (byte : ℕ → ℕ) (areas : List Area) (at : ℕ) (file : List ℕ) → IsLinkedIn e entries byte areas at file
    → entries_of (over file (embedded_bytes e at)) ≡ table_of e areas
unfolding entries_of
table-found e entries byte areas at file linked =
    let h : List ℕ = embedded_bytes e at in
    let v : List ℕ = over file h in
    let long = length-embedded e at in
    let past = linked.past in let block = linked.block in
    let count : length (table_of e areas) ≡ entry_count e = length-table_of e areas byte file linked.held in
    ap (λ (x : Header). entries_from v x.e_phoff x.e_phnum) (header-found e entries byte areas at file linked)
    ∙ ap (λ n. entries_from v n (embedded_header e at).e_phnum) (phoff-is e at)
    ∙ ap (entries_from v at) (phnum-is e at ∙ sym count)
    ∙ entries_from-holds v at (table_of e areas) (table-fits e byte file areas linked.meets linked.held linked.small)
    (over-holds file h at (table_text e areas) (omega arith) (omega arith) linked.table)

-- the areas stay where the first bytes are replaced
held-over : (g : ℕ) (byte : ℕ → ℕ) (file front : List ℕ) (p : Load) (x : Area) → length front ≤ BLOCK → length front ≤ length file → IsHeld g byte file p x → IsHeld g byte (over file front) p x
held-over g byte file front p x long fits held = record {
  bare = held.bare;
  len = held.len;
  granule = held.granule;
  past = held.past;
  holds = λ some. over-holds file front x.file _ (let past = held.past some in omega arith) (omega arith) (held.holds some);
}

pub all-over : (g : ℕ) (byte : ℕ → ℕ) (file front : List ℕ) (loads : List Load) (areas : List Area) → length front ≤ BLOCK → length front ≤ length file → HoldAll g byte file loads areas → HoldAll g byte (over file front) loads areas
all-over g byte file front [] [] long fits held = tt
all-over g byte file front [] (x ∷ areas) long fits held = held
all-over g byte file front (p ∷ loads) [] long fits held = held
all-over g byte file front (p ∷ loads) (x ∷ areas) long fits held = (held-over g byte file front p x long fits held.0, all-over g byte file front loads areas long fits held.1)

-- the embedded header is refused by nothing
header-passes : (e : Taken) (at len : ℕ) → Meets e → 64 ≤ len → at + 56 * entry_count e ≤ len → first_fault (header_rules (number_of e.machine) len (embedded_header e at)) ≡ None
unfolding embedded_header number_at
header-passes e at len meets long fits =
    let counts = count-few e meets in
    let some = counts.0 in let few = counts.1 in
    let t0 : nat_le 64 len ≡ true = grind (arith, nat_tests) in
    let t1 : (number_of e.machine == number_of e.machine) ≡ true = grind (arith, nat_tests) in
    let t2 : (nat_le 1 (entry_count e) && nat_le (entry_count e) 64) ≡ true = grind (arith, nat_tests) in
    let t3 : nat_le (at + 56 * entry_count e) len ≡ true = grind (arith, nat_tests) in
    rw (t0, t1, t2, t3) refl

-- nothing is refused
reading-passes : (e : Taken) (byte : ℕ → ℕ) (areas : List Area) (at page : ℕ) (file : List ℕ) → IsPaged page (granule_of e.machine) → Meets e → HoldAll (granule_of e.machine) byte file e.loads areas
    → 64 ≤ length file → at + 56 * entry_count e ≤ length file
    → first_fault (elf_rules (number_of e.machine) page (length file) (embedded_header e at) (table_of e areas)) ≡ None
reading-passes e byte areas at page file paging meets held long fits =
    let g : ℕ = granule_of e.machine in
    let len : ℕ = length file in
    let rows : List Entry = table_of e areas in
    let loads : List Entry = load_entries g e.loads areas in
    let last : List Entry → Rules ElfFault = λ l. loads_rules page len 1 0 l ++ ((nat_lt 0 (length l), refusal NoLoad 0 0) ∷ []) in
    let count = length-loads g byte file e.loads areas held in
    let some = meets.some in
    let any : nat_lt 0 (length loads) ≡ true = grind (arith, nat_tests) in
    none-append (header_rules (number_of e.machine) len (embedded_header e at)) (dynamic_rules 1 rows ++ last (loads_in rows)) (header-passes e at len meets long fits)
    ∙ none-append (dynamic_rules 1 rows) (last (loads_in rows)) (table-still e areas)
    ∙ ap (λ (l : List Entry). first_fault (last l)) (table-loads e areas e.size meets.loads)
    ∙ none-append (loads_rules page len 1 0 loads) ((nat_lt 0 (length loads), refusal NoLoad 0 0) ∷ []) (loads-pass page g e.size 0 0 1 byte file e.loads areas (granule_of-is e.machine) paging (omega arith) meets.loads held)
    ∙ rw any refl

-- the reading by the embedded header and the table, whose cells show a file's bytes
pub same-read : (e : Taken) (entries : List Entry) (byte : ℕ → ℕ) (areas : List Area) (at page : ℕ) (file : List ℕ) → IsPage e.machine page → Meets e → e.loads ≡ loads_of entries
    → HoldAll (granule_of e.machine) byte file e.loads areas → 64 ≤ length file → at + 56 * entry_count e ≤ length file
    → Same (granule_of e.machine) byte (loads_in entries) e.entry nothing_else (elf_reading_by (number_of e.machine) page (length file) (embedded_header e at) (table_of e areas) (bytes_in file))
same-read e entries byte areas at page file is meets loads held long fits =
    let g : ℕ = granule_of e.machine in
    let granule : IsGranule g = granule_of-is e.machine in
    let paging : IsPaged page g = paged e.machine page is in
    let len : ℕ = length file in
    let rows : List Entry = table_of e areas in
    let h : Header = embedded_header e at in
    let m : Mapping = record { regions = map (region_of page len) (loads_in rows); entry = h.e_entry } in
    let image : MemoryImage = record { entry = h.e_entry; cell = page_cell page len (bytes_in file) (loads_in rows) } in
    let none : first_fault (elf_rules (number_of e.machine) page len h rows) ≡ None = reading-passes e byte areas at page file paging meets held long fits in
    let planned : Shows m file image = subst (λ (o : Option ElfFault). IsPlanOf (mapping_unless o m) file (image_unless o image)) none (cells-by (number_of e.machine) page h rows file paging.size) in
    let shown = regions-show page g e.size 0 byte file e.loads areas granule paging meets.loads held in
    let there = sym (ap (λ (l : List Entry). map (region_of page len) l) (table-loads e areas e.size meets.loads)) in
    let order : AreLoads g e.size 0 (loads_of entries) = subst (AreLoads g e.size 0) loads meets.loads in
    let shows = subst (λ (l : List Load). ShowAll g byte (bytes_in file) nothing_else l m.regions) loads (subst (ShowAll g byte (bytes_in file) nothing_else e.loads) there shown) in
    rw none (same-image g e.size byte (bytes_in file) nothing_else (loads_in entries) m.regions e.entry image granule order (entry-is e at) planned.cells shows)

-- the file that is read is the one with the header over its first bytes
pub elf-is-same : ElfIsSame
elf-is-same e entries byte areas at file page linked is =
    let h : List ℕ = embedded_bytes e at in
    let v : List ℕ = over file h in
    let long : length h ≡ 64 = length-embedded e at in
    let block = linked.block in let inside = linked.inside in
    let whole : length v ≡ length file = length-over file h (omega arith) in
    let held = all-over (granule_of e.machine) byte file h e.loads areas (omega arith) (omega arith) linked.held in
    let same = same-read e entries byte areas at page v is linked.meets linked.loads held (omega arith) (omega arith) in
    rw (header-found e entries byte areas at file linked, table-found e entries byte areas at file linked) same

-- the file that is read is the linked one
pub ape-is-same : ApeIsSame
ape-is-same e entries byte areas at file page linked is =
    let block = linked.block in let inside = linked.inside in
    let same = same-read e entries byte areas at page file is linked.meets linked.loads linked.held (omega arith) (omega arith) in
    rw (header-found e entries byte areas at file linked, table-found e entries byte areas at file linked) same
