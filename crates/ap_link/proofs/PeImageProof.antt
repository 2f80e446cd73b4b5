-- The PE reading of a file with an input's PE headers and areas has the input's image.
use Rattle.std.proofs.Common.{◌≡◌, inl, inr, ℕ, ◌+◌, ◌*◌, ◌-◌, ◌%◌, ◌^◌, ◌<◌, ◌≤◌, true, nat_le, nat_lt, ◌==◌, ◌&&◌, List, [], ◌∷◌, ◌++◌, length, map, Option, None, Ok, refl, sym, ap, ◌∙◌, subst, arith}
use Rattle.std.proofs.lemmas.Bool.Decides.{nat_tests}
use Rattle.ap_fields.specs.Bytes.{Holds}
use Rattle.ap_fields.specs.FirstFault.{first_fault}
use Rattle.ap_fields.specs.Granules.{ceil_of}
use Rattle.ap_fields.specs.Readings.{Cell, MemoryImage, image_unless, bytes_in}
use Rattle.ap_fields.specs.Structures.{value_at}
use Rattle.ap_fields.proofs.FirstFaults.{none-append}
use Rattle.ap_fields.proofs.Bytes.{number_at-holds}
use Rattle.ap_elf.specs.Fields.{loads_in}
use Rattle.ap_elf.specs.declared.machine.Machine.{Machine}
use Rattle.ap_elf.specs.Machines.{granule_of}
use Rattle.ap_check.specs.declared.load.Load.{Load}
use Rattle.ap_check.specs.Inputs.{AreLoads, first_start, last_stop}
use Rattle.ap_image.specs.declared.plan.Region.{Region}
use Rattle.ap_link.specs.Same.{HasImage, Same}
use Rattle.ap_link.specs.LinkedIn.{HoldAll}
use Rattle.ap_link.specs.PeImages.{pe_else, PeIsSame}
use Rattle.ap_link.proofs.Shown.{ShowAll, IsElse, IsBefore, same-image}
use Rattle.ap_pe.specs.declared.types.PeHeaders.{PeHeaders}
use Rattle.ap_pe.specs.declared.types.PeSection.{PeSection}
use Rattle.ap_pe.specs.declared.types.FileHeader.{FileHeader}
use Rattle.ap_pe.specs.declared.program.Program.{Program}
use Rattle.ap_pe.specs.Format.{dos_mark, dos_headers, optional_magic, headers_at, headers_of, sections_in}
use Rattle.ap_pe.specs.Sections.{Named}
use Rattle.ap_pe.specs.Written.{sections_of, headers_with}
use Rattle.ap_pe.specs.PeReading.{dos_rules, file_rules, optional_rules, rules_at, header_rules, are_alignments, extent_rules, sections_rules, image_rules, mapping_rules, pe_rules, end_behind, pe_cell, pe_reading}
use Rattle.ap_pe.proofs.HeaderReads.{ProgramFits, HeadersRead, headers-read, written_headers}
use Rattle.ap_pemap.specs.PePlans.{region_of, headers_region, regions_of}
use Rattle.ap_pemap.specs.Laws.{region-cells}
use Rattle.ap_link.proofs.PeWalk.{bare, IsWalk, walk, last-above, last-is, from-headers}

aligned : are_alignments 4096 512 ≡ true
unfolding lib.Count.ones
aligned = refl

-- no rule refuses the headers
headers-none : (file : List ℕ) (p : Program) (end n : ℕ) → value_at dos_mark 0 file ≡ 0x5a4d → value_at optional_magic 120 file ≡ 0x20b
    → p.base % 65536 ≡ 0 → p.base < 2 ^ 47 → n ≤ 96 → 16384 ≤ length file
    → first_fault (dos_rules (length file) (value_at dos_mark 0 file)
    ++ (file_rules (length file) 96 (record { signature = 0x4550; machine = 0x8664; count = n; optional = 240 }) ++ optional_rules (length file) (value_at optional_magic 120 file) (written_headers 96 p end n))) ≡ None
headers-none file p end n mark magic even top few long =
    let t1 : nat_le 64 (length file) ≡ true = grind (arith, nat_tests) in
    let t2 : (value_at dos_mark 0 file == 0x5a4d) ≡ true = grind (arith, nat_tests) in
    let t3 : nat_le 120 (length file) ≡ true = grind (arith, nat_tests) in
    let t5 : nat_le n 96 ≡ true = grind (arith, nat_tests) in
    let t6 : nat_le 360 (length file) ≡ true = grind (arith, nat_tests) in
    let t7 : (value_at optional_magic 120 file == 0x20b) ≡ true = grind (arith, nat_tests) in
    let t8 : (p.base % 65536 == 0 && nat_lt p.base (2 ^ 47)) ≡ true = grind (arith, nat_tests) in
    let t11 : nat_le (360 + 40 * n) (length file) ≡ true = grind (arith, nat_tests) in
    rw (t1, t2, t3, t5, t6, t7, t8, aligned, t11) refl

extent-none : (file : List ℕ) (p : Program) (end n : ℕ) → 16384 ≤ length file → first_fault (extent_rules (length file) (written_headers 96 p end n)) ≡ None
extent-none file p end n long = let t : nat_le 8192 (length file) ≡ true = grind (arith, nat_tests) in rw t refl

-- nor the image
image-none : (p : Program) (n last : ℕ) → last % 4096 ≡ 0 → p.base % 65536 ≡ 0 → p.base ≤ p.entry → p.entry < last → last ≤ 2 ^ 47
    → first_fault (image_rules (written_headers 96 p last n) (last - p.base)) ≡ None
image-none p n last even base from to top =
    let t1 : (ceil_of (last - p.base) 4096 == last - p.base) ≡ true = grind (arith, nat_tests) in
    let t2 : nat_le (p.base + (last - p.base)) (2 ^ 47) ≡ true = grind (arith, nat_tests) in
    let t3 : nat_lt (p.entry - p.base) (last - p.base) ≡ true = grind (arith, nat_tests) in
    rw (t1, t2, t3) refl

before-first : (end : ℕ) (loads : List Load) → end ≤ first_start 4096 loads → IsBefore 4096 end loads
before-first end [] h = tt
before-first end (p ∷ loads) h = h

-- the headers' region shows the file's first bytes
headers-else : (shown : ℕ → ℕ) (p : Program) (end n : ℕ) (loads : List Load) → p.base + 8192 ≤ first_start 4096 loads → IsElse 4096 shown (pe_else shown p.base loads) loads (headers_region (written_headers 96 p end n))
unfolding headers_region
headers-else shown p end n loads room = record {
  before = before-first (p.base + 8192) loads room;
  found = λ a low high.
      let on : nat_lt (a - p.base) 8192 ≡ true = grind (arith, nat_tests) in
      let zero_first : 0 + (a - p.base) ≡ a - p.base = omega arith in
      inl (low, high, rw (on, zero_first) refl);
}

-- one region more that shows no load
first-else : (byte shown : ℕ → ℕ) (Else : ℕ → Option Cell → Type 0) (loads : List Load) (r : Region) (regions : List Region) → IsElse 4096 shown Else loads r → ShowAll 4096 byte shown Else loads regions
    → ShowAll 4096 byte shown Else loads (r ∷ regions)
first-else byte shown Else [] r regions is rest = (is, rest)
first-else byte shown Else (p ∷ loads) r regions is rest = inr (is, rest)

pub pe-is-same : PeIsSame
pe-is-same e entries byte areas at p file given =
    let linked = given.linked in
    let shown : ℕ → ℕ = bytes_in file in
    let loads : List Load = e.loads in
    let named : List Named = sections_of p.base loads areas in
    let n : ℕ = length named in
    let end : ℕ = last_stop 4096 0 loads in
    let Else : ℕ → Option Cell → Type 0 = pe_else shown p.base loads in
    let h : PeHeaders = written_headers 96 p end n in
    let even = given.even in let room = given.room in let span = given.span in
    let small = linked.small in let block = linked.block in
    let order : AreLoads 4096 e.size 0 loads = subst (λ (m : Machine). AreLoads (granule_of m) e.size 0 loads) given.machine linked.meets.loads in
    let held : HoldAll 4096 byte file loads areas = subst (λ (m : Machine). HoldAll (granule_of m) byte file loads areas) given.machine linked.held in
    let start = from-headers e.size (p.base + 8192) loads linked.meets.some order room in
    let last = start.1 in
    let w : IsWalk byte file Else p.base (p.base + 8192) (2 * length loads) loads named =
    walk e.size (p.base + 8192) p.base byte file Else loads areas (omega arith) (omega arith) start.0 held (omega arith) small
    (λ a above below clear. inr (above, (omega arith), clear, refl)) in
    let few = linked.meets.few in
    let count = w.count in
    let up = last-above e.size (p.base + 8192) loads start.0 in
    let ends = last-is e.size 0 loads order refl (omega arith) in
    let top = ends.1 in
    let from = given.from in let to = given.to in
    let fits : ProgramFits p end n = record { base = omega arith; entry = omega arith; image = omega arith; count = omega arith } in
    let written : Holds file 96 (headers_with p end named) = subst (λ k. Holds file 96 (headers_with p k named)) last given.headers in
    let read : HeadersRead file 96 p end named = headers-read file 96 p end named fits w.passes.fits written in
    let mark : value_at dos_mark 0 file ≡ 0x5a4d = number_at-holds 2 0x5a4d 0 file (omega arith) given.mark in
    let place : value_at dos_headers 0 file ≡ 96 = number_at-holds 4 96 60 file (omega arith) given.place in
    let eight : p.base + 8192 - p.base ≡ 8192 = omega arith in
    let sections_none : first_fault (sections_rules (length file) 4096 1 8192 (bare named)) ≡ None = ap (λ k. first_fault (sections_rules (length file) 4096 1 k (bare named))) (sym eight) ∙ w.passes.passes 1 in
    let end_is : end_behind 4096 8192 (bare named) ≡ end - p.base = ap (λ k. end_behind 4096 k (bare named)) (sym eight) ∙ w.passes.ends ∙ ap (λ k. k - p.base) last in
    let mapped : first_fault (mapping_rules (length file) h (bare named)) ≡ None =
    none-append (extent_rules (length file) h) (sections_rules (length file) 4096 1 8192 (bare named) ++ image_rules h (end_behind 4096 8192 (bare named))) (extent-none file p end n (omega arith))
    ∙ none-append (sections_rules (length file) 4096 1 8192 (bare named)) (image_rules h (end_behind 4096 8192 (bare named))) sections_none
    ∙ ap (λ k. first_fault (image_rules h k)) end_is
    ∙ image-none p n end ends.0 even from to top in
    let first : FileHeader = record { signature = 0x4550; machine = 0x8664; count = n; optional = 240 } in
    let heads : headers_of file ≡ h = ap (λ k. headers_at file k) place ∙ read.headers in
    let sections : sections_in file (headers_of file) ≡ bare named = ap (λ (x : PeHeaders). sections_in file x) heads ∙ read.sections in
    let header_none : first_fault (header_rules file) ≡ None =
    ap (λ k. first_fault (dos_rules (length file) (value_at dos_mark 0 file) ++ rules_at file k)) place
    ∙ ap (λ (f : FileHeader). first_fault (dos_rules (length file) (value_at dos_mark 0 file) ++ (file_rules (length file) 96 f ++ optional_rules (length file) (value_at optional_magic 120 file) (headers_at file 96)))) read.file
    ∙ ap (λ (x : PeHeaders). first_fault (dos_rules (length file) (value_at dos_mark 0 file) ++ (file_rules (length file) 96 first ++ optional_rules (length file) (value_at optional_magic 120 file) x))) read.headers
    ∙ headers-none file p end n mark read.magic even (omega arith) (omega arith) (omega arith) in
    let none : first_fault (pe_rules file (headers_of file) (sections_in file (headers_of file))) ≡ None =
    none-append (header_rules file) (mapping_rules (length file) (headers_of file) (sections_in file (headers_of file))) header_none
    ∙ ap (λ (x : PeHeaders). first_fault (mapping_rules (length file) x (sections_in file (headers_of file)))) heads
    ∙ ap (λ (x : List PeSection). first_fault (mapping_rules (length file) h x)) sections
    ∙ mapped in
    let image : MemoryImage = record { entry = p.base + (p.entry - p.base); cell = pe_cell shown h (bare named) } in
    let is : pe_reading file ≡ Ok image =
    ap (λ o. image_unless o (record { entry = (headers_of file).base + (headers_of file).entry; cell = pe_cell shown (headers_of file) (sections_in file (headers_of file)) })) none
    ∙ ap (λ (x : PeHeaders). Ok (record { entry = x.base + x.entry; cell = pe_cell shown x (sections_in file (headers_of file)) })) heads
    ∙ ap (λ (x : List PeSection). Ok (record { entry = h.base + h.entry; cell = pe_cell shown h x })) sections in
    let regions : List Region = regions_of h (bare named) in
    let shows : ShowAll 4096 byte shown Else loads regions = first-else byte shown Else loads (headers_region h) (map (region_of p.base 4096) (bare named)) (headers-else shown p end n loads room) w.shows in
    let has : HasImage 4096 byte (loads_in entries) p.entry Else image =
    same-image 4096 e.size byte shown Else (loads_in entries) regions p.entry image (inl refl)
    (subst (λ (l : List Load). AreLoads 4096 e.size 0 l) linked.loads order) (omega arith) (λ a. region-cells shown h (bare named) a)
    (subst (λ (l : List Load). ShowAll 4096 byte shown Else l regions) linked.loads shows) in
    subst (λ r. Same 4096 byte (loads_in entries) p.entry Else r) (sym is) has
