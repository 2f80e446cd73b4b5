-- A file that begins with headers as they are written has them by the reading's fields, and isn't refused.
use Rattle.std.proofs.Common.{◌≡◌, ℕ, suc, ◌+◌, ◌-◌, ◌%◌, ◌^◌, ◌<◌, ◌≤◌, true, false, not, ◌==◌, nat_le, List, [], ◌∷◌, ◌++◌, length, take, None, Ok, refl, sym, ap, ◌∙◌, subst, arith, length-append, length-take, inl, inr}
use Rattle.std.proofs.lemmas.Bool.{cases_Bool}
use Rattle.std.proofs.lemmas.Bool.Decides.{nat_tests}
use Rattle.std.proofs.lemmas.List.{get_or-take}
use Rattle.ap_fields.specs.Bytes.{Holds}
use Rattle.ap_fields.specs.FirstFault.{first_fault}
use Rattle.ap_fields.specs.Granules.{floor_of, ceil_of}
use Rattle.ap_fields.specs.Readings.{image_unless, bytes_in}
use Rattle.ap_fields.proofs.Bytes.{holds-front, holds-behind}
use Rattle.ap_fields.proofs.FieldReads.{FieldsHeld, fields-held, length-structure}
use Rattle.ap_fields.proofs.FirstFaults.{none-append}
use Rattle.ap_check.specs.declared.load.Load.{Load}
use Rattle.ap_check.specs.Inputs.{IsLoad, AreLoads, first_start}
use Rattle.ap_layout.specs.declared.layout.Area.{Area}
use Rattle.ap_layout.specs.Areas.{content_length}
use Rattle.ap_mach.specs.declared.types.MachHeader.{MachHeader}
use Rattle.ap_mach.specs.declared.types.SegmentCommand.{SegmentCommand}
use Rattle.ap_mach.specs.declared.types.CommandParts.{CommandParts}
use Rattle.ap_mach.specs.Format.{header_of, commands_end, thread_at, parts_from, parts_in}
use Rattle.ap_mach.specs.MachReading.{header_rules, commands_rules, mach_rules, maps, segments_of, start_of, segment_cell}
use Rattle.ap_mach.specs.Segments.{load_segment, zero_segment, load_segments, segment_command, segment_table}
use Rattle.ap_mach.specs.Written.{written_size, header_rows, header, thread_rows, thread_command, headers_with}
use Rattle.ap_mach.specs.ReadBack.{HasArea, HaveAreas, MachReadsBack}
use Rattle.ap_mach.proofs.SegmentTables.{length-segment_command, length-load_segments, length-segment_table}
use Rattle.ap_mach.proofs.Protections.{protects}
use Rattle.ap_mach.proofs.Walks.{Passes, ArePassed, Walked, parts-segment, walk-zero, walk}

-- ---- the header

abbrev written : ℕ → MachHeader
written n = record { magic = 0xfeedfacf; cpu = 0x1000007; kind = 2; count = n + 2; size = written_size n }

header-held : (w : List ℕ) (n : ℕ) → Holds w 0 (header n) → FieldsHeld w 0 (header_rows n)
unfolding header
header-held w n held = fields-held w 0 32 (header_rows n) refl held

header-read : (w : List ℕ) (n : ℕ) → n ≤ 24 → Holds w 0 (header n) → header_of w ≡ written n
unfolding header_of
header-read w n few held =
    let h : FieldsHeld w 0 (header_rows n) = header-held w n held in
    λ i. record {
      magic = h.0 (omega arith) i;
      cpu = h.1.0 (omega arith) i;
      kind = h.1.1.1.0 (omega arith) i;
      count = h.1.1.1.1.0 (omega arith) i;
      size = h.1.1.1.1.1.0 (omega arith) i;
    }

header-none : (len n : ℕ) → n ≤ 24 → 32 + written_size n ≤ len → first_fault (header_rules len (written n)) ≡ None
header-none len n few room =
    let t1 : nat_le 32 len ≡ true = grind (arith, nat_tests) in
    let t2 : nat_le (n + 2) 1024 ≡ true = grind (arith, nat_tests) in
    let t3 : nat_le (32 + written_size n) len ≡ true = grind (arith, nat_tests) in
    rw (t1, t2, t3) refl

-- ---- all commands

length-header : (n : ℕ) → length (header n) ≡ 32
unfolding header
length-header n = length-structure 32 (header_rows n) refl

length-thread_command : (start : ℕ) → length (thread_command start) ≡ 184
unfolding thread_command
length-thread_command start = length-structure 184 (thread_rows start) refl

-- what a file holds in its front, the front holds
holds-take : (w bytes : List ℕ) (end : ℕ) → length bytes ≡ end → Holds w 0 bytes → Holds (take end w) 0 bytes
holds-take w bytes end long held =
    let fits = held.fits in
    let l = length-take end w in
    record {
      fits = omega arith;
      same = λ k low. get_or-take end w (0 + k) 0 (omega arith) ∙ held.same k low;
    }

-- what is read of headers as they are written
record HeadersRead (w : List ℕ) (start : ℕ) (segments : List SegmentCommand) : Type 0 where
  pub none : first_fault (mach_rules w) ≡ None
  pub segments_are : segments_of (parts_in w) ≡ segments
  pub begins : start_of (parts_in w) ≡ start

length-commands : (start : ℕ) (zero : SegmentCommand) (segments : List SegmentCommand)
    → length (header (length segments) ++ (segment_command 0x4f52455a5f5f 0 zero ++ (segment_table 1 segments ++ thread_command start))) ≡ 32 + written_size (length segments)
length-commands start zero segments =
    let l1 = length-header (length segments) in
    let l2 = length-segment_command 0x4f52455a5f5f 0 zero in
    let l3 = length-segment_table 1 segments in
    let l4 = length-thread_command start in
    let a1 = length-append (segment_table 1 segments) (thread_command start) in
    let a2 = length-append (segment_command 0x4f52455a5f5f 0 zero) (segment_table 1 segments ++ thread_command start) in
    let a3 = length-append (header (length segments)) (segment_command 0x4f52455a5f5f 0 zero ++ (segment_table 1 segments ++ thread_command start)) in
    omega arith

commands-walked : (w : List ℕ) (start : ℕ) (zero : SegmentCommand) (segments : List SegmentCommand) → length segments ≤ 24 → Passes (length w) zero → maps zero ≡ false → ArePassed (length w) 0 segments → start < 2 ^ 64
    → Holds w 0 (header (length segments) ++ (segment_command 0x4f52455a5f5f 0 zero ++ (segment_table 1 segments ++ thread_command start)))
    → Walked (length w) (32 + written_size (length segments)) 1 0 0 start segments (parts_from (take (32 + written_size (length segments)) w) 32 (suc (suc (length segments))))
commands-walked w start zero segments few bare off passed small held =
    let n : ℕ = length segments in
    let end : ℕ = 32 + written_size n in
    let f : List ℕ = take end w in
    let first : List ℕ = segment_command 0x4f52455a5f5f 0 zero in
    let more : List ℕ = segment_table 1 segments ++ thread_command start in
    let all : Holds f 0 (header n ++ (first ++ more)) = holds-take w (header n ++ (first ++ more)) end (length-commands start zero segments) held in
    let commands : Holds f 32 (first ++ more) = holds-behind f 0 32 (header n) (first ++ more) (let l = length-header n in omega arith) all in
    let here = parts-segment f 32 0x4f52455a5f5f 0 zero bare.fits (holds-front f 32 first more commands) in
    let behind : Holds f 104 more = holds-behind f 32 104 first more (let l = length-segment_command 0x4f52455a5f5f 0 zero in omega arith) commands in
    let rest = walk (length w) end 2 0 0 start 104 1 f segments passed (omega arith) (omega arith) small behind in
    subst (λ (p : CommandParts). Walked (length w) end 1 0 0 start segments (p ∷ parts_from f (32 + p.front.size) (suc n))) (sym here)
    (walk-zero (length w) end 1 0 0 start 32 zero (thread_at f 32) segments (parts_from f 104 (suc n)) (omega arith) bare off rest)

headers-read : (w : List ℕ) (start : ℕ) (zero : SegmentCommand) (segments : List SegmentCommand) → length segments ≤ 24 → Passes (length w) zero → maps zero ≡ false → ArePassed (length w) 0 segments → start < 2 ^ 64
    → Holds w 0 (headers_with start zero segments) → HeadersRead w start segments
unfolding headers_with
headers-read w start zero segments few bare off passed small held =
    let n : ℕ = length segments in
    let end : ℕ = 32 + written_size n in
    let more : List ℕ = segment_command 0x4f52455a5f5f 0 zero ++ (segment_table 1 segments ++ thread_command start) in
    let walked = commands-walked w start zero segments few bare off passed small held in
    let head : header_of w ≡ written n = header-read w n few (holds-front w 0 (header n) more held) in
    let room : end ≤ length w = (let fits = held.fits in let l = length-commands start zero segments in omega arith) in
    let two : n + 2 ≡ suc (suc n) = omega arith in
    let parts : parts_in w ≡ parts_from (take end w) 32 (suc (suc n)) =
    ap (λ (h : MachHeader). parts_from (take (commands_end h) w) 32 h.count) head ∙ ap (parts_from (take end w) 32) two in
    let none : first_fault (header_rules (length w) (header_of w)) ≡ None =
    ap (λ (h : MachHeader). first_fault (header_rules (length w) h)) head ∙ header-none (length w) n few room in
    record {
      none = none-append (header_rules (length w) (header_of w)) (commands_rules (length w) (commands_end (header_of w)) 1 0 0 false (parts_in w)) none
          ∙ ap (λ (h : MachHeader). first_fault (commands_rules (length w) (commands_end h) 1 0 0 false (parts_in w))) head
          ∙ ap (λ (l : List CommandParts). first_fault (commands_rules (length w) end 1 0 0 false l)) parts
          ∙ walked.none;
      segments_are = ap segments_of parts ∙ walked.segments_are;
      begins = ap start_of parts ∙ walked.begins;
    }

-- ---- the segments of loads

-- a load's granules, by its address and its sizes
record Granules (v f m : ℕ) : Type 0 where
  pub start : floor_of v 4096 % 4096 ≡ 0
  pub span : (ceil_of (v + m) 4096 - floor_of v 4096) % 4096 ≡ 0
  pub low : floor_of v 4096 ≤ v
  pub sum : floor_of v 4096 + (ceil_of (v + m) 4096 - floor_of v 4096) ≡ ceil_of (v + m) 4096
  pub above : v + m ≤ ceil_of (v + m) 4096
  pub stop : v + m ≤ 2 ^ 47 → ceil_of (v + m) 4096 ≤ 2 ^ 47
  pub within : f ≤ m → ceil_of (v % 4096 + f) 4096 ≤ ceil_of (v + m) 4096 - floor_of v 4096

within-granules : (v f m : ℕ) → f ≤ m → floor_of v 4096 + ceil_of (v % 4096 + f) 4096 ≤ ceil_of (v + m) 4096
within-granules v f m h = grind (arith, nat_tests)

granules : (v f m : ℕ) → Granules v f m
granules v f m = record {
  start = omega arith;
  span = omega arith;
  low = omega arith;
  sum = omega arith;
  above = omega arith;
  stop = λ h. omega arith;
  within = λ h. let w = within-granules v f m h in omega arith;
}

-- the part of the file that a load's area is
record AreaIs (len : ℕ) (p : Load) (x : Area) : Type 0 where
  pub granule : x.file % 4096 ≡ 0
  pub long : x.len ≤ ceil_of (p.vaddr + p.memsz) 4096 - floor_of p.vaddr 4096
  pub part : x.file + x.len ≤ len

area-is : (len : ℕ) (p : Load) (x : Area) → p.filesz ≤ p.memsz → HasArea len p x → AreaIs len p x
unfolding content_length
area-is len p x sizes h =
    let g = granules p.vaddr p.filesz p.memsz in
    let within = g.within sizes in
    elim (cases_Bool (p.filesz == 0)) [
      | inl none ↦
          (let z : p.filesz ≡ 0 = grind (arith, nat_tests) in
          let file : x.file ≡ 0 = ap (λ (a : Area). a.file) (h.bare z) in
          let long : x.len ≡ 0 = ap (λ (a : Area). a.len) (h.bare z) in
          record { granule = omega arith; long = omega arith; part = omega arith })
      | inr not_none ↦
          (let some : 0 < p.filesz = grind (arith, nat_tests) in
          let long = h.long some in
          record { granule = h.granule some; long = omega arith; part = h.part some })
    ]

load-passes : (len size low : ℕ) (p : Load) (x : Area) → IsLoad 4096 size low p → HasArea len p x → len < 2 ^ 64 → Passes len (load_segment p x) × (maps (load_segment p x) ≡ true)
unfolding load_segment
load-passes len size low p x load area small =
    let g = granules p.vaddr p.filesz p.memsz in
    let a = area-is len p x load.sizes area in
    let bits = protects p.perms.0 load.perms load.readable in
    let start = g.start in let span = g.span in let sum = g.sum in let above = g.above in let below = g.low in
    let stop = g.stop load.top in
    let granule = a.granule in let long = a.long in let part = a.part in
    let memory = load.some in
    let s : SegmentCommand = load_segment p x in
    let some : not (s.vmsize == 0) ≡ true = grind (arith, nat_tests) in (
      record {
        aligned = grind (arith, nat_tests);
        sizes = long;
        part = part;
        top = omega arith;
        fits = record { vmaddr = omega arith; vmsize = omega arith; fileoff = omega arith; filesize = omega arith; initprot = bits.small };
      },
      rw (bits.some, some) refl,
    )

loads-pass : (len size low : ℕ) (loads : List Load) (areas : List Area) → AreLoads 4096 size low loads → HaveAreas len loads areas → len < 2 ^ 64 → ArePassed len low (load_segments loads areas)
unfolding load_segment
loads-pass len size low [] areas are have small = tt
loads-pass len size low (p ∷ loads) [] are have small = absurd have
loads-pass len size low (p ∷ loads) (x ∷ areas) are have small =
    let one = load-passes len size low p x are.0 have.0 small in
    let g = granules p.vaddr p.filesz p.memsz in
    let rest = loads-pass len size (ceil_of (p.vaddr + p.memsz) 4096) loads areas are.1 have.1 small in
    (one.0, one.1, are.0.order, subst (λ (k : ℕ). ArePassed len k (load_segments loads areas)) (sym g.sum) rest)

first-low : (size low : ℕ) (loads : List Load) → AreLoads 4096 size low loads → (first_start 4096 loads % 4096 ≡ 0) × (first_start 4096 loads ≤ 2 ^ 47)
first-low size low [] are = (refl, omega arith)
first-low size low (p ∷ loads) are =
    let g = granules p.vaddr p.filesz p.memsz in
    let top = are.0.top in
    let below = g.low in
    (g.start, omega arith)

zero-passes : (len size low : ℕ) (loads : List Load) → AreLoads 4096 size low loads → Passes len (zero_segment loads)
unfolding zero_segment
zero-passes len size low loads are =
    let first = first-low size low loads are in
    let even = first.0 in
    let top = first.1 in
    record {
      aligned = grind (arith, nat_tests);
      sizes = omega arith;
      part = omega arith;
      top = omega arith;
      fits = record { vmaddr = omega arith; vmsize = omega arith; fileoff = omega arith; filesize = omega arith; initprot = omega arith };
    }

zero-bare : (loads : List Load) → maps (zero_segment loads) ≡ false
unfolding zero_segment
zero-bare loads = refl

have-same : (len : ℕ) (loads : List Load) (areas : List Area) → HaveAreas len loads areas → length areas ≡ length loads
have-same len [] [] have = refl
have-same len [] (x ∷ areas) have = absurd have
have-same len (p ∷ loads) [] have = absurd have
have-same len (p ∷ loads) (x ∷ areas) have = ap suc (have-same len loads areas have.1)

-- the law
pub reads-back : MachReadsBack
reads-back w size start loads areas given =
    let few = given.few in
    let segments : List SegmentCommand = load_segments loads areas in
    let count : length segments ≡ length loads = length-load_segments loads areas (have-same (length w) loads areas given.areas_are) in
    let passed : ArePassed (length w) 0 segments = loads-pass (length w) size 0 loads areas given.loads_are given.areas_are given.small in
    let read = headers-read w start (zero_segment loads) segments (omega arith) (zero-passes (length w) size 0 loads given.loads_are) (zero-bare loads) passed given.low given.headers in
    ap (λ o. image_unless o (record { entry = start_of (parts_in w); cell = segment_cell (bytes_in w) (segments_of (parts_in w)) })) read.none
    ∙ ap (λ a. Ok (record { entry = a; cell = segment_cell (bytes_in w) (segments_of (parts_in w)) })) read.begins
    ∙ ap (λ (l : List SegmentCommand). Ok (record { entry = start; cell = segment_cell (bytes_in w) l })) read.segments_are
