-- Why the laws of the reading hold: proofs, which nobody has to read.
use Rattle.std.proofs.Common.{◌≡◌, ℕ, ◌+◌, ◌-◌, ◌^◌, ◌<◌, ◌≤◌, Bool, true, false, if◌then◌else◌, nat_lt, ◌==◌, ◌&&◌, ◌||◌, List, [], ◌∷◌, ◌++◌, length, map, Option, Some, None, refl, ap, ◌∙◌, arith, inl, inr}
use Rattle.std.specs.Prelude.{Result}
use Rattle.std.proofs.lemmas.Bool.{cases_Bool}
use Rattle.std.proofs.lemmas.Bool.Decides.{nat_tests}
use Rattle.ap_fields.specs.FirstFault.{first_fault}
use Rattle.ap_fields.specs.Readings.{Cell, MemoryImage, image_unless, bytes_in}
use Rattle.ap_fields.proofs.FirstFaults.{append-none}
use Rattle.ap_image.specs.declared.plan.Region.{Region}
use Rattle.ap_image.specs.Plans.{Mapping, IsRegion, AreBacked, region_byte, cell_in}
use Rattle.ap_image.specs.Reading.{Shows, IsPlanOf, AgreeAt, mapping_unless}
use Rattle.ap_mach.specs.declared.types.MachHeader.{MachHeader}
use Rattle.ap_mach.specs.declared.types.SegmentCommand.{SegmentCommand}
use Rattle.ap_mach.specs.declared.types.CommandParts.{CommandParts}
use Rattle.ap_mach.specs.declared.fault.MachFault.{MachFault}
use Rattle.ap_mach.specs.Format.{header_of, commands_end, front_of, parts_from, parts_in}
use Rattle.ap_mach.specs.MachReading.{header_rules, front_rules, segment_rules, kind_rules, command_rules, commands_rules, mach_rules, is_segment, is_thread, maps, low_behind, count_behind, segments_of, segment_byte, segment_cell, permissions_of, has_address, mach_reading}
use Rattle.ap_mach.specs.Looks.{Looks}
use Rattle.ap_mach.proofs.Framed.{are-alike}
use Rattle.ap_machmap.specs.MachPlans.{region_of, mapping_of, mach_plan}

-- what the rules say of a segment that maps something
pub record IsPlaced (len low n : ℕ) (s : SegmentCommand) : Type 0 where
  pub some : 0 < s.vmsize
  pub sizes : s.filesize ≤ s.vmsize
  pub part : s.fileoff + s.filesize ≤ len
  pub top : s.vmaddr + s.vmsize ≤ 2 ^ 47
  pub order : low ≤ s.vmaddr
  pub few : n < 97

pub placed : (len k low n size : ℕ) (s : SegmentCommand) → maps s ≡ true → first_fault (segment_rules len k low n size s) ≡ None → IsPlaced len low n s
placed len k low n size s on h = record {
  some = grind (arith, nat_tests);
  sizes = grind (arith, nat_tests);
  part = grind (arith, nat_tests);
  top = grind (arith, nat_tests);
  order = grind (arith, nat_tests);
  few = grind (arith, nat_tests);
}

-- its region
pub record IsGood (len : ℕ) (r : Region) : Type 0 where
  pub region : IsRegion r
  pub backed : r.at + r.backed ≤ len

pub region-good : (len low n : ℕ) (s : SegmentCommand) → IsPlaced len low n s → IsGood len (region_of s)
unfolding region_of
region-good len low n s p =
    let some = p.some in
    let sizes = p.sizes in
    let part = p.part in
    record {
      region = record { maps = some; part = sizes; bare = grind (arith, nat_tests) };
      backed = grind (arith, nat_tests);
    }

-- of a command that meets its rules, what those of its kind say
pub kind-none : (len end k low n : ℕ) (before : Bool) (p : CommandParts) → first_fault (command_rules len end k low n before p) ≡ None → first_fault (kind_rules len k low n before p) ≡ None
kind-none len end k low n before p h = (append-none (front_rules end k p.front) (kind_rules len k low n before p) h).1

pub segment-none : (len k low n : ℕ) (before : Bool) (p : CommandParts) → is_segment p ≡ true → first_fault (kind_rules len k low n before p) ≡ None → first_fault (segment_rules len k low n p.front.size p.segment) ≡ None
segment-none len k low n before p on h = cc

-- where all rules hold, the regions lie in the file
backed-if : (len : ℕ) (b c : Bool) (s : SegmentCommand) (rest : List SegmentCommand) → (b ≡ true → c ≡ true → IsGood len (region_of s)) → AreBacked (map region_of rest) len
    → AreBacked (map region_of (if b && c then s ∷ rest else rest)) len
backed-if len true true s rest good h = ((good refl refl).backed, h)
backed-if len true false s rest good h = h
backed-if len false c s rest good h = h

commands-backed : (len end k low n : ℕ) (before : Bool) (parts : List CommandParts) → first_fault (commands_rules len end k low n before parts) ≡ None → AreBacked (map region_of (segments_of parts)) len
commands-backed len end k low n before [] none = tt
commands-backed len end k low n before (p ∷ parts) none =
    let both = append-none (command_rules len end k low n before p) (commands_rules len end (k + 1) (low_behind low p) (count_behind n p) (before || is_thread p) parts) none in
    let kind = kind-none len end k low n before p both.0 in
    backed-if len (is_segment p) (maps p.segment) p.segment (segments_of parts)
    (λ on some. region-good len low n p.segment (placed len k low n p.front.size p.segment some (segment-none len k low n before p on kind)))
    (commands-backed len end (k + 1) (low_behind low p) (count_behind n p) (before || is_thread p) parts both.1)

pub mach-backed : (b : List ℕ) → first_fault (mach_rules b) ≡ None → AreBacked (map region_of (segments_of (parts_in b))) (length b)
mach-backed b none =
    let h : MachHeader = header_of b in
    let both = append-none (header_rules (length b) h) (commands_rules (length b) (commands_end h) 1 0 0 false (parts_in b)) none in
    commands-backed (length b) (commands_end h) 1 0 0 false (parts_in b) both.1

-- two spellings of a segment's byte
byte-same : (byte : ℕ → ℕ) (at filesize k : ℕ) → (if nat_lt k filesize then byte ((if filesize == 0 then 0 else at) + k) else 0) ≡ (if nat_lt k filesize then byte (at + k) else 0)
byte-same byte at filesize k =
    elim (cases_Bool (filesize == 0)) [
      | inl none ↦ (let off : nat_lt k filesize ≡ false = grind (arith, nat_tests) in rw off refl)
      | inr some ↦ rw some refl
    ]

cell-if : (b : Bool) (v w perms : ℕ) (x y : Option Cell) → v ≡ w → x ≡ y → (if b then Some (v, perms) else x) ≡ (if b then Some (w, perms) else y)
cell-if true v w perms x y same rest = ap (λ (z : ℕ). Some (z, perms)) same
cell-if false v w perms x y same rest = rest

pub segment-cells : (byte : ℕ → ℕ) (segments : List SegmentCommand) (a : ℕ) → cell_in byte (map region_of segments) a ≡ segment_cell byte segments a
unfolding region_of
segment-cells byte [] a = refl
segment-cells byte (s ∷ segments) a =
    cell-if (has_address s a) (region_byte byte (region_of s) a) (segment_byte byte s (a - s.vmaddr)) (permissions_of s) _ _
    (byte-same byte s.fileoff s.filesize (a - s.vmaddr))
    (segment-cells byte segments a)

plan-unless : (fault : Option MachFault) (m : Mapping) (file : List ℕ) (image : MemoryImage) → (fault ≡ None → Shows m file image) → IsPlanOf (mapping_unless fault m) file (image_unless fault image)
plan-unless None m file image h = h refl
plan-unless (Some fault) m file image h = refl

-- law cells
pub cells-mach : (b : List ℕ) → IsPlanOf (mach_plan b) b (mach_reading b)
cells-mach b =
    plan-unless (first_fault (mach_rules b)) _ b _
    (λ none. record { backed = mach-backed b none; entry = refl; cells = λ a. segment-cells (bytes_in b) (segments_of (parts_in b)) a })

-- the plan by length, header and front
plan-by : ℕ → MachHeader → List ℕ → Result Mapping MachFault
plan-by len h front =
    mapping_unless (first_fault (header_rules len h ++ commands_rules len (commands_end h) 1 0 0 false (parts_from front 32 h.count)))
    (mapping_of (parts_from front 32 h.count))

-- law frame
pub frame-mach : (f g : List ℕ) → length f ≡ length g → AgreeAt (Looks f) f g → mach_plan f ≡ mach_plan g
unfolding plan-by
frame-mach f g len agree =
    let alike = are-alike f g len agree in
    ap (λ n. plan-by n (header_of f) (front_of f)) len
    ∙ ap (λ (h : MachHeader). plan-by (length g) h (front_of f)) alike.header
    ∙ ap (plan-by (length g) (header_of g)) alike.front
