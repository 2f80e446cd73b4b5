-- The Mach-O reading of a file with an input's Mach-O header over its first bytes, and its areas, has the input's image.
use Rattle.std.proofs.Common.{◌≡◌, inl, ℕ, ◌+◌, ◌-◌, ◌%◌, ◌<◌, ◌≤◌, false, ◌==◌, cond, List, [], ◌∷◌, length, map, drop, refl, sym, ap, ◌∙◌, subst, arith}
use Rattle.std.proofs.lemmas.Bool.Decides.{nat_tests}
use Rattle.ap_fields.specs.Bytes.{over}
use Rattle.ap_fields.specs.Granules.{floor_of, ceil_of}
use Rattle.ap_fields.specs.Readings.{MemoryImage, bytes_in}
use Rattle.ap_fields.proofs.Bytes.{holds-part}
use Rattle.ap_elf.specs.Fields.{loads_in}
use Rattle.ap_elf.specs.declared.machine.Machine.{Machine}
use Rattle.ap_elf.specs.Machines.{granule_of}
use Rattle.ap_check.specs.declared.load.Load.{Load}
use Rattle.ap_check.specs.Inputs.{IsLoad, AreLoads}
use Rattle.ap_image.specs.declared.plan.Region.{Region}
use Rattle.ap_layout.specs.declared.layout.Area.{Area}
use Rattle.ap_mach.specs.declared.types.SegmentCommand.{SegmentCommand}
use Rattle.ap_mach.specs.Segments.{load_segment, load_segments}
use Rattle.ap_mach.specs.Written.{mach_headers}
use Rattle.ap_mach.specs.MachReading.{segment_cell}
use Rattle.ap_mach.specs.ReadBack.{HasArea, HaveAreas, BeginsWith}
use Rattle.ap_mach.proofs.HeaderReads.{reads-back}
use Rattle.ap_mach.proofs.Protections.{segments-allow}
use Rattle.ap_mach.proofs.LinkedHeaders.{length-mach_headers}
use Rattle.ap_machmap.specs.MachPlans.{region_of}
use Rattle.ap_machmap.specs.Laws.{segment-cells}
use Rattle.ap_link.specs.Same.{HasImage, Same, nothing_else}
use Rattle.ap_link.specs.LinkedIn.{IsHeld, HoldAll}
use Rattle.ap_link.specs.MachImages.{MachIsSame}
use Rattle.ap_link.proofs.Granules.{floor-sum}
use Rattle.ap_link.proofs.Contents.{content-room}
use Rattle.ap_link.proofs.Passing.{area-fits}
use Rattle.ap_link.proofs.Holding.{length-over}
use Rattle.ap_link.proofs.LinkedImages.{all-over}
use Rattle.ap_link.proofs.Shown.{ShowAll, IsBackedBy, backed-shows, same-image}
use Rattle.ap_fields.proofs.Granules.{ceil_of-least}

-- an area that holds a load's content
area-has : (byte : ℕ → ℕ) (file : List ℕ) (p : Load) (x : Area) → IsHeld 4096 byte file p x → HasArea (length file) p x
area-has byte file p x held = record {
  bare = held.bare;
  long = held.len;
  granule = held.granule;
  part = λ some. (let fits = area-fits 4096 byte file p x (inl refl) held some in let long = held.len some in omega arith);
}

have-areas : (byte : ℕ → ℕ) (file : List ℕ) (loads : List Load) (areas : List Area) → HoldAll 4096 byte file loads areas → HaveAreas (length file) loads areas
have-areas byte file [] [] held = tt
have-areas byte file [] (x ∷ areas) held = held
have-areas byte file (p ∷ loads) [] held = held
have-areas byte file (p ∷ loads) (x ∷ areas) held = (area-has byte file p x held.0, have-areas byte file loads areas held.1)

same-count : (byte : ℕ → ℕ) (file : List ℕ) (loads : List Load) (areas : List Area) → HoldAll 4096 byte file loads areas → length areas ≡ length loads
same-count byte file [] [] held = refl
same-count byte file [] (x ∷ areas) held = absurd held
same-count byte file (p ∷ loads) [] held = absurd held
same-count byte file (p ∷ loads) (x ∷ areas) held = let more = same-count byte file loads areas held.1 in omega arith

-- the region of a load's segment, by numbers
at-numbers : (len file place : ℕ) → place ≡ cond (len == 0) 0 file → 0 < len → place ≡ file
at-numbers len file place is some = let off : (len == 0) ≡ false = grind (arith, nat_tests) in is ∙ ap (λ b. cond b 0 file) off

-- it is backed by the load's area
segment-backed : (size low : ℕ) (byte : ℕ → ℕ) (file : List ℕ) (p : Load) (x : Area) → IsLoad 4096 size low p → IsHeld 4096 byte file p x → IsBackedBy 4096 p x (region_of (load_segment p x))
unfolding region_of load_segment
segment-backed size low byte file p x load held =
    let sum : floor_of p.vaddr 4096 + p.vaddr % 4096 ≡ p.vaddr = (floor-sum p.vaddr 4096 (inl refl)).0 in
    let above : p.vaddr + p.memsz ≤ ceil_of (p.vaddr + p.memsz) 4096 = ceil_of-least (p.vaddr + p.memsz) 4096 (inl refl) in
    let room = content-room 4096 p (inl refl) in
    record {
      low = omega arith;
      start = omega arith;
      stop = omega arith;
      high = omega arith;
      perms = segments-allow p x load.perms;
      bare = λ none. ap (λ (a : Area). a.len) (held.bare none);
      at = λ some.
          let long = held.len some in
          let place = at-numbers x.len x.file _ refl (omega arith) in
          ap (λ n. n + (p.vaddr - floor_of p.vaddr 4096)) place ∙ omega arith;
      whole = λ some. (let long = held.len some in omega arith);
      within = λ some. (let long = held.len some in omega arith);
    }

segments-show : (size low : ℕ) (byte : ℕ → ℕ) (file : List ℕ) (loads : List Load) (areas : List Area) → AreLoads 4096 size low loads → HoldAll 4096 byte file loads areas
    → ShowAll 4096 byte (bytes_in file) nothing_else loads (map region_of (load_segments loads areas))
segments-show size low byte file [] [] order held = tt
segments-show size low byte file [] (x ∷ areas) order held = absurd held
segments-show size low byte file (p ∷ loads) [] order held = absurd held
segments-show size low byte file (p ∷ loads) (x ∷ areas) order held = inl (
  backed-shows 4096 byte file p x (region_of (load_segment p x)) (inl refl) held.0.holds (segment-backed size low byte file p x order.0 held.0),
  segments-show size (ceil_of (p.vaddr + p.memsz) 4096) byte file loads areas order.1 held.1,
)

pub mach-is-same : MachIsSame
mach-is-same e entries byte areas at start file linked machine small =
    let loads : List Load = e.loads in
    let M : List ℕ = mach_headers start loads areas in
    let v : List ℕ = over file M in
    let order : AreLoads 4096 e.size 0 loads = subst (λ (m : Machine). AreLoads (granule_of m) e.size 0 loads) machine linked.meets.loads in
    let held : HoldAll 4096 byte file loads areas = subst (λ (m : Machine). HoldAll (granule_of m) byte file loads areas) machine linked.held in
    let few = linked.meets.few in
    let block = linked.block in
    let short = linked.small in
    let long = length-mach_headers start loads areas (same-count byte file loads areas held) in
    let whole : length v ≡ length file = length-over file M (omega arith) in
    let there : HoldAll 4096 byte v loads areas = all-over 4096 byte file M loads areas (omega arith) (omega arith) held in
    let begins : BeginsWith v e.size start loads areas = record {
      few = few;
      loads_are = order;
      areas_are = have-areas byte v loads areas there;
      low = small;
      small = omega arith;
      headers = holds-part [] M (drop (length M) file) 0 refl;
    } in
    let segments : List SegmentCommand = load_segments loads areas in
    let image : MemoryImage = record { entry = start; cell = segment_cell (bytes_in v) segments } in
    let regions : List Region = map region_of segments in
    let shows : ShowAll 4096 byte (bytes_in v) nothing_else loads regions = segments-show e.size 0 byte v loads areas order there in
    let has : HasImage 4096 byte (loads_in entries) start nothing_else image =
    same-image 4096 e.size byte (bytes_in v) nothing_else (loads_in entries) regions start image (inl refl)
    (subst (λ (l : List Load). AreLoads 4096 e.size 0 l) linked.loads order) refl (λ a. segment-cells (bytes_in v) segments a)
    (subst (λ (l : List Load). ShowAll 4096 byte (bytes_in v) nothing_else l regions) linked.loads shows) in
    subst (λ r. Same 4096 byte (loads_in entries) start nothing_else r) (sym (reads-back v e.size start loads areas begins)) has
