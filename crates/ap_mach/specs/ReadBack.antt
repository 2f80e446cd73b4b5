-- What the Mach-O reading finds in a file that begins with a program's headers as they are written, and has its loads' areas.
use Rattle.std.specs.Prelude.{◌≡◌, ℕ, ◌+◌, ◌%◌, ◌^◌, ◌<◌, ◌≤◌, List, [], ◌∷◌, length, Ok}
use Rattle.ap_fields.specs.Bytes.{Holds}
use Rattle.ap_fields.specs.Readings.{bytes_in}
use Rattle.ap_fields.specs.declared.sizes.TheConstants.{MOST_LOADS}
use Rattle.ap_check.specs.declared.load.Load.{Load}
use Rattle.ap_check.specs.Inputs.{AreLoads}
use Rattle.ap_layout.specs.declared.layout.Area.{Area}
use Rattle.ap_layout.specs.Areas.{content_length, no_area}
use Rattle.ap_mach.specs.declared.constants.TheConstants.{SEGMENT_ALIGNMENT}
use Rattle.ap_mach.specs.MachReading.{segment_cell, permissions_of, mach_reading}
use Rattle.ap_mach.specs.Segments.{load_segment, load_segments}
use Rattle.ap_mach.specs.Written.{mach_headers}

-- an area of a load in a file of so many bytes: as long as the load's content, on a granule
pub record HasArea (len : ℕ) (p : Load) (x : Area) : Type 0 where
  pub bare : p.filesz ≡ 0 → x ≡ no_area
  pub long : 0 < p.filesz → x.len ≡ content_length SEGMENT_ALIGNMENT p
  pub granule : 0 < p.filesz → x.file % SEGMENT_ALIGNMENT ≡ 0
  pub part : 0 < p.filesz → x.file + x.len ≤ len

abbrev pub HaveAreas : ℕ → List Load → List Area → Type 0
HaveAreas len [] [] = Unit {0}
HaveAreas len [] (x ∷ areas) = ⊥
HaveAreas len (p ∷ loads) [] = ⊥
HaveAreas len (p ∷ loads) (x ∷ areas) = HasArea len p x × HaveAreas len loads areas

-- a file begins with the headers of an input for x86-64, of so many bytes, that starts at an address
pub record BeginsWith (w : List ℕ) (size start : ℕ) (loads : List Load) (areas : List Area) : Type 0 where
  pub few : length loads ≤ MOST_LOADS
  pub loads_are : AreLoads SEGMENT_ALIGNMENT size 0 loads
  pub areas_are : HaveAreas (length w) loads areas
  pub low : start < 2 ^ 64
  pub small : length w < 2 ^ 64
  pub headers : Holds w 0 (mach_headers start loads areas)

-- it isn't refused, starts there, and has the loads' segments, each with its load's permissions
abbrev pub MachReadsBack : Type 0
MachReadsBack = (w : List ℕ) (size start : ℕ) (loads : List Load) (areas : List Area) → BeginsWith w size start loads areas
    → mach_reading w ≡ Ok (record { entry = start; cell = segment_cell (bytes_in w) (load_segments loads areas) })

abbrev pub SegmentsAllow : Type 0
SegmentsAllow = (p : Load) (x : Area) → p.perms.0 < 8 → permissions_of (load_segment p x) ≡ p.perms.0
