-- How a plan stands to the definition of a reading, and when two files look alike to a reading.
use Rattle.std.specs.Prelude.{◌≡◌, ℕ, ◌+◌, ◌<◌, List, [], ◌∷◌, length, Option, Some, None, Result, Ok, Err}
use Rattle.ap_fields.specs.Readings.{MemoryImage, bytes_in}
use Rattle.ap_image.specs.declared.plan.Region.{Region}
use Rattle.ap_image.specs.Plans.{Mapping, AreBacked, cell_in}

-- the mapping, unless there is a fault
abbrev pub mapping_unless : {Fault : Type 0} → Option Fault → Mapping → Result Mapping Fault
mapping_unless None m = Ok m
mapping_unless (Some fault) m = Err fault

-- a plan shows an image: it starts where the image does, and has its cell at each address
pub record Shows (m : Mapping) (file : List ℕ) (image : MemoryImage) : Type 0 where
  pub backed : AreBacked m.regions (length file)
  pub entry : m.entry ≡ image.entry
  pub cells : (a : ℕ) → cell_in (bytes_in file) m.regions a ≡ image.cell a

-- a plan for an image, and a fault for the same fault
abbrev pub IsPlanOf : {Fault : Type 0} → Result Mapping Fault → List ℕ → Result MemoryImage Fault → Type 0
IsPlanOf (Ok m) file (Ok image) = Shows m file image
IsPlanOf (Ok m) file (Err fault) = ⊥
IsPlanOf (Err found) file (Ok image) = ⊥
IsPlanOf (Err found) file (Err fault) = found ≡ fault

-- two files have equal bytes at these places
abbrev pub AgreeAt : (ℕ → Type 0) → List ℕ → List ℕ → Type 0
AgreeAt Place f g = (k : ℕ) → Place k → bytes_in f k ≡ bytes_in g k

-- two files have equal bytes where these regions show them
abbrev pub AgreeOn : List Region → List ℕ → List ℕ → Type 0
AgreeOn [] f g = Unit {0}
AgreeOn (r ∷ regions) f g = ((k : ℕ) → k < r.backed → bytes_in f (r.at + k) ≡ bytes_in g (r.at + k)) × AgreeOn regions f g

-- two files have equal bytes where a plan shows them; a fault shows nothing
abbrev pub AgreeOnPlan : {Fault : Type 0} → Result Mapping Fault → List ℕ → List ℕ → Type 0
AgreeOnPlan (Ok m) f g = AgreeOn m.regions f g
AgreeOnPlan (Err fault) f g = Unit {0}
