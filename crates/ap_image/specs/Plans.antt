-- A plan of memory: regions of addresses, each of which shows a part of a file and zeros behind it, and what stands at an
-- address.
use Rattle.std.specs.Prelude.{◌≡◌, ℕ, ◌+◌, ◌-◌, ◌^◌, ◌<◌, ◌≤◌, ◌&&◌, nat_le, nat_lt, if◌then◌else◌, Bool, List, [], ◌∷◌, Option, Some, None}
use Rattle.ap_fields.specs.Readings.{Cell}
use Rattle.ap_fields.specs.declared.perms.Perms.{Perms}
use Rattle.ap_image.specs.declared.plan.Region.{Region}

-- what is mapped, and where the program starts
pub record Mapping : Type 0 where
  pub regions : List Region
  pub entry : ℕ

-- the first address behind a region
abbrev pub end_of : Region → ℕ
end_of r = r.start + r.span

-- a region maps something, and shows no more of the file than it maps
pub record IsRegion (r : Region) : Type 0 where
  pub maps : 0 < r.span
  pub part : r.backed ≤ r.span
  pub bare : r.backed ≡ 0 → r.at ≡ 0

-- regions that ascend from an address on, don't overlap, and end at or below 2^47
abbrev pub AreAscendingFrom : ℕ → List Region → Type 0
AreAscendingFrom low [] = low ≤ 2 ^ 47
AreAscendingFrom low (r ∷ regions) = (low ≤ r.start) × IsRegion r × AreAscendingFrom (end_of r) regions

-- what each region shows of a file lies in its length
abbrev pub AreBacked : List Region → ℕ → Type 0
AreBacked [] len = Unit {0}
AreBacked (r ∷ regions) len = (r.at + r.backed ≤ len) × AreBacked regions len

abbrev pub has_address : Region → ℕ → Bool
has_address r a = nat_le r.start a && nat_lt a (end_of r)

-- the region that has an address
abbrev pub region_at : List Region → ℕ → Option Region
region_at [] a = None
region_at (r ∷ regions) a = if has_address r a then Some r else region_at regions a

-- the byte at an address of a region: the file's in its first part, 0 behind it
abbrev pub region_byte : (ℕ → ℕ) → Region → ℕ → ℕ
region_byte byte r a = if nat_lt (a - r.start) r.backed then byte (r.at + (a - r.start)) else 0

-- the cell at an address, by the region that has it
abbrev pub cell_in : (ℕ → ℕ) → List Region → ℕ → Option Cell
cell_in byte [] a = None
cell_in byte (r ∷ regions) a = if has_address r a then Some (region_byte byte r a, r.perms.0) else cell_in byte regions a

-- a byte and permissions as a cell
abbrev pub cell_of : Option (ℕ × Perms) → Option Cell
cell_of None = None
cell_of (Some (byte, perms)) = Some (byte, perms.0)

-- a plan over a file in memory
pub record Imaged : Type 0 where
  pub plan : Mapping
  pub file : List ℕ
