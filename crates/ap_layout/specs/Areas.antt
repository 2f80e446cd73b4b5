-- The areas of a linked file: for each load that has bytes in its input's file, whole granules that hold them as far from
-- a granule's start as they are in memory, and zeros beside them. A cursor places them behind the block.
use Rattle.std.specs.Prelude.{◌≡◌, ◌⊎◌, ℕ, ◌+◌, ◌-◌, ◌%◌, ◌<◌, ◌≤◌, ◌==◌, ◌&&◌, not, nat_le, max, Bool, if◌then◌else◌, List, [], ◌∷◌, ◌++◌, Option, Some, None}
use Rattle.ap_fields.specs.Bytes.{zeros, listed}
use Rattle.ap_fields.specs.Granules.{ceil_of}
use Rattle.ap_fields.specs.declared.sizes.TheConstants.{BLOCK}
use Rattle.ap_check.specs.declared.load.Load.{Load}
use Rattle.ap_layout.specs.declared.layout.Area.{Area}

-- how long the content of a load's area is
unfoldable pub content_length : ℕ → Load → ℕ
content_length g p = ceil_of (p.vaddr % g + p.filesz) g

-- the content: zeros, the load's bytes in the file, zeros
unfoldable pub content_of : ℕ → (ℕ → ℕ) → Load → List ℕ
content_of g byte p = zeros (p.vaddr % g) ++ (listed byte p.offset p.filesz ++ zeros (content_length g p - (p.vaddr % g + p.filesz)))

abbrev pub no_area : Area
no_area = record { file = 0; len = 0 }

abbrev pub end_of : Area → ℕ
end_of a = a.file + a.len

-- the area of a load, where the cursor stands at c and an area that stands already may serve the load
abbrev pub area_of : Option Area → ℕ → Load → ℕ → Area
area_of (Some shared) g p c = if p.filesz == 0 then no_area else shared
area_of None g p c = if p.filesz == 0 then no_area else record { file = ceil_of c g; len = content_length g p }

-- the cursor behind an area; one that stood already leaves it
abbrev pub after : ℕ → Area → ℕ
after c a = max c (end_of a)

-- the areas of loads, counted from i, where `shares` tells the area that serves a load already
abbrev pub areas_of : (ℕ → Option Area) → ℕ → ℕ → List Load → ℕ → List Area
areas_of shares i g [] c = []
areas_of shares i g (p ∷ loads) c = area_of (shares i) g p c ∷ areas_of shares (i + 1) g loads (after c (area_of (shares i) g p c))

-- the cursor behind some areas
abbrev pub end_from : ℕ → List Area → ℕ
end_from c [] = c
end_from c (a ∷ areas) = end_from (after c a) areas

-- whether an area is a new one, where the cursor stands at c
abbrev pub is_new : ℕ → Area → Bool
is_new c a = not (a.len == 0) && nat_le c a.file

-- the areas that are new
abbrev pub new_areas : ℕ → List Area → List Area
new_areas c [] = []
new_areas c (a ∷ areas) = if is_new c a then a ∷ new_areas (end_of a) areas else new_areas c areas

abbrev pub Among : Area → List Area → Type 0
Among a [] = ⊥
Among a (b ∷ areas) = (a ≡ b) ⊎ Among a areas

-- two areas that are the same or don't overlap
abbrev pub AreApart : Area → Area → Type 0
AreApart a b = (a ≡ b) ⊎ ((end_of a ≤ b.file) ⊎ (end_of b ≤ a.file))

-- an area serves a load: it is empty where the load has no bytes in the file, else it stands behind the block, on a granule,
-- has the content's length, and is one of the new ones
pub record Serves (g : ℕ) (news : List Area) (p : Load) (a : Area) : Type 0 where
  pub bare : p.filesz ≡ 0 → a ≡ no_area
  pub len : 0 < p.filesz → a.len ≡ content_length g p
  pub granule : 0 < p.filesz → a.file % g ≡ 0
  pub past : 0 < p.filesz → BLOCK ≤ a.file
  pub new : 0 < p.filesz → Among a news

abbrev pub ServeAll : ℕ → List Area → List Load → List Area → Type 0
ServeAll g news [] [] = Unit {0}
ServeAll g news [] (a ∷ areas) = ⊥
ServeAll g news (p ∷ loads) [] = ⊥
ServeAll g news (p ∷ loads) (a ∷ areas) = Serves g news p a × ServeAll g news loads areas
