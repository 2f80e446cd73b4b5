-- Areas that serve loads of both inputs. A load of the second input is served by an area of the first where both loads have the
-- same content, which a mask tells.
use Rattle.std.specs.Prelude.{ℕ, ◌+◌, ◌*◌, ◌/◌, ◌%◌, ◌==◌, ◌&&◌, not, Bool, if◌then◌else◌, List, [], ◌∷◌, map, get_or, Option, Some, None}
use Rattle.std.specs.Str.{bytes_eq}
use Rattle.ap_elf.specs.Machines.{granule_of}
use Rattle.ap_check.specs.declared.load.Load.{Load}
use Rattle.ap_check.specs.Inputs.{Taken}
use Rattle.ap_layout.specs.declared.layout.Area.{Area}
use Rattle.ap_layout.specs.Areas.{content_length, content_of}

-- ---- which area serves a load

-- an area counts where its bit, the lowest of the mask, is set, and where it isn't empty, has the content's length, and stands on
-- the granule
abbrev pub is_shared : ℕ → ℕ → ℕ → Area → Bool
is_shared g len mask a = (mask % 2 == 1) && (not (a.len == 0) && ((a.len == len) && (a.file % g == 0)))

-- the first area that counts
abbrev pub shared_area : ℕ → ℕ → ℕ → List Area → Option Area
shared_area g len mask [] = None
shared_area g len mask (a ∷ areas) = if is_shared g len mask a then Some a else shared_area g len (mask / 2) areas

abbrev pub no_load : Load
no_load = record { offset = 0; vaddr = 0; filesz = 0; memsz = 0; perms = record { 0 = 0 } }

-- the area that serves load i of some, of those that stand already; a load without a mask has none
abbrev pub sharing : List ℕ → List Area → ℕ → List Load → ℕ → Option Area
sharing masks areas g loads i = shared_area g (content_length g (get_or loads i no_load)) (get_or masks i 0) areas

-- ---- masks that are true

-- two loads have bytes in their inputs' files, and the same content
abbrev pub are_twins : ℕ → (ℕ → ℕ) → Load → ℕ → (ℕ → ℕ) → Load → Bool
are_twins g byte p h other q = not (p.filesz == 0) && (not (q.filesz == 0) && bytes_eq (content_of g byte p) (content_of h other q))

abbrev pub bit_if : Bool → ℕ
bit_if b = if b then 1 else 0

-- the mask of a load q: bit i, counted from 0, is set exactly where load i is its twin
abbrev pub mask_of : ℕ → (ℕ → ℕ) → List Load → ℕ → (ℕ → ℕ) → Load → ℕ
mask_of g byte [] h other q = 0
mask_of g byte (p ∷ loads) h other q = bit_if (are_twins g byte p h other q) + 2 * mask_of g byte loads h other q

-- the masks of the loads of f, by the loads of e and the bytes of both
abbrev pub masks_of : Taken → (ℕ → ℕ) → Taken → (ℕ → ℕ) → List ℕ
masks_of e byte f other = map (λ q. mask_of (granule_of e.machine) byte e.loads (granule_of f.machine) other q) f.loads
