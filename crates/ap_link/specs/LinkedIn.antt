-- A file in which an input was linked: its program header table stands in the block, and each load's content in its area.
use Rattle.std.specs.Prelude.{◌≡◌, ℕ, ◌+◌, ◌^◌, ◌<◌, ◌≤◌, ◌%◌, List, [], ◌∷◌, length}
use Rattle.ap_fields.specs.Bytes.{Holds}
use Rattle.ap_fields.specs.declared.sizes.TheConstants.{BLOCK}
use Rattle.ap_elf.specs.declared.types.Entry.{Entry}
use Rattle.ap_check.specs.declared.load.Load.{Load}
use Rattle.ap_elf.specs.Machines.{granule_of}
use Rattle.ap_check.specs.Inputs.{Taken, Meets, loads_of}
use Rattle.ap_layout.specs.declared.layout.Area.{Area}
use Rattle.ap_layout.specs.Areas.{content_of, content_length, no_area}
use Rattle.ap_layout.specs.Positions.{table_length}
use Rattle.ap_script.specs.Tables.{table_text}

-- an area of a file has a load's content, and its length, which is none where the load has no bytes in its input's file
pub record IsHeld (g : ℕ) (byte : ℕ → ℕ) (file : List ℕ) (p : Load) (x : Area) : Type 0 where
  pub bare : p.filesz ≡ 0 → x ≡ no_area
  pub len : 0 < p.filesz → x.len ≡ content_length g p
  pub granule : 0 < p.filesz → x.file % g ≡ 0
  pub past : 0 < p.filesz → BLOCK ≤ x.file
  pub holds : 0 < p.filesz → Holds file x.file (content_of g byte p)

-- each load has such an area
abbrev pub HoldAll : ℕ → (ℕ → ℕ) → List ℕ → List Load → List Area → Type 0
HoldAll g byte file [] [] = Unit {0}
HoldAll g byte file [] (x ∷ areas) = ⊥
HoldAll g byte file (p ∷ loads) [] = ⊥
HoldAll g byte file (p ∷ loads) (x ∷ areas) = IsHeld g byte file p x × HoldAll g byte file loads areas

-- an input of these program headers and bytes was linked into a file, with these areas, and its table at a place
pub record IsLinkedIn (e : Taken) (entries : List Entry) (byte : ℕ → ℕ) (areas : List Area) (at : ℕ) (file : List ℕ) : Type 0 where
  pub meets : Meets e
  pub loads : e.loads ≡ loads_of entries
  pub held : HoldAll (granule_of e.machine) byte file e.loads areas
  pub past : 64 ≤ at
  pub inside : at + table_length e ≤ BLOCK
  pub table : Holds file at (table_text e areas)
  pub block : BLOCK ≤ length file
  pub small : length file < 2 ^ 31
