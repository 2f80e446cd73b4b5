-- The positions of a linked file's parts, by its inputs and by the masks that tell which of their loads have the same content, and
-- what stands of them.
use Rattle.std.specs.Prelude.{◌≡◌, ℕ, ◌+◌, ◌*◌, ◌<◌, ◌≤◌, List, [], ◌∷◌, ◌++◌, length, map, Option, Some, None}
use Rattle.std.specs.List.{flat_map}
use Rattle.ap_fields.specs.declared.sizes.TheConstants.{BLOCK, WINDOW}
use Rattle.ap_elf.specs.declared.types.Entry.{Entry}
use Rattle.ap_elf.specs.declared.constants.TheConstants.{PHDR_SIZE}
use Rattle.ap_elf.specs.Machines.{granule_of}
use Rattle.ap_check.specs.declared.options.Options.{Options}
use Rattle.ap_check.specs.Inputs.{Taken}
use Rattle.ap_check.specs.Windows.{AreReady}
use Rattle.ap_check.specs.Mac.{AreForMac}
use Rattle.ap_layout.specs.declared.layout.Area.{Area}
use Rattle.ap_layout.specs.declared.sizes.TheConstants.{TABLES, MOST_BODY, MOST_MACH, FILE_TOP}
use Rattle.ap_layout.specs.Headers.{pe_length}
use Rattle.ap_layout.specs.MachPlaces.{mach_start, mach_length}
use Rattle.ap_layout.specs.Areas.{areas_of, end_from, new_areas, ServeAll}
use Rattle.ap_layout.specs.Twins.{sharing}

-- where the areas of each input, the program header tables, the Mach-O header and the ends stand
pub record Positions : Type 0 where
  pub areas : List (List Area)
  pub tables : List ℕ
  pub mach_at : ℕ
  pub mach_len : ℕ
  pub body_end : ℕ
  pub total : ℕ

-- where the first program header table stands: behind the here-document's opening, ten zeros and the PE headers
abbrev pub tables_start : Options → List Taken → ℕ
tables_start options inputs = TABLES + pe_length options inputs

abbrev pub one_if : Option Entry → ℕ
one_if None = 0
one_if (Some p) = 1

-- how many program headers the linker writes for an input: its loads, its stack's, its notes, its thread-local storage's
abbrev pub entry_count : Taken → ℕ
entry_count e = length e.loads + (one_if e.stack + (length e.notes + one_if e.tls))

abbrev pub table_length : Taken → ℕ
table_length e = PHDR_SIZE * entry_count e

-- the first input shares no area
abbrev pub no_sharing : ℕ → Option Area
no_sharing i = None

-- the second shares those of the first that its masks tell
abbrev pub shared_with : List ℕ → List Area → Taken → ℕ → Option Area
shared_with masks areas f = sharing masks areas (granule_of f.machine) f.loads

-- the areas of an input from a cursor on
abbrev pub input_areas : (ℕ → Option Area) → Taken → ℕ → List Area
input_areas shares e c = areas_of shares 0 (granule_of e.machine) e.loads c

-- the areas of the first input stand behind the block
abbrev pub areas_one : Taken → List Area
areas_one e = input_areas no_sharing e BLOCK

-- where they end
abbrev pub end_one : Taken → ℕ
end_one e = end_from BLOCK (areas_one e)

-- those of the second that it doesn't share stand behind them
abbrev pub areas_two : List ℕ → Taken → Taken → List Area
areas_two masks e f = input_areas (shared_with masks (areas_one e) f) f (end_one e)

-- the areas of one or two inputs
abbrev pub areas_in : Taken → Option Taken → List ℕ → List (List Area)
areas_in e None masks = areas_one e ∷ [] ∷ []
areas_in e (Some f) masks = areas_one e ∷ areas_two masks e f ∷ []

-- the positions of one or two inputs
unfoldable pub positions_of : Options → Taken → Option Taken → List ℕ → Positions
positions_of options e None masks = record {
  areas = areas_in e None masks;
  tables = tables_start options (e ∷ []) ∷ [];
  mach_at = mach_start options (e ∷ []);
  mach_len = mach_length options (e ∷ []);
  body_end = tables_start options (e ∷ []) + table_length e;
  total = end_one e;
}
positions_of options e (Some f) masks = record {
  areas = areas_in e (Some f) masks;
  tables = tables_start options (e ∷ f ∷ []) ∷ (tables_start options (e ∷ f ∷ []) + table_length e) ∷ [];
  mach_at = mach_start options (e ∷ f ∷ []);
  mach_len = mach_length options (e ∷ f ∷ []);
  body_end = tables_start options (e ∷ f ∷ []) + table_length e + table_length f;
  total = end_from (end_one e) (areas_two masks e f);
}

abbrev pub joined : List (List Area) → List Area
joined [] = []
joined (areas ∷ more) = areas ++ joined more

-- an input with the places of its parts: the areas of its loads, in their order, and its program header table
pub record PlacedInput : Type 0 where
  pub input : Taken
  pub areas : List Area
  pub table : ℕ

-- inputs with the places of their parts, as far as each has them
abbrev pub placed : List Taken → List (List Area) → List ℕ → List PlacedInput
placed (e ∷ inputs) (areas ∷ more) (t ∷ tables) = record { input = e; areas = areas; table = t } ∷ placed inputs more tables
placed inputs more tables = []

abbrev pub placed_inputs : List Taken → Positions → List PlacedInput
placed_inputs inputs l = placed inputs l.areas l.tables

-- the inputs alone, and the areas of all of them
abbrev pub only_inputs : List PlacedInput → List Taken
only_inputs ps = map (λ p. p.input) ps

abbrev pub all_areas : List PlacedInput → List Area
all_areas ps = flat_map (λ p. p.areas) ps

-- each input's areas serve its loads
abbrev pub AreServed : List Area → List PlacedInput → Type 0
AreServed news [] = Unit {0}
AreServed news (p ∷ ps) = ServeAll (granule_of p.input.machine) news p.input.loads p.areas × AreServed news ps

-- the tables stand one behind the other, from a place on, each of them as long as its input's
abbrev pub AreTables : ℕ → List PlacedInput → ℕ → Type 0
AreTables at [] end = end ≡ at
AreTables at (p ∷ ps) end = (p.table ≡ at) × AreTables (at + table_length p.input) ps end

-- What writers and readings may suppose of inputs and their positions: where Windows was chosen there is an input for it, and
-- where macOS was chosen that for x86-64 starts there; each input has its places; every load is served by an area that is empty or
-- one of the new ones, of which no two overlap; the tables follow each other, and end below the window; and the Mach-O header, where
-- there is one, stands behind the window.
pub record Fits (options : Options) (inputs : List Taken) (l : Positions) : Type 0 where
  pub windows : AreReady options inputs
  pub mac : AreForMac options inputs
  pub all : only_inputs (placed_inputs inputs l) ≡ inputs
  pub areas : AreServed (new_areas BLOCK (all_areas (placed_inputs inputs l))) (placed_inputs inputs l)
  pub total : l.total ≡ end_from BLOCK (all_areas (placed_inputs inputs l))
  pub small : l.total < FILE_TOP
  pub tables : AreTables (tables_start options inputs) (placed_inputs inputs l) l.body_end
  pub body : l.body_end ≤ MOST_BODY
  pub mach_at : l.mach_at ≡ mach_start options inputs
  pub mach_len : l.mach_len ≡ mach_length options inputs
  pub mach : l.mach_at + l.mach_len ≤ WINDOW + MOST_MACH
