-- The imports of a program: the words of an import walk, with the names' bytes.
use Rattle.std.specs.Prelude.{◌≡◌, ℕ, List, [], ◌∷◌, Some, Vec, Result, Ok, Err}
use Rattle.std.specs.declared.alloc.Global.{Global}
use Rattle.ap_image.specs.Cells.{Memory, CellsState, Unreadable}
use Rattle.ap_image.specs.declared.import_step.Step.{Step}
use Rattle.ap_image.specs.declared.import_step.Step.TheVariants as step
use Rattle.ap_image.specs.declared.import_step.What.{What}
use Rattle.ap_image.specs.declared.import_step.What.TheVariants as what
use Rattle.ap_image.specs.declared.import_step.WalkFault.{WalkFault}
use Rattle.ap_image.specs.declared.import_step.Ending.TheVariants as end
use Rattle.ap_image.specs.declared.import_item.Import.{Import}
use Rattle.ap_image.specs.declared.import_item.Wanted.{Wanted}
use Rattle.ap_image.specs.declared.import_item.Wanted.TheVariants as wanted
use Rattle.ap_image.specs.declared.import_item.ImportEnd.{ImportEnd}
use Rattle.ap_image.specs.declared.import_item.ImportEnd.TheVariants as fails
use Rattle.ap_image.specs.ImportWalk.{Items, name_at}

-- the bytes of a name, which are read
abbrev pub bytes_of_name : Result (List ℕ) WalkFault → List ℕ
bytes_of_name (Ok name) = name
bytes_of_name (Err f) = []

abbrev pub wanted_of : Memory → What → Wanted
wanted_of memory (what.Name at) = wanted.Name (bytes_of_name (name_at memory at))
wanted_of memory (what.Ordinal number) = wanted.Ordinal number

-- a fault in reading what is wanted
abbrev pub fault_of : Memory → What → WalkFault → Type 0
fault_of memory (what.Name at) f = name_at memory at ≡ Err f
fault_of memory (what.Ordinal number) f = ⊥

-- what is imported by items, behind an entry with this DLL's name
abbrev pub imports_in : Memory → List ℕ → List Step → List Import
imports_in memory dll [] = []
imports_in memory dll (step.Entry at ∷ items) = imports_in memory (bytes_of_name (name_at memory at)) items
imports_in memory dll (step.Word w slot ∷ items) = record { dll = dll; what = wanted_of memory w; slot = slot } ∷ imports_in memory dll items
imports_in memory dll (step.Done ∷ items) = imports_in memory dll items

-- what is imported by items that an entry begins
abbrev pub imports_of : Memory → Items → List Import
imports_of memory items = imports_in memory [] items.items

-- A value that the bytes have, where they are told, or a fault that they have, and their state is as before; or a byte could not
-- be read, or no memory was left.
abbrev pub Gathers : {T : Type 0} → CellsState → CellsState → (Memory → T → Type 0) → (Memory → WalkFault → Type 0) → Result T ImportEnd → Type 0
Gathers old new P F (Ok value) = (new ≡ old) × ((memory : Memory) → old.told ≡ Some memory → P memory value)
Gathers old new P F (Err (fails.Fault f)) = (new ≡ old) × ((memory : Memory) → old.told ≡ Some memory → F memory f)
Gathers old new P F (Err fails.ReadFault) = Unreadable old new
Gathers old new P F (Err fails.NoMemory) = new ≡ old

-- the imports of items that end where the table is closed, or the fault in which they end
abbrev pub ListsImports : CellsState → CellsState → (Memory → Items) → Result (Vec Import Global) ImportEnd → Type 0
ListsImports old new items result =
    Gathers old new (λ memory imports. ((items memory).ending ≡ end.Done) × (imports.items ≡ imports_of memory (items memory)))
    (λ memory f. (items memory).ending ≡ end.Fault f) result
