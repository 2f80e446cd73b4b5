-- What a step of an import walk leaves and tells.
use Rattle.std.specs.Prelude.{◌≡◌, ℕ, zero, suc, ◌+◌, Option, Some, None, Result, Ok, Err, ◌≤◌, ◌^◌}
use Rattle.ap_image.specs.Cells.{Memory, CellsState, Unreadable}
use Rattle.ap_image.specs.declared.import_step.Step.{Step}
use Rattle.ap_image.specs.declared.import_step.Step.TheVariants.{Entry, Word, Done}
use Rattle.ap_image.specs.declared.import_step.What.TheVariants.{Name, Ordinal}
use Rattle.ap_image.specs.declared.import_step.WalkFault.{WalkFault}
use Rattle.ap_image.specs.declared.import_step.Ending.{Ending}
use Rattle.ap_image.specs.declared.import_step.Ending.TheVariants as end
use Rattle.ap_image.specs.declared.import_step.WalkEnd.{WalkEnd}
use Rattle.ap_image.specs.declared.import_step.WalkEnd.TheVariants.{Fault, ReadFault}
use Rattle.ap_image.specs.declared.import_place.Place.{Place}
use Rattle.ap_image.specs.declared.import_place.TheConstants.{HINT_SIZE}
use Rattle.ap_image.specs.declared.import_place.Found.{Found}
use Rattle.ap_image.specs.declared.import_step.WalkCause.{WalkCause}
use Rattle.ap_image.specs.declared.import_step.WalkCause.TheVariants.{Many}
use Rattle.ap_image.specs.ImportWalk.{Items, fault, after, found, name_of, ended, with_item, items_from}

-- a walk: where it stands, how many items may still come, and how it ended
pub record Walking : Type 0 where
  pub base : ℕ
  pub end : Option ℕ
  pub place : Place
  pub left : ℕ
  pub over : Option Ending

-- what is left of it, where memory is told
abbrev pub left_by : Memory → Walking → Option Ending → Items
left_by memory w None = items_from memory w.base w.end w.place w.left
left_by memory w (Some ending) = ended ending

abbrev pub left_of : Memory → Walking → Items
left_of memory w = left_by memory w w.over

-- that something is read, whatever it is
abbrev pub passed : {T : Type 0} → Result T WalkFault → Result (Unit {0}) WalkFault
passed r = after r (λ x. Ok tt)

-- the item that is met next, unless it is one too many or its name isn't read
abbrev pub taken : Memory → ℕ → Option Found → Result (Option Found) WalkFault
taken memory left None = Ok None
taken memory zero (Some item) = Err (fault Many item.at)
taken memory (suc left) (Some item) = after (name_of memory item.step) (λ name. Ok (Some item))

abbrev pub next_of : Memory → Walking → Result (Option Found) WalkFault
next_of memory w = after (found memory w.base w.end w.place.entry w.place.word) (λ item. taken memory w.left item)

-- What the bytes say, where they are told, and their state is as before; or a byte could not be read.
abbrev pub Fetches : {T : Type 0} → CellsState → CellsState → (Memory → Result T WalkFault) → Result T WalkEnd → Type 0
Fetches old new meaning (Ok x) = (new ≡ old) × ((memory : Memory) → old.told ≡ Some memory → meaning memory ≡ Ok x)
Fetches old new meaning (Err (Fault f)) = (new ≡ old) × ((memory : Memory) → old.told ≡ Some memory → meaning memory ≡ Err f)
Fetches old new meaning (Err ReadFault) = Unreadable old new

-- the addresses of an item's name, and of its hint, are far below 2^64
abbrev pub IsNear : Step → Type 0
IsNear (Entry dll) = dll ≤ 2 ^ 62
IsNear (Word (Name at) slot) = (HINT_SIZE ≤ at) × (at ≤ 2 ^ 62)
IsNear (Word (Ordinal number) slot) = Unit {0}
IsNear Done = Unit {0}

-- the first of what is left, and then the rest
pub record Gives (old : CellsState) (walk next : Walking) (step : Step) : Type 0 where
  pub told : (memory : Memory) → old.told ≡ Some memory → left_of memory walk ≡ with_item step (left_of memory next)
  pub fewer : next.left + 1 ≡ walk.left
  pub near : IsNear step

-- nothing is left, and the walk is over
pub record Ends (old : CellsState) (walk next : Walking) (ending : Ending) : Type 0 where
  pub told : (memory : Memory) → old.told ≡ Some memory → left_of memory walk ≡ ended ending
  pub over : next ≡ record walk { over = Some ending }

-- the answer of a walk that is over
abbrev pub answer_of : Ending → Result Step WalkEnd
answer_of end.Done = Ok Done
answer_of (end.Fault f) = Err (Fault f)

-- The next item, or how the walk ends, and the state of the bytes is as before; or a byte could not be read, and the walk is
-- as before.
abbrev pub Steps : CellsState → CellsState → Walking → Walking → Result Step WalkEnd → Type 0
Steps old new walk next (Ok Done) = (new ≡ old) × Ends old walk next end.Done
Steps old new walk next (Ok (Entry dll)) = (new ≡ old) × Gives old walk next (Entry dll)
Steps old new walk next (Ok (Word what slot)) = (new ≡ old) × Gives old walk next (Word what slot)
Steps old new walk next (Err (Fault f)) = (new ≡ old) × Ends old walk next (end.Fault f)
Steps old new walk next (Err ReadFault) = Unreadable old new × (next ≡ walk)

-- a walk that is over answers the same again, and stays
abbrev pub Again : Walking → Walking → Result Step WalkEnd → Type 0
Again walk next result = (ending : Ending) → walk.over ≡ Some ending → (result ≡ answer_of ending) × (next ≡ walk)

abbrev pub fault_end : WalkCause → ℕ → WalkEnd
fault_end cause at = Fault (fault cause at)
