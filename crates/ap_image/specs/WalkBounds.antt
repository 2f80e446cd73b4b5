-- How far the addresses of an import walk reach, so that none of their sums wraps.
use Rattle.std.specs.Prelude.{◌≡◌, ℕ, ◌+◌, ◌*◌, ◌^◌, ◌≤◌}
use Rattle.std.specs.Option.{ForSome}
use Rattle.ap_image.specs.declared.import_step.Step.{Step}
use Rattle.ap_image.specs.declared.import_step.Step.TheVariants.{Entry, Word, Done}
use Rattle.ap_image.specs.declared.import_place.Place.{Place}
use Rattle.ap_image.specs.declared.import_place.Found.{Found}
use Rattle.ap_image.specs.declared.import_place.TheConstants.{ENTRY_SIZE, WORD_SIZE, MOST_ITEMS}
use Rattle.ap_image.specs.WalkSteps.{Walking, IsNear}

-- it is an item
abbrev pub IsItem : Step → Type 0
IsItem (Entry dll) = Unit {0}
IsItem (Word what slot) = Unit {0}
IsItem Done = ⊥

-- where a walk stands, for so many items that may still come
abbrev pub IsWithin : ℕ → Place → Type 0
IsWithin left place =
    (place.entry + ENTRY_SIZE * left ≤ 2 ^ 60) × ForSome place.word (λ w. (w.at + WORD_SIZE * left ≤ 2 ^ 60) × (w.slot + WORD_SIZE * left ≤ 2 ^ 60))

-- an item that was found where so many may still come
pub record IsFound (left : ℕ) (item : Found) : Type 0 where
  pub step : IsItem item.step
  pub near : IsNear item.step
  pub next : (n : ℕ) → left ≡ n + 1 → IsWithin n item.next

pub record IsWalking (w : Walking) : Type 0 where
  pub base : w.base ≤ 2 ^ 48
  pub end : ForSome w.end (λ e. e ≤ 2 ^ 48)
  pub left : w.left ≤ MOST_ITEMS
  pub place : IsWithin w.left w.place
