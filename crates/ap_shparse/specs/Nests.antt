-- A function value that reads lists to a depth.
use Rattle.std.specs.Prelude.{ℕ, Result, List}
use Rattle.std.specs.declared.alloc.Global.{Global}
use denote.Ref.{MutBor}
use Rattle.ap_shparse.specs.Lists.{list}
use Rattle.ap_shparse.specs.Places.{Place}
use Rattle.ap_shparse.specs.Reads.{Reads}
use Rattle.ap_shparse.specs.declared.refusal.Refusal.{Refusal}
use Rattle.ap_shparse.specs.declared.tree.Chain.{Chain}

pub record Nests (depth : ℕ) (pre : Global → MutBor Place → ℕ → Type 0)
    (post : Global → MutBor Place → ℕ → Result (List Chain) Refusal → MutBor Place → Type 0) : Type 0 where
  pub callable : (alloc : Global) (old : MutBor Place) → pre alloc old depth
  pub reads : (alloc : Global) (old new : MutBor Place) (r : Result (List Chain) Refusal) → post alloc old depth r new
      → Reads (list depth old.now) r new.now
