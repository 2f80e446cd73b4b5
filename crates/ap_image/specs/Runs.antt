-- The runs of a plan: its regions in order, where those that touch and have equal permissions are joined.
use Rattle.std.specs.Prelude.{◌≡◌, ℕ, ◌+◌, ◌==◌, ◌&&◌, nat_le, nat_lt, if◌then◌else◌, Bool, List, [], ◌∷◌, Option, Some, None}
use Rattle.ap_image.specs.declared.plan.Region.{Region}
use Rattle.ap_image.specs.declared.run.Run.{Run}
use Rattle.ap_image.specs.Plans.{has_address}

-- a region alone
abbrev pub run_of : Region → Run
run_of r = record { start = r.start; length = r.span; perms = r.perms }

-- whether a region begins where a run ends, and has its permissions
abbrev pub continues : Run → Region → Bool
continues run r = run.start + run.length == r.start && run.perms.0 == r.perms.0

-- a run that goes on through a region
abbrev pub through : Run → Region → Run
through run r = record { start = run.start; length = run.length + r.span; perms = run.perms }

-- a run and the regions behind it
abbrev pub runs_from : Run → List Region → List Run
runs_from run [] = run ∷ []
runs_from run (r ∷ regions) = if continues run r then runs_from (through run r) regions else run ∷ runs_from (run_of r) regions

abbrev pub runs_of : List Region → List Run
runs_of [] = []
runs_of (r ∷ regions) = runs_from (run_of r) regions

-- the permissions of the run that has an address
abbrev pub perms_in : List Run → ℕ → Option ℕ
perms_in [] a = None
perms_in (run ∷ runs) a = if nat_le run.start a && nat_lt a (run.start + run.length) then Some run.perms.0 else perms_in runs a

-- a run and the next don't touch, or differ in their permissions
abbrev pub AreTwo : Run → Run → Type 0
AreTwo run next = run.start + run.length ≡ next.start → run.perms.0 ≡ next.perms.0 → ⊥

-- no two runs that touch have equal permissions
abbrev pub AreApartFrom : Run → List Run → Type 0
AreApartFrom run [] = Unit {0}
AreApartFrom run (next ∷ runs) = AreTwo run next × AreApartFrom next runs

abbrev pub AreApart : List Run → Type 0
AreApart [] = Unit {0}
AreApart (run ∷ runs) = AreApartFrom run runs

-- the permissions of the region that has an address
abbrev pub perms_at : List Region → ℕ → Option ℕ
perms_at [] a = None
perms_at (r ∷ regions) a = if has_address r a then Some r.perms.0 else perms_at regions a
