-- The shell grammar as the callers see it: which script a text is, in both readings of NUL (POSIX.1, 2.10; that NUL is kept or
-- dropped is this project's own).
use Rattle.std.specs.Prelude.{◌≡◌, ◌≤◌, ℕ, zero, suc, List, [], ◌∷◌, ◌++◌, Some, Result, Ok, Err, ◌==◌, not, if◌then◌else◌, length, filter, Option, None}
use Rattle.ap_shparse.specs.Bytes.{Text}
use Rattle.ap_shparse.specs.Fronts.{NoneStops, chains, front}
use Rattle.ap_shparse.specs.Scripts.{script}
use Rattle.ap_shparse.specs.declared.script.Turn.{Turn}
use Rattle.ap_shparse.specs.declared.script.Turn.TheVariants as turned
use Rattle.ap_shparse.specs.declared.tree.Chain.{Chain}
use Rattle.ap_shparse.specs.declared.tree.Nul.{Nul}
use Rattle.ap_shparse.specs.declared.tree.Nul.TheVariants as nul
use Rattle.ap_shparse.specs.declared.tree.Script.{Script}
use Rattle.ap_shparse.specs.declared.tree.ShellFault.{ShellFault}
use Rattle.ap_shparse.specs.declared.tree.ShellFault.TheVariants as fault

-- what a shell sees of a text
abbrev pub seen : Nul → Text → Text
seen nul.Keep t = t
seen nul.Drop t = filter (λ c. not (c == 0)) t

-- the text is in the grammar, and these are its items
abbrev pub IsScript : Nul → Text → List Chain → Type 0
IsScript n t cs = script (seen n t) ≡ Ok cs

-- the length of the longest front of which so many bytes aren't NUL
abbrev pub past_nul : ℕ → Text → ℕ
past_nul k [] = 0
past_nul zero (c ∷ t) = if c == 0 then suc (past_nul zero t) else 0
past_nul (suc k) (c ∷ t) = if c == 0 then suc (past_nul (suc k) t) else suc (past_nul k t)

-- what is read of this prefix alone are items, each with its end
abbrev pub IsFront : Nul → Text → List Chain → Type 0
IsFront n a cs = (ts : List Turn) × (front (seen n a) ≡ Some ts) × (cs ≡ chains ts)

-- the text has no script, and its longest whole front has this length
pub record IsOutside (n : Nul) (t : Text) (at : ℕ) : Type 0 where
  pub none : (cs : List Chain) → IsScript n t cs → ⊥
  pub whole : Text
  pub rest : Text
  pub items : List Chain
  pub spelling : t ≡ whole ++ rest
  pub is_long : length whole ≡ at
  pub is_front : IsFront n whole items
  pub longest : (a b : Text) (cs : List Chain) → t ≡ a ++ b → IsFront n a cs → length a ≤ at

abbrev pub IsRefused : Nul → Text → ShellFault → Type 0
IsRefused n t (fault.Outside at) = IsOutside n t at
IsRefused n t fault.NoMemory = Unit {0}

-- what is answered to a text with this script, unless memory runs out
abbrev pub ReadsAs : List Chain → Result Script ShellFault → Type 0
ReadsAs cs (Ok s) = cs ≡ s.items
ReadsAs cs (Err (fault.Outside at)) = ⊥
ReadsAs cs (Err fault.NoMemory) = Unit {0}

-- ---- law line

-- nothing, or lines
abbrev pub EndsLine : Text → Type 0
EndsLine [] = Unit {0}
EndsLine (c ∷ []) = c ≡ 10
EndsLine (c ∷ d ∷ t) = EndsLine (d ∷ t)

-- a whole front that is empty or ends with a newline, and has no stopping command
pub record IsLineFront (n : Nul) (a : Text) (cs : List Chain) : Type 0 where
  pub turns : List Turn
  pub is_front : front (seen n a) ≡ Some turns
  pub ends_line : EndsLine (seen n a)
  pub none_stops : NoneStops turns
  pub value : cs ≡ chains turns

-- ---- stopping commands

abbrev pub behind_one : Chain → Option (List Chain) → Option (List Chain)
behind_one c None = None
behind_one c (Some cs) = Some (c ∷ cs)

-- the items as far as the first stopping command
abbrev pub to_stop : List Turn → Option (List Chain)
to_stop [] = None
to_stop (turned.Last c ∷ ts) = Some (c ∷ [])
to_stop (turned.Next c ∷ ts) = behind_one c (to_stop ts)
to_stop (turned.End ∷ ts) = None

-- a whole front with a stopping command, and its items as far as the first one
pub record IsStopped (n : Nul) (a : Text) (cs : List Chain) : Type 0 where
  pub turns : List Turn
  pub is_front : front (seen n a) ≡ Some turns
  pub stops : to_stop turns ≡ Some cs

-- a whole front without a stopping command
pub record IsUnstopped (n : Nul) (a : Text) (cs : List Chain) : Type 0 where
  pub turns : List Turn
  pub is_front : front (seen n a) ≡ Some turns
  pub none_stops : NoneStops turns
  pub value : cs ≡ chains turns
