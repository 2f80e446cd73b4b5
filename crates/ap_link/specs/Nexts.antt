-- What is asked of areas that are put one behind the other.
use Rattle.std.specs.Prelude.{◌≡◌, ℕ, ◌+◌, ◌^◌, ◌<◌, ◌≤◌, if◌then◌else◌, true, List, [], ◌∷◌}
use Rattle.ap_check.specs.declared.load.Load.{Load}
use Rattle.ap_layout.specs.declared.layout.Area.{Area}
use Rattle.ap_layout.specs.Areas.{end_of, is_new}

-- where a file ends so far, behind an area that may be new
abbrev pub end_behind : ℕ → Area → ℕ
end_behind c a = if is_new c a then end_of a else c

-- a new area begins in the granule that follows, and its load's bytes lie in a file of so many bytes
pub record IsNext (g size c : ℕ) (p : Load) (a : Area) : Type 0 where
  pub part : is_new c a ≡ true → p.offset + p.filesz ≤ size
  pub gap : is_new c a ≡ true → a.file < c + g
  pub small : end_of a < 2 ^ 32

-- areas, one behind the other
abbrev pub AreNext : ℕ → ℕ → ℕ → List Load → List Area → Type 0
AreNext g size c [] areas = Unit {0}
AreNext g size c (p ∷ loads) [] = Unit {0}
AreNext g size c (p ∷ loads) (a ∷ areas) = IsNext g size c p a × AreNext g size (end_behind c a) loads areas
