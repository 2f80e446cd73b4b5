-- The rules of the shell grammar for redirections (POSIX.1, 2.7).
use Rattle.std.specs.Prelude.{◌≡◌, ℕ, ◌∷◌, ◌++◌, Some, Bool, true, false, ◌||◌, ◌-◌, not, codes}
use Rattle.ap_shparse.specs.Bytes.{Text, begins_with}
use Rattle.ap_shparse.specs.Places.{Place, at_text}
use Rattle.ap_shparse.specs.Commands.{past_blanks, redirection_of}
use Rattle.ap_shparse.specs.Redirects.{is_same, number, redirects}
use Rattle.ap_shparse.specs.LineRules.{Rule}
use Rattle.ap_shparse.specs.PieceRules.{TextRule}
use Rattle.ap_shparse.specs.WordRules.{IsWord}
use Rattle.ap_shparse.specs.HereRules.{IsHere}
use Rattle.ap_shparse.specs.declared.redirect.Operator.{Operator}
use Rattle.ap_shparse.specs.declared.redirect.Operator.TheVariants as op
use Rattle.ap_shparse.specs.declared.tree.Redirection.{Redirection}
use Rattle.ap_shparse.specs.declared.tree.Simple.{Simple}
use Rattle.ap_shparse.specs.declared.tree.Target.{Target}
use Rattle.ap_shparse.specs.declared.tree.Target.TheVariants as target
use Rattle.ap_shparse.specs.declared.tree.Word.{Word}

-- ---- operators

abbrev pub written : Operator → Text
written op.Write = codes ">"
written op.Read = codes "<"
written op.Both = codes "<>"
written op.Same = codes ">&"
written op.Here = codes "<<"

-- whether no longer operator stands there
abbrev pub ends_operator : Operator → Text → Bool
ends_operator op.Write t = not (begins_with 38 t)
ends_operator op.Read t = not (begins_with 60 t || begins_with 62 t)
ends_operator _ t = true

abbrev pub IsRedirectOperator : TextRule Operator
IsRedirectOperator t u o = (t ≡ written o ++ u) × (ends_operator o u ≡ true)

-- ---- what follows the operator, and blanks

-- a word, of which no digits are the next redirection's
abbrev pub IsFile : TextRule Simple → Place → Place → Word → Type 0
IsFile IsSub p q w =
    (t : Text) × (redirects (past_blanks p).text ≡ false) × IsWord IsSub (past_blanks p).text t w × (q ≡ at_text p t)

-- a digit that is a whole word, and none that is the next redirection's
abbrev pub IsNumber : Place → Place → ℕ → Type 0
IsNumber p q n = (d : ℕ) × (t : Text) × ((past_blanks p).text ≡ d ∷ t) × (is_same d t ≡ true) × (n ≡ d - 48) × (q ≡ at_text p t)

abbrev pub IsTarget : TextRule Simple → Operator → Rule Target
IsTarget IsSub op.Write p q (target.Write w) = IsFile IsSub p q w
IsTarget IsSub op.Read p q (target.Read w) = IsFile IsSub p q w
IsTarget IsSub op.Both p q (target.Both w) = IsFile IsSub p q w
IsTarget IsSub op.Same p q (target.Same n) = IsNumber p q n
IsTarget IsSub op.Here p q (target.Here b) = IsHere IsSub (past_blanks p) q b
IsTarget IsSub o p q to = ⊥

-- ---- redirections

-- a digit or none, an operator, and what follows it
pub record IsRedirection (IsSub : TextRule Simple) (o : Operator) (p q : Place) (r : Redirection) : Type 0 where
  pub digits : Text
  pub at_operator : Text
  pub behind : Text
  pub descriptor : ℕ
  pub to : Target
  pub spelling : p.text ≡ digits ++ at_operator
  pub is_operator : IsRedirectOperator at_operator behind o
  pub is_number : number o digits ≡ Some descriptor
  pub is_target : IsTarget IsSub o (at_text p behind) q to
  pub value : r ≡ redirection_of descriptor to
