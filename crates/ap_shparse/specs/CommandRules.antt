-- The rules of the shell grammar for simple commands and command substitution (POSIX.1, 2.9.1 and 2.6.3).
use Rattle.std.specs.Prelude.{◌≡◌, List, [], ◌∷◌, None, Bool, true, false, ◌||◌, ◌&&◌, not, if◌then◌else◌}
use Rattle.ap_shparse.specs.Bytes.{Text, after}
use Rattle.ap_shparse.specs.Places.{Place, args, at_text}
use Rattle.ap_shparse.specs.Words.{is_assignment}
use Rattle.ap_shparse.specs.Redirects.{redirects}
use Rattle.ap_shparse.specs.Commands.{alone, calls_at, ends_command, is_here, is_reserved, leaves, past_blanks, stops}
use Rattle.ap_shparse.specs.LineRules.{HasNo, IsKeyword, Rule}
use Rattle.ap_shparse.specs.PieceRules.{TextRule}
use Rattle.ap_shparse.specs.WordRules.{IsAssignment, IsWord}
use Rattle.ap_shparse.specs.RedirectRules.{IsRedirection}
use Rattle.ap_shparse.specs.declared.class.Class.TheVariants.{Blank}
use Rattle.ap_shparse.specs.declared.elements.Called.{Called}
use Rattle.ap_shparse.specs.declared.elements.Calls.{Calls}
use Rattle.ap_shparse.specs.declared.elements.Calls.TheVariants as calls
use Rattle.ap_shparse.specs.declared.redirect.Operator.{Operator}
use Rattle.ap_shparse.specs.declared.tree.Assign.{Assign}
use Rattle.ap_shparse.specs.declared.tree.Redirection.{Redirection}
use Rattle.ap_shparse.specs.declared.tree.Simple.{Simple, roll-Simple}
use Rattle.ap_shparse.specs.declared.tree.Word.{Word}
use Rattle.ap_shparse.specs.declared.tree.Word.TheVariants as word

-- ---- elements

-- what a simple command is made of
pub data Element : Type 0 where
  assigns : Assign → Element
  -- a word, and whether it is `exit` or `exec` without quotes
  plain : Calls → Word → Element
  -- `"$@"`
  arguments : Element
  redirected : Operator → Redirection → Element

abbrev pub is_word : Element → Bool
is_word (plain k w) = true
is_word arguments = true
is_word e = false

-- a word, which no redirection's digit is, and no assignment where one may stand: where worded says that no word stands before
abbrev pub IsPlain : TextRule Simple → Bool → Place → Place → Word → Type 0
IsPlain IsSub worded p q w =
    (t : Text) × (redirects p.text ≡ false) × ((not worded && is_assignment p.text) ≡ false) × HasNo args p.text
    × IsWord IsSub p.text t w × (q ≡ at_text p t)

-- an element; an assignment has no word before it
abbrev pub IsElement : TextRule Simple → Bool → Rule Element
IsElement IsSub worded p q (assigns a) = (t : Text) × (worded ≡ false) × IsAssignment IsSub p.text t a × (q ≡ at_text p t)
IsElement IsSub worded p q (plain k w) = IsPlain IsSub worded p q w × (k ≡ calls_at p.text)
IsElement IsSub worded p q arguments = IsKeyword args p q
IsElement IsSub worded p q (redirected o r) = IsRedirection IsSub o p q r

-- elements, each behind blanks, as far as they go
abbrev pub AreElements : TextRule Simple → Bool → Rule (List Element)
AreElements IsSub worded p q [] = (q ≡ past_blanks p) × (ends_command q.text ≡ true)
AreElements IsSub worded p q (e ∷ es) =
    (m : Place) × IsElement IsSub worded (past_blanks p) m e × AreElements IsSub (worded || is_word e) m q es

-- ---- what they are together

abbrev pub assigns_of : List Element → List Assign
assigns_of [] = []
assigns_of (assigns a ∷ es) = a ∷ assigns_of es
assigns_of (e ∷ es) = assigns_of es

abbrev pub words_of : List Element → List Word
words_of [] = []
words_of (plain k w ∷ es) = w ∷ words_of es
words_of (arguments ∷ es) = word.Args ∷ words_of es
words_of (e ∷ es) = words_of es

abbrev pub redirections_of : List Element → List Redirection
redirections_of [] = []
redirections_of (redirected o r ∷ es) = r ∷ redirections_of es
redirections_of (e ∷ es) = redirections_of es

-- whether there is no here-document
abbrev pub no_here : List Element → Bool
no_here [] = true
no_here (redirected o r ∷ es) = not (is_here o) && no_here es
no_here (e ∷ es) = no_here es

-- whether there is one at most
abbrev pub one_here : List Element → Bool
one_here [] = true
one_here (redirected o r ∷ es) = if is_here o then no_here es else one_here es
one_here (e ∷ es) = one_here es

-- whether a word other than `"$@"` is among them
abbrev pub has_plain : List Element → Bool
has_plain [] = false
has_plain (plain k w ∷ es) = true
has_plain (e ∷ es) = has_plain es

-- which of `exit` and `exec` the first word is, without quotes
abbrev pub first_calls : List Element → Calls
first_calls [] = calls.Other
first_calls (plain k w ∷ es) = k
first_calls (arguments ∷ es) = calls.Other
first_calls (e ∷ es) = first_calls es

-- whether a word other than `"$@"` stands behind the first word
abbrev pub has_more : List Element → Bool
has_more [] = false
has_more (plain k w ∷ es) = has_plain es
has_more (arguments ∷ es) = has_plain es
has_more (e ∷ es) = has_more es

abbrev pub called_by : List Element → Called
called_by es = record {
  simple = roll-Simple (record { assigns = assigns_of es; words = words_of es; redirections = redirections_of es });
  leaves = leaves (first_calls es);
  stops = stops (first_calls es) (has_more es);
}

abbrev pub AreSome : List Element → Type 0
AreSome [] = ⊥
AreSome (e ∷ es) = Unit {0}

-- ---- commands

-- a simple command, which doesn't begin with a reserved word
pub record IsSimple (IsSub : TextRule Simple) (p q : Place) (c : Called) : Type 0 where
  pub elements : List Element
  pub not_reserved : is_reserved p.text ≡ false
  pub are_elements : AreElements IsSub false p q elements
  pub are_some : AreSome elements
  pub has_one_here : one_here elements ≡ true
  pub value : c ≡ called_by elements

-- ---- command substitution

-- where there is none
abbrev pub IsNoSubstitution : TextRule Simple
IsNoSubstitution t u c = ⊥

-- behind `$(`: a simple command other than `exit` and `exec`, without a here-document and without `$(`
pub record IsSubstitution (t u : Text) (c : Simple) : Type 0 where
  pub command : Called
  pub behind : Place
  pub is_simple : IsSimple IsNoSubstitution (alone (after Blank t)) behind command
  pub stays : command.leaves ≡ false
  pub none_waits : behind.bodies ≡ None
  pub closes : behind.text ≡ 41 ∷ u
  pub value : c ≡ command.simple
