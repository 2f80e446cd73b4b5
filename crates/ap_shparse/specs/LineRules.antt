-- The rules of the shell grammar for what stands between commands, from one place of a text to another: blanks, comments and
-- newlines (POSIX.1, 2.3 and 2.10.2, `linebreak`), and the words that are seen whole.
use Rattle.std.specs.Prelude.{◌≡◌, ℕ, zero, suc, ◌∷◌, ◌++◌, true, false}
use Rattle.ap_shparse.specs.Bytes.{Text, begins_with, ends_word}
use Rattle.ap_shparse.specs.Places.{Place, at_text, next_line, past_gap}

-- what stands from a place to another, with its value
abbrev pub Rule : Type 0 → Type 1
Rule A = Place → Place → A → Type 0

-- a newline; what is left begins behind the bodies below it
abbrev pub IsNewline : Place → Place → Type 0
IsNewline p q = (t : Text) × (p.text ≡ 10 ∷ t) × (q ≡ next_line p t)

-- so many newlines, with blanks and a comment before each, and behind them, and behind other blanks and a comment, no newline
abbrev pub Lines : ℕ → Place → Place → Type 0
Lines zero p q = (q ≡ past_gap p) × (begins_with 10 q.text ≡ false)
Lines (suc n) p q = (line : Place) × IsNewline (past_gap p) line × Lines n line q

-- as many newlines as there are
abbrev pub AreLines : Place → Place → Type 0
AreLines p q = (n : ℕ) × Lines n p q

-- this text as a whole word without quotes
abbrev pub IsWhole : Text → Text → Text → Type 0
IsWhole k t u = (t ≡ k ++ u) × (ends_word u ≡ true)

abbrev pub HasNo : Text → Text → Type 0
HasNo k t = (u : Text) → IsWhole k t u → ⊥

abbrev pub IsKeyword : Text → Place → Place → Type 0
IsKeyword k p q = (t : Text) × IsWhole k p.text t × (q ≡ at_text p t)
