-- The here-document's delimiter: `apelink` and the least number in eight digits that makes a word which doesn't stand
-- in the body. A shell keeps NUL bytes or drops them; a word that stands in the body also stands in it without them.
use Rattle.std.specs.Prelude.{ℕ, zero, suc, ◌+◌, ◌%◌, ◌/◌, ◌==◌, ◌&&◌, ◌||◌, not, if◌then◌else◌, Bool, true, false, List, [], ◌∷◌, ◌++◌, filter, codes}
use Rattle.ap_fields.specs.declared.sizes.TheConstants.{WINDOW}

-- the last n decimal digits of a number
abbrev pub digits_of : ℕ → ℕ → List ℕ
digits_of zero k = []
digits_of (suc n) k = digits_of n (k / 10) ++ (48 + k % 10) ∷ []

abbrev pub delimiter : ℕ → List ℕ
delimiter k = codes "apelink" ++ digits_of 8 k

-- whether a text begins with a word
abbrev pub begins_with : List ℕ → List ℕ → Bool
begins_with [] text = true
begins_with (c ∷ word) [] = false
begins_with (c ∷ word) (d ∷ text) = c == d && begins_with word text

-- whether a word stands in a text
abbrev pub stands_in : List ℕ → List ℕ → Bool
stands_in word [] = begins_with word []
stands_in word (d ∷ text) = begins_with word (d ∷ text) || stands_in word text

abbrev pub without_nul : List ℕ → List ℕ
without_nul text = filter (λ c. not (c == 0)) text

-- the least of the n numbers from k on that passes a test, or the number behind them where none does
unfoldable pub least_from : ℕ → (ℕ → Bool) → ℕ → ℕ
least_from zero test k = k
least_from (suc n) test k = if test k then k else least_from n test (k + 1)

-- each place of a body of at most WINDOW bytes spells one word at most, so one of so many numbers is free
unfoldable pub delimiter_number : List ℕ → ℕ
delimiter_number body = least_from WINDOW (λ k. not (stands_in (delimiter k) (without_nul body))) 0
