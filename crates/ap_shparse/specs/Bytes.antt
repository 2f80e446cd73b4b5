-- The bytes of a text by their classes (POSIX.1, 2.2 and 2.3), and the runs of a text.
use Rattle.std.specs.Prelude.{ℕ, List, [], ◌∷◌, Option, Some, None, Bool, true, ◌==◌, ◌||◌, ◌&&◌, not, nat_le, if◌then◌else◌, is_some}
use Rattle.std.specs.List.{list_any}
use Rattle.ap_shparse.specs.declared.class.Class.{Class}
use Rattle.ap_shparse.specs.declared.class.Class.TheVariants.{Blank, Comment, Quoted, Digit, Name, Fallback}

abbrev pub Text : Type 0
Text = List ℕ

abbrev pub is_among : ℕ → List ℕ → Bool
is_among c xs = list_any (λ x. x == c) xs

abbrev pub is_digit : ℕ → Bool
is_digit c = nat_le 48 c && nat_le c 57

-- an ASCII letter or `_`
abbrev pub is_letter : ℕ → Bool
is_letter c = c == 95 || (nat_le 65 c && nat_le c 90 || nat_le 97 c && nat_le c 122)

-- NUL, tab, newline, space and "$&'()*;<>?[\`|
abbrev pub specials : List ℕ
specials = 0 ∷ 9 ∷ 10 ∷ 32 ∷ 34 ∷ 36 ∷ 38 ∷ 39 ∷ 40 ∷ 41 ∷ 42 ∷ 59 ∷ 60 ∷ 62 ∷ 63 ∷ 91 ∷ 92 ∷ 96 ∷ 124 ∷ []

unfoldable pub is_plain : ℕ → Bool
is_plain c = not (is_among c specials)

-- what may stand behind a word: tab, newline, space and &();<>|
abbrev pub enders : List ℕ
enders = 9 ∷ 10 ∷ 32 ∷ 38 ∷ 40 ∷ 41 ∷ 59 ∷ 60 ∷ 62 ∷ 124 ∷ []

-- what may stand in the `w` of `${name:-w}`: all but "$'\`}~, and NUL only in double quotes
abbrev pub not_in_fallback : List ℕ
not_in_fallback = 34 ∷ 36 ∷ 39 ∷ 92 ∷ 96 ∷ 125 ∷ 126 ∷ []

unfoldable pub has : Class → ℕ → Bool
has Blank c = c == 32 || c == 9
has Comment c = not (c == 10)
has Quoted c = not (c == 39)
has Digit c = is_digit c
has Name c = is_letter c || is_digit c
has (Fallback nul) c = not (is_among c not_in_fallback) && (nul || not (c == 0))

-- the longest front of bytes of a class
abbrev pub run : Class → Text → Text
run k [] = []
run k (c ∷ t) = if has k c then c ∷ run k t else []

-- what follows it
abbrev pub after : Class → Text → Text
after k [] = []
after k (c ∷ t) = if has k c then after k t else c ∷ t

-- whether a word may end here
unfoldable pub ends_word : Text → Bool
ends_word [] = true
ends_word (c ∷ t) = is_among c enders

-- what follows this word, where it stands in front as a whole word
abbrev pub past : Text → Text → Option Text
past [] t = if ends_word t then Some t else None
past (k ∷ ks) [] = None
past (k ∷ ks) (c ∷ t) = if c == k then past ks t else None

-- what follows this byte, where it stands in front
abbrev pub past_byte : ℕ → Text → Option Text
past_byte k [] = None
past_byte k (c ∷ t) = if c == k then Some t else None

abbrev pub begins_with : ℕ → Text → Bool
begins_with k t = is_some (past_byte k t)

-- blanks, and a comment
unfoldable pub past_comment : Text → Text
past_comment [] = []
past_comment (c ∷ t) = if c == 35 then after Comment t else c ∷ t

unfoldable pub gap : Text → Text
gap t = past_comment (after Blank t)
