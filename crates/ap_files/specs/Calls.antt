-- Which calls fail on files or on a sink in memory, by their numbers counted from 1, and how much of a piece the others take.
use Rattle.std.specs.Prelude.{ℕ, ◌+◌, ◌-◌, ◌^◌, Bool, false, min, nat_eq, nat_lt, List, if◌then◌else◌, refl}
use Rattle.std.specs.Coded.{Coded, code_by, coded×, coded_ℕ, coded_list, coded_option}
use Rattle.std.specs.Option.{option_and_then, option_map_or}
use Rattle.std.specs.List.{list_any}
use Rattle.std.specs.declared.option.Option.{Option}
use Rattle.std.specs.declared.option.Option.TheVariants.{Some, None}

pub record Numbering : Type 0 where
  -- the numbers of the calls that fail
  pub failing : List ℕ
  -- the number of the next call, and none after the greatest number of 64 bits, past which no list goes
  pub next : Option ℕ

-- the same, as a pair, by which a proof tells two of them apart
abbrev pub numbering_code : Coded Numbering
numbering_code =
    code_by (List ℕ × Option ℕ)
    (coded× (coded_list coded_ℕ) (coded_option coded_ℕ))
    (λ n. (n.failing, n.next))
    (λ p. record { failing = p.0; next = p.1 })
    (λ _. refl)

-- before the first call
abbrev pub first_numbering : List ℕ → Numbering
first_numbering failing = record { failing = failing; next = Some 1 }

-- whether the next call is one of those that fail
abbrev pub is_due : Numbering → Bool
is_due calls = option_map_or (λ n. list_any (λ k. nat_eq k n) calls.failing) calls.next false

-- the next number of 64 bits, where there is one
abbrev pub number_after : ℕ → Option ℕ
number_after n = if nat_lt n (2 ^ 64 - 1) then Some (n + 1) else None

-- after one more call
abbrev pub after_call : Numbering → Numbering
after_call calls = record calls { next = option_and_then number_after calls.next }

-- how many bytes of a piece a call takes, where it takes at most so many, or the whole piece
abbrev pub count_taken : Option ℕ → ℕ → ℕ
count_taken None size = size
count_taken (Some most) size = min most size
