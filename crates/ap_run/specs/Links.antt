-- What a link is to do.
use Rattle.std.specs.Prelude.{ℕ, List, [], Option, unwrap_or}
use Rattle.std.specs.List.{slice_get}
use Rattle.ap_check.specs.declared.options.Options.{Options}

-- the options, the file to make, and one or two inputs
pub record LinkNames : Type 0 where
  pub options : Options
  pub out : List ℕ
  pub first : List ℕ
  pub second : Option (List ℕ)

abbrev pub options_of : LinkNames → Options
options_of n = n.options

abbrev pub first_name : List (List ℕ) → List ℕ
first_name names = unwrap_or (slice_get names 0) []

abbrev pub second_name : List (List ℕ) → Option (List ℕ)
second_name names = slice_get names 1

abbrev pub link_names : List ℕ → Options → List (List ℕ) → LinkNames
link_names out options names = record { options = options; out = out; first = first_name names; second = second_name names }
