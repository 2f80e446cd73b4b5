-- What is asked of a linked file, and what of it is taken.
use Rattle.std.specs.Prelude.{◌≡◌, ℕ, ◌==◌, not, Bool, true, false, bit_and}
use Rattle.ap_check.specs.declared.options.Systems.{Systems}
use Rattle.ap_check.specs.declared.options.Options.{Options}

-- whether the system of a bit was chosen
abbrev pub has_system : Systems → ℕ → Bool
has_system systems bit = not (bit_and systems.0 bit == 0)

-- whether Windows was chosen
abbrev pub for_windows : Options → Bool
for_windows options = has_system options.systems 8

-- whether macOS was chosen
abbrev pub for_mac : Options → Bool
for_mac options = has_system options.systems 16

-- no magic for debuggers where Windows was chosen, which has its own
abbrev pub AreTaken : Options → Type 0
AreTaken options = options.debug ≡ true → for_windows options ≡ false
