-- The machines: their granules, their numbers in ELF headers (System V gABI, `e_machine`), and the sizes of their pages.
use Rattle.std.specs.Prelude.{◌≡◌, ℕ, Bool, true, false}
use Rattle.ap_fields.specs.Granules.{IsGranule}
use Rattle.ap_elf.specs.declared.constants.TheConstants.{EM_X86_64, EM_AARCH64}
use Rattle.ap_elf.specs.declared.machine.Machine.{Machine}
use Rattle.ap_elf.specs.declared.machine.Machine.TheVariants.{X64, A64}

-- the granule: what loads are laid out by
abbrev pub granule_of : Machine → ℕ
granule_of X64 = 4096
granule_of A64 = 16384

-- the number in a header
abbrev pub number_of : Machine → ℕ
number_of X64 = EM_X86_64
number_of A64 = EM_AARCH64

-- the page sizes of a machine: 4096, and also 16384 for AArch64
abbrev pub IsPage : Machine → ℕ → Type 0
IsPage X64 page = page ≡ 4096
IsPage A64 page = IsGranule page

-- whether a machine is another
abbrev pub is_machine : Machine → Machine → Bool
is_machine X64 X64 = true
is_machine A64 A64 = true
is_machine m n = false
