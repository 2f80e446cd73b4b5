-- Machines that are the same.
use Rattle.std.proofs.Common.{◌≡◌, true, refl}
use Rattle.ap_elf.specs.declared.machine.Machine.{Machine}
use Rattle.ap_elf.specs.declared.machine.Machine.TheVariants.{X64, A64}
use Rattle.ap_elf.specs.Machines.{is_machine}

pub is_machine-same : (m n : Machine) → is_machine m n ≡ true → m ≡ n
is_machine-same X64 X64 h = refl
is_machine-same A64 A64 h = refl
is_machine-same X64 A64 h = absurd (cc)
is_machine-same A64 X64 h = absurd (cc)
