-- The granules of machines.
use Rattle.ap_fields.specs.Granules.{IsPowerOfTwo}
use Rattle.ap_fields.proofs.Granules.{power-4096, power-16384}
use Rattle.ap_elf.specs.declared.machine.Machine.{Machine}
use Rattle.ap_elf.specs.declared.machine.Machine.TheVariants.{X64, A64}
use Rattle.ap_elf.specs.Machines.{granule_of}

pub granule-power : (m : Machine) → IsPowerOfTwo (granule_of m)
granule-power X64 = power-4096
granule-power A64 = power-16384

pub ruleset granule_steps = (granule-power)
