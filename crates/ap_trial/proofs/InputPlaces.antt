-- The places of an input's parts, in its file and in memory.
use Rattle.std.proofs.Common.{ℕ, ◌+◌, ◌≤◌, arith}
use Rattle.ap_fields.specs.Granules.{floor_of, ceil_of}
use Rattle.ap_elf.specs.declared.machine.Machine.{Machine}
use Rattle.ap_elf.specs.declared.machine.Machine.TheVariants.{X64, A64}
use Rattle.ap_elf.specs.Machines.{granule_of}
use Rattle.ap_trial.specs.TrialInputs.{part_length, part_room, tables_place, data_address, rest_address}

-- the loads are in order by their granules, and everything is small
pub record ArePlaced (g pages : ℕ) : Type 0 where
  pub room : part_length pages ≤ part_room g pages
  pub part : part_length pages ≤ 67108864
  pub most : part_room g pages ≤ 67125248
  pub granule : g ≤ 16384
  pub second : ceil_of (4194304 + part_length pages) g ≤ floor_of (data_address g pages) g
  pub address : data_address g pages ≤ 71335936
  pub third : ceil_of (data_address g pages + 9096) g ≤ floor_of (rest_address g pages) g
  pub low : 4194304 ≤ rest_address g pages
  pub rest : rest_address g pages ≤ 80000000
  pub stop : ceil_of (rest_address g pages + 10000) g ≤ 81000000
  pub tables : tables_place g pages ≤ 80000000

pub are-placed : (machine : Machine) (pages : ℕ) → pages ≤ 16384 → ArePlaced (granule_of machine) pages
are-placed X64 pages few = omega arith
are-placed A64 pages few = omega arith
