-- Answers that are handed on.
use Rattle.std.specs.Prelude.{List, ℕ, Result, Err}
use Rattle.ap_assim.specs.Assimilated.{Gives}
use Rattle.ap_assim.specs.declared.fault.AssimFault.{AssimFault}
use Rattle.ap_assim.specs.declared.fault.AssimFault.TheVariants.{NotApe, NoStatement, NoMemory}

pub refused : (Is : Result (List ℕ) AssimFault → Type 0) (fault : AssimFault) → Is (Err fault) → Gives Is (Err fault)
refused Is NotApe is = is
refused Is NoStatement is = is
refused Is NoMemory is = tt
