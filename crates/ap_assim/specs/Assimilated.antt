-- What an Actually Portable Executable file becomes for one system alone (APE specification, the assimilator).
use Rattle.std.specs.Prelude.{◌≡◌, ℕ, true, false, if◌then◌else◌, List, Vec, Option, Some, None, Result, Ok, Err}
use Rattle.std.specs.declared.alloc.Global.{Global}
use Rattle.memchr.specs.Find.{Nowhere}
use Rattle.ap_fields.specs.Bytes.{over}
use Rattle.ap_fields.specs.declared.sizes.TheConstants.{WINDOW}
use Rattle.ap_octal.specs.DdEffect.{dd_effect}
use Rattle.ap_octal.specs.DdPlace.{FirstDd, HasDd}
use Rattle.ap_octal.specs.declared.types.DdStatement.{DdStatement}
use Rattle.ap_loader.specs.Embedded.{has_magic, taken}
use Rattle.ap_assim.specs.declared.fault.AssimFault.{AssimFault}
use Rattle.ap_assim.specs.declared.fault.AssimFault.TheVariants.{NotApe, NoStatement, NoMemory}

-- a file with the header of the statement that is taken over its first bytes
abbrev pub with_header : List ℕ → Option (ℕ × List ℕ) → Result (List ℕ) AssimFault
with_header file None = Err NoStatement
with_header file (Some (at, header)) = Ok (over file header)

-- the ELF file for a machine that a file becomes, or why it becomes none
abbrev pub elf_of : ℕ → List ℕ → Result (List ℕ) AssimFault
elf_of machine file = if has_magic file then with_header file (taken machine file) else Err NotApe

-- some bytes are what a file's first `dd` statement makes of it
pub record IsCopied (file bytes : List ℕ) : Type 0 where
  pub dd : DdStatement
  pub first : FirstDd file dd
  pub effect : bytes ≡ dd_effect true dd.size dd.skip dd.count file file

-- what a file becomes as a Mach-O file, or why it becomes none
abbrev pub BecomesMach : List ℕ → Result (List ℕ) AssimFault → Type 0
BecomesMach file (Ok bytes) = (has_magic file ≡ true) × IsCopied file bytes
BecomesMach file (Err NotApe) = has_magic file ≡ false
BecomesMach file (Err NoStatement) = (has_magic file ≡ true) × Nowhere (HasDd file) 0 WINDOW
BecomesMach file (Err NoMemory) = ⊥

-- what a file becomes as an ELF file, said likewise
abbrev pub BecomesElf : ℕ → List ℕ → Result (List ℕ) AssimFault → Type 0
BecomesElf machine file answer = elf_of machine file ≡ answer

-- an answer in new memory, which may run out
abbrev pub Gives : (Result (List ℕ) AssimFault → Type 0) → Result (Vec ℕ Global) AssimFault → Type 0
Gives Is (Ok bytes) = Is (Ok bytes.items)
Gives Is (Err NotApe) = Is (Err NotApe)
Gives Is (Err NoStatement) = Is (Err NoStatement)
Gives Is (Err NoMemory) = Unit {0}

-- an answer in place; a file that is refused stays
abbrev pub Becomes : (Result (List ℕ) AssimFault → Type 0) → List ℕ → List ℕ → Result Unit AssimFault → Type 0
Becomes Is old new (Ok done) = Is (Ok new)
Becomes Is old new (Err fault) = Is (Err fault) × (new ≡ old)
