-- The cell of an input program at an address: the byte and the permissions of the load that has the address (System V
-- gABI, "Program Loading").
use Rattle.std.specs.Prelude.{ℕ, ◌+◌, ◌-◌, ◌&&◌, nat_le, nat_lt, if◌then◌else◌, Bool, List, [], ◌∷◌, Option, Some, None, bit_and}
use Rattle.ap_fields.specs.Readings.{Cell}
use Rattle.ap_elf.specs.declared.constants.TheConstants.{PF_R, PF_W, PF_X}
use Rattle.ap_elf.specs.declared.types.Entry.{Entry}

abbrev pub permissions_of : Entry → ℕ
permissions_of p = bit_and p.flags (PF_R + PF_W + PF_X)

abbrev pub has_address : Entry → ℕ → Bool
has_address p a = nat_le p.vaddr a && nat_lt a (p.vaddr + p.memsz)

-- the byte of a load at one of its addresses: the file's in the file part, 0 behind it
abbrev pub load_byte : (ℕ → ℕ) → Entry → ℕ → ℕ
load_byte byte p a = if nat_lt (a - p.vaddr) p.filesz then byte (p.offset + (a - p.vaddr)) else 0

-- the cell of an input at an address, by its bytes and its loads
abbrev pub input_cell : (ℕ → ℕ) → List Entry → ℕ → Option Cell
input_cell byte [] a = None
input_cell byte (p ∷ loads) a = if has_address p a then Some (load_byte byte p a, permissions_of p) else input_cell byte loads a
