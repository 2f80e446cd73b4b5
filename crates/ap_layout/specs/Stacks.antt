-- The stack that an input asks for.
use Rattle.std.specs.Prelude.{ℕ, min, Option, Some, None}
use Rattle.ap_fields.specs.Granules.{ceil_of}
use Rattle.ap_elf.specs.declared.types.Entry.{Entry}
use Rattle.ap_layout.specs.declared.stack.TheConstants.{MOST_STACK, STACK_GRANULE}

-- the size of a stack: in whole granules of stacks, MOST_STACK at most, and 0 where none is asked for
abbrev pub stack_size : Option Entry → ℕ
stack_size None = 0
stack_size (Some p) = min MOST_STACK (ceil_of p.memsz STACK_GRANULE)
