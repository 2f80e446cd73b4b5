use Rattle.ap_elf.specs.Symbols.{symbols_from}
use Rattle.ap_elf.proofs.Naming.{named-by-none}
use Rattle.test_formats.proofs.tests.elf.by_name.Goals as goal

pub symbol_in-requires-clause-named : goal.symbol_in-requires-clause-named
symbol_in-requires-clause-named c = λ m b told at. named-by-none (symbols_from b c.in-At.t.at c.in-At.t.count)
