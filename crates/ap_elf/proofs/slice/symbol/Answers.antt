use Rattle.std.proofs.Common.{◌∙◌, ap, arith, length}
use Rattle.ap_files.proofs.SliceLemmas.{slice_file, slice_told}
use Rattle.ap_elf.specs.Symbols.{EndBelow, value_by, symbols_from}
use Rattle.ap_elf.proofs.Naming.{named-by-none}
use Rattle.ap_elf.proofs.slice.symbol.Goals as goal

pub symbol_in-requires : goal.symbol_in-requires
symbol_in-requires c =
    let t = c.in-At.t in
    let ends : EndBelow (length c.args.b.now) t = c.in-At.ensures.ends in
    let symbols = ends.symbols in
    let strings = ends.strings in
    record {
      tables = record {
        small = record { symbols = omega arith; strings = omega arith };
        told = slice_file {P = λ b. EndBelow (length b) t} c.args.b.now ends;
      };
      named = λ m b told at. named-by-none (symbols_from b t.at t.count);
    }

pub returns : goal.returns
returns c = slice_told c.in-Ok.ensures.1 ∙ ap (value_by c.args.b.now c.args.name.now) c.in-At.ensures.is
