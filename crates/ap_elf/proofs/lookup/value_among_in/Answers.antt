use Rattle.std.proofs.Common.{◌∙◌, ◌+◌, ◌*◌, ◌-◌, Some, ap, sym}
use Rattle.ap_files.specs.Files.{FileState}
use Rattle.ap_elf.specs.declared.types.Symbol.{Symbol}
use Rattle.ap_elf.specs.Symbols.{strings_of, symbol_at, symbols_from, is_named}
use Rattle.ap_elf.proofs.SymbolSteps.{symbol-step-front}
use Rattle.ap_elf.proofs.Values.{value-here, value-next}
use Rattle.ap_elf.proofs.lookup.value_among_in.Goals as goal

pub returns-then-branch : goal.returns-then-branch
returns-then-branch g c =
    let part = c.args.part.now in
    let i = c.loop-i.i in
    let is = c.symbol_from-s.ensures in
    let read = rw c.if-branch.true at c.in_ok-has_name_in.ensures in (
      read.0 ∙ c.loop-i.invariant.state,
      λ m b told at.
          let strings = strings_of b c.args.t.now in
          ap (λ (s : Symbol). Some s.value) is
          ∙ value-here strings c.args.wanted.now (symbol_at part (24 * i)) (symbols_from part (24 * (i + 1)) (c.args.count - (i + 1))) _ _
          (c.loop-i.invariant.left m b told at) (symbol-step-front part c.args.count i c.loop-i-test.true)
          (ap (is_named strings c.args.wanted.now) (sym is) ∙ sym (read.1 m b (ap (λ (s : FileState). s.kept) c.loop-i.invariant.state ∙ told) at)),
    )

pub loop-i-preserved : goal.loop-i-preserved
loop-i-preserved g c =
    let part = c.args.part.now in
    let i = c.loop-i.i in
    let is = c.symbol_from-s.ensures in
    let read = rw c.if-branch.false at c.in_ok-has_name_in.ensures in
    record {
      state = read.0 ∙ c.loop-i.invariant.state;
      left = λ m b told at.
          let strings = strings_of b c.args.t.now in
          value-next strings c.args.wanted.now (symbol_at part (24 * i)) (symbols_from part (24 * (i + 1)) (c.args.count - (i + 1))) _ _
          (c.loop-i.invariant.left m b told at) (symbol-step-front part c.args.count i c.loop-i-test.true)
          (ap (is_named strings c.args.wanted.now) (sym is) ∙ sym (read.1 m b (ap (λ (s : FileState). s.kept) c.loop-i.invariant.state ∙ told) at));
    }
