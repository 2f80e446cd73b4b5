use Rattle.std.proofs.Common.{◌∙◌, ◌+◌, ◌-◌, ap, sym, arith}
use Rattle.std.proofs.lemmas.Bool.{eqb-true}
use Rattle.std.proofs.lemmas.Bool.Decides.{nat_tests}
use Rattle.ap_octal.specs.DdEffect.{blocks_copied, dd_effect}
use Rattle.ap_shell.proofs.DdLemmas.{block_more, block_none}
use Rattle.ap_shell.proofs.copying.copied.Goals as goal

pub returns-then-is_empty : goal.returns-then-is_empty
unfolding dd_effect
returns-then-is_empty c =
    let b = c.args.blocks in
    let none = eqb-true _ _ (sym c.is_empty.ensures ∙ c.if-is_empty.true) in
    c.from_vec.ensures
    ∙ sym (c.loop-i.invariant.rest
    ∙ block_none c.args.onto_itself b.size b.skip b.count c.loop-i.i c.loop-i.from c.args.input.now c.loop-i.bytes.items c.in_ok-block.block.items c.loop-i-test.true c.loop-i.invariant.from
    (rw c.as_slice.ensures.value at c.in_ok-block.ensures.bytes) (omega (arith, none, c.in_ok-block.block.ok)))

pub loop-i-preserved : goal.loop-i-preserved
loop-i-preserved c =
    let b = c.args.blocks in
    record {
      rest = c.loop-i.invariant.rest
          ∙ block_more c.args.onto_itself b.size b.skip b.count c.loop-i.i c.loop-i.from c.args.input.now c.loop-i.bytes.items c.in_ok-block.block.items c.loop-i-test.true c.loop-i.invariant.from
          (rw c.as_slice.ensures.value at c.in_ok-block.ensures.bytes) (grind (arith, nat_tests, c.is_empty.ensures, c.if-is_empty.false, c.in_ok-block.block.ok))
          ∙ ap (blocks_copied c.args.onto_itself b.size b.skip (b.count - (c.loop-i.i + 1)) (c.loop-i.i + 1) c.args.input.now)
          (sym (rw c.as_slice-in-loop-i.ensures.value at c.in_ok-put_block.ensures));
      from = grind (arith, c.loop-i.invariant.from);
    }
