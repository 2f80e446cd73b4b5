use Rattle.std.proofs.Common.{◌≡◌, ◌+◌, ◌-◌, ◌*◌}
use Rattle.ap_octal.specs.DdEffect.{blocks_copied}
use Rattle.ap_shell.proofs.copying.copied.Given as goal

abbrev pub invariant-loop-i : goal.invariant-loop-i
invariant-loop-i l = record {
  rest : blocks_copied l.onto_itself l.fn.blocks.size l.fn.blocks.skip l.fn.blocks.count 0 l.input l.fn.output
      ≡ blocks_copied l.onto_itself l.fn.blocks.size l.fn.blocks.skip (l.fn.blocks.count - l.i) l.i l.input l.bytes.items;
  from : l.from ≡ (l.fn.blocks.skip + l.i) * l.fn.blocks.size;
}
