use Rattle.std.proofs.Common.{◌≡◌, drop}
use Rattle.ap_shparse.specs.Bytes.{past}
use Rattle.ap_shparse.proofs.text.Text.eat_word.Given as goal

abbrev pub invariant-loop-byte : goal.invariant-loop-byte
invariant-loop-byte l = record {
  left : past l.fn.word l.fn.self ≡ past (drop l.byte-index l.fn.word) l.self;
  start : l.text ≡ l.fn.self;
}
