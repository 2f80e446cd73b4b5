use Rattle.std.proofs.Common.{◌≡◌, drop, take, ◌++◌}
use Rattle.ap_shparse.specs.Bytes.{run, after}
use Rattle.ap_shparse.proofs.text.Text.run.Given as goal

abbrev pub invariant-loop-at : goal.invariant-loop-at
invariant-loop-at l = record {
  run : run l.class l.text ≡ take l.at l.text ++ run l.class (drop l.at l.text);
  after : after l.class l.text ≡ after l.class (drop l.at l.text);
  whole : l.fn.self ≡ l.text;
}
