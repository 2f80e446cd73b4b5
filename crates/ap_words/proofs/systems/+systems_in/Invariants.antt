use Rattle.std.proofs.Common.{length}
use Rattle.ap_words.proofs.systems.+systems_in.Given as goal

abbrev pub decreases-systems_in : goal.decreases-systems_in
decreases-systems_in l = length l.list.now
