use Rattle.std.proofs.Common.{ap}
use Rattle.ap_shell.specs.Files.{entries_in, files_in}
use Rattle.ap_shell.proofs.map.Files.new.Goals as goal

pub returns : goal.returns
unfolding files_in
returns c = ap entries_in c.new.ensures.empty
