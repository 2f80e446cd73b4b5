use Rattle.std.proofs.Common.{refl}
use Rattle.ap_files.proofs.StoreLemmas.{no_slots}
use Rattle.ap_files.proofs.store.Store.new.Goals as goal

pub returns : goal.returns
returns c = no_slots _ refl c.new.result.items c.new.ensures.items
