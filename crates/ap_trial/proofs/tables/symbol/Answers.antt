use Rattle.std.proofs.Common.{refl}
use Rattle.ap_fields.proofs.RowFilling.{rows-put}
use Rattle.ap_trial.specs.TrialInputs.{symbol_rows}
use Rattle.ap_trial.proofs.tables.symbol.Goals as goal

pub returns : goal.returns
returns c = rows-put 24 _ symbol_rows refl (_, c.put32.ensures, (_, c.put16.ensures, (_, c.put64.ensures, refl)))
