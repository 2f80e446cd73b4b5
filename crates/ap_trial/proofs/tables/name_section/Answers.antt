use Rattle.std.proofs.Common.{refl}
use Rattle.ap_fields.proofs.RowFilling.{rows-put}
use Rattle.ap_trial.specs.TrialInputs.{strings_rows}
use Rattle.ap_trial.proofs.tables.name_section.Goals as goal

pub returns : goal.returns
returns c = rows-put 64 _ (strings_rows c.args.at) refl (_, c.put32.ensures, (_, c.put64.ensures, (_, c.put64-2.ensures, refl)))
