use Rattle.ap_shparse.proofs.FrontMeets.{fronts_obey, read_fronts}
use Rattle.ap_shparse.proofs.law.fronts_are_lists.Goals as goal

pub returns-clause-obeys : goal.returns-clause-obeys
returns-clause-obeys c = fronts_obey

pub returns-clause-whole : goal.returns-clause-whole
returns-clause-whole c = read_fronts
