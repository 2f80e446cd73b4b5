use Rattle.ap_shparse.proofs.ScriptMeets.{read_programs, scripts_obey}
use Rattle.ap_shparse.proofs.law.scripts_are_programs.Goals as goal

pub returns-clause-obeys : goal.returns-clause-obeys
returns-clause-obeys c = scripts_obey

pub returns-clause-whole : goal.returns-clause-whole
returns-clause-whole c = read_programs
