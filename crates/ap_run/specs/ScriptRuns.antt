-- What a script is run with.
use Rattle.std.specs.Prelude.{ℕ, Bool, List}
use Rattle.ap_shparse.specs.declared.tree.Nul.{Nul}
use Rattle.ap_run.specs.declared.script_run.ScriptRun as code

-- a file, and what its script is run with
pub record ScriptRun : Type 0 where
  -- what `uname` answers
  pub system : List ℕ
  pub machine : List ℕ
  -- whether the command `ape` is found
  pub ape : Bool
  pub nul : Nul
  pub file : List ℕ

-- the same of what the code holds
abbrev pub script_run : code.ScriptRun → ScriptRun
script_run r = record { system = r.system.now; machine = r.machine.now; ape = r.ape; nul = r.nul; file = r.file.now }
