-- The run of a text: the shell grammar, and then the meaning of its script.
use Rattle.std.specs.Prelude.{◌≡◌, List, Result, Ok, Err}
use Rattle.ap_shparse.specs.Grammar.{IsOutside, IsScript}
use Rattle.ap_shparse.specs.declared.tree.Chain.{Chain}
use Rattle.ap_shparse.specs.declared.tree.Nul.{Nul}
use Rattle.ap_shparse.specs.declared.tree.ShellFault.{ShellFault}
use Rattle.ap_shparse.specs.declared.tree.ShellFault.TheVariants as fault
use Rattle.ap_shell.specs.Files.{Text}
use Rattle.ap_shell.specs.Meaning.{shell_meaning}
use Rattle.ap_shell.specs.declared.types.Env.{Env}
use Rattle.ap_shell.specs.declared.types.Host.{Host}
use Rattle.ap_shell.specs.declared.types.Outcome.{Outcome}

-- the text is a script, with this outcome and this host afterwards
pub record Ends (nul : Nul) (text : Text) (env : Env) (old : Host) (outcome : Outcome) (new : Host) : Type 0 where
  pub items : List Chain
  pub script : IsScript nul text items
  pub meaning : shell_meaning env items old ≡ (outcome, new)

-- what a run answers, and the host after it; after want of memory nothing is said of the host
abbrev pub Runs : Nul → Text → Env → Host → Result Outcome ShellFault → Host → Type 0
Runs nul text env old (Ok outcome) new = Ends nul text env old outcome new
Runs nul text env old (Err (fault.Outside at)) new = IsOutside nul text at × (new ≡ old)
Runs nul text env old (Err fault.NoMemory) new = Unit {0}
