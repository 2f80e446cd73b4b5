-- What a file's script does.
use Rattle.std.specs.Prelude.{◌≡◌, ℕ, List, [], Result, Ok, Err, None}
use Rattle.std.specs.FinMap as fin
use Rattle.ap_shparse.specs.Grammar.{IsOutside, IsScript}
use Rattle.ap_shparse.specs.declared.tree.Chain.{Chain}
use Rattle.ap_shell.specs.Meaning.{shell_meaning}
use Rattle.ap_shell.specs.declared.types.Env.{Env}
use Rattle.ap_shell.specs.declared.types.Host.{Host}
use Rattle.ap_shell.specs.declared.types.Outcome.{Outcome}
use Rattle.ap_shell.specs.Runs.{Runs}
use Rattle.ap_shparse.specs.declared.tree.ShellFault.{ShellFault}
use Rattle.ap_run.specs.declared.end.ReadingFault.TheVariants as fault
use Rattle.ap_run.specs.Outcomes.{outcome_text}
use Rattle.ap_run.specs.ScriptRuns.{ScriptRun}
use Rattle.ap_run.specs.Whole.{Sized, Telling}

-- what the script sees: its file as `$0`, no arguments, no TMPDIR, the process number 1, and no utility that fails
abbrev pub env_of : ScriptRun → Env
env_of run = record {
  zero = run.file;
  args = [];
  tmpdir = None;
  pid = 1;
  machine = run.machine;
  system = run.system;
  ape = run.ape;
  fails = [];
}

-- the file alone, with the mode 0700
abbrev pub host_of : List ℕ → List ℕ → Host
host_of name file = record { files = fin.insert fin.empty name (record { bytes = file; mode = 448 }); out = [] }

-- how the shell answers to the file, and the host afterwards
abbrev pub Answered : ScriptRun → List ℕ → Result Outcome ShellFault → Type 0
Answered run file answer = (after : Host) × Runs run.nul file (env_of run) (host_of run.file file) answer after

-- the file is a script, and the text is that of its outcome
pub record HasOutcome (run : ScriptRun) (file text : List ℕ) : Type 0 where
  pub items : List Chain
  pub script : IsScript run.nul file items
  pub outcome : text ≡ outcome_text (shell_meaning (env_of run) items (host_of run.file file)).0

-- the text of the outcome, or where the file isn't in the grammar
abbrev pub RunsTo : ScriptRun → Telling
RunsTo run file (Ok text) = HasOutcome run file text
RunsTo run file (Err f) = (at : ℕ) × (f ≡ fault.Shell at) × IsOutside run.nul file at

-- the same of a file of any length
abbrev pub Scripted : ScriptRun → Telling
Scripted run = Sized (RunsTo run)
