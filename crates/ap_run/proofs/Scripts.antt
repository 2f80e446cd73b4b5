-- What a file's script does is one answer.
use Rattle.std.proofs.Common.{◌≡◌, ◌∙◌, ℕ, ◌^◌, ◌≤◌, List, length, inl, inr, refl, sym, ap, subst, arith}
use Rattle.std.specs.Prelude.{Result, Ok, Err, nat_lt}
use Rattle.std.proofs.lemmas.Bool.{cases_Bool}
use Rattle.std.proofs.lemmas.Bool.Decides.{nat_tests}
use Rattle.ap_shparse.specs.Grammar.{IsOutside, seen}
use Rattle.ap_shparse.specs.Scripts.{script}
use Rattle.ap_shparse.specs.declared.tree.Chain.{Chain}
use Rattle.ap_shparse.specs.declared.tree.Nul.{Nul}
use Rattle.ap_shparse.specs.declared.tree.Nul.TheVariants as nul
use Rattle.ap_shparse.specs.declared.tree.ShellFault.{ShellFault}
use Rattle.ap_shparse.specs.declared.tree.ShellFault.TheVariants as shell
use Rattle.ap_shparse.proofs.JoinLemmas.{one_script}
use Rattle.ap_shparse.proofs.OutsideLemmas.{outside_kept, outside_dropped}
use Rattle.ap_shell.specs.Meaning.{shell_meaning}
use Rattle.ap_shell.specs.Runs.{Runs}
use Rattle.ap_shell.specs.declared.types.Env.{Env}
use Rattle.ap_shell.specs.declared.types.Host.{Host}
use Rattle.ap_shell.specs.declared.types.Outcome.{Outcome}
use Rattle.ap_run.specs.declared.end.ReadingFault.{ReadingFault}
use Rattle.ap_run.specs.declared.end.ReadingFault.TheVariants as fault
use Rattle.ap_run.specs.Outcomes.{outcome_text}
use Rattle.ap_run.specs.ScriptRuns.{ScriptRun}
use Rattle.ap_run.specs.Scripted.{Answered, RunsTo, Scripted, env_of, host_of}

one-place : (n : Nul) (t : List ℕ) (a b : ℕ) → IsOutside n t a → IsOutside n t b → a ≡ b
one-place n t a b h k =
    let under : length k.whole ≤ a = h.longest k.whole k.rest k.items k.spelling k.is_front in
    let over : length h.whole ≤ b = k.longest h.whole h.rest h.items h.spelling h.is_front in
    omega (arith, under, over, h.is_long, k.is_long)

runs-one : (run : ScriptRun) (file : List ℕ) (x y : Result (List ℕ) ReadingFault) → RunsTo run file x → RunsTo run file y → x ≡ y
runs-one run file (Ok s) (Ok t) h k =
    let same = one_script run.nul file h.items k.items h.script k.script in
    ap (λ (l : List ℕ). Ok l) (h.outcome ∙ ap (λ items. outcome_text (shell_meaning (env_of run) items (host_of run.file file)).0) same ∙ sym k.outcome)
runs-one run file (Ok s) (Err f) h k = absurd (k.2.none h.items h.script)
runs-one run file (Err f) (Ok t) h k = absurd (h.2.none k.items k.script)
runs-one run file (Err f) (Err g) h k =
    ap (λ (r : ReadingFault). Err r) (h.1 ∙ ap (λ n. fault.Shell n) (one-place run.nul file h.0 k.0 h.2 k.2) ∙ sym k.1)

pub one-answer : (run : ScriptRun) (file : List ℕ) (x y : Result (List ℕ) ReadingFault) → Scripted run file x → Scripted run file y → x ≡ y
one-answer run file x y h k = elim (cases_Bool (nat_lt (2 ^ 30) (length file))) [
  | inl large ↦ h.large (grind (arith, nat_tests)) ∙ sym (k.large (grind (arith, nat_tests)))
  | inr small ↦ runs-one run file x y (h.read (grind (arith, nat_tests))) (k.read (grind (arith, nat_tests)))
]

place-of : (n : Nul) (t : List ℕ) (left : ℕ) → script (seen n t) ≡ Err left → (at : ℕ) × IsOutside n t at
place-of nul.Keep t left is = (_, outside_kept t left is)
place-of nul.Drop t left is = (_, outside_dropped t left is)

ran : (run : ScriptRun) (file : List ℕ) (r : Result (List Chain) ℕ) → script (seen run.nul file) ≡ r → (answer : Result (List ℕ) ReadingFault) × RunsTo run file answer
ran run file (Ok items) is = (
  Ok (outcome_text (shell_meaning (env_of run) items (host_of run.file file)).0),
  record { items = items; script = is; outcome = refl },
)
ran run file (Err left) is = let place = place-of run.nul file left is in (Err (fault.Shell place.0), (place.0, refl, place.1))

pub has-answer : (run : ScriptRun) (file : List ℕ) → (answer : Result (List ℕ) ReadingFault) × Scripted run file answer
has-answer run file = elim (cases_Bool (nat_lt (2 ^ 30) (length file))) [
  | inl large ↦ (Err (fault.Large (length file)), record { read = λ less. absurd (grind (arith, nat_tests)); large = λ more. refl })
  | inr small ↦ let found = ran run file (script (seen run.nul file)) refl in (found.0, record { read = λ less. found.1; large = λ more. absurd (grind (arith, nat_tests)) })
]

-- the shell's answer where no memory is left
pub no-memory : (run : ScriptRun) (file : List ℕ) (answer : Result Outcome ShellFault) → answer ≡ Err shell.NoMemory → Answered run file answer
no-memory run file answer is = subst (Answered run file) (sym is) (host_of run.file file, tt)

-- and its answer in what the script sees
pub answered : (run : ScriptRun) (file : List ℕ) (env : Env) (before after : Host) (answer : Result Outcome ShellFault) → env ≡ env_of run → before ≡ host_of run.file file → Runs run.nul file env before answer after → Answered run file answer
answered run file env before after answer e h ran = (
  after,
  subst (λ (v : Env). Runs run.nul file v (host_of run.file file) answer after) e (subst (λ (k : Host). Runs run.nul file env k answer after) h ran),
)
