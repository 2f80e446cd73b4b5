-- The plan of a file by its name, step by step.
use Rattle.std.proofs.Common.{◌≡◌, ℕ, ◌^◌, ◌<◌, ◌≤◌, true, false, cond, List, length, Result, Err, sym, ap, ◌∙◌, arith}
use Rattle.std.specs.Prelude.{nat_lt}
use Rattle.std.proofs.lemmas.Bool.Decides.{nat_tests}
use Rattle.ap_files.specs.Files.{FileState, ForFile}
use Rattle.ap_files.specs.Reads.{HasSize}
use Rattle.ap_image.specs.Plans.{Mapping}
use Rattle.ap_run.specs.declared.end.ReadingFault.{ReadingFault}
use Rattle.ap_run.specs.declared.end.ReadingFault.TheVariants as fault
use Rattle.ap_run.specs.declared.end.Cause.{Cause}
use Rattle.ap_run.specs.declared.end.Cause.TheVariants.{Done, Refused, Unread, Usage, Unbuilt, ReadFault, WriteFault, OutFault, NoMemory}
use Rattle.ap_run.specs.declared.format.Format.{Format}
use Rattle.ap_run.specs.Fetches.{Measured}
use Rattle.ap_run.specs.Formats.{plan_in}
use Rattle.ap_run.specs.FilePlans.{sized_plan_in, IsPlanned, Plans}

sized-small : (format : Format) (b : List ℕ) → length b ≤ 2 ^ 30 → sized_plan_in format b ≡ plan_in format b
unfolding sized_plan_in
sized-small format b small =
    let f : nat_lt (2 ^ 30) (length b) ≡ false = grind (arith, nat_tests) in
    ap (λ t. cond t (Err (fault.Large (length b))) (plan_in format b)) f

sized-large : (format : Format) (b : List ℕ) (size : ℕ) → 2 ^ 30 < size → size ≡ length b → sized_plan_in format b ≡ Err (fault.Large size)
unfolding sized_plan_in
sized-large format b size large is =
    let f : nat_lt (2 ^ 30) (length b) ≡ true = grind (arith, nat_tests) in
    ap (λ t. cond t (Err (fault.Large (length b))) (plan_in format b)) f ∙ ap (λ n. Err (fault.Large n)) (sym is)

-- a file that isn't read
pub plans-unmeasured : (old new : FileState) (format : Format) (name : List ℕ) (cause : Cause) → Measured old new name (Err cause) → Plans old new format name (Err cause)
plans-unmeasured old new format name (Unread (fault.Large size)) h = (h.0, λ m k. let t = h.2 m k in (t.0, t.1, sized-large format t.0 size h.1 t.2))
plans-unmeasured old new format name (Unread (fault.Wide total)) h = absurd h
plans-unmeasured old new format name (Unread (fault.Elf f)) h = absurd h
plans-unmeasured old new format name (Unread (fault.Ape f)) h = absurd h
plans-unmeasured old new format name (Unread (fault.Pe f)) h = absurd h
plans-unmeasured old new format name (Unread (fault.Mach f)) h = absurd h
plans-unmeasured old new format name (Unread (fault.Walk f)) h = absurd h
plans-unmeasured old new format name (Unread (fault.Shell at)) h = absurd h
plans-unmeasured old new format name (Unread fault.NotApe) h = absurd h
plans-unmeasured old new format name (Unread fault.NoStatement) h = absurd h
plans-unmeasured old new format name ReadFault h = h
plans-unmeasured old new format name Done h = absurd h
plans-unmeasured old new format name (Refused f) h = absurd h
plans-unmeasured old new format name Usage h = absurd h
plans-unmeasured old new format name (Unbuilt word) h = absurd h
plans-unmeasured old new format name WriteFault h = absurd h
plans-unmeasured old new format name OutFault h = absurd h
plans-unmeasured old new format name NoMemory h = absurd h

-- the plan or the refusal that was read
pub is-planned : (old mid new : FileState) (format : Format) (name : List ℕ) (size : ℕ) (found plan : Result Mapping ReadingFault) → (mid ≡ old) × (size ≤ 2 ^ 30) × HasSize old.kept name size
    → (new ≡ mid) × ForFile mid.kept name (λ b. found ≡ plan_in format b) → found ≡ plan → (new ≡ old) × IsPlanned old format name plan
is-planned old mid new format name size found plan measured read is = (
  read.0 ∙ measured.0,
  λ m k.
      let small = measured.1 in
      let t = measured.2 m k in
      (t.0, t.1, sized-small format t.0 (let l = t.2 in omega arith) ∙ sym (read.1 m t.0 (ap (λ (s : FileState). s.kept) measured.0 ∙ k) t.1) ∙ is),
)
