-- How a file that is read whole is shown, step by step.
use Rattle.std.proofs.Common.{ℕ, ◌^◌, ◌<◌, ◌≤◌, List, length, Vec, Result, Ok, Err, refl, subst, sym, arith}
use Rattle.std.specs.declared.alloc.Global.{Global}
use Rattle.ap_files.specs.Files.{FileState}
use Rattle.ap_run.specs.declared.end.ReadingFault.{ReadingFault}
use Rattle.ap_run.specs.declared.end.ReadingFault.TheVariants as fault
use Rattle.ap_run.specs.declared.end.Cause.{Cause}
use Rattle.ap_run.specs.declared.end.Cause.TheVariants.{Done, Refused, Unread, Usage, Unbuilt, ReadFault, WriteFault, OutFault, NoMemory}
use Rattle.ap_run.specs.Fetches.{Fetches}
use Rattle.ap_run.specs.Shows.{Answers, IsShown}
use Rattle.ap_run.specs.Whole.{MakesOf, Sized, Telling}

sized-small : (P : Telling) (b : List ℕ) (shown : Result (List ℕ) ReadingFault) → length b ≤ 2 ^ 30 → P b shown → Sized P b shown
sized-small P b shown small is = record { read = λ _. is; large = λ more. absurd (omega arith) }

sized-large : (P : Telling) (b : List ℕ) → 2 ^ 30 < length b → Sized P b (Err (fault.Large (length b)))
sized-large P b large = record { read = λ less. absurd (omega arith); large = λ _. refl }

-- a file that isn't read
pub whole-unread : (old new : FileState) (P : Telling) (name : List ℕ) (cause : Cause) → Fetches old new name (Err cause) → Answers old new (Sized P) name (Err cause)
whole-unread old new P name (Unread f) h = (h.0, λ m k. let t = h.1 m k in (t.0, t.1, subst (λ g. Sized P t.0 (Err g)) (sym t.2.1) (sized-large P t.0 t.2.0)))
whole-unread old new P name ReadFault h = h
whole-unread old new P name NoMemory h = h
whole-unread old new P name Done h = absurd h
whole-unread old new P name (Refused f) h = absurd h
whole-unread old new P name Usage h = absurd h
whole-unread old new P name (Unbuilt word) h = absurd h
whole-unread old new P name WriteFault h = absurd h
whole-unread old new P name OutFault h = absurd h

is-shown : (old new : FileState) (P : Telling) (name : List ℕ) (file : Vec ℕ Global) (shown : Result (List ℕ) ReadingFault) → Fetches old new name (Ok file) → P file.items shown → IsShown old (Sized P) name shown
is-shown old new P name file shown h is m k =
    let t = h.2 m k in
    (t.0, t.1, sized-small P t.0 shown (subst (λ b. length b ≤ 2 ^ 30) t.2 h.1) (subst (λ b. P b shown) t.2 is))

-- the text of the bytes that were read, or the refusal
pub whole-read : (old new : FileState) (P : Telling) (name : List ℕ) (file : Vec ℕ Global) (r : Result (Vec ℕ Global) Cause) → Fetches old new name (Ok file) → MakesOf P file.items r → Answers old new (Sized P) name r
whole-read old new P name file (Ok text) h is = (h.0, is-shown old new P name file (Ok text.items) h is)
whole-read old new P name file (Err (Unread g)) h is = (h.0, is-shown old new P name file (Err g) h is)
whole-read old new P name file (Err NoMemory) h is = h.0
whole-read old new P name file (Err Done) h is = absurd is
whole-read old new P name file (Err (Refused g)) h is = absurd is
whole-read old new P name file (Err Usage) h is = absurd is
whole-read old new P name file (Err (Unbuilt word)) h is = absurd is
whole-read old new P name file (Err ReadFault) h is = absurd is
whole-read old new P name file (Err WriteFault) h is = absurd is
whole-read old new P name file (Err OutFault) h is = absurd is
