-- What follows from the answers of sizes, and of reads of whole files.
use Rattle.std.proofs.Common.{◌≡◌, inl, ℕ, ◌^◌, ◌<◌, ◌≤◌, List, length, Vec, Ok, Err, ap, ◌∙◌, subst, arith}
use Rattle.std.specs.declared.alloc.Global.{Global}
use Rattle.ap_files.specs.Files.{FileState, Measures}
use Rattle.ap_files.specs.Reads as reads
use Rattle.ap_files.specs.Reads.{HasFile, HasSize, ReadFails}
use Rattle.ap_files.proofs.ReadLemmas.{same_state, size_known}
use Rattle.ap_run.specs.declared.end.ReadingFault.TheVariants as fault
use Rattle.ap_run.specs.declared.end.Cause.{Cause}
use Rattle.ap_run.specs.declared.end.Cause.TheVariants.{Done, Refused, Unread, Usage, Unbuilt, ReadFault, WriteFault, OutFault, NoMemory}
use Rattle.ap_run.specs.Fetches.{Fetches, Measured}

pub too-large : (old new : FileState) (name : List ℕ) (n : ℕ) → Measures old new name (Ok n) → 2 ^ 30 < n
    → (new ≡ old) × (2 ^ 30 < n) × HasSize old.kept name n
too-large old new name n h large = (same_state old new h.files h.ok, large, size_known old new name n h)

pub small-enough : (old new : FileState) (name : List ℕ) (n : ℕ) → Measures old new name (Ok n) → n ≤ 2 ^ 30
    → (new ≡ old) × (n ≤ 2 ^ 30) × HasSize old.kept name n
small-enough old new name n h small = (same_state old new h.files h.ok, small, size_known old new name n h)

-- a file that isn't read
pub unmeasured : (old new : FileState) (name : List ℕ) (cause : Cause) → Measured old new name (Err cause) → Fetches old new name (Err cause)
unmeasured old new name (Unread (fault.Large size)) h = (h.0, λ m k. let t = h.2 m k in (t.0, t.1, ((let l = h.1 in let e = t.2 in omega arith), ap (λ n. fault.Large n) t.2)))
unmeasured old new name (Unread (fault.Wide total)) h = absurd h
unmeasured old new name (Unread (fault.Elf f)) h = absurd h
unmeasured old new name (Unread (fault.Ape f)) h = absurd h
unmeasured old new name (Unread (fault.Pe f)) h = absurd h
unmeasured old new name (Unread (fault.Mach f)) h = absurd h
unmeasured old new name (Unread (fault.Walk f)) h = absurd h
unmeasured old new name (Unread (fault.Shell at)) h = absurd h
unmeasured old new name (Unread fault.NotApe) h = absurd h
unmeasured old new name (Unread fault.NoStatement) h = absurd h
unmeasured old new name ReadFault h = h
unmeasured old new name Done h = absurd h
unmeasured old new name (Refused f) h = absurd h
unmeasured old new name Usage h = absurd h
unmeasured old new name (Unbuilt word) h = absurd h
unmeasured old new name WriteFault h = absurd h
unmeasured old new name OutFault h = absurd h
unmeasured old new name NoMemory h = absurd h

pub fetched : (old mid new : FileState) (name : List ℕ) (size : ℕ) (bytes : Vec ℕ Global) → (mid ≡ old) × (size ≤ 2 ^ 30) × HasSize old.kept name size → (new ≡ mid) × HasFile mid.kept name (λ b. bytes.items ≡ b)
    → length bytes.items ≡ size → Fetches old new name (Ok bytes)
fetched old mid new name size bytes h f long = (
  f.0 ∙ h.0,
  (let l = h.1 in omega arith),
  subst (λ (s : FileState). HasFile s.kept name (λ b. bytes.items ≡ b)) h.0 f.1,
)

pub not-fetched : (old mid new : FileState) (name : List ℕ) → mid ≡ old → ReadFails mid new → Fetches old new name (Err ReadFault)
not-fetched old mid new name same f = subst (λ s. reads.Unread s new name) same (record { files = f.files; write_faults = f.write_faults; cause = inl f.rose })
