-- Files that are made of files.
use Rattle.std.proofs.Common.{◌≡◌, ◌⊎◌, ℕ, ◌^◌, nat_lt, List, length, Vec, Result, Ok, Err, Some, refl, sym, subst, ◌∙◌, arith, inl, inr}
use Rattle.std.specs.declared.alloc.Global.{Global}
use Rattle.std.proofs.lemmas.Bool.{cases_Bool}
use Rattle.std.proofs.lemmas.Bool.Decides.{nat_tests}
use Rattle.ap_files.specs.Files.{FileState}
use Rattle.ap_files.specs.Appends.{IsMade, Makes}
use Rattle.ap_files.specs.declared.failure.FileFault.TheVariants as file
use Rattle.ap_elf.specs.declared.machine.Machine.{Machine}
use Rattle.ap_assim.specs.declared.fault.AssimFault.TheVariants as assim
use Rattle.ap_assim.proofs.Copied.{copied-apart}
use Rattle.ap_words.specs.declared.command.Form.{Form}
use Rattle.ap_words.specs.declared.command.Form.TheVariants.{Pe, Mach, Elf}
use Rattle.ap_run.specs.declared.end.ReadingFault.{ReadingFault}
use Rattle.ap_run.specs.declared.end.ReadingFault.TheVariants as fault
use Rattle.ap_run.specs.declared.end.Cause.{Cause}
use Rattle.ap_run.specs.declared.end.Cause.TheVariants.{Done, Refused, Unread, Usage, Unbuilt, ReadFault, WriteFault, OutFault, NoMemory}
use Rattle.ap_run.specs.Assimilates.{Assimilated, Becomes, BecomesOr}
use Rattle.ap_run.specs.Shows.{Answers}
use Rattle.ap_run.specs.Whole.{Telling}
use Rattle.ap_run.specs.Writes.{WriteEnds}

pub write-made : (old mid new : FileState) (P : Telling) (name out : List ℕ) (bytes : Vec ℕ Global) → Answers old mid P name (Ok bytes) → IsMade mid new out bytes.items → WriteEnds old new P name out Done
write-made old mid new P name out bytes h made = (bytes.items, subst (λ (s : FileState). IsMade s new out bytes.items) h.0 made, h.1)

pub write-broken : (old mid new : FileState) (P : Telling) (name out : List ℕ) (bytes : Vec ℕ Global) → Answers old mid P name (Ok bytes) → Makes mid new out bytes.items (Some file.Write)
    → WriteEnds old new P name out WriteFault
write-broken old mid new P name out bytes h part = (bytes.items, subst (λ (s : FileState). Makes s new out bytes.items (Some file.Write)) h.0 part, h.1)

pub write-bare : (old new : FileState) (P : Telling) (name out : List ℕ) (cause : Cause) → Answers old new P name (Err cause) → WriteEnds old new P name out cause
write-bare old new P name out (Unread f) h = h
write-bare old new P name out ReadFault h = h
write-bare old new P name out NoMemory h = h
write-bare old new P name out Done h = absurd h
write-bare old new P name out (Refused f) h = absurd h
write-bare old new P name out Usage h = absurd h
write-bare old new P name out (Unbuilt w) h = absurd h
write-bare old new P name out WriteFault h = absurd h
write-bare old new P name out OutFault h = absurd h

-- ---- one fault at most

refused-twice : (form : Form) (machine : Machine) (f : List ℕ) → Becomes form machine f (Err assim.NotApe) → Becomes form machine f (Err assim.NoStatement) → ⊥
refused-twice Elf machine f h k = cc
refused-twice Mach machine f h k = let s = k.0 in cc
refused-twice Pe machine f h k = h

no-ape-made : (form : Form) (machine : Machine) (f bytes : List ℕ) → Becomes form machine f (Err assim.NotApe) → Becomes form machine f (Ok bytes) → ⊥
no-ape-made Elf machine f bytes h k = cc
no-ape-made Mach machine f bytes h k = let s = k.0 in cc
no-ape-made Pe machine f bytes h k = h

no-statement-made : (form : Form) (machine : Machine) (f bytes : List ℕ) → Becomes form machine f (Err assim.NoStatement) → Becomes form machine f (Ok bytes) → ⊥
no-statement-made Elf machine f bytes h k = cc
no-statement-made Mach machine f bytes h k = copied-apart f bytes h.1 k.1
no-statement-made Pe machine f bytes h k = h

-- only these are told
told : (form : Form) (machine : Machine) (b : List ℕ) (f : ReadingFault) → BecomesOr form machine b (Err f) → (f ≡ fault.NotApe) ⊎ (f ≡ fault.NoStatement)
told form machine b fault.NotApe h = inl refl
told form machine b fault.NoStatement h = inr refl
told form machine b (fault.Large n) h = absurd h
told form machine b (fault.Wide n) h = absurd h
told form machine b (fault.Elf f) h = absurd h
told form machine b (fault.Ape f) h = absurd h
told form machine b (fault.Pe f) h = absurd h
told form machine b (fault.Mach f) h = absurd h
told form machine b (fault.Walk f) h = absurd h
told form machine b (fault.Shell at) h = absurd h

moved-to : (form : Form) (machine : Machine) (b : List ℕ) (f g : ReadingFault) → f ≡ g → BecomesOr form machine b (Err f) → BecomesOr form machine b (Err g)
moved-to form machine b f g e h = subst (λ (x : ReadingFault). BecomesOr form machine b (Err x)) e h

one-told : (form : Form) (machine : Machine) (b : List ℕ) (f g : ReadingFault) → BecomesOr form machine b (Err f) → BecomesOr form machine b (Err g) → f ≡ g
one-told form machine b f g h k = elim (told form machine b f h) [
  | inl e ↦ elim (told form machine b g k) [
    | inl e' ↦ e ∙ sym e'
    | inr e' ↦ absurd (refused-twice form machine b (moved-to form machine b f fault.NotApe e h) (moved-to form machine b g fault.NoStatement e' k))
  ]
  | inr e ↦ elim (told form machine b g k) [
    | inl e' ↦ absurd (refused-twice form machine b (moved-to form machine b g fault.NotApe e' k) (moved-to form machine b f fault.NoStatement e h))
    | inr e' ↦ e ∙ sym e'
  ]
]

told-or-made : (form : Form) (machine : Machine) (b : List ℕ) (f : ReadingFault) (bytes : List ℕ) → BecomesOr form machine b (Err f) → BecomesOr form machine b (Ok bytes) → ⊥
told-or-made form machine b f bytes h k = elim (told form machine b f h) [
  | inl e ↦ no-ape-made form machine b bytes (moved-to form machine b f fault.NotApe e h) k
  | inr e ↦ no-statement-made form machine b bytes (moved-to form machine b f fault.NoStatement e h) k
]

same-fault : (f g : ReadingFault) (x : Result (List ℕ) ReadingFault) → Err f ≡ x → Err g ≡ x → f ≡ g
same-fault f g x e h = cc

fault-or-bytes : (f : ReadingFault) (bytes : List ℕ) (x : Result (List ℕ) ReadingFault) → Err f ≡ x → Ok bytes ≡ x → ⊥
fault-or-bytes f bytes x e h = cc

pub one-fault : (form : Form) (machine : Machine) (b : List ℕ)
    → ((f g : ReadingFault) → Assimilated form machine b (Err f) → Assimilated form machine b (Err g) → f ≡ g)
    × ((f : ReadingFault) (bytes : List ℕ) → Assimilated form machine b (Err f) → Assimilated form machine b (Ok bytes) → ⊥)
one-fault form machine b = elim (cases_Bool (nat_lt (2 ^ 30) (length b))) [
  | inl large ↦ (
    λ f g h k. same-fault f g (Err (fault.Large (length b))) (h.large (grind (arith, nat_tests))) (k.large (grind (arith, nat_tests))),
    λ f bytes h k. fault-or-bytes f bytes (Err (fault.Large (length b))) (h.large (grind (arith, nat_tests))) (k.large (grind (arith, nat_tests))),
  )
  | inr small ↦ (
    λ f g h k. one-told form machine b f g (h.read (grind (arith, nat_tests))) (k.read (grind (arith, nat_tests))),
    λ f bytes h k. told-or-made form machine b f bytes (h.read (grind (arith, nat_tests))) (k.read (grind (arith, nat_tests))),
  )
]
