-- How a file is shown, step by step.
use Rattle.std.proofs.Common.{◌≡◌, ℕ, ◌^◌, Bool, true, false, cond, List, length, Vec, Result, Ok, Err, inl, inr, refl, sym, ap, ◌∙◌, arith}
use Rattle.std.proofs.lemmas.Bool.{cases_Bool}
use Rattle.std.proofs.lemmas.Bool.Decides.{nat_tests}
use Rattle.std.specs.Prelude.{nat_lt}
use Rattle.std.specs.declared.alloc.Global.{Global}
use Rattle.ap_files.specs.Files.{FileState}
use Rattle.ap_files.specs.Sinks.{SinkState}
use Rattle.ap_image.specs.Plans.{Mapping}
use Rattle.ap_run.specs.declared.end.ReadingFault.{ReadingFault}
use Rattle.ap_run.specs.declared.end.ReadingFault.TheVariants as fault
use Rattle.ap_run.specs.declared.end.Cause.{Cause}
use Rattle.ap_run.specs.declared.end.Cause.TheVariants.{Done, Refused, Unread, Usage, Unbuilt, ReadFault, WriteFault, OutFault, NoMemory}
use Rattle.ap_run.specs.declared.format.Format.{Format}
use Rattle.ap_run.specs.declared.planned.Planned.{Planned}
use Rattle.ap_run.specs.Formats.{plan_in, listing, text_of, text_in}
use Rattle.ap_run.specs.Whole.{Sized, Telling}
use Rattle.ap_run.specs.FilePlans.{sized_plan_in, IsPlanned, Plans}
use Rattle.ap_run.specs.Shows.{IsShown, ShowsBy, Lists, Ends, Printed, Answers, Makes}

by-size : (large : Bool) (f : ReadingFault) (plan : Result Mapping ReadingFault) → cond large (Err f) (text_of plan) ≡ text_of (cond large (Err f) plan)
by-size true f plan = refl
by-size false f plan = refl

text_in-plan : (format : Format) (b : List ℕ) → format.imports ≡ false → text_in format b ≡ text_of (sized_plan_in format b)
unfolding text_in sized_plan_in
text_in-plan format b plain =
    ap (λ t. cond (nat_lt (2 ^ 30) (length b)) (Err (fault.Large (length b))) (cond t (listing b) (text_of (plan_in format b)))) plain
    ∙ by-size (nat_lt (2 ^ 30) (length b)) (fault.Large (length b)) (plan_in format b)

text_in-listing : (format : Format) (b : List ℕ) → format.imports ≡ true → text_in format b ≡ cond (nat_lt (2 ^ 30) (length b)) (Err (fault.Large (length b))) (listing b)
unfolding text_in
text_in-listing format b imports =
    ap (λ t. cond (nat_lt (2 ^ 30) (length b)) (Err (fault.Large (length b))) (cond t (listing b) (text_of (plan_in format b)))) imports

sized-listing : (b : List ℕ) (shown : Result (List ℕ) ReadingFault) → Sized Lists b shown → cond (nat_lt (2 ^ 30) (length b)) (Err (fault.Large (length b))) (listing b) ≡ shown
sized-listing b shown h = elim (cases_Bool (nat_lt (2 ^ 30) (length b))) [
  | inl large ↦ ap (λ t. cond t (Err (fault.Large (length b))) (listing b)) large ∙ sym (h.large (grind (arith, nat_tests)))
  | inr small ↦ ap (λ t. cond t (Err (fault.Large (length b))) (listing b)) small ∙ h.read (grind (arith, nat_tests))
]

is-shown : (old : FileState) (format : Format) (name : List ℕ) (plan : Result Mapping ReadingFault) (shown : Result (List ℕ) ReadingFault) → format.imports ≡ false → IsPlanned old format name plan → text_of plan ≡ shown → IsShown old (ShowsBy format) name shown
is-shown old format name plan shown plain planned is m k = let t = planned m k in (t.0, t.1, text_in-plan format t.0 plain ∙ ap text_of t.2 ∙ is)

is-listed : (old : FileState) (format : Format) (name : List ℕ) (shown : Result (List ℕ) ReadingFault) → format.imports ≡ true → IsShown old (Sized Lists) name shown → IsShown old (ShowsBy format) name shown
is-listed old format name shown imports listed m k = let t = listed m k in (t.0, t.1, text_in-listing format t.0 imports ∙ sized-listing t.0 shown t.2)

-- the text with the imports
pub answers-listed : (old new : FileState) (format : Format) (name : List ℕ) (r : Result (Vec ℕ Global) Cause) → format.imports ≡ true → Answers old new (Sized Lists) name r → Answers old new (ShowsBy format) name r
answers-listed old new format name (Ok text) imports h = (h.0, is-listed old format name (Ok text.items) imports h.1)
answers-listed old new format name (Err (Unread f)) imports h = (h.0, is-listed old format name (Err f) imports h.1)
answers-listed old new format name (Err ReadFault) imports h = h
answers-listed old new format name (Err NoMemory) imports h = h
answers-listed old new format name (Err Done) imports h = absurd h
answers-listed old new format name (Err (Refused f)) imports h = absurd h
answers-listed old new format name (Err Usage) imports h = absurd h
answers-listed old new format name (Err (Unbuilt word)) imports h = absurd h
answers-listed old new format name (Err WriteFault) imports h = absurd h
answers-listed old new format name (Err OutFault) imports h = absurd h

pub answers-refused : (old new : FileState) (format : Format) (name : List ℕ) (cause : Cause) → format.imports ≡ false → Plans old new format name (Err cause) → Answers old new (ShowsBy format) name (Err cause)
answers-refused old new format name (Unread f) plain h = (h.0, is-shown old format name (Err f) (Err f) plain h.1 refl)
answers-refused old new format name ReadFault plain h = h
answers-refused old new format name Done plain h = absurd h
answers-refused old new format name (Refused f) plain h = absurd h
answers-refused old new format name Usage plain h = absurd h
answers-refused old new format name (Unbuilt word) plain h = absurd h
answers-refused old new format name WriteFault plain h = absurd h
answers-refused old new format name OutFault plain h = absurd h
answers-refused old new format name NoMemory plain h = absurd h

pub answers-made : (old new : FileState) (format : Format) (name : List ℕ) (planned : Planned) (r : Result (Vec ℕ Global) Cause) → format.imports ≡ false → Plans old new format name (Ok planned) → Makes planned.plan r → Answers old new (ShowsBy format) name r
answers-made old new format name planned (Ok text) plain h m = (h.0, is-shown old format name (Ok planned.plan) (Ok text.items) plain h.2 (ap (λ (l : List ℕ). Ok l) (sym m)))
answers-made old new format name planned (Err NoMemory) plain h m = h.0
answers-made old new format name planned (Err (Unread f)) plain h m = absurd m
answers-made old new format name planned (Err Done) plain h m = absurd m
answers-made old new format name planned (Err (Refused f)) plain h m = absurd m
answers-made old new format name planned (Err Usage) plain h m = absurd m
answers-made old new format name planned (Err (Unbuilt word)) plain h m = absurd m
answers-made old new format name planned (Err ReadFault) plain h m = absurd m
answers-made old new format name planned (Err WriteFault) plain h m = absurd m
answers-made old new format name planned (Err OutFault) plain h m = absurd m

pub ends-printed : (old new : FileState) (before after : SinkState) (P : Telling) (name text : List ℕ) (cause : Cause) → (new ≡ old) × IsShown old P name (Ok text)
    → Printed before after text cause → Ends old new before after P name cause
ends-printed old new before after P name text Done h p = (h.0, (text, p, h.1))
ends-printed old new before after P name text OutFault h p = (h.0, (text, p, h.1))
ends-printed old new before after P name text (Refused f) h p = absurd p
ends-printed old new before after P name text (Unread f) h p = absurd p
ends-printed old new before after P name text Usage h p = absurd p
ends-printed old new before after P name text (Unbuilt word) h p = absurd p
ends-printed old new before after P name text ReadFault h p = absurd p
ends-printed old new before after P name text WriteFault h p = absurd p
ends-printed old new before after P name text NoMemory h p = absurd p

pub ends-bare : (old new : FileState) (sink : SinkState) (P : Telling) (name : List ℕ) (cause : Cause) → Answers old new P name (Err cause) → Ends old new sink sink P name cause
ends-bare old new sink P name (Unread f) h = (h.0, refl, h.1)
ends-bare old new sink P name ReadFault h = (h, refl)
ends-bare old new sink P name NoMemory h = (h, refl)
ends-bare old new sink P name Done h = absurd h
ends-bare old new sink P name (Refused f) h = absurd h
ends-bare old new sink P name Usage h = absurd h
ends-bare old new sink P name (Unbuilt word) h = absurd h
ends-bare old new sink P name WriteFault h = absurd h
ends-bare old new sink P name OutFault h = absurd h
