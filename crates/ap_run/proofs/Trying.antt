-- How a trial ends.
use Rattle.std.proofs.Common.{◌≡◌, ◌≤◌, ℕ, true, List, refl, sym, subst, nat_le, ◌&&◌, arith}
use Rattle.std.proofs.lemmas.Bool.Decides.{nat_tests}
use Rattle.ap_files.specs.Files.{FileState}
use Rattle.ap_files.specs.Sinks.{SinkState}
use Rattle.ap_words.specs.declared.command.Command.{Command}
use Rattle.ap_words.specs.declared.command.Command.TheVariants.{Trial}
use Rattle.ap_words.specs.Conditions.{conditions_are_met}
use Rattle.ap_trial.specs.Trials.{IsTrial}
use Rattle.ap_run.specs.declared.end.Cause.{Cause}
use Rattle.ap_run.specs.declared.end.Cause.TheVariants.{Done, Refused, Unread, Usage, Unbuilt, ReadFault, WriteFault, OutFault, NoMemory}
use Rattle.ap_run.specs.Shows.{Printed}
use Rattle.ap_run.specs.Trials.{TrialEnds}
use Rattle.ap_run.specs.Ends.{CommandEnds}

pub trial-printed : (before after : SinkState) (number pages : ℕ) (text : List ℕ) (cause : Cause) → IsTrial number pages text → Printed before after text cause → TrialEnds before after number pages cause
trial-printed before after number pages text Done is p = (text, is, p)
trial-printed before after number pages text OutFault is p = (text, is, p)
trial-printed before after number pages text NoMemory is p = absurd p
trial-printed before after number pages text (Refused fault) is p = absurd p
trial-printed before after number pages text (Unread fault) is p = absurd p
trial-printed before after number pages text Usage is p = absurd p
trial-printed before after number pages text (Unbuilt word) is p = absurd p
trial-printed before after number pages text ReadFault is p = absurd p
trial-printed before after number pages text WriteFault is p = absurd p

pub trial-ends : (old : FileState) (before after : SinkState) (command : Command) (number pages : ℕ) (cause : Cause) → command ≡ Trial number pages → TrialEnds before after number pages cause
    → CommandEnds old old before after command cause
trial-ends old before after command number pages cause is h = subst (λ (k : Command). CommandEnds old old before after k cause) (sym is) (refl, h)

pages-within : (pages : ℕ) → nat_le 1 pages && nat_le pages 16384 ≡ true → (1 ≤ pages) × (pages ≤ 16384)
pages-within pages h = (grind (arith, nat_tests), grind (arith, nat_tests))

pub trial-within : (command : Command) (number pages : ℕ) → command ≡ Trial number pages → conditions_are_met command ≡ true → (1 ≤ pages) × (pages ≤ 16384)
trial-within command number pages is met = pages-within pages (subst (λ (k : Command). conditions_are_met k ≡ true) is met)
