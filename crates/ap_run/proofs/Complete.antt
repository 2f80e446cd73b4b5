-- A run that meets no fault answers by the rules.
use Rattle.std.proofs.Common.{◌≡◌, inl, inr, ℕ, List, Option, Some, None, Result, Ok, Err, refl, sym, ap, subst, ◌∙◌, arith}
use Rattle.std.specs.FinMap as map
use Rattle.ap_files.specs.Files.{FileMap, FileState, Rose}
use Rattle.ap_check.specs.declared.options.Options.{Options}
use Rattle.ap_check.specs.Rules.{first_fault_of}
use Rattle.ap_check.specs.Both.{first_fault_of_both}
use Rattle.ap_check.specs.declared.fault.Fault.{Fault}
use Rattle.ap_check.proofs.Pairs.{first-breaks}
use Rattle.ap_link.specs.FileAnswers.{HasSecond, AreUnread}
use Rattle.ap_files.specs.Sinks.{SinkState}
use Rattle.ap_words.specs.declared.command.Command.{Command}
use Rattle.ap_words.specs.declared.command.Command.TheVariants.{Link, Load, Map, Script, Assimilate, Inspect, Trial, Bind, Bundle, Stack, Audit}
use Rattle.ap_words.specs.Meaning.{command_of}
use Rattle.ap_run.specs.Links.{LinkNames, link_names, options_of}
use Rattle.ap_run.specs.Views.{load_format, map_format}
use Rattle.ap_run.specs.ScriptRuns.{ScriptRun}
use Rattle.ap_run.specs.Scripted.{Scripted}
use Rattle.ap_run.specs.Shows.{Ends, ShowsBy}
use Rattle.ap_run.specs.Whole.{Telling}
use Rattle.ap_run.specs.Dumps.{DumpEnds, dumped_in}
use Rattle.ap_run.specs.declared.format.Format.{Format}
use Rattle.ap_files.specs.Reads as reads
use Rattle.ap_run.specs.Ends.{LinkEnds, LinkComplete, BothComplete, RefusedFor, ForSecond, AnswersBy, ViewAnswers, ViewEnds, CommandEnds, EndsBy, RunEnds, CommandComplete, TrialComplete, MadeBy, CompleteBy, IsComplete, Stands}
use Rattle.ap_run.specs.declared.end.ReadingFault.{ReadingFault}
use Rattle.ap_run.specs.declared.end.Cause.{Cause}
use Rattle.ap_run.specs.declared.end.Cause.TheVariants.{Done, Refused, Unread, Usage, Unbuilt, ReadFault, WriteFault, OutFault, NoMemory}
use Rattle.ap_files.proofs.ReadLemmas.{some_same, not_some, told_of}
use Rattle.ap_run.specs.Writes.{WriteEnds}
use Rattle.ap_run.specs.Assimilates.{Assimilated}
use Rattle.ap_run.specs.Trials.{TrialEnds}
use Rattle.ap_run.proofs.Scripts.{one-answer}
use Rattle.ap_run.proofs.Writing.{one-fault}
use Rattle.ap_run.specs.Inspected.{Inspected}
use Rattle.ap_run.proofs.Inspecting.{one-inspected}

no_rise : (before now : ℕ) → Stands before now → Rose before now → ⊥
no_rise before now s r = let a = s.0 in let b = s.1 in omega arith

refused_same : {f g : Fault} {o : Option Fault} → o ≡ Some f → o ≡ Some g → Refused f ≡ Refused g
refused_same e h = cc

unread_by : (old new : FileState) (name : List ℕ) (m : FileMap) (b : List ℕ) → reads.Unread old new name → Stands old.read_faults new.read_faults → old.kept ≡ Some m → map.get m name ≡ Some b → ⊥
unread_by old new name m b h r k g = elim h.cause [ inl rose ↦ no_rise _ _ r rose | inr gone ↦ not_some (sym (gone.1 m k) ∙ g) ]

-- ---- a link, by input 1 alone

none_of : (o : Option Fault) → ((f : Fault) → o ≡ Some f → ⊥) → o ≡ None
none_of None h = refl
none_of (Some f) h = absurd (h f refl)

holds_first : (options : Options) (a : List ℕ) (b : Option (List ℕ)) → first_fault_of_both options a b ≡ None → first_fault_of 1 a ≡ None
holds_first options a b none = none_of (first_fault_of 1 a) (λ f e. not_some (sym none ∙ first-breaks options a b f e))

-- where files are told, there is a second input, or none is named
some_second : (P : Option (List ℕ) → Type 0) (kept : Option FileMap) (second : Option (List ℕ)) (m : FileMap) → HasSecond kept second P → kept ≡ Some m → (b : Option (List ℕ)) × P b
some_second P kept None m h k = (None, h)
some_second P kept (Some name) m h k = let t = h m k in (Some t.0, t.2)

not_refused : (o : Option Fault) (cause : Cause) → o ≡ None → RefusedFor o cause
not_refused o cause none f e = absurd (not_some (sym none ∙ e))

is_refused : (o : Option Fault) (f : Fault) → o ≡ Some f → RefusedFor o (Refused f)
is_refused o f is g e = inl (refused_same is e)

unread_first : (old new : FileState) (first : List ℕ) (second : Option (List ℕ)) (m : FileMap) (a : List ℕ) → AreUnread old new first second → Stands old.read_faults new.read_faults
    → old.kept ≡ Some m → map.get m first ≡ Some a → first_fault_of 1 a ≡ None
unread_first old new first None m a h r k g = absurd (unread_by old new first m a h r k g)
unread_first old new first (Some second) m a h r k g = elim h [
  | inl unread ↦ absurd (unread_by old new first m a unread r k g)
  | inr unread ↦ told_of old.kept first m a unread.1 k g
]

first_by : (old new : FileState) (names : LinkNames) (cause : Cause) (m : FileMap) (a : List ℕ) → LinkEnds old new names cause → Stands old.read_faults new.read_faults → Stands old.write_faults new.write_faults
    → old.kept ≡ Some m → map.get m names.first ≡ Some a → RefusedFor (first_fault_of 1 a) cause
first_by old new names Done m a h r w k g =
    let linked = some_second _ old.kept names.second m (told_of old.kept names.first m a h.1.linked k g) k in
    not_refused (first_fault_of 1 a) Done (holds_first (options_of names) a linked.0 linked.1.0)
first_by old new names (Refused f) m a h r w k g = elim (told_of old.kept names.first m a h.1 k g) [
  | inl is ↦ is_refused (first_fault_of 1 a) f is
  | inr second ↦ not_refused (first_fault_of 1 a) (Refused f) second.0
]
first_by old new names (Unread f) m a h r w k g = absurd h
first_by old new names Usage m a h r w k g = absurd h
first_by old new names (Unbuilt word) m a h r w k g = absurd h
first_by old new names ReadFault m a h r w k g = elim h [
  | inl unread ↦ not_refused (first_fault_of 1 a) ReadFault (unread_first old new names.first names.second m a unread r k g)
  | inr broken ↦ absurd (no_rise _ _ r broken.0.rose)
]
first_by old new names WriteFault m a h r w k g = absurd (no_rise _ _ w h.0.rose)
first_by old new names OutFault m a h r w k g = absurd h
first_by old new names NoMemory m a h r w k g = λ f e. inr refl

-- ---- and by both inputs

-- it is what the files have of the second input
SecondIn : FileMap → Option (List ℕ) → Option (List ℕ) → Type 0
SecondIn m None b = b ≡ None
SecondIn m (Some name) b = (c : List ℕ) × (b ≡ Some c) × (map.get m name ≡ Some c)

told_second : (P : Option (List ℕ) → Type 0) (kept : Option FileMap) (second : Option (List ℕ)) (m : FileMap) (b : Option (List ℕ)) → HasSecond kept second P → kept ≡ Some m → SecondIn m second b → P b
unfolding SecondIn
told_second P kept None m b h k s = subst P (sym s) h
told_second P kept (Some name) m b h k s = subst P (sym s.1) (told_of kept name m s.0 h k s.2)

for_second : (P : Option (List ℕ) → Type 0) (kept : Option FileMap) (second : Option (List ℕ)) (m : FileMap) → kept ≡ Some m → ((b : Option (List ℕ)) → SecondIn m second b → P b) → ForSecond kept second P
unfolding SecondIn
for_second P kept None m k h = h None refl
for_second P kept (Some name) m k h = λ n b k' g. h (Some b) (b, refl, ap (λ x. map.get x name) (some_same (sym k ∙ k')) ∙ g)

both_unread : (old new : FileState) (first : List ℕ) (second : Option (List ℕ)) (m : FileMap) (a : List ℕ) (b : Option (List ℕ)) → AreUnread old new first second → Stands old.read_faults new.read_faults
    → old.kept ≡ Some m → map.get m first ≡ Some a → SecondIn m second b → ⊥
unfolding SecondIn
both_unread old new first None m a b h r k g s = unread_by old new first m a h r k g
both_unread old new first (Some second) m a b h r k g s = elim h [
  | inl unread ↦ unread_by old new first m a unread r k g
  | inr unread ↦ unread_by old new second m s.0 unread.0 r k s.2
]

both_refused : (options : Options) (a : List ℕ) (b : Option (List ℕ)) (f : Fault) → first_fault_of_both options a b ≡ Some f → BothComplete options (Refused f) a b
both_refused options a b f some = (λ e. absurd (not_some (sym e ∙ some)), is_refused (first_fault_of_both options a b) f some)

both_by : (old new : FileState) (names : LinkNames) (cause : Cause) (m : FileMap) (a : List ℕ) (b : Option (List ℕ)) → LinkEnds old new names cause → Stands old.read_faults new.read_faults → Stands old.write_faults new.write_faults
    → old.kept ≡ Some m → map.get m names.first ≡ Some a → SecondIn m names.second b → BothComplete (options_of names) cause a b
both_by old new names Done m a b h r w k g s =
    let linked = told_second _ old.kept names.second m b (told_of old.kept names.first m a h.1.linked k g) k s in
    (λ e. inl refl, not_refused (first_fault_of_both (options_of names) a b) Done linked.0)
both_by old new names (Refused f) m a b h r w k g s = elim (told_of old.kept names.first m a h.1 k g) [
  | inl is ↦ both_refused (options_of names) a b f (first-breaks (options_of names) a b f is)
  | inr second ↦ both_refused (options_of names) a b f (told_second _ old.kept names.second m b second.1 k s)
]
both_by old new names (Unread f) m a b h r w k g s = absurd h
both_by old new names Usage m a b h r w k g s = absurd h
both_by old new names (Unbuilt word) m a b h r w k g s = absurd h
both_by old new names ReadFault m a b h r w k g s = absurd (elim h [
  | inl unread ↦ both_unread old new names.first names.second m a b unread r k g s
  | inr broken ↦ no_rise _ _ r broken.0.rose
])
both_by old new names WriteFault m a b h r w k g s = absurd (no_rise _ _ w h.0.rose)
both_by old new names OutFault m a b h r w k g s = absurd h
both_by old new names NoMemory m a b h r w k g s = (λ e. inr refl, λ f e. inr refl)

link_by : (old new : FileState) (names : LinkNames) (cause : Cause) → LinkEnds old new names cause → LinkComplete old new names cause
link_by old new names cause h = λ r w m a k g. (
  first_by old new names cause m a h r w k g,
  for_second (BothComplete (options_of names) cause a) old.kept names.second m k (λ b s. both_by old new names cause m a b h r w k g s),
)

ok_err : {T : Type 0} {t : T} {f : ReadingFault} {r : Result T ReadingFault} → r ≡ Ok t → r ≡ Err f → ⊥
ok_err e h = cc

unread_same : {T : Type 0} {f g : ReadingFault} {r : Result T ReadingFault} → r ≡ Err f → r ≡ Err g → Unread f ≡ Unread g
unread_same e h = cc

-- a file is shown in one way at most
abbrev IsOne : Telling → List ℕ → Type 0
IsOne P b = (x y : Result (List ℕ) ReadingFault) → P b x → P b y → x ≡ y

shown_by : (old new : FileState) (before after : SinkState) (P : Telling) (name : List ℕ) (cause : Cause) (m : FileMap) (b : List ℕ) → IsOne P b
    → Ends old new before after P name cause → Stands old.read_faults new.read_faults → old.kept ≡ Some m → map.get m name ≡ Some b → AnswersBy before after cause (P b)
shown_by old new before after P name Done m b one h r k g =
    let shown = told_of old.kept name m b h.1.2 k g in (λ f e. absurd (ok_err refl (one (Ok h.1.0) (Err f) shown e)), λ t e s. inl refl)
shown_by old new before after P name (Unread f) m b one h r k g =
    let shown = told_of old.kept name m b h.2 k g in (λ f' e. inl (unread_same refl (one (Err f) (Err f') shown e)), λ t e s. absurd (ok_err refl (one (Ok t) (Err f) e shown)))
shown_by old new before after P name OutFault m b one h r k g =
    let shown = told_of old.kept name m b h.1.2 k g in (λ f e. absurd (ok_err refl (one (Ok h.1.0) (Err f) shown e)), λ t e s. absurd (no_rise _ _ s h.1.1.rose))
shown_by old new before after P name ReadFault m b one h r k g = absurd (unread_by old new name m b h.0 r k g)
shown_by old new before after P name NoMemory m b one h r k g = (λ f e. inr refl, λ t e s. inr refl)
shown_by old new before after P name (Refused f) m b one h r k g = absurd h
shown_by old new before after P name Usage m b one h r k g = absurd h
shown_by old new before after P name (Unbuilt word) m b one h r k g = absurd h
shown_by old new before after P name WriteFault m b one h r k g = absurd h

dumped_so : (old new : FileState) (before after : SinkState) (format : Format) (name image : List ℕ) (cause : Cause) (m : FileMap) (b : List ℕ) → DumpEnds old new before after format name image cause
    → Stands old.read_faults new.read_faults → Stands old.write_faults new.write_faults → old.kept ≡ Some m → map.get m name ≡ Some b → AnswersBy before after cause (λ dumped. dumped_in format b ≡ dumped)
dumped_so old new before after format name image Done m b h r w k g =
    let made = told_of old.kept name m b h.3 k g in (λ f e. absurd (ok_err made e), λ t e s. inl refl)
dumped_so old new before after format name image OutFault m b h r w k g =
    let made = told_of old.kept name m b h.3 k g in (λ f e. absurd (ok_err made e), λ t e s. absurd (no_rise _ _ s h.2.rose))
dumped_so old new before after format name image WriteFault m b h r w k g = absurd (no_rise _ _ w h.1.1.rose)
dumped_so old new before after format name image (Unread f) m b h r w k g =
    let made = told_of old.kept name m b h.2 k g in (λ f' e. inl (unread_same made e), λ t e s. absurd (ok_err e made))
dumped_so old new before after format name image ReadFault m b h r w k g = absurd (unread_by old new name m b h.0 r k g)
dumped_so old new before after format name image NoMemory m b h r w k g = (λ f e. inr refl, λ t e s. inr refl)
dumped_so old new before after format name image (Refused f) m b h r w k g = absurd h
dumped_so old new before after format name image Usage m b h r w k g = absurd h
dumped_so old new before after format name image (Unbuilt word) m b h r w k g = absurd h

-- a file is refused for one fault at most, and is not refused where something is made of it
abbrev HasOneFault : Telling → List ℕ → Type 0
HasOneFault P b = ((f g : ReadingFault) → P b (Err f) → P b (Err g) → f ≡ g) × ((f : ReadingFault) (t : List ℕ) → P b (Err f) → P b (Ok t) → ⊥)

made_by : (old new : FileState) (P : Telling) (name out : List ℕ) (cause : Cause) (m : FileMap) (b : List ℕ) → HasOneFault P b
    → WriteEnds old new P name out cause → Stands old.read_faults new.read_faults → Stands old.write_faults new.write_faults → old.kept ≡ Some m → map.get m name ≡ Some b → MadeBy cause (P b)
made_by old new P name out Done m b one h r w k g =
    let made = told_of old.kept name m b h.2 k g in (λ f e. absurd (one.1 f h.0 e made), λ t e. inl refl)
made_by old new P name out WriteFault m b one h r w k g = absurd (no_rise _ _ w h.1.1.rose)
made_by old new P name out (Unread f) m b one h r w k g =
    let made = told_of old.kept name m b h.1 k g in (λ f' e. inl (ap (λ x. Unread x) (one.0 f f' made e)), λ t e. absurd (one.1 f t made e))
made_by old new P name out ReadFault m b one h r w k g = absurd (unread_by old new name m b h r k g)
made_by old new P name out NoMemory m b one h r w k g = (λ f e. inr refl, λ t e. inr refl)
made_by old new P name out (Refused f) m b one h r w k g = absurd h
made_by old new P name out Usage m b one h r w k g = absurd h
made_by old new P name out (Unbuilt x) m b one h r w k g = absurd h
made_by old new P name out OutFault m b one h r w k g = absurd h

view_by : (old new : FileState) (before after : SinkState) (format : Format) (name : List ℕ) (dump : Option (List ℕ)) (cause : Cause) (m : FileMap) (b : List ℕ) → ViewEnds old new before after format name dump cause
    → Stands old.read_faults new.read_faults → Stands old.write_faults new.write_faults → old.kept ≡ Some m → map.get m name ≡ Some b → ViewAnswers before after cause format dump b
view_by old new before after format name None cause m b h r w k g = shown_by old new before after (ShowsBy format) name cause m b (λ x y e e'. sym e ∙ e') h r k g
view_by old new before after format name (Some image) cause m b h r w k g = dumped_so old new before after format name image cause m b h r w k g

trial_by : (before after : SinkState) (number pages : ℕ) (cause : Cause) → TrialEnds before after number pages cause → TrialComplete before after cause
trial_by before after number pages Done h s = inl refl
trial_by before after number pages OutFault h s = absurd (no_rise _ _ s h.2.rose)
trial_by before after number pages NoMemory h s = inr refl
trial_by before after number pages (Refused fault) h s = absurd h.2
trial_by before after number pages (Unread fault) h s = absurd h.2
trial_by before after number pages Usage h s = absurd h.2
trial_by before after number pages (Unbuilt word) h s = absurd h.2
trial_by before after number pages ReadFault h s = absurd h.2
trial_by before after number pages WriteFault h s = absurd h.2

-- what each command answers
command_by : (old new : FileState) (before after : SinkState) (command : Command) (cause : Cause) → CommandEnds old new before after command cause → CommandComplete old new before after command cause
command_by old new before after (Link out options names) cause h = link_by old new (link_names out options names) cause h.0
command_by old new before after (Load machine page dump file) cause h = λ r w m b k g. view_by old new before after (load_format machine page) file dump cause m b h r w k g
command_by old new before after (Map form machine page imports file) cause h = λ r w m b k g. view_by old new before after (map_format form machine page imports) file None cause m b h r w k g
command_by old new before after (Script system machine ape nul file) cause h = λ r w m b k g.
    let run : ScriptRun = record { system = system; machine = machine; ape = ape; nul = nul; file = file } in
    shown_by old new before after (Scripted run) file cause m b (one-answer run b) h r k g
command_by old new before after (Assimilate form machine out file) cause h = λ r w m b k g. made_by old new (Assimilated form machine) file out cause m b (one-fault form machine b) h.0 r w k g
command_by old new before after (Inspect file) cause h = λ r w m b k g. shown_by old new before after Inspected file cause m b (one-inspected b) h r k g
command_by old new before after (Trial number pages) cause h = trial_by before after number pages cause h.1
command_by old new before after (Bind base out file) cause h = tt
command_by old new before after (Bundle out app x64 a64) cause h = tt
command_by old new before after (Stack machine page out file words) cause h = tt
command_by old new before after (Audit file) cause h = tt

complete_by : (old new : FileState) (before after : SinkState) (command : Option Command) (cause : Cause) → EndsBy old new before after command cause → CompleteBy old new before after command cause
complete_by old new before after (Some command) cause h = command_by old new before after command cause h
complete_by old new before after None cause h = tt

pub complete : (old new : FileState) (before after : SinkState) (words : List (List ℕ)) (cause : Cause) → RunEnds old new before after words cause → IsComplete old new before after words cause
complete old new before after words cause h = complete_by old new before after (command_of words) cause h
