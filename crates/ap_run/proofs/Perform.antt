-- How a command ends.
use Rattle.std.proofs.Common.{◌≡◌, ℕ, Bool, List, refl, sym, subst}
use Rattle.ap_shparse.specs.declared.tree.Nul.{Nul}
use Rattle.ap_files.specs.Files.{FileState}
use Rattle.ap_files.specs.Sinks.{SinkState}
use Rattle.ap_words.specs.declared.command.Command.{Command}
use Rattle.ap_elf.specs.declared.machine.Machine.{Machine}
use Rattle.ap_words.specs.declared.command.Form.{Form}
use Rattle.ap_words.specs.declared.command.Command.TheVariants.{Script, Assimilate, Inspect}
use Rattle.ap_run.specs.declared.end.Cause.{Cause}
use Rattle.ap_run.specs.Assimilates.{Assimilated}
use Rattle.ap_run.specs.Inspected.{Inspected}
use Rattle.ap_run.specs.Writes.{WriteEnds}
use Rattle.ap_run.specs.Scripted.{Scripted}
use Rattle.ap_run.specs.Shows.{Ends}
use Rattle.ap_run.specs.Ends.{CommandEnds}

pub script-ends : (old new : FileState) (before after : SinkState) (command : Command) (s m f s' m' f' : List ℕ) (ape : Bool) (nul : Nul) (cause : Cause) → command ≡ Script s m ape nul f → s' ≡ s → m' ≡ m → f' ≡ f
    → Ends old new before after (Scripted (record { system = s'; machine = m'; ape = ape; nul = nul; file = f' })) f' cause → CommandEnds old new before after command cause
script-ends old new before after command s m f s' m' f' ape nul cause is a b d h =
    let file = subst (λ (x : List ℕ). Ends old new before after (Scripted (record { system = s'; machine = m'; ape = ape; nul = nul; file = x })) x cause) d h in
    let machine = subst (λ (x : List ℕ). Ends old new before after (Scripted (record { system = s'; machine = x; ape = ape; nul = nul; file = f })) f cause) b file in
    let system = subst (λ (x : List ℕ). Ends old new before after (Scripted (record { system = x; machine = m; ape = ape; nul = nul; file = f })) f cause) a machine in
    subst (λ (k : Command). CommandEnds old new before after k cause) (sym is) system

pub assimilate-ends : (old new : FileState) (before : SinkState) (command : Command) (form : Form) (machine : Machine) (out file out' file' : List ℕ) (cause : Cause) → command ≡ Assimilate form machine out file → file' ≡ file → out' ≡ out
    → WriteEnds old new (Assimilated form machine) file' out' cause → CommandEnds old new before before command cause
assimilate-ends old new before command form machine out file out' file' cause is a b h =
    let read = subst (λ (x : List ℕ). WriteEnds old new (Assimilated form machine) x out' cause) a h in
    let made = subst (λ (x : List ℕ). WriteEnds old new (Assimilated form machine) file x cause) b read in
    subst (λ (k : Command). CommandEnds old new before before k cause) (sym is) (made, refl)

pub inspect-ends : (old new : FileState) (before after : SinkState) (command : Command) (file file' : List ℕ) (cause : Cause) → command ≡ Inspect file → file' ≡ file
    → Ends old new before after Inspected file' cause → CommandEnds old new before after command cause
inspect-ends old new before after command file file' cause is a h =
    let shown = subst (λ (x : List ℕ). Ends old new before after Inspected x cause) a h in
    subst (λ (k : Command). CommandEnds old new before after k cause) (sym is) shown
