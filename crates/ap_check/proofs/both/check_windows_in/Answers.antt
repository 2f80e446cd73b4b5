use Rattle.std.proofs.Common.{rules, ℕ, refl, Some, None, ap, sym, ◌∙◌, option_copied}
use Rattle.ap_fields.specs.FirstFault.{first_fault}
use Rattle.ap_check.specs.Inputs.{inputs_of}
use Rattle.ap_check.specs.Windows.{x64_rules, windows_rules}
use Rattle.ap_check.proofs.WindowsLemmas.{told-as, unchosen, chosen}
use Rattle.ap_check.proofs.both.check_windows_in.Goals as goal

pub returns-then-not-intersects-clause-rules : goal.returns-then-not-intersects-clause-rules
returns-then-not-intersects-clause-rules g c =
    (refl, λ m b told at. ap first_fault (unchosen c.args.options.now (inputs_of c.args.first.now (option_copied c.args.second)) b (search rules)))

pub returns-in-None-clause-rules : goal.returns-in-None-clause-rules
returns-in-None-clause-rules g c =
    (refl, λ m b told at. ap first_fault (chosen c.args.options.now (inputs_of c.args.first.now (option_copied c.args.second)) b None (search rules) (search rules)) ∙ ap Some (sym c.broken.ensures))

pub returns-in-Some-clause-rules : goal.returns-in-Some-clause-rules
returns-in-Some-clause-rules g c =
    let inputs = inputs_of c.args.first.now (option_copied c.args.second) in
    told-as ℕ (g.F.Files.state c.args.files.now) (g.F.Files.state c.check_x64_in.new.files) c.args.name.now (x64_rules (Some c.in-Some.e.now)) (windows_rules c.args.options.now inputs) c.check_x64_in.result
    (λ b. chosen c.args.options.now inputs b (Some c.in-Some.e.now) (search rules) (search rules)) c.check_x64_in.ensures.rules
