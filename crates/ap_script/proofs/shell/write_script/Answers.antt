use Rattle.std.proofs.Common.{rules, ◌≡◌, ℕ, [], ◌∷◌, ◌++◌, List, Option, Result, ap, ◌∙◌}
use Rattle.ap_claims.specs.declared.block.Clash.{Clash}
use Rattle.ap_claims.specs.declared.owner.Owner.TheVariants.{Shell, Ape}
use Rattle.ap_claims.specs.Blocks.{BlockState}
use Rattle.ap_claims.specs.Lists.{Makes, claim}
use Rattle.ap_claims.proofs.Writers.{stopped-writer, next-writer}
use Rattle.ap_elf.specs.declared.machine.Machine.TheVariants.{X64, A64}
use Rattle.ap_check.specs.declared.options.Options.{Options}
use Rattle.ap_script.specs.Blocks.{magic, magic_line, opening_line, body_of, ending_of}
use Rattle.ap_script.specs.Delimiter.{delimiter_number}
use Rattle.ap_script.specs.Script.{header_for}
use Rattle.ap_script.specs.Stands.{statement_place}
use Rattle.ap_script.specs.Claims.{statement_claims, ape_claims, shell_claims}
use Rattle.ap_layout.specs.Positions.{placed_inputs}
use Rattle.ap_layout.specs.Jobs.{job_inputs}
use Rattle.ap_script.proofs.shell.write_script.Goals as goal

as-apes : (options : Options) (b after : BlockState) (r : Result (Unit {0}) Clash) (x y v w : Option (List ℕ)) (p q s t : ℕ) → x ≡ v → y ≡ w → p ≡ s → q ≡ t
    → Makes b after (claim Ape 0 (magic options) ∷ (statement_claims x p ++ statement_claims y q)) r → Makes b after (claim Ape 0 (magic options) ∷ (statement_claims v s ++ statement_claims w t)) r
as-apes options b after r x y v w p q s t x_is y_is p_is q_is h = rw (← x_is, ← y_is, ← p_is, ← q_is) h

as-shells : (options : Options) (b after : BlockState) (r : Result (Unit {0}) Clash) (n m p q : ℕ) (text all : List ℕ) → n ≡ m → p ≡ q → text ≡ all
    → Makes b after (claim Shell 0 (magic_line options) ∷ claim Shell 64 (opening_line n) ∷ claim Shell p text ∷ []) r → Makes b after (claim Shell 0 (magic_line options) ∷ claim Shell 64 (opening_line m) ∷ claim Shell q all ∷ []) r
as-shells options b after r n m p q text all n_is p_is t_is h = rw (← n_is, ← p_is, ← t_is) h

pub returns-in_err-write_for_loaders : goal.returns-in_err-write_for_loaders
returns-in_err-write_for_loaders c =
    let options = c.args.job.now.options in
    let inputs = job_inputs c.args.job.now in
    let l = c.args.lay.now in
    let e = c.new-ending.ensures in
    stopped-writer (ape_claims options inputs l) (shell_claims options inputs l) c.args.block.now c.write_for_loaders.new.block c.write_for_loaders.result c.from_residual.result
    c.in_err-write_for_loaders.field-0.0
    (as-apes options c.args.block.now c.write_for_loaders.new.block c.write_for_loaders.result c.new-ending.result.x64.header c.new-ending.result.a64.header
    (header_for X64 (placed_inputs inputs l)) (header_for A64 (placed_inputs inputs l)) c.new-ending.result.x64.place c.new-ending.result.a64.place
    (statement_place options inputs l X64) (statement_place options inputs l A64) e.x64 e.a64 e.x64_place e.a64_place c.write_for_loaders.ensures)
    c.in_err-write_for_loaders.was (search rules)

pub returns : goal.returns
returns c =
    let options = c.args.job.now.options in
    let inputs = job_inputs c.args.job.now in
    let l = c.args.lay.now in
    let e = c.new-ending.ensures in
    let number : c.choose_delimiter-number.result ≡ delimiter_number (body_of options inputs l) = search rules in
    next-writer (ape_claims options inputs l) (shell_claims options inputs l) c.args.block.now c.write_for_loaders.new.block c.write_for_shells.new.block c.write_for_loaders.result c.write_for_shells.result
    c.in_ok-write_for_loaders.field-0
    (as-apes options c.args.block.now c.write_for_loaders.new.block c.write_for_loaders.result c.new-ending.result.x64.header c.new-ending.result.a64.header
    (header_for X64 (placed_inputs inputs l)) (header_for A64 (placed_inputs inputs l)) c.new-ending.result.x64.place c.new-ending.result.a64.place
    (statement_place options inputs l X64) (statement_place options inputs l A64) e.x64 e.a64 e.x64_place e.a64_place c.write_for_loaders.ensures)
    c.in_ok-write_for_loaders.was
    (as-shells options c.write_for_loaders.new.block c.write_for_shells.new.block c.write_for_shells.result c.choose_delimiter-number.result (delimiter_number (body_of options inputs l))
    c.lay.inside.body_end l.body_end c.deref-2.result.now (ending_of options inputs l) number (ap (λ l. l.body_end) c.lay.view_is) (c.deref-2.ensures.0 ∙ e.text) c.write_for_shells.ensures)
