use Rattle.std.proofs.Common.{rules, ℕ, Result, Ok, Err}
use Rattle.ap_check.specs.declared.end.CheckEnd.{CheckEnd}
use Rattle.ap_check.specs.declared.end.CheckEnd.TheVariants.{Rule}
use Rattle.ap_check.specs.ImportRule.{ChecksTold, import_rules}
use Rattle.ap_check.specs.Windows.{base_of, image_rules}
use Rattle.std.proofs.Common.{ap, sym, Some}
use Rattle.ap_check.specs.Windows.{x64_rules}
use Rattle.ap_check.proofs.WaysOut.{way_out}
use Rattle.ap_check.proofs.WindowsLemmas.{base-low, image-meets, told-early, told-later, told-as, told-end}
use Rattle.ap_check.proofs.both.check_x64_in.Goals as goal

pub returns-in_err-check_image-clause-rules : goal.returns-in_err-check_image-clause-rules
returns-in_err-check_image-clause-rules g c =
    let s = g.F.Files.state c.args.files.now in
    let e = c.args.e.now in
    way_out (ChecksTold s s c.args.name.now (x64_rules (Some e))) c.from_residual.result (Rule c.in_err-check_image.field-0.0) c.from_residual.ensures.1
    (told-early ℕ s c.args.name.now (image_rules e) (import_rules e (base_of e)) c.in_err-check_image.field-0.0 c.in_err-check_image.ensures)

pub check_imports_in-requires-clause-base : goal.check_imports_in-requires-clause-base
check_imports_in-requires-clause-base g c = base-low c.args.e.now c.image_base-base.result c.image_base-base.ensures.meets c.in_ok-check_image.ensures c.image_base-base.ensures.base

pub returns-in_err-check_imports_in-clause-rules : goal.returns-in_err-check_imports_in-clause-rules
returns-in_err-check_imports_in-clause-rules g c =
    let old = g.F.Files.state c.args.files.now in
    let new = g.F.Files.state c.check_imports_in.new.files in
    let e = c.args.e.now in
    let end = c.in_err-check_imports_in.field-0.0 in
    let R : Result (Unit {0}) CheckEnd = Err end in
    way_out (ChecksTold old new c.args.name.now (x64_rules (Some e))) c.from_residual-in_err-check_imports_in.result end (search rules)
    (told-end (Unit {0}) ℕ old new c.args.name.now (x64_rules (Some e)) end
    (told-later (Unit {0}) old new c.args.name.now (image_rules e) (import_rules e (base_of e)) R c.in_ok-check_image.ensures
    (told-as (Unit {0}) old new c.args.name.now (import_rules e c.image_base-base.result) (import_rules e (base_of e)) R (λ b. ap (λ x. import_rules e x b) (sym c.image_base-base.ensures.base)) c.in_err-check_imports_in.ensures.rules)))

pub returns-clause-rules : goal.returns-clause-rules
returns-clause-rules g c =
    let old = g.F.Files.state c.args.files.now in
    let new = g.F.Files.state c.check_imports_in.new.files in
    let e = c.args.e.now in
    let R : Result (Unit {0}) CheckEnd = Ok tt in
    told-later (Unit {0}) old new c.args.name.now (image_rules e) (import_rules e (base_of e)) R c.in_ok-check_image.ensures
    (told-as (Unit {0}) old new c.args.name.now (import_rules e c.image_base-base.result) (import_rules e (base_of e)) R (λ b. ap (λ x. import_rules e x b) (sym c.image_base-base.ensures.base)) c.in_ok-check_imports_in.ensures.rules)

pub returns-clause-ready : goal.returns-clause-ready
returns-clause-ready g c = image-meets c.args.e.now c.image_base-base.result c.requires.machine c.in_ok-check_image.ensures c.in_ok-check_imports_in.ensures.standing c.image_base-base.ensures.base

pub returns-clause-top : goal.returns-clause-top
returns-clause-top g c = base-low c.args.e.now c.image_base-base.result c.image_base-base.ensures.meets c.in_ok-check_image.ensures c.image_base-base.ensures.base
