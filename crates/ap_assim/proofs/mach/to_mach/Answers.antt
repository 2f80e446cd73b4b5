use Rattle.std.proofs.Common.{rules, ◌≡◌, subst}
use Rattle.std.specs.Prelude.{Err}
use Rattle.ap_assim.specs.Assimilated.{BecomesMach}
use Rattle.ap_assim.proofs.Given.{refused}
use Rattle.ap_assim.proofs.mach.to_mach.Goals as goal

-- src/mach.rt:16:1
pub returns-in-Err-become_mach : goal.returns-in-Err-become_mach
returns-in-Err-become_mach c =
    let fault = c.in-Err-become_mach.fault in
    let same : c.deref_mut.result.now ≡ c.args.file.now = search rules in
    refused (BecomesMach c.args.file.now) fault (subst (λ f. BecomesMach f (Err fault)) same c.in-Err-become_mach.ensures.0)
