use Rattle.std.proofs.Common.{ap, ◌∙◌, subst}
use Rattle.ap_check.specs.Inputs.{Taken, Meets}
use Rattle.ap_mach.proofs.Programs.{program-is}
use Rattle.ap_mach.proofs.mac.write_input.Goals as goal

pub write_headers-requires-clause-program : goal.write_headers-requires-clause-program
write_headers-requires-clause-program c =
    program-is c.args.e.now c.deref.result.now c.args.areas.now (subst Meets c.e.view_is c.e.invariant) (c.deref.ensures.0 ∙ ap (λ (e : Taken). e.loads) c.e.view_is) c.requires.same
