use Rattle.std.proofs.Common.{rules}
use Rattle.ap_pe.proofs.Programs.{program-is}
use Rattle.ap_pe.proofs.windows.write_input.Goals as goal

pub write_headers-requires : goal.write_headers-requires
write_headers-requires c =
    program-is c.args.e.now c.args.base c.program-program.result c.deref.result.now c.args.areas.now c.program-program.ensures.program (search rules) c.program-program.ensures.meets c.requires.ready c.requires.same
    c.requires.places
