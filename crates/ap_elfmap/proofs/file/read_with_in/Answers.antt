use Rattle.std.proofs.Common.{◌∙◌, refl, arith}
use Rattle.ap_elf.specs.Machines.{number_of}
use Rattle.ap_files.proofs.ReadLemmas.{told_of}
use Rattle.ap_elfmap.proofs.Named.{refused-named, planned-named}
use Rattle.ap_elfmap.proofs.file.read_with_in.Goals as goal

pub returns-in-Err-clause-read : goal.returns-in-Err-clause-read
returns-in-Err-clause-read g c = (
  refl,
  λ m b told at.
      refused-named c.number.result (number_of c.args.machine) c.args.page c.args.size c.header-h.result c.args.header.now b c.in-Err.fault c.number.ensures c.header-h.ensures (omega arith)
      (told_of (g.F.Files.state c.args.files.now).kept c.args.name.now m b c.requires.size told at) c.in-Err.ensures.rules,
)

pub returns-clause-read : goal.returns-clause-read
returns-clause-read g c = (
  c.in_ok-entries.ensures.0,
  λ m b told at.
      planned-named (number_of c.args.machine) c.args.page c.args.size c.header-h.result c.deref.result.now c.args.header.now b c.plan_by.result c.plan_by.ensures.plan c.header-h.ensures (omega arith)
      (told_of (g.F.Files.state c.args.files.now).kept c.args.name.now m b c.requires.size told at) (c.deref.ensures.0 ∙ c.in_ok-entries.ensures.1 m b told at),
)
