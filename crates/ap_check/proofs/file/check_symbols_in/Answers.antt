use Rattle.std.proofs.Common.{◌∙◌, ap}
use Rattle.ap_files.specs.Files.{FileState}
use Rattle.ap_check.proofs.Found.{part_refused, none_taken, some_taken}
use Rattle.ap_check.proofs.file.check_symbols_in.Goals as goal

pub returns-in-Part-clause-ends : goal.returns-in-Part-clause-ends
returns-in-Part-clause-ends g c =
    let found = c.in_ok-part in (
      found.ensures.read.0,
      part_refused (g.F.Files.state c.args.files.now).kept c.args.name.now c.args.number c.args.bare found.field-0 c.in-Part.part c.broken.result
          c.requires.bare found.ensures.read.1 c.in-Part.is c.broken.ensures,
    )

pub returns-in-Missing-clause-ends : goal.returns-in-Missing-clause-ends
returns-in-Missing-clause-ends g c =
    let found = c.in_ok-part in (
      found.ensures.read.0,
      none_taken (g.F.Files.state c.args.files.now).kept c.args.name.now c.args.number c.args.bare found.field-0
          c.requires.bare found.ensures.read.1 c.in-Missing.is,
    )

pub returns-in_ok-symbols-in-At-clause-ends : goal.returns-in_ok-symbols-in-At-clause-ends
returns-in_ok-symbols-in-At-clause-ends g c =
    let first = c.in_ok-part.ensures.read in
    let second = c.in_ok-symbols-in-At in (
      second.ensures.0 ∙ first.0,
      some_taken (g.F.Files.state c.args.files.now).kept c.args.name.now c.args.number c.args.bare c.in_ok-part.field-0 c.in-At.t second.symbols c.with_symbols.result
          c.requires.bare first.1 c.in-At.is (λ m b told at. second.ensures.1 m b (ap (λ (s : FileState). s.kept) first.0 ∙ told) at) c.with_symbols.ensures,
    )
