use Rattle.std.proofs.Common.{◌∙◌, ap, refl}
use Rattle.ap_files.specs.Files.{FileState}
use Rattle.ap_check.specs.declared.end.CheckEnd.TheVariants.{Rule}
use Rattle.ap_check.specs.Bare.{bare_rules_of, bare_of}
use Rattle.ap_check.specs.Ends.{Ends}
use Rattle.ap_check.proofs.Told.{size_refused, header_refused, table_refused, table_taken, sized_still}
use Rattle.ap_check.proofs.WaysOut.{way_out}
use Rattle.ap_check.proofs.bare.check_sized_in.Goals as goal

pub returns-in_err-check_size-clause-ends : goal.returns-in_err-check_size-clause-ends
returns-in_err-check_size-clause-ends g c =
    let old = g.F.Files.state c.args.files.now in
    let n = c.args.number in
    let fault = c.in_err-check_size.field-0.0 in
    way_out (Ends old old c.args.name.now (bare_rules_of n) (bare_of n)) c.from_residual.result (Rule fault) c.from_residual.ensures.1
    (refl, size_refused old.kept c.args.name.now n c.args.size fault c.requires c.in_err-check_size.ensures.rules)

pub returns-in_err-check_header-clause-ends : goal.returns-in_err-check_header-clause-ends
returns-in_err-check_header-clause-ends g c =
    let old = g.F.Files.state c.args.files.now in
    let n = c.args.number in
    let read = c.in_ok-header.ensures in
    let fault = c.in_err-check_header.field-0.0 in
    way_out (Ends old (g.F.Files.state c.header_in.new.files) c.args.name.now (bare_rules_of n) (bare_of n))
    c.from_residual-in_err-check_header.result (Rule fault) c.from_residual-in_err-check_header.ensures.1
    (read.0, header_refused old.kept c.args.name.now n c.args.size c.in_ok-header.header fault c.requires read.1 c.in_ok-check_size.ensures.rules c.in_err-check_header.ensures.rules)

pub returns-in_err-input-clause-ends : goal.returns-in_err-input-clause-ends
returns-in_err-input-clause-ends g c =
    let old = g.F.Files.state c.args.files.now in
    let n = c.args.number in
    let first = c.in_ok-header.ensures in
    let second = c.in_ok-entries.ensures.read in
    let fault = c.in_err-input.field-0.0 in
    way_out (Ends old (g.F.Files.state c.entries_in.new.files) c.args.name.now (bare_rules_of n) (bare_of n))
    c.from_residual-in_err-input.result (Rule fault) c.from_residual-in_err-input.ensures.1 (
      second.0 ∙ first.0,
      table_refused old.kept c.args.name.now n c.args.size c.in_ok-header.header c.deref.result.now fault c.requires
          first.1 (λ m b told at. c.deref.ensures.0 ∙ second.1 m b (ap (λ (s : FileState). s.kept) first.0 ∙ told) at)
          c.in_ok-check_size.ensures.rules c.in_ok-check_header.ensures.rules c.in_err-input.ensures.rules,
    )

pub returns-clause-ends : goal.returns-clause-ends
returns-clause-ends g c =
    let first = c.in_ok-header.ensures in
    let second = c.in_ok-entries.ensures.read in
    let table = c.in_ok-input in (
      second.0 ∙ first.0,
      table_taken (g.F.Files.state c.args.files.now).kept c.args.name.now c.args.number c.args.size c.in_ok-header.header c.deref.result.now table.input c.requires
          first.1 (λ m b told at. c.deref.ensures.0 ∙ second.1 m b (ap (λ (s : FileState). s.kept) first.0 ∙ told) at)
          c.in_ok-check_size.ensures.rules c.in_ok-check_header.ensures.rules table.ensures.rules table.ensures.taken,
    )

pub returns-clause-size : goal.returns-clause-size
returns-clause-size g c =
    sized_still (g.F.Files.state c.args.files.now) (g.F.Files.state c.entries_in.new.files) c.args.name.now c.args.number c.args.size c.in_ok-header.header c.deref.result.now c.in_ok-input.input
    (c.in_ok-entries.ensures.read.0 ∙ c.in_ok-header.ensures.0) c.in_ok-input.ensures.taken c.requires
