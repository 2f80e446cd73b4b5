use Rattle.ap_files.proofs.ReadLemmas.{size_unread, size_still}
use Rattle.ap_check.specs.declared.end.CheckEnd.TheVariants.{ReadFault}
use Rattle.ap_check.specs.Bare.{bare_rules_of, bare_of}
use Rattle.ap_check.specs.Ends.{Ends}
use Rattle.ap_check.proofs.WaysOut.{way_out}
use Rattle.ap_check.proofs.bare.check_bare_in.Goals as goal

pub check_sized_in-requires : goal.check_sized_in-requires
check_sized_in-requires g c = size_still (g.F.Files.state c.args.files.now) (g.F.Files.state c.size.new.self) c.args.name.now c.in_ok-size.size c.in_ok-size.ensures

pub returns-in_err-size-clause-ends : goal.returns-in_err-size-clause-ends
returns-in_err-size-clause-ends g c =
    let old = g.F.Files.state c.args.files.now in
    let new = g.F.Files.state c.size.new.self in
    way_out (Ends old new c.args.name.now (bare_rules_of c.args.number) (bare_of c.args.number)) c.from_residual.result ReadFault c.from_residual.ensures.1
    (size_unread old new c.args.name.now c.in_err-size.field-0.0 c.in_err-size.ensures)
