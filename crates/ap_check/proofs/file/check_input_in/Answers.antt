use Rattle.ap_check.specs.Ends.{ChecksFile}
use Rattle.ap_check.proofs.Found.{ends_early}
use Rattle.ap_check.proofs.WaysOut.{way_out}
use Rattle.ap_check.proofs.file.check_input_in.Goals as goal

pub returns-in_err-bare-clause-ends : goal.returns-in_err-bare-clause-ends
returns-in_err-bare-clause-ends g c =
    let old = g.F.Files.state c.args.files.now in
    let new = g.F.Files.state c.check_bare_in.new.files in
    let end = c.in_err-bare.field-0.0 in
    way_out (ChecksFile old new c.args.name.now c.args.number) c.from_residual.result end c.from_residual.ensures.1
    (ends_early old new c.args.name.now c.args.number end c.in_err-bare.ensures.ends)
