use Rattle.ap_link.proofs.Handing.{second-untaken}
use Rattle.ap_link.proofs.stream.link_second.Goals as goal

pub returns-in-Err-clause-files : goal.returns-in-Err-clause-files
returns-in-Err-clause-files g c =
    second-untaken c.args.options.now (g.F.Files.state c.args.files.now) (g.F.Files.state c.check_input_in.new.files) c.args.first.now c.args.name.now c.args.out.now c.in-Err.end c.end_of_check.result
    c.requires.first c.end_of_check.ensures c.in-Err.ensures.ends
