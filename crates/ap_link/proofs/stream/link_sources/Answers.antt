use Rattle.std.proofs.Common.{Err, sym, subst}
use Rattle.ap_check.specs.declared.job.Job.{Job}
use Rattle.ap_check.specs.Both.{pair_rules}
use Rattle.ap_check.specs.ImportRule.{ChecksTold}
use Rattle.ap_link.specs.FileAnswers.{LinksFiles}
use Rattle.ap_link.specs.Sources.{second_name}
use Rattle.ap_link.proofs.Delivering.{links-unchecked}
use Rattle.ap_link.proofs.stream.link_sources.Goals as goal

pub returns-in-Err-clause-files : goal.returns-in-Err-clause-files
returns-in-Err-clause-files g c =
    let old = g.F.Files.state c.args.files.now in
    let new = g.F.Files.state c.check_all_in.new.files in
    let options = c.args.options.now in
    let first = c.args.sources.now.first in
    let second = c.args.sources.now.second in
    let name = c.x64_name.result.now in
    let end = c.in-Err.end in
    let told = subst (λ o. ChecksTold {T = Job} old new name (pair_rules options first.input.now o) (Err end)) c.second_input-second.ensures c.in-Err.ensures.rules in
    subst (λ e. LinksFiles options old new first.name.now (second_name second) c.args.out.now (Err e)) (sym c.end_of_check.ensures)
    (links-unchecked Job options old new first second c.args.out.now name end c.requires.first c.requires.second c.x64_name.ensures told)
