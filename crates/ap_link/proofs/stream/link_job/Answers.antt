use Rattle.std.proofs.Common.{◌++◌, sym, ap, ◌∙◌, subst, Some, None}
use Rattle.std.specs.Option.{option_copied}
use Rattle.ap_check.specs.Inputs.{inputs_of}
use Rattle.ap_layout.specs.Positions.{Positions, positions_of}
use Rattle.ap_files.specs.Files.{FileState}
use Rattle.ap_files.specs.Appends.{Makes}
use Rattle.ap_link.specs.Sources.{tail_told, AreReadable, second_name, second_taken}
use Rattle.ap_link.proofs.Delivering.{sources-readable, all-ready, links-made, links-unmade, links-unfound, positions-as, block-as}
use Rattle.ap_link.proofs.Filling.{filled-at}
use Rattle.ap_link.proofs.Lending.{lent-files, lent-unmade}
use Rattle.ap_link.proofs.stream.link_job.Goals as goal

pub write_linked-requires-clause-lay : goal.write_linked-requires-clause-lay
write_linked-requires-clause-lay g c = (
  c.args.job.now.options,
  c.in-Ok.twins.masks.items,
  positions-as c.args.job.now.options c.in-Ok.twins.masks.items c.place-lay.result c.args.sources.now.first.input.now c.args.job.now.first.now (second_taken c.args.sources.now.second) (option_copied c.args.job.now.second)
      c.place-lay.ensures.positions c.requires.input c.requires.other,
)

pub write_linked-requires-clause-sources : goal.write_linked-requires-clause-sources
write_linked-requires-clause-sources g c =
    subst (λ (s : FileState). AreReadable s.kept c.args.sources.now.first c.args.sources.now.second c.args.out.now) (sym c.in-Ok.ensures.0)
    (sources-readable (g.F.Files.state c.args.files.now).kept c.args.sources.now.first c.args.sources.now.second c.args.out.now c.requires.first c.requires.second c.requires.apart c.requires.others)

pub returns-in-Err-clause-files : goal.returns-in-Err-clause-files
returns-in-Err-clause-files g c =
    links-unfound c.args.job.now.options (g.F.Files.state c.args.files.now) (g.F.Files.state c.find_twins.new.files) c.args.sources.now.first.name.now (second_name c.args.sources.now.second) c.args.out.now c.in-Err.ensures

pub returns-in-Ok-write_linked-clause-files : goal.returns-in-Ok-write_linked-clause-files
returns-in-Ok-write_linked-clause-files g c =
    let e = c.args.sources.now.first.input.now in
    let o = second_taken c.args.sources.now.second in
    let same = c.requires.other in
    links-made c.args.job.now.options (g.F.Files.state c.args.files.now) (g.F.Files.state c.write_linked.new.files) c.args.sources.now.first.name.now (second_name c.args.sources.now.second) c.args.out.now _ _
    (all-ready c.args.job.now.options (g.F.Files.state c.args.files.now).kept c.args.sources.now.first c.args.sources.now.second c.bytes.result.now c.in-Ok.twins.masks.items c.place-lay.result c.lay.inside.total
    c.requires.first c.requires.second c.requires.rules
    (block-as c.bytes.result.now c.args.job.now.options c.in-Ok.twins.masks.items c.place-lay.result e c.args.job.now.first.now o (option_copied c.args.job.now.second)
    (c.bytes.ensures.value ∙ c.fill.ensures.bytes) c.place-lay.ensures.positions c.requires.input same)
    (positions-as c.args.job.now.options c.in-Ok.twins.masks.items c.place-lay.result e c.args.job.now.first.now o (option_copied c.args.job.now.second) c.place-lay.ensures.positions c.requires.input same)
    (ap (λ (x : Positions). x.total) c.lay.view_is) c.in-Ok.ensures.1)
    (subst (λ (s : FileState). Makes s (g.F.Files.state c.write_linked.new.files) c.args.out.now (c.bytes.result.now ++ tail_told s.kept c.args.sources.now.first c.args.sources.now.second c.place-lay.result.areas) None) c.in-Ok.ensures.0 c.in-Ok-write_linked.ensures)

pub returns-in-Err-write_linked-clause-files : goal.returns-in-Err-write_linked-clause-files
returns-in-Err-write_linked-clause-files g c =
    let e = c.args.sources.now.first.input.now in
    let o = second_taken c.args.sources.now.second in
    let same = c.requires.other in
    links-unmade c.args.job.now.options (g.F.Files.state c.args.files.now) (g.F.Files.state c.write_linked.new.files) c.args.sources.now.first.name.now (second_name c.args.sources.now.second) c.args.out.now _ _
    c.in-Err-write_linked.fault c.end_of_fault.result
    (all-ready c.args.job.now.options (g.F.Files.state c.args.files.now).kept c.args.sources.now.first c.args.sources.now.second c.bytes.result.now c.in-Ok.twins.masks.items c.place-lay.result c.lay.inside.total
    c.requires.first c.requires.second c.requires.rules
    (block-as c.bytes.result.now c.args.job.now.options c.in-Ok.twins.masks.items c.place-lay.result e c.args.job.now.first.now o (option_copied c.args.job.now.second)
    (c.bytes.ensures.value ∙ c.fill.ensures.bytes) c.place-lay.ensures.positions c.requires.input same)
    (positions-as c.args.job.now.options c.in-Ok.twins.masks.items c.place-lay.result e c.args.job.now.first.now o (option_copied c.args.job.now.second) c.place-lay.ensures.positions c.requires.input same)
    (ap (λ (x : Positions). x.total) c.lay.view_is) c.in-Ok.ensures.1)
    c.end_of_fault.ensures
    (subst (λ (s : FileState). Makes s (g.F.Files.state c.write_linked.new.files) c.args.out.now (c.bytes.result.now ++ tail_told s.kept c.args.sources.now.first c.args.sources.now.second c.place-lay.result.areas) (Some c.in-Err-write_linked.fault))
    c.in-Ok.ensures.0 c.in-Err-write_linked.ensures)

pub returns-in-Ok-write_linked-clause-block : goal.returns-in-Ok-write_linked-clause-block
returns-in-Ok-write_linked-clause-block g c =
    lent-files c.args.job.now.options (g.F.Files.state c.args.files.now).kept c.in-Ok.twins.masks.items c.args.sources.now.first c.args.sources.now.second c.args.job.now.first.now (option_copied c.args.job.now.second)
    c.fill.new.block c.requires.first c.requires.second c.requires.rules
    c.requires.input c.requires.other c.in-Ok.ensures.1 (filled-at c.args.job.now.options (inputs_of c.args.job.now.first.now (option_copied c.args.job.now.second)) c.place-lay.result
    (positions_of c.args.job.now.options c.args.job.now.first.now (option_copied c.args.job.now.second) c.in-Ok.twins.masks.items) c.fill.new.block c.place-lay.ensures.positions c.fill.ensures.filled)

pub returns-in-Err-write_linked-clause-block : goal.returns-in-Err-write_linked-clause-block
returns-in-Err-write_linked-clause-block g c =
    lent-unmade c.args.job.now.options (g.F.Files.state c.args.files.now).kept c.args.block.now c.fill.new.block c.args.sources.now.first.name.now (second_name c.args.sources.now.second) c.in-Err-write_linked.fault
    c.end_of_fault.result c.end_of_fault.ensures
    (lent-files c.args.job.now.options (g.F.Files.state c.args.files.now).kept c.in-Ok.twins.masks.items c.args.sources.now.first c.args.sources.now.second c.args.job.now.first.now (option_copied c.args.job.now.second)
    c.fill.new.block c.requires.first c.requires.second c.requires.rules
    c.requires.input c.requires.other c.in-Ok.ensures.1 (filled-at c.args.job.now.options (inputs_of c.args.job.now.first.now (option_copied c.args.job.now.second)) c.place-lay.result
    (positions_of c.args.job.now.options c.args.job.now.first.now (option_copied c.args.job.now.second) c.in-Ok.twins.masks.items) c.fill.new.block c.place-lay.ensures.positions c.fill.ensures.filled))
