use Rattle.ap_layout.specs.Jobs.{job_inputs}
use Rattle.ap_link.proofs.ClaimedFiles.{block-bytes}
use Rattle.ap_link.proofs.Filling.{no-clash, block-filled}
use Rattle.ap_link.proofs.fill.fill.Goals as goal

pub unreachable-requires : goal.unreachable-requires
unreachable-requires c =
    no-clash c.args.job.now.options (job_inputs c.args.job.now) c.args.lay.now c.args.block.now c.write.new.block c.write.result c.in-Err.field-0 c.requires.fits c.requires.free c.write.ensures c.in-Err.is

pub returns-clause-filled : goal.returns-clause-filled
returns-clause-filled c =
    block-filled c.args.job.now.options (job_inputs c.args.job.now) c.args.lay.now c.args.block.now c.write.new.block c.write.result c.in-Ok.field-0 c.requires.fits c.requires.free c.write.ensures c.in-Ok.is

pub returns-clause-bytes : goal.returns-clause-bytes
returns-clause-bytes c = block-bytes c.args.job.now.options (job_inputs c.args.job.now) c.args.lay.now c.write.new.block c.requires.fits (returns-clause-filled c)
