use Rattle.ap_run.proofs.Fetching.{unmeasured, fetched, not-fetched}
use Rattle.ap_run.proofs.fetch.fetch.Goals as goal

pub returns-in-Err : goal.returns-in-Err
returns-in-Err g c = unmeasured (g.F.Files.state c.args.files.now) (g.F.Files.state c.measure.new.files) c.args.name.now c.in-Err.cause c.in-Err.ensures

pub returns-in-Ok-read_all : goal.returns-in-Ok-read_all
returns-in-Ok-read_all g c =
    fetched (g.F.Files.state c.args.files.now) (g.F.Files.state c.measure.new.files) (g.F.Files.state c.read_all.new.files) c.args.name.now c.in-Ok.size c.in-Ok-read_all.file c.in-Ok.ensures
    c.in-Ok-read_all.ensures.bytes c.in-Ok-read_all.ensures.length

pub returns-in-Err-Read : goal.returns-in-Err-Read
returns-in-Err-Read g c =
    not-fetched (g.F.Files.state c.args.files.now) (g.F.Files.state c.measure.new.files) (g.F.Files.state c.read_all.new.files) c.args.name.now c.in-Ok.ensures.0 (rw c.in-Err-Read.field-0-is at c.in-Err-Read.ensures.bytes)
