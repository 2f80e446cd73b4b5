use Rattle.ap_run.proofs.Showing.{answers-refused, answers-made, answers-listed}
use Rattle.ap_run.proofs.show.text_of.Goals as goal

pub returns-in-Ok : goal.returns-in-Ok
returns-in-Ok g c =
    answers-made (g.F.Files.state c.args.files.now) (g.F.Files.state c.plan_of.new.files) c.args.format.now c.args.name.now c.in-Ok.planned c.made_of.result c.if-format.false c.in-Ok.ensures.plan c.made_of.ensures

pub returns-in-Err : goal.returns-in-Err
returns-in-Err g c =
    answers-refused (g.F.Files.state c.args.files.now) (g.F.Files.state c.plan_of.new.files) c.args.format.now c.args.name.now c.in-Err.cause c.if-format.false c.in-Err.ensures.plan

pub returns-then-format : goal.returns-then-format
returns-then-format g c =
    answers-listed (g.F.Files.state c.args.files.now) (g.F.Files.state c.listing_of.new.files) c.args.format.now c.args.name.now c.listing_of.result c.if-format.true c.listing_of.ensures
