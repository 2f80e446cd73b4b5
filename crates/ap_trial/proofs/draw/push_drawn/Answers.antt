use Rattle.ap_trial.proofs.DrawLemmas.{drawn-start}
use Rattle.ap_trial.proofs.draw.push_drawn.Goals as goal

pub loop-init : goal.loop-init
loop-init c = drawn-start c.args.x.now c.args.out.now.items
