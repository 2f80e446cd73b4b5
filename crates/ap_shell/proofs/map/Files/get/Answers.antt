use Rattle.std.proofs.Common.{◌∙◌, ap}
use Rattle.std.specs.FinMap as fin
use Rattle.ap_shell.proofs.MapLemmas.{get_in}
use Rattle.ap_shell.proofs.map.Files.get.Goals as goal

pub returns : goal.returns
returns c = c.get.ensures.value ∙ get_in c.args.name.now c.self.inside.map ∙ ap (λ m. fin.get m c.args.name.now) c.self.view_is
