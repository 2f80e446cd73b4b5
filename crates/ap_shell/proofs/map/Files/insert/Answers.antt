use Rattle.std.proofs.Common.{◌∙◌, ap}
use Rattle.std.specs.FinMap as fin
use Rattle.ap_shell.proofs.MapLemmas.{insert_in}
use Rattle.ap_shell.proofs.map.Files.insert.Goals as goal

pub returns : goal.returns
returns c = insert_in c.in_ok-name.name c.args.file c.self.inside.map c.insert.new.self c.in_ok-insert.ensures.entries
    ∙ ap (λ m. fin.insert m c.in_ok-name.name.items c.args.file) c.self.view_is ∙ ap (λ n. fin.insert c.args.self.now n c.args.file) c.in_ok-name.ensures.items
