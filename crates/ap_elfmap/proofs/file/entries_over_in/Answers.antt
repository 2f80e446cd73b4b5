use Rattle.std.proofs.Common.{◌∙◌, refl, arith}
use Rattle.ap_files.proofs.ReadLemmas.{reads-after}
use Rattle.ap_elfmap.proofs.Fronts.{entries-behind}
use Rattle.ap_elfmap.proofs.file.entries_over_in.Goals as goal

pub returns-else-h : goal.returns-else-h
returns-else-h g c =
    let old = g.F.Files.state c.args.files.now in
    reads-after old old (g.F.Files.state c.entries_in.new.files) c.args.name.now _ _ c.entries_in.result refl
    (λ m b told at found h. h ∙ entries-behind b c.args.header.now c.args.h.now.e_phoff c.args.h.now.e_phnum (omega arith)) c.entries_in.ensures.read
