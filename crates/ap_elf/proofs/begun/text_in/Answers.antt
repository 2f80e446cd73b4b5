use Rattle.std.proofs.Common.{◌≡◌, ◌≤◌, ◌+◌, ◌∙◌, arith, refl, take, drop, length}
use Rattle.std.specs.Str.{bytes_eq}
use Rattle.ap_files.proofs.ReadLemmas.{told_of, reads-after}
use Rattle.ap_elf.specs.Symbols.{strings_of, stands_at}
use Rattle.ap_elf.proofs.Beginnings.{text-file}
use Rattle.ap_elf.proofs.begun.text_in.Goals as goal

pub returns : goal.returns
returns g c =
    let t = c.args.t.now in
    let text = c.args.text.now in
    let within : c.args.at + length text ≤ t.length = grind arith in
    reads-after (g.F.Files.state c.args.files.now) (g.F.Files.state c.args.files.now) (g.F.Files.state c.piece_agrees_in.new.files) c.args.name.now
    (λ b r. r ≡ bytes_eq (take (length text) (drop (t.strings + c.args.at) b)) text)
    (λ b r. r ≡ stands_at (strings_of b t) text c.args.at) c.piece_agrees_in.result refl
    (λ m b told at r is.
    let ends = told_of (g.F.Files.state c.args.files.now).kept c.args.name.now m b c.requires.tables.told told at in
    is ∙ text-file b text t c.args.at ends within)
    c.piece_agrees_in.ensures
