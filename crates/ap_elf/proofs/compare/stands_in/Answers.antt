use Rattle.std.proofs.Common.{◌≡◌, ◌∙◌, ◌&&◌, arith, ap, sym, [], ◌∷◌, ◌+◌, take, drop, length}
use Rattle.std.specs.Str.{bytes_eq}
use Rattle.ap_files.proofs.ReadLemmas.{told_of}
use Rattle.ap_elf.specs.Symbols.{strings_of, stands_at, with_nul}
use Rattle.ap_elf.proofs.Comparing.{stands_at-file}
use Rattle.ap_files.proofs.ReadLemmas.{reads-after}
use Rattle.ap_elf.proofs.compare.stands_in.Goals as goal

pub returns-then-branch : goal.returns-then-branch
returns-then-branch g c =
    let t = c.args.t.now in
    let name = c.args.wanted.now in
    let first = rw c.if-branch.true at c.in_ok-agrees_in.ensures in
    reads-after (g.F.Files.state c.args.files.now) (g.F.Files.state c.agrees_in.new.files) (g.F.Files.state c.agrees_in-then-branch.new.files) c.args.name.now
    (λ b r. r ≡ bytes_eq (take 1 (drop (t.strings + c.args.at + length name) b)) (0 ∷ []))
    (λ b r. r ≡ stands_at (strings_of b t) (with_nul name) c.args.at) c.agrees_in-then-branch.result first.0
    (λ m b told at r is.
    let ends = told_of (g.F.Files.state c.args.files.now).kept c.args.name.now m b c.requires.told told at in
    is ∙ ap (λ x. x && bytes_eq (take 1 (drop (t.strings + c.args.at + length name) b)) (0 ∷ [])) (first.1 m b told at)
    ∙ sym (stands_at-file b name t c.args.at ends (omega arith)))
    c.agrees_in-then-branch.ensures

pub returns-else-branch : goal.returns-else-branch
returns-else-branch g c =
    let t = c.args.t.now in
    let name = c.args.wanted.now in
    let first = rw c.if-branch.false at c.in_ok-agrees_in.ensures in (
      first.0,
      λ m b told at.
          let ends = told_of (g.F.Files.state c.args.files.now).kept c.args.name.now m b c.requires.told told at in
          ap (λ x. x && bytes_eq (take 1 (drop (t.strings + c.args.at + length name) b)) (0 ∷ [])) (first.1 m b told at)
          ∙ sym (stands_at-file b name t c.args.at ends (omega arith)),
    )
