use Rattle.std.proofs.Common.{◌≡◌, ◌*◌, ◌∙◌, false, ap, arith, take, drop, subst}
use Rattle.std.proofs.lemmas.List.{length-take-le}
use Rattle.ap_files.proofs.ReadLemmas.{same_state, reads-after}
use Rattle.ap_elf.specs.Symbols.{strings_of, symbols_from}
use Rattle.ap_elf.specs.Begun.{NoneBegins}
use Rattle.ap_elf.proofs.SymbolReads.{symbols-read}
use Rattle.ap_elf.proofs.begun.block_begins_in.Goals as goal

pub returns : goal.returns
returns g c =
    let t = c.args.t.now in
    let text = c.args.text.now in
    reads-after (g.F.Files.state c.args.files.now) (g.F.Files.state c.read_at.new.self) (g.F.Files.state c.part_begins_in.new.files) c.args.name.now
    (λ b r. r ≡ false → NoneBegins (strings_of b t) text (symbols_from c.read_at.new.buf 0 c.args.count))
    (λ b r. r ≡ false → NoneBegins (strings_of b t) text (symbols_from b c.args.at c.args.count)) c.part_begins_in.result
    (same_state (g.F.Files.state c.args.files.now) (g.F.Files.state c.read_at.new.self) c.in_ok-read_at.ensures.files c.in_ok-read_at.ensures.ok)
    (λ m b told at r none not.
    subst (NoneBegins (strings_of b t) text)
    (symbols-read b c.read_at.new.buf c.args.at c.args.count
    (c.in_ok-read_at.ensures.bytes m b told at ∙ ap (λ k. take k (drop c.args.at b)) (length-take-le (24 * c.args.count) _ (omega arith))))
    (none not))
    c.part_begins_in.ensures
