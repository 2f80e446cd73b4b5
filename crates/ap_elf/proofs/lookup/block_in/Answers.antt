use Rattle.std.proofs.Common.{◌≡◌, ◌*◌, ◌∙◌, ap, arith, take, drop}
use Rattle.std.proofs.lemmas.List.{length-take-le}
use Rattle.ap_files.proofs.ReadLemmas.{same_state}
use Rattle.ap_elf.specs.Symbols.{strings_of, symbols_from, value_among}
use Rattle.ap_files.proofs.ReadLemmas.{reads-after}
use Rattle.ap_elf.proofs.SymbolReads.{symbols-read}
use Rattle.ap_elf.proofs.lookup.block_in.Goals as goal

pub returns : goal.returns
returns g c =
    let t = c.args.t.now in
    reads-after (g.F.Files.state c.args.files.now) (g.F.Files.state c.read_at.new.self) (g.F.Files.state c.value_among_in.new.files) c.args.name.now
    (λ b o. o ≡ value_among (strings_of b t) c.args.wanted.now (symbols_from c.read_at.new.buf 0 c.args.count))
    (λ b o. o ≡ value_among (strings_of b t) c.args.wanted.now (symbols_from b c.args.at c.args.count)) c.value_among_in.result
    (same_state (g.F.Files.state c.args.files.now) (g.F.Files.state c.read_at.new.self) c.in_ok-read_at.ensures.files c.in_ok-read_at.ensures.ok)
    (λ m b told at o is.
    is ∙ ap (value_among (strings_of b t) c.args.wanted.now)
    (symbols-read b c.read_at.new.buf c.args.at c.args.count
    (c.in_ok-read_at.ensures.bytes m b told at ∙ ap (λ k. take k (drop c.args.at b)) (length-take-le (24 * c.args.count) _ (omega arith)))))
    c.value_among_in.ensures
