use Rattle.std.proofs.Common.{◌∙◌, ap, sym, subst, ◌<◌}
use Rattle.ap_files.specs.Files.{FileState}
use Rattle.ap_files.proofs.ReadLemmas.{told_of}
use Rattle.ap_elf.specs.Symbols.{strings_of}
use Rattle.ap_elf.proofs.Searches.{length-strings, none-stands}
use Rattle.ap_elf.proofs.Sightings.{seen-places}
use Rattle.ap_elf.proofs.seen.seen_in.Goals as goal

pub returns-in_ok-other-in-Some : goal.returns-in_ok-other-in-Some
returns-in_ok-other-in-Some g c =
    let t = c.args.t.now in
    let first = rw c.in-Some.is at c.in_ok-first.ensures.first in
    let again = c.in_ok-other-in-Some.ensures.first in (
      again.0 ∙ first.0,
      λ m b told at k below.
          let long = length-strings b t (told_of (g.F.Files.state c.args.files.now).kept c.args.name.now m b c.requires.tables.told told at) in
          seen-places (strings_of b t) c.args.text.now c.in-Some.first t.length k c.in_ok-other-in-Some.other (sym long) (first.1 m b told at)
          (again.1 m b (ap (λ (s : FileState). s.kept) first.0 ∙ told) at) (subst (λ x. k < x) c.unwrap_or.ensures below),
    )

pub returns-in-None : goal.returns-in-None
returns-in-None g c =
    let none = rw c.in-None.is at c.in_ok-first.ensures.first in
    (none.0, λ m b told at. none-stands (strings_of b c.args.t.now) c.args.text.now (none.1 m b told at))
