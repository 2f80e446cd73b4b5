use Rattle.std.proofs.Common.{refl}
use Rattle.std.proofs.lemmas.Bool.{false≢true}
use Rattle.ap_elf.specs.Symbols.{strings_of}
use Rattle.ap_elf.proofs.Searches.{found-stands, none-stands}
use Rattle.ap_elf.proofs.strings.stands_in_strings.Goals as goal

pub returns-in-Some : goal.returns-in-Some
returns-in-Some g c =
    let read = rw c.in-Some.is at c.in_ok-first_in.ensures.first in
    (read.0, λ m b told at. ((λ _. found-stands (strings_of b c.args.t.now) c.args.text.now _ (read.1 m b told at)), (λ _. refl)))

pub returns-in-None : goal.returns-in-None
returns-in-None g c =
    let read = rw c.in-None.is at c.in_ok-first_in.ensures.first in
    (read.0, λ m b told at. ((λ e. absurd (false≢true e)), (λ s. absurd (none-stands (strings_of b c.args.t.now) c.args.text.now (read.1 m b told at) s))))
