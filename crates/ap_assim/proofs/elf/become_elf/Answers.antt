use Rattle.std.proofs.Common.{◌∙◌, sym, subst, length, arith}
use Rattle.ap_elf.specs.Machines.{number_of}
use Rattle.ap_assim.proofs.Lengths.{FoundAt, taken_length}
use Rattle.ap_assim.proofs.elf.become_elf.Goals as goal

-- src/elf.rt:41:13
pub set_front-requires : goal.set_front-requires
set_front-requires c =
    let file = c.args.file.now in
    let found = subst (FoundAt (length file)) (sym (sym c.in-Some.is ∙ c.embedded.ensures)) (taken_length (number_of c.args.machine) file) in
    let low = found.0 in
    let size = found.1 in
    omega (arith, low, size)
