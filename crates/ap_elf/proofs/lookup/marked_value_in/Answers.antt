use Rattle.std.proofs.Common.{◌≡◌, false, sym, arith}
use Rattle.std.proofs.lemmas.Bool.Decides.{nat_tests}
use Rattle.ap_elf.proofs.Naming.{value-unnamed}
use Rattle.ap_elf.proofs.lookup.marked_value_in.Goals as goal

pub returns-then-not-may_share : goal.returns-then-not-may_share
returns-then-not-may_share g c =
    let read = c.in_ok-mark_name_in.ensures in
    let apart : c.may_share.result ≡ false = grind (arith, nat_tests) in (
      read.0,
      λ m b told at. sym (value-unnamed b c.args.wanted.now c.args.t.now c.mark_name_in.new.marks c.args.named.now (read.1 m b told at) (c.requires.named m b told at) (c.may_share.ensures apart)),
    )
