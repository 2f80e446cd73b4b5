use Rattle.std.proofs.Common.{◌≡◌, ◌-◌, length, get_or, rules, arith}
use Rattle.ap_layout.specs.Twins.{bit_if, no_load}
use Rattle.ap_link.specs.Compared.{byte_told}
use Rattle.ap_link.proofs.Sides.{twins-told, mask-step, mask-bits, bit-small}
use Rattle.ap_link.proofs.twins.find_mask.Goals as goal

pub loop-left-preserved : goal.loop-left-preserved
loop-left-preserved g c =
    let one = g.F.Files.state c.args.files.now in
    let loads = c.args.one.now.loads.now in
    let left = c.loop-left.left in
    let bit : c.from.result ≡ bit_if c.in-Ok.same = search rules in
    let some = c.loop-left-test.true in
    let below = c.loop-left.invariant.below in
    let told = twins-told one (g.F.Files.state c.loop-left.files) (g.F.Files.state c.same_content.new.files) c.args.one.now.name.now c.args.one.now.granule (get_or loads (left - 1) no_load)
    c.args.name.now c.args.granule c.args.load.now c.in-Ok.same c.loop-left.invariant.state c.in-Ok.ensures in
    record {
      below = omega arith;
      state = told.0;
      bits = mask-bits (length loads - left) (length loads - (left - 1)) c.loop-left.mask c.from.result c.loop-left.invariant.bits (bit-small c.in-Ok.same c.from.result bit) (omega arith);
      told = λ m k.
          mask-step c.args.one.now.granule (byte_told one.kept c.args.one.now.name.now) loads c.args.granule (byte_told one.kept c.args.name.now) c.args.load.now left c.loop-left.mask c.from.result c.in-Ok.same no_load
          (omega arith) below (c.loop-left.invariant.told m k) (told.1 m k) bit;
    }
