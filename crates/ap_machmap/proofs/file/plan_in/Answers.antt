use Rattle.std.proofs.Common.{◌∙◌, ◌-◌, ◌+◌, refl, ap, take, arith}
use Rattle.ap_files.specs.Files.{FileState}
use Rattle.ap_machmap.specs.Steps.{header_plan}
use Rattle.ap_machmap.proofs.Planned.{step-fault, step-next}
use Rattle.ap_machmap.proofs.file.plan_in.Goals as goal

pub add-requires-clause-place : goal.add-requires-clause-place
add-requires-clause-place g c =
    let e = c.in_ok-parts.ensures.place in
    let p = c.loop-k.invariant.place in
    omega arith

pub returns-in-Err-clause-read : goal.returns-in-Err-clause-read
returns-in-Err-clause-read g c = (
  c.in_ok-parts.ensures.read.0 ∙ c.loop-k.invariant.state,
  λ m b told at.
      let h = c.args.h.now in
      let end = 32 + h.size in
      let map = c.loop-k.mapped in
      let more = c.loop-k-test.true in
      let read = c.in_ok-parts.ensures.read.1 m b (ap (λ (s : FileState). s.kept) c.loop-k.invariant.state ∙ told) at in
      step-fault c.args.size end (c.loop-k.k + 1) map.low map.regions.items map.start (take end b) c.loop-k.at (h.count - c.loop-k.k) (h.count - (c.loop-k.k + 1)) c.in_ok-parts.parts c.in-Err.fault (header_plan b h)
      (c.loop-k.invariant.left m b told at) (omega arith) read c.in-Err.ensures.rules,
)

pub loop-k-preserved : goal.loop-k-preserved
loop-k-preserved g c = record {
  state = c.in_ok-parts.ensures.read.0 ∙ c.loop-k.invariant.state;
  place = (let e = c.in_ok-parts.ensures.place in let f = c.in_default.ensures.fits in omega arith);
  mapped = c.in_default.ensures.mapped;
  left = λ m b told at.
      let h = c.args.h.now in
      let end = 32 + h.size in
      let map = c.loop-k.mapped in
      let new = c.add.new.self in
      let more = c.loop-k-test.true in
      let read = c.in_ok-parts.ensures.read.1 m b (ap (λ (s : FileState). s.kept) c.loop-k.invariant.state ∙ told) at in
      step-next c.args.size end (c.loop-k.k + 1) map.low new.low map.regions.items new.regions.items map.start new.start (take end b) c.loop-k.at (c.loop-k.at + c.in_ok-parts.parts.front.size) (h.count - c.loop-k.k) (h.count - (c.loop-k.k + 1)) c.in_ok-parts.parts (header_plan b h)
      (c.loop-k.invariant.left m b told at) (omega arith) read c.in_default.ensures.rules
      (record { low_is = c.in_default.ensures.low; regions_are = c.in_default.ensures.regions; start_is = c.in_default.ensures.start; next_is = refl });
}
