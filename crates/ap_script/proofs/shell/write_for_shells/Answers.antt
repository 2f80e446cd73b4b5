use Rattle.ap_claims.specs.Lists.{claim}
use Rattle.std.proofs.Common.{rules, ◌≡◌, [], ◌∷◌, refl}
use Rattle.ap_claims.specs.declared.owner.Owner.TheVariants.{Shell}
use Rattle.ap_claims.proofs.Writers.{stopped-claim, next-claim, one-claim}
use Rattle.ap_script.specs.Blocks as spec
use Rattle.ap_script.proofs.shell.write_for_shells.Goals as goal

pub returns-in_err-claim : goal.returns-in_err-claim
returns-in_err-claim c =
    let last = claim Shell c.args.body_end c.args.ending.now in
    let first : c.deref.result.now ≡ spec.magic_line c.args.options.now = search rules in
    stopped-claim (claim Shell 0 (spec.magic_line c.args.options.now)) (claim Shell 64 (spec.opening_line c.args.number) ∷ last ∷ []) c.args.block.now c.claim.new.self c.deref.result.now c.claim.result c.from_residual.result
    c.in_err-claim.field-0.0 first c.claim.ensures c.in_err-claim.was (search rules)

pub returns-in_err-claim-2 : goal.returns-in_err-claim-2
returns-in_err-claim-2 c =
    let line = claim Shell 64 (spec.opening_line c.args.number) in
    let last = claim Shell c.args.body_end c.args.ending.now in
    let first : c.deref.result.now ≡ spec.magic_line c.args.options.now = search rules in
    let spelled : c.deref-2.result.now ≡ spec.opening_line c.args.number = search rules in
    next-claim (claim Shell 0 (spec.magic_line c.args.options.now)) (line ∷ last ∷ []) c.args.block.now c.claim.new.self c.claim-2.new.self c.deref.result.now c.claim.result c.from_residual-in_err-claim-2.result
    c.in_ok-claim.field-0 first c.claim.ensures c.in_ok-claim.was
    (stopped-claim line (last ∷ []) c.claim.new.self c.claim-2.new.self c.deref-2.result.now c.claim-2.result c.from_residual-in_err-claim-2.result
    c.in_err-claim-2.field-0.0 spelled c.claim-2.ensures c.in_err-claim-2.was (search rules))

pub returns : goal.returns
returns c =
    let line = claim Shell 64 (spec.opening_line c.args.number) in
    let last = claim Shell c.args.body_end c.args.ending.now in
    let first : c.deref.result.now ≡ spec.magic_line c.args.options.now = search rules in
    let spelled : c.deref-2.result.now ≡ spec.opening_line c.args.number = search rules in
    next-claim (claim Shell 0 (spec.magic_line c.args.options.now)) (line ∷ last ∷ []) c.args.block.now c.claim.new.self c.claim-3.new.self c.deref.result.now c.claim.result c.claim-3.result
    c.in_ok-claim.field-0 first c.claim.ensures c.in_ok-claim.was
    (next-claim line (last ∷ []) c.claim.new.self c.claim-2.new.self c.claim-3.new.self c.deref-2.result.now c.claim-2.result c.claim-3.result
    c.in_ok-claim-2.field-0 spelled c.claim-2.ensures c.in_ok-claim-2.was
    (one-claim last c.claim-2.new.self c.claim-3.new.self c.args.ending.now c.claim-3.result refl c.claim-3.ensures))
