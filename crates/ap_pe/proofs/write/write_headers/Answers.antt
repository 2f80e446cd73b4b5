use Rattle.std.proofs.Common.{rules, ◌≡◌, ℕ, [], ◌∷◌, List, ◌∙◌, subst}
use Rattle.ap_claims.specs.declared.owner.Owner.TheVariants.{Dos, Pe}
use Rattle.ap_claims.specs.Lists.{Claim, Makes}
use Rattle.ap_claims.proofs.Writers.{next-claim}
use Rattle.ap_pe.specs.Claims.{mark_bytes, place_bytes}
use Rattle.ap_pe.specs.Written as spec
use Rattle.ap_pe.proofs.write.write_headers.Goals as goal

pub returns : goal.returns
unfolding Rattle.ap_fields.specs.Fields.bytes_of
returns c =
    let headers : List ℕ = spec.pe_headers c.args.p.now c.args.loads.now c.args.areas.now in
    let mark : Claim = record { owner = Dos; at = 0; bytes = mark_bytes } in
    let place : Claim = record { owner = Dos; at = 60; bytes = place_bytes } in
    let last : Claim = record { owner = Pe; at = 96; bytes = headers } in
    let spelled : c.deref.result.now ≡ headers = c.deref.ensures.0 ∙ c.pe_headers-headers.ensures in
    let first : c.to_le_bytes.result ≡ mark_bytes = search rules in
    let second : c.to_le_bytes-2.result ≡ place_bytes = search rules in
    next-claim mark (place ∷ last ∷ []) c.args.block.now c.claim.new.self c.claim_headers.new.block c.to_le_bytes.result c.claim.result c.claim_headers.result
    c.in_ok-claim.field-0 first c.claim.ensures c.in_ok-claim.was
    (next-claim place (last ∷ []) c.claim.new.self c.claim-2.new.self c.claim_headers.new.block c.to_le_bytes-2.result c.claim-2.result c.claim_headers.result
    c.in_ok-claim-2.field-0 second c.claim-2.ensures c.in_ok-claim-2.was
    (subst (λ (b : List ℕ). Makes c.claim-2.new.self c.claim_headers.new.block (record { owner = Pe; at = 96; bytes = b } ∷ []) c.claim_headers.result) spelled c.claim_headers.ensures))
