use Rattle.std.proofs.Common.{◌≡◌, ℕ, length, ◌<◌, get_or, map, set, sym, ap, ◌∙◌, subst, bit_or, arith}
use Rattle.std.proofs.lemmas.List.{length-map}
use Rattle.ap_claims.specs.declared.owner.Owners.{Owners}
use Rattle.ap_claims.specs.Blocks.{BlockState, IsBlock, claimed_at}
use Rattle.ap_claims.proofs.Bytewise.{block-claimed_at, fields-claimed_at}
use Rattle.ap_claims.proofs.block.Block.claim_byte.Goals as goal

-- the fields at the end are those of the block with the byte claimed
same : (c : goal.After-union-owners)
    → (let b : BlockState = record { bytes = set c.self.inside.bytes c.args.at c.args.byte; owners = map (λ (x : Owners). x.0) (set c.self.inside.owners c.args.at c.union-owners.result) } in b)
    ≡ claimed_at c.args.o (record { bytes = c.self.inside.bytes; owners = map (λ (x : Owners). x.0) c.self.inside.owners }) c.args.at c.args.byte
same c =
    let room = c.self.inside.owners in
    let lt : c.args.at < length room = omega (arith, c.self.invariant.owners, length-map room (λ (o : Owners). o.0)) in
    fields-claimed_at c.args.o c.self.inside.bytes room c.args.at c.args.byte (record { 0 = 0 }) c.union-owners.result lt (c.union-owners.ensures tt ∙ ap (λ (n : ℕ). bit_or (get_or room c.args.at (record { 0 = 0 })).0 n) c.set_of.ensures)

pub invariant_of-self : goal.invariant_of-self
invariant_of-self c = subst IsBlock (sym (same c)) (block-claimed_at c.args.o _ c.args.at c.args.byte c.requires c.self.invariant)

pub returns : goal.returns
returns c = same c ∙ ap (λ (b : BlockState). claimed_at c.args.o b c.args.at c.args.byte) c.self.view_is
