-- A free block that the claims of a job are made on.
use Rattle.std.proofs.Common.{◌≡◌, List, Result, Ok, Err, None, Some, sym, ap, ◌∙◌, subst}
use Rattle.ap_claims.specs.declared.block.Clash.{Clash}
use Rattle.ap_claims.specs.Blocks.{BlockState, free_block}
use Rattle.ap_claims.specs.Lists.{Makes, claims_on, clash_on}
use Rattle.ap_claims.specs.Files.{IsFilled}
use Rattle.ap_claims.proofs.Filled.{claims-fill}
use Rattle.ap_claims.proofs.Growing.{inside-file}
use Rattle.ap_claims.proofs.Unclashed.{files-pass}
use Rattle.ap_check.specs.declared.options.Options.{Options}
use Rattle.ap_check.specs.Inputs.{Taken}
use Rattle.ap_layout.specs.Positions.{Positions, Fits}
use Rattle.ap_script.specs.Blocks.{block_of}
use Rattle.ap_script.specs.Claims.{block_claims}
use Rattle.ap_script.proofs.Claimed.{block-claimed}

-- no claim clashes
never-clashes : (options : Options) (inputs : List Taken) (l : Positions) → Fits options inputs l → clash_on free_block (block_claims options inputs l) ≡ None
never-clashes options inputs l fits = files-pass (block_claims options inputs l) (block_of options inputs l) (block-claimed options inputs l fits)

pub no-clash : (options : Options) (inputs : List Taken) (l : Positions) (old new : BlockState) (made : Result (Unit {0}) Clash) (clash : Clash) → Fits options inputs l → old ≡ free_block
    → Makes old new (block_claims options inputs l) made → made ≡ Err clash → ⊥
no-clash options inputs l old new made clash fits free h is =
    let stops : Makes old new (block_claims options inputs l) (Err clash) = subst (Makes old new (block_claims options inputs l)) is h in
    let none : clash_on old (block_claims options inputs l) ≡ None = ap (λ b. clash_on b (block_claims options inputs l)) free ∙ never-clashes options inputs l fits in
    let bad : None ≡ Some clash = sym none ∙ stops.0 in
    cc

pub block-filled : (options : Options) (inputs : List Taken) (l : Positions) (old new : BlockState) (made : Result (Unit {0}) Clash) (done : Unit {0}) → Fits options inputs l → old ≡ free_block
    → Makes old new (block_claims options inputs l) made → made ≡ Ok done → IsFilled (block_claims options inputs l) new
block-filled options inputs l old new made done fits free h is =
    let goes : Makes old new (block_claims options inputs l) (Ok done) = subst (Makes old new (block_claims options inputs l)) is h in
    let all : new ≡ claims_on free_block (block_claims options inputs l) = goes.1 ∙ ap (λ b. claims_on b (block_claims options inputs l)) free in
    subst (IsFilled (block_claims options inputs l)) (sym all)
    (claims-fill (block_claims options inputs l) (inside-file (block_claims options inputs l) (block_of options inputs l) (block-claimed options inputs l fits)) (never-clashes options inputs l fits))

pub filled-at : (options : Options) (inputs : List Taken) (l m : Positions) (b : BlockState) → l ≡ m → IsFilled (block_claims options inputs l) b → IsFilled (block_claims options inputs m) b
filled-at options inputs l m b is h = subst (λ p. IsFilled (block_claims options inputs p) b) is h
