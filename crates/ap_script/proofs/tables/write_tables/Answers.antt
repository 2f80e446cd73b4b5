use Rattle.std.proofs.Common.{rules, ◌≡◌, ◌+◌, ◌∷◌, [], ◌++◌, List, drop, Ok, sym, ap, ◌∙◌, subst, append_assoc, refl}
use Rattle.ap_claims.specs.declared.owner.Owner.TheVariants.{Elf}
use Rattle.ap_claims.specs.Lists.{Claim, Makes, claim}
use Rattle.ap_claims.proofs.Writers.{next-writer, stopped-writer}
use Rattle.ap_layout.specs.Positions.{PlacedInput, placed_inputs}
use Rattle.ap_script.specs.Tables.{table_text}
use Rattle.ap_script.specs.Claims.{table_claims}
use Rattle.ap_layout.specs.Jobs.{job_inputs, placed_of}
use Rattle.ap_script.proofs.tables.write_tables.Goals as goal

-- the claims that are made, one more, and what is left
one-more : (done : List Claim) (ps left now : List PlacedInput) (p : PlacedInput) → now ≡ p ∷ left → done ++ table_claims now ≡ table_claims ps
    → (done ++ claim Elf p.table (table_text p.input p.areas) ∷ []) ++ table_claims left ≡ table_claims ps
one-more done ps left now p next all =
    append_assoc done (claim Elf p.table (table_text p.input p.areas) ∷ []) (table_claims left) ∙ ap (λ qs. done ++ table_claims qs) (sym next) ∙ all

pub returns-in_err-write_table : goal.returns-in_err-write_table
returns-in_err-write_table c =
    let inv = c.loop-i.invariant in
    let p = placed_of c.placed_input-p.result in
    let ps = placed_inputs (job_inputs c.args.job.now) c.args.lay.now in
    let left = drop (c.loop-i.i + 1) ps in
    let here : List Claim = claim Elf p.table (table_text p.input p.areas) ∷ [] in
    subst (λ (claims : List Claim). Makes c.args.block.now c.write_table.new.block claims c.from_residual.result)
    (one-more inv.0 ps left (drop c.loop-i.i ps) p c.placed_input-p.ensures.next inv.2)
    (stopped-writer (inv.0 ++ here) (table_claims left) c.args.block.now c.write_table.new.block c.write_table.result c.from_residual.result c.in_err-write_table.field-0.0
    (next-writer inv.0 here c.args.block.now c.loop-i.block c.write_table.new.block (Ok tt) c.write_table.result tt inv.1 refl c.write_table.ensures)
    c.in_err-write_table.was (search rules))

pub loop-i-preserved : goal.loop-i-preserved
loop-i-preserved c =
    let inv = c.loop-i.invariant in
    let p = placed_of c.placed_input-p.result in
    let ps = placed_inputs (job_inputs c.args.job.now) c.args.lay.now in
    let here : List Claim = claim Elf p.table (table_text p.input p.areas) ∷ [] in (
      inv.0 ++ here,
      next-writer inv.0 here c.args.block.now c.loop-i.block c.write_table.new.block (Ok tt) (Ok tt) tt inv.1 refl
          (subst (λ r. Makes c.loop-i.block c.write_table.new.block here r) c.in_ok-write_table.was c.write_table.ensures),
      one-more inv.0 ps (drop (c.loop-i.i + 1) ps) (drop c.loop-i.i ps) p c.placed_input-p.ensures.next inv.2,
    )
