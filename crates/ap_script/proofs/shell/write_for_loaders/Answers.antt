use Rattle.std.proofs.Common.{rules, ◌++◌}
use Rattle.ap_claims.specs.declared.owner.Owner.TheVariants.{Ape}
use Rattle.ap_claims.proofs.Writers.{next-claim, stopped-writer, next-writer}
use Rattle.ap_script.specs.Blocks as spec
use Rattle.ap_claims.specs.Lists.{claim}
use Rattle.ap_script.specs.Claims.{statement_claims}
use Rattle.ap_script.proofs.shell.write_for_loaders.Goals as goal

pub returns-in_err-write_statement : goal.returns-in_err-write_statement
returns-in_err-write_statement c =
    let x64 = statement_claims c.args.x64.now.header c.args.x64.now.place in
    let a64 = statement_claims c.args.a64.now.header c.args.a64.now.place in
    next-claim (claim Ape 0 (spec.magic c.args.options.now)) (x64 ++ a64) c.args.block.now c.claim.new.self c.write_statement.new.block c.magic.result.now c.claim.result c.from_residual-in_err-write_statement.result
    c.in_ok-claim.field-0 c.magic.ensures.text c.claim.ensures c.in_ok-claim.was
    (stopped-writer x64 a64 c.claim.new.self c.write_statement.new.block c.write_statement.result c.from_residual-in_err-write_statement.result
    c.in_err-write_statement.field-0.0 c.write_statement.ensures c.in_err-write_statement.was (search rules))

pub returns : goal.returns
returns c =
    let x64 = statement_claims c.args.x64.now.header c.args.x64.now.place in
    let a64 = statement_claims c.args.a64.now.header c.args.a64.now.place in
    next-claim (claim Ape 0 (spec.magic c.args.options.now)) (x64 ++ a64) c.args.block.now c.claim.new.self c.write_statement-2.new.block c.magic.result.now c.claim.result c.write_statement-2.result
    c.in_ok-claim.field-0 c.magic.ensures.text c.claim.ensures c.in_ok-claim.was
    (next-writer x64 a64 c.claim.new.self c.write_statement.new.block c.write_statement-2.new.block c.write_statement.result c.write_statement-2.result
    c.in_ok-write_statement.field-0 c.write_statement.ensures c.in_ok-write_statement.was c.write_statement-2.ensures)
