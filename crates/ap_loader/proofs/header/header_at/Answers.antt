use Rattle.std.proofs.Common.{sym, ap, ◌∙◌, cond, Some, None}
use Rattle.ap_elf.specs.Machines.{number_of}
use Rattle.ap_loader.proofs.HeaderLemmas.{header_at-embeds, header_at-nothing}
use Rattle.ap_loader.proofs.header.header_at.Goals as goal

pub returns-in_err-decoded : goal.returns-in_err-decoded
returns-in_err-decoded c = c.from_residual.ensures ∙ sym (header_at-nothing (number_of c.args.machine) c.args.file.now c.args.at c.requires c.in_err-decoded.ensures)

pub returns-then-is_header_for : goal.returns-then-is_header_for
returns-then-is_header_for c =
    let d = c.in_ok-decoded.decoded in
    let told = c.in_ok-decoded.ensures in
    sym (header_at-embeds (number_of c.args.machine) c.args.file.now c.args.at d.end told.bytes d.first c.requires told.embeds told.first
    ∙ ap (λ b. cond b (Some d.first) None) (sym c.is_header_for.ensures ∙ c.if-is_header_for.true))

pub returns-else-is_header_for : goal.returns-else-is_header_for
returns-else-is_header_for c =
    let d = c.in_ok-decoded.decoded in
    let told = c.in_ok-decoded.ensures in
    sym (header_at-embeds (number_of c.args.machine) c.args.file.now c.args.at d.end told.bytes d.first c.requires told.embeds told.first
    ∙ ap (λ b. cond b (Some d.first) None) (sym c.is_header_for.ensures ∙ c.if-is_header_for.false))
