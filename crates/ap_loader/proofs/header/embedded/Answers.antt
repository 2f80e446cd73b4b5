use Rattle.std.proofs.Common.{sym, ◌∙◌, arith}
use Rattle.ap_elf.specs.Machines.{number_of}
use Rattle.ap_loader.proofs.HeaderLemmas.{taken-no_magic, taken-some, taken-none, none-before, none-more, none-all, opens-within}
use Rattle.ap_loader.proofs.header.embedded.Goals as goal

pub returns-then-not-has_magic : goal.returns-then-not-has_magic
returns-then-not-has_magic c = sym (taken-no_magic (number_of c.args.machine) c.args.file.now (sym c.has_magic.ensures ∙ c.if-not-has_magic.true))

pub returns-in-Some-header_at : goal.returns-in-Some-header_at
returns-in-Some-header_at c =
    let m = number_of c.args.machine in
    let file = c.args.file.now in
    let at = c.in-Some.at in
    let found = c.in-Some.ensures in
    sym (taken-some m file c.in-Some-header_at.header at (sym c.has_magic.ensures ∙ c.if-not-has_magic.false) (opens-within file at found.1)
    (sym c.header_at.ensures ∙ c.in-Some-header_at.is) (none-before m file c.loop-at.from at c.loop-at.invariant.none found.0.before))

pub loop-at-preserved : goal.loop-at-preserved
loop-at-preserved c =
    let found = c.in-Some.ensures in
    let within = found.1.within in
    record {
      within = omega arith;
      none = none-more (number_of c.args.machine) c.args.file.now c.loop-at.from c.in-Some.at c.loop-at.invariant.none found.0.before
          (sym c.header_at.ensures ∙ c.in_default-header_at.is);
    }

pub returns : goal.returns
returns c =
    sym (taken-none (number_of c.args.machine) c.args.file.now (sym c.has_magic.ensures ∙ c.if-not-has_magic.false)
    (none-all (number_of c.args.machine) c.args.file.now c.loop-at.from c.loop-at.invariant.none c.in_default.ensures))
