use Rattle.std.proofs.Common.{subst, Some}
use Rattle.ap_files.specs.Appends.{IsMade, Makes}
use Rattle.ap_files.specs.declared.failure.FileFault.TheVariants.{Write}
use Rattle.ap_run.specs.Assimilates.{Assimilated}
use Rattle.ap_run.proofs.Writing.{write-made, write-broken}
use Rattle.ap_run.proofs.assimilate.assimilate.Goals as goal

-- src/assimilate.rt:31:1
pub returns-in-Ok-write_all : goal.returns-in-Ok-write_all
returns-in-Ok-write_all g c =
    let mid = g.F.Files.state c.bytes_of.new.files in
    let new = g.F.Files.state c.write_all.new.files in
    write-made (g.F.Files.state c.args.files.now) mid new (Assimilated c.args.form c.args.machine) c.args.name.now c.args.out.now c.in-Ok.bytes c.in-Ok.ensures
    (subst (IsMade mid new c.args.out.now) c.deref.ensures.value c.in-Ok-write_all.ensures)

-- src/assimilate.rt:31:1
pub returns-in-Ok : goal.returns-in-Ok
returns-in-Ok g c =
    let mid = g.F.Files.state c.bytes_of.new.files in
    let new = g.F.Files.state c.write_all.new.files in
    write-broken (g.F.Files.state c.args.files.now) mid new (Assimilated c.args.form c.args.machine) c.args.name.now c.args.out.now c.in-Ok.bytes c.in-Ok.ensures
    (subst (λ bytes. Makes mid new c.args.out.now bytes (Some Write)) c.deref.ensures.value c.in-Err-write_all.ensures)
