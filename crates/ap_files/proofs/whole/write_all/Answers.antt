use Rattle.ap_files.specs.Appends.{Makes}
use Rattle.ap_files.specs.declared.failure.FileFault.TheVariants.{Write}
use Rattle.ap_files.proofs.Appending.{started-unfinished, part-made, write-failed, made, still-unfinished}
use Rattle.ap_files.proofs.whole.write_all.Goals as goal

pub append-requires : goal.append-requires
append-requires g c = started-unfinished (g.F.Files.state c.args.files.now) (g.F.Files.state c.start.new.self) c.args.name.now c.in_ok-start.ensures

pub returns-in_err-append : goal.returns-in_err-append
returns-in_err-append g c =
    let old = g.F.Files.state c.args.files.now in
    let new = g.F.Files.state c.append.new.files in
    write-failed (Makes old new c.args.name.now c.args.bytes.now) c.from_residual-in_err-append.result c.from_residual-in_err-append.ensures.0
    (part-made old (g.F.Files.state c.start.new.self) new c.args.name.now c.args.bytes.now Write c.in_ok-start.ensures c.in_err-append.ensures)

pub finish-requires : goal.finish-requires
finish-requires g c =
    still-unfinished (g.F.Files.state c.start.new.self) (g.F.Files.state c.append.new.files) c.args.name.now c.args.bytes.now c.in_ok-append.ensures
    (started-unfinished (g.F.Files.state c.args.files.now) (g.F.Files.state c.start.new.self) c.args.name.now c.in_ok-start.ensures)

pub returns : goal.returns
returns g c =
    made (g.F.Files.state c.args.files.now) (g.F.Files.state c.start.new.self) (g.F.Files.state c.append.new.files) (g.F.Files.state c.finish.new.self)
    c.args.name.now c.args.bytes.now c.finish.result c.in_ok-start.ensures c.in_ok-append.ensures c.finish.ensures
