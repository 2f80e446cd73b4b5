use Rattle.std.proofs.Common.{rules, None, Some, ◌++◌}
use Rattle.ap_fields.specs.Bytes.{zeros}
use Rattle.ap_fields.specs.Readings.{bytes_in}
use Rattle.ap_files.specs.Files.{told_bytes}
use Rattle.ap_files.specs.Appends.{Appends}
use Rattle.ap_files.specs.declared.failure.FileFault.TheVariants.{Write}
use Rattle.ap_files.proofs.Appending.{transfer-failed, still-unfinished, range-still}
use Rattle.ap_layout.specs.Areas.{content_of}
use Rattle.ap_link.proofs.Writing.{front-fails, part-fails, area-ends}
use Rattle.ap_link.proofs.areas.write_area.Goals as goal

pub returns-in-Err : goal.returns-in-Err
returns-in-Err g c =
    front-fails (g.F.Files.state c.args.files.now) (g.F.Files.state c.append.new.files) c.args.input.now c.args.out.now c.args.granule c.args.gap c.args.p.now Write c.requires.granule c.requires.gap c.in-Err.ensures

pub copy-requires-clause-out : goal.copy-requires-clause-out
copy-requires-clause-out g c =
    still-unfinished (g.F.Files.state c.args.files.now) (g.F.Files.state c.append.new.files) c.args.out.now _ c.in_default.ensures c.requires.out

pub copy-requires-clause-range : goal.copy-requires-clause-range
copy-requires-clause-range g c =
    range-still (g.F.Files.state c.args.files.now) (g.F.Files.state c.append.new.files) c.args.input.now c.args.out.now _ c.args.p.now.offset c.args.p.now.filesz c.requires.apart c.in_default.ensures c.requires.range

pub returns-in_err-copy : goal.returns-in_err-copy
returns-in_err-copy g c =
    let old = g.F.Files.state c.args.files.now in
    let new = g.F.Files.state c.copy.new.files in
    transfer-failed (Appends old new c.args.out.now (zeros c.args.gap ++ content_of c.args.granule (bytes_in (told_bytes old.kept c.args.input.now)) c.args.p.now))
    c.from_residual.result c.in_err-copy.field-0.0 (search rules)
    (part-fails old (g.F.Files.state c.append.new.files) new c.args.input.now c.args.out.now c.args.granule c.args.gap c.args.p.now c.in_err-copy.field-0.0 c.requires.granule c.requires.gap c.requires.apart c.in_default.ensures c.in_err-copy.ensures)

pub append-requires-2 : goal.append-requires-2
append-requires-2 g c =
    still-unfinished (g.F.Files.state c.append.new.files) (g.F.Files.state c.copy.new.files) c.args.out.now _ c.in_ok-copy.ensures
    (still-unfinished (g.F.Files.state c.args.files.now) (g.F.Files.state c.append.new.files) c.args.out.now _ c.in_default.ensures c.requires.out)

pub returns-in-Ok : goal.returns-in-Ok
returns-in-Ok g c =
    area-ends (g.F.Files.state c.args.files.now) (g.F.Files.state c.append.new.files) (g.F.Files.state c.copy.new.files) (g.F.Files.state c.append-2.new.files) c.args.input.now c.args.out.now c.args.granule c.args.gap
    c.ceil_to.result c.args.p.now None c.requires.granule c.requires.gap c.ceil_to.ensures c.requires.apart c.in_default.ensures c.in_ok-copy.ensures c.in-Ok.ensures

pub returns-in-Err-append : goal.returns-in-Err-append
returns-in-Err-append g c =
    area-ends (g.F.Files.state c.args.files.now) (g.F.Files.state c.append.new.files) (g.F.Files.state c.copy.new.files) (g.F.Files.state c.append-2.new.files) c.args.input.now c.args.out.now c.args.granule c.args.gap
    c.ceil_to.result c.args.p.now (Some Write) c.requires.granule c.requires.gap c.ceil_to.ensures c.requires.apart c.in_default.ensures c.in_ok-copy.ensures c.in-Err-append.ensures
