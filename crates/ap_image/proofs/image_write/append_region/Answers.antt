use Rattle.std.proofs.Common.{subst, sym, Some}
use Rattle.ap_fields.specs.Bytes.{zeros}
use Rattle.ap_fields.specs.Readings.{bytes_in}
use Rattle.ap_files.specs.Appends.{Appends, write_failure}
use Rattle.ap_files.specs.declared.failure.FileFault.TheVariants.{Write}
use Rattle.ap_files.proofs.Appending.{write-failed, still-unfinished, broken, then}
use Rattle.ap_image.specs.ImageFiles.{region_bytes}
use Rattle.ap_image.proofs.image_write.append_region.Goals as goal

pub returns-in_err-append : goal.returns-in_err-append
returns-in_err-append g c =
    let old = g.F.Files.state c.args.files.now in
    let new = g.F.Files.state c.append.new.files in
    let piece = c.whole_piece-piece.result in
    write-failed (Appends old new c.args.name.now (region_bytes (bytes_in c.args.file.now) c.args.r.now)) c.from_residual.result c.from_residual.ensures.0
    (subst (λ x. Appends old new c.args.name.now x (Some Write)) (sym c.whole_piece-piece.ensures)
    (broken old new c.args.name.now piece.bytes.now (zeros piece.zeros) Write c.in_err-append.ensures))

pub append_zeros-requires : goal.append_zeros-requires
append_zeros-requires g c =
    still-unfinished (g.F.Files.state c.args.files.now) (g.F.Files.state c.append.new.files) c.args.name.now c.whole_piece-piece.result.bytes.now c.in_ok-append.ensures c.requires.name

pub returns : goal.returns
returns g c =
    let old = g.F.Files.state c.args.files.now in
    let new = g.F.Files.state c.append_zeros.new.files in
    let piece = c.whole_piece-piece.result in
    subst (λ x. Appends old new c.args.name.now x (write_failure c.append_zeros.result)) (sym c.whole_piece-piece.ensures)
    (then old (g.F.Files.state c.append.new.files) new c.args.name.now piece.bytes.now (zeros piece.zeros) (write_failure c.append_zeros.result) c.in_ok-append.ensures c.append_zeros.ensures)
