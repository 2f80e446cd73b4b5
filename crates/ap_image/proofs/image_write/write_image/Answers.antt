use Rattle.ap_fields.specs.Readings.{bytes_in}
use Rattle.ap_files.specs.Appends.{Makes}
use Rattle.ap_files.specs.declared.failure.FileFault.TheVariants.{Write}
use Rattle.ap_files.proofs.Appending.{started-unfinished, part-made, write-failed, made, still-unfinished}
use Rattle.ap_image.specs.ImageFiles.{image_file}
use Rattle.ap_image.proofs.image_write.write_image.Goals as goal

pub append_image-requires-clause-name : goal.append_image-requires-clause-name
append_image-requires-clause-name g c = started-unfinished (g.F.Files.state c.args.files.now) (g.F.Files.state c.start.new.self) c.args.name.now c.in_ok-start.ensures

pub returns-in_err-append_image : goal.returns-in_err-append_image
returns-in_err-append_image g c =
    let old = g.F.Files.state c.args.files.now in
    let new = g.F.Files.state c.append_image.new.files in
    let image = c.args.image.now in
    let text = image_file (bytes_in image.file) image.plan in
    write-failed (Makes old new c.args.name.now text) c.from_residual-in_err-append_image.result c.from_residual-in_err-append_image.ensures.0
    (part-made old (g.F.Files.state c.start.new.self) new c.args.name.now text Write c.in_ok-start.ensures c.in_err-append_image.ensures)

pub finish-requires : goal.finish-requires
finish-requires g c =
    let image = c.args.image.now in
    still-unfinished (g.F.Files.state c.start.new.self) (g.F.Files.state c.append_image.new.files) c.args.name.now (image_file (bytes_in image.file) image.plan) c.in_ok-append_image.ensures
    (started-unfinished (g.F.Files.state c.args.files.now) (g.F.Files.state c.start.new.self) c.args.name.now c.in_ok-start.ensures)

pub returns : goal.returns
returns g c =
    let image = c.args.image.now in
    made (g.F.Files.state c.args.files.now) (g.F.Files.state c.start.new.self) (g.F.Files.state c.append_image.new.files) (g.F.Files.state c.finish.new.self)
    c.args.name.now (image_file (bytes_in image.file) image.plan) c.finish.result c.in_ok-start.ensures c.in_ok-append_image.ensures c.finish.ensures
