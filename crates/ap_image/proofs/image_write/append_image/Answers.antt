use Rattle.std.proofs.Common.{subst, sym, ap, ◌∙◌, length, flat_map}
use Rattle.ap_fields.specs.Readings.{bytes_in}
use Rattle.ap_files.specs.Appends.{Appends, write_failure}
use Rattle.ap_files.specs.declared.failure.FileFault.TheVariants.{Write}
use Rattle.ap_files.proofs.Appending.{write-failed, still-unfinished}
use Rattle.ap_image.specs.Plans.{Mapping, AreAscendingFrom, AreBacked}
use Rattle.ap_image.specs.ImageFiles.{region_bytes, image_file}
use Rattle.ap_image.proofs.ImageWriting.{front-stop, image-then}
use Rattle.ap_image.proofs.image_write.append_image.Goals as goal

pub returns-in_err-append : goal.returns-in_err-append
returns-in_err-append g c =
    let old = g.F.Files.state c.args.files.now in
    let new = g.F.Files.state c.append.new.files in
    let image = c.args.image.now in
    write-failed (Appends old new c.args.name.now (image_file (bytes_in image.file) image.plan)) c.from_residual.result c.from_residual.ensures.0
    (front-stop old new c.args.name.now c.args.front.now (bytes_in image.file) image.plan Write c.requires.front c.in_err-append.ensures)

pub append_regions-requires-clause-backed : goal.append_regions-requires-clause-backed
append_regions-requires-clause-backed g c =
    let same = c.as_slice.ensures.value ∙ ap (λ (m : Mapping). m.regions) (c.behind-image.view_is ∙ c.plan.ensures) in
    subst (λ rs. AreBacked rs (length c.file.result.now)) (sym same) c.file.ensures.backed

pub append_regions-requires-clause-name : goal.append_regions-requires-clause-name
append_regions-requires-clause-name g c =
    still-unfinished (g.F.Files.state c.args.files.now) (g.F.Files.state c.append.new.files) c.args.name.now c.args.front.now c.in_ok-append.ensures c.requires.name

pub returns : goal.returns
returns g c =
    let old = g.F.Files.state c.args.files.now in
    let new = g.F.Files.state c.append_regions.new.files in
    let image = c.args.image.now in
    let rs = c.as_slice.result.now in
    let same = c.as_slice.ensures.value ∙ ap (λ (m : Mapping). m.regions) (c.behind-image.view_is ∙ c.plan.ensures) in
    image-then old (g.F.Files.state c.append.new.files) new c.args.name.now c.args.front.now (bytes_in image.file) image.plan rs (write_failure c.append_regions.result) c.requires.front
    (subst (AreAscendingFrom 0) (sym c.as_slice.ensures.value) c.behind-image.invariant) same c.in_ok-append.ensures
    (subst (λ b. Appends (g.F.Files.state c.append.new.files) new c.args.name.now (flat_map (region_bytes (bytes_in b)) rs) (write_failure c.append_regions.result)) c.file.ensures.file c.append_regions.ensures)
