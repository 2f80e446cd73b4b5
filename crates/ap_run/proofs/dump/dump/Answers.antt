use Rattle.std.proofs.Common.{subst, Ok, Err}
use Rattle.ap_run.specs.Shows.{Printed}
use Rattle.ap_run.specs.Dumps.{dumped_as, MakesParts}
use Rattle.ap_run.proofs.Dumping.{dump-unread, dump-refused, dumped-parts, dump-printed, dump-unwritten}
use Rattle.ap_run.proofs.dump.dump.Goals as goal

pub returns-in-Err : goal.returns-in-Err
returns-in-Err g c =
    dump-unread (g.F.Files.state c.args.files.now) (g.F.Files.state c.fetch.new.files) (g.O.Sink.state c.args.out.now) c.args.format.now c.args.name.now c.args.image.now c.in-Err.cause c.in-Err.ensures

pub returns-in-Err-parts_of : goal.returns-in-Err-parts_of
returns-in-Err-parts_of g c =
    dump-refused (g.F.Files.state c.args.files.now) (g.F.Files.state c.fetch.new.files) (g.O.Sink.state c.args.out.now) c.args.format.now c.args.name.now c.args.image.now c.in-Ok.file c.in-Err-parts_of.cause
    c.in-Ok.ensures (subst (λ b. MakesParts c.args.format.now b (Err c.in-Err-parts_of.cause)) c.deref.ensures.value c.in-Err-parts_of.ensures)

pub returns-in-Ok-write_image : goal.returns-in-Ok-write_image
returns-in-Ok-write_image g c =
    let old = g.F.Files.state c.args.files.now in
    let mid = g.F.Files.state c.fetch.new.files in
    let before = g.O.Sink.state c.args.out.now in
    let after = g.O.Sink.state c.print_text.new.out in
    let format = c.args.format.now in
    let parts = c.in-Ok-parts_of.parts in
    dump-printed old mid (g.F.Files.state c.write_image.new.files) before after format c.args.name.now c.args.image.now (dumped_as parts) c.print_text.result
    (dumped-parts old mid format c.args.name.now c.in-Ok.file parts c.in-Ok.ensures (subst (λ b. MakesParts format b (Ok parts)) c.deref.ensures.value c.in-Ok-parts_of.ensures))
    c.in-Ok-write_image.ensures (subst (λ text. Printed before after text c.print_text.result) c.deref-in-Ok-write_image.ensures.value c.print_text.ensures)

pub returns : goal.returns
returns g c =
    let old = g.F.Files.state c.args.files.now in
    let mid = g.F.Files.state c.fetch.new.files in
    let format = c.args.format.now in
    let parts = c.in-Ok-parts_of.parts in
    dump-unwritten old mid (g.F.Files.state c.write_image.new.files) (g.O.Sink.state c.args.out.now) format c.args.name.now c.args.image.now (dumped_as parts)
    (dumped-parts old mid format c.args.name.now c.in-Ok.file parts c.in-Ok.ensures (subst (λ b. MakesParts format b (Ok parts)) c.deref.ensures.value c.in-Ok-parts_of.ensures))
    c.in-Err-write_image.ensures
