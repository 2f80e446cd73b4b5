use Rattle.std.proofs.Common.{arith}
use Rattle.ap_elf.specs.Machines.{number_of}
use Rattle.ap_files.proofs.ReadLemmas.{reads-after, same_state, told_of}
use Rattle.ap_elfmap.proofs.Named.{own-named}
use Rattle.ap_elfmap.proofs.reading.ElfReading.read_in.Goals as goal

pub returns-clause-read : goal.returns-clause-read
returns-clause-read g c =
    let old = g.F.Files.state c.args.files.now in
    let mid = g.F.Files.state c.read_at.new.self in
    let r = c.args.self.now in
    reads-after old mid (g.F.Files.state c.read_with_in.new.files) c.args.name.now _ _ c.read_with_in.result (same_state old mid c.in_ok-read_at.ensures.files c.in_ok-read_at.ensures.ok)
    (λ m b told at plan h.
    let size = told_of old.kept c.args.name.now m b c.requires.size told at in
    own-named (number_of r.machine) r.page c.read_at.new.buf b plan (c.in_ok-read_at.ensures.bytes m b told at) (omega arith) h) c.read_with_in.ensures.read
