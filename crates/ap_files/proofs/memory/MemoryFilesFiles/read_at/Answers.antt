use Rattle.std.proofs.Common.{ap, length}
use Rattle.ap_files.specs.Memory.{Memory}
use Rattle.ap_files.proofs.MemoryLemmas.{ranged, not_missing}
use Rattle.ap_files.proofs.memory.MemoryFilesFiles.read_at.Goals as goal

pub unreachable-requires : goal.unreachable-requires
unreachable-requires c =
    not_missing c.args.self.now.stored.files c.self.inside.store.files c.args.name.now c.args.at (length c.args.buf.now) (ap (λ (m : Memory). m.stored.files) c.self.view_is) c.requires
    c.in_default.ensures

pub copy_part-requires : goal.copy_part-requires
copy_part-requires c =
    ranged c.args.self.now.stored.files c.self.inside.store.files c.args.name.now c.args.at (length c.args.buf.now) c.in-Some.bytes.now (ap (λ (m : Memory). m.stored.files) c.self.view_is) c.requires
    c.in-Some.ensures
