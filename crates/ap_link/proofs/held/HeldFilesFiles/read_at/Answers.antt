use Rattle.std.proofs.Common.{length}
use Rattle.std.specs.Option.{option_copied}
use Rattle.ap_link.specs.Held.{held_out}
use Rattle.ap_link.proofs.HeldLemmas.{held-there, held-ranged, held-read}
use Rattle.ap_link.proofs.held.HeldFilesFiles.read_at.Goals as goal

pub unreachable-requires : goal.unreachable-requires
unreachable-requires c = held-there c.args.self.now.first.now (option_copied c.args.self.now.second) (held_out c.args.self.now.is_made c.args.self.now.out.items) c.args.name.now c.args.at (length c.args.buf.now) c.requires c.in_default.ensures

pub copy_part-requires : goal.copy_part-requires
copy_part-requires c = held-ranged c.args.self.now.first.now (option_copied c.args.self.now.second) (held_out c.args.self.now.is_made c.args.self.now.out.items) c.args.name.now c.args.at (length c.args.buf.now) c.in-Some.bytes.now c.requires c.in-Some.ensures

pub returns : goal.returns
returns c = held-read c.args.self.now.first.now (option_copied c.args.self.now.second) c.args.self.now.out.items c.args.self.now.is_made c.args.self.now.is_open c.args.name.now c.in-Some.bytes.now c.args.at c.args.buf.now c.copy_part.new.buf c.in-Some.ensures c.copy_part.ensures
