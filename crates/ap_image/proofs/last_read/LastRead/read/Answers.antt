use Rattle.std.proofs.Common.{◌<◌, ◌≤◌, ℕ, take, length, replicate, arith}
use Rattle.ap_files.proofs.ReadLemmas.{same_state, told_of}
use Rattle.ap_image.proofs.LastReadLemmas.{first-byte, room-part}
use Rattle.ap_image.proofs.last_read.LastRead.read.Goals as goal

pub returns-clause-read : goal.returns-clause-read
returns-clause-read g c =
    let read = c.in_ok-read_at.ensures in
    let n = c.min-count.result in
    let some : 0 < n = omega (arith, c.min-count.ensures) in
    let least : n ≤ 512 = omega (arith, c.min-count.ensures) in (
      same_state (g.F.Files.state c.args.files.now) (g.F.Files.state c.read_at.new.self) read.files read.ok,
      λ m file told at.
          let size = told_of (g.F.Files.state c.args.files.now).kept c.args.name.now m file c.requires.size told at in
          let within : c.args.at < length file = omega arith in
          first-byte file c.read_at.new.buf _ (length (take n (replicate {A = ℕ} 512 0))) c.args.at (room-part n 512 some least) within (read.bytes m file told at),
    )
