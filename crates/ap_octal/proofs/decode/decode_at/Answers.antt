use Rattle.std.proofs.Common.{arith}
use Rattle.ap_octal.proofs.EmbedLemmas.{embeds-none}
use Rattle.ap_octal.proofs.decode.decode_at.Goals as goal

pub returns-then-count-lt-HEADER_SIZE : goal.returns-then-count-lt-HEADER_SIZE
returns-then-count-lt-HEADER_SIZE c end bytes embeds =
    let octal = c.in_ok-first.ensures in
    embeds-none c.args.file.now c.args.at c.in_ok-end.end end octal.bytes bytes c.in_ok-end.ensures octal.octal (omega (arith, octal.count)) embeds
