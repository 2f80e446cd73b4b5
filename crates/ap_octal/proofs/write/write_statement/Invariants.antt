use Rattle.std.proofs.Common.{◌≡◌, ◌+◌, ◌≤◌, ◌++◌, ◌*◌, length, take}
use Rattle.std.specs.Prelude.{codes}
use Rattle.ap_fields.specs.Fields.{patched}
use Rattle.ap_octal.specs.Statement.{octals_of}
use Rattle.ap_octal.proofs.write.write_statement.Given as goal

abbrev pub invariant-loop-byte : goal.invariant-loop-byte
invariant-loop-byte l =
    let text = codes "printf '" ++ octals_of (take l.byte-index l.header) in
    record {
      header : length l.header ≡ 64;
      end : l.end ≡ l.at + length text;
      written : l.out ≡ patched l.fn.out l.at text;
      short : length text ≤ 8 + 4 * l.byte-index;
    }
