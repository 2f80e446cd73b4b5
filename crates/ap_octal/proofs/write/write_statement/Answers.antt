use Rattle.std.proofs.Common.{ℕ, List, ◌<◌, length, get_or, arith}
use Rattle.std.specs.Prelude.{codes}
use Rattle.ap_octal.proofs.OctalLemmas.{octal-bytes}
use Rattle.ap_octal.proofs.WriteLemmas.{length-octal_of, length-begun_more, written-more, written-all, length-written}
use Rattle.ap_octal.proofs.write.write_statement.Goals as goal

pub loop-byte-preserved : goal.loop-byte-preserved
loop-byte-preserved c =
    let i = c.loop-byte.invariant in
    let opening = codes "printf '" in
    let h : List ℕ = c.args.header.now in
    let at = c.loop-byte.byte-index in
    let within : at < length h = omega arith in
    let more = length-begun_more opening h at within in
    let four = length-octal_of (get_or h at 0) in
    record {
      header = i.header;
      end = omega arith;
      written = written-more c.args.out.now c.loop-byte.out c.put_octal-end.new.out opening h c.args.at c.loop-byte.end at within (omega arith) i.written i.end c.put_octal-end.ensures.text;
      short = omega arith;
    }

pub returns-clause-count : goal.returns-clause-count
returns-clause-count c =
    let e = length-written c.args.header.now c.args.at c.put_text.result c.loop-byte.byte-index (omega arith) (omega arith) in omega arith

pub returns-clause-text : goal.returns-clause-text
returns-clause-text c =
    written-all c.args.out.now c.loop-byte.out c.put_text.new.out c.args.header.now c.args.at c.loop-byte.end c.loop-byte.byte-index (omega arith) (omega arith)
    c.loop-byte.invariant.written c.loop-byte.invariant.end c.put_text.ensures.text

pub returns-clause-octal : goal.returns-clause-octal
returns-clause-octal c = octal-bytes c.args.header.now c.fits-header
