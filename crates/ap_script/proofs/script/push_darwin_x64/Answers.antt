use Rattle.std.specs.Prelude.{codes}
use Rattle.ap_script.specs.Script.{dd_line, darwin_x64_lines}
use Rattle.ap_script.proofs.Endings.{three-pieces}
use Rattle.ap_script.proofs.script.push_darwin_x64.Goals as goal

pub returns-clause-items : goal.returns-clause-items
unfolding darwin_x64_lines
returns-clause-items c =
    three-pieces c.args.out.now.items c.push_text.new.out.items c.push_dd_line.new.out.items c.push_text-2.new.out.items
    (codes "if [ \"$m\" = x86_64 ]; then\ncp \"$0\" \"$t\" || exit 121\nchmod 700 \"$t\" || exit 122\n") (dd_line c.args.skip c.args.count) (codes "exec \"$t\" \"$@\"\nfi\n")
    c.push_text.ensures c.push_dd_line.ensures.items c.push_text-2.ensures
