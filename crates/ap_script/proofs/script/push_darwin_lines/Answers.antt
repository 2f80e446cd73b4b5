use Rattle.std.proofs.Common.{◌≡◌, [], ◌++◌, cond, sym, append-nil}
use Rattle.std.specs.Prelude.{codes}
use Rattle.ap_script.specs.Script.{darwin_x64_lines, darwin_lines}
use Rattle.ap_script.proofs.Endings.{three-pieces}
use Rattle.ap_script.proofs.script.push_darwin_lines.Goals as goal
use Rattle.ap_script.proofs.script.push_darwin_lines.Goals.{then-x64, else-x64}

pub returns-clause-items : goal.returns-clause-items
unfolding darwin_lines
returns-clause-items c =
    let x64_lines = cond c.args.x64 (darwin_x64_lines c.args.skip c.args.count) [] in
    let second : c.if-x64.out.items ≡ c.push_text.new.out.items ++ x64_lines = elim c.if-x64.branch [
      | then-x64 w ↦ rw (w.if-x64.true, w.out-is) w.push_darwin_x64.ensures.items
      | else-x64 w ↦ rw (w.if-x64.false, w.out-is) (sym (append-nil c.push_text.new.out.items))
    ] in
    three-pieces c.args.out.now.items c.push_text.new.out.items c.if-x64.out.items c.push_text-2.new.out.items
    (codes "if [ \"$s\" = Darwin ]; then\n") x64_lines (codes "exit 125\nfi\n") c.push_text.ensures second c.push_text-2.ensures
