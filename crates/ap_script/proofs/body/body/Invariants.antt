use Rattle.std.proofs.Common.{◌≡◌, ◌+◌, ◌*◌, ◌≤◌, ◌++◌, length, drop}
use Rattle.ap_fields.specs.Bytes.{zeros}
use Rattle.ap_layout.specs.declared.sizes.TheConstants.{MOST_HEADERS, MOST_TABLE}
use Rattle.ap_layout.specs.Positions.{placed_inputs}
use Rattle.ap_pe.specs.Linked.{pe_text}
use Rattle.ap_script.specs.Blocks.{tables_text}
use Rattle.ap_layout.specs.Jobs.{job_inputs}
use Rattle.ap_script.proofs.body.body.Given as goal

-- what is left are the tables of the inputs that are left
abbrev pub invariant-loop-i : goal.invariant-loop-i
invariant-loop-i l =
    let ps = placed_inputs (job_inputs l.job) l.lay in
    record {
      items : l.body.items ++ tables_text (drop l.i ps) ≡ zeros 10 ++ (pe_text l.job.options (job_inputs l.job) l.lay ++ tables_text ps);
      room : length l.body.items ≤ 10 + MOST_HEADERS + MOST_TABLE * l.i;
    }
