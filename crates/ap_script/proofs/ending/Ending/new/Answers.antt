use Rattle.std.proofs.Common.{◌/◌, length, ap, sym, arith}
use Rattle.ap_elf.specs.declared.machine.Machine.TheVariants.{X64, A64}
use Rattle.ap_layout.specs.Positions.{placed_inputs}
use Rattle.ap_layout.specs.Jobs.{job_inputs}
use Rattle.ap_script.specs.Script.{machine_lines, header_for}
use Rattle.ap_script.proofs.Endings.{place-room, script-behind, ending-short, ending-made, ending-long, lines-are}
use Rattle.ap_script.proofs.ending.Ending.new.Goals as goal

pub push_spaces-requires-clause-short : goal.push_spaces-requires-clause-short
push_spaces-requires-clause-short c =
    ending-short c.args.job.now.options (job_inputs c.args.job.now) c.args.lay.now c.lay.inside.body_end c.push_script-places.new.out.items c.requires.fits (ap (λ l. l.body_end) (sym c.lay.view_is))
    (script-behind c.args.job.now.options (job_inputs c.args.job.now) c.args.lay.now c.args.number (c.lay.inside.mach_at / 8) (c.lay.inside.mach_len / 8) c.machine_header-x64.result c.machine_header-a64.result _ _ _
    c.requires.number c.machine_header-x64.ensures c.machine_header-a64.ensures (ap (λ l. l.mach_at / 8) c.lay.view_is) (ap (λ l. l.mach_len / 8) c.lay.view_is) c.new-text.ensures c.push_closing.ensures.items c.push_script-places.ensures.items)

pub overflow_add-result : goal.overflow_add-result
overflow_add-result c =
    let room = place-room c.args.job.now.options (job_inputs c.args.job.now) c.args.lay.now X64 c.requires.fits in
    let at = ap (λ l. l.body_end) (sym c.lay.view_is) in
    let lines = lines-are c.args.job.now.options.systems c.machine_header-x64.result (header_for X64 (placed_inputs (job_inputs c.args.job.now) c.args.lay.now)) (c.lay.inside.mach_at / 8) (c.args.lay.now.mach_at / 8)
    (c.lay.inside.mach_len / 8) (c.args.lay.now.mach_len / 8) c.machine_header-x64.ensures (ap (λ l. l.mach_at / 8) c.lay.view_is) (ap (λ l. l.mach_len / 8) c.lay.view_is) in
    let place = c.push_script-places.ensures.x64 in
    let line = c.push_closing.ensures.len in
    let none = ap length c.new-text.ensures in
    omega arith

pub overflow_add-result-2 : goal.overflow_add-result-2
overflow_add-result-2 c =
    let room = place-room c.args.job.now.options (job_inputs c.args.job.now) c.args.lay.now A64 c.requires.fits in
    let at = ap (λ l. l.body_end) (sym c.lay.view_is) in
    let lines = lines-are c.args.job.now.options.systems c.machine_header-x64.result (header_for X64 (placed_inputs (job_inputs c.args.job.now) c.args.lay.now)) (c.lay.inside.mach_at / 8) (c.args.lay.now.mach_at / 8)
    (c.lay.inside.mach_len / 8) (c.args.lay.now.mach_len / 8) c.machine_header-x64.ensures (ap (λ l. l.mach_at / 8) c.lay.view_is) (ap (λ l. l.mach_len / 8) c.lay.view_is) in
    let place = c.push_script-places.ensures.a64 in
    let line = c.push_closing.ensures.len in
    let none = ap length c.new-text.ensures in
    let before = ap (λ o. length (machine_lines X64 o)) c.machine_header-x64.ensures in
    omega arith

pub returns-clause-text : goal.returns-clause-text
returns-clause-text c =
    ending-made c.args.job.now.options (job_inputs c.args.job.now) c.args.lay.now c.lay.inside.body_end c.push_script-places.new.out.items c.push_spaces.new.text.items c.requires.fits (ap (λ l. l.body_end) (sym c.lay.view_is))
    (script-behind c.args.job.now.options (job_inputs c.args.job.now) c.args.lay.now c.args.number (c.lay.inside.mach_at / 8) (c.lay.inside.mach_len / 8) c.machine_header-x64.result c.machine_header-a64.result _ _ _
    c.requires.number c.machine_header-x64.ensures c.machine_header-a64.ensures (ap (λ l. l.mach_at / 8) c.lay.view_is) (ap (λ l. l.mach_len / 8) c.lay.view_is) c.new-text.ensures c.push_closing.ensures.items c.push_script-places.ensures.items)
    c.push_spaces.ensures

pub returns-clause-len : goal.returns-clause-len
returns-clause-len c =
    let text = returns-clause-text c in
    let size = ap length text in
    let long = ending-long c.args.job.now.options (job_inputs c.args.job.now) c.args.lay.now c.requires.fits in
    omega arith

pub returns-clause-x64_room : goal.returns-clause-x64_room
returns-clause-x64_room c =
    let room = place-room c.args.job.now.options (job_inputs c.args.job.now) c.args.lay.now X64 c.requires.fits in
    let at = ap (λ l. l.body_end) (sym c.lay.view_is) in
    let lines = lines-are c.args.job.now.options.systems c.machine_header-x64.result (header_for X64 (placed_inputs (job_inputs c.args.job.now) c.args.lay.now)) (c.lay.inside.mach_at / 8) (c.args.lay.now.mach_at / 8)
    (c.lay.inside.mach_len / 8) (c.args.lay.now.mach_len / 8) c.machine_header-x64.ensures (ap (λ l. l.mach_at / 8) c.lay.view_is) (ap (λ l. l.mach_len / 8) c.lay.view_is) in
    let place = c.push_script-places.ensures.x64 in
    let line = c.push_closing.ensures.len in
    let none = ap length c.new-text.ensures in
    omega arith

pub returns-clause-a64_room : goal.returns-clause-a64_room
returns-clause-a64_room c =
    let room = place-room c.args.job.now.options (job_inputs c.args.job.now) c.args.lay.now A64 c.requires.fits in
    let at = ap (λ l. l.body_end) (sym c.lay.view_is) in
    let lines = lines-are c.args.job.now.options.systems c.machine_header-x64.result (header_for X64 (placed_inputs (job_inputs c.args.job.now) c.args.lay.now)) (c.lay.inside.mach_at / 8) (c.args.lay.now.mach_at / 8)
    (c.lay.inside.mach_len / 8) (c.args.lay.now.mach_len / 8) c.machine_header-x64.ensures (ap (λ l. l.mach_at / 8) c.lay.view_is) (ap (λ l. l.mach_len / 8) c.lay.view_is) in
    let place = c.push_script-places.ensures.a64 in
    let line = c.push_closing.ensures.len in
    let none = ap length c.new-text.ensures in
    let before = ap (λ o. length (machine_lines X64 o)) c.machine_header-x64.ensures in
    omega arith
