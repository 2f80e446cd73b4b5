use Rattle.std.proofs.Common.{rules, ◌++◌, None, Some, Ok, Err}
use Rattle.ap_files.specs.Appends.{Makes}
use Rattle.ap_files.specs.declared.failure.FileFault.TheVariants.{Write}
use Rattle.ap_files.proofs.Appending.{transfer-failed, started-unfinished, still-unfinished, not-started, part-made, made, broken}
use Rattle.ap_link.specs.Sources.{tail_told}
use Rattle.ap_link.proofs.Writing.{readable-now, block-behind}
use Rattle.ap_link.proofs.write.write_linked.Goals as goal

pub returns-in-Err : goal.returns-in-Err
returns-in-Err g c =
    not-started (g.F.Files.state c.args.files.now) (g.F.Files.state c.start.new.self) c.args.out.now _ c.in-Err.field-0 c.in-Err.ensures

pub append-requires : goal.append-requires
append-requires g c = started-unfinished (g.F.Files.state c.args.files.now) (g.F.Files.state c.start.new.self) c.args.out.now c.in_default.ensures

pub returns-in-Err-append : goal.returns-in-Err-append
returns-in-Err-append g c =
    let old = g.F.Files.state c.args.files.now in
    let mid = g.F.Files.state c.start.new.self in
    let new = g.F.Files.state c.append.new.files in
    part-made old mid new c.args.out.now (c.args.block.now ++ tail_told old.kept c.args.sources.now.first c.args.sources.now.second c.args.lay.now.areas) Write c.in_default.ensures
    (broken mid new c.args.out.now c.args.block.now (tail_told old.kept c.args.sources.now.first c.args.sources.now.second c.args.lay.now.areas) Write c.in-Err-append.ensures)

pub write_inputs-requires-clause-sources : goal.write_inputs-requires-clause-sources
write_inputs-requires-clause-sources g c =
    readable-now (g.F.Files.state c.args.files.now) (g.F.Files.state c.start.new.self) (g.F.Files.state c.append.new.files) c.args.sources.now.first c.args.sources.now.second c.args.out.now c.args.block.now
    c.in_default.ensures c.in_default-append.ensures c.requires.sources

pub write_inputs-requires-clause-out : goal.write_inputs-requires-clause-out
write_inputs-requires-clause-out g c =
    still-unfinished (g.F.Files.state c.start.new.self) (g.F.Files.state c.append.new.files) c.args.out.now c.args.block.now c.in_default-append.ensures
    (started-unfinished (g.F.Files.state c.args.files.now) (g.F.Files.state c.start.new.self) c.args.out.now c.in_default.ensures)

pub returns-in_err-write_inputs : goal.returns-in_err-write_inputs
returns-in_err-write_inputs g c =
    let old = g.F.Files.state c.args.files.now in
    let mid = g.F.Files.state c.start.new.self in
    let put = g.F.Files.state c.append.new.files in
    let new = g.F.Files.state c.write_inputs.new.files in
    let first = c.args.sources.now.first in
    let second = c.args.sources.now.second in
    let f = c.in_err-write_inputs.field-0.0 in
    transfer-failed (Makes old new c.args.out.now (c.args.block.now ++ tail_told old.kept first second c.args.lay.now.areas)) c.from_residual.result f (search rules)
    (part-made old mid new c.args.out.now (c.args.block.now ++ tail_told old.kept first second c.args.lay.now.areas) f c.in_default.ensures
    (block-behind old mid put new first second c.args.lay.now.areas c.args.out.now c.args.block.now (Some f) c.in_default.ensures c.in_default-append.ensures c.requires.sources c.in_err-write_inputs.ensures))

pub finish-requires : goal.finish-requires
finish-requires g c =
    still-unfinished (g.F.Files.state c.append.new.files) (g.F.Files.state c.write_inputs.new.files) c.args.out.now _ c.in_ok-write_inputs.ensures
    (still-unfinished (g.F.Files.state c.start.new.self) (g.F.Files.state c.append.new.files) c.args.out.now c.args.block.now c.in_default-append.ensures
    (started-unfinished (g.F.Files.state c.args.files.now) (g.F.Files.state c.start.new.self) c.args.out.now c.in_default.ensures))

pub returns-in-Ok : goal.returns-in-Ok
returns-in-Ok g c =
    let old = g.F.Files.state c.args.files.now in
    let mid = g.F.Files.state c.start.new.self in
    let put = g.F.Files.state c.append.new.files in
    let all = g.F.Files.state c.write_inputs.new.files in
    let first = c.args.sources.now.first in
    let second = c.args.sources.now.second in
    made old mid all (g.F.Files.state c.finish.new.self) c.args.out.now (c.args.block.now ++ tail_told old.kept first second c.args.lay.now.areas) (Ok tt) c.in_default.ensures
    (block-behind old mid put all first second c.args.lay.now.areas c.args.out.now c.args.block.now None c.in_default.ensures c.in_default-append.ensures c.requires.sources c.in_ok-write_inputs.ensures) c.in-Ok.ensures

pub returns-in-Err-finish : goal.returns-in-Err-finish
returns-in-Err-finish g c =
    let old = g.F.Files.state c.args.files.now in
    let mid = g.F.Files.state c.start.new.self in
    let put = g.F.Files.state c.append.new.files in
    let all = g.F.Files.state c.write_inputs.new.files in
    let first = c.args.sources.now.first in
    let second = c.args.sources.now.second in
    made old mid all (g.F.Files.state c.finish.new.self) c.args.out.now (c.args.block.now ++ tail_told old.kept first second c.args.lay.now.areas) (Err c.in-Err-finish.field-0) c.in_default.ensures
    (block-behind old mid put all first second c.args.lay.now.areas c.args.out.now c.args.block.now None c.in_default.ensures c.in_default-append.ensures c.requires.sources c.in_ok-write_inputs.ensures) c.in-Err-finish.ensures
