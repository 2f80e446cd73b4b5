use Rattle.std.proofs.Common.{◌≡◌, rules, Option, None, Some, ◌∙◌, ap, arith}
use Rattle.ap_layout.specs.Positions.{positions_of, no_sharing, shared_with, areas_one, end_one}
use Rattle.ap_layout.specs.Areas.{end_from}
use Rattle.ap_fields.specs.declared.sizes.TheConstants.{BLOCK}
use Rattle.ap_files.specs.Appends.{Appends, failure_of}
use Rattle.ap_files.proofs.Appending.{transfer-failed, still-unfinished}
use Rattle.ap_link.specs.declared.source.Source.{Source}
use Rattle.ap_link.specs.Sources.{second_taken, tail_told}
use Rattle.ap_link.proofs.LaidAreas.{first-areas, second-areas, ends-first, end-small, counted, first-next, second-next}
use Rattle.ap_link.proofs.Writing.{readable-second, first-alone, first-broken, second-behind}
use Rattle.ap_link.proofs.write.write_inputs.Goals as goal

pub write_input-requires-clause-count : goal.write_input-requires-clause-count
write_input-requires-clause-count g c =
    counted no_sharing c.args.sources.now.first.input.now BLOCK c.areas_of.result.now
    (c.areas_of.ensures ∙ first-areas c.requires.lay.0 c.args.sources.now.first.input.now (second_taken c.args.sources.now.second) c.requires.lay.1 c.args.lay.now c.requires.lay.2)

pub write_input-requires-clause-next : goal.write_input-requires-clause-next
write_input-requires-clause-next g c =
    λ m.
    first-next c.args.sources.now.first.input.now c.areas_of.result.now m
    (c.areas_of.ensures ∙ first-areas c.requires.lay.0 c.args.sources.now.first.input.now (second_taken c.args.sources.now.second) c.requires.lay.1 c.args.lay.now c.requires.lay.2)

pub returns-in_err-write_input : goal.returns-in_err-write_input
returns-in_err-write_input g c =
    let old = g.F.Files.state c.args.files.now in
    let new = g.F.Files.state c.write_input.new.files in
    transfer-failed (Appends old new c.args.out.now (tail_told old.kept c.args.sources.now.first c.args.sources.now.second c.args.lay.now.areas)) c.from_residual.result c.in_err-write_input.field-0.0 (search rules)
    (first-broken old new c.args.sources.now.first c.args.sources.now.second c.args.lay.now.areas c.areas_of.result.now c.args.out.now c.in_err-write_input.field-0.0 c.areas_of.ensures c.in_err-write_input.ensures)

pub returns-in-None : goal.returns-in-None
returns-in-None g c =
    first-alone (g.F.Files.state c.args.files.now) (g.F.Files.state c.write_input.new.files) c.args.sources.now.first c.args.sources.now.second c.args.lay.now.areas c.areas_of.result.now c.args.out.now None c.in-None.is c.areas_of.ensures
    c.in_ok-write_input.ensures

pub end_behind-end-requires : goal.end_behind-end-requires
end_behind-end-requires g c =
    let e = c.args.sources.now.first.input.now in
    let f = c.in-Some.second.input.now in
    let masks = c.requires.lay.1 in
    let lay : c.args.lay.now ≡ positions_of c.requires.lay.0 e (Some f) masks = c.requires.lay.2 ∙ ap (λ (o : Option Source). positions_of c.requires.lay.0 e (second_taken o) masks) c.in-Some.is in
    let is = ends-first c.requires.lay.0 e c.areas_of-in-Some.result.now masks c.args.lay.now (Some f) lay c.areas_of-in-Some.ensures in
    let small = end-small c.requires.lay.0 e f masks c.args.lay.now lay c.requires.small in
    omega arith

pub write_input-requires-in-Some-clause-count : goal.write_input-requires-in-Some-clause-count
write_input-requires-in-Some-clause-count g c =
    let e = c.args.sources.now.first.input.now in
    let f = c.in-Some.second.input.now in
    let masks = c.requires.lay.1 in
    let lay : c.args.lay.now ≡ positions_of c.requires.lay.0 e (Some f) masks = c.requires.lay.2 ∙ ap (λ (o : Option Source). positions_of c.requires.lay.0 e (second_taken o) masks) c.in-Some.is in
    counted (shared_with masks (areas_one e) f) f (end_one e) c.areas_of-areas.result.now (c.areas_of-areas.ensures ∙ second-areas c.requires.lay.0 e f masks c.args.lay.now lay)

pub write_input-requires-in-Some-clause-next : goal.write_input-requires-in-Some-clause-next
write_input-requires-in-Some-clause-next g c =
    let e = c.args.sources.now.first.input.now in
    let f = c.in-Some.second.input.now in
    let masks = c.requires.lay.1 in
    let lay : c.args.lay.now ≡ positions_of c.requires.lay.0 e (Some f) masks = c.requires.lay.2 ∙ ap (λ (o : Option Source). positions_of c.requires.lay.0 e (second_taken o) masks) c.in-Some.is in
    let is = ends-first c.requires.lay.0 e c.areas_of-in-Some.result.now masks c.args.lay.now (Some f) lay c.areas_of-in-Some.ensures in
    let small = end-small c.requires.lay.0 e f masks c.args.lay.now lay c.requires.small in
    let end = c.end_behind-end.ensures in
    λ m.
    second-next masks e f c.areas_of-areas.result.now c.end_behind-end.result m (c.end_behind-end.ensures ∙ is) (omega arith)
    (c.areas_of-areas.ensures ∙ second-areas c.requires.lay.0 e f masks c.args.lay.now lay)

pub write_input-requires-in-Some-clause-readable : goal.write_input-requires-in-Some-clause-readable
write_input-requires-in-Some-clause-readable g c =
    readable-second (g.F.Files.state c.args.files.now) (g.F.Files.state c.write_input.new.files) c.args.sources.now.first c.in-Some.second c.args.sources.now.second c.args.out.now _ c.in-Some.is c.in_ok-write_input.ensures c.requires.sources

pub write_input-requires-in-Some-clause-out : goal.write_input-requires-in-Some-clause-out
write_input-requires-in-Some-clause-out g c =
    still-unfinished (g.F.Files.state c.args.files.now) (g.F.Files.state c.write_input.new.files) c.args.out.now _ c.in_ok-write_input.ensures c.requires.out

pub returns-in-Some : goal.returns-in-Some
returns-in-Some g c =
    second-behind (g.F.Files.state c.args.files.now) (g.F.Files.state c.write_input.new.files) (g.F.Files.state c.write_input-in-Some.new.files) c.args.sources.now.first c.in-Some.second c.args.sources.now.second c.args.lay.now.areas
    c.areas_of.result.now c.areas_of-areas.result.now c.args.out.now
    c.end_behind-end.result (failure_of c.write_input-in-Some.result) c.in-Some.is c.requires.sources c.areas_of.ensures c.areas_of-areas.ensures
    (c.end_behind-end.ensures ∙ ap (end_from BLOCK) c.areas_of-in-Some.ensures) c.in_ok-write_input.ensures c.write_input-in-Some.ensures
