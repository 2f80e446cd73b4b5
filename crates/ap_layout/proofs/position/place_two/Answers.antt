use Rattle.std.proofs.Common.{◌∷◌, [], ◌+◌, ◌++◌, Some, sym, ap, ◌∙◌, subst}
use Rattle.ap_fields.specs.declared.sizes.TheConstants.{BLOCK}
use Rattle.ap_layout.proofs.SharedAreas.{ends-as}
use Rattle.ap_layout.specs.Areas.{end_from}
use Rattle.ap_layout.specs.Positions.{Positions, Fits, input_areas, no_sharing}
use Rattle.ap_layout.proofs.Fitting.{positions-fit}
use Rattle.ap_layout.proofs.Made.{made-two, areas-as}
use Rattle.ap_layout.proofs.position.place_two.Goals as goal

pub returns-clause-positions : goal.returns-clause-positions
returns-clause-positions c =
    made-two c.args.job.now.options c.args.job.now.first.now c.args.second.now c.args.twins.now.masks.items c.areas_alone-placed.result.areas.items c.areas_beside-behind.result.areas.items c.push-2.new.self.items c.args.mach.at c.args.mach.len c.args.start c.table_length.result c.table_length-2.result c.areas_alone-placed.result.end c.areas_beside-behind.result.end
    c.requires.mach_at c.requires.mach_len c.requires.start c.areas_alone-placed.ensures.areas c.areas_alone-placed.ensures.end (c.areas_beside-behind.ensures.areas ∙ areas-as c.deref.result.now c.args.twins.now.masks.items c.deref-2.result.now c.areas_alone-placed.result.areas.items c.args.second.now c.areas_alone-placed.result.end c.deref.ensures.0 c.deref-2.ensures.0)
    (c.push-2.ensures.items ∙ ap (λ l. l ++ (c.args.start + c.table_length.result) ∷ []) (c.push.ensures.items ∙ ap (λ l. l ++ c.args.start ∷ []) c.new-tables.ensures))
    c.table_length.ensures.length c.table_length-2.ensures.length (c.areas_beside-behind.ensures.end ∙ ap (end_from c.areas_alone-placed.result.end) (areas-as c.deref.result.now c.args.twins.now.masks.items c.deref-2.result.now c.areas_alone-placed.result.areas.items c.args.second.now c.areas_alone-placed.result.end c.deref.ensures.0 c.deref-2.ensures.0))

pub returns-clause-fits : goal.returns-clause-fits
returns-clause-fits c =
    subst (λ (l : Positions). Fits c.args.job.now.options (c.args.job.now.first.now ∷ c.args.second.now ∷ []) l)
    (sym (made-two c.args.job.now.options c.args.job.now.first.now c.args.second.now c.args.twins.now.masks.items c.areas_alone-placed.result.areas.items c.areas_beside-behind.result.areas.items c.push-2.new.self.items c.args.mach.at c.args.mach.len c.args.start c.table_length.result c.table_length-2.result c.areas_alone-placed.result.end c.areas_beside-behind.result.end
    c.requires.mach_at c.requires.mach_len c.requires.start c.areas_alone-placed.ensures.areas c.areas_alone-placed.ensures.end (c.areas_beside-behind.ensures.areas ∙ areas-as c.deref.result.now c.args.twins.now.masks.items c.deref-2.result.now c.areas_alone-placed.result.areas.items c.args.second.now c.areas_alone-placed.result.end c.deref.ensures.0 c.deref-2.ensures.0)
    (c.push-2.ensures.items ∙ ap (λ l. l ++ (c.args.start + c.table_length.result) ∷ []) (c.push.ensures.items ∙ ap (λ l. l ++ c.args.start ∷ []) c.new-tables.ensures))
    c.table_length.ensures.length c.table_length-2.ensures.length (c.areas_beside-behind.ensures.end ∙ ap (end_from c.areas_alone-placed.result.end) (areas-as c.deref.result.now c.args.twins.now.masks.items c.deref-2.result.now c.areas_alone-placed.result.areas.items c.args.second.now c.areas_alone-placed.result.end c.deref.ensures.0 c.deref-2.ensures.0))))
    (positions-fit c.args.job.now.options c.args.job.now.first.now (Some c.args.second.now) c.args.twins.now.masks.items c.requires.ready c.requires.mac c.areas_alone-placed.ensures.meets c.areas_beside-behind.ensures.meets)

pub areas_beside-behind-requires-clause-others : goal.areas_beside-behind-requires-clause-others
areas_beside-behind-requires-clause-others c = ends-as c.deref-2.result.now (input_areas no_sharing c.args.job.now.first.now BLOCK) BLOCK c.areas_alone-placed.result.end (c.deref-2.ensures.0 ∙ c.areas_alone-placed.ensures.areas) c.areas_alone-placed.ensures.end
