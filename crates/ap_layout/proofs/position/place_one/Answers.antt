use Rattle.std.proofs.Common.{◌∷◌, [], ◌++◌, None, sym, ap, ◌∙◌, subst}
use Rattle.ap_layout.specs.Positions.{Positions, Fits}
use Rattle.ap_layout.proofs.Fitting.{positions-fit}
use Rattle.ap_layout.proofs.Made.{made-one}
use Rattle.ap_layout.proofs.position.place_one.Goals as goal

pub returns-clause-positions : goal.returns-clause-positions
returns-clause-positions c =
    made-one c.args.job.now.options c.args.job.now.first.now c.areas_alone-placed.result.areas.items c.new.result.items c.push.new.self.items c.args.mach.at c.args.mach.len c.args.start c.table_length.result c.areas_alone-placed.result.end
    c.requires.mach_at c.requires.mach_len c.requires.start c.areas_alone-placed.ensures.areas c.new.ensures (c.push.ensures.items ∙ ap (λ l. l ++ c.args.start ∷ []) c.new-tables.ensures) c.table_length.ensures.length c.areas_alone-placed.ensures.end

pub returns-clause-fits : goal.returns-clause-fits
returns-clause-fits c =
    subst (λ (l : Positions). Fits c.args.job.now.options (c.args.job.now.first.now ∷ []) l)
    (sym (made-one c.args.job.now.options c.args.job.now.first.now c.areas_alone-placed.result.areas.items c.new.result.items c.push.new.self.items c.args.mach.at c.args.mach.len c.args.start c.table_length.result c.areas_alone-placed.result.end
    c.requires.mach_at c.requires.mach_len c.requires.start c.areas_alone-placed.ensures.areas c.new.ensures (c.push.ensures.items ∙ ap (λ l. l ++ c.args.start ∷ []) c.new-tables.ensures) c.table_length.ensures.length c.areas_alone-placed.ensures.end))
    (positions-fit c.args.job.now.options c.args.job.now.first.now None [] c.requires.ready c.requires.mac c.areas_alone-placed.ensures.meets tt)
