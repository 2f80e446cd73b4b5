use Rattle.std.proofs.Common.{◌≡◌, ◌<◌, ◌+◌, ◌++◌, ◌∷◌, [], ◌∙◌, ap, sym, length, arith, List}
use Rattle.ap_elf.specs.declared.types.Entry.{Entry}
use Rattle.ap_layout.specs.Areas.{no_area}
use Rattle.ap_script.proofs.Entries.{no_load, load_entries-more}
use Rattle.ap_script.proofs.table.push_loads.Goals as goal

joined : (new old front : List Entry) (made is : Entry) → new ≡ old ++ made ∷ [] → old ≡ front → made ≡ is → new ≡ front ++ is ∷ []
joined new old front made is a b c = a ∙ ap (λ l. l ++ made ∷ []) b ∙ ap (λ p. front ++ p ∷ []) c

pub loop-i-preserved : goal.loop-i-preserved
loop-i-preserved c =
    let same = c.requires.placed.same in
    let within : c.loop-i.i < length c.args.areas.now = omega arith in
    record {
      entries = joined c.push.new.self.items c.loop-i.table.items _ c.load_entry.result _ c.push.ensures.items c.loop-i.invariant.entries c.load_entry.ensures
          ∙ sym (load_entries-more c.args.granule c.args.loads.now c.args.areas.now c.loop-i.i no_load no_area c.loop-i-test.true within);
      few = c.push.ensures.len ∙ ap (λ n. n + 1) c.loop-i.invariant.few;
    }
