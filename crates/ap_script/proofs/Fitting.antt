-- What those who write program headers may suppose of an input and its areas.
use Rattle.std.proofs.Common.{◌≡◌, ℕ, ◌+◌, ◌<◌, ◌≤◌, List, [], ◌∷◌, length, ap, ◌∙◌, sym, subst, arith}
use Rattle.std.specs.Prelude.{◌^◌, All}
use Rattle.std.proofs.lemmas.List.Elements.{All-cons, All-nil}
use Rattle.ap_fields.specs.Granules.{IsGranule, ceil_of}
use Rattle.ap_check.specs.declared.load.Load.{Load}
use Rattle.ap_elf.specs.Machines.{granule_of}
use Rattle.ap_check.specs.Inputs.{Taken, Meets, AreLoads}
use Rattle.ap_layout.specs.declared.layout.Area.{Area}
use Rattle.ap_layout.specs.declared.sizes.TheConstants.{FILE_TOP}
use Rattle.ap_layout.proofs.Rounded.{granule_of-is}
use Rattle.ap_script.specs.Places.{Placed}

loads-tops : (g size low : ℕ) (loads : List Load) → AreLoads g size low loads → All (λ p. p.vaddr + p.filesz ≤ 2 ^ 47) loads
loads-tops g size low [] h = All-nil (λ p. p.vaddr + p.filesz ≤ 2 ^ 47)
loads-tops g size low (p ∷ loads) h =
    let sizes = h.0.sizes in
    let top = h.0.top in
    All-cons (λ p. p.vaddr + p.filesz ≤ 2 ^ 47) p loads (omega arith) (loads-tops g size (ceil_of (p.vaddr + p.memsz) g) loads h.1)

-- an input and its areas
pub placed-input : (e : Taken) (g : ℕ) (loads : List Load) (areas : List Area) → Meets e → length areas ≡ length e.loads → All (λ x. x.file < FILE_TOP) areas
    → g ≡ granule_of e.machine → loads ≡ e.loads → Placed g loads areas
placed-input e g loads areas m same places g_is loads_is = record {
  granule = subst IsGranule (sym g_is) (granule_of-is e.machine);
  same = same ∙ ap length (sym loads_is);
  tops = subst (λ l. All (λ p. p.vaddr + p.filesz ≤ 2 ^ 47) l) (sym loads_is) (loads-tops (granule_of e.machine) e.size 0 e.loads m.loads);
  places = places;
}
