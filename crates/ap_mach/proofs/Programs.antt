-- What an input meets whose headers are written.
use Rattle.std.proofs.Common.{◌≡◌, ℕ, ◌+◌, ◌≤◌, List, [], ◌∷◌, length, sym, ap, ◌∙◌, subst}
use Rattle.std.specs.Prelude.{All}
use Rattle.std.proofs.lemmas.List.Elements.{All-cons, All-nil}
use Rattle.ap_fields.specs.Granules.{ceil_of}
use Rattle.ap_elf.specs.declared.constants.TheConstants.{ADDRESS_TOP}
use Rattle.ap_elf.specs.Machines.{granule_of}
use Rattle.ap_check.specs.declared.load.Load.{Load}
use Rattle.ap_check.specs.Inputs.{Taken, Meets, AreLoads}
use Rattle.ap_layout.specs.declared.layout.Area.{Area}
use Rattle.ap_mach.specs.Written.{IsProgram}

-- no load passes the top of all addresses
pub loads-tops : (g size low : ℕ) (loads : List Load) → AreLoads g size low loads → All (λ p. p.vaddr + p.memsz ≤ ADDRESS_TOP) loads
loads-tops g size low [] h = All-nil (λ p. p.vaddr + p.memsz ≤ ADDRESS_TOP)
loads-tops g size low (p ∷ loads) h =
    let top = h.0.top in
    All-cons (λ p. p.vaddr + p.memsz ≤ ADDRESS_TOP) p loads top (loads-tops g size (ceil_of (p.vaddr + p.memsz) g) loads h.1)

pub program-is : (e : Taken) (loads : List Load) (areas : List Area) → Meets e → loads ≡ e.loads → length areas ≡ length e.loads → IsProgram loads areas
program-is e loads areas m is same =
    let program : IsProgram e.loads areas = record { few = m.few; same = same; tops = loads-tops (granule_of e.machine) e.size 0 e.loads m.loads } in
    subst (λ l. IsProgram l areas) (sym is) program
