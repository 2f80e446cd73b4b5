-- The areas of a layout, as the areas of its inputs.
use Rattle.std.proofs.Common.{◌≡◌, ℕ, suc, ◌+◌, ◌^◌, ◌<◌, ◌≤◌, List, [], ◌∷◌, length, get_or, refl, sym, ap, ◌∙◌, subst, arith, Option, Some, None}
use Rattle.ap_fields.specs.declared.sizes.TheConstants.{BLOCK}
use Rattle.ap_check.specs.declared.options.Options.{Options}
use Rattle.ap_check.specs.declared.load.Load.{Load}
use Rattle.ap_elf.specs.Machines.{granule_of}
use Rattle.ap_check.specs.Inputs.{Taken, Meets}
use Rattle.ap_layout.specs.declared.layout.Area.{Area}
use Rattle.ap_layout.specs.Areas.{area_of, after, areas_of, end_from}
use Rattle.ap_layout.specs.Positions.{Positions, positions_of, input_areas, no_sharing, shared_with, areas_one, areas_two, areas_in, end_one}
use Rattle.ap_layout.proofs.Fitting.{second-may}
use Rattle.ap_layout.proofs.Serving.{AllMayServe, nothing-shared}
use Rattle.ap_layout.proofs.NewAreas.{end-least}
use Rattle.ap_layout.proofs.Rounded.{granule_of-is}
use Rattle.ap_layout.proofs.Walked.{room_of-is}
use Rattle.ap_link.specs.Nexts.{AreNext}
use Rattle.ap_link.proofs.PlacedTexts.{areas-next}

pub areas-are : (options : Options) (e : Taken) (o : Option Taken) (masks : List ℕ) → (positions_of options e o masks).areas ≡ areas_in e o masks
unfolding positions_of
areas-are options e None masks = refl
areas-are options e (Some f) masks = refl

pub laid-are : (options : Options) (e : Taken) (o : Option Taken) (masks : List ℕ) (l : Positions) → l ≡ positions_of options e o masks → l.areas ≡ areas_in e o masks
laid-are options e o masks l is = ap (λ (x : Positions). x.areas) is ∙ areas-are options e o masks

areas-first : (e : Taken) (o : Option Taken) (masks : List ℕ) → get_or (areas_in e o masks) 0 [] ≡ areas_one e
areas-first e None masks = refl
areas-first e (Some f) masks = refl

pub first-areas : (options : Options) (e : Taken) (o : Option Taken) (masks : List ℕ) (l : Positions) → l ≡ positions_of options e o masks → get_or l.areas 0 [] ≡ areas_one e
first-areas options e o masks l is = ap (λ (x : List (List Area)). get_or x 0 []) (laid-are options e o masks l is) ∙ areas-first e o masks

pub second-areas : (options : Options) (e f : Taken) (masks : List ℕ) (l : Positions) → l ≡ positions_of options e (Some f) masks → get_or l.areas 1 [] ≡ areas_two masks e f
second-areas options e f masks l is = ap (λ (x : List (List Area)). get_or x 1 []) (laid-are options e (Some f) masks l is)

total-two : (options : Options) (e f : Taken) (masks : List ℕ) → (positions_of options e (Some f) masks).total ≡ end_from (end_one e) (areas_two masks e f)
unfolding positions_of
total-two options e f masks = refl

-- the first input's areas end in the file
pub end-small : (options : Options) (e f : Taken) (masks : List ℕ) (l : Positions) → l ≡ positions_of options e (Some f) masks → l.total < 2 ^ 31 → end_one e < 2 ^ 31
end-small options e f masks l is small =
    let least = end-least (end_one e) (areas_two masks e f) in
    let total : l.total ≡ end_from (end_one e) (areas_two masks e f) = ap (λ (x : Positions). x.total) is ∙ total-two options e f masks in
    omega arith

-- as many areas as loads
pub count-areas : (shares : ℕ → Option Area) (i g : ℕ) (loads : List Load) (c : ℕ) → length (areas_of shares i g loads c) ≡ length loads
count-areas shares i g [] c = refl
count-areas shares i g (p ∷ loads) c = ap (λ n. suc n) (count-areas shares (i + 1) g loads (after c (area_of (shares i) g p c)))

pub counted : (shares : ℕ → Option Area) (e : Taken) (c : ℕ) (areas : List Area) → areas ≡ input_areas shares e c → length areas ≡ length e.loads
counted shares e c areas is = ap length is ∙ count-areas shares 0 (granule_of e.machine) e.loads c

-- and one stands behind the other
next-areas : (shares : ℕ → Option Area) (e : Taken) (c c0 : ℕ) (old : List Area) → Meets e → c < 2 ^ 31 → c0 ≤ c → AllMayServe shares 0 (granule_of e.machine) c0 old e.loads
    → AreNext (granule_of e.machine) e.size c e.loads (input_areas shares e c)
next-areas shares e c c0 old m small up may =
    let room = room_of-is e.loads in
    let few = m.few in
    let bytes = m.bytes in
    areas-next shares 0 (granule_of e.machine) e.size 0 e.loads c c0 old (granule_of-is e.machine) up may m.loads (omega arith)

pub first-next : (e : Taken) (areas : List Area) → Meets e → areas ≡ areas_one e → AreNext (granule_of e.machine) e.size BLOCK e.loads areas
first-next e areas m is =
    subst (AreNext (granule_of e.machine) e.size BLOCK e.loads) (sym is)
    (next-areas no_sharing e BLOCK 0 [] m (omega arith) (omega arith) (nothing-shared 0 (granule_of e.machine) 0 [] e.loads))

pub second-next : (masks : List ℕ) (e f : Taken) (areas : List Area) (end : ℕ) → Meets f → end ≡ end_one e → end < 2 ^ 31 → areas ≡ areas_two masks e f → AreNext (granule_of f.machine) f.size end f.loads areas
second-next masks e f areas end m ends small is =
    subst (λ n. AreNext (granule_of f.machine) f.size n f.loads areas) (sym ends)
    (subst (AreNext (granule_of f.machine) f.size (end_one e) f.loads) (sym is)
    (next-areas (shared_with masks (areas_one e) f) f (end_one e) (end_one e) _ m (omega arith) (omega arith) (second-may masks e f)))

-- where the first input's areas end
pub ends-first : (options : Options) (e : Taken) (areas : List Area) (masks : List ℕ) (l : Positions) (o : Option Taken) → l ≡ positions_of options e o masks → areas ≡ get_or l.areas 0 [] → end_from BLOCK areas ≡ end_one e
ends-first options e areas masks l o is got = ap (end_from BLOCK) (got ∙ first-areas options e o masks l is)
