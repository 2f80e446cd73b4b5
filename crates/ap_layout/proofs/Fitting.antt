-- Positions fit, and what follows of that.
use Rattle.std.proofs.Common.{◌≡◌, ◌⊎◌, inl, inr, ℕ, suc, ◌+◌, ◌<◌, ◌≤◌, eqb, List, [], ◌∷◌, ◌++◌, length, get_or, drop, refl, sym, ap, ◌∙◌, subst, arith, append-nil, Option, Some, None, IfSome}
use Rattle.std.proofs.lemmas.Bool.{cases_Bool}
use Rattle.std.proofs.lemmas.List.Elements.{All-nil, All-cons}
use Rattle.std.proofs.lemmas.Bool.Decides.{nat_tests}
use Rattle.ap_fields.specs.Granules.{IsGranule}
use Rattle.ap_fields.specs.declared.sizes.TheConstants.{BLOCK}
use Rattle.ap_elf.specs.declared.types.Entry.{Entry}
use Rattle.ap_check.specs.declared.load.Load.{Load}
use Rattle.ap_elf.specs.Machines.{granule_of}
use Rattle.ap_check.specs.declared.options.Options.{Options}
use Rattle.ap_check.specs.Inputs.{Taken, Meets, inputs_of}
use Rattle.ap_layout.specs.declared.layout.Area.{Area}
use Rattle.ap_layout.specs.declared.sizes.TheConstants.{MOST_AREAS, MOST_TABLE}
use Rattle.ap_check.specs.Windows.{AreReady}
use Rattle.ap_check.specs.Mac.{AreForMac}
use Rattle.ap_layout.specs.Areas.{area_of, content_length, after, areas_of, end_from, new_areas, Among, Serves, ServeAll}
use Rattle.ap_layout.specs.Positions.{Positions, Fits, PlacedInput, AreServed, placed_inputs, all_areas, positions_of, input_areas, no_sharing, shared_with, areas_one, areas_two, end_one, joined, one_if, table_length}
use Rattle.ap_layout.specs.Twins.{sharing, no_load}
use Rattle.ap_layout.specs.Apart.{AllApart, Ascend, FittingIsApart, first_areas}
use Rattle.ap_layout.proofs.Rounded.{granule_of-is, ceil-least}
use Rattle.ap_layout.proofs.NewAreas.{Within, new-apart, end-append, end-least, among-after}
use Rattle.ap_layout.proofs.Serving.{AllMayServe, areas-serve, nothing-shared, served-end}
use Rattle.ap_layout.proofs.SharedAreas.{shared-is, among-ends, drop_next}
use Rattle.ap_layout.proofs.Walked.{room_of, room_of-is}
use Rattle.ap_layout.proofs.HeaderLengths.{pe_length-most, mach-inside}

-- how far the cursor moves over an input's loads
end-most : (shares : ℕ → Option Area) (i g : ℕ) (loads : List Load) (c c0 : ℕ) (old : List Area) → IsGranule g → c0 ≤ c → AllMayServe shares i g c0 old loads → end_from c (areas_of shares i g loads c) ≤ c + room_of loads
end-most shares i g [] c c0 old is up may = omega arith
end-most shares i g (p ∷ loads) c c0 old is up may =
    let here = served-end (shares i) g c c0 old p is up may.0 in
    let rest = end-most shares (i + 1) g loads (after c (area_of (shares i) g p c)) c0 old is (omega arith) may.1 in
    omega arith

-- the bound of one input, by the rules that it meets
pub input-end : (shares : ℕ → Option Area) (e : Taken) (c c0 : ℕ) (old : List Area) → Meets e → c0 ≤ c → AllMayServe shares 0 (granule_of e.machine) c0 old e.loads → end_from c (input_areas shares e c) ≤ c + MOST_AREAS
input-end shares e c c0 old m up may =
    let most = end-most shares 0 (granule_of e.machine) e.loads c c0 old (granule_of-is e.machine) up may in
    let room = room_of-is e.loads in
    let few = m.few in
    let bytes = m.bytes in
    omega arith

-- the first input's areas end within its bound
pub one-end : (e : Taken) → Meets e → end_one e ≤ BLOCK + MOST_AREAS
one-end e m = input-end no_sharing e BLOCK 0 [] m (omega arith) (nothing-shared 0 (granule_of e.machine) 0 [] e.loads)

-- the first input's areas serve its loads, whatever follows
one-serve : (e : Taken) (tail : List Area)
    → ServeAll (granule_of e.machine) (new_areas BLOCK (areas_one e ++ tail)) e.loads (areas_one e) × Within (new_areas (end_one e) tail) (new_areas BLOCK (areas_one e ++ tail))
one-serve e tail =
    areas-serve no_sharing 0 (granule_of e.machine) e.loads BLOCK 0 [] (new_areas BLOCK (areas_one e ++ tail)) tail (granule_of-is e.machine) (omega arith) (omega arith)
    (λ a h. absurd h) (nothing-shared 0 (granule_of e.machine) 0 [] e.loads) (λ a h. h)

one_if-most : (o : Option Entry) → one_if o ≤ 1
one_if-most None = omega arith
one_if-most (Some p) = omega arith

pub table-most : (e : Taken) → Meets e → table_length e ≤ MOST_TABLE
table-most e m =
    let stack = one_if-most e.stack in
    let tls = one_if-most e.tls in
    let few = m.few in
    let five = m.five in
    omega arith

-- as many areas as loads
pub serve-same : (g : ℕ) (news : List Area) (loads : List Load) (areas : List Area) → ServeAll g news loads areas → length areas ≡ length loads
serve-same g news [] [] h = refl
serve-same g news [] (a ∷ areas) h = absurd h
serve-same g news (p ∷ loads) [] h = absurd h
serve-same g news (p ∷ loads) (a ∷ areas) h = ap (λ n. suc n) (serve-same g news loads areas h.1)

-- an area that isn't empty and serves one of some loads is new
served-new : (g : ℕ) (news : List Area) (loads : List Load) (areas : List Area) (a : Area) → ServeAll g news loads areas → Among a areas → 0 < a.len → Among a news
served-new g news [] [] a h at some = absurd at
served-new g news [] (b ∷ areas) a h at some = absurd h
served-new g news (p ∷ loads) [] a h at some = absurd at
served-new g news (p ∷ loads) (b ∷ areas) a h (inl is) some =
    let here : Serves g news p b = h.0 in
    elim (cases_Bool (eqb p.filesz 0)) [
      | inl z ↦ (let none : p.filesz ≡ 0 = grind (arith, nat_tests) in let empty : a.len ≡ 0 = ap (λ (x : Area). x.len) (is ∙ here.bare none) in absurd (omega arith))
      | inr s ↦ (let bytes : 0 < p.filesz = grind (arith, nat_tests) in subst (λ (x : Area). Among x news) (sym is) (here.new bytes))
    ]
served-new g news (p ∷ loads) (b ∷ areas) a h (inr more) some = served-new g news loads areas a h.1 more some

-- the areas of the first input that the second's masks tell may serve the second's loads
shared-serve : (masks : List ℕ) (e f : Taken) (news tail : List Area) (all loads : List Load) (i g : ℕ) → news ≡ new_areas BLOCK (areas_one e ++ tail) → ServeAll (granule_of e.machine) news e.loads (areas_one e)
    → drop i all ≡ loads → AllMayServe (sharing masks (areas_one e) g all) i g (end_one e) news loads
shared-serve masks e f news tail all [] i g is served left = tt
shared-serve masks e f news tail all (p ∷ loads) i g is served left =
    let next = drop_next all loads i p no_load left in (
      λ a shares.
          let s = shared-is g (content_length g (get_or all i no_load)) (get_or masks i 0) (areas_one e) a shares in
          let new : Among a news = served-new (granule_of e.machine) news e.loads (areas_one e) a served s.among s.some in
          record {
            among = new;
            len = s.len ∙ ap (content_length g) next.0;
            granule = s.granule;
            past = among-after BLOCK (areas_one e ++ tail) a (subst (Among a) is new);
            ends = among-ends BLOCK (areas_one e) a s.among;
          },
      shared-serve masks e f news tail all loads (i + 1) g is served next.1,
    )

-- so those of the first input, whatever the second is
pub second-may : (masks : List ℕ) (e f : Taken)
    → AllMayServe (shared_with masks (areas_one e) f) 0 (granule_of f.machine) (end_one e) (new_areas BLOCK (areas_one e ++ (areas_two masks e f ++ []))) f.loads
second-may masks e f =
    let tail : List Area = areas_two masks e f ++ [] in
    shared-serve masks e f (new_areas BLOCK (areas_one e ++ tail)) tail f.loads f.loads 0 (granule_of f.machine) refl (one-serve e tail).0 refl

fits-one : (options : Options) (e : Taken) → AreReady options (e ∷ []) → AreForMac options (e ∷ []) → Meets e → Fits options (e ∷ []) (positions_of options e None [])
unfolding positions_of
fits-one options e ready mac m =
    let mach = mach-inside options (e ∷ []) (All-cons Meets e [] m (All-nil Meets)) in
    let pe = pe_length-most options (e ∷ []) (All-cons Meets e [] m (All-nil Meets)) in
    let serve = one-serve e [] in
    let most = one-end e m in
    let table = table-most e m in
    record {
      windows = ready;
      mac = mac;
      all = refl;
      areas = (serve.0, tt);
      total = ap (end_from BLOCK) (sym (append-nil (areas_one e)));
      small = omega arith;
      tables = (refl, refl);
      body = omega arith;
      mach_at = refl;
      mach_len = refl;
      mach = mach;
    }

fits-two : (options : Options) (e f : Taken) (masks : List ℕ) → AreReady options (e ∷ f ∷ []) → AreForMac options (e ∷ f ∷ []) → Meets e → Meets f → Fits options (e ∷ f ∷ []) (positions_of options e (Some f) masks)
unfolding positions_of
fits-two options e f masks ready mac m n =
    let mach = mach-inside options (e ∷ f ∷ []) (All-cons Meets e (f ∷ []) m (All-cons Meets f [] n (All-nil Meets))) in
    let pe = pe_length-most options (e ∷ f ∷ []) (All-cons Meets e (f ∷ []) m (All-cons Meets f [] n (All-nil Meets))) in
    let g : ℕ = granule_of f.machine in
    let first : List Area = areas_one e in
    let mid : ℕ = end_one e in
    let second : List Area = areas_two masks e f in
    let tail : List Area = second ++ [] in
    let news : List Area = new_areas BLOCK (first ++ tail) in
    let past : BLOCK ≤ mid = end-least BLOCK first in
    let one = one-serve e tail in
    let may = second-may masks e f in
    let two = areas-serve (shared_with masks first f) 0 g f.loads mid mid news news [] (granule_of-is f.machine) past (omega arith) (λ a h. h) may one.1 in
    let most = one-end e m in
    let more = input-end (shared_with masks first f) f mid mid news n (omega arith) may in
    let table = table-most e m in
    let other = table-most f n in
    record {
      windows = ready;
      mac = mac;
      all = refl;
      areas = (one.0, (two.0, tt));
      total = ap (end_from mid) (sym (append-nil second)) ∙ sym (end-append BLOCK first tail);
      small = omega arith;
      tables = (refl, (refl, refl));
      body = omega arith;
      mach_at = refl;
      mach_len = refl;
      mach = mach;
    }

-- an input alone has no masks
pub masks-none : (options : Options) (e : Taken) (masks : List ℕ) → positions_of options e None masks ≡ positions_of options e None []
unfolding positions_of
masks-none options e masks = refl

-- the positions of inputs that meet the rules fit
pub positions-fit : (options : Options) (e : Taken) (o : Option Taken) (masks : List ℕ) → AreReady options (inputs_of e o) → AreForMac options (inputs_of e o) → Meets e → IfSome o (λ f. Meets f) → Fits options (inputs_of e o) (positions_of options e o masks)
positions-fit options e None masks ready mac m n = subst (Fits options (e ∷ [])) (sym (masks-none options e masks)) (fits-one options e ready mac m)
positions-fit options e (Some f) masks ready mac m n = fits-two options e f masks ready mac m n

among-append : (a : Area) (xs ys : List Area) → Among a (xs ++ ys) → Among a xs ⊎ Among a ys
among-append a [] ys h = inr h
among-append a (x ∷ xs) ys (inl is) = inl (inl is)
among-append a (x ∷ xs) ys (inr more) = elim (among-append a xs ys more) [ inl l ↦ inl (inr l) | inr r ↦ inr r ]

fitted-new : (news : List Area) (ps : List PlacedInput) (a : Area) → AreServed news ps → Among a (all_areas ps) → 0 < a.len → Among a news
fitted-new news [] a h at some = absurd at
fitted-new news (p ∷ ps) a h at some =
    elim (among-append a p.areas (all_areas ps) at) [
      | inl l ↦ served-new (granule_of p.input.machine) news p.input.loads p.areas a h.0 l some
      | inr r ↦ fitted-new news ps a h.1 r some
    ]

-- any two areas of positions that fit are the same, or don't overlap
pub fitting-apart : FittingIsApart
fitting-apart options inputs l fits a b at bt some more =
    let ps = placed_inputs inputs l in
    let news = new_areas BLOCK (all_areas ps) in
    new-apart BLOCK (all_areas ps) a b (fitted-new news ps a fits.areas at some) (fitted-new news ps b fits.areas bt more)

-- the areas of all inputs are those of the positions
all-joined : (options : Options) (e : Taken) (o : Option Taken) (masks : List ℕ) → all_areas (placed_inputs (inputs_of e o) (positions_of options e o masks)) ≡ joined (positions_of options e o masks).areas
unfolding positions_of
all-joined options e None masks = refl
all-joined options e (Some f) masks = refl

pub places-apart : (options : Options) (e : Taken) (o : Option Taken) (masks : List ℕ) (l : Positions) → l ≡ positions_of options e o masks → Fits options (inputs_of e o) l → AllApart (joined l.areas)
places-apart options e o masks l is fits =
    let P : Positions → Type 0 = λ x. AllApart (joined x.areas) in
    let apart = fitting-apart options (inputs_of e o) (positions_of options e o masks) (subst (Fits options (inputs_of e o)) is fits) in
    subst P (sym is) (subst AllApart (all-joined options e o masks) apart)

area-past : (g : ℕ) (p : Load) (c : ℕ) → IsGranule g → 0 < (area_of None g p c).len → c ≤ (area_of None g p c).file
area-past g p c is some =
    elim (cases_Bool (eqb p.filesz 0)) [
      | inl z ↦ absurd (let none : 0 < 0 = rw z at some in omega arith)
      | inr s ↦ rw s (ceil-least c g is)
    ]

areas-ascend : (i g : ℕ) (loads : List Load) (c : ℕ) → IsGranule g → Ascend c (areas_of no_sharing i g loads c)
areas-ascend i g [] c is = tt
areas-ascend i g (p ∷ loads) c is = (area-past g p c is, areas-ascend (i + 1) g loads (after c (area_of None g p c)) is)

-- the first input's areas ascend
pub first-ascend : (options : Options) (e : Taken) (o : Option Taken) (masks : List ℕ) → Ascend BLOCK (first_areas (positions_of options e o masks).areas)
unfolding positions_of
first-ascend options e None masks = areas-ascend 0 (granule_of e.machine) e.loads BLOCK (granule_of-is e.machine)
first-ascend options e (Some f) masks = areas-ascend 0 (granule_of e.machine) e.loads BLOCK (granule_of-is e.machine)
