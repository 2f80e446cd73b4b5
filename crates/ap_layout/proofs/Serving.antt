-- The areas of an input's loads serve them, whatever they share.
use Rattle.std.proofs.Common.{◌≡◌, inl, inr, ℕ, ◌+◌, ◌%◌, ◌<◌, ◌≤◌, true, false, eqb, List, [], ◌∷◌, ◌++◌, refl, sym, ap, ◌∙◌, subst, arith, Option, Some, None}
use Rattle.std.proofs.lemmas.Bool.{cases_Bool, cond-true, cond-false}
use Rattle.std.proofs.lemmas.Bool.Decides.{nat_tests}
use Rattle.ap_fields.specs.Granules.{IsGranule, ceil_of}
use Rattle.ap_fields.specs.declared.sizes.TheConstants.{BLOCK}
use Rattle.ap_check.specs.declared.load.Load.{Load}
use Rattle.ap_layout.specs.declared.layout.Area.{Area}
use Rattle.ap_layout.specs.declared.sizes.TheConstants.{MOST_BESIDE}
use Rattle.ap_layout.specs.Areas.{content_length, no_area, end_of, area_of, after, areas_of, end_from, is_new, new_areas, Among, Serves, ServeAll}
use Rattle.ap_layout.specs.Positions.{no_sharing}
use Rattle.ap_layout.proofs.Rounded.{ceil-least, ceil-even, content-bounds, area-end}
use Rattle.ap_layout.proofs.NewAreas.{Within, new-taken, new-passed}

-- an area of others, which end at or before c, may serve a load
pub record MayServe (g c : ℕ) (others : List Area) (p : Load) (a : Area) : Type 0 where
  pub among : Among a others
  pub len : a.len ≡ content_length g p
  pub granule : a.file % g ≡ 0
  pub past : BLOCK ≤ a.file
  pub ends : end_of a ≤ c

-- so may each area that loads share, counted from i
abbrev pub AllMayServe : (ℕ → Option Area) → ℕ → ℕ → ℕ → List Area → List Load → Type 0
AllMayServe shares i g c others [] = Unit {0}
AllMayServe shares i g c others (p ∷ loads) = ((a : Area) → shares i ≡ Some a → MayServe g c others p a) × AllMayServe shares (i + 1) g c others loads

-- where nothing is shared, so may all that is
pub nothing-shared : (i g c : ℕ) (others : List Area) (loads : List Load) → AllMayServe no_sharing i g c others loads
nothing-shared i g c others [] = tt
nothing-shared i g c others (p ∷ loads) = (λ a e. absurd (cc), nothing-shared (i + 1) g c others loads)

may-more : (g c d : ℕ) (others all : List Area) (p : Load) (a : Area) → c ≤ d → Within others all → MayServe g c others p a → MayServe g d all p a
may-more g c d others all p a up sub h = record { among = sub a h.among; len = h.len; granule = h.granule; past = h.past; ends = (let e = h.ends in omega arith) }

-- how far the cursor moves over a load
pub served-end : (s : Option Area) (g c c0 : ℕ) (old : List Area) (p : Load) → IsGranule g → c0 ≤ c → ((a : Area) → s ≡ Some a → MayServe g c0 old p a) → end_of (area_of s g p c) ≤ c + p.filesz + MOST_BESIDE
served-end None g c c0 old p is up may = area-end g p c is
served-end (Some a) g c c0 old p is up may =
    let ends = (may a refl).ends in
    elim (cases_Bool (eqb p.filesz 0)) [
      | inl z ↦ rw z (omega arith)
      | inr some ↦ rw some (omega arith)
    ]

-- what one load's area does
record Steps (g c : ℕ) (all : List Area) (p : Load) (a : Area) (others : List Area) : Type 0 where
  pub serves : Serves g all p a
  pub within : Within (new_areas (after c a) others) (new_areas c (a ∷ others))

step-none : (g c : ℕ) (all : List Area) (p : Load) (others : List Area) → p.filesz ≡ 0 → Steps g c all p no_area others
step-none g c all p others z =
    let same : after c no_area ≡ c = omega arith in
    record {
      serves = record { bare = λ e. refl; len = λ s. absurd (omega arith); granule = λ s. absurd (omega arith); past = λ s. absurd (omega arith); new = λ s. absurd (omega arith) };
      within = λ x m. subst (λ (n : ℕ). Among x (new_areas n others)) same m;
    }

step-new : (g c : ℕ) (all : List Area) (p : Load) (a : Area) (others : List Area) → IsGranule g → BLOCK ≤ c → 0 < p.filesz → a ≡ record { file = ceil_of c g; len = content_length g p } → Within (new_areas c (a ∷ others)) all
    → Steps g c all p a others
step-new g c all p a others is past some made sub =
    let file : a.file ≡ ceil_of c g = ap (λ (x : Area). x.file) made in
    let len : a.len ≡ content_length g p = ap (λ (x : Area). x.len) made in
    let low : c ≤ ceil_of c g = ceil-least c g is in
    let long = (content-bounds g p is).0 in
    let news : new_areas c (a ∷ others) ≡ a ∷ new_areas (after c a) others = new-taken c (after c a) a others (omega arith) (omega arith) refl in
    record {
      serves = record {
        bare = λ z. absurd (omega arith);
        len = λ s. len;
        granule = λ s. ap (λ (x : ℕ). x % g) file ∙ ceil-even c g is;
        past = λ s. omega arith;
        new = λ s. sub a (subst (Among a) (sym news) (inl refl));
      };
      within = λ x m. subst (Among x) (sym news) (inr m);
    }

step-old : (g c : ℕ) (all : List Area) (p : Load) (a : Area) (others : List Area) → IsGranule g → 0 < p.filesz → MayServe g c all p a → Steps g c all p a others
step-old g c all p a others is some may =
    let long = (content-bounds g p is).0 in
    let len = may.len in
    let ends = may.ends in
    let off : is_new c a ≡ false = grind (arith, nat_tests) in
    let news : new_areas c (a ∷ others) ≡ new_areas (after c a) others = new-passed c a others off ends in
    record {
      serves = record { bare = λ z. absurd (omega arith); len = λ s. may.len; granule = λ s. may.granule; past = λ s. may.past; new = λ s. may.among };
      within = λ x m. subst (Among x) (sym news) m;
    }

-- a load with bytes, by a new area or by one that stood already
step-some : (s : Option Area) (g c c0 : ℕ) (old all : List Area) (p : Load) (others : List Area) → IsGranule g → BLOCK ≤ c → c0 ≤ c → Within old all → ((a : Area) → s ≡ Some a → MayServe g c0 old p a)
    → eqb p.filesz 0 ≡ false → Within (new_areas c (area_of s g p c ∷ others)) all → Steps g c all p (area_of s g p c) others
step-some None g c c0 old all p others is past up sub may some news =
    let more : 0 < p.filesz = grind (arith, nat_tests) in
    let made : Area = record { file = ceil_of c g; len = content_length g p } in
    step-new g c all p (area_of None g p c) others is past more (cond-false (eqb p.filesz 0) no_area made some) news
step-some (Some a) g c c0 old all p others is past up sub may some news =
    let more : 0 < p.filesz = grind (arith, nat_tests) in
    subst (λ (x : Area). Steps g c all p x others) (sym (cond-false (eqb p.filesz 0) no_area a some))
    (step-old g c all p a others is more (may-more g c0 c old all p a up sub (may a refl)))

area-bare : (s : Option Area) (g : ℕ) (p : Load) (c : ℕ) → eqb p.filesz 0 ≡ true → area_of s g p c ≡ no_area
area-bare None g p c z = cond-true (eqb p.filesz 0) no_area (record { file = ceil_of c g; len = content_length g p }) z
area-bare (Some a) g p c z = cond-true (eqb p.filesz 0) no_area a z

step-with : (s : Option Area) (g c c0 : ℕ) (old all : List Area) (p : Load) (others : List Area) → IsGranule g → BLOCK ≤ c → c0 ≤ c → Within old all → ((a : Area) → s ≡ Some a → MayServe g c0 old p a)
    → Within (new_areas c (area_of s g p c ∷ others)) all → Steps g c all p (area_of s g p c) others
step-with s g c c0 old all p others is past up sub may news =
    elim (cases_Bool (eqb p.filesz 0)) [
      | inl z ↦ (let none : p.filesz ≡ 0 = grind (arith, nat_tests) in subst (λ (x : Area). Steps g c all p x others) (sym (area-bare s g p c z)) (step-none g c all p others none))
      | inr some ↦ step-some s g c c0 old all p others is past up sub may some news
    ]

-- The loads are served, some by areas that stand already, which end at or before c0 and are among `old`; and what is new
-- of what follows is new of all.
pub areas-serve : (shares : ℕ → Option Area) (i g : ℕ) (loads : List Load) (c c0 : ℕ) (old all tail : List Area) → IsGranule g → BLOCK ≤ c → c0 ≤ c → Within old all → AllMayServe shares i g c0 old loads
    → Within (new_areas c (areas_of shares i g loads c ++ tail)) all
    → ServeAll g all loads (areas_of shares i g loads c) × Within (new_areas (end_from c (areas_of shares i g loads c)) tail) (new_areas c (areas_of shares i g loads c ++ tail))
areas-serve shares i g [] c c0 old all tail is past up sub may news = (tt, λ x m. m)
areas-serve shares i g (p ∷ loads) c c0 old all tail is past up sub may news =
    let a : Area = area_of (shares i) g p c in
    let next : ℕ = after c a in
    let others : List Area = areas_of shares (i + 1) g loads next ++ tail in
    let step = step-with (shares i) g c c0 old all p others is past up sub may.0 news in
    let rest = areas-serve shares (i + 1) g loads next c0 old all tail is (omega arith) (omega arith) sub may.1 (λ x m. news x (step.within x m)) in
    ((step.serves, rest.0), λ x m. step.within x (rest.1 x m))
