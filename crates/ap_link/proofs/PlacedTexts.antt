-- The text of the areas that a cursor placed: how long it is, and that a file with it holds each load's content.
use Rattle.std.proofs.Common.{◌≡◌, ◌⊎◌, inl, inr, ℕ, ◌+◌, ◌-◌, ◌%◌, ◌^◌, ◌<◌, ◌≤◌, Bool, true, false, eqb, List, [], ◌∷◌, ◌++◌, length, sym, ap, ◌∙◌, subst, refl, arith, append_assoc, length-append, Option, Some, None}
use Rattle.std.proofs.lemmas.Bool.{cases_Bool, cond-true, cond-false}
use Rattle.std.proofs.lemmas.Bool.Decides.{nat_tests}
use Rattle.ap_fields.specs.Bytes.{zeros, Holds}
use Rattle.ap_fields.specs.Granules.{IsGranule, ceil_of}
use Rattle.ap_fields.specs.declared.sizes.TheConstants.{BLOCK}
use Rattle.ap_fields.proofs.Bytes.{length-zeros, holds-part}
use Rattle.ap_check.specs.declared.load.Load.{Load}
use Rattle.ap_check.specs.Inputs.{AreLoads}
use Rattle.ap_layout.specs.declared.layout.Area.{Area}
use Rattle.ap_layout.specs.Areas.{content_length, content_of, no_area, end_of, area_of, after, areas_of, end_from, is_new}
use Rattle.ap_layout.specs.Positions.{no_sharing}
use Rattle.ap_layout.proofs.Rounded.{ceil-even, content-bounds}
use Rattle.ap_layout.proofs.Serving.{MayServe, AllMayServe, served-end}
use Rattle.ap_layout.proofs.Walked.{room_of}
use Rattle.ap_link.specs.Linked.{areas_text}
use Rattle.ap_link.specs.LinkedIn.{IsHeld, HoldAll}
use Rattle.ap_link.specs.Nexts.{end_behind, AreNext}
use Rattle.ap_link.proofs.AreaTexts.{text-new, text-old}
use Rattle.ap_link.proofs.Contents.{length-content}
use Rattle.ap_fields.proofs.Granules.{ceil_of-least}

-- ---- the area of a load

-- a load without bytes has no area, and the cursor stays
pub record IsBare (g c : ℕ) (p : Load) (a : Area) : Type 0 where
  pub none : p.filesz ≡ 0
  pub area : a ≡ no_area
  pub old : is_new c a ≡ false
  pub next : after c a ≡ c

-- another has one that stood already
pub record IsOld (c : ℕ) (s : Option Area) (p : Load) (a : Area) : Type 0 where
  pub some : 0 < p.filesz
  pub is : s ≡ Some a
  pub old : is_new c a ≡ false
  pub next : after c a ≡ c

-- any other load has a new one, in the granules that follow
pub record IsPut (g c : ℕ) (p : Load) (a : Area) : Type 0 where
  pub some : 0 < p.filesz
  pub file : a.file ≡ ceil_of c g
  pub len : a.len ≡ content_length g p
  pub new : is_new c a ≡ true
  pub next : after c a ≡ end_of a
  pub low : c ≤ a.file

-- an area that may serve a load
abbrev pub May : Option Area → ℕ → ℕ → List Area → Load → Type 0
May s g c0 others p = (a : Area) → s ≡ Some a → MayServe g c0 others p a

bare-area : (s : Option Area) (g : ℕ) (p : Load) (c : ℕ) → eqb p.filesz 0 ≡ true → area_of s g p c ≡ no_area
bare-area None g p c z = cond-true (eqb p.filesz 0) no_area (record { file = ceil_of c g; len = content_length g p }) z
bare-area (Some a) g p c z = cond-true (eqb p.filesz 0) no_area a z

bare-case : (s : Option Area) (g c : ℕ) (p : Load) → eqb p.filesz 0 ≡ true → IsBare g c p (area_of s g p c)
bare-case s g c p z =
    let same : area_of s g p c ≡ no_area = bare-area s g p c z in
    record {
      none = grind (arith, nat_tests);
      area = same;
      old = ap (is_new c) same;
      next = ap (after c) same ∙ omega arith;
    }

old-case : (a : Area) (g c c0 : ℕ) (others : List Area) (p : Load) → IsGranule g → c0 ≤ c → MayServe g c0 others p a → eqb p.filesz 0 ≡ false → IsOld c (Some a) p (area_of (Some a) g p c)
old-case a g c c0 others p is up may some =
    let same : area_of (Some a) g p c ≡ a = cond-false (eqb p.filesz 0) no_area a some in
    let more : 0 < p.filesz = grind (arith, nat_tests) in
    let long = (content-bounds g p is).0 in
    let len = may.len in
    let ends = may.ends in
    let off : is_new c a ≡ false = grind (arith, nat_tests) in
    record {
      some = more;
      is = ap Some (sym same);
      old = ap (is_new c) same ∙ off;
      next = ap (after c) same ∙ omega arith;
    }

put-case : (g c : ℕ) (p : Load) → IsGranule g → eqb p.filesz 0 ≡ false → IsPut g c p (area_of None g p c)
put-case g c p is some =
    let made : Area = record { file = ceil_of c g; len = content_length g p } in
    let same : area_of None g p c ≡ made = cond-false (eqb p.filesz 0) no_area made some in
    let more : 0 < p.filesz = grind (arith, nat_tests) in
    let low : c ≤ ceil_of c g = ceil_of-least c g is in
    let long = (content-bounds g p is).0 in
    let test : is_new c made ≡ true = grind (arith, nat_tests) in
    record {
      some = more;
      file = ap (λ (x : Area). x.file) same;
      len = ap (λ (x : Area). x.len) same;
      new = ap (is_new c) same ∙ test;
      next = ap (after c) same ∙ omega arith ∙ sym (ap end_of same);
      low = subst (λ (x : Area). c ≤ x.file) (sym same) low;
    }

pub area-cases : (s : Option Area) (g c c0 : ℕ) (others : List Area) (p : Load) → IsGranule g → c0 ≤ c → May s g c0 others p
    → IsBare g c p (area_of s g p c) ⊎ (IsOld c s p (area_of s g p c) ⊎ IsPut g c p (area_of s g p c))
area-cases None g c c0 others p is up may =
    elim (cases_Bool (eqb p.filesz 0)) [
      | inl z ↦ inl (bare-case None g c p z)
      | inr some ↦ inr (inr (put-case g c p is some))
    ]
area-cases (Some a) g c c0 others p is up may =
    elim (cases_Bool (eqb p.filesz 0)) [
      | inl z ↦ inl (bare-case (Some a) g c p z)
      | inr some ↦ inr (inl (old-case a g c c0 others p is up (may a refl) some))
    ]

-- an area that isn't new leaves the cursor
pub record IsPassed (c : ℕ) (a : Area) : Type 0 where
  pub old : is_new c a ≡ false
  pub next : after c a ≡ c

pub put-or-not : (s : Option Area) (g c c0 : ℕ) (others : List Area) (p : Load) → IsGranule g → c0 ≤ c → May s g c0 others p → IsPassed c (area_of s g p c) ⊎ IsPut g c p (area_of s g p c)
put-or-not s g c c0 others p is up may =
    elim (area-cases s g c c0 others p is up may) [
      | inl bare ↦ inl (record { old = bare.old; next = bare.next })
      | inr (inl kept) ↦ inl (record { old = kept.old; next = kept.next })
      | inr (inr put) ↦ inr put
    ]

-- ---- how long the text is

pub length-text : (shares : ℕ → Option Area) (i g : ℕ) (byte : ℕ → ℕ) (loads : List Load) (c c0 : ℕ) (old : List Area) → IsGranule g → c0 ≤ c → AllMayServe shares i g c0 old loads
    → c + length (areas_text c g byte loads (areas_of shares i g loads c)) ≡ end_from c (areas_of shares i g loads c)
length-text shares i g byte [] c c0 old is up may = omega arith
length-text shares i g byte (p ∷ loads) c c0 old is up may =
    let a : Area = area_of (shares i) g p c in
    elim (put-or-not (shares i) g c c0 old p is up may.0) [
      | inl h ↦
          let rest = length-text shares (i + 1) g byte loads c c0 old is up may.1 in
          ap (λ n. c + length (areas_text c g byte (p ∷ loads) (a ∷ areas_of shares (i + 1) g loads n))) h.next
          ∙ ap (λ x. c + length x) (text-old c g byte p loads a (areas_of shares (i + 1) g loads c) h.old)
          ∙ rest
          ∙ sym (ap (λ n. end_from n (areas_of shares (i + 1) g loads n)) h.next)
      | inr h ↦
          let low = h.low in
          let rest = length-text shares (i + 1) g byte loads (end_of a) c0 old is (omega arith) may.1 in
          let gap : List ℕ = zeros (a.file - c) in
          let content : List ℕ = content_of g byte p in
          let tail : List ℕ = areas_text (end_of a) g byte loads (areas_of shares (i + 1) g loads (end_of a)) in
          let l1 = length-append (gap ++ content) tail in
          let l2 = length-append gap content in
          let l3 = length-zeros (a.file - c) in
          let l4 = length-content g byte p is in
          let len = h.len in
          ap (λ n. c + length (areas_text c g byte (p ∷ loads) (a ∷ areas_of shares (i + 1) g loads n))) h.next
          ∙ ap (λ x. c + length x) (text-new c g byte p loads a (areas_of shares (i + 1) g loads (end_of a)) h.new)
          ∙ (let whole : c + length ((gap ++ content) ++ tail) ≡ end_of a + length tail = omega arith in whole)
          ∙ rest
          ∙ sym (ap (λ n. end_from n (areas_of shares (i + 1) g loads n)) h.next)
    ]

-- ---- each area holds its load's content

-- a file holds the content of each load that shares an area
abbrev pub AllShared : (ℕ → Option Area) → ℕ → ℕ → (ℕ → ℕ) → List ℕ → List Load → Type 0
AllShared shares i g byte file [] = Unit {0}
AllShared shares i g byte file (p ∷ loads) = ((a : Area) → shares i ≡ Some a → 0 < p.filesz → Holds file a.file (content_of g byte p)) × AllShared shares (i + 1) g byte file loads

pub none-shared : (i g : ℕ) (byte : ℕ → ℕ) (file : List ℕ) (loads : List Load) → AllShared no_sharing i g byte file loads
none-shared i g byte file [] = tt
none-shared i g byte file (p ∷ loads) = (λ a e. absurd (cc), none-shared (i + 1) g byte file loads)

held-bare : (g : ℕ) (byte : ℕ → ℕ) (file : List ℕ) (c : ℕ) (p : Load) (a : Area) → IsBare g c p a → IsHeld g byte file p a
held-bare g byte file c p a h =
    let n = h.none in
    record { bare = λ e. h.area; len = λ s. absurd (omega arith); granule = λ s. absurd (omega arith); past = λ s. absurd (omega arith); holds = λ s. absurd (omega arith) }

held-old : (g : ℕ) (byte : ℕ → ℕ) (file : List ℕ) (s : Option Area) (c c0 : ℕ) (others : List Area) (p : Load) (a : Area) → IsOld c s p a → May s g c0 others p
    → ((x : Area) → s ≡ Some x → 0 < p.filesz → Holds file x.file (content_of g byte p)) → IsHeld g byte file p a
held-old g byte file s c c0 others p a h may shared =
    let m = may a h.is in
    let n = h.some in
    record { bare = λ z. absurd (omega arith); len = λ s. m.len; granule = λ s. m.granule; past = λ s. m.past; holds = λ s. shared a h.is h.some }

held-put : (g : ℕ) (byte : ℕ → ℕ) (file front tail : List ℕ) (c : ℕ) (p : Load) (a : Area) → IsGranule g → BLOCK ≤ c → length front ≡ c → IsPut g c p a
    → file ≡ (front ++ zeros (a.file - c)) ++ (content_of g byte p ++ tail) → IsHeld g byte file p a
held-put g byte file front tail c p a is past long h spot =
    let gap : List ℕ = zeros (a.file - c) in
    let low = h.low in
    let l1 = length-append front gap in
    let l2 = length-zeros (a.file - c) in
    let before : length (front ++ gap) ≡ a.file = omega arith in
    subst (λ x. IsHeld g byte x p a) (sym spot)
    (record {
      bare = λ z. absurd (let s = h.some in omega arith);
      len = λ s. h.len;
      granule = λ s. ap (λ n. n % g) h.file ∙ ceil-even c g is;
      past = λ s. omega arith;
      holds = λ s. holds-part (front ++ gap) (content_of g byte p) tail a.file (sym before);
    })

pub text-held : (shares : ℕ → Option Area) (i g : ℕ) (byte : ℕ → ℕ) (file : List ℕ) (loads : List Load) (c c0 : ℕ) (old : List Area) (front behind : List ℕ)
    → IsGranule g → BLOCK ≤ c → length front ≡ c → c0 ≤ c → AllMayServe shares i g c0 old loads → AllShared shares i g byte file loads
    → file ≡ front ++ (areas_text c g byte loads (areas_of shares i g loads c) ++ behind) → HoldAll g byte file loads (areas_of shares i g loads c)
text-held shares i g byte file [] c c0 old front behind is past long up may shared whole = tt
text-held shares i g byte file (p ∷ loads) c c0 old front behind is past long up may shared whole =
    let a : Area = area_of (shares i) g p c in
    let passed : IsHeld g byte file p a → is_new c a ≡ false → after c a ≡ c → HoldAll g byte file (p ∷ loads) (a ∷ areas_of shares (i + 1) g loads (after c a)) =
    λ here off next.
    let others : List Area = areas_of shares (i + 1) g loads c in
    subst (λ n. HoldAll g byte file (p ∷ loads) (a ∷ areas_of shares (i + 1) g loads n)) (sym next) (
      here,
      text-held shares (i + 1) g byte file loads c c0 old front behind is past long up may.1 shared.1
          (whole
          ∙ ap (λ n. front ++ (areas_text c g byte (p ∷ loads) (a ∷ areas_of shares (i + 1) g loads n) ++ behind)) next
          ∙ ap (λ x. front ++ (x ++ behind)) (text-old c g byte p loads a others off)),
    ) in
    elim (area-cases (shares i) g c c0 old p is up may.0) [
      | inl h ↦ passed (held-bare g byte file c p a h) h.old h.next
      | inr (inl h) ↦ passed (held-old g byte file (shares i) c c0 old p a h may.0 shared.0) h.old h.next
      | inr (inr h) ↦
          (let others : List Area = areas_of shares (i + 1) g loads (end_of a) in
          let gap : List ℕ = zeros (a.file - c) in
          let content : List ℕ = content_of g byte p in
          let tail : List ℕ = areas_text (end_of a) g byte loads others in
          let low = h.low in
          let len = h.len in
          let l1 = length-append front gap in
          let l2 = length-zeros (a.file - c) in
          let l3 = length-append (front ++ gap) content in
          let l4 = length-content g byte p is in
          let behind_it : length ((front ++ gap) ++ content) ≡ end_of a = omega arith in
          let all : file ≡ ((front ++ gap) ++ content) ++ (tail ++ behind) =
          whole
          ∙ ap (λ n. front ++ (areas_text c g byte (p ∷ loads) (a ∷ areas_of shares (i + 1) g loads n) ++ behind)) h.next
          ∙ ap (λ x. front ++ (x ++ behind)) (text-new c g byte p loads a others h.new)
          ∙ ap (λ x. front ++ x) (append_assoc (gap ++ content) tail behind)
          ∙ sym (append_assoc front (gap ++ content) (tail ++ behind))
          ∙ ap (λ x. x ++ (tail ++ behind)) (sym (append_assoc front gap content)) in
          subst (λ n. HoldAll g byte file (p ∷ loads) (a ∷ areas_of shares (i + 1) g loads n)) (sym h.next) (
            held-put g byte file front (tail ++ behind) c p a is past long h (all ∙ append_assoc (front ++ gap) content (tail ++ behind)),
            text-held shares (i + 1) g byte file loads (end_of a) c0 old ((front ++ gap) ++ content) behind is (omega arith) behind_it (omega arith) may.1 shared.1 all,
          ))
    ]

-- ---- the areas stand one behind the other

pub areas-next : (shares : ℕ → Option Area) (i g size low : ℕ) (loads : List Load) (c c0 : ℕ) (old : List Area) → IsGranule g → c0 ≤ c → AllMayServe shares i g c0 old loads → AreLoads g size low loads → c + room_of loads < 2 ^ 32
    → AreNext g size c loads (areas_of shares i g loads c)
areas-next shares i g size low [] c c0 old is up may h small = tt
areas-next shares i g size low (p ∷ loads) c c0 old is up may h small =
    let a : Area = area_of (shares i) g p c in
    let far = served-end (shares i) g c c0 old p is up may.0 in
    elim (put-or-not (shares i) g c c0 old p is up may.0) [
      | inl b ↦
          let rest = areas-next shares (i + 1) g size (ceil_of (p.vaddr + p.memsz) g) loads c c0 old is up may.1 h.1 (omega arith) in
          let same : end_behind c a ≡ c = cond-false (is_new c a) (end_of a) c b.old in
          subst (λ n. AreNext g size c (p ∷ loads) (a ∷ areas_of shares (i + 1) g loads n)) (sym b.next) (
            record { part = λ on. absurd (not-both (is_new c a) on b.old); gap = λ on. absurd (not-both (is_new c a) on b.old); small = omega arith },
            subst (λ n. AreNext g size n loads (areas_of shares (i + 1) g loads c)) (sym same) rest,
          )
      | inr b ↦
          let low = b.low in
          let rest = areas-next shares (i + 1) g size (ceil_of (p.vaddr + p.memsz) g) loads (end_of a) c0 old is (omega arith) may.1 h.1 (omega arith) in
          let same : end_behind c a ≡ end_of a = cond-true (is_new c a) (end_of a) c b.new in
          let file = b.file in
          let near = near-ceil c g is in
          subst (λ n. AreNext g size c (p ∷ loads) (a ∷ areas_of shares (i + 1) g loads n)) (sym b.next) (
            record { part = λ on. h.0.part b.some; gap = λ on. omega arith; small = omega arith },
            subst (λ n. AreNext g size n loads (areas_of shares (i + 1) g loads (end_of a))) (sym same) rest,
          )
    ]
  where
    not-both : (b : Bool) → b ≡ true → b ≡ false → ⊥
    not-both b on off = absurd (cc)

    near-ceil : (a g : ℕ) → IsGranule g → ceil_of a g < a + g
    near-ceil a g is = elim is [
      | inl e ↦ (let P : ℕ → Type 0 = λ p. ceil_of a p < a + p in let here : ceil_of a 4096 < a + 4096 = grind (arith, nat_tests) in subst P (sym e) here)
      | inr e ↦ (let P : ℕ → Type 0 = λ p. ceil_of a p < a + p in let here : ceil_of a 16384 < a + 16384 = grind (arith, nat_tests) in subst P (sym e) here)
    ]
