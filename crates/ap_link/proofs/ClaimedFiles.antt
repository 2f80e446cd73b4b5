-- A linked file is the file of its claims.
use Rattle.std.proofs.Common.{◌≡◌, inl, inr, ℕ, ◌+◌, ◌-◌, ◌<◌, ◌≤◌, eqb, true, false, cond, List, [], ◌∷◌, ◌++◌, length, get_or, sym, ap, ◌∙◌, subst, arith, append_assoc, length-append, Option, Some, None}
use Rattle.std.proofs.lemmas.Bool.{cases_Bool, cond-true, cond-false}
use Rattle.std.proofs.lemmas.Bool.Decides.{nat_tests}
use Rattle.std.proofs.lemmas.List.{get_or_append_left}
use Rattle.ap_fields.specs.Bytes.{zeros, Holds}
use Rattle.ap_fields.specs.Granules.{IsGranule}
use Rattle.ap_fields.specs.Readings.{bytes_in}
use Rattle.ap_fields.specs.declared.sizes.TheConstants.{BLOCK}
use Rattle.ap_claims.specs.declared.owner.Owner.TheVariants as owner
use Rattle.ap_claims.specs.Blocks.{BlockState}
use Rattle.ap_claims.specs.Lists.{Claim, Among, claim}
use Rattle.ap_claims.specs.Files.{IsFile, IsFilled, owners_at}
use Rattle.ap_claims.proofs.OneFile.{files-one}
use Rattle.ap_claims.proofs.Growing.{IsFrom, no-text, front-claim, front-zeros, joined-file, holds-front, among-front, among-behind, among-either, owners-before}
use Rattle.ap_check.specs.declared.load.Load.{Load}
use Rattle.ap_check.specs.declared.options.Options.{Options}
use Rattle.ap_elf.specs.Machines.{granule_of}
use Rattle.ap_check.specs.Inputs.{Taken}
use Rattle.ap_layout.specs.declared.layout.Area.{Area}
use Rattle.ap_layout.specs.Areas.{content_of, end_of, area_of, areas_of, end_from, is_new}
use Rattle.ap_layout.specs.Positions.{Positions, Fits, no_sharing, shared_with, areas_one, areas_two, end_one}
use Rattle.ap_layout.proofs.Fitting.{second-may}
use Rattle.ap_layout.proofs.Serving.{AllMayServe, nothing-shared}
use Rattle.ap_layout.proofs.Rounded.{granule_of-is}
use Rattle.ap_script.specs.Claims.{block_claims}
use Rattle.ap_script.specs.Blocks.{block_of}
use Rattle.ap_script.proofs.Claimed.{block-claimed}
use Rattle.ap_script.proofs.BlockParts.{length-block}
use Rattle.ap_link.specs.Linked.{areas_text, text_one, text_two, tail_of}
use Rattle.ap_link.specs.LinkedIn.{IsHeld, HoldAll}
use Rattle.ap_link.specs.LinkedClaims.{area_claims, input_claims, tail_claims}
use Rattle.ap_link.proofs.AreaTexts.{text-new, text-old}
use Rattle.ap_link.proofs.Contents.{length-content}
use Rattle.ap_link.proofs.PlacedTexts.{put-or-not, length-text}

not-empty : (c : ℕ) (a : Area) → is_new c a ≡ true → eqb a.len 0 ≡ false
not-empty c a new = grind (arith, nat_tests)

-- the contents of the areas that are new
abbrev new_claims : ℕ → ℕ → (ℕ → ℕ) → List Load → List Area → List Claim
new_claims c g byte [] areas = []
new_claims c g byte (p ∷ loads) [] = []
new_claims c g byte (p ∷ loads) (a ∷ areas) =
    cond (is_new c a) (claim owner.Area a.file (content_of g byte p) ∷ new_claims (end_of a) g byte loads areas) (new_claims c g byte loads areas)

-- the areas of loads that are new, from a cursor on
from-areas : (shares : ℕ → Option Area) (i g : ℕ) (byte : ℕ → ℕ) (loads : List Load) (c c0 : ℕ) (old : List Area) → IsGranule g → c0 ≤ c → AllMayServe shares i g c0 old loads
    → IsFrom c (new_claims c g byte loads (areas_of shares i g loads c)) (areas_text c g byte loads (areas_of shares i g loads c))
from-areas shares i g byte [] c c0 old is up may = no-text c
from-areas shares i g byte (p ∷ loads) c c0 old is up may =
    let a : Area = area_of (shares i) g p c in
    let one : Claim = claim owner.Area a.file (content_of g byte p) in
    elim (put-or-not (shares i) g c c0 old p is up may.0) [
      | inl h ↦
          (let others : List Area = areas_of shares (i + 1) g loads c in
          let claims : new_claims c g byte (p ∷ loads) (a ∷ others) ≡ new_claims c g byte loads others = cond-false (is_new c a) (one ∷ new_claims (end_of a) g byte loads others) (new_claims c g byte loads others) h.old in
          subst (λ n. IsFrom c (new_claims c g byte (p ∷ loads) (a ∷ areas_of shares (i + 1) g loads n)) (areas_text c g byte (p ∷ loads) (a ∷ areas_of shares (i + 1) g loads n))) (sym h.next)
          (subst (λ cs. IsFrom c cs (areas_text c g byte (p ∷ loads) (a ∷ others))) (sym claims)
          (subst (IsFrom c (new_claims c g byte loads others)) (sym (text-old c g byte p loads a others h.old)) (from-areas shares (i + 1) g byte loads c c0 old is up may.1))))
      | inr h ↦
          (let others : List Area = areas_of shares (i + 1) g loads (end_of a) in
          let more : List Claim = new_claims (end_of a) g byte loads others in
          let tail : List ℕ = areas_text (end_of a) g byte loads others in
          let low = h.low in
          let len = h.len in
          let long = length-content g byte p is in
          let gap : a.file ≡ c + (a.file - c) = omega arith in
          let past : end_of a ≡ a.file + length (content_of g byte p) = omega arith in
          let claims : new_claims c g byte (p ∷ loads) (a ∷ others) ≡ one ∷ more = cond-true (is_new c a) (one ∷ more) (new_claims c g byte loads others) h.new in
          let rest : IsFrom (a.file + length (content_of g byte p)) more tail = subst (λ n. IsFrom n more tail) past (from-areas shares (i + 1) g byte loads (end_of a) c0 old is (omega arith) may.1) in
          subst (λ n. IsFrom c (new_claims c g byte (p ∷ loads) (a ∷ areas_of shares (i + 1) g loads n)) (areas_text c g byte (p ∷ loads) (a ∷ areas_of shares (i + 1) g loads n))) (sym h.next)
          (subst (λ cs. IsFrom c cs (areas_text c g byte (p ∷ loads) (a ∷ others))) (sym claims)
          (subst (IsFrom c (one ∷ more)) (sym (text-new c g byte p loads a others h.new ∙ append_assoc (zeros (a.file - c)) (content_of g byte p) tail))
          (front-zeros c (a.file - c) a.file (one ∷ more) (content_of g byte p ++ tail) gap (front-claim one more tail rest)))))
    ]

-- they are among the claims of all areas
new-among : (c g : ℕ) (byte : ℕ → ℕ) (loads : List Load) (areas : List Area) (d : Claim) → Among d (new_claims c g byte loads areas) → Among d (area_claims g byte loads areas)
new-among c g byte [] areas d h = absurd h
new-among c g byte (p ∷ loads) [] d h = absurd h
new-among c g byte (p ∷ loads) (a ∷ areas) d h =
    let one : Claim = claim owner.Area a.file (content_of g byte p) in
    let rest : List Claim = area_claims g byte loads areas in
    elim (cases_Bool (is_new c a)) [
      | inl on ↦
          (let all : one ∷ rest ≡ area_claims g byte (p ∷ loads) (a ∷ areas) = sym (cond-false (eqb a.len 0) rest (one ∷ rest) (not-empty c a on)) in
          elim (subst (Among d) (cond-true (is_new c a) (one ∷ new_claims (end_of a) g byte loads areas) (new_claims c g byte loads areas) on) h) [
            | inl is ↦ subst (Among d) all (inl is)
            | inr more ↦ subst (Among d) all (inr (new-among (end_of a) g byte loads areas d more))
          ])
      | inr off ↦
          (let left = new-among c g byte loads areas d (subst (Among d) (cond-false (is_new c a) (one ∷ new_claims (end_of a) g byte loads areas) (new_claims c g byte loads areas) off) h) in
          elim (cases_Bool (eqb a.len 0)) [
            | inl z ↦ subst (Among d) (sym (cond-true (eqb a.len 0) rest (one ∷ rest) z)) left
            | inr some ↦ subst (Among d) (sym (cond-false (eqb a.len 0) rest (one ∷ rest) some)) (inr left)
          ])
    ]

-- a file that holds the areas has each claim's bytes, and no claim begins in the block
pub claims-held : (g : ℕ) (byte : ℕ → ℕ) (file : List ℕ) (loads : List Load) (areas : List Area) (d : Claim) → HoldAll g byte file loads areas → Among d (area_claims g byte loads areas) → (BLOCK ≤ d.at) × Holds file d.at d.bytes
claims-held g byte file [] areas d h among = absurd among
claims-held g byte file (p ∷ loads) [] d h among = absurd among
claims-held g byte file (p ∷ loads) (a ∷ areas) d h among =
    let one : Claim = claim owner.Area a.file (content_of g byte p) in
    let rest : List Claim = area_claims g byte loads areas in
    let here : IsHeld g byte file p a = h.0 in
    elim (cases_Bool (eqb a.len 0)) [
      | inl z ↦ claims-held g byte file loads areas d h.1 (subst (Among d) (cond-true (eqb a.len 0) rest (one ∷ rest) z) among)
      | inr some ↦ elim (subst (Among d) (cond-false (eqb a.len 0) rest (one ∷ rest) some) among) [
        | inl is ↦ elim (cases_Bool (eqb p.filesz 0)) [
          | inl none ↦
              (let z : p.filesz ≡ 0 = grind (arith, nat_tests) in
              let empty : a.len ≡ 0 = ap (λ (x : Area). x.len) (here.bare z) in
              let long : 0 < a.len = grind (arith, nat_tests) in
              absurd (omega arith))
          | inr bytes ↦
              (let more : 0 < p.filesz = grind (arith, nat_tests) in
              subst (λ (x : Claim). (BLOCK ≤ x.at) × Holds file x.at x.bytes) (sym is) (here.past more, here.holds more))
        ]
        | inr more ↦ claims-held g byte file loads areas d h.1 more
      ]
    ]

-- claims that a file has, beside those that it is made of
more-file : (n : ℕ) (xs ys : List Claim) (file : List ℕ) → IsFile n xs file → ((c : Claim) → Among c xs → Among c ys) → ((c : Claim) → Among c ys → Holds file c.at c.bytes) → IsFile n ys file
more-file n xs ys file h sub held = record { len = h.len; held = held; free = λ k free. h.free k (λ c among. free c (sub c among)) }

-- the claims of new areas
abbrev new_of : ℕ → Taken → List ℕ → List Area → List Claim
new_of c e bytes areas = new_claims c (granule_of e.machine) (bytes_in bytes) e.loads areas

from-one : (e : Taken) (a : List ℕ) → IsFrom BLOCK (new_of BLOCK e a (areas_one e)) (text_one e a)
from-one e a = from-areas no_sharing 0 (granule_of e.machine) (bytes_in a) e.loads BLOCK 0 [] (granule_of-is e.machine) (omega arith) (nothing-shared 0 (granule_of e.machine) 0 [] e.loads)

from-two : (masks : List ℕ) (e f : Taken) (b : List ℕ) → IsFrom (end_one e) (new_of (end_one e) f b (areas_two masks e f)) (text_two masks e f b)
from-two masks e f b =
    from-areas (shared_with masks (areas_one e) f) 0 (granule_of f.machine) (bytes_in b) f.loads (end_one e) (end_one e) _ (granule_of-is f.machine) (omega arith) (second-may masks e f)

-- where the text of an input ends
pub one-ends : (e : Taken) (a : List ℕ) → BLOCK + length (text_one e a) ≡ end_one e
one-ends e a = length-text no_sharing 0 (granule_of e.machine) (bytes_in a) e.loads BLOCK 0 [] (granule_of-is e.machine) (omega arith) (nothing-shared 0 (granule_of e.machine) 0 [] e.loads)

pub two-ends : (masks : List ℕ) (e f : Taken) (b : List ℕ) → end_one e + length (text_two masks e f b) ≡ end_from (end_one e) (areas_two masks e f)
two-ends masks e f b =
    length-text (shared_with masks (areas_one e) f) 0 (granule_of f.machine) (bytes_in b) f.loads (end_one e) (end_one e) _ (granule_of-is f.machine) (omega arith) (second-may masks e f)

-- each input's areas have their loads' contents
abbrev pub AreHeld : List ℕ → Taken → List ℕ → Option (Taken × List ℕ) → List ℕ → Type 0
AreHeld masks e a None file = HoldAll (granule_of e.machine) (bytes_in a) file e.loads (areas_one e)
AreHeld masks e a (Some (f, b)) file =
    HoldAll (granule_of e.machine) (bytes_in a) file e.loads (areas_one e) × HoldAll (granule_of f.machine) (bytes_in b) file f.loads (areas_two masks e f)

-- no area begins in the block, and a file that has the areas has each claim's bytes
pub tail-held : (masks : List ℕ) (e : Taken) (a : List ℕ) (o : Option (Taken × List ℕ)) (file : List ℕ) (c : Claim) → AreHeld masks e a o file → Among c (tail_claims masks e a o) → (BLOCK ≤ c.at) × Holds file c.at c.bytes
tail-held masks e a None file c h among = claims-held (granule_of e.machine) (bytes_in a) file e.loads (areas_one e) c h among
tail-held masks e a (Some (f, b)) file c h among = elim (among-either c (input_claims e a (areas_one e)) (input_claims f b (areas_two masks e f)) among) [
  | inl first ↦ claims-held (granule_of e.machine) (bytes_in a) file e.loads (areas_one e) c h.0 first
  | inr second ↦ claims-held (granule_of f.machine) (bytes_in b) file f.loads (areas_two masks e f) c h.1 second
]

-- the whole file, of the size that it has
pub whole-claimed : (masks : List ℕ) (w : List ℕ) (claims : List Claim) (e : Taken) (a : List ℕ) (o : Option (Taken × List ℕ)) (size : ℕ) → IsFile BLOCK claims w → length (w ++ tail_of masks e a o) ≡ size
    → AreHeld masks e a o (w ++ tail_of masks e a o) → IsFile size (claims ++ tail_claims masks e a o) (w ++ tail_of masks e a o)
whole-claimed masks w claims e a None size h long held =
    let l = length-append w (text_one e a) in
    let b = h.len in
    let one : List Claim = new_of BLOCK e a (areas_one e) in
    let file : List ℕ = w ++ text_one e a in
    let made = joined-file BLOCK size claims one w (text_one e a) h (from-one e a) (omega arith) in
    more-file size (claims ++ one) (claims ++ input_claims e a (areas_one e)) file made
    (λ c among. elim (among-either c claims one among) [
      | inl front ↦ among-front c claims (input_claims e a (areas_one e)) front
      | inr tail ↦ among-behind c claims (input_claims e a (areas_one e)) (new-among BLOCK (granule_of e.machine) (bytes_in a) e.loads (areas_one e) c tail)
    ])
    (λ c among. elim (among-either c claims (input_claims e a (areas_one e)) among) [
      | inl front ↦ holds-front w (text_one e a) c.at c.bytes (h.held c front)
      | inr tail ↦ (tail-held masks e a None file c held tail).1
    ])
whole-claimed masks w claims e a (Some (f, b)) size h long held =
    let one : List ℕ = text_one e a in
    let two : List ℕ = text_two masks e f b in
    let l = length-append w (one ++ two) in
    let m = length-append one two in
    let block = h.len in
    let ends = one-ends e a in
    let xs : List Claim = new_of BLOCK e a (areas_one e) in
    let ys : List Claim = new_of (end_one e) f b (areas_two masks e f) in
    let all : List Claim = tail_claims masks e a (Some (f, b)) in
    let ones : List Claim = input_claims e a (areas_one e) in
    let twos : List Claim = input_claims f b (areas_two masks e f) in
    let file : List ℕ = w ++ (one ++ two) in
    let first = joined-file BLOCK (end_one e) claims xs w one h (from-one e a) ends in
    let both = joined-file (end_one e) size (claims ++ xs) ys (w ++ one) two first (from-two masks e f b) (omega arith) in
    more-file size ((claims ++ xs) ++ ys) (claims ++ all) file (subst (IsFile size ((claims ++ xs) ++ ys)) (append_assoc w one two) both)
    (λ c among. elim (among-either c (claims ++ xs) ys among) [
      | inl before ↦ elim (among-either c claims xs before) [
        | inl front ↦ among-front c claims all front
        | inr mid ↦ among-behind c claims all (among-front c ones twos (new-among BLOCK (granule_of e.machine) (bytes_in a) e.loads (areas_one e) c mid))
      ]
      | inr tail ↦ among-behind c claims all (among-behind c ones twos (new-among (end_one e) (granule_of f.machine) (bytes_in b) f.loads (areas_two masks e f) c tail))
    ])
    (λ c among. elim (among-either c claims all among) [
      | inl front ↦ holds-front w (one ++ two) c.at c.bytes (h.held c front)
      | inr tail ↦ (tail-held masks e a (Some (f, b)) file c held tail).1
    ])

-- a block that is filled is the file's first part
pub block-bytes : (options : Options) (inputs : List Taken) (l : Positions) (b : BlockState) → Fits options inputs l → IsFilled (block_claims options inputs l) b → b.bytes ≡ block_of options inputs l
block-bytes options inputs l b fits h = files-one BLOCK (block_claims options inputs l) b.bytes (block_of options inputs l) h.bytes (block-claimed options inputs l fits)

pub bytes-lent : (options : Options) (inputs : List Taken) (l : Positions) (tail : List ℕ) (b : BlockState) (k : ℕ) → Fits options inputs l → IsFilled (block_claims options inputs l) b → k < BLOCK
    → get_or b.bytes k 0 ≡ get_or (block_of options inputs l ++ tail) k 0
bytes-lent options inputs l tail b k fits h low =
    let long = length-block options inputs l fits in
    ap (λ x. get_or x k 0) (block-bytes options inputs l b fits h)
    ∙ sym (get_or_append_left (block_of options inputs l) tail 0 k (omega arith))

pub owners-lent : (masks : List ℕ) (claims : List Claim) (e : Taken) (a : List ℕ) (o : Option (Taken × List ℕ)) (file : List ℕ) (b : BlockState) (k : ℕ) → AreHeld masks e a o file → IsFilled claims b → k < BLOCK
    → get_or b.owners k 0 ≡ owners_at (claims ++ tail_claims masks e a o) k
owners-lent masks claims e a o file b k held h low = h.owners k ∙ sym (owners-before claims (tail_claims masks e a o) k 0 (λ c among. let past = (tail-held masks e a o file c held among).0 in omega arith))
