-- Contents of loads, read in pieces and compared.
use Rattle.std.proofs.Common.{◌≡◌, ◌⊎◌, inl, inr, ℕ, ◌+◌, ◌-◌, ◌%◌, ◌<◌, ◌≤◌, min, cond, nat_le, nat_lt, ◌&&◌, true, false, List, ◌++◌, length, take, drop, get_or, refl, sym, ap, ◌∙◌, subst, arith, length-append, length-drop, Some, Result, Ok, Err}
use Rattle.std.proofs.lemmas.Bool.{cases_Bool}
use Rattle.std.proofs.lemmas.Bool.Decides.{nat_tests}
use Rattle.std.proofs.lemmas.List.{get_or-append_right, get_or_append_left, get_or-take, get_or-drop, length-take-le, take_all, take-take, drop-take, drop-drop, take-append-drop}
use Rattle.std.proofs.lemmas.Grind.{same_number_lists}
use Rattle.std.proofs.lemmas.Slice.Eq.{bytes_eq-Decides}
use Rattle.std.specs.Str.{bytes_eq}
use Rattle.ap_fields.specs.Granules.{IsGranule}
use Rattle.ap_files.specs.Files.{FileMap, FileState, HasRange, ReadsAt}
use Rattle.ap_files.specs.declared.failure.Failed.{Failed}
use Rattle.ap_files.proofs.ReadLemmas.{same_state, told_as}
use Rattle.ap_check.specs.declared.load.Load.{Load}
use Rattle.ap_layout.specs.Areas.{content_of, content_length}
use Rattle.ap_layout.specs.Twins.{are_twins}
use Rattle.ap_link.specs.Compared.{IsInFile, ReadsContent, byte_told, may_match}
use Rattle.ap_link.proofs.Contents.{content-at, length-content}

-- the n bytes of a content from a place on
abbrev pub piece_of : ℕ → (ℕ → ℕ) → Load → ℕ → ℕ → List ℕ
piece_of g byte p at n = take n (drop at (content_of g byte p))

length-piece : (g : ℕ) (byte : ℕ → ℕ) (p : Load) (at n : ℕ) → IsGranule g → at + n ≤ content_length g p → length (piece_of g byte p at n) ≡ n
length-piece g byte p at n is h =
    let l = length-drop at (content_of g byte p) in
    let m = length-content g byte p is in
    length-take-le n (drop at (content_of g byte p)) (omega arith)

piece-at : (g : ℕ) (byte : ℕ → ℕ) (p : Load) (at n k : ℕ) → k < n
    → get_or (piece_of g byte p at n) k 0 ≡ cond (nat_le (p.vaddr % g) (at + k) && nat_lt (at + k) (p.vaddr % g + p.filesz)) (byte (p.offset + (at + k - p.vaddr % g))) 0
piece-at g byte p at n k h =
    get_or-take n (drop at (content_of g byte p)) k 0 h
    ∙ get_or-drop at (content_of g byte p) k 0
    ∙ content-at g byte p (at + k)

-- a place outside the load's bytes holds a zero
beside : (d m t x : ℕ) → (t < d) ⊎ (d + m ≤ t) → cond (nat_le d t && nat_lt t (d + m)) x 0 ≡ 0
beside d m t x out =
    elim (cases_Bool (nat_le d t && nat_lt t (d + m))) [
      | inl on ↦ (absurd (elim out [ inl a ↦ (grind (arith, nat_tests)) | inr b ↦ (grind (arith, nat_tests)) ]))
      | inr off ↦ (rw off refl)
    ]

inside : (d m t x : ℕ) → d ≤ t → t < d + m → cond (nat_le d t && nat_lt t (d + m)) x 0 ≡ x
inside d m t x a b =
    elim (cases_Bool (nat_le d t && nat_lt t (d + m))) [
      | inl on ↦ (rw on refl)
      | inr off ↦ (absurd (grind (arith, nat_tests)))
    ]

-- a piece that holds none of the load's bytes
pub bare-piece : (g : ℕ) (byte : ℕ → ℕ) (p : Load) (at n front end : ℕ) (zs : List ℕ) → IsGranule g → at + n ≤ content_length g p
    → front ≡ min (p.vaddr % g - at) n → end ≡ min (p.vaddr % g + p.filesz - at) n → end ≤ front
    → length zs ≡ n → ((k : ℕ) → k < front → get_or zs k 0 ≡ 0) → ((k : ℕ) → end ≤ k → get_or zs k 0 ≡ 0) → zs ≡ piece_of g byte p at n
bare-piece g byte p at n front end zs is room fr en none long before behind =
    same_number_lists zs (piece_of g byte p at n) (long ∙ sym (length-piece g byte p at n is room))
    (λ k h.
    let lt : k < n = omega arith in
    let out : (at + k < p.vaddr % g) ⊎ (p.vaddr % g + p.filesz ≤ at + k) = apart (p.vaddr % g) p.filesz at n front end k fr en none lt in
    zero k (cases_Bool (nat_lt k front)) ∙ sym (piece-at g byte p at n k lt ∙ beside (p.vaddr % g) p.filesz (at + k) (byte (p.offset + (at + k - p.vaddr % g))) out))
  where
    apart : (d m at n front end k : ℕ) → front ≡ min (d - at) n → end ≡ min (d + m - at) n → end ≤ front → k < n → (at + k < d) ⊎ (d + m ≤ at + k)
    apart d m at n front end k fr en none lt = grind arith

    zero : (k : ℕ) → (nat_lt k front ≡ true) ⊎ (nat_lt k front ≡ false) → get_or zs k 0 ≡ 0
    zero k (inl a) = before k (grind (arith, nat_tests))
    zero k (inr a) = behind k (grind (arith, nat_tests))

-- a piece of which the load's bytes were read between zeros
pub read-piece : (g : ℕ) (byte : ℕ → ℕ) (p : Load) (at n front end : ℕ) (zs rs : List ℕ) → IsGranule g → at + n ≤ content_length g p
    → front ≡ min (p.vaddr % g - at) n → end ≡ min (p.vaddr % g + p.filesz - at) n → front < end
    → length zs ≡ n → ((k : ℕ) → k < front → get_or zs k 0 ≡ 0) → ((k : ℕ) → end ≤ k → get_or zs k 0 ≡ 0)
    → length rs ≡ end - front → ((i : ℕ) → i < end - front → get_or rs i 0 ≡ byte (p.offset + (at + front - p.vaddr % g) + i))
    → take front zs ++ (rs ++ drop end zs) ≡ piece_of g byte p at n
read-piece g byte p at n front end zs rs is room fr en some long before behind read told =
    let low : front ≤ n = grind arith in
    let high : end ≤ n = grind arith in
    let l1 = length-append (take front zs) (rs ++ drop end zs) in
    let l2 = length-append rs (drop end zs) in
    let l3 = length-drop end zs in
    let l4 : length (take front zs) ≡ front = length-take-le front zs (omega arith) in
    same_number_lists (take front zs ++ (rs ++ drop end zs)) (piece_of g byte p at n) (omega (arith, l1, l2, l3, l4) ∙ sym (length-piece g byte p at n is room))
    (λ k h.
    let lt : k < n = omega arith in
    at-place k lt l4 (cases_Bool (nat_lt k front)) (cases_Bool (nat_lt k end)) ∙ sym (piece-at g byte p at n k lt))
  where
    at-place : (k : ℕ) → k < n → length (take front zs) ≡ front → (nat_lt k front ≡ true) ⊎ (nat_lt k front ≡ false) → (nat_lt k end ≡ true) ⊎ (nat_lt k end ≡ false)
        → get_or (take front zs ++ (rs ++ drop end zs)) k 0 ≡ cond (nat_le (p.vaddr % g) (at + k) && nat_lt (at + k) (p.vaddr % g + p.filesz)) (byte (p.offset + (at + k - p.vaddr % g))) 0
    at-place k lt l4 (inl a) b =
        let below : k < front = grind (arith, nat_tests) in
        get_or_append_left (take front zs) (rs ++ drop end zs) 0 k (omega arith)
        ∙ get_or-take front zs k 0 below
        ∙ before k below
        ∙ sym (beside (p.vaddr % g) p.filesz (at + k) (byte (p.offset + (at + k - p.vaddr % g))) (inl (grind arith)))
    at-place k lt l4 (inr a) (inl b) =
        let past : front ≤ k = grind (arith, nat_tests) in
        let below : k < end = grind (arith, nat_tests) in
        let same : p.offset + (at + front - p.vaddr % g) + (k - front) ≡ p.offset + (at + k - p.vaddr % g) = grind arith in
        get_or-append_right (take front zs) (rs ++ drop end zs) front k 0 l4 past
        ∙ get_or_append_left rs (drop end zs) 0 (k - front) (omega arith)
        ∙ told (k - front) (omega arith)
        ∙ ap byte same
        ∙ sym (inside (p.vaddr % g) p.filesz (at + k) (byte (p.offset + (at + k - p.vaddr % g))) (grind arith) (grind arith))
    at-place k lt l4 (inr a) (inr b) =
        let past : front ≤ k = grind (arith, nat_tests) in
        let over : end ≤ k = grind (arith, nat_tests) in
        get_or-append_right (take front zs) (rs ++ drop end zs) front k 0 l4 past
        ∙ get_or-append_right rs (drop end zs) (end - front) (k - front) 0 read (omega arith)
        ∙ get_or-drop end zs (k - front - (end - front)) 0
        ∙ behind (end + (k - front - (end - front))) (omega arith)
        ∙ sym (beside (p.vaddr % g) p.filesz (at + k) (byte (p.offset + (at + k - p.vaddr % g))) (inr (grind arith)))

-- what a read gives of a load's bytes
told-piece : (old new : FileState) (name : List ℕ) (from : ℕ) (before after : List ℕ) (m : FileMap) → HasRange old.kept name from (length before) → ReadsAt old new name from before after (Ok tt) → old.kept ≡ Some m
    → (i : ℕ) → i < length before → get_or after i 0 ≡ byte_told old.kept name (from + i)
told-piece old new name from before after m has read k i lt =
    let t = has m k in
    ap (λ l. get_or l i 0) (read.bytes m t.0 k t.1)
    ∙ get_or-take (length before) (drop from t.0) i 0 lt
    ∙ get_or-drop from t.0 i 0
    ∙ ap (λ l. get_or l (from + i) 0) (sym (told_as old.kept name m t.0 k t.1))

-- a read into the buffer, whichever way it ends
pub content-read : (old new : FileState) (name : List ℕ) (g : ℕ) (p : Load) (at from : ℕ) (buf before after whole : List ℕ) (r : Result (Unit {0}) Failed)
    → ReadsAt old new name from before after r → ((m : FileMap) → old.kept ≡ Some m → ReadsAt old new name from before after (Ok tt) → whole ≡ piece_of g (byte_told old.kept name) p at (length buf))
    → ReadsContent old new name g p at buf whole r
content-read old new name g p at from buf before after whole (Ok u) read is = (same_state old new read.files read.ok, λ m k. is m k read)
content-read old new name g p at from buf before after whole (Err e) read is = record { files = read.files; rose = read.failed; write_faults = read.write_faults; absences = read.absences }

-- the whole of a read of a part of the load's bytes
pub content-part : (old new : FileState) (name : List ℕ) (g : ℕ) (p : Load) (at front end : ℕ) (buf zs after : List ℕ) (m : FileMap) → IsGranule g → at + length buf ≤ content_length g p
    → front ≡ min (p.vaddr % g - at) (length buf) → end ≡ min (p.vaddr % g + p.filesz - at) (length buf) → front < end
    → length zs ≡ length buf → ((k : ℕ) → k < front → get_or zs k 0 ≡ 0) → ((k : ℕ) → end ≤ k → get_or zs k 0 ≡ 0)
    → IsInFile old.kept name p → old.kept ≡ Some m
    → length after ≡ end - front
    → (before : List ℕ) → length before ≡ end - front
    → ReadsAt old new name (p.offset + (at + front - p.vaddr % g)) before after (Ok tt)
    → take front zs ++ (after ++ drop (end - front) (drop front zs)) ≡ piece_of g (byte_told old.kept name) p at (length buf)
content-part old new name g p at front end buf zs after m is room fr en some long front-zero end-zero there k full before size read =
    let from : ℕ = p.offset + (at + front - p.vaddr % g) in
    let has : HasRange old.kept name from (length before) = λ n kn. (let t = there.range n kn in (t.0, t.1, (let l = t.2 in grind arith))) in
    ap (λ l. take front zs ++ (after ++ l)) (drop-drop (end - front) front zs ∙ ap (λ i. drop i zs) (let e : front + (end - front) ≡ end = omega arith in e))
    ∙ read-piece g (byte_told old.kept name) p at (length buf) front end zs after is room fr en some long front-zero end-zero full
    (λ i lt. told-piece old new name from before after m has read k i (omega arith))

-- what was read, by the state before all reads
pub read-told : (old now new : FileState) (name : List ℕ) (g : ℕ) (p : Load) (at n : ℕ) (before after : List ℕ) → now ≡ old → length before ≡ n → ReadsContent now new name g p at before after (Ok tt)
    → (new ≡ old) × ((m : FileMap) → old.kept ≡ Some m → after ≡ piece_of g (byte_told old.kept name) p at n)
read-told old now new name g p at n before after same long read = (
  read.0 ∙ same,
  λ m k.
      subst (λ (s : FileState). (m : FileMap) → s.kept ≡ Some m → after ≡ piece_of g (byte_told s.kept name) p at (length before)) same read.1 m k
      ∙ ap (piece_of g (byte_told old.kept name) p at) long,
)

-- ---- whole contents

-- loads that can't match aren't twins
pub unlike : (g : ℕ) (byte : ℕ → ℕ) (p : Load) (h : ℕ) (other : ℕ → ℕ) (q : Load) → IsGranule g → IsGranule h → may_match g p h q ≡ false → are_twins g byte p h other q ≡ false
unfolding may_match
unlike g byte p h other q is it off =
    elim (cases_Bool (bytes_eq (content_of g byte p) (content_of h other q))) [
      | inl same ↦
          (let e = ap length ((bytes_eq-Decides (content_of g byte p) (content_of h other q)).0 same) in
          let l = length-content g byte p is in
          let m = length-content h other q it in
          let len : content_length g p ≡ content_length h q = sym l ∙ e ∙ m in
          grind (arith, nat_tests))
      | inr differ ↦ (grind (arith, nat_tests))
    ]

pub alike : (g : ℕ) (byte : ℕ → ℕ) (p : Load) (h : ℕ) (other : ℕ → ℕ) (q : Load) → may_match g p h q ≡ true → are_twins g byte p h other q ≡ bytes_eq (content_of g byte p) (content_of h other q)
unfolding may_match
alike g byte p h other q on = grind (arith, nat_tests)

pub same-length : (g : ℕ) (p : Load) (h : ℕ) (q : Load) → may_match g p h q ≡ true → content_length g p ≡ content_length h q
unfolding may_match
same-length g p h q on = grind (arith, nat_tests)

-- one piece differs
pub differ : (g : ℕ) (byte : ℕ → ℕ) (p : Load) (h : ℕ) (other : ℕ → ℕ) (q : Load) (at n : ℕ) (x y : List ℕ) → may_match g p h q ≡ true
    → x ≡ piece_of g byte p at n → y ≡ piece_of h other q at n → (x ≡ y → ⊥) → false ≡ are_twins g byte p h other q
differ g byte p h other q at n x y may is it other-than =
    elim (cases_Bool (bytes_eq (content_of g byte p) (content_of h other q))) [
      | inl same ↦ (absurd (other-than (is ∙ ap (λ l. take n (drop at l)) ((bytes_eq-Decides (content_of g byte p) (content_of h other q)).0 same) ∙ sym it)))
      | inr off ↦ (sym (alike g byte p h other q may ∙ off))
    ]

-- one more piece is the same
split : (l : List ℕ) (at n : ℕ) → take (at + n) l ≡ take at l ++ take n (drop at l)
split l at n =
    sym
    (ap (λ f. f ++ take n (drop at l)) (sym (take-take at (at + n) l (omega arith)))
    ∙ ap (λ f. take at (take (at + n) l) ++ f) (sym (drop-take at n l))
    ∙ take-append-drop at (take (at + n) l))

pub agree-more : (c d : List ℕ) (at n : ℕ) (x y : List ℕ) → take at c ≡ take at d → x ≡ take n (drop at c) → y ≡ take n (drop at d) → x ≡ y → take (at + n) c ≡ take (at + n) d
agree-more c d at n x y before is it e = split c at n ∙ ap (λ l. l ++ take n (drop at c)) before ∙ ap (λ l. take at d ++ l) (sym is ∙ e ∙ it) ∙ sym (split d at n)

-- all pieces are the same
pub agree-all : (g : ℕ) (byte : ℕ → ℕ) (p : Load) (h : ℕ) (other : ℕ → ℕ) (q : Load) (at : ℕ) → IsGranule g → IsGranule h → may_match g p h q ≡ true → content_length g p ≤ at
    → take at (content_of g byte p) ≡ take at (content_of h other q) → true ≡ are_twins g byte p h other q
agree-all g byte p h other q at is it may end same =
    let l = length-content g byte p is in
    let m = length-content h other q it in
    let e = same-length g p h q may in
    let whole : content_of g byte p ≡ content_of h other q = sym (take_all at (content_of g byte p) (omega arith)) ∙ same ∙ take_all at (content_of h other q) (omega arith) in
    sym (alike g byte p h other q may ∙ (bytes_eq-Decides (content_of g byte p) (content_of h other q)).1 whole)

-- loads that may match have bytes
pub some-bytes : (g : ℕ) (p : Load) (h : ℕ) (q : Load) → may_match g p h q ≡ true → (0 < p.filesz) × (0 < q.filesz)
unfolding may_match
some-bytes g p h q on = (grind (arith, nat_tests), grind (arith, nat_tests))

pub there-still : (old now : FileState) (name : List ℕ) (p : Load) → now ≡ old → IsInFile old.kept name p → IsInFile now.kept name p
there-still old now name p same there = subst (λ (s : FileState). IsInFile s.kept name p) (sym same) there
