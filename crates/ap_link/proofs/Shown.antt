-- One image: regions that show the loads of an input, each in the load's granules, have the input's cells, and nothing but
-- zeros beside them.
use Rattle.std.proofs.Common.{◌≡◌, ◌⊎◌, inl, inr, ℕ, ◌+◌, ◌-◌, ◌%◌, ◌<◌, ◌≤◌, true, false, Bool, cond, nat_le, nat_lt, ◌==◌, ◌&&◌, List, [], ◌∷◌, length, map, get_or, slice_index, Option, Some, None, refl, ap, ◌∙◌, arith, subst}
use Rattle.std.proofs.lemmas.Bool.{cases_Bool, cond-true, cond-false}
use Rattle.std.proofs.lemmas.Bool.Decides.{nat_tests}
use Rattle.ap_fields.specs.Bytes.{Holds}
use Rattle.ap_fields.specs.Granules.{IsGranule, floor_of, ceil_of}
use Rattle.ap_fields.specs.Readings.{Cell, MemoryImage, bytes_in}
use Rattle.ap_elf.specs.declared.types.Entry.{Entry}
use Rattle.ap_elf.specs.InputCell as input
use Rattle.ap_elf.specs.InputCell.{input_cell, permissions_of}
use Rattle.ap_check.specs.declared.load.Load.{Load}
use Rattle.ap_check.specs.Inputs.{AreLoads, IsLoad, load_of}
use Rattle.ap_image.specs.declared.plan.Region.{Region}
use Rattle.ap_image.specs.Plans as plan
use Rattle.ap_image.specs.Plans.{end_of, region_byte, cell_in}
use Rattle.ap_layout.specs.declared.layout.Area.{Area}
use Rattle.ap_layout.specs.Areas.{content_of, content_length}
use Rattle.ap_link.specs.Same.{IsBeside, HasImage}
use Rattle.ap_link.proofs.Granules.{floor-sum}
use Rattle.ap_link.proofs.Contents.{content-at, length-content}
use Rattle.ap_fields.proofs.Granules.{ceil_of-least}

-- what a load has at an address: its byte in the input's file, or 0
abbrev pub load_byte : (ℕ → ℕ) → Load → ℕ → ℕ
load_byte byte p a = cond (nat_le p.vaddr a && nat_lt a (p.vaddr + p.filesz)) (byte (p.offset + (a - p.vaddr))) 0

-- a region shows a load by a file's bytes: it lies in the load's granules, has all its addresses and its permissions, its
-- bytes, and 0 beside them
pub record Shows (g : ℕ) (byte shown : ℕ → ℕ) (p : Load) (r : Region) : Type 0 where
  pub low : floor_of p.vaddr g ≤ r.start
  pub start : r.start ≤ p.vaddr
  pub stop : p.vaddr + p.memsz ≤ end_of r
  pub high : end_of r ≤ ceil_of (p.vaddr + p.memsz) g
  pub perms : r.perms.0 ≡ p.perms.0
  pub bytes : (a : ℕ) → r.start ≤ a → a < end_of r → region_byte shown r a ≡ load_byte byte p a

-- an address is at or before the granules of the first load
abbrev pub IsBefore : ℕ → ℕ → List Load → Type 0
IsBefore g a [] = Unit {0}
IsBefore g a (p ∷ loads) = a ≤ floor_of p.vaddr g

-- a region that shows no load: it ends before the granules of the loads that are left, and what is found in it is allowed
pub record IsElse (g : ℕ) (shown : ℕ → ℕ) (Else : ℕ → Option Cell → Type 0) (loads : List Load) (r : Region) : Type 0 where
  pub before : IsBefore g (end_of r) loads
  pub found : (a : ℕ) → r.start ≤ a → a < end_of r → Else a (Some (region_byte shown r a, r.perms.0))

-- regions show loads one by one; others may stand between them
abbrev pub ShowAll : ℕ → (ℕ → ℕ) → (ℕ → ℕ) → (ℕ → Option Cell → Type 0) → List Load → List Region → Type 0
ShowAll g byte shown Else [] [] = Unit {0}
ShowAll g byte shown Else [] (r ∷ regions) = IsElse g shown Else [] r × ShowAll g byte shown Else [] regions
ShowAll g byte shown Else (p ∷ loads) [] = ⊥
ShowAll g byte shown Else (p ∷ loads) (r ∷ regions) =
    (Shows g byte shown p r × ShowAll g byte shown Else loads regions)
    ⊎ (IsElse g shown Else (p ∷ loads) r × ShowAll g byte shown Else (p ∷ loads) regions)

-- a region of a load's granules that is backed by an area
pub record IsBackedBy (g : ℕ) (p : Load) (x : Area) (r : Region) : Type 0 where
  pub low : floor_of p.vaddr g ≤ r.start
  pub start : r.start ≤ p.vaddr
  pub stop : p.vaddr + p.memsz ≤ end_of r
  pub high : end_of r ≤ ceil_of (p.vaddr + p.memsz) g
  pub perms : r.perms.0 ≡ p.perms.0
  pub bare : p.filesz ≡ 0 → r.backed ≡ 0
  pub at : 0 < p.filesz → r.at + (p.vaddr - r.start) ≡ x.file + p.vaddr % g
  pub whole : 0 < p.filesz → p.vaddr + p.filesz ≤ r.start + r.backed
  pub within : 0 < p.filesz → r.start + r.backed ≤ floor_of p.vaddr g + content_length g p

-- the byte of a region at an address, by numbers: d is the address modulo the granule, base the granule's start
shown-byte : (file : List ℕ) (start backed at vaddr filesz d base place len off a : ℕ) (content : List ℕ) (byte : ℕ → ℕ)
    → ((k : ℕ) → get_or content k 0 ≡ cond (nat_le d k && nat_lt k (d + filesz)) (byte (off + (k - d))) 0)
    → length content ≡ len → Holds file place content
    → base + d ≡ vaddr → base ≤ start → start ≤ vaddr → at + (vaddr - start) ≡ place + d → vaddr + filesz ≤ start + backed → start + backed ≤ base + len → start ≤ a
    → cond (nat_lt (a - start) backed) (slice_index file (at + (a - start))) 0 ≡ cond (nat_le vaddr a && nat_lt a (vaddr + filesz)) (byte (off + (a - vaddr))) 0
shown-byte file start backed at vaddr filesz d base place len off a content byte is long held sum low starts put whole within from =
    elim (cases_Bool (nat_lt (a - start) backed)) [
      | inl inside ↦
          (let k : ℕ = a - base in
          let lt : a - start < backed = grind (arith, nat_tests) in
          let there : at + (a - start) ≡ place + k = omega arith in
          let t1 : nat_le d k ≡ nat_le vaddr a = grind (arith, nat_tests) in
          let t2 : nat_lt k (d + filesz) ≡ nat_lt a (vaddr + filesz) = grind (arith, nat_tests) in
          let read : slice_index file (at + (a - start)) ≡ slice_index content k = ap (slice_index file) there ∙ held.same k (omega arith) in
          let same : k - d ≡ a - vaddr = omega arith in
          rw inside (read ∙ is k ∙ rw (t1, t2, same) refl))
      | inr past ↦
          (let t : (nat_le vaddr a && nat_lt a (vaddr + filesz)) ≡ false = grind (arith, nat_tests) in
          rw (past, t) refl)
    ]

-- a region that is backed by a load's area shows the load
pub backed-shows : (g : ℕ) (byte : ℕ → ℕ) (file : List ℕ) (p : Load) (x : Area) (r : Region) → IsGranule g
    → (0 < p.filesz → Holds file x.file (content_of g byte p)) → IsBackedBy g p x r → Shows g byte (bytes_in file) p r
backed-shows g byte file p x r is held h = record {
  low = h.low;
  start = h.start;
  stop = h.stop;
  high = h.high;
  perms = h.perms;
  bytes = λ a from to.
      elim (cases_Bool (p.filesz == 0)) [
        | inl none ↦
            (let z : p.filesz ≡ 0 = grind (arith, nat_tests) in
            let b : r.backed ≡ 0 = h.bare z in
            let off : nat_lt (a - r.start) r.backed ≡ false = grind (arith, nat_tests) in
            let out : (nat_le p.vaddr a && nat_lt a (p.vaddr + p.filesz)) ≡ false = grind (arith, nat_tests) in
            rw (off, out) refl)
        | inr not_none ↦
            (let some : 0 < p.filesz = grind (arith, nat_tests) in
            let sum : floor_of p.vaddr g + p.vaddr % g ≡ p.vaddr = (floor-sum p.vaddr g is).0 in
            shown-byte file r.start r.backed r.at p.vaddr p.filesz (p.vaddr % g) (floor_of p.vaddr g) x.file (content_length g p) p.offset a (content_of g byte p) byte
            (content-at g byte p) (length-content g byte p is) (held some) sum h.low h.start (h.at some) (h.whole some) (h.within some) from)
      ];
}

-- what is found at an address is the cell of the loads there, or, where they have none, nothing, a zero beside a load, or
-- what else is allowed
abbrev pub IsFoundAt : ℕ → (ℕ → Option Cell → Type 0) → List Entry → ℕ → Option Cell → Option Cell → Type 0
IsFoundAt g Else entries a (Some c) found = found ≡ Some c
IsFoundAt g Else entries a None found = (found ≡ None) ⊎ (IsBeside g entries a found ⊎ Else a found)

-- below the granules of the first load there is no cell
none-below : (g size : ℕ) (byte : ℕ → ℕ) (low : ℕ) (entries : List Entry) (a : ℕ) → IsGranule g → AreLoads g size low (map load_of entries) → a < low → input_cell byte entries a ≡ None
none-below g size byte low [] a is order below = refl
none-below g size byte low (p ∷ entries) a is order below =
    let first = order.0.order in
    let sum = (floor-sum p.vaddr g is).0 in
    let off : input.has_address p a ≡ false = grind (arith, nat_tests) in
    let up = ceil_of-least (p.vaddr + p.memsz) g is in
    cond-false (input.has_address p a) (Some (input.load_byte byte p a, permissions_of p)) (input_cell byte entries a) off
    ∙ none-below g size byte (ceil_of (p.vaddr + p.memsz) g) entries a is order.1 (omega arith)

-- nor in a region before them
none-before : (g size : ℕ) (byte : ℕ → ℕ) (low end : ℕ) (entries : List Entry) (a : ℕ) → IsGranule g → AreLoads g size low (map load_of entries) → IsBefore g end (map load_of entries) → a < end → input_cell byte entries a ≡ None
none-before g size byte low end [] a is order before below = refl
none-before g size byte low end (p ∷ entries) a is order before below =
    let load = order.0 in
    let from : IsLoad g size (floor_of p.vaddr g) (load_of p) = record { some = load.some; sizes = load.sizes; part = load.part; base = load.base; top = load.top; order = omega arith; perms = load.perms; readable = load.readable } in
    none-below g size byte (floor_of p.vaddr g) (p ∷ entries) a is (from, order.1) (omega arith)

-- the same of other spellings
found-moved : (g : ℕ) (Else : ℕ → Option Cell → Type 0) (entries : List Entry) (a : ℕ) (c d x y : Option Cell) → c ≡ d → x ≡ y → IsFoundAt g Else entries a d y → IsFoundAt g Else entries a c x
found-moved g Else entries a c d x y e f h = rw (e, f) h

found-later : (g : ℕ) (Else : ℕ → Option Cell → Type 0) (p : Entry) (entries : List Entry) (a : ℕ) (c x : Option Cell) → IsFoundAt g Else entries a c x → IsFoundAt g Else (p ∷ entries) a c x
found-later g Else p entries a (Some c) x h = h
found-later g Else p entries a None x h =
    elim h [
      | inl none ↦ inl none
      | inr more ↦ elim more [
        | inl beside ↦ inr (inl (inr beside))
        | inr other ↦ inr (inr other)
      ]
    ]

-- a load's byte at its own addresses, as the input's cell has it
part-byte : (byte : ℕ → ℕ) (p : Entry) (a : ℕ) → p.vaddr ≤ a → load_byte byte (load_of p) a ≡ input.load_byte byte p a
part-byte byte p a from =
    let low : nat_le p.vaddr a ≡ true = grind (arith, nat_tests) in
    let same : nat_lt a (p.vaddr + p.filesz) ≡ nat_lt (a - p.vaddr) p.filesz = grind (arith, nat_tests) in
    rw (low, same) refl

-- the cell where a test holds
cell-is : (test : Bool) (x byte m perms : ℕ) (behind : Option Cell) → test ≡ true → x ≡ byte → m ≡ perms → cond test (Some (x, m)) behind ≡ Some (byte, perms)
cell-is test x byte m perms behind on same kept = rw (on, same, kept) refl

-- where a region shows the first load
shows-cells : (g size : ℕ) (byte shown : ℕ → ℕ) (Else : ℕ → Option Cell → Type 0) (low : ℕ) (p : Entry) (entries : List Entry) (r : Region) (regions : List Region) (a : ℕ) → IsGranule g
    → AreLoads g size low (map load_of (p ∷ entries)) → Shows g byte shown (load_of p) r
    → IsFoundAt g Else entries a (input_cell byte entries a) (cell_in shown regions a)
    → IsFoundAt g Else (p ∷ entries) a (input_cell byte (p ∷ entries) a) (cell_in shown (r ∷ regions) a)
shows-cells g size byte shown Else low p entries r regions a is order s rest =
    let load = order.0 in
    let here : Option Cell = Some (input.load_byte byte p a, permissions_of p) in
    let there : Option Cell = Some (region_byte shown r a, r.perms.0) in
    let s1 = s.start in let s2 = s.stop in let s3 = s.low in let s4 = s.high in
    elim (cases_Bool (input.has_address p a)) [
      | inl on ↦
          (let on_r : plan.has_address r a ≡ true = grind (arith, nat_tests) in
          let at : p.vaddr ≤ a = grind (arith, nat_tests) in
          let from : r.start ≤ a = omega arith in
          let to : a < end_of r = grind (arith, nat_tests) in
          let byte_is : region_byte shown r a ≡ input.load_byte byte p a = s.bytes a from to ∙ part-byte byte p a at in
          found-moved g Else (p ∷ entries) a _ here _ here
          (cond-true (input.has_address p a) here (input_cell byte entries a) on)
          (cell-is (plan.has_address r a) (region_byte shown r a) (input.load_byte byte p a) r.perms.0 (permissions_of p) (cell_in shown regions a) on_r byte_is s.perms)
          refl)
      | inr off ↦ elim (cases_Bool (plan.has_address r a)) [
        | inl on_r ↦
            (let from : r.start ≤ a = grind (arith, nat_tests) in
            let to : a < end_of r = grind (arith, nat_tests) in
            let sizes = load.sizes in
            let out : (nat_le p.vaddr a && nat_lt a (p.vaddr + p.filesz)) ≡ false = grind (arith, nat_tests) in
            let byte_is : region_byte shown r a ≡ 0 = s.bytes a from to ∙ cond-false (nat_le p.vaddr a && nat_lt a (p.vaddr + p.filesz)) (byte (p.offset + (a - p.vaddr))) 0 out in
            found-moved g Else (p ∷ entries) a _ None _ (Some (0, permissions_of p))
            (cond-false (input.has_address p a) here (input_cell byte entries a) off ∙ none-below g size byte (ceil_of (p.vaddr + p.memsz) g) entries a is order.1 (omega arith))
            (cell-is (plan.has_address r a) (region_byte shown r a) 0 r.perms.0 (permissions_of p) (cell_in shown regions a) on_r byte_is s.perms)
            (inr (inl (inl ((omega arith, omega arith), refl)))))
        | inr off_r ↦
            found-moved g Else (p ∷ entries) a _ (input_cell byte entries a) _ (cell_in shown regions a)
            (cond-false (input.has_address p a) here (input_cell byte entries a) off)
            (cond-false (plan.has_address r a) there (cell_in shown regions a) off_r)
            (found-later g Else p entries a _ _ rest)
      ]
    ]

-- where a region shows none
else-cells : (g size : ℕ) (byte shown : ℕ → ℕ) (Else : ℕ → Option Cell → Type 0) (low : ℕ) (entries : List Entry) (r : Region) (regions : List Region) (a : ℕ) → IsGranule g
    → AreLoads g size low (map load_of entries) → IsElse g shown Else (map load_of entries) r
    → IsFoundAt g Else entries a (input_cell byte entries a) (cell_in shown regions a)
    → IsFoundAt g Else entries a (input_cell byte entries a) (cell_in shown (r ∷ regions) a)
else-cells g size byte shown Else low entries r regions a is order s rest =
    let there : Option Cell = Some (region_byte shown r a, r.perms.0) in
    elim (cases_Bool (plan.has_address r a)) [
      | inl on ↦
          (let from : r.start ≤ a = grind (arith, nat_tests) in
          let to : a < end_of r = grind (arith, nat_tests) in
          found-moved g Else entries a _ None _ there
          (none-before g size byte low (end_of r) entries a is order s.before to)
          (cond-true (plan.has_address r a) there (cell_in shown regions a) on)
          (inr (inr (s.found a from to))))
      | inr off ↦
          found-moved g Else entries a _ (input_cell byte entries a) _ (cell_in shown regions a) refl
          (cond-false (plan.has_address r a) there (cell_in shown regions a) off)
          rest
    ]

-- regions that show the loads have the input's cells
pub found-cells : (g size : ℕ) (byte shown : ℕ → ℕ) (Else : ℕ → Option Cell → Type 0) (low : ℕ) (entries : List Entry) (regions : List Region) (a : ℕ) → IsGranule g
    → AreLoads g size low (map load_of entries) → ShowAll g byte shown Else (map load_of entries) regions
    → IsFoundAt g Else entries a (input_cell byte entries a) (cell_in shown regions a)
found-cells g size byte shown Else low [] [] a is order h = inl refl
found-cells g size byte shown Else low [] (r ∷ regions) a is order h =
    else-cells g size byte shown Else low [] r regions a is order h.0 (found-cells g size byte shown Else low [] regions a is order h.1)
found-cells g size byte shown Else low (p ∷ entries) [] a is order h = absurd h
found-cells g size byte shown Else low (p ∷ entries) (r ∷ regions) a is order (inl h) =
    shows-cells g size byte shown Else low p entries r regions a is order h.0
    (found-cells g size byte shown Else (ceil_of (p.vaddr + p.memsz) g) entries regions a is order.1 h.1)
found-cells g size byte shown Else low (p ∷ entries) (r ∷ regions) a is order (inr h) =
    else-cells g size byte shown Else low (p ∷ entries) r regions a is order h.0
    (found-cells g size byte shown Else low (p ∷ entries) regions a is order h.1)

-- One lemma for all readings: an image whose cells are those of regions that show an input's loads, and else what is allowed, is
-- the input's image.
pub same-image : (g size : ℕ) (byte shown : ℕ → ℕ) (Else : ℕ → Option Cell → Type 0) (entries : List Entry) (regions : List Region) (start : ℕ) (image : MemoryImage) → IsGranule g
    → AreLoads g size 0 (map load_of entries) → image.entry ≡ start → ((a : ℕ) → cell_in shown regions a ≡ image.cell a) → ShowAll g byte shown Else (map load_of entries) regions
    → HasImage g byte entries start Else image
same-image g size byte shown Else entries regions start image is order entry cells h =
    let found : (a : ℕ) → IsFoundAt g Else entries a (input_cell byte entries a) (image.cell a) =
    λ a. subst (IsFoundAt g Else entries a (input_cell byte entries a)) (cells a) (found-cells g size byte shown Else 0 entries regions a is order h) in
    record {
      entry = entry;
      cells = λ a c e. subst (λ (x : Option Cell). IsFoundAt g Else entries a x (image.cell a)) e (found a);
      others = λ a e. subst (λ (x : Option Cell). IsFoundAt g Else entries a x (image.cell a)) e (found a);
    }
