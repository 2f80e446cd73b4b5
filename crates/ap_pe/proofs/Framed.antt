-- Files of equal length that agree where the PE reading looks have the same refusal, or the same headers and sections.
use Rattle.std.proofs.Common.{◌≡◌, inl, inr, ℕ, zero, suc, ◌+◌, ◌*◌, ◌<◌, ◌≤◌, List, ◌∷◌, ◌++◌, length, slice_index, Option, Some, None, refl, sym, ap, ◌∙◌, arith}
use Rattle.std.proofs.lemmas.Bool.Decides.{nat_tests}
use Rattle.ap_fields.specs.Fields.{number_at}
use Rattle.ap_fields.specs.Structures.{value_at}
use Rattle.ap_fields.specs.FirstFault.{Rules, first_fault}
use Rattle.ap_fields.specs.Readings.{MemoryImage, image_unless, bytes_in}
use Rattle.ap_fields.proofs.Numbers.{number_at-same}
use Rattle.ap_fields.proofs.FirstFaults.{none-append, some-append, append-none}
use Rattle.ap_pe.specs.declared.types.PeHeaders.{PeHeaders}
use Rattle.ap_pe.specs.declared.types.PeSection.{PeSection}
use Rattle.ap_pe.specs.declared.types.FileHeader.{FileHeader}
use Rattle.ap_pe.specs.declared.fault.PeFault.{PeFault}
use Rattle.ap_pe.specs.Format.{dos_mark, dos_headers, optional_magic, file_header_at, headers_by, headers_at, headers_of, section_at, sections_from, sections_in, table_place}
use Rattle.ap_pe.specs.PeReading.{dos_rules, file_rules, optional_rules, rules_at, header_rules, mapping_rules, pe_rules, pe_cell}
use Rattle.ap_pe.specs.Looks.{Looks, PeReadsAlike}

-- two files agree on a range
abbrev pub AgreeIn : ℕ → ℕ → List ℕ → List ℕ → Type 0
AgreeIn from to f g = (k : ℕ) → from ≤ k → k < to → slice_index f k ≡ slice_index g k

number-same : (n at from to : ℕ) (f g : List ℕ) → from ≤ at → at + n ≤ to → AgreeIn from to f g → number_at n at f ≡ number_at n at g
number-same n at from to f g low high h = number_at-same n at at f g (λ i u. h (at + i) (omega arith) (omega arith))

file-same : (at : ℕ) (f g : List ℕ) → AgreeIn at (at + 24) f g → file_header_at f at ≡ file_header_at g at
unfolding file_header_at
file-same at f g h i = record {
  signature = (number-same 4 (at + 0) at (at + 24) f g (omega arith) (omega arith) h) i;
  machine = (number-same 2 (at + 4) at (at + 24) f g (omega arith) (omega arith) h) i;
  count = (number-same 2 (at + 6) at (at + 24) f g (omega arith) (omega arith) h) i;
  optional = (number-same 2 (at + 20) at (at + 24) f g (omega arith) (omega arith) h) i;
}

optional-same : (at place : ℕ) (x : FileHeader) (f g : List ℕ) → AgreeIn place (place + 112) f g → headers_by at x f place ≡ headers_by at x g place
unfolding headers_by
optional-same at place x f g h i = record {
  at = at;
  machine = x.machine;
  count = x.count;
  optional = x.optional;
  entry = (number-same 4 (place + 16) place (place + 112) f g (omega arith) (omega arith) h) i;
  base = (number-same 8 (place + 24) place (place + 112) f g (omega arith) (omega arith) h) i;
  section_align = (number-same 4 (place + 32) place (place + 112) f g (omega arith) (omega arith) h) i;
  file_align = (number-same 4 (place + 36) place (place + 112) f g (omega arith) (omega arith) h) i;
  image = (number-same 4 (place + 56) place (place + 112) f g (omega arith) (omega arith) h) i;
  headers = (number-same 4 (place + 60) place (place + 112) f g (omega arith) (omega arith) h) i;
  directories = (number-same 4 (place + 108) place (place + 112) f g (omega arith) (omega arith) h) i;
}

section-same : (at : ℕ) (f g : List ℕ) → AgreeIn at (at + 40) f g → section_at f at ≡ section_at g at
unfolding section_at
section-same at f g h i = record {
  vsize = (number-same 4 (at + 8) at (at + 40) f g (omega arith) (omega arith) h) i;
  vaddr = (number-same 4 (at + 12) at (at + 40) f g (omega arith) (omega arith) h) i;
  raw = (number-same 4 (at + 16) at (at + 40) f g (omega arith) (omega arith) h) i;
  at = (number-same 4 (at + 20) at (at + 40) f g (omega arith) (omega arith) h) i;
  flags = (number-same 4 (at + 36) at (at + 40) f g (omega arith) (omega arith) h) i;
}

sections-same : (n at : ℕ) (f g : List ℕ) → AgreeIn at (at + 40 * n) f g → sections_from f at n ≡ sections_from g at n
sections-same zero at f g h = refl
sections-same (suc n) at f g h =
    let here : section_at f at ≡ section_at g at = section-same at f g (λ k lo hi. h k lo (omega arith)) in
    let rest : sections_from f (at + 40) n ≡ sections_from g (at + 40) n = sections-same n (at + 40) f g (λ k lo hi. h k (omega arith) (omega arith)) in
    ap (λ (s : PeSection). s ∷ sections_from f (at + 40) n) here ∙ ap (λ (ss : List PeSection). section_at g at ∷ ss) rest

-- the same refusal, or the same headers and sections
pub record AreAlike (f g : List ℕ) : Type 0 where
  pub fault : first_fault (pe_rules f (headers_of f) (sections_in f (headers_of f))) ≡ first_fault (pe_rules g (headers_of g) (sections_in g (headers_of g)))
  pub headers : first_fault (pe_rules f (headers_of f) (sections_in f (headers_of f))) ≡ None → headers_of f ≡ headers_of g
  pub sections : first_fault (pe_rules f (headers_of f) (sections_in f (headers_of f))) ≡ None → sections_in f (headers_of f) ≡ sections_in g (headers_of g)

-- both are refused for the same
alike-refused : (f g : List ℕ) (e : PeFault) → first_fault (header_rules f) ≡ Some e → first_fault (header_rules g) ≡ Some e → AreAlike f g
alike-refused f g e left right =
    let mf : Rules PeFault = mapping_rules (length f) (headers_of f) (sections_in f (headers_of f)) in
    let mg : Rules PeFault = mapping_rules (length g) (headers_of g) (sections_in g (headers_of g)) in
    let a : first_fault (header_rules f ++ mf) ≡ Some e = some-append (header_rules f) mf e left in
    let b : first_fault (header_rules g ++ mg) ≡ Some e = some-append (header_rules g) mg e right in
    record { fault = a ∙ sym b; headers = λ none. absurd (cc); sections = λ none. absurd (cc) }

-- both have the same headers and sections
alike-same : (f g : List ℕ) → length f ≡ length g → header_rules f ≡ header_rules g → headers_of f ≡ headers_of g → sections_in f (headers_of f) ≡ sections_in g (headers_of g) → AreAlike f g
alike-same f g len rules headers sections = record {
  fault =
      ap (λ (r : Rules PeFault). first_fault (r ++ mapping_rules (length f) (headers_of f) (sections_in f (headers_of f)))) rules
      ∙ ap (λ n. first_fault (header_rules g ++ mapping_rules n (headers_of f) (sections_in f (headers_of f)))) len
      ∙ ap (λ (h : PeHeaders). first_fault (header_rules g ++ mapping_rules (length g) h (sections_in f (headers_of f)))) headers
      ∙ ap (λ (s : List PeSection). first_fault (header_rules g ++ mapping_rules (length g) (headers_of g) s)) sections;
  headers = λ none. headers;
  sections = λ none. sections;
}

head-at : (b : List ℕ) (at : ℕ) → (headers_at b at).at ≡ at
unfolding headers_by
head-at b at = refl

head-count : (b : List ℕ) (at : ℕ) → (headers_at b at).count ≡ (file_header_at b at).count
unfolding headers_by
head-count b at = refl

head-optional : (b : List ℕ) (at : ℕ) → (headers_at b at).optional ≡ (file_header_at b at).optional
unfolding headers_by
head-optional b at = refl

enough : (len at : ℕ) (x : FileHeader) → first_fault (file_rules len at x) ≡ None → 112 ≤ x.optional
enough len at x none = grind (arith, nat_tests)

-- where the COFF file headers meet their rules
alike-file : (f g : List ℕ) (at : ℕ) (o : Option PeFault) → length f ≡ length g → value_at dos_headers 0 f ≡ at → value_at dos_headers 0 g ≡ at → value_at dos_mark 0 f ≡ value_at dos_mark 0 g
    → AgreeIn at (table_place (headers_at f at) + 40 * (headers_at f at).count) f g → first_fault (dos_rules (length f) (value_at dos_mark 0 f)) ≡ None
    → first_fault (file_rules (length f) at (file_header_at f at)) ≡ o → AreAlike f g
alike-file f g at (Some e) len pf pg mark agree dos some =
    let file : file_header_at f at ≡ file_header_at g at = file-same at f g (λ k lo hi. let a = head-at f at in agree k lo (omega arith)) in
    let other : first_fault (file_rules (length g) at (file_header_at g at)) ≡ Some e =
    sym (ap (λ n. first_fault (file_rules n at (file_header_at f at))) len ∙ ap (λ (x : FileHeader). first_fault (file_rules (length g) at x)) file) ∙ some in
    let dos' : first_fault (dos_rules (length g) (value_at dos_mark 0 g)) ≡ None =
    sym (ap (λ n. first_fault (dos_rules n (value_at dos_mark 0 f))) len ∙ ap (λ n. first_fault (dos_rules (length g) n)) mark) ∙ dos in
    let of : Rules PeFault = optional_rules (length f) (value_at optional_magic (at + 24) f) (headers_at f at) in
    let og : Rules PeFault = optional_rules (length g) (value_at optional_magic (at + 24) g) (headers_at g at) in
    alike-refused f g e
    (none-append (dos_rules (length f) (value_at dos_mark 0 f)) (rules_at f (value_at dos_headers 0 f)) dos
    ∙ ap (λ k. first_fault (rules_at f k)) pf ∙ some-append (file_rules (length f) at (file_header_at f at)) of e some)
    (none-append (dos_rules (length g) (value_at dos_mark 0 g)) (rules_at g (value_at dos_headers 0 g)) dos'
    ∙ ap (λ k. first_fault (rules_at g k)) pg ∙ some-append (file_rules (length g) at (file_header_at g at)) og e other)
alike-file f g at None len pf pg mark agree dos none =
    let a = head-at f at in
    let c = head-count f at in
    let o = head-optional f at in
    let large : 112 ≤ (file_header_at f at).optional = enough (length f) at (file_header_at f at) none in
    let file : file_header_at f at ≡ file_header_at g at = file-same at f g (λ k lo hi. agree k lo (omega arith)) in
    let headers : headers_at f at ≡ headers_at g at =
    optional-same at (at + 24) (file_header_at f at) f g (λ k lo hi. agree k (omega arith) (omega arith)) ∙ ap (λ (x : FileHeader). headers_by at x g (at + 24)) file in
    let magic : value_at optional_magic (at + 24) f ≡ value_at optional_magic (at + 24) g =
    number-same 2 (at + 24 + 0) at (table_place (headers_at f at) + 40 * (headers_at f at).count) f g (omega arith) (omega arith) agree in
    let hf : headers_of f ≡ headers_at f at = ap (headers_at f) pf in
    let hg : headers_of g ≡ headers_at g at = ap (headers_at g) pg in
    let all : headers_of f ≡ headers_of g = hf ∙ headers ∙ sym hg in
    let table : sections_in f (headers_at f at) ≡ sections_in g (headers_at f at) =
    sections-same (headers_at f at).count (table_place (headers_at f at)) f g (λ k lo hi. agree k (omega arith) hi) in
    let rules : rules_at f at ≡ rules_at g at =
    ap (λ n. file_rules n at (file_header_at f at) ++ optional_rules n (value_at optional_magic (at + 24) f) (headers_at f at)) len
    ∙ ap (λ (x : FileHeader). file_rules (length g) at x ++ optional_rules (length g) (value_at optional_magic (at + 24) f) (headers_at f at)) file
    ∙ ap (λ m. file_rules (length g) at (file_header_at g at) ++ optional_rules (length g) m (headers_at f at)) magic
    ∙ ap (λ (h : PeHeaders). file_rules (length g) at (file_header_at g at) ++ optional_rules (length g) (value_at optional_magic (at + 24) g) h) headers in
    alike-same f g len
    (ap (λ n. dos_rules n (value_at dos_mark 0 f) ++ rules_at f (value_at dos_headers 0 f)) len
    ∙ ap (λ m. dos_rules (length g) m ++ rules_at f (value_at dos_headers 0 f)) mark
    ∙ ap (λ k. dos_rules (length g) (value_at dos_mark 0 g) ++ rules_at f k) pf
    ∙ ap (λ (r : Rules PeFault). dos_rules (length g) (value_at dos_mark 0 g) ++ r) rules
    ∙ ap (λ k. dos_rules (length g) (value_at dos_mark 0 g) ++ rules_at g k) (sym pg))
    all
    (ap (sections_in f) hf ∙ table ∙ ap (sections_in g) (headers ∙ sym hg))

alike-dos : (f g : List ℕ) (at : ℕ) (o : Option PeFault) → length f ≡ length g → value_at dos_headers 0 f ≡ at → value_at dos_headers 0 g ≡ at → value_at dos_mark 0 f ≡ value_at dos_mark 0 g
    → AgreeIn at (table_place (headers_at f at) + 40 * (headers_at f at).count) f g → first_fault (dos_rules (length f) (value_at dos_mark 0 f)) ≡ o → AreAlike f g
alike-dos f g at None len pf pg mark agree none = alike-file f g at (first_fault (file_rules (length f) at (file_header_at f at))) len pf pg mark agree none refl
alike-dos f g at (Some e) len pf pg mark agree some =
    let other : first_fault (dos_rules (length g) (value_at dos_mark 0 g)) ≡ Some e =
    sym (ap (λ n. first_fault (dos_rules n (value_at dos_mark 0 f))) len ∙ ap (λ n. first_fault (dos_rules (length g) n)) mark) ∙ some in
    alike-refused f g e
    (some-append (dos_rules (length f) (value_at dos_mark 0 f)) (rules_at f (value_at dos_headers 0 f)) e some)
    (some-append (dos_rules (length g) (value_at dos_mark 0 g)) (rules_at g (value_at dos_headers 0 g)) e other)

pub are-alike : (f g : List ℕ) → length f ≡ length g → ((k : ℕ) → Looks f k → bytes_in f k ≡ bytes_in g k) → AreAlike f g
are-alike f g len agree =
    let at : ℕ = value_at dos_headers 0 f in
    let start : AgreeIn 0 64 f g = λ k lo hi. agree k (inl hi) in
    let place : value_at dos_headers 0 g ≡ at = sym (number-same 4 60 0 64 f g (omega arith) (omega arith) start) in
    let mark : value_at dos_mark 0 f ≡ value_at dos_mark 0 g = number-same 2 0 0 64 f g (omega arith) (omega arith) start in
    let a = head-at f at in
    alike-dos f g at (first_fault (dos_rules (length f) (value_at dos_mark 0 f))) len refl place mark (λ k lo hi. agree k (inr (omega arith, hi))) refl

image-alike : (o p : Option PeFault) (x y : MemoryImage) → o ≡ p → (o ≡ None → x ≡ y) → image_unless o x ≡ image_unless p y
image-alike None p x y same h = ap (λ (m : MemoryImage). image_unless None m) (h refl) ∙ ap (λ q. image_unless q y) same
image-alike (Some e) p x y same h = ap (λ q. image_unless q y) same

-- the law
pub reads-alike : PeReadsAlike
reads-alike byte f g len agree =
    let alike = are-alike f g len agree in
    image-alike _ _ _ _ alike.fault
    (λ none.
    ap (λ (h : PeHeaders). record { entry = h.base + h.entry; cell = pe_cell byte h (sections_in f (headers_of f)) }) (alike.headers none)
    ∙ ap (λ (s : List PeSection). record { entry = (headers_of g).base + (headers_of g).entry; cell = pe_cell byte (headers_of g) s }) (alike.sections none))

align-from : (len magic : ℕ) (h : PeHeaders) → first_fault (optional_rules len magic h) ≡ None → 0 < h.section_align
align-from len magic h none = grind (arith, nat_tests)

-- headers that aren't refused have an alignment
pub align-taken : (b : List ℕ) → first_fault (header_rules b) ≡ None → 0 < (headers_of b).section_align
align-taken b none =
    let at : ℕ = value_at dos_headers 0 b in
    let more = append-none (dos_rules (length b) (value_at dos_mark 0 b)) (rules_at b at) none in
    let last = append-none (file_rules (length b) at (file_header_at b at)) (optional_rules (length b) (value_at optional_magic (at + 24) b) (headers_at b at)) more.1 in
    align-from (length b) (value_at optional_magic (at + 24) b) (headers_at b at) last.1
