-- Two files that agree where the Mach-O reading looks are read alike.
use Rattle.std.proofs.Common.{◌≡◌, ℕ, ◌+◌, ◌<◌, ◌≤◌, ◌++◌, false, List, length, take, slice_index, sym, ap, ◌∙◌, arith, inl, inr, length-take}
use Rattle.std.specs.Prelude.{Result}
use Rattle.std.proofs.lemmas.List.{ext_get_or, get_or-take}
use Rattle.ap_fields.specs.FirstFault.{first_fault}
use Rattle.ap_fields.specs.Fields.{number_at}
use Rattle.ap_fields.specs.Readings.{MemoryImage, image_unless, bytes_in}
use Rattle.ap_fields.proofs.Numbers.{number_at-same}
use Rattle.ap_mach.specs.declared.types.MachHeader.{MachHeader}
use Rattle.ap_mach.specs.declared.fault.MachFault.{MachFault}
use Rattle.ap_mach.specs.Format.{header_of, commands_end, front_of, parts_from}
use Rattle.ap_mach.specs.MachReading.{header_rules, commands_rules, segments_of, start_of, segment_cell}
use Rattle.ap_mach.specs.Looks.{Looks, MachReadsAlike}

-- two files agree on their first n bytes
abbrev pub AgreeBelow : ℕ → List ℕ → List ℕ → Type 0
AgreeBelow n f g = (k : ℕ) → k < n → slice_index f k ≡ slice_index g k

number-same : (n at : ℕ) (f g : List ℕ) → at + n ≤ 32 → AgreeBelow 32 f g → number_at n at f ≡ number_at n at g
number-same n at f g fits h = number_at-same n at at f g (λ i l. h (at + i) (omega arith))

header-same : (f g : List ℕ) → AgreeBelow 32 f g → header_of f ≡ header_of g
unfolding header_of
header-same f g h i = record {
  magic = (number-same 4 0 f g (omega arith) h) i;
  cpu = (number-same 4 4 f g (omega arith) h) i;
  kind = (number-same 4 12 f g (omega arith) h) i;
  count = (number-same 4 16 f g (omega arith) h) i;
  size = (number-same 4 20 f g (omega arith) h) i;
}

front-same : (n : ℕ) (f g : List ℕ) → length f ≡ length g → AgreeBelow n f g → take n f ≡ take n g
front-same n f g len h =
    let a = length-take n f in
    let b = length-take n g in
    ext_get_or 0 (take n f) (take n g) (omega arith)
    (λ i low.
    let below : i < n = omega arith in
    get_or-take n f i 0 below ∙ h i below ∙ sym (get_or-take n g i 0 below))

-- the same header and the same commands
pub record AreAlike (f g : List ℕ) : Type 0 where
  pub header : header_of f ≡ header_of g
  pub front : front_of f ≡ front_of g

pub are-alike : (f g : List ℕ) → length f ≡ length g → ((k : ℕ) → Looks f k → bytes_in f k ≡ bytes_in g k) → AreAlike f g
are-alike f g len agree =
    let header : header_of f ≡ header_of g = header-same f g (λ k low. agree k (inl low)) in
    record {
      header = header;
      front =
          front-same (commands_end (header_of f)) f g len (λ k low. agree k (inr low))
          ∙ ap (λ (h : MachHeader). take (commands_end h) g) header;
    }

-- the reading by length, header and front
reading-by : (ℕ → ℕ) → ℕ → MachHeader → List ℕ → Result MemoryImage MachFault
reading-by byte len h front =
    image_unless (first_fault (header_rules len h ++ commands_rules len (commands_end h) 1 0 0 false (parts_from front 32 h.count)))
    (record { entry = start_of (parts_from front 32 h.count); cell = segment_cell byte (segments_of (parts_from front 32 h.count)) })

-- the law
pub reads-alike : MachReadsAlike
unfolding reading-by
reads-alike byte f g len agree =
    let alike = are-alike f g len agree in
    ap (λ n. reading-by byte n (header_of f) (front_of f)) len
    ∙ ap (λ (h : MachHeader). reading-by byte (length g) h (front_of f)) alike.header
    ∙ ap (reading-by byte (length g) (header_of g)) alike.front
