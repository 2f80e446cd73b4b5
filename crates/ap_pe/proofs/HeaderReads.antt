-- A file that holds headers as they are written has them by the reading's fields.
use Rattle.std.proofs.Common.{◌≡◌, ℕ, ◌+◌, ◌-◌, ◌^◌, ◌<◌, List, [], ◌∷◌, ◌++◌, length, map, refl, ap, ◌∙◌, arith}
use Rattle.ap_fields.specs.Bytes.{Holds}
use Rattle.ap_fields.specs.Structures.{value_at}
use Rattle.ap_fields.proofs.Bytes.{holds-front, holds-behind}
use Rattle.ap_fields.proofs.FieldReads.{FieldsHeld, fields-held, length-structure}
use Rattle.ap_pe.specs.declared.types.PeHeaders.{PeHeaders}
use Rattle.ap_pe.specs.declared.types.PeSection.{PeSection}
use Rattle.ap_pe.specs.declared.program.Program.{Program}
use Rattle.ap_pe.specs.Format.{signature, optional_magic, file_header_at, headers_by, headers_at, section_at, sections_from}
use Rattle.ap_pe.specs.Sections.{Named, section_rows, section_header, section_table}
use Rattle.ap_pe.specs.Written.{file_rows, optional_rows, file_header, optional_header, headers_with}

-- the section's numbers have 32 bits
pub record SectionFits (s : PeSection) : Type 0 where
  pub vsize : s.vsize < 2 ^ 32
  pub vaddr : s.vaddr < 2 ^ 32
  pub raw : s.raw < 2 ^ 32
  pub at : s.at < 2 ^ 32
  pub flags : s.flags < 2 ^ 32

abbrev pub SectionsFit : List Named → Type 0
SectionsFit [] = Unit {0}
SectionsFit (s ∷ sections) = SectionFits s.1 × SectionsFit sections

pub length-section_header : (k : ℕ) (s : Named) → length (section_header k s) ≡ 40
unfolding section_header
length-section_header k s = length-structure 40 (section_rows k s) refl

pub section_at-holds : (w : List ℕ) (at k : ℕ) (s : Named) → SectionFits s.1 → Holds w at (section_header k s) → section_at w at ≡ s.1
unfolding section_header section_at
section_at-holds w at k s fits held =
    let f : FieldsHeld w at (section_rows k s) = fields-held w at 40 (section_rows k s) refl held in
    λ i. record {
      vsize = f.1.0 fits.vsize i;
      vaddr = f.1.1.0 fits.vaddr i;
      raw = f.1.1.1.0 fits.raw i;
      at = f.1.1.1.1.0 fits.at i;
      flags = f.1.1.1.1.1.0 fits.flags i;
    }

pub sections_from-holds : (w : List ℕ) (at k : ℕ) (sections : List Named) → SectionsFit sections → Holds w at (section_table k sections) → sections_from w at (length sections) ≡ map (λ s. s.1) sections
sections_from-holds w at k [] fits held = refl
sections_from-holds w at k (s ∷ sections) fits held =
    let here : section_at w at ≡ s.1 = section_at-holds w at k s fits.0 (holds-front w at (section_header k s) (section_table (k + 1) sections) held) in
    let behind : Holds w (at + 40) (section_table (k + 1) sections) = holds-behind w at (at + 40) (section_header k s) (section_table (k + 1) sections) (let l = length-section_header k s in omega arith) held in
    let rest : sections_from w (at + 40) (length sections) ≡ map (λ s. s.1) sections = sections_from-holds w (at + 40) (k + 1) sections fits.1 behind in
    ap (λ (x : PeSection). x ∷ sections_from w (at + 40) (length sections)) here ∙ ap (λ (xs : List PeSection). s.1 ∷ xs) rest

pub length-file_header : (count : ℕ) → length (file_header count) ≡ 24
unfolding file_header
length-file_header count = length-structure 24 (file_rows count) refl

pub length-optional_header : (p : Program) (end : ℕ) (sections : List Named) → length (optional_header p end sections) ≡ 240
unfolding optional_header
length-optional_header p end sections = length-structure 240 (optional_rows p end sections) refl

-- the numbers that are read have their widths
pub record ProgramFits (p : Program) (end n : ℕ) : Type 0 where
  pub base : p.base < 2 ^ 64
  pub entry : p.entry - p.base < 2 ^ 32
  pub image : end - p.base < 2 ^ 32
  pub count : n < 2 ^ 16

abbrev pub written_headers : ℕ → Program → ℕ → ℕ → PeHeaders
written_headers at p end count = record {
  at = at;
  machine = 0x8664;
  count = count;
  optional = 240;
  entry = p.entry - p.base;
  base = p.base;
  section_align = 4096;
  file_align = 512;
  image = end - p.base;
  headers = 8192;
  directories = 16;
}

-- what is read of the headers
pub record HeadersRead (w : List ℕ) (at : ℕ) (p : Program) (end : ℕ) (named : List Named) : Type 0 where
  pub signature : value_at signature at w ≡ 0x4550
  pub magic : value_at optional_magic (at + 24) w ≡ 0x20b
  pub file : file_header_at w at ≡ record { signature = 0x4550; machine = 0x8664; count = length named; optional = 240 }
  pub headers : headers_at w at ≡ written_headers at p end (length named)
  pub sections : sections_from w (at + 264) (length named) ≡ map (λ s. s.1) named

file-held : (w : List ℕ) (at count : ℕ) → Holds w at (file_header count) → FieldsHeld w at (file_rows count)
unfolding file_header
file-held w at count held = fields-held w at 24 (file_rows count) refl held

optional-held : (w : List ℕ) (at : ℕ) (p : Program) (end : ℕ) (sections : List Named) → Holds w at (optional_header p end sections) → FieldsHeld w at (optional_rows p end sections)
unfolding optional_header
optional-held w at p end sections held = fields-held w at 240 (optional_rows p end sections) refl held

headers-by : (w : List ℕ) (at end count : ℕ) (p : Program) (sections : List Named) → ProgramFits p end count → FieldsHeld w at (file_rows count) → FieldsHeld w (at + 24) (optional_rows p end sections)
    → headers_at w at ≡ written_headers at p end count
unfolding file_header_at headers_by
headers-by w at end count p sections fits f o =
    λ i. record {
      at = at;
      machine = f.1.0 (omega arith) i;
      count = f.1.1.0 fits.count i;
      optional = f.1.1.1.0 (omega arith) i;
      entry = o.1.1.1.0 fits.entry i;
      base = o.1.1.1.1.1.0 fits.base i;
      section_align = o.1.1.1.1.1.1.0 (omega arith) i;
      file_align = o.1.1.1.1.1.1.1.0 (omega arith) i;
      image = o.1.1.1.1.1.1.1.1.1.1.0 fits.image i;
      headers = o.1.1.1.1.1.1.1.1.1.1.1.0 (omega arith) i;
      directories = o.1.1.1.1.1.1.1.1.1.1.1.1.1.1.1.1.1.1.0 (omega arith) i;
    }

file-by : (w : List ℕ) (at count : ℕ) → count < 2 ^ 16 → FieldsHeld w at (file_rows count) → file_header_at w at ≡ record { signature = 0x4550; machine = 0x8664; count = count; optional = 240 }
unfolding file_header_at
file-by w at count few f = λ i. record {
  signature = f.0 (omega arith) i;
  machine = f.1.0 (omega arith) i;
  count = f.1.1.0 few i;
  optional = f.1.1.1.0 (omega arith) i;
}

pub headers-read : (w : List ℕ) (at : ℕ) (p : Program) (end : ℕ) (sections : List Named) → ProgramFits p end (length sections) → SectionsFit sections → Holds w at (headers_with p end sections) → HeadersRead w at p end sections
unfolding headers_with
headers-read w at p end sections fits sized held =
    let more : List ℕ = optional_header p end sections ++ section_table 1 sections in
    let l1 = length-file_header (length sections) in
    let l2 = length-optional_header p end sections in
    let h1 : Holds w (at + 24) more = holds-behind w at (at + 24) (file_header (length sections)) more (omega arith) held in
    let h2 : Holds w (at + 264) (section_table 1 sections) = holds-behind w (at + 24) (at + 264) (optional_header p end sections) (section_table 1 sections) (omega arith) h1 in
    let f = file-held w at (length sections) (holds-front w at (file_header (length sections)) more held) in
    let o = optional-held w (at + 24) p end sections (holds-front w (at + 24) (optional_header p end sections) (section_table 1 sections) h1) in
    record {
      signature = f.0 (omega arith);
      magic = o.0 (omega arith);
      file = file-by w at (length sections) fits.count f;
      headers = headers-by w at end (length sections) p sections fits f o;
      sections = sections_from-holds w (at + 264) 1 sections sized h2;
    }
