-- The import directory of written headers is read back.
use Rattle.std.proofs.Common.{◌≡◌, ℕ, ◌+◌, ◌^◌, ◌<◌, nat_lt, if◌then◌else◌, List, ◌++◌, length, refl, sym, ap, ◌∙◌, subst, arith}
use Rattle.ap_fields.specs.Bytes.{Holds}
use Rattle.ap_fields.specs.Structures.{value_at}
use Rattle.ap_fields.proofs.Bytes.{holds-front, holds-behind}
use Rattle.ap_fields.proofs.FieldReads.{FieldsHeld, fields-held}
use Rattle.ap_pe.specs.declared.program.Program.{Program}
use Rattle.ap_pe.specs.Format.{dos_headers, directory, headers_by, headers_at}
use Rattle.ap_pe.specs.Sections.{Named, section_table}
use Rattle.ap_pe.specs.Written.{optional_rows, file_header, optional_header, headers_with}
use Rattle.ap_pe.proofs.HeaderReads.{length-file_header}
use Rattle.ap_link.specs.Imported.{directory_by}

-- the numbers that are read have their widths
pub record DirectoryFits (p : Program) : Type 0 where
  pub base : p.base < 2 ^ 64
  pub rva : p.imports.rva < 2 ^ 32
  pub length : p.imports.length < 2 ^ 32

-- what is read of the headers at a place
pub record DirectoryRead (w : List ℕ) (at : ℕ) (p : Program) : Type 0 where
  pub base : (headers_at w at).base ≡ p.base
  pub directory : directory_by w (headers_at w at) ≡ p.imports

optional-held : (w : List ℕ) (at : ℕ) (p : Program) (end : ℕ) (sections : List Named) → Holds w at (headers_with p end sections) → FieldsHeld w (at + 24) (optional_rows p end sections)
unfolding headers_with optional_header
optional-held w at p end sections held =
    let more : List ℕ = optional_header p end sections ++ section_table 1 sections in
    let long = length-file_header (length sections) in
    let behind : Holds w (at + 24) more = holds-behind w at (at + 24) (file_header (length sections)) more (omega arith) held in
    fields-held w (at + 24) 240 (optional_rows p end sections) refl (holds-front w (at + 24) (optional_header p end sections) (section_table 1 sections) behind)

directory-by : (w : List ℕ) (at end : ℕ) (p : Program) (sections : List Named) → DirectoryFits p → FieldsHeld w (at + 24) (optional_rows p end sections) → DirectoryRead w at p
unfolding headers_by
directory-by w at end p sections fits o =
    let count = o.1.1.1.1.1.1.1.1.1.1.1.1.1.1.1.1.1.1.0 (omega arith) in
    let rva = o.1.1.1.1.1.1.1.1.1.1.1.1.1.1.1.1.1.1.1.0 fits.rva in
    let long = o.1.1.1.1.1.1.1.1.1.1.1.1.1.1.1.1.1.1.1.1.0 fits.length in
    let said = ap (λ n. if nat_lt 1 n then value_at (directory 1) (at + 24) w else 0) count ∙ rva in
    record { base = o.1.1.1.1.1.0 fits.base; directory = λ i. record { rva = said i; length = long i } }

-- the headers of a file
pub directory-read : (file : List ℕ) (at end : ℕ) (p : Program) (sections : List Named) → DirectoryFits p → value_at dos_headers 0 file ≡ at → Holds file at (headers_with p end sections) → DirectoryRead file (value_at dos_headers 0 file) p
directory-read file at end p sections fits place held = subst (λ k. DirectoryRead file k p) (sym place) (directory-by file at end p sections fits (optional-held file at p end sections held))
