-- What was written is read: numbers, headers, program headers and their tables.
use Rattle.std.proofs.Common.{◌≡◌, ℕ, suc, ◌+◌, ◌*◌, ◌^◌, ◌<◌, ◌≤◌, List, [], ◌∷◌, ◌++◌, length, take, slice_index, refl, sym, ap, ◌∙◌, arith, length-append}
use Rattle.ap_fields.specs.Fields.{number_at, bytes_of}
use Rattle.ap_fields.specs.Bytes.{Holds}
use Rattle.ap_fields.proofs.Numbers.{length-bytes_of}
use Rattle.ap_fields.proofs.Bytes.{holds-part, holds-front, holds-behind, number_at-holds}
use Rattle.ap_elf.specs.declared.types.Header.{Header}
use Rattle.ap_elf.specs.declared.types.Entry.{Entry}
use Rattle.ap_elf.specs.Fields.{header_of, entry_at, entries_from}
use Rattle.ap_elf.specs.Written.{header_bytes, entry_bytes, table_bytes, HeaderFits, EntryFits, EntriesFit, TablesAreReadBack}

-- the first of some numbers, and the others
number_at-first : (n x at : ℕ) (w rest : List ℕ) → x < 256 ^ n → Holds w at (bytes_of n x ++ rest) → number_at n at w ≡ x
number_at-first n x at w rest small h = number_at-holds n x at w small (holds-front w at (bytes_of n x) rest h)

behind-number : (n x at next : ℕ) (w rest : List ℕ) → next ≡ at + n → Holds w at (bytes_of n x ++ rest) → Holds w next rest
behind-number n x at next w rest is h = holds-behind w at next (bytes_of n x) rest (let len = length-bytes_of n x in omega arith) h

take-holds : (part w : List ℕ) → length part ≤ length w → ((k : ℕ) → k < length part → slice_index w k ≡ slice_index part k) → take (length part) w ≡ part
take-holds [] w fits h = refl
take-holds (x ∷ part) [] fits h = absurd (omega arith)
take-holds (x ∷ part) (y ∷ w) fits h =
    let first : y ≡ x = h 0 (omega arith) in
    let rest : take (length part) w ≡ part = take-holds part w (omega arith) (λ k l. h (suc k) (omega arith)) in
    ap (λ z. z ∷ take (length part) w) first ∙ ap (λ l. x ∷ l) rest

-- a file that has a header's bytes at its start has the header
pub header_of-holds : (w : List ℕ) (h : Header) → HeaderFits h → Holds w 0 (header_bytes h) → header_of w ≡ h
unfolding header_of header_bytes
header_of-holds w h fits held =
    let long = fits.ident in
    let h0 : Holds w 16 (bytes_of 2 h.e_type ++ (bytes_of 2 h.e_machine ++ (bytes_of 4 h.e_version ++ (bytes_of 8 h.e_entry ++ (bytes_of 8 h.e_phoff ++ (bytes_of 8 h.e_shoff ++ (bytes_of 4 h.e_flags ++ (bytes_of 2 h.e_ehsize ++ (bytes_of 2 h.e_phentsize ++ (bytes_of 2 h.e_phnum ++ (bytes_of 2 h.e_shentsize ++ (bytes_of 2 h.e_shnum ++ bytes_of 2 h.e_shstrndx)))))))))))) = holds-behind w 0 16 h.ident _ (omega arith) held in
    let h1 : Holds w 18 (bytes_of 2 h.e_machine ++ (bytes_of 4 h.e_version ++ (bytes_of 8 h.e_entry ++ (bytes_of 8 h.e_phoff ++ (bytes_of 8 h.e_shoff ++ (bytes_of 4 h.e_flags ++ (bytes_of 2 h.e_ehsize ++ (bytes_of 2 h.e_phentsize ++ (bytes_of 2 h.e_phnum ++ (bytes_of 2 h.e_shentsize ++ (bytes_of 2 h.e_shnum ++ bytes_of 2 h.e_shstrndx))))))))))) = behind-number 2 h.e_type 16 18 w _ refl h0 in
    let h2 : Holds w 20 (bytes_of 4 h.e_version ++ (bytes_of 8 h.e_entry ++ (bytes_of 8 h.e_phoff ++ (bytes_of 8 h.e_shoff ++ (bytes_of 4 h.e_flags ++ (bytes_of 2 h.e_ehsize ++ (bytes_of 2 h.e_phentsize ++ (bytes_of 2 h.e_phnum ++ (bytes_of 2 h.e_shentsize ++ (bytes_of 2 h.e_shnum ++ bytes_of 2 h.e_shstrndx)))))))))) = behind-number 2 h.e_machine 18 20 w _ refl h1 in
    let h3 : Holds w 24 (bytes_of 8 h.e_entry ++ (bytes_of 8 h.e_phoff ++ (bytes_of 8 h.e_shoff ++ (bytes_of 4 h.e_flags ++ (bytes_of 2 h.e_ehsize ++ (bytes_of 2 h.e_phentsize ++ (bytes_of 2 h.e_phnum ++ (bytes_of 2 h.e_shentsize ++ (bytes_of 2 h.e_shnum ++ bytes_of 2 h.e_shstrndx))))))))) = behind-number 4 h.e_version 20 24 w _ refl h2 in
    let h4 : Holds w 32 (bytes_of 8 h.e_phoff ++ (bytes_of 8 h.e_shoff ++ (bytes_of 4 h.e_flags ++ (bytes_of 2 h.e_ehsize ++ (bytes_of 2 h.e_phentsize ++ (bytes_of 2 h.e_phnum ++ (bytes_of 2 h.e_shentsize ++ (bytes_of 2 h.e_shnum ++ bytes_of 2 h.e_shstrndx)))))))) = behind-number 8 h.e_entry 24 32 w _ refl h3 in
    let h5 : Holds w 40 (bytes_of 8 h.e_shoff ++ (bytes_of 4 h.e_flags ++ (bytes_of 2 h.e_ehsize ++ (bytes_of 2 h.e_phentsize ++ (bytes_of 2 h.e_phnum ++ (bytes_of 2 h.e_shentsize ++ (bytes_of 2 h.e_shnum ++ bytes_of 2 h.e_shstrndx))))))) = behind-number 8 h.e_phoff 32 40 w _ refl h4 in
    let h6 : Holds w 48 (bytes_of 4 h.e_flags ++ (bytes_of 2 h.e_ehsize ++ (bytes_of 2 h.e_phentsize ++ (bytes_of 2 h.e_phnum ++ (bytes_of 2 h.e_shentsize ++ (bytes_of 2 h.e_shnum ++ bytes_of 2 h.e_shstrndx)))))) = behind-number 8 h.e_shoff 40 48 w _ refl h5 in
    let h7 : Holds w 52 (bytes_of 2 h.e_ehsize ++ (bytes_of 2 h.e_phentsize ++ (bytes_of 2 h.e_phnum ++ (bytes_of 2 h.e_shentsize ++ (bytes_of 2 h.e_shnum ++ bytes_of 2 h.e_shstrndx))))) = behind-number 4 h.e_flags 48 52 w _ refl h6 in
    let h8 : Holds w 54 (bytes_of 2 h.e_phentsize ++ (bytes_of 2 h.e_phnum ++ (bytes_of 2 h.e_shentsize ++ (bytes_of 2 h.e_shnum ++ bytes_of 2 h.e_shstrndx)))) = behind-number 2 h.e_ehsize 52 54 w _ refl h7 in
    let h9 : Holds w 56 (bytes_of 2 h.e_phnum ++ (bytes_of 2 h.e_shentsize ++ (bytes_of 2 h.e_shnum ++ bytes_of 2 h.e_shstrndx))) = behind-number 2 h.e_phentsize 54 56 w _ refl h8 in
    let h10 : Holds w 58 (bytes_of 2 h.e_shentsize ++ (bytes_of 2 h.e_shnum ++ bytes_of 2 h.e_shstrndx)) = behind-number 2 h.e_phnum 56 58 w _ refl h9 in
    let h11 : Holds w 60 (bytes_of 2 h.e_shnum ++ bytes_of 2 h.e_shstrndx) = behind-number 2 h.e_shentsize 58 60 w _ refl h10 in
    let h12 : Holds w 62 (bytes_of 2 h.e_shstrndx) = behind-number 2 h.e_shnum 60 62 w _ refl h11 in
    let front = holds-front w 0 h.ident _ held in
    let ident : take 16 w ≡ h.ident = ap (λ k. take k w) (sym long) ∙ take-holds h.ident w (let f = front.fits in omega arith) (λ k l. ap (λ i. slice_index w i) (let z : k ≡ 0 + k = omega arith in z) ∙ front.same k l) in
    λ i. record {
      ident = ident i;
      e_type = number_at-first 2 h.e_type 16 w _ fits.e_type h0 i;
      e_machine = number_at-first 2 h.e_machine 18 w _ fits.e_machine h1 i;
      e_version = number_at-first 4 h.e_version 20 w _ fits.e_version h2 i;
      e_entry = number_at-first 8 h.e_entry 24 w _ fits.e_entry h3 i;
      e_phoff = number_at-first 8 h.e_phoff 32 w _ fits.e_phoff h4 i;
      e_shoff = number_at-first 8 h.e_shoff 40 w _ fits.e_shoff h5 i;
      e_flags = number_at-first 4 h.e_flags 48 w _ fits.e_flags h6 i;
      e_ehsize = number_at-first 2 h.e_ehsize 52 w _ fits.e_ehsize h7 i;
      e_phentsize = number_at-first 2 h.e_phentsize 54 w _ fits.e_phentsize h8 i;
      e_phnum = number_at-first 2 h.e_phnum 56 w _ fits.e_phnum h9 i;
      e_shentsize = number_at-first 2 h.e_shentsize 58 w _ fits.e_shentsize h10 i;
      e_shnum = number_at-first 2 h.e_shnum 60 w _ fits.e_shnum h11 i;
      e_shstrndx = number_at-holds 2 h.e_shstrndx 62 w fits.e_shstrndx h12 i;
    }

-- a file that has a program header's bytes at a place has the program header there
pub entry_at-holds : (w : List ℕ) (at : ℕ) (p : Entry) → EntryFits p → Holds w at (entry_bytes p) → entry_at w at ≡ p
unfolding entry_at entry_bytes
entry_at-holds w at p fits held =
    let h0 : Holds w at (bytes_of 4 p.kind ++ (bytes_of 4 p.flags ++ (bytes_of 8 p.offset ++ (bytes_of 8 p.vaddr ++ (bytes_of 8 p.paddr ++ (bytes_of 8 p.filesz ++ (bytes_of 8 p.memsz ++ bytes_of 8 p.align))))))) = held in
    let h1 : Holds w (at + 4) (bytes_of 4 p.flags ++ (bytes_of 8 p.offset ++ (bytes_of 8 p.vaddr ++ (bytes_of 8 p.paddr ++ (bytes_of 8 p.filesz ++ (bytes_of 8 p.memsz ++ bytes_of 8 p.align)))))) = behind-number 4 p.kind at (at + 4) w _ (omega arith) h0 in
    let h2 : Holds w (at + 8) (bytes_of 8 p.offset ++ (bytes_of 8 p.vaddr ++ (bytes_of 8 p.paddr ++ (bytes_of 8 p.filesz ++ (bytes_of 8 p.memsz ++ bytes_of 8 p.align))))) = behind-number 4 p.flags (at + 4) (at + 8) w _ (omega arith) h1 in
    let h3 : Holds w (at + 16) (bytes_of 8 p.vaddr ++ (bytes_of 8 p.paddr ++ (bytes_of 8 p.filesz ++ (bytes_of 8 p.memsz ++ bytes_of 8 p.align)))) = behind-number 8 p.offset (at + 8) (at + 16) w _ (omega arith) h2 in
    let h4 : Holds w (at + 24) (bytes_of 8 p.paddr ++ (bytes_of 8 p.filesz ++ (bytes_of 8 p.memsz ++ bytes_of 8 p.align))) = behind-number 8 p.vaddr (at + 16) (at + 24) w _ (omega arith) h3 in
    let h5 : Holds w (at + 32) (bytes_of 8 p.filesz ++ (bytes_of 8 p.memsz ++ bytes_of 8 p.align)) = behind-number 8 p.paddr (at + 24) (at + 32) w _ (omega arith) h4 in
    let h6 : Holds w (at + 40) (bytes_of 8 p.memsz ++ bytes_of 8 p.align) = behind-number 8 p.filesz (at + 32) (at + 40) w _ (omega arith) h5 in
    let h7 : Holds w (at + 48) (bytes_of 8 p.align) = behind-number 8 p.memsz (at + 40) (at + 48) w _ (omega arith) h6 in
    λ i. record {
      kind = number_at-first 4 p.kind at w _ fits.kind h0 i;
      flags = number_at-first 4 p.flags (at + 4) w _ fits.flags h1 i;
      offset = number_at-first 8 p.offset (at + 8) w _ fits.offset h2 i;
      vaddr = number_at-first 8 p.vaddr (at + 16) w _ fits.vaddr h3 i;
      paddr = number_at-first 8 p.paddr (at + 24) w _ fits.paddr h4 i;
      filesz = number_at-first 8 p.filesz (at + 32) w _ fits.filesz h5 i;
      memsz = number_at-first 8 p.memsz (at + 40) w _ fits.memsz h6 i;
      align = number_at-holds 8 p.align (at + 48) w fits.align h7 i;
    }

pub length-entry_bytes : (p : Entry) → length (entry_bytes p) ≡ 56
unfolding entry_bytes
length-entry_bytes p = simp (length-append, length-bytes_of) (omega arith)

pub length-table_bytes : (entries : List Entry) → length (table_bytes entries) ≡ 56 * length entries
unfolding table_bytes
length-table_bytes [] = refl
length-table_bytes (p ∷ entries) =
    let here = length-entry_bytes p in
    let rest = length-table_bytes entries in
    length-append (entry_bytes p) (table_bytes entries) ∙ omega arith

-- a file that has a table's bytes at a place has its program headers there
pub entries_from-holds : (w : List ℕ) (at : ℕ) (entries : List Entry) → EntriesFit entries → Holds w at (table_bytes entries) → entries_from w at (length entries) ≡ entries
unfolding table_bytes
entries_from-holds w at [] fits held = refl
entries_from-holds w at (p ∷ entries) fits held =
    let here : entry_at w at ≡ p = entry_at-holds w at p fits.0 (holds-front w at (entry_bytes p) (table_bytes entries) held) in
    let behind : Holds w (at + 56) (table_bytes entries) = holds-behind w at (at + 56) (entry_bytes p) (table_bytes entries) (let len = length-entry_bytes p in omega arith) held in
    let rest : entries_from w (at + 56) (length entries) ≡ entries = entries_from-holds w (at + 56) entries fits.1 behind in
    ap (λ (e : Entry). e ∷ entries_from w (at + 56) (length entries)) here ∙ ap (λ (es : List Entry). p ∷ es) rest

pub tables-read_back : TablesAreReadBack
tables-read_back entries fits = record {
  size = length-table_bytes entries;
  back = λ w at held. entries_from-holds w at entries fits held;
}

-- whatever stands behind a header
pub header_of-bytes : (h : Header) (rest : List ℕ) → HeaderFits h → header_of (header_bytes h ++ rest) ≡ h
header_of-bytes h rest fits = header_of-holds (header_bytes h ++ rest) h fits (holds-part [] (header_bytes h) rest 0 refl)
