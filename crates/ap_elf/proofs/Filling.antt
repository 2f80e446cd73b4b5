-- A buffer that is filled from its front on, one number after the other.
use Rattle.std.proofs.Common.{◌≡◌, ℕ, zero, suc, ◌+◌, ◌-◌, ◌^◌, ◌<◌, ◌≤◌, List, [], ◌++◌, length, take, drop, slice_index, refl, sym, ap, ◌∙◌, subst, arith, length-append, length-drop, append_assoc}
use Rattle.std.specs.Int.{bytes_low_first}
use Rattle.std.proofs.lemmas.List.{length-take-le, take_all}
use Rattle.std.proofs.Math.Seq.{take-append_seam}
use Rattle.ap_fields.specs.Fields.{number_at, bytes_of, Puts}
use Rattle.ap_fields.proofs.Numbers.{number_at-lt, number_at-append_left, number_at-append_right, length-bytes_of, byte_at-lt}
use Rattle.ap_elf.specs.declared.types.Header.{Header}
use Rattle.ap_elf.specs.declared.types.Entry.{Entry}
use Rattle.ap_elf.specs.Written.{header_bytes, entry_bytes, HeaderFits, EntryFits}

bytes_low_first-lt : (i n x k : ℕ) → slice_index (bytes_low_first i n x) k < 256
bytes_low_first-lt i zero x k = omega arith
bytes_low_first-lt i (suc n) x zero = byte_at-lt i x
bytes_low_first-lt i (suc n) x (suc k) = bytes_low_first-lt (suc i) n x k

bytes_of-lt : (n x : ℕ) → number_at n 0 (bytes_of n x) < 256 ^ n
unfolding bytes_of
bytes_of-lt n x = number_at-lt n 0 (bytes_low_first 0 n x) (bytes_low_first-lt 0 n x)

-- a number that was written has its width
pub puts-small : (n at x : ℕ) (old new : List ℕ) → at + n ≤ length old → Puts n at x old new → x < 256 ^ n
puts-small n at x old new fits puts =
    let bytes : List ℕ = bytes_of n x in
    let rest : List ℕ = drop (at + length bytes) old in
    let len : length bytes ≡ n = length-bytes_of n x in
    let front : length (take at old) ≡ at = length-take-le at old (omega arith) in
    let place : at ≡ length (take at old) + 0 = omega arith in
    let same : x ≡ number_at n 0 bytes =
    sym puts.field
    ∙ ap (number_at n at) (puts.bytes ∙ append_assoc (take at old) bytes rest)
    ∙ ap (λ k. number_at n k (take at old ++ (bytes ++ rest))) place
    ∙ number_at-append_right n 0 (take at old) (bytes ++ rest)
    ∙ number_at-append_left n 0 bytes rest (omega arith) in
    let small = bytes_of-lt n x in
    subst (λ y. y < 256 ^ n) (sym same) small

-- a buffer of so many bytes has these at its front
pub record Begins (count : ℕ) (b : List ℕ) (at : ℕ) (front : List ℕ) : Type 0 where
  pub front_is : take at b ≡ front
  pub size : length b ≡ count

pub begins-first : (count at : ℕ) (part rest front : List ℕ) → part ≡ front → length part ≡ at → at + length rest ≡ count → Begins count (part ++ rest) at front
begins-first count at part rest front is len all = record {
  front_is = ap (λ k. take k (part ++ rest)) (sym len) ∙ take-append_seam part rest ∙ is;
  size = length-append part rest ∙ omega arith;
}

-- one number more
pub begins-put : (count n at next x : ℕ) (old new front : List ℕ) → next ≡ at + n → next ≤ count → Puts n at x old new → Begins count old at front → Begins count new next (front ++ bytes_of n x)
begins-put count n at next x old new front is fits puts h =
    let bytes : List ℕ = bytes_of n x in
    let rest : List ℕ = drop (at + length bytes) old in
    let len : length bytes ≡ n = length-bytes_of n x in
    let size = h.size in
    let before : length (take at old) ≡ at = length-take-le at old (omega arith) in
    let both : length (take at old ++ bytes) ≡ next = length-append (take at old) bytes ∙ omega arith in
    let behind : length rest ≡ length old - (at + length bytes) = length-drop (at + length bytes) old in
    record {
      front_is = ap (take next) puts.bytes ∙ ap (λ k. take k ((take at old ++ bytes) ++ rest)) (sym both) ∙ take-append_seam (take at old ++ bytes) rest ∙ ap (λ f. f ++ bytes) h.front_is;
      size = ap length puts.bytes ∙ length-append (take at old ++ bytes) rest ∙ omega arith;
    }

-- a buffer that is full
pub begins-whole : (count : ℕ) (b front : List ℕ) → Begins count b count front → b ≡ front
begins-whole count b front h = sym (take_all count b (let size = h.size in omega arith)) ∙ h.front_is

-- the program header that was written
pub entry-spelled : (p : Entry) (b0 b1 b2 b3 b4 b5 b6 b7 b8 : List ℕ) → length b0 ≡ 56 → Puts 4 0 p.kind b0 b1 → Puts 4 4 p.flags b1 b2 → Puts 8 8 p.offset b2 b3 → Puts 8 16 p.vaddr b3 b4 → Puts 8 24 p.paddr b4 b5 → Puts 8 32 p.filesz b5 b6 → Puts 8 40 p.memsz b6 b7 → Puts 8 48 p.align b7 b8
    → (b8 ≡ entry_bytes p) × EntryFits p
unfolding entry_bytes
entry-spelled p b0 b1 b2 b3 b4 b5 b6 b7 b8 long p0 p1 p2 p3 p4 p5 p6 p7 =
    let s0 : Begins 56 b0 0 [] = record { front_is = refl; size = long } in
    let s1 = begins-put 56 4 0 4 p.kind b0 b1 _ refl (omega arith) p0 s0 in
    let s2 = begins-put 56 4 4 8 p.flags b1 b2 _ refl (omega arith) p1 s1 in
    let s3 = begins-put 56 8 8 16 p.offset b2 b3 _ refl (omega arith) p2 s2 in
    let s4 = begins-put 56 8 16 24 p.vaddr b3 b4 _ refl (omega arith) p3 s3 in
    let s5 = begins-put 56 8 24 32 p.paddr b4 b5 _ refl (omega arith) p4 s4 in
    let s6 = begins-put 56 8 32 40 p.filesz b5 b6 _ refl (omega arith) p5 s5 in
    let s7 = begins-put 56 8 40 48 p.memsz b6 b7 _ refl (omega arith) p6 s6 in
    let s8 = begins-put 56 8 48 56 p.align b7 b8 _ refl (omega arith) p7 s7 in (
      begins-whole 56 b8 _ s8 ∙ simp append_assoc,
      record {
        kind = puts-small 4 0 p.kind b0 b1 (let size = s0.size in omega arith) p0;
        flags = puts-small 4 4 p.flags b1 b2 (let size = s1.size in omega arith) p1;
        offset = puts-small 8 8 p.offset b2 b3 (let size = s2.size in omega arith) p2;
        vaddr = puts-small 8 16 p.vaddr b3 b4 (let size = s3.size in omega arith) p3;
        paddr = puts-small 8 24 p.paddr b4 b5 (let size = s4.size in omega arith) p4;
        filesz = puts-small 8 32 p.filesz b5 b6 (let size = s5.size in omega arith) p5;
        memsz = puts-small 8 40 p.memsz b6 b7 (let size = s6.size in omega arith) p6;
        align = puts-small 8 48 p.align b7 b8 (let size = s7.size in omega arith) p7;
      },
    )

-- the header that was written
pub header-spelled : (h : Header) (b0 b1 b2 b3 b4 b5 b6 b7 b8 b9 b10 b11 b12 b13 : List ℕ) → length h.ident ≡ 16 → Begins 64 b0 16 h.ident → Puts 2 16 h.e_type b0 b1 → Puts 2 18 h.e_machine b1 b2 → Puts 4 20 h.e_version b2 b3 → Puts 8 24 h.e_entry b3 b4 → Puts 8 32 h.e_phoff b4 b5 → Puts 8 40 h.e_shoff b5 b6 → Puts 4 48 h.e_flags b6 b7 → Puts 2 52 h.e_ehsize b7 b8 → Puts 2 54 h.e_phentsize b8 b9 → Puts 2 56 h.e_phnum b9 b10 → Puts 2 58 h.e_shentsize b10 b11 → Puts 2 60 h.e_shnum b11 b12 → Puts 2 62 h.e_shstrndx b12 b13
    → (b13 ≡ header_bytes h) × HeaderFits h
unfolding header_bytes
header-spelled h b0 b1 b2 b3 b4 b5 b6 b7 b8 b9 b10 b11 b12 b13 ident s0 p0 p1 p2 p3 p4 p5 p6 p7 p8 p9 p10 p11 p12 =
    let s1 = begins-put 64 2 16 18 h.e_type b0 b1 _ refl (omega arith) p0 s0 in
    let s2 = begins-put 64 2 18 20 h.e_machine b1 b2 _ refl (omega arith) p1 s1 in
    let s3 = begins-put 64 4 20 24 h.e_version b2 b3 _ refl (omega arith) p2 s2 in
    let s4 = begins-put 64 8 24 32 h.e_entry b3 b4 _ refl (omega arith) p3 s3 in
    let s5 = begins-put 64 8 32 40 h.e_phoff b4 b5 _ refl (omega arith) p4 s4 in
    let s6 = begins-put 64 8 40 48 h.e_shoff b5 b6 _ refl (omega arith) p5 s5 in
    let s7 = begins-put 64 4 48 52 h.e_flags b6 b7 _ refl (omega arith) p6 s6 in
    let s8 = begins-put 64 2 52 54 h.e_ehsize b7 b8 _ refl (omega arith) p7 s7 in
    let s9 = begins-put 64 2 54 56 h.e_phentsize b8 b9 _ refl (omega arith) p8 s8 in
    let s10 = begins-put 64 2 56 58 h.e_phnum b9 b10 _ refl (omega arith) p9 s9 in
    let s11 = begins-put 64 2 58 60 h.e_shentsize b10 b11 _ refl (omega arith) p10 s10 in
    let s12 = begins-put 64 2 60 62 h.e_shnum b11 b12 _ refl (omega arith) p11 s11 in
    let s13 = begins-put 64 2 62 64 h.e_shstrndx b12 b13 _ refl (omega arith) p12 s12 in (
      begins-whole 64 b13 _ s13 ∙ simp append_assoc,
      record {
        ident = ident;
        e_type = puts-small 2 16 h.e_type b0 b1 (let size = s0.size in omega arith) p0;
        e_machine = puts-small 2 18 h.e_machine b1 b2 (let size = s1.size in omega arith) p1;
        e_version = puts-small 4 20 h.e_version b2 b3 (let size = s2.size in omega arith) p2;
        e_entry = puts-small 8 24 h.e_entry b3 b4 (let size = s3.size in omega arith) p3;
        e_phoff = puts-small 8 32 h.e_phoff b4 b5 (let size = s4.size in omega arith) p4;
        e_shoff = puts-small 8 40 h.e_shoff b5 b6 (let size = s5.size in omega arith) p5;
        e_flags = puts-small 4 48 h.e_flags b6 b7 (let size = s6.size in omega arith) p6;
        e_ehsize = puts-small 2 52 h.e_ehsize b7 b8 (let size = s7.size in omega arith) p7;
        e_phentsize = puts-small 2 54 h.e_phentsize b8 b9 (let size = s8.size in omega arith) p8;
        e_phnum = puts-small 2 56 h.e_phnum b9 b10 (let size = s9.size in omega arith) p9;
        e_shentsize = puts-small 2 58 h.e_shentsize b10 b11 (let size = s10.size in omega arith) p10;
        e_shnum = puts-small 2 60 h.e_shnum b11 b12 (let size = s11.size in omega arith) p11;
        e_shstrndx = puts-small 2 62 h.e_shstrndx b12 b13 (let size = s12.size in omega arith) p12;
      },
    )
