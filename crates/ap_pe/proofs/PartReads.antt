-- The parts of the headers, each read alone.
use Rattle.std.proofs.Common.{◌≡◌, ℕ, ◌+◌, ◌≤◌, List, take, drop, refl, ap, ◌∙◌, arith}
use Rattle.ap_fields.specs.Fields.{number_at}
use Rattle.ap_elf.proofs.EntryTables.{number_at-part}
use Rattle.ap_pe.specs.declared.types.FileHeader.{FileHeader}
use Rattle.ap_pe.specs.Format.{file_header_at, headers_by}

-- a number in a part that was read
pub number-read : (n p at count : ℕ) (b part : List ℕ) → part ≡ take count (drop at b) → p + n ≤ count → number_at n p part ≡ number_at n (at + p) b
number-read n p at count b part e h = ap (number_at n p) e ∙ number_at-part n p (at + p) at count b refl h

file-part : (at : ℕ) (b : List ℕ) → file_header_at (take 24 (drop at b)) 0 ≡ file_header_at b at
unfolding file_header_at
file-part at b i = record {
  signature = (number_at-part 4 (0 + 0) (at + 0) at 24 b (omega arith) (omega arith)) i;
  machine = (number_at-part 2 (0 + 4) (at + 4) at 24 b (omega arith) (omega arith)) i;
  count = (number_at-part 2 (0 + 6) (at + 6) at 24 b (omega arith) (omega arith)) i;
  optional = (number_at-part 2 (0 + 20) (at + 20) at 24 b (omega arith) (omega arith)) i;
}

pub file-read : (at : ℕ) (b part : List ℕ) → part ≡ take 24 (drop at b) → file_header_at part 0 ≡ file_header_at b at
file-read at b part e = ap (λ x. file_header_at x 0) e ∙ file-part at b

optional-part : (at place : ℕ) (f : FileHeader) (b : List ℕ) → headers_by at f (take 112 (drop place b)) 0 ≡ headers_by at f b place
unfolding headers_by
optional-part at place f b i = record {
  at = at;
  machine = f.machine;
  count = f.count;
  optional = f.optional;
  entry = (number_at-part 4 (0 + 16) (place + 16) place 112 b (omega arith) (omega arith)) i;
  base = (number_at-part 8 (0 + 24) (place + 24) place 112 b (omega arith) (omega arith)) i;
  section_align = (number_at-part 4 (0 + 32) (place + 32) place 112 b (omega arith) (omega arith)) i;
  file_align = (number_at-part 4 (0 + 36) (place + 36) place 112 b (omega arith) (omega arith)) i;
  image = (number_at-part 4 (0 + 56) (place + 56) place 112 b (omega arith) (omega arith)) i;
  headers = (number_at-part 4 (0 + 60) (place + 60) place 112 b (omega arith) (omega arith)) i;
  directories = (number_at-part 4 (0 + 108) (place + 108) place 112 b (omega arith) (omega arith)) i;
}

pub optional-read : (at place : ℕ) (f : FileHeader) (b part : List ℕ) → part ≡ take 112 (drop place b) → headers_by at f part 0 ≡ headers_by at f b place
optional-read at place f b part e = ap (λ x. headers_by at f x 0) e ∙ optional-part at place f b
