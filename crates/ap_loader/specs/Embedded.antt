-- The statement from which an APE loader takes a program's ELF header (APE specification).
use Rattle.std.specs.Prelude.{ℕ, zero, suc, ◌+◌, ◌==◌, ◌&&◌, ◌||◌, nat_eq, nat_le, if◌then◌else◌, Bool, List, [], ◌∷◌, length, take, drop, Option, Some, None, option_map, codes}
use Rattle.std.specs.List.{starts_with}
use Rattle.std.specs.Option.{option_and_then}
use Rattle.memchr.specs.Find.{occurs_at}
use Rattle.ap_fields.specs.Fields.{number_at}
use Rattle.ap_fields.specs.declared.sizes.TheConstants.{WINDOW}
use Rattle.ap_elf.specs.declared.constants.TheConstants.{EHDR_SIZE}
use Rattle.ap_octal.specs.OctalReading.{octal_bytes_of}

-- the file begins as one of the format
abbrev pub has_magic : List ℕ → Bool
has_magic file =
    starts_with nat_eq file (codes "MZqFpD='")
    || (starts_with nat_eq file (codes "jartsr='") || starts_with nat_eq file (codes "APEDBG='"))

-- the text in front of the first quote, where there is one
abbrev pub before_quote : List ℕ → Option (List ℕ)
before_quote [] = None
before_quote (c ∷ text) = if c == 39 then Some [] else option_map (λ front. c ∷ front) (before_quote text)

-- bytes begin as an ELF header of 64 bits, little endian, for the machine
abbrev pub begins_header : ℕ → List ℕ → Bool
begins_header machine bytes =
    starts_with nat_eq bytes (127 ∷ 69 ∷ 76 ∷ 70 ∷ 2 ∷ 1 ∷ []) && number_at 2 18 bytes == machine

-- the first 64 bytes, where they are such a header
abbrev pub header_in : ℕ → List ℕ → Option (List ℕ)
header_in machine bytes =
    if nat_le EHDR_SIZE (length bytes) && begins_header machine (take EHDR_SIZE bytes) then Some (take EHDR_SIZE bytes) else None

-- the header that a statement at a place of the window prints, where there is one for the machine
abbrev pub header_at : ℕ → List ℕ → ℕ → Option (List ℕ)
header_at machine window at =
    if occurs_at window (codes "printf '") at
    then option_and_then (header_in machine) (option_and_then octal_bytes_of (before_quote (drop (at + 8) window)))
    else None

-- a header here, or else what stands further on
abbrev pub or_later : ℕ → Option (List ℕ) → Option (ℕ × List ℕ) → Option (ℕ × List ℕ)
or_later at (Some header) later = Some (at, header)
or_later at None later = later

-- the first such header at the n places from one on, with its place
abbrev pub first_header : ℕ → List ℕ → ℕ → ℕ → Option (ℕ × List ℕ)
first_header machine window at zero = None
first_header machine window at (suc n) = or_later at (header_at machine window at) (first_header machine window (at + 1) n)

-- the first such header at a place of a window, with its place
abbrev pub header_of_window : ℕ → List ℕ → Option (ℕ × List ℕ)
header_of_window machine window = first_header machine window 0 (length window)

-- the statement that is taken, and its header: it stands in the file's window, its first 8192 bytes
unfoldable pub taken : ℕ → List ℕ → Option (ℕ × List ℕ)
taken machine file = if has_magic file then header_of_window machine (take WINDOW file) else None
