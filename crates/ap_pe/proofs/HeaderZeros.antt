-- The PE headers hold a zero in each eight bytes that follow each other, whatever stands behind them.
use Rattle.std.proofs.Common.{◌≡◌, inl, inr, ℕ, ◌+◌, ◌-◌, ◌/◌, ◌%◌, ◌^◌, ◌<◌, ◌≤◌, List, [], ◌∷◌, ◌++◌, length, refl, sym, ap, ◌∙◌, subst, arith, append_assoc}
use Rattle.std.specs.Int.{byte_at}
use Rattle.ap_fields.specs.Structures.{structure}
use Rattle.ap_fields.proofs.Sparse.{Sparse, RowsSparse, rows-sparse, lower}
use Rattle.ap_pe.specs.declared.program.Program.{Program}
use Rattle.ap_pe.specs.Sections.{Named, name_of, section_rows, section_header, section_table}
use Rattle.ap_pe.specs.Written.{file_rows, file_header, optional_rows, optional_header, headers_with, raw_sum, is_code, is_data, first_code, stack_of}

-- fields with a zero byte
pub record SectionZeros (s : Named) : Type 0 where
  pub letter : s.0 < 256
  pub vaddr : s.1.vaddr % 256 ≡ 0
  pub raw : s.1.raw % 256 ≡ 0
  pub at : s.1.at % 256 ≡ 0
  pub flags : s.1.flags / 256 % 256 ≡ 0

abbrev pub SectionsZeros : List Named → Type 0
SectionsZeros [] = Unit {0}
SectionsZeros (s ∷ sections) = SectionZeros s × SectionsZeros sections

name-short : (letter k : ℕ) → letter < 256 → k < 100 → byte_at 4 (name_of letter k) ≡ 0
name-short letter k small few = let z : name_of letter k / 256 ^ 4 % 256 ≡ 0 = omega arith in z

section-rows : (k : ℕ) (s : Named) → k < 100 → SectionZeros s → RowsSparse 2 40 2 0 (section_rows k s)
section-rows k s few z =
    inr (
      4,
      omega arith,
      omega arith,
      name-short s.0 k z.letter few,
      omega arith,
      inl (
        omega arith,
        inr (
          0,
          omega arith,
          omega arith,
          z.vaddr,
          omega arith,
          inr (
            0,
            omega arith,
            omega arith,
            z.raw,
            omega arith,
            inr (
              0,
              omega arith,
              omega arith,
              z.at,
              omega arith,
              inr (1, omega arith, omega arith, z.flags, omega arith, refl),
            ),
          ),
        ),
      ),
    )

pub table-sparse : (k : ℕ) (sections : List Named) (ys : List ℕ) → k + length sections ≤ 100 → SectionsZeros sections → Sparse 2 ys → Sparse 2 (section_table k sections ++ ys)
unfolding section_header
table-sparse k [] ys few z rest = rest
table-sparse k (s ∷ sections) ys few z rest =
    let tail = table-sparse (k + 1) sections ys (omega arith) z.1 rest in
    subst (Sparse 2) (sym (append_assoc (section_header k s) (section_table (k + 1) sections) ys))
    (rows-sparse 2 40 2 0 (section_rows k s) (section_table (k + 1) sections ++ ys) (section-rows k s (omega arith) z.0) tail)

-- the numbers of the optional header that leave a zero where their neighbours mightn't
pub record ProgramZeros (p : Program) (end : ℕ) (sections : List Named) : Type 0 where
  pub code : raw_sum is_code sections % 256 ≡ 0
  pub plain : raw_sum is_data sections % 256 ≡ 0
  pub base : p.base % 65536 ≡ 0
  pub first : first_code sections % 256 ≡ 0
  pub stop : (end - p.base) % 256 ≡ 0
  pub stack : stack_of p % 256 ≡ 0
  pub imports : p.imports.length < 256 ^ 3
  pub slots : p.slots.length < 256 ^ 3

file-rows : (count : ℕ) → count < 256 → RowsSparse 0 24 0 0 (file_rows count)
file-rows count few =
    inr (
      2,
      omega arith,
      omega arith,
      refl,
      omega arith,
      inl (
        omega arith,
        inr (
          1,
          omega arith,
          omega arith,
          (let z : count / 256 % 256 ≡ 0 = omega arith in z),
          omega arith,
          inl (
            omega arith,
            inr (1, omega arith, omega arith, refl, omega arith, refl),
          ),
        ),
      ),
    )

last-zero : (n : ℕ) → n < 256 ^ 3 → byte_at 3 n ≡ 0
last-zero n small = let z : n / 256 ^ 3 % 256 ≡ 0 = omega arith in z

optional-rows : (p : Program) (end : ℕ) (sections : List Named) → ProgramZeros p end sections → RowsSparse 0 240 0 0 (optional_rows p end sections)
optional-rows p end sections z =
    inl (
      omega arith,
      inr (
        0,
        omega arith,
        omega arith,
        z.code,
        omega arith,
        inr (
          0,
          omega arith,
          omega arith,
          z.plain,
          omega arith,
          inl (
            omega arith,
            inr (
              0,
              omega arith,
              omega arith,
              z.first,
              omega arith,
              inr (
                0,
                omega arith,
                omega arith,
                (let b = z.base in omega arith),
                omega arith,
                inr (
                  0,
                  omega arith,
                  omega arith,
                  refl,
                  omega arith,
                  inr (
                    0,
                    omega arith,
                    omega arith,
                    refl,
                    omega arith,
                    inr (
                      1,
                      omega arith,
                      omega arith,
                      refl,
                      omega arith,
                      inr (
                        1,
                        omega arith,
                        omega arith,
                        refl,
                        omega arith,
                        inr (
                          0,
                          omega arith,
                          omega arith,
                          z.stop,
                          omega arith,
                          inr (
                            0,
                            omega arith,
                            omega arith,
                            refl,
                            omega arith,
                            inr (
                              1,
                              omega arith,
                              omega arith,
                              refl,
                              omega arith,
                              inr (
                                0,
                                omega arith,
                                omega arith,
                                refl,
                                omega arith,
                                inr (
                                  0,
                                  omega arith,
                                  omega arith,
                                  z.stack,
                                  omega arith,
                                  inr (
                                    0,
                                    omega arith,
                                    omega arith,
                                    refl,
                                    omega arith,
                                    inr (
                                      0,
                                      omega arith,
                                      omega arith,
                                      refl,
                                      omega arith,
                                      inr (
                                        0,
                                        omega arith,
                                        omega arith,
                                        refl,
                                        omega arith,
                                        inr (
                                          1,
                                          omega arith,
                                          omega arith,
                                          refl,
                                          omega arith,
                                          inl (
                                            omega arith,
                                            inr (
                                              3,
                                              omega arith,
                                              omega arith,
                                              (let h = z.imports in last-zero p.imports.length h),
                                              omega arith,
                                              inl (
                                                omega arith,
                                                inr (
                                                  3,
                                                  omega arith,
                                                  omega arith,
                                                  (let h = z.slots in last-zero p.slots.length h),
                                                  omega arith,
                                                  refl,
                                                ),
                                              ),
                                            ),
                                          ),
                                        ),
                                      ),
                                    ),
                                  ),
                                ),
                              ),
                            ),
                          ),
                        ),
                      ),
                    ),
                  ),
                ),
              ),
            ),
          ),
        ),
      ),
    )

-- the headers, whatever stands behind them
pub headers-sparse : (p : Program) (end : ℕ) (sections : List Named) (ys : List ℕ) → length sections ≤ 48 → ProgramZeros p end sections → SectionsZeros sections → Sparse 2 ys
    → Sparse 0 (headers_with p end sections ++ ys)
unfolding headers_with file_header optional_header
headers-sparse p end sections ys few z each rest =
    let n : ℕ = length sections in
    let front : List ℕ = structure 24 0 (file_rows n) in
    let middle : List ℕ = structure 240 0 (optional_rows p end sections) in
    let table = table-sparse 1 sections ys (omega arith) each rest in
    let optional = rows-sparse 0 240 0 0 (optional_rows p end sections) (section_table 1 sections ++ ys) (optional-rows p end sections z) (lower 2 0 (section_table 1 sections ++ ys) (omega arith) table) in
    let all = rows-sparse 0 24 0 0 (file_rows n) (middle ++ (section_table 1 sections ++ ys)) (file-rows n (omega arith)) optional in
    subst (Sparse 0) (sym (append_assoc front (middle ++ section_table 1 sections) ys ∙ ap (λ r. front ++ r) (append_assoc middle (section_table 1 sections) ys))) all
