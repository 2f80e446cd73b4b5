-- The symbols of an input: `ape_pe_entry` alone.
use Rattle.std.proofs.Common.{◌≡◌, ℕ, ◌+◌, ◌*◌, ◌^◌, ◌<◌, ◌≤◌, ◌==◌, nat_le, nat_lt, true, cond, List, [], ◌∷◌, ◌++◌, Some, None, refl, sym, ap, ◌∙◌, subst, arith, lit<, add-zero}
use Rattle.std.specs.Prelude.{codes, find}
use Rattle.std.proofs.lemmas.Bool.Decides.{nat_tests}
use Rattle.ap_fields.specs.Bytes.{Holds, zeros}
use Rattle.ap_fields.specs.Fields.{number_at, bytes_of}
use Rattle.ap_fields.specs.FirstFault.{first_fault}
use Rattle.ap_fields.specs.Structures.{Rows, structure}
use Rattle.ap_fields.proofs.Bytes.{length-zeros, holds-front, holds-behind}
use Rattle.ap_fields.proofs.FieldReads.{fields-held, length-structure}
use Rattle.ap_elf.specs.declared.types.Header.{Header}
use Rattle.ap_elf.specs.declared.types.Tables.{Tables}
use Rattle.ap_elf.specs.declared.types.Located.TheVariants.{At}
use Rattle.ap_elf.specs.Symbols.{section_at, sections_from, section_of, is_symbol_table, symbol_table, place_rules, table_rules, string_rules, tables_rules, tables_of, tables_at, found_unless, located, symbol_at, strings_of, value_among, value_of}
use Rattle.ap_elf.proofs.SymbolSteps.{located-found}
use Rattle.ap_check.specs.declared.symbols.Symbols.{Symbols}
use Rattle.ap_check.specs.Inputs.{symbols_at}
use Rattle.ap_trial.specs.TrialInputs.{symbol_rows, symbols_rows, strings_rows, symbols_text, sections_text}
use Rattle.ap_trial.proofs.Standing.{part-held}

-- the string table
abbrev names : List ℕ
names = 0 ∷ (codes "ape_pe_entry" ++ (0 ∷ []))

-- a symbol and a section of zeros
abbrev null_rows : Rows
null_rows = ((0, 4), 0) ∷ ((6, 2), 0) ∷ ((8, 8), 0) ∷ []

abbrev null_section_rows : Rows
null_section_rows = ((4, 4), 0) ∷ []

null-symbol-zeros : zeros 24 ≡ structure 24 0 null_rows
unfolding zeros bytes_of
null-symbol-zeros = refl

null-section-zeros : zeros 64 ≡ structure 64 0 null_section_rows
unfolding zeros bytes_of
null-section-zeros = refl

abbrev pub input_tables : ℕ → Tables
input_tables at = record { at = at; count = 2; strings = at + 48; length = 14 }

abbrev pub entry_alone : Symbols
entry_alone = record { pe_entry = Some 4194320; mach_entry = None; image_base = None; idata = None; idata_end = None; iat = None; iat_end = None }

module _ (w : List ℕ) (at : ℕ) (small : at < 2 ^ 28) (symbols : Holds w at symbols_text) (sections : Holds w (at + 64) (sections_text at)) where
  -- ---- the sections

  sections-parts : Holds w (at + 64) (zeros 64 ++ (structure 64 0 (symbols_rows at) ++ structure 64 0 (strings_rows (at + 48))))
  unfolding sections_text
  sections-parts = sections

  null-kind : (section_at w (at + 64)).kind ≡ 0
  unfolding section_at
  null-kind =
      let held = holds-front w (at + 64) (zeros 64) (structure 64 0 (symbols_rows at) ++ structure 64 0 (strings_rows (at + 48))) sections-parts in
      (fields-held w (at + 64) 64 null_section_rows refl (subst (Holds w (at + 64)) null-section-zeros held)).0 (lit< tt)

  others-held : Holds w (at + 128) (structure 64 0 (symbols_rows at) ++ structure 64 0 (strings_rows (at + 48)))
  others-held =
      holds-behind w (at + 64) (at + 128) (zeros 64) (structure 64 0 (symbols_rows at) ++ structure 64 0 (strings_rows (at + 48)))
      (let l = length-zeros 64 in omega arith) sections-parts

  table-section-is : section_at w (at + 128) ≡ record { kind = 2; offset = at; size = 48; link = 2; entsize = 24 }
  unfolding section_at
  table-section-is =
      let f = fields-held w (at + 128) 64 (symbols_rows at) refl (holds-front w (at + 128) (structure 64 0 (symbols_rows at)) (structure 64 0 (strings_rows (at + 48))) others-held) in
      λ i. record {
        kind = f.0 (lit< tt) i;
        offset = f.1.0 (omega arith) i;
        size = f.1.1.0 (lit< tt) i;
        link = f.1.1.1.0 (lit< tt) i;
        entsize = f.1.1.1.1.0 (lit< tt) i;
      }

  table-kind : (section_at w (at + 128)).kind ≡ 2
  table-kind = ap (λ s. s.kind) table-section-is

  strings-held : Holds w (at + 192) (structure 64 0 (strings_rows (at + 48)))
  strings-held =
      holds-behind w (at + 128) (at + 192) (structure 64 0 (symbols_rows at)) (structure 64 0 (strings_rows (at + 48)))
      (let l = length-structure 64 (symbols_rows at) refl in omega arith) others-held

  strings-kind : (section_at w (at + 192)).kind ≡ 3
  unfolding section_at
  strings-kind = (fields-held w (at + 192) 64 (strings_rows (at + 48)) refl strings-held).0 (lit< tt)

  strings-offset : (section_at w (at + 192)).offset ≡ at + 48
  unfolding section_at
  strings-offset = (fields-held w (at + 192) 64 (strings_rows (at + 48)) refl strings-held).1.0 (omega arith)

  strings-size : (section_at w (at + 192)).size ≡ 14
  unfolding section_at
  strings-size = (fields-held w (at + 192) 64 (strings_rows (at + 48)) refl strings-held).1.1.0 (lit< tt)

  -- the first symbol table is section 1
  first-table : find is_symbol_table (sections_from w (at + 64) 3) ≡ Some (section_at w (at + 128))
  first-table =
      let next : at + 64 + 64 ≡ at + 128 = omega arith in
      ap (λ k. cond (k == 2) (Some (section_at w (at + 64))) (find is_symbol_table (sections_from w (at + 64 + 64) 2))) null-kind
      ∙ ap (λ k. find is_symbol_table (sections_from w k 2)) next
      ∙ ap (λ k. cond (k == 2) (Some (section_at w (at + 128))) (find is_symbol_table (sections_from w (at + 128 + 64) 1))) table-kind

  module _ (size : ℕ) (h : Header) (shoff : h.e_shoff ≡ at + 64) (shentsize : h.e_shentsize ≡ 64) (shnum : h.e_shnum ≡ 3) (fits : at + 256 ≤ size) where
    table-is : symbol_table w h ≡ Some (section_at w (at + 128))
    table-is =
        ap (λ k. find is_symbol_table (sections_from w k h.e_shnum)) shoff
        ∙ ap (λ n. find is_symbol_table (sections_from w (at + 64) n)) shnum
        ∙ first-table

    strings-found : section_of w h 2 ≡ Some (section_at w (at + 192))
    strings-found =
        let place : h.e_shoff + 64 * 2 ≡ at + 192 = omega arith in
        ap (λ n. cond (nat_lt 2 n) (Some (section_at w (h.e_shoff + 64 * 2))) None) shnum
        ∙ ap (λ k. Some (section_at w k)) place

    place-passes : first_fault (place_rules size h) ≡ None
    place-passes =
        let t1 : (h.e_shentsize == 64) ≡ true = grind (arith, nat_tests) in
        let t2 : nat_le (h.e_shoff + 64 * h.e_shnum) size ≡ true = grind (arith, nat_tests) in
        rw (t1, t2) refl

    tables-pass : first_fault (tables_rules size w h (Some (section_at w (at + 128)))) ≡ None
    tables-pass =
        let s = section_at w (at + 192) in
        let e1 : s.kind ≡ 3 = strings-kind in
        let e2 : s.offset ≡ at + 48 = strings-offset in
        let e3 : s.size ≡ 14 = strings-size in
        let t1 : nat_le (at + 48) size ≡ true = grind (arith, nat_tests) in
        let t2 : (s.kind == 3) ≡ true = grind (arith, nat_tests) in
        let t3 : nat_le (s.offset + s.size) size ≡ true = grind (arith, nat_tests) in
        ap (λ s. first_fault (tables_rules size w h (Some s))) table-section-is
        ∙ ap (λ o. first_fault (table_rules size (record { kind = 2; offset = at; size = 48; link = 2; entsize = 24 }) ++ string_rules size o)) strings-found
        ∙ rw (t1, t2, t3) refl

    tables-are : tables_of w h (Some (section_at w (at + 128))) ≡ At (input_tables at)
    tables-are =
        ap (λ s. tables_of w h (Some s)) table-section-is
        ∙ ap (tables_at (record { kind = 2; offset = at; size = 48; link = 2; entsize = 24 })) strings-found
        ∙ ap (λ k. At (record { at = at; count = 2; strings = k; length = (section_at w (at + 192)).size })) strings-offset
        ∙ ap (λ k. At (record { at = at; count = 2; strings = at + 48; length = k })) strings-size

    -- the symbols are found
    pub located-is : located size w h ≡ At (input_tables at)
    located-is =
        sym (located-found size w h (section_at w (at + 128)) (omega arith) (omega arith) (sym place-passes) table-is)
        ∙ ap (λ o. found_unless o (tables_of w h (Some (section_at w (at + 128))))) tables-pass
        ∙ tables-are

  -- ---- the symbols

  symbols-parts : Holds w at (zeros 24 ++ (structure 24 0 symbol_rows ++ (names ++ (0 ∷ 0 ∷ []))))
  unfolding symbols_text
  symbols-parts = symbols

  null-symbol-is : symbol_at w at ≡ record { name = 0; section = 0; value = 0 }
  unfolding symbol_at
  null-symbol-is =
      let held = holds-front w at (zeros 24) (structure 24 0 symbol_rows ++ (names ++ (0 ∷ 0 ∷ []))) symbols-parts in
      let f = fields-held w at 24 null_rows refl (subst (Holds w at) null-symbol-zeros held) in
      λ i. record {
        name = (ap (λ k. number_at 4 k w) (sym (add-zero at)) ∙ f.0 (lit< tt)) i;
        section = f.1.0 (lit< tt) i;
        value = f.1.1.0 (lit< tt) i;
      }

  behind-null : Holds w (at + 24) (structure 24 0 symbol_rows ++ (names ++ (0 ∷ 0 ∷ [])))
  behind-null = holds-behind w at (at + 24) (zeros 24) (structure 24 0 symbol_rows ++ (names ++ (0 ∷ 0 ∷ []))) (let l = length-zeros 24 in omega arith) symbols-parts

  entry-symbol-is : symbol_at w (at + 24) ≡ record { name = 1; section = 65521; value = 4194320 }
  unfolding symbol_at
  entry-symbol-is =
      let f = fields-held w (at + 24) 24 symbol_rows refl (holds-front w (at + 24) (structure 24 0 symbol_rows) (names ++ (0 ∷ 0 ∷ [])) behind-null) in
      λ i. record {
        name = (ap (λ k. number_at 4 k w) (sym (add-zero (at + 24))) ∙ f.0 (lit< tt)) i;
        section = f.1.0 (lit< tt) i;
        value = f.1.1.0 (lit< tt) i;
      }

  names-held : Holds w (at + 48) names
  names-held =
      holds-front w (at + 48) names (0 ∷ 0 ∷ [])
      (holds-behind w (at + 24) (at + 48) (structure 24 0 symbol_rows) (names ++ (0 ∷ 0 ∷ [])) (let l = length-structure 24 symbol_rows refl in omega arith) behind-null)

  names-are : strings_of w (input_tables at) ≡ names
  names-are = part-held w (at + 48) names names-held

  -- the value of a name
  value-is : (name : List ℕ) → value_of w (input_tables at) name ≡ value_among names name ((record { name = 0; section = 0; value = 0 }) ∷ (record { name = 1; section = 65521; value = 4194320 }) ∷ [])
  unfolding value_of
  value-is name =
      ap (λ s. value_among s name (symbol_at w at ∷ symbol_at w (at + 24) ∷ [])) names-are
      ∙ ap (λ s. value_among names name (s ∷ symbol_at w (at + 24) ∷ [])) null-symbol-is
      ∙ ap (λ s. value_among names name ((record { name = 0; section = 0; value = 0 }) ∷ s ∷ [])) entry-symbol-is

  pub symbols-are : symbols_at w (input_tables at) ≡ entry_alone
  unfolding symbols_at
  symbols-are i = record {
    pe_entry = value-is (codes "ape_pe_entry") i;
    mach_entry = value-is (codes "ape_mach_entry") i;
    image_base = value-is (codes "ape_image_base") i;
    idata = value-is (codes "ape_idata") i;
    idata_end = value-is (codes "ape_idata_end") i;
    iat = value-is (codes "ape_iat") i;
    iat_end = value-is (codes "ape_iat_end") i;
  }
