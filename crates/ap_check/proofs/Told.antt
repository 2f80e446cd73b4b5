-- The rules of what was read, and the rules of the file.
use Rattle.std.proofs.Common.{◌≡◌, ◌++◌, ℕ, List, length, Option, Some, None, refl, sym, ap, ◌∙◌}
use Rattle.std.specs.FinMap as map
use Rattle.ap_fields.specs.FirstFault.{first_fault}
use Rattle.ap_fields.proofs.FirstFaults.{none-append, some-append}
use Rattle.ap_files.specs.Files.{FileMap, FileState, ForFile}
use Rattle.ap_files.specs.Reads.{HasFile, HasSize}
use Rattle.ap_elf.specs.declared.types.Header.{Header}
use Rattle.ap_elf.specs.declared.types.Entry.{Entry}
use Rattle.ap_elf.specs.Fields.{header_of, entries_of, entries_from}
use Rattle.ap_check.specs.declared.fault.Fault.{Fault}
use Rattle.ap_check.specs.Rules.{size_rules, header_rules, table_rules, bare_rules}
use Rattle.ap_check.specs.Bare.{bare_rules_of, bare_of}
use Rattle.ap_check.specs.Inputs.{Taken, taken_of, no_symbols}

-- the header and the table that were read are the file's
pub record AreRead (b : List ℕ) (size : ℕ) (h : Header) (entries : List Entry) : Type 0 where
  pub size_is : size ≡ length b
  pub header_is : h ≡ header_of b
  pub entries_are : entries ≡ entries_from b h.e_phoff h.e_phnum

told_rules : (n size : ℕ) (h : Header) (es : List Entry) (b : List ℕ) → AreRead b size h es → bare_rules n size h es ≡ bare_rules_of n b
unfolding bare_rules_of entries_of
told_rules n size h es b r =
    ap (λ x. bare_rules n x h es) r.size_is
    ∙ ap (λ x. bare_rules n (length b) h x) r.entries_are
    ∙ ap (λ (x : Header). bare_rules n (length b) x (entries_from b x.e_phoff x.e_phnum)) r.header_is

size_fails : (n size : ℕ) (f : Fault) (b : List ℕ) → size ≡ length b → first_fault (size_rules n size) ≡ Some f → first_fault (bare_rules_of n b) ≡ Some f
unfolding bare_rules
size_fails n size f b s h =
    let es = entries_from b (header_of b).e_phoff (header_of b).e_phnum in
    ap first_fault (sym (told_rules n size (header_of b) es b (record { size_is = s; header_is = refl; entries_are = refl })))
    ∙ some-append (size_rules n size) (header_rules n size (header_of b) ++ table_rules n size (header_of b) es) f h

header_fails : (n size : ℕ) (h : Header) (f : Fault) (b : List ℕ) → size ≡ length b → h ≡ header_of b → first_fault (size_rules n size) ≡ None → first_fault (header_rules n size h) ≡ Some f
    → first_fault (bare_rules_of n b) ≡ Some f
unfolding bare_rules
header_fails n size h f b s e none some =
    let es = entries_from b h.e_phoff h.e_phnum in
    ap first_fault (sym (told_rules n size h es b (record { size_is = s; header_is = e; entries_are = refl })))
    ∙ none-append (size_rules n size) (header_rules n size h ++ table_rules n size h es) none
    ∙ some-append (header_rules n size h) (table_rules n size h es) f some

table_says : (n size : ℕ) (h : Header) (es : List Entry) (o : Option Fault) (b : List ℕ) → AreRead b size h es
    → first_fault (size_rules n size) ≡ None → first_fault (header_rules n size h) ≡ None → first_fault (table_rules n size h es) ≡ o
    → first_fault (bare_rules_of n b) ≡ o
unfolding bare_rules
table_says n size h es o b r none none' some =
    ap first_fault (sym (told_rules n size h es b r))
    ∙ none-append (size_rules n size) (header_rules n size h ++ table_rules n size h es) none
    ∙ none-append (header_rules n size h) (table_rules n size h es) none'
    ∙ some

bare_is : (n size : ℕ) (h : Header) (es : List Entry) (i : Taken) (b : List ℕ) → AreRead b size h es → i ≡ taken_of n size h es no_symbols → record { header = h; input = i } ≡ bare_of n b
unfolding bare_of entries_of
bare_is n size h es i b r is =
    ap (λ (x : Taken). record { header = h; input = x }) is
    ∙ ap (λ x. record { header = h; input = taken_of n x h es no_symbols }) r.size_is
    ∙ ap (λ x. record { header = h; input = taken_of n (length b) h x no_symbols }) r.entries_are
    ∙ ap (λ (x : Header). record { header = x; input = taken_of n (length b) x (entries_from b x.e_phoff x.e_phnum) no_symbols }) r.header_is

-- what was read of a file that is told
all_read : (kept : Option FileMap) (name : List ℕ) (size : ℕ) (h : Header) (es : List Entry) (m : FileMap) → kept ≡ Some m → HasSize kept name size
    → ForFile kept name (λ b. h ≡ header_of b) → ForFile kept name (λ b. es ≡ entries_from b h.e_phoff h.e_phnum)
    → (b : List ℕ) × (map.get m name ≡ Some b) × AreRead b size h es
all_read kept name size h es m told has head table =
    let t = has m told in
    (t.0, t.1, record { size_is = t.2; header_is = head m t.0 told t.1; entries_are = table m t.0 told t.1 })

pub size_refused : (kept : Option FileMap) (name : List ℕ) (n size : ℕ) (f : Fault) → HasSize kept name size → first_fault (size_rules n size) ≡ Some f → HasFile kept name (λ b. first_fault (bare_rules_of n b) ≡ Some f)
size_refused kept name n size f has h m told = let t = has m told in (t.0, t.1, size_fails n size f t.0 t.2 h)

pub header_refused : (kept : Option FileMap) (name : List ℕ) (n size : ℕ) (h : Header) (f : Fault) → HasSize kept name size → ForFile kept name (λ b. h ≡ header_of b)
    → first_fault (size_rules n size) ≡ None → first_fault (header_rules n size h) ≡ Some f → HasFile kept name (λ b. first_fault (bare_rules_of n b) ≡ Some f)
header_refused kept name n size h f has head none some m told = let t = has m told in (t.0, t.1, header_fails n size h f t.0 t.2 (head m t.0 told t.1) none some)

pub table_refused : (kept : Option FileMap) (name : List ℕ) (n size : ℕ) (h : Header) (es : List Entry) (f : Fault) → HasSize kept name size → ForFile kept name (λ b. h ≡ header_of b)
    → ForFile kept name (λ b. es ≡ entries_from b h.e_phoff h.e_phnum)
    → first_fault (size_rules n size) ≡ None → first_fault (header_rules n size h) ≡ None → first_fault (table_rules n size h es) ≡ Some f → HasFile kept name (λ b. first_fault (bare_rules_of n b) ≡ Some f)
table_refused kept name n size h es f has head table none none' some m told =
    let t = all_read kept name size h es m told has head table in (t.0, t.1, table_says n size h es (Some f) t.0 t.2 none none' some)

pub table_taken : (kept : Option FileMap) (name : List ℕ) (n size : ℕ) (h : Header) (es : List Entry) (i : Taken) → HasSize kept name size → ForFile kept name (λ b. h ≡ header_of b)
    → ForFile kept name (λ b. es ≡ entries_from b h.e_phoff h.e_phnum)
    → first_fault (size_rules n size) ≡ None → first_fault (header_rules n size h) ≡ None → first_fault (table_rules n size h es) ≡ None → i ≡ taken_of n size h es no_symbols
    → HasFile kept name (λ b. (first_fault (bare_rules_of n b) ≡ None) × (record { header = h; input = i } ≡ bare_of n b))
table_taken kept name n size h es i has head table none none' none'' is m told =
    let t = all_read kept name size h es m told has head table in
    (t.0, t.1, (table_says n size h es None t.0 t.2 none none' none'', bare_is n size h es i t.0 t.2 is))

-- the size, carried along
pub sized_still : (old new : FileState) (name : List ℕ) (n size : ℕ) (h : Header) (es : List Entry) (i : Taken) → new ≡ old → i ≡ taken_of n size h es no_symbols → HasSize old.kept name size → HasSize new.kept name i.size
unfolding taken_of
sized_still old new name n size h es i e is has m told =
    let t = has m (ap (λ (s : FileState). s.kept) (sym e) ∙ told) in
    (t.0, t.1, ap (λ (x : Taken). x.size) is ∙ t.2)
