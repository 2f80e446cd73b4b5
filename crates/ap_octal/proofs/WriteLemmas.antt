-- A canonical statement, byte by byte.
use Rattle.std.proofs.Common.{◌≡◌, ℕ, ◌+◌, ◌/◌, ◌%◌, ◌<◌, ◌≤◌, List, [], ◌∷◌, ◌++◌, Bool, true, false, cond, length, take, get_or, sym, ap, ◌∙◌, arith, append_assoc, append-nil, length-append}
use Rattle.std.specs.Prelude.{codes}
use Rattle.std.proofs.lemmas.List.{take_more, take_all}
use Rattle.std.proofs.lemmas.List.Concat.{flat_map-append}
use Rattle.ap_fields.specs.Fields.{patched}
use Rattle.ap_octal.specs.Statement.{is_letter, octal_of, octals_of, statement_of}
use Rattle.ap_octal.proofs.PatchLemmas.{patched-behind}

octal_by : (b : Bool) (c : ℕ) → length (cond b (c ∷ []) (92 ∷ (48 + c / 64) ∷ (48 + c / 8 % 8) ∷ (48 + c % 8) ∷ [])) ≤ 4
octal_by true c = omega arith
octal_by false c = omega arith

pub length-octal_of : (c : ℕ) → length (octal_of c) ≤ 4
length-octal_of c = octal_by (is_letter c) c

-- a statement's front and the text of its first i bytes
abbrev pub begun : List ℕ → List ℕ → ℕ → List ℕ
begun opening header i = opening ++ octals_of (take i header)

pub begun-more : (opening header : List ℕ) (i : ℕ) → i < length header → begun opening header (i + 1) ≡ begun opening header i ++ octal_of (get_or header i 0)
begun-more opening header i h =
    let b : ℕ = get_or header i 0 in
    ap (λ t. opening ++ octals_of t) (take_more header i 0 h)
    ∙ ap (λ t. opening ++ t) (flat_map-append octal_of (take i header) (b ∷ []) ∙ ap (λ t. octals_of (take i header) ++ t) (append-nil (octal_of b)))
    ∙ sym (append_assoc opening (octals_of (take i header)) (octal_of b))

pub length-begun_more : (opening header : List ℕ) (i : ℕ) → i < length header
    → length (begun opening header (i + 1)) ≡ length (begun opening header i) + length (octal_of (get_or header i 0))
length-begun_more opening header i h =
    ap length (begun-more opening header i h) ∙ length-append (begun opening header i) (octal_of (get_or header i 0))

-- the text of one byte more is written
pub written-more : (old now new opening header : List ℕ) (at end i : ℕ) → i < length header → at + length (begun opening header i) ≤ length old
    → now ≡ patched old at (begun opening header i) → end ≡ at + length (begun opening header i) → new ≡ patched now end (octal_of (get_or header i 0))
    → new ≡ patched old at (begun opening header (i + 1))
written-more old now new opening header at end i within fits was here is =
    let b : ℕ = get_or header i 0 in
    is
    ∙ ap (λ l. patched l end (octal_of b)) was
    ∙ ap (λ k. patched (patched old at (begun opening header i)) k (octal_of b)) here
    ∙ patched-behind old (begun opening header i) (octal_of b) at fits
    ∙ ap (patched old at) (sym (begun-more opening header i within))

-- the text of all bytes and the closing quote
pub begun-all : (header : List ℕ) (i : ℕ) → length header ≤ i → begun (codes "printf '") header i ++ codes "'" ≡ statement_of header
unfolding statement_of
begun-all header i h =
    append_assoc (codes "printf '") (octals_of (take i header)) (codes "'")
    ∙ ap (λ l. codes "printf '" ++ (octals_of l ++ codes "'")) (take_all i header h)

pub written-all : (old now new header : List ℕ) (at end i : ℕ) → length header ≤ i → at + length (begun (codes "printf '") header i) ≤ length old
    → now ≡ patched old at (begun (codes "printf '") header i) → end ≡ at + length (begun (codes "printf '") header i) → new ≡ patched now end (codes "'")
    → new ≡ patched old at (statement_of header)
written-all old now new header at end i all fits was here is =
    let text = begun (codes "printf '") header i in
    is
    ∙ ap (λ l. patched l end (codes "'")) was
    ∙ ap (λ k. patched (patched old at text) k (codes "'")) here
    ∙ patched-behind old text (codes "'") at fits
    ∙ ap (patched old at) (begun-all header i all)

pub length-written : (header : List ℕ) (at end i : ℕ) → length header ≤ i → end ≡ at + length (begun (codes "printf '") header i) + 1
    → end ≡ at + length (statement_of header)
length-written header at end i all is =
    let text = begun (codes "printf '") header i in
    let e = ap length (begun-all header i all) in
    let a = length-append text (codes "'") in
    omega arith
