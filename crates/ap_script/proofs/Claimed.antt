-- The block is the file of its claims.
use Rattle.std.proofs.Common.{◌≡◌, inl, inr, ℕ, zero, suc, ◌+◌, ◌-◌, ◌<◌, ◌≤◌, Bool, true, false, cond, get_or, List, [], ◌∷◌, ◌++◌, length, Option, Some, None, refl, sym, ap, ◌∙◌, subst, arith, length-append, append_assoc, append-nil}
use Rattle.std.specs.Prelude.{IsSomeAnd, codes}
use Rattle.std.specs.Option.{is_some, option_map}
use Rattle.ap_fields.specs.declared.sizes.TheConstants.{BLOCK, WINDOW}
use Rattle.ap_fields.specs.Bytes.{zeros, Holds}
use Rattle.ap_fields.specs.Fields.{bytes_of}
use Rattle.ap_fields.proofs.Bytes.{holds-front}
use Rattle.ap_fields.proofs.Numbers.{length-bytes_of}
use Rattle.ap_claims.specs.declared.owner.Owner.TheVariants.{Shell, Dos, Pe, Ape, Elf, Mach}
use Rattle.ap_claims.specs.Lists.{Claim, Among, claim, end_of}
use Rattle.ap_claims.specs.Files.{IsFile}
use Rattle.ap_claims.proofs.Growing.{IsFrom, no-text, front-claim, front-zeros, no-file, joined-file, added-file, turned-file, among-either, among-front, among-behind}
use Rattle.ap_elf.specs.declared.machine.Machine.{Machine}
use Rattle.ap_elf.specs.declared.machine.Machine.TheVariants.{X64, A64}
use Rattle.ap_check.specs.declared.options.Options.{Options}
use Rattle.ap_check.specs.Options.{for_windows}
use Rattle.ap_check.specs.Inputs.{Taken}
use Rattle.ap_check.specs.Windows.{x64_of, MeetsWindows}
use Rattle.ap_layout.specs.declared.layout.Area.{Area}
use Rattle.ap_layout.specs.Areas.{new_areas}
use Rattle.ap_layout.specs.Positions.{Positions, PlacedInput, Fits, AreServed, AreTables, all_areas, placed_inputs, tables_start, table_length}
use Rattle.ap_layout.specs.Jobs.{placed_for}
use Rattle.ap_pe.specs.Claims.{mark_bytes, place_bytes}
use Rattle.ap_pe.specs.Linked.{headers_of, claims_of, headers_place, pe_text}
use Rattle.ap_pe.proofs.LinkedHeaders.{length-pe_text}
use Rattle.ap_layout.proofs.X64Places.{found-in}
use Rattle.ap_mach.specs.Linked.{mach_place, header_text, header_claims, mac_claims}
use Rattle.ap_mach.proofs.LinkedHeaders.{text-room, place-is}
use Rattle.ap_script.specs.Tables.{table_text}
use Rattle.ap_script.specs.Script.{header_for}
use Rattle.ap_script.specs.Delimiter.{delimiter_number}
use Rattle.ap_script.specs.Blocks.{magic, magic_line, opening_line, opening, tables_text, body_of, ending_of, second_half, block_of}
use Rattle.ap_script.specs.Stands.{statement_place}
use Rattle.ap_script.specs.Claims.{table_claims, statement_claims, block_claims, BlockIsClaimed}
use Rattle.ap_script.proofs.TableLengths.{length-table_text}
use Rattle.ap_script.proofs.Openings.{parts-holds}
use Rattle.ap_script.proofs.BlockParts.{length-magic_line, length-opening_line, length-block, block-begins, front-parts}
use Rattle.ap_script.proofs.StatementPlaces.{parts-block}
use Rattle.ap_script.proofs.Endings.{ending-long}

-- the tables, in front of a text
from-tables : (news : List Area) (at end : ℕ) (ps : List PlacedInput) (claims : List Claim) (text : List ℕ)
    → AreServed news ps → AreTables at ps end → IsFrom end claims text → IsFrom at (table_claims ps ++ claims) (tables_text ps ++ text)
from-tables news at end [] claims text served are h = subst (λ n. IsFrom n claims text) are h
from-tables news at end (p ∷ ps) claims text served are h =
    let t : ℕ = p.table in
    let here = table_text p.input p.areas in
    let long = length-table_text news p.input p.areas served.0 in
    let place = are.0 in
    let next : at + table_length p.input ≡ t + length here = omega arith in
    let later = from-tables news (at + table_length p.input) end ps claims text served.1 are.1 h in
    subst (λ n. IsFrom n (claim Elf t here ∷ (table_claims ps ++ claims)) ((here ++ tables_text ps) ++ text)) place
    (subst (IsFrom t (claim Elf t here ∷ (table_claims ps ++ claims))) (sym (append_assoc here (tables_text ps) text))
    (front-claim (claim Elf t here) (table_claims ps ++ claims) (tables_text ps ++ text)
    (subst (λ n. IsFrom n (table_claims ps ++ claims) (tables_text ps ++ text)) next later)))

-- ---- what is for Windows

-- its claims, apart by their places, and what they do in front of claims of a text, where it was chosen or not, for the input of
-- its machine, whose tables begin behind its headers
record Splits (chosen : Bool) (o : Option PlacedInput) (start : ℕ) (block : List ℕ) : Type 0 where
  pub mark : List Claim
  pub place : List Claim
  pub headers : List Claim
  pub all : cond chosen (claims_of o) [] ≡ mark ++ (place ++ headers)
  pub marked : (claims : List Claim) → IsFile BLOCK claims block → IsFile BLOCK (mark ++ claims) block
  pub placed : (claims : List Claim) (text : List ℕ) → IsFrom 64 claims text → IsFrom 60 (place ++ claims) (cond chosen place_bytes (zeros 4) ++ text)
  pub headed : (claims : List Claim) (text : List ℕ) → IsFrom start claims text → IsFrom 96 (headers ++ claims) (cond chosen (headers_of o) [] ++ text)

splits : (chosen : Bool) (o : Option PlacedInput) (start : ℕ) (block : List ℕ) → (chosen ≡ true → is_some o ≡ true) → start ≡ 96 + length (cond chosen (headers_of o) []) → (chosen ≡ true → Holds block 0 mark_bytes)
    → Splits chosen o start block
splits false o start block some is mark = record {
  mark = [];
  place = [];
  headers = [];
  all = refl;
  marked = λ claims h. h;
  placed = λ claims text h. front-zeros 60 4 64 claims text refl h;
  headed = λ claims text h. subst (λ n. IsFrom n claims text) is h;
}
splits true None start block some is mark = absurd (let e : false ≡ true = some refl in cc)
splits true (Some p) start block some is mark =
    let dos = claim Dos 0 mark_bytes in
    let place = claim Dos 60 place_bytes in
    let headers = claim Pe 96 (headers_of (Some p)) in
    let long = length-bytes_of 4 96 in
    record {
      mark = dos ∷ [];
      place = place ∷ [];
      headers = headers ∷ [];
      all = refl;
      marked = λ claims h. added-file BLOCK dos claims block (mark refl) h;
      placed = λ claims text h. front-claim place claims text (subst (λ n. IsFrom n claims text) (let e : 64 ≡ end_of place = omega arith in e) h);
      headed = λ claims text h. front-claim headers claims text (subst (λ n. IsFrom n claims text) is h);
    }

-- the mark that Windows takes is the magic's first two bytes
mark-first : (options : Options) (inputs : List Taken) (l : Positions) → for_windows options ≡ true → Holds (block_of options inputs l ++ []) 0 mark_bytes
unfolding bytes_of
mark-first options inputs l chosen =
    let begins = block-begins options inputs l [] in
    let is : magic options ≡ mark_bytes ++ codes "qFpD='" = rw chosen refl in
    holds-front (block_of options inputs l ++ []) 0 mark_bytes (codes "qFpD='") (subst (Holds (block_of options inputs l ++ []) 0) is begins)

some-of : (o : Option PlacedInput) (e : Option Taken) → option_map (λ p. p.input) o ≡ e → IsSomeAnd e MeetsWindows → is_some o ≡ true
some-of None e is h = absurd (subst (λ (x : Option Taken). IsSomeAnd x MeetsWindows) (sym is) h)
some-of (Some p) e is h = refl

windows-split : (options : Options) (inputs : List Taken) (l : Positions) → Fits options inputs l
    → Splits (for_windows options) (placed_for X64 (placed_inputs inputs l)) (tables_start options inputs) (block_of options inputs l ++ [])
windows-split options inputs l fits =
    let long = length-pe_text options inputs l fits in
    splits (for_windows options) (placed_for X64 (placed_inputs inputs l)) (tables_start options inputs) (block_of options inputs l ++ [])
    (λ chosen. some-of (placed_for X64 (placed_inputs inputs l)) (x64_of inputs) (found-in options inputs l fits).1 (fits.windows chosen))
    (ap (λ n. 96 + n) (sym long)) (mark-first options inputs l)

-- ---- the claims of all but loaders, in the order of their places

abbrev placed_claims : Options → List Taken → Positions → List Claim → List Claim → List Claim
placed_claims options inputs l place headers =
    claim Shell 0 (magic_line options)
    ∷ (place ++ (claim Shell 64 (opening_line (delimiter_number (body_of options inputs l)))
    ∷ (headers ++ (table_claims (placed_inputs inputs l) ++ (claim Shell l.body_end (ending_of options inputs l) ∷ (mac_claims options inputs l ++ []))))))

-- the second half
from-header : (o : Option PlacedInput) (at : ℕ) → (is_some o ≡ true → at ≡ WINDOW) → length (header_text o) ≤ BLOCK - WINDOW
    → IsFrom WINDOW (header_claims at o) ((header_text o ++ zeros (BLOCK - WINDOW - length (header_text o))) ++ [])
from-header None at is few = front-zeros WINDOW (BLOCK - WINDOW) BLOCK [] [] refl (no-text BLOCK)
from-header (Some p) at is few =
    let text = header_text (Some p) in
    let n : ℕ = length text in
    let c = claim Mach at text in
    let place = is refl in
    let rest = front-zeros (WINDOW + n) (BLOCK - WINDOW - n) BLOCK [] [] (omega arith) (no-text BLOCK) in
    let behind : WINDOW + n ≡ end_of c = omega arith in
    subst (λ m. IsFrom m (c ∷ []) ((text ++ zeros (BLOCK - WINDOW - n)) ++ [])) place
    (subst (IsFrom at (c ∷ [])) (sym (append_assoc text (zeros (BLOCK - WINDOW - n)) []))
    (front-claim c [] (zeros (BLOCK - WINDOW - n) ++ []) (subst (λ m. IsFrom m [] (zeros (BLOCK - WINDOW - n) ++ [])) behind rest)))

from-second : (options : Options) (inputs : List Taken) (l : Positions) → Fits options inputs l → IsFrom WINDOW (mac_claims options inputs l ++ []) (second_half options inputs l ++ [])
unfolding second_half
from-second options inputs l fits =
    subst (λ (claims : List Claim). IsFrom WINDOW claims (second_half options inputs l ++ [])) (sym (append-nil (mac_claims options inputs l)))
    (from-header (mach_place options inputs l) l.mach_at (place-is options inputs l fits) (text-room options inputs l fits))

block-texts : (options : Options) (inputs : List Taken) (l : Positions)
    → block_of options inputs l ++ []
    ≡ magic_line options ++ (zeros 51 ++ (headers_place options ++ (opening_line (delimiter_number (body_of options inputs l))
    ++ (zeros 10 ++ (pe_text options inputs l ++ (tables_text (placed_inputs inputs l) ++ (ending_of options inputs l ++ (second_half options inputs l ++ []))))))))
unfolding opening body_of
block-texts options inputs l =
    let line = opening_line (delimiter_number (body_of options inputs l)) in
    let place = headers_place options in
    let pe = pe_text options inputs l in
    let tables = tables_text (placed_inputs inputs l) in
    let ending = ending_of options inputs l in
    let rest = second_half options inputs l ++ [] in
    let texts = zeros 10 ++ (pe ++ (tables ++ (ending ++ rest))) in
    front-parts options inputs l []
    ∙ ap (λ r. (magic_line options ++ (zeros 51 ++ (place ++ line))) ++ r)
    (append_assoc (zeros 10 ++ (pe ++ tables)) ending rest ∙ append_assoc (zeros 10) (pe ++ tables) (ending ++ rest) ∙ ap (λ r. zeros 10 ++ r) (append_assoc pe tables (ending ++ rest)))
    ∙ append_assoc (magic_line options) (zeros 51 ++ (place ++ line)) texts
    ∙ ap (λ r. magic_line options ++ r) (append_assoc (zeros 51) (place ++ line) texts ∙ ap (λ r. zeros 51 ++ r) (append_assoc place line texts))

from-block : (options : Options) (inputs : List Taken) (l : Positions) → Fits options inputs l
    → (w : Splits (for_windows options) (placed_for X64 (placed_inputs inputs l)) (tables_start options inputs) (block_of options inputs l ++ []))
    → IsFrom 0 (placed_claims options inputs l w.place w.headers) (block_of options inputs l ++ [])
from-block options inputs l fits w =
    let line = opening_line (delimiter_number (body_of options inputs l)) in
    let first = claim Shell 0 (magic_line options) in
    let second = claim Shell 64 line in
    let last = claim Shell l.body_end (ending_of options inputs l) in
    let mac = mac_claims options inputs l ++ [] in
    let long = ending-long options inputs l fits in
    let nine = length-magic_line options in
    let behind = ending_of options inputs l ++ (second_half options inputs l ++ []) in
    let ending : IsFrom l.body_end (last ∷ mac) behind =
    front-claim last mac (second_half options inputs l ++ []) (subst (λ n. IsFrom n mac (second_half options inputs l ++ [])) (sym long) (from-second options inputs l fits)) in
    let tables = from-tables (new_areas BLOCK (all_areas (placed_inputs inputs l))) (tables_start options inputs) l.body_end (placed_inputs inputs l) (last ∷ mac) behind fits.areas fits.tables ending in
    let later = table_claims (placed_inputs inputs l) ++ (last ∷ mac) in
    let texts = tables_text (placed_inputs inputs l) ++ behind in
    let body = w.headed later texts tables in
    let opened = front-claim second (w.headers ++ later) (zeros 10 ++ (pe_text options inputs l ++ texts))
    (subst (λ n. IsFrom n (w.headers ++ later) (zeros 10 ++ (pe_text options inputs l ++ texts))) (let e : 86 ≡ end_of second = let d = length-opening_line (delimiter_number (body_of options inputs l)) in omega arith in e)
    (front-zeros 86 10 96 (w.headers ++ later) (pe_text options inputs l ++ texts) refl body)) in
    let place = w.placed (second ∷ (w.headers ++ later)) (line ++ (zeros 10 ++ (pe_text options inputs l ++ texts))) opened in
    let rest = headers_place options ++ (line ++ (zeros 10 ++ (pe_text options inputs l ++ texts))) in
    let claims = w.place ++ (second ∷ (w.headers ++ later)) in
    subst (IsFrom 0 (placed_claims options inputs l w.place w.headers)) (sym (block-texts options inputs l))
    (front-claim first claims (zeros 51 ++ rest)
    (subst (λ n. IsFrom n claims (zeros 51 ++ rest)) (let e : 9 ≡ end_of first = omega arith in e) (front-zeros 9 51 60 claims rest refl place)))

-- what an APE loader looks for stands in it too
held-statement : (options : Options) (inputs : List Taken) (l : Positions) (m : Machine) (header : Option (List ℕ)) (claims : List Claim) → Fits options inputs l → header_for m (placed_inputs inputs l) ≡ header
    → IsFile BLOCK claims (block_of options inputs l ++ []) → IsFile BLOCK (statement_claims header (statement_place options inputs l m) ++ claims) (block_of options inputs l ++ [])
held-statement options inputs l m None claims fits is h = h
held-statement options inputs l m (Some header) claims fits is h =
    added-file BLOCK (claim Ape (statement_place options inputs l m) _) claims (block_of options inputs l ++ [])
    (parts-holds (block_of options inputs l ++ []) (statement_place options inputs l m) header (parts-block options inputs l [] m header fits is)) h

-- ---- the same claims in another order

abbrev joined : List (List Claim) → List Claim
joined [] = []
joined (xs ∷ parts) = xs ++ joined parts

among-part : (c : Claim) (parts : List (List Claim)) (i : ℕ) → Among c (get_or parts i []) → Among c (joined parts)
among-part c [] i h = absurd h
among-part c (xs ∷ parts) zero h = among-front c xs (joined parts) h
among-part c (xs ∷ parts) (suc i) h = among-behind c xs (joined parts) (among-part c parts i h)

part-of : (c : Claim) (parts : List (List Claim)) → Among c (joined parts) → (i : ℕ) × (i < length parts) × Among c (get_or parts i [])
part-of c [] h = absurd h
part-of c (xs ∷ parts) h = elim (among-either c xs (joined parts) h) [
  | inl here ↦ (0, omega arith, here)
  | inr later ↦ (let rest = part-of c parts later in let i : ℕ = rest.0 in let low = rest.1 in (suc i, omega arith, rest.2))
]

-- parts that stand in the other list too
turned : (xs ys : List (List Claim)) (place : ℕ → ℕ) → ((i : ℕ) → i < length xs → get_or xs i [] ≡ get_or ys (place i) []) → (c : Claim) → Among c (joined xs) → Among c (joined ys)
turned xs ys place same c h =
    let found = part-of c xs h in
    let i : ℕ = found.0 in
    among-part c ys (place i) (subst (Among c) (same i found.1) found.2)

-- the parts in the order of the proof, and in that in which they are made
abbrev by_proof : Claim → Claim → Claim → Claim → List Claim → List Claim → List Claim → List Claim → List Claim → List Claim → List Claim → List (List Claim)
by_proof a b d e x y mark place headers tables mac = (a ∷ []) ∷ x ∷ y ∷ mark ∷ (b ∷ []) ∷ place ∷ (d ∷ []) ∷ headers ∷ tables ∷ (e ∷ []) ∷ mac ∷ []

abbrev by_writers : Claim → Claim → Claim → Claim → List Claim → List Claim → List Claim → List Claim → List Claim → List Claim → List Claim → List (List Claim)
by_writers a b d e x y mark place headers tables mac = mark ∷ place ∷ headers ∷ tables ∷ mac ∷ (a ∷ []) ∷ x ∷ y ∷ (b ∷ []) ∷ (d ∷ []) ∷ (e ∷ []) ∷ []

there : ℕ → ℕ
there zero = 5
there (suc zero) = 6
there (suc (suc zero)) = 7
there (suc (suc (suc zero))) = 0
there (suc (suc (suc (suc zero)))) = 8
there (suc (suc (suc (suc (suc zero))))) = 1
there (suc (suc (suc (suc (suc (suc zero)))))) = 9
there (suc (suc (suc (suc (suc (suc (suc zero))))))) = 2
there (suc (suc (suc (suc (suc (suc (suc (suc zero)))))))) = 3
there (suc (suc (suc (suc (suc (suc (suc (suc (suc zero))))))))) = 10
there (suc (suc (suc (suc (suc (suc (suc (suc (suc (suc i)))))))))) = 4

same-there : (a b d e : Claim) (x y mark place headers tables mac : List Claim) (i : ℕ) → i < 11
    → get_or (by_proof a b d e x y mark place headers tables mac) i [] ≡ get_or (by_writers a b d e x y mark place headers tables mac) (there i) []
unfolding there
same-there a b d e x y mark place headers tables mac zero low = refl
same-there a b d e x y mark place headers tables mac (suc zero) low = refl
same-there a b d e x y mark place headers tables mac (suc (suc zero)) low = refl
same-there a b d e x y mark place headers tables mac (suc (suc (suc zero))) low = refl
same-there a b d e x y mark place headers tables mac (suc (suc (suc (suc zero)))) low = refl
same-there a b d e x y mark place headers tables mac (suc (suc (suc (suc (suc zero))))) low = refl
same-there a b d e x y mark place headers tables mac (suc (suc (suc (suc (suc (suc zero)))))) low = refl
same-there a b d e x y mark place headers tables mac (suc (suc (suc (suc (suc (suc (suc zero))))))) low = refl
same-there a b d e x y mark place headers tables mac (suc (suc (suc (suc (suc (suc (suc (suc zero)))))))) low = refl
same-there a b d e x y mark place headers tables mac (suc (suc (suc (suc (suc (suc (suc (suc (suc zero))))))))) low = refl
same-there a b d e x y mark place headers tables mac (suc (suc (suc (suc (suc (suc (suc (suc (suc (suc zero)))))))))) low = refl
same-there a b d e x y mark place headers tables mac (suc (suc (suc (suc (suc (suc (suc (suc (suc (suc (suc i))))))))))) low = absurd (omega arith)

back : ℕ → ℕ
back zero = 3
back (suc zero) = 5
back (suc (suc zero)) = 7
back (suc (suc (suc zero))) = 8
back (suc (suc (suc (suc zero)))) = 10
back (suc (suc (suc (suc (suc zero))))) = 0
back (suc (suc (suc (suc (suc (suc zero)))))) = 1
back (suc (suc (suc (suc (suc (suc (suc zero))))))) = 2
back (suc (suc (suc (suc (suc (suc (suc (suc zero)))))))) = 4
back (suc (suc (suc (suc (suc (suc (suc (suc (suc zero))))))))) = 6
back (suc (suc (suc (suc (suc (suc (suc (suc (suc (suc i)))))))))) = 9

same-back : (a b d e : Claim) (x y mark place headers tables mac : List Claim) (i : ℕ) → i < 11
    → get_or (by_writers a b d e x y mark place headers tables mac) i [] ≡ get_or (by_proof a b d e x y mark place headers tables mac) (back i) []
unfolding back
same-back a b d e x y mark place headers tables mac zero low = refl
same-back a b d e x y mark place headers tables mac (suc zero) low = refl
same-back a b d e x y mark place headers tables mac (suc (suc zero)) low = refl
same-back a b d e x y mark place headers tables mac (suc (suc (suc zero))) low = refl
same-back a b d e x y mark place headers tables mac (suc (suc (suc (suc zero)))) low = refl
same-back a b d e x y mark place headers tables mac (suc (suc (suc (suc (suc zero))))) low = refl
same-back a b d e x y mark place headers tables mac (suc (suc (suc (suc (suc (suc zero)))))) low = refl
same-back a b d e x y mark place headers tables mac (suc (suc (suc (suc (suc (suc (suc zero))))))) low = refl
same-back a b d e x y mark place headers tables mac (suc (suc (suc (suc (suc (suc (suc (suc zero)))))))) low = refl
same-back a b d e x y mark place headers tables mac (suc (suc (suc (suc (suc (suc (suc (suc (suc zero))))))))) low = refl
same-back a b d e x y mark place headers tables mac (suc (suc (suc (suc (suc (suc (suc (suc (suc (suc zero)))))))))) low = refl
same-back a b d e x y mark place headers tables mac (suc (suc (suc (suc (suc (suc (suc (suc (suc (suc (suc i))))))))))) low = absurd (omega arith)

writers-are : (a b d e : Claim) (x y mark place headers tables mac : List Claim)
    → joined (by_writers a b d e x y mark place headers tables mac) ≡ (mark ++ (place ++ headers)) ++ (tables ++ (mac ++ ((a ∷ (x ++ y)) ++ (b ∷ d ∷ e ∷ []))))
writers-are a b d e x y mark place headers tables mac =
    let shell = b ∷ d ∷ e ∷ [] in
    let ape = a ∷ (x ++ y) in
    let rest = tables ++ (mac ++ (ape ++ shell)) in
    sym (append_assoc mark (place ++ headers) rest
    ∙ ap (λ r. mark ++ r) (append_assoc place headers rest)
    ∙ ap (λ r. mark ++ (place ++ (headers ++ (tables ++ (mac ++ (a ∷ r)))))) (append_assoc x y shell))

pub block-claimed : BlockIsClaimed
block-claimed options inputs l fits =
    let block = block_of options inputs l ++ [] in
    let w = windows-split options inputs l fits in
    let x64 = header_for X64 (placed_inputs inputs l) in
    let a64 = header_for A64 (placed_inputs inputs l) in
    let x = statement_claims x64 (statement_place options inputs l X64) in
    let y = statement_claims a64 (statement_place options inputs l A64) in
    let tables = table_claims (placed_inputs inputs l) in
    let mac = mac_claims options inputs l in
    let a = claim Ape 0 (magic options) in
    let b = claim Shell 0 (magic_line options) in
    let d = claim Shell 64 (opening_line (delimiter_number (body_of options inputs l))) in
    let e = claim Shell l.body_end (ending_of options inputs l) in
    let long = length-block options inputs l fits in
    let whole = length-append (block_of options inputs l) [] in
    let claims = placed_claims options inputs l w.place w.headers in
    let placed : IsFile BLOCK claims block = joined-file 0 BLOCK [] claims [] block no-file (from-block options inputs l fits w) (omega arith) in
    let marked = w.marked claims placed in
    let second = held-statement options inputs l A64 a64 (w.mark ++ claims) fits refl marked in
    let first = held-statement options inputs l X64 x64 (y ++ (w.mark ++ claims)) fits refl second in
    let all = added-file BLOCK a (x ++ (y ++ (w.mark ++ claims))) block (block-begins options inputs l []) first in
    let proof = by_proof a b d e x y w.mark w.place w.headers tables mac in
    let writers = by_writers a b d e x y w.mark w.place w.headers tables mac in
    let are : joined writers ≡ block_claims options inputs l =
    writers-are a b d e x y w.mark w.place w.headers tables mac ∙ ap (λ r. r ++ (tables ++ (mac ++ ((a ∷ (x ++ y)) ++ (b ∷ d ∷ e ∷ []))))) (sym w.all) in
    subst (IsFile BLOCK (block_claims options inputs l)) (append-nil (block_of options inputs l))
    (subst (λ (claims : List Claim). IsFile BLOCK claims block) are
    (turned-file BLOCK (joined proof) (joined writers) block
    (turned proof writers there (same-there a b d e x y w.mark w.place w.headers tables mac))
    (turned writers proof back (same-back a b d e x y w.mark w.place w.headers tables mac)) all))
