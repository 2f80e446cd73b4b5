-- The magic's assignment with its here-document, read; and so the whole text.
use Rattle.std.proofs.Common.{◌≡◌, ◌≢◌, ◌∙◌, ap, sym, refl, ℕ, suc, ◌+◌, ◌-◌, ◌<◌, ◌^◌, List, [], ◌∷◌, ◌++◌, Bool, true, false, cond, codes, length, drop, arith, append_assoc, length-append}
use Rattle.std.specs.Prelude.{Option, Some, Ok}
use Rattle.std.specs.Option.{is_some}
use Rattle.ap_check.specs.declared.options.Systems.{Systems}
use Rattle.ap_script.specs.Script.{script_of}
use Rattle.ap_shparse.specs.Bytes.{Text, ends_word, gap, has, is_plain, past_comment}
use Rattle.ap_shparse.specs.Reads.{Outcome}
use Rattle.ap_shparse.specs.Pieces.{name}
use Rattle.ap_shparse.specs.Places.{here, here_at, last, line, line_from, newlines, newlines_from}
use Rattle.ap_shparse.specs.Words.{assignment, is_assignment, value}
use Rattle.ap_shparse.specs.Redirects.{next_operator, number, redirects, target_of}
use Rattle.ap_shparse.specs.Commands.{alone, assigned, element, elements, is_reserved, redirection, simple, substitution}
use Rattle.ap_shparse.specs.Lists.{Lists, chain, command, list, others}
use Rattle.ap_shparse.specs.Scripts.{script, script_from, turn}
use Rattle.ap_shparse.specs.declared.tree.Chain.{Chain}
use Rattle.ap_shparse.specs.declared.tree.Simple.{Simple}
use Rattle.ap_shparse.proofs.QuotedTexts.{StandsNowhere, body_reads, delimiter_reads, lacks}
use Rattle.ap_dispatch.proofs.Tree.{opening_item, script_items}
use Rattle.ap_dispatch.proofs.ReadLines.{ReadsTo}
use Rattle.ap_dispatch.proofs.ReadWords.{quoted_word}
use Rattle.ap_dispatch.proofs.ReadScript.{HasBytes}
use Rattle.ap_dispatch.proofs.ReadWhole.{script_ends}

-- ---- the here-document

-- a delimiter that stands nowhere in the body
pub record IsDelimiter (d body : Text) : Type 0 where
  pub some : d ≢ []
  pub no_quote : lacks 39 d ≡ true
  pub no_newline : lacks 10 d ≡ true
  pub nowhere : StandsNowhere d body

here_reads : (sub : Text → Outcome Text Simple) (d body rest : Text) → IsDelimiter d body
    → here sub (alone (39 ∷ (d ++ 39 ∷ 10 ∷ (body ++ 10 ∷ (d ++ 10 ∷ rest))))) ≡ Some (body ++ 10 ∷ [], here_at (10 ∷ (body ++ 10 ∷ (d ++ 10 ∷ rest))) (10 ∷ rest))
unfolding here line line_from gap past_comment has
here_reads sub d body rest is =
    rw (delimiter_reads d (body ++ 10 ∷ (d ++ 10 ∷ rest)) is.some is.no_quote is.no_newline, body_reads d body rest is.no_newline is.nowhere) refl

drop_all : (t u : Text) (n : ℕ) → n ≡ length t → drop n (t ++ u) ≡ u
drop_all [] u n e = ap (λ k. drop k u) e
drop_all (c ∷ t) u n e = ap (λ k. drop k (c ∷ (t ++ u))) e ∙ drop_all t u (length t) refl

behind_is : (body d rest : Text) → last (length (10 ∷ rest) - 1) (body ++ 10 ∷ (d ++ 10 ∷ rest)) ≡ rest
behind_is body d rest =
    let front = body ++ 10 ∷ (d ++ 10 ∷ []) in
    let same : body ++ 10 ∷ (d ++ 10 ∷ rest) ≡ front ++ rest = ap (λ t. body ++ 10 ∷ t) (sym (append_assoc d (10 ∷ []) rest)) ∙ sym (append_assoc body (10 ∷ (d ++ 10 ∷ [])) rest) in
    let long = length-append front rest in
    let total : length (body ++ 10 ∷ (d ++ 10 ∷ rest)) ≡ length front + length rest = ap length same ∙ long in
    ap (λ t. drop (length (body ++ 10 ∷ (d ++ 10 ∷ rest)) - (length (10 ∷ rest) - 1)) t) same
    ∙ drop_all front rest (length (body ++ 10 ∷ (d ++ 10 ∷ rest)) - (length (10 ∷ rest) - 1)) (omega arith)

-- ---- the magic

abbrev pub magic_name : Bool → Bool → Text
magic_name windows debug = cond windows (codes "MZqFpD") (cond debug (codes "APEDBG") (codes "jartsr"))

-- what stands before the script: the magic and some text in quotes, the delimiter, the body and the delimiter
abbrev pub opening_text : Text → Text → Text → Text → Text → Text
opening_text name value d body rest = name ++ (codes "='\n" ++ (value ++ (codes "' <<'" ++ (d ++ (codes "'\n" ++ (body ++ (codes "\n" ++ (d ++ (codes "\n" ++ rest)))))))))

opening_ends : (below : Lists) (n : ℕ) (windows debug : Bool) (value d body rest : Text) (all : List Chain) → lacks 39 value ≡ true → IsDelimiter d body
    → ReadsTo below n rest (opening_item (magic_name windows debug) (10 ∷ value) (body ++ 10 ∷ []) ∷ []) all
    → ReadsTo below (suc n) (opening_text (magic_name windows debug) value d body rest) [] all
unfolding script_from turn chain command others newlines newlines_from simple is_reserved elements element redirection next_operator number target_of assigned value is_assignment assignment name has is_plain ends_word gap past_comment redirects
opening_ends below n true debug value d body rest all quiet is ends left =
    rw (quoted_word substitution (10 ∷ value) (codes "<<'" ++ (d ++ (codes "'\n" ++ (body ++ (codes "\n" ++ (d ++ (codes "\n" ++ rest))))))) quiet, here_reads substitution d body rest is, behind_is body d rest) (ends _)
opening_ends below n false true value d body rest all quiet is ends left =
    rw (quoted_word substitution (10 ∷ value) (codes "<<'" ++ (d ++ (codes "'\n" ++ (body ++ (codes "\n" ++ (d ++ (codes "\n" ++ rest))))))) quiet, here_reads substitution d body rest is, behind_is body d rest) (ends _)
opening_ends below n false false value d body rest all quiet is ends left =
    rw (quoted_word substitution (10 ∷ value) (codes "<<'" ++ (d ++ (codes "'\n" ++ (body ++ (codes "\n" ++ (d ++ (codes "\n" ++ rest))))))) quiet, here_reads substitution d body rest is, behind_is body d rest) (ends _)

-- ---- the whole text

-- the items of a text that opens so, and goes on with the script
abbrev pub all_items : Text → Text → Text → Systems → Option Text → Option Text → ℕ → ℕ → List Chain
all_items name value body systems x64 a64 skip count = opening_item name (10 ∷ value) (body ++ 10 ∷ []) ∷ script_items systems x64 a64 skip count

pub text_reads : (windows debug : Bool) (value d body : Text) (systems : Systems) (x64 a64 : Option Text) (skip count : ℕ) (rest : Text) → lacks 39 value ≡ true → IsDelimiter d body
    → HasBytes x64 → HasBytes a64 → (is_some x64 ≡ false → is_some a64 ≡ false → ⊥) → skip < 2 ^ 64 → count < 2 ^ 64
    → script (opening_text (magic_name windows debug) value d body (script_of systems x64 a64 skip count ++ rest)) ≡ Ok (all_items (magic_name windows debug) value body systems x64 a64 skip count)
unfolding script
text_reads true debug value d body systems x64 a64 skip count rest quiet is x a one small few =
    opening_ends (list 64) _ true debug value d body (script_of systems x64 a64 skip count ++ rest) (all_items (codes "MZqFpD") value body systems x64 a64 skip count) quiet is
    (script_ends 62 _ systems x64 a64 skip count rest (opening_item (codes "MZqFpD") (10 ∷ value) (body ++ 10 ∷ [])) x a one small few) _
text_reads false true value d body systems x64 a64 skip count rest quiet is x a one small few =
    opening_ends (list 64) _ false true value d body (script_of systems x64 a64 skip count ++ rest) (all_items (codes "APEDBG") value body systems x64 a64 skip count) quiet is
    (script_ends 62 _ systems x64 a64 skip count rest (opening_item (codes "APEDBG") (10 ∷ value) (body ++ 10 ∷ [])) x a one small few) _
text_reads false false value d body systems x64 a64 skip count rest quiet is x a one small few =
    opening_ends (list 64) _ false false value d body (script_of systems x64 a64 skip count ++ rest) (all_items (codes "jartsr") value body systems x64 a64 skip count) quiet is
    (script_ends 62 _ systems x64 a64 skip count rest (opening_item (codes "jartsr") (10 ∷ value) (body ++ 10 ∷ [])) x a one small few) _
