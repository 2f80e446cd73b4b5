-- `if` and the lists in it, read.
use Rattle.std.proofs.Common.{◌≡◌, ◌∙◌, refl, ℕ, suc, List, [], ◌∷◌, ◌++◌, false, codes, length}
use Rattle.std.specs.Prelude.{Some}
use Rattle.ap_shparse.specs.Bytes.{Text, ends_word, gap, has, past_comment}
use Rattle.ap_shparse.specs.Places.{newlines, newlines_from}
use Rattle.ap_shparse.specs.Commands.{alone}
use Rattle.ap_shparse.specs.Lists.{Lists, chain, choice, command, items, items_from, list, next_item, otherwise, others}
use Rattle.ap_shparse.specs.Scripts.{script_from, turn}
use Rattle.ap_shparse.specs.declared.tree.Chain.{Chain}
use Rattle.ap_dispatch.proofs.Tree.{chmod_item, copy_items, cp_item, if_item, start_item}
use Rattle.ap_dispatch.proofs.ReadLines.{ReadsTo, chmod_reads, cp_reads, end_reads, start_reads}

-- ---- `if`

-- an `if` that stands before a newline
pub IsIf : Lists → Text → Chain → Text → Type 0
IsIf below t c rest = chain below (alone (codes "if " ++ t)) ≡ Some (record { chain = c; stops = false }, alone (10 ∷ rest))

pub if_reads : (d : ℕ) (front : Text) (test : Chain) (inner : List Chain) (more rest : Text)
    → list (suc d) (alone (32 ∷ front)) ≡ Some (test ∷ [], alone (codes "then\n" ++ more))
    → list (suc d) (alone (10 ∷ more)) ≡ Some (inner, alone (codes "fi\n" ++ rest))
    → IsIf (list (suc d)) front (if_item test inner) rest
unfolding IsIf chain command choice otherwise others ends_word has
if_reads d front test inner more rest test_reads inner_reads = rw (test_reads, inner_reads) refl

pub if_step : (below : Lists) (n : ℕ) (found : List Chain) (t rest : Text) (c : Chain) → IsIf below t c rest
    → items_from below (suc n) found (alone (codes "if " ++ t)) ≡ items_from below n (found ++ c ∷ []) (alone rest)
unfolding IsIf items_from next_item newlines newlines_from gap past_comment has ends_word
if_step below n found t rest c is = rw is refl

pub if_first_step : (below : Lists) (n : ℕ) (found : List Chain) (t rest : Text) (c : Chain) → IsIf below t c rest
    → items_from below (suc n) found (alone (codes "\nif " ++ t)) ≡ items_from below n (found ++ c ∷ []) (alone rest)
unfolding IsIf items_from next_item newlines newlines_from gap past_comment has ends_word
if_first_step below n found t rest c is = rw is refl

pub if_ends : (below : Lists) (n : ℕ) (t rest : Text) (found all : List Chain) (c : Chain) → IsIf below t c rest
    → ReadsTo below n rest (found ++ c ∷ []) all → ReadsTo below (suc n) (codes "if " ++ t) found all
unfolding IsIf script_from turn newlines newlines_from gap past_comment has ends_word
if_ends below n t rest found all c is ends left = rw is (ends _)

-- ---- a list

pub list_reads : (d : ℕ) (t : Text) (c : Chain) (cs : List Chain) (rest : Text) → items_from (list d) (length t) [] (alone t) ≡ Some (c ∷ cs, alone rest)
    → list (suc d) (alone t) ≡ Some (c ∷ cs, alone rest)
unfolding list items
list_reads d t c cs rest is = rw is refl

-- the lines that copy the file, with the line that writes over the copy
abbrev pub copy_lines : (Text → Text) → Text → Text
copy_lines line rest = codes "cp \"$0\" \"$t\" || exit 121\n" ++ (codes "chmod 700 \"$t\" || exit 122\n" ++ line (codes "exec \"$t\" \"$@\"\n" ++ (codes "fi\n" ++ rest)))

pub copy_list : (d : ℕ) (line : Text → Text) (item : Chain) (rest : Text)
    → ((n : ℕ) (found : List Chain) (more : Text) → items_from (list d) (suc n) found (alone (line more)) ≡ items_from (list d) n (found ++ item ∷ []) (alone more))
    → list (suc d) (alone (10 ∷ copy_lines line rest)) ≡ Some (copy_items item, alone (codes "fi\n" ++ rest))
copy_list d line item rest step =
    list_reads d (10 ∷ copy_lines line rest) cp_item (chmod_item ∷ item ∷ start_item ∷ []) (codes "fi\n" ++ rest)
    (cp_reads (list d) _ [] _ ∙ chmod_reads (list d) _ _ _ ∙ step _ _ _ ∙ start_reads (list d) _ _ _ ∙ end_reads (list d) _ _ rest)
