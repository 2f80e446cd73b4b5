-- Lines of the script, read as items of a list and as items of the outermost list.
use Rattle.std.proofs.Common.{◌≡◌, refl, ℕ, suc, List, [], ◌∷◌, ◌++◌, codes}
use Rattle.std.specs.Prelude.{Some, Ok}
use Rattle.ap_shparse.specs.Bytes.{Text, ends_word, gap, has, is_plain, past_comment}
use Rattle.ap_shparse.specs.Pieces.{braced, dollar, escaped, fallback, inside, name, other, outside, pieces, plain, quoted, single, unit, units, variable}
use Rattle.ap_shparse.specs.Places.{newlines, newlines_from}
use Rattle.ap_shparse.specs.Words.{assignment, begins_word, is_assignment, pieced, plain_word, value}
use Rattle.ap_shparse.specs.Redirects.{file_word, next_operator, number, redirects, same, target_of}
use Rattle.ap_shparse.specs.Commands.{alone, assigned, element, elements, is_reserved, next_word, redirection, simple, substitution}
use Rattle.ap_shparse.specs.Lists.{Lists, chain, command, items, items_from, join, list, next_item, others}
use Rattle.ap_shparse.specs.Scripts.{script_from, turn}
use Rattle.ap_shparse.specs.declared.tree.Chain.{Chain}
use Rattle.ap_dispatch.proofs.Tree.{ape_start, ape_test, chmod_item, copy_item, cp_item, exit_item, is_any, start_item, uname_item}

-- ---- items of a list; the first one stands behind the newline of `then`

pub cp_reads : (below : Lists) (n : ℕ) (found : List Chain) (rest : Text)
    → items_from below (suc n) found (alone (codes "\ncp \"$0\" \"$t\" || exit 121\n" ++ rest)) ≡ items_from below n (found ++ cp_item ∷ []) (alone rest)
unfolding items_from next_item chain command others join newlines newlines_from simple is_reserved elements element redirection next_operator number file_word same target_of assigned next_word plain_word pieced begins_word value is_assignment assignment units unit pieces outside inside dollar braced fallback other variable name single plain escaped quoted has is_plain ends_word gap past_comment redirects substitution
cp_reads below n found rest = refl

pub chmod_reads : (below : Lists) (n : ℕ) (found : List Chain) (rest : Text)
    → items_from below (suc n) found (alone (codes "chmod 700 \"$t\" || exit 122\n" ++ rest)) ≡ items_from below n (found ++ chmod_item ∷ []) (alone rest)
unfolding items_from next_item chain command others join newlines newlines_from simple is_reserved elements element redirection next_operator number file_word same target_of assigned next_word plain_word pieced begins_word value is_assignment assignment units unit pieces outside inside dollar braced fallback other variable name single plain escaped quoted has is_plain ends_word gap past_comment redirects substitution
chmod_reads below n found rest = refl

pub start_reads : (below : Lists) (n : ℕ) (found : List Chain) (rest : Text)
    → items_from below (suc n) found (alone (codes "exec \"$t\" \"$@\"\n" ++ rest)) ≡ items_from below n (found ++ start_item ∷ []) (alone rest)
unfolding items_from next_item chain command others join newlines newlines_from simple is_reserved elements element redirection next_operator number file_word same target_of assigned next_word plain_word pieced begins_word value is_assignment assignment units unit pieces outside inside dollar braced fallback other variable name single plain escaped quoted has is_plain ends_word gap past_comment redirects substitution
start_reads below n found rest = refl

pub exit_reads : (below : Lists) (n : ℕ) (found : List Chain) (rest : Text)
    → items_from below (suc n) found (alone (codes "exit 125\n" ++ rest)) ≡ items_from below n (found ++ exit_item (codes "125") ∷ []) (alone rest)
unfolding items_from next_item chain command others join newlines newlines_from simple is_reserved elements element redirection next_operator number file_word same target_of assigned next_word plain_word pieced begins_word value is_assignment assignment units unit pieces outside inside dollar braced fallback other variable name single plain escaped quoted has is_plain ends_word gap past_comment redirects substitution
exit_reads below n found rest = refl

pub first_exit_reads : (below : Lists) (n : ℕ) (found : List Chain) (rest : Text)
    → items_from below (suc n) found (alone (codes "\nexit 125\n" ++ rest)) ≡ items_from below n (found ++ exit_item (codes "125") ∷ []) (alone rest)
unfolding items_from next_item chain command others join newlines newlines_from simple is_reserved elements element redirection next_operator number file_word same target_of assigned next_word plain_word pieced begins_word value is_assignment assignment units unit pieces outside inside dollar braced fallback other variable name single plain escaped quoted has is_plain ends_word gap past_comment redirects substitution
first_exit_reads below n found rest = refl

pub ape_reads : (below : Lists) (n : ℕ) (found : List Chain) (rest : Text)
    → items_from below (suc n) found (alone (codes "\nexec ape \"$0\" \"$@\"\n" ++ rest)) ≡ items_from below n (found ++ ape_start ∷ []) (alone rest)
unfolding items_from next_item chain command others join newlines newlines_from simple is_reserved elements element redirection next_operator number file_word same target_of assigned next_word plain_word pieced begins_word value is_assignment assignment units unit pieces outside inside dollar braced fallback other variable name single plain escaped quoted has is_plain ends_word gap past_comment redirects substitution
ape_reads below n found rest = refl

pub end_reads : (below : Lists) (n : ℕ) (found : List Chain) (rest : Text)
    → items_from below (suc n) found (alone (codes "fi\n" ++ rest)) ≡ Some (found, alone (codes "fi\n" ++ rest))
unfolding items_from newlines newlines_from gap past_comment has ends_word
end_reads below n found rest = refl

-- ---- tests, as far as `then`

pub ape_test_reads : (d : ℕ) (more : Text) → list (suc d) (alone (codes " command -v ape >/dev/null 2>&1; then\n" ++ more)) ≡ Some (ape_test ∷ [], alone (codes "then\n" ++ more))
unfolding list items items_from next_item chain command others join newlines newlines_from simple is_reserved elements element redirection next_operator number file_word same target_of assigned next_word plain_word pieced begins_word value is_assignment assignment units unit pieces outside inside dollar braced fallback other variable name single plain escaped quoted has is_plain ends_word gap past_comment redirects substitution
ape_test_reads d more = refl

pub darwin_test_reads : (d : ℕ) (more : Text) → list (suc d) (alone (codes " [ \"$s\" = Darwin ]; then\n" ++ more)) ≡ Some (is_any (codes "s") (codes "Darwin") [] ∷ [], alone (codes "then\n" ++ more))
unfolding list items items_from next_item chain command others join newlines newlines_from simple is_reserved elements element redirection next_operator number file_word same target_of assigned next_word plain_word pieced begins_word value is_assignment assignment units unit pieces outside inside dollar braced fallback other variable name single plain escaped quoted has is_plain ends_word gap past_comment redirects substitution
darwin_test_reads d more = refl

pub mac_machine_test_reads : (d : ℕ) (more : Text) → list (suc d) (alone (codes " [ \"$m\" = x86_64 ]; then\n" ++ more)) ≡ Some (is_any (codes "m") (codes "x86_64") [] ∷ [], alone (codes "then\n" ++ more))
unfolding list items items_from next_item chain command others join newlines newlines_from simple is_reserved elements element redirection next_operator number file_word same target_of assigned next_word plain_word pieced begins_word value is_assignment assignment units unit pieces outside inside dollar braced fallback other variable name single plain escaped quoted has is_plain ends_word gap past_comment redirects substitution
mac_machine_test_reads d more = refl

pub x64_test_reads : (d : ℕ) (more : Text) → list (suc d) (alone (codes " [ \"$m\" = x86_64 ] || [ \"$m\" = amd64 ]; then\n" ++ more)) ≡ Some (is_any (codes "m") (codes "x86_64") (codes "amd64" ∷ []) ∷ [], alone (codes "then\n" ++ more))
unfolding list items items_from next_item chain command others join newlines newlines_from simple is_reserved elements element redirection next_operator number file_word same target_of assigned next_word plain_word pieced begins_word value is_assignment assignment units unit pieces outside inside dollar braced fallback other variable name single plain escaped quoted has is_plain ends_word gap past_comment redirects substitution
x64_test_reads d more = refl

pub a64_test_reads : (d : ℕ) (more : Text) → list (suc d) (alone (codes " [ \"$m\" = aarch64 ] || [ \"$m\" = arm64 ]; then\n" ++ more)) ≡ Some (is_any (codes "m") (codes "aarch64") (codes "arm64" ∷ []) ∷ [], alone (codes "then\n" ++ more))
unfolding list items items_from next_item chain command others join newlines newlines_from simple is_reserved elements element redirection next_operator number file_word same target_of assigned next_word plain_word pieced begins_word value is_assignment assignment units unit pieces outside inside dollar braced fallback other variable name single plain escaped quoted has is_plain ends_word gap past_comment redirects substitution
a64_test_reads d more = refl

-- ---- items of the outermost list

-- from here on the text is a script, and these are all its items
abbrev pub ReadsTo : Lists → ℕ → Text → List Chain → List Chain → Type 0
ReadsTo below n text found all = (left : ℕ) → script_from (chain below) n left found (alone text) ≡ Ok all

pub machine_reads : (below : Lists) (n : ℕ) (rest : Text) (found all : List Chain) → ReadsTo below n rest (found ++ uname_item (codes "m") (codes "-m") ∷ []) all → ReadsTo below (suc n) (codes "m=$(uname -m)\n" ++ rest) found all
unfolding script_from turn chain command others join newlines newlines_from simple is_reserved elements element redirection next_operator number file_word same target_of assigned next_word plain_word pieced begins_word value is_assignment assignment units unit pieces outside inside dollar braced fallback other variable name single plain escaped quoted has is_plain ends_word gap past_comment redirects substitution
machine_reads below n rest found all ends left = ends _

pub system_reads : (below : Lists) (n : ℕ) (rest : Text) (found all : List Chain) → ReadsTo below n rest (found ++ uname_item (codes "s") (codes "-s") ∷ []) all → ReadsTo below (suc n) (codes "s=$(uname -s)\n" ++ rest) found all
unfolding script_from turn chain command others join newlines newlines_from simple is_reserved elements element redirection next_operator number file_word same target_of assigned next_word plain_word pieced begins_word value is_assignment assignment units unit pieces outside inside dollar braced fallback other variable name single plain escaped quoted has is_plain ends_word gap past_comment redirects substitution
system_reads below n rest found all ends left = ends _

pub copy_reads : (below : Lists) (n : ℕ) (rest : Text) (found all : List Chain) → ReadsTo below n rest (found ++ copy_item ∷ []) all → ReadsTo below (suc n) (codes "t=\"${TMPDIR:-/tmp}/ape.$$\"\n" ++ rest) found all
unfolding script_from turn chain command others join newlines newlines_from simple is_reserved elements element redirection next_operator number file_word same target_of assigned next_word plain_word pieced begins_word value is_assignment assignment units unit pieces outside inside dollar braced fallback other variable name single plain escaped quoted has is_plain ends_word gap past_comment redirects substitution
copy_reads below n rest found all ends left = ends _

pub last_reads : (below : Lists) (n : ℕ) (rest : Text) (found : List Chain) → ReadsTo below (suc n) (codes "exit 126\n" ++ rest) found (found ++ exit_item (codes "126") ∷ [])
unfolding script_from turn chain command others join newlines newlines_from simple is_reserved elements element redirection next_operator number file_word same target_of assigned next_word plain_word pieced begins_word value is_assignment assignment units unit pieces outside inside dollar braced fallback other variable name single plain escaped quoted has is_plain ends_word gap past_comment redirects substitution
last_reads below n rest found left = refl
