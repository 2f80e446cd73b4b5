-- Items of the script that hold texts or other items, read.
use Rattle.std.proofs.Common.{◌≡◌, refl, ℕ, suc, ◌<◌, ◌^◌, List, [], ◌∷◌, ◌++◌, true, codes}
use Rattle.std.specs.Prelude.{Some}
use Rattle.std.specs.Fmt.{decimal}
use Rattle.ap_shparse.specs.Bytes.{Text, ends_word, gap, has, is_plain, past_comment}
use Rattle.ap_shparse.specs.Reads.{Outcome}
use Rattle.ap_shparse.specs.Pieces.{dollar, escaped, inside, name, none_found, outside, pieces, plain, quoted, unit, units, variable, with_bytes, with_part}
use Rattle.ap_shparse.specs.Places.{newlines, newlines_from}
use Rattle.ap_shparse.specs.Words.{begins_word, is_assignment, pieced, plain_word}
use Rattle.ap_shparse.specs.Redirects.{file_word, next_operator, number, redirects, same, target_of}
use Rattle.ap_shparse.specs.Commands.{alone, element, elements, is_reserved, next_word, redirection, simple, substitution}
use Rattle.ap_shparse.specs.Lists.{Lists, chain, command, items_from, join, next_item, others}
use Rattle.ap_shparse.specs.declared.tree.Chain.{Chain}
use Rattle.ap_shparse.specs.declared.tree.Part.TheVariants as part
use Rattle.ap_shparse.specs.declared.tree.Simple.{Simple}
use Rattle.ap_shparse.proofs.QuotedTexts.{lacks}
use Rattle.ap_dispatch.proofs.Tree.{dd_item, statement_item}
use Rattle.ap_dispatch.proofs.ReadWords.{AreDigits, decimal_digits, quoted_word, units_digits}

-- ---- words

abbrev Sub : Type 0
Sub = Text → Outcome Text Simple

printf_word : (sub : Sub) (u : Text) → pieces sub (codes "printf " ++ u) ≡ Some (with_bytes none_found (codes "printf"), codes " " ++ u)
unfolding pieces units unit outside inside dollar variable name plain escaped quoted has is_plain ends_word
printf_word sub u = refl

copy_word : (sub : Sub) (u : Text) → pieces sub (codes "\"$t\" " ++ u) ≡ Some (with_part none_found (part.Variable (codes "t")), codes " " ++ u)
unfolding pieces units unit outside inside dollar variable name plain escaped quoted has is_plain ends_word
copy_word sub u = refl

exit_word : (sub : Sub) (u : Text) → pieces sub (codes "exit " ++ u) ≡ Some (with_bytes none_found (codes "exit"), codes " " ++ u)
unfolding pieces units unit outside inside dollar variable name plain escaped quoted has is_plain ends_word
exit_word sub u = refl

status_123 : (sub : Sub) (u : Text) → pieces sub (codes "123\n" ++ u) ≡ Some (with_bytes none_found (codes "123"), codes "\n" ++ u)
unfolding pieces units unit outside inside dollar variable name plain escaped quoted has is_plain ends_word
status_123 sub u = refl

status_124 : (sub : Sub) (u : Text) → pieces sub (codes "124\n" ++ u) ≡ Some (with_bytes none_found (codes "124"), codes "\n" ++ u)
unfolding pieces units unit outside inside dollar variable name plain escaped quoted has is_plain ends_word
status_124 sub u = refl

dd_word : (sub : Sub) (u : Text) → pieces sub (codes "dd " ++ u) ≡ Some (with_bytes none_found (codes "dd"), codes " " ++ u)
unfolding pieces units unit outside inside dollar variable name plain escaped quoted has is_plain ends_word
dd_word sub u = refl

input_word : (sub : Sub) (u : Text) → pieces sub (codes "if=\"$t\" " ++ u) ≡ Some (with_part (with_bytes none_found (codes "if=")) (part.Variable (codes "t")), codes " " ++ u)
unfolding pieces units unit outside inside dollar variable name plain escaped quoted has is_plain ends_word
input_word sub u = refl

output_word : (sub : Sub) (u : Text) → pieces sub (codes "of=\"$t\" " ++ u) ≡ Some (with_part (with_bytes none_found (codes "of=")) (part.Variable (codes "t")), codes " " ++ u)
unfolding pieces units unit outside inside dollar variable name plain escaped quoted has is_plain ends_word
output_word sub u = refl

size_word : (sub : Sub) (u : Text) → pieces sub (codes "bs=8 " ++ u) ≡ Some (with_bytes none_found (codes "bs=8"), codes " " ++ u)
unfolding pieces units unit outside inside dollar variable name plain escaped quoted has is_plain ends_word
size_word sub u = refl

conv_word : (sub : Sub) (u : Text) → pieces sub (codes "conv=notrunc " ++ u) ≡ Some (with_bytes none_found (codes "conv=notrunc"), codes " " ++ u)
unfolding pieces units unit outside inside dollar variable name plain escaped quoted has is_plain ends_word
conv_word sub u = refl

null_word : (sub : Sub) (u : Text) → pieces sub (codes "/dev/null " ++ u) ≡ Some (with_bytes none_found (codes "/dev/null"), codes " " ++ u)
unfolding pieces units unit outside inside dollar variable name plain escaped quoted has is_plain ends_word
null_word sub u = refl

skip_word : (sub : Sub) (digits u : Text) → AreDigits digits → pieces sub (codes "skip=" ++ (digits ++ 32 ∷ u)) ≡ Some (with_bytes none_found (codes "skip=" ++ digits), 32 ∷ u)
unfolding pieces units unit outside inside dollar variable name plain escaped quoted has is_plain ends_word
skip_word sub digits u all = units_digits sub digits (codes "skip=") u all

count_word : (sub : Sub) (digits u : Text) → AreDigits digits → pieces sub (codes "count=" ++ (digits ++ 32 ∷ u)) ≡ Some (with_bytes none_found (codes "count=" ++ digits), 32 ∷ u)
unfolding pieces units unit outside inside dollar variable name plain escaped quoted has is_plain ends_word
count_word sub digits u all = units_digits sub digits (codes "count=") u all

-- ---- what is written over the copy

pub statement_reads : (below : Lists) (n : ℕ) (found : List Chain) (b : ℕ) (octals rest : Text) → lacks 39 (b ∷ octals) ≡ true
    → items_from below (suc n) found (alone (codes "printf '" ++ ((b ∷ octals) ++ (codes "' 1<>\"$t\" || exit 124\n" ++ rest)))) ≡ items_from below n (found ++ statement_item (b ∷ octals) ∷ []) (alone rest)
unfolding items_from next_item chain command others join newlines newlines_from simple is_reserved elements element redirection next_operator number file_word same target_of next_word plain_word pieced begins_word is_assignment has is_plain ends_word gap past_comment redirects
statement_reads below n found b octals rest h =
    rw (printf_word, quoted_word substitution (b ∷ octals) (codes "1<>\"$t\" || exit 124\n" ++ rest) h, copy_word, exit_word, status_124) refl

pub dd_reads : (below : Lists) (n : ℕ) (found : List Chain) (skip count : ℕ) (rest : Text) → skip < 2 ^ 64 → count < 2 ^ 64
    → items_from below (suc n) found (alone (codes "dd if=\"$t\" of=\"$t\" bs=8 skip=" ++ (decimal skip ++ (codes " count=" ++ (decimal count ++ (codes " conv=notrunc 2>/dev/null || exit 123\n" ++ rest))))))
    ≡ items_from below n (found ++ dd_item skip count ∷ []) (alone rest)
unfolding items_from next_item chain command others join newlines newlines_from simple is_reserved elements element redirection next_operator number file_word same target_of next_word plain_word pieced begins_word is_assignment has is_plain ends_word gap past_comment redirects
dd_reads below n found skip count rest small few =
    let end = codes "conv=notrunc 2>/dev/null || exit 123\n" ++ rest in
    rw (
      dd_word,
      input_word,
      output_word,
      size_word,
      skip_word substitution (decimal skip) (codes "count=" ++ (decimal count ++ 32 ∷ end)) (decimal_digits skip small),
      count_word substitution (decimal count) end (decimal_digits count few),
      conv_word,
      null_word,
      exit_word,
      status_123,
    ) refl
