-- From what `clap` promises to the command of words.
use Rattle.std.proofs.Common.{◌≡◌, ◌∙◌, List, [], ◌∷◌, ap, sym, subst, refl, true, slice_get, String}
use Rattle.std.specs.Prelude.{Option, Some, None, Result, Err}
use Rattle.std.specs.Option.{option_and_then}
use Rattle.std.specs.String.{string_bytes}
use Rattle.std.specs.declared.alloc.Global.{Global}
use Rattle.clap.specs.Words.{App, is_simple_and_free}
use Rattle.ap_words.specs.declared.command.Command.{Command}
use Rattle.ap_words.specs.declared.command.WordsFault.{WordsFault}
use Rattle.ap_words.specs.declared.command.WordsFault.TheVariants.{Usage, NoMemory}
use Rattle.ap_words.specs.declared.word.Word.{Word}
use Rattle.ap_words.specs.declared.word.Word.TheVariants.{Link, Load, Map, Script, Assimilate, Inspect, Trial, Bind, Bundle, Stack, Audit}
use Rattle.ap_words.specs.Names.{word_named}
use Rattle.ap_words.specs.Tables.{app_for}
use Rattle.ap_words.specs.Meaning.{Gives, asked, command_by, command_of, kept, texts_of}

-- `clap` promises what it makes of the words of each command
pub each-simple : (word : Word) → is_simple_and_free (app_for word) ≡ true
each-simple Link = refl
each-simple Load = refl
each-simple Map = refl
each-simple Script = refl
each-simple Assimilate = refl
each-simple Inspect = refl
each-simple Trial = refl
each-simple Bind = refl
each-simple Bundle = refl
each-simple Stack = refl
each-simple Audit = refl

pub is-simple : (word : Word) (app : App) → app ≡ app_for word → is_simple_and_free app ≡ true
is-simple word app same = ap is_simple_and_free same ∙ each-simple word

pub words-none : (words : List (String Global)) → None ≡ slice_get words 0 → command_of (texts_of words) ≡ None
unfolding command_of
words-none [] h = refl
words-none (w ∷ ws) h = absurd cc

pub words-some : (words : List (String Global)) (name : String Global) (named : Option Word) → Some name ≡ slice_get words 0 → named ≡ word_named (string_bytes name)
    → command_of (texts_of words) ≡ option_and_then (λ word. option_and_then kept (asked word (texts_of words))) named
unfolding command_of
words-some [] name named h k = absurd cc
words-some (w ∷ ws) name named h k =
    let e : name ≡ w = cc in
    sym (ap (λ (n : String Global). command_by (string_bytes n) (texts_of (w ∷ ws))) e)
    ∙ ap (option_and_then (λ word. option_and_then kept (asked word (texts_of (w ∷ ws))))) (sym k)

pub gives-kept : (r : Result Command WordsFault) (command : Command) (o : Option Command) → o ≡ Some command → Gives r (kept command) → Gives r (option_and_then kept o)
gives-kept r command o is h = subst (Gives r) (sym (ap (option_and_then kept) is)) h

pub gives-fault : (fault : WordsFault) (o : Option Command) → Gives (Err fault) o → Gives (Err fault) (option_and_then kept o)
gives-fault Usage o h = ap (option_and_then kept) h
gives-fault NoMemory o h = tt

pub gives-words : (r : Result Command WordsFault) (words : List (String Global)) (name : String Global) (word : Word) → Some name ≡ slice_get words 0 → Some word ≡ word_named (string_bytes name)
    → Gives r (option_and_then kept (asked word (texts_of words))) → Gives r (command_of (texts_of words))
gives-words r words name word h k given = subst (Gives r) (sym (words-some words name (Some word) h k)) given
