use Rattle.std.proofs.Common.{◌∙◌, ap}
use Rattle.std.specs.Prelude.{Err, None}
use Rattle.ap_words.specs.Names.{word_named}
use Rattle.ap_words.specs.Meaning.{asked, texts_of}
use Rattle.ap_words.proofs.Asking.{words-none, words-some, gives-kept, gives-fault, gives-words}
use Rattle.ap_words.proofs.read.read_words.Goals as goal

pub returns-in_default-clause-command : goal.returns-in_default-clause-command
returns-in_default-clause-command c = words-none c.args.words.now c.in_default.ensures.value

pub returns-in_default-word_named-clause-command : goal.returns-in_default-word_named-clause-command
returns-in_default-word_named-clause-command c =
    words-some c.args.words.now c.in-Some.name.now None c.in-Some.ensures.value
    (c.in_default-word_named.ensures ∙ ap word_named c.as_str.ensures.value)

pub returns-in-Ok-clause-command : goal.returns-in-Ok-clause-command
returns-in-Ok-clause-command c =
    let words = c.args.words.now in
    gives-words c.kept.result words c.in-Some.name.now c.in-Some-word_named.word c.in-Some.ensures.value
    (c.in-Some-word_named.ensures ∙ ap word_named c.as_str.ensures.value)
    (gives-kept c.kept.result c.in-Ok.command (asked c.in-Some-word_named.word (texts_of words)) c.in-Ok.ensures c.kept.ensures.command)

pub returns-in-Err-clause-command : goal.returns-in-Err-clause-command
returns-in-Err-clause-command c =
    let words = c.args.words.now in
    gives-words (Err c.in-Err.fault) words c.in-Some.name.now c.in-Some-word_named.word c.in-Some.ensures.value
    (c.in-Some-word_named.ensures ∙ ap word_named c.as_str.ensures.value)
    (gives-fault c.in-Err.fault (asked c.in-Some-word_named.word (texts_of words)) c.in-Err.ensures)
