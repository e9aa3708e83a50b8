use Rattle.std.proofs.Common.{◌≡◌, [], rules}
use Rattle.dp_edge.specs.Input.{input_words}
use Rattle.dp_edge.proofs.Words.{words_none, next_word_is, NextWord}
use Rattle.dp_edge.proofs.input.next_word.Goals as goal

pub returns-in_err-first_word-clause-words : goal.returns-in_err-first_word-clause-words
returns-in_err-first_word-clause-words c =
    let none : input_words c.args.text.now ≡ [] = words_none c.args.text.now (search rules) in
    search rules

pub returns-clause-words : goal.returns-clause-words
returns-clause-words c =
    let next : NextWord c.args.text.now c.split_at.result.1.now c.unwrap_or-len.result =
    next_word_is _ _ c.in_ok-first_word.field-0 _ (search rules) c.split_at.ensures.back (search rules) in
    rw (c.split_at-2.ensures.front, c.split_at-2.ensures.back) next.words_are

pub returns-clause-shorter : goal.returns-clause-shorter
returns-clause-shorter c =
    let next : NextWord c.args.text.now c.split_at.result.1.now c.unwrap_or-len.result =
    next_word_is _ _ c.in_ok-first_word.field-0 _ (search rules) c.split_at.ensures.back (search rules) in
    rw c.split_at-2.ensures.back next.shorter
