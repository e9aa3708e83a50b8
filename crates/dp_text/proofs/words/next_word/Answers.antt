use Rattle.std.proofs.Common.{◌+◌, ◌∷◌, drop, sym, ap, ◌∙◌}
use Rattle.dp_text.specs.Words.{words}
use Rattle.dp_text.proofs.WordLemmas.{no_space, at_space}
use Rattle.dp_text.proofs.words.next_word.Goals as goal

pub returns-in-None-clause-words : goal.returns-in-None-clause-words
returns-in-None-clause-words c = no_space c.args.text.now (sym c.first_space.ensures ∙ c.in-None.is)

pub returns-in-Some-clause-words : goal.returns-in-Some-clause-words
returns-in-Some-clause-words c =
    at_space c.args.text.now c.in-Some.len (sym c.first_space.ensures ∙ c.in-Some.is)
    ∙ ap (λ w. w ∷ words (drop (c.in-Some.len + 1) c.args.text.now)) (sym c.split_at.ensures.front)
    ∙ ap (λ rest. c.split_at.result.0.now ∷ words rest) (sym c.split_at-in-Some.ensures.back)
