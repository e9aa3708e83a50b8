use Rattle.clap.proofs.WalkLemmas.{both}
use Rattle.dp_words.proofs.RangeLemmas.{finds}
use Rattle.dp_words.proofs.parsing.found.Goals as goal

pub returns-in-Ok-clause-some : goal.returns-in-Ok-clause-some
returns-in-Ok-clause-some c =
    finds _ c.in-Ok.matches c.in-Ok.ensures.parsed c.requires.numbers _ (c.in-Ok.ensures.kinds c.requires.numbers.simple)
    (c.in-Ok.ensures.matches (both _ _ c.requires.numbers.simple).0).0
