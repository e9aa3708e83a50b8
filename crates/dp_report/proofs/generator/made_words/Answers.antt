use Rattle.std.proofs.Common.{◌≡◌, ◌+◌, ◌-◌, suc, pos, [], ◌∷◌, ◌++◌, sym, ap, ◌∙◌, append_assoc, arith}
use Rattle.dp_report.specs.Generator.{words_after}
use Rattle.dp_report.proofs.generator.made_words.Goals as goal

pub loop-preserved : goal.loop-preserved
loop-preserved c =
    let left = c.args.size - (c.loop.counter + 1) in let number = c.next_number-number in
    let more : c.args.size - c.loop.counter ≡ suc left = omega arith in (
      number.ensures.small,
      ap (λ words. words ++ words_after number.result left) c.in_ok-put_word.ensures
          ∙ append_assoc c.loop.words (pos number.result ∷ []) (words_after number.result left)
          ∙ (λ i. c.loop.words ++ pos (number.ensures.value i) ∷ words_after (number.ensures.value i) left)
          ∙ ap (λ count. c.loop.words ++ words_after c.loop.number count) (sym more)
          ∙ c.loop.invariant.1,
    )
