use Rattle.std.proofs.Common.{◌≡◌}
use Rattle.std.specs.Option.{option_copied}
use Rattle.dp_text.specs.Words.{words_behind}
use Rattle.dp_plan_text.specs.steps.LineWords.{sites_above}
use Rattle.dp_plan_text.proofs.StageLemmas.{behind_sites, length_behind}
use Rattle.dp_plan_text.proofs.line.sites.Given as goal

abbrev pub invariant-words : goal.invariant-words
invariant-words l =
    behind_sites l.sites (sites_above l.last (words_behind (option_copied l.rest))) ≡ sites_above 0 (words_behind (option_copied l.fn.text))

abbrev pub decreases-words : goal.decreases-words
decreases-words l = length_behind (option_copied l.rest)
