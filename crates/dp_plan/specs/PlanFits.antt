-- A written plan within its limits, which every plan of a text is.
use Rattle.std.specs.Prelude.{◌^◌, ◌<◌, ◌≤◌, length}
use Rattle.dp_base.specs.declared.limits.TheConstants.{LEAST_WORDS, MOST_WORDS, STAGES}
use Rattle.dp_tree.specs.declared.Assume.{Assume}
use Rattle.dp_plan.specs.Written.{WrittenStage, WrittenPlan}
use Rattle.dp_plan.specs.Each.{Each, AscendAbove}

-- a stage's line has a site at least, and its sites ascend strictly from 1
abbrev pub StageFits : WrittenStage → Type 0
StageFits stage = (1 ≤ length stage.sites) × AscendAbove 0 stage.sites

-- sites are from 1, and have 32 bits
abbrev pub AssumeFits : Assume → Type 0
AssumeFits a = (0 < a.site.0) × (a.site.0 < 2 ^ 32)

-- the words and the number of stages are within their limits
pub record PlanFits (w : WrittenPlan) : Type 0 where
  pub least_words : LEAST_WORDS ≤ w.words
  pub most_words : w.words ≤ MOST_WORDS
  pub some_stage : 1 ≤ length w.stages
  pub few_stages : length w.stages ≤ STAGES
  pub stages : Each StageFits w.stages
  pub assume : Each AssumeFits w.assume
