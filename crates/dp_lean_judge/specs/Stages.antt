-- The stages of a region's sites.
use Rattle.std.specs.Prelude.{◌≡◌, ℕ}
use Rattle.dp_tree.specs.declared.Program.{Program}
use Rattle.dp_plan.specs.declared.Plan.{Plan}
use Rattle.dp_plan.specs.Access.{stage_of}
use Rattle.dp_semantics.specs.Judge.{last}

-- no site is of the stage after the last one
abbrev pub HasStages : Program → Plan → Type 0
HasStages p plan = (site : ℕ) → (stage_of p plan site ≡ last plan → ⊥)
