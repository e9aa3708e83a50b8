-- Valid plans: those of which all nine rules hold; and the first rule that fails, with its site.
use Rattle.std.specs.Prelude.{ℕ, suc, Bool, List, [], ◌∷◌, Option, Some, None, is_none}
use Rattle.dp_tree.specs.declared.Program.{Program}
use Rattle.dp_plan.specs.declared.Plan.{Plan}
pub use Rattle.dp_plan.specs.declared.BrokenRule.{BrokenRule}
use Rattle.dp_plan.specs.Written.{WrittenPlan, written_of}
use Rattle.dp_plan.specs.Rules.{not_listed, listed_twice, foreign, condition_later, first_replicated, neighbours_replicated, late_while, late_if}
use Rattle.dp_plan.specs.Rules.{wrongly_assumed}

-- what the nine rules name, in their order
abbrev pub rules : Program → WrittenPlan → List (Option ℕ)
rules p w =
    not_listed p w ∷ listed_twice w ∷ foreign p w ∷ condition_later p w ∷ first_replicated p w ∷ neighbours_replicated w
    ∷ late_while p w ∷ late_if p w ∷ wrongly_assumed p w ∷ []

-- the first that names a site, where the rules count from here
abbrev pub broken_from : ℕ → List (Option ℕ) → Option BrokenRule
broken_from rule [] = None
broken_from rule (Some site ∷ rest) = Some (record { rule = rule; site = site })
broken_from rule (None ∷ rest) = broken_from (suc rule) rest

-- the first rule that a region's written plan breaks
abbrev pub first_broken : Program → WrittenPlan → Option BrokenRule
first_broken p w = broken_from 1 (rules p w)

-- the earlier one, or else the later
abbrev pub or_later : Option BrokenRule → Option BrokenRule → Option BrokenRule
or_later (Some broken) later = Some broken
or_later None later = later

-- the first that the written plans break, region by region
abbrev pub first_fault : Program → List WrittenPlan → Option BrokenRule
first_fault p [] = None
first_fault p (w ∷ rest) = or_later (first_broken p w) (first_fault p rest)

-- all rules hold
abbrev pub is_valid : Program → WrittenPlan → Bool
is_valid p w = is_none (first_broken p w)

-- the plan, as it is written, is valid
abbrev pub is_valid_plan : Program → Plan → Bool
is_valid_plan p plan = is_valid p (written_of p plan)
