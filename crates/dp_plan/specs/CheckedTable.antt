-- The table that a plan has of its checked sites.
use Rattle.std.specs.Prelude.{ℕ, ◌-◌, ◌≡◌, Bool, false, ◌&&◌, List, map, length, slice_get, Option, Some, None, nat_le, nat_lt}
use Rattle.dp_tree.specs.declared.Program.{Program}
use Rattle.dp_tree.specs.Numbering.{numbers_from}
use Rattle.dp_plan.specs.declared.Plan.{Plan}
use Rattle.dp_plan.specs.Access.{Access, first_site, stage_of}
use Rattle.dp_plan.specs.Checked.{is_checked}

-- of each site that has a stage, from the region's first one on, whether it is checked
abbrev pub checked_table : Program → Plan → List Bool
checked_table p plan = map (is_checked p plan) (numbers_from (first_site p plan) (length plan.stage_of))

-- the plan with its table
abbrev pub with_table : Program → Plan → Plan
with_table p plan = record plan { checked_at = checked_table p plan }

-- the entry is there and says yes
abbrev pub says_yes : Option Bool → Bool
says_yes None = false
says_yes (Some answer) = answer

-- what the plan's table says of a site
abbrev pub table_says : Program → Plan → ℕ → Bool
table_says p plan site = nat_le (first_site p plan) site && says_yes (slice_get plan.checked_at (site - first_site p plan))

-- the table is right about every site
abbrev pub IsTabled : Program → Plan → Type 0
IsTabled p plan = (site : ℕ) → table_says p plan site ≡ is_checked p plan site

-- the site has a stage
abbrev pub is_staged : Program → Plan → Access → Bool
is_staged p plan a = nat_lt 0 (stage_of p plan a.site)
