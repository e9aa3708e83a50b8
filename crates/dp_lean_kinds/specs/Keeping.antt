-- The sites that are kept and compared are enough for later stages and the judge, and have places in each stage's columns.
use Rattle.std.specs.Prelude.{◌≡◌, ℕ}
use Rattle.dp_tree.specs.declared.Program.{Program}
use Rattle.dp_plan.specs.declared.Plan.{Plan}
use Rattle.dp_plan.specs.Access.{stage_of}
use Rattle.dp_semantics.specs.EpochKey.{EpochKey}
use Rattle.dp_net.specs.NetItems.{Marks}
use Rattle.dp_lean_code.specs.Known.{paying_marks}
use Rattle.dp_lean_epoch.specs.Holding.{Kept, KeepsEnough, HavePlaces}
use Rattle.dp_lean_kinds.specs.ColumnKinds.{is_needed, is_compared, region_kinds}

-- kept is of each site what is needed behind its own stage, and what the judge compares
abbrev pub kept_by : Program → Plan → Marks → Kept
kept_by p plan m = record { told = λ y. is_needed p plan m (stage_of p plan y) y; loads = is_compared p plan m }

-- In each epoch of the program and the plan that is enough, and each stage's columns have a place for it.
abbrev pub KindsKeepEnough : Program → Plan → Type 0
KindsKeepEnough p plan = (key : EpochKey) → key.program ≡ p → key.plan ≡ plan →
    KeepsEnough (paying_marks p plan) key (kept_by p plan (paying_marks p plan))
    × ((t : ℕ) → HavePlaces (paying_marks p plan) key (kept_by p plan (paying_marks p plan)) (region_kinds p plan (paying_marks p plan) t))
