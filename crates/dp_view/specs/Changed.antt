-- The cells that read otherwise than before.
use Rattle.std.specs.Prelude.{◌≡◌, ℕ, Bool, true, not, List, ℤ, pos, get_or}
use Rattle.std.specs.Ordering.{int_eq}
use Rattle.dp_tree.specs.declared.Program.{Program}
use Rattle.dp_plan.specs.declared.Plan.{Plan}
use Rattle.dp_semantics.specs.Seen.{is_local_at}

-- the cell reads otherwise
abbrev pub differs : List ℤ → List ℤ → ℕ → Bool
differs before after c = not (int_eq (get_or before c (pos 0)) (get_or after c (pos 0)))

-- the body locals of the plan's region read 0
abbrev pub Cleared : Program → Plan → List ℤ → Type 0
Cleared p plan cells = (c : ℕ) → is_local_at p plan c ≡ true → get_or cells c (pos 0) ≡ pos 0
