-- What a stage keeps where an epoch begins.
use Rattle.std.specs.Prelude.{◌≡◌, ℕ, suc, true, false, List, ℤ}
use Rattle.dp_plan.specs.declared.Plan.{Plan}
use Rattle.dp_plan.specs.Access.{is_replicated}
use Rattle.dp_lean_machine.specs.declared.machine.Kept.{Kept}
use Rattle.dp_lean_machine.specs.declared.machine.Kept.TheVariants.{Cells, Versioned, Nothing}

-- A sequential stage keeps the base, with a version where a replicated stage follows. A replicated one keeps nothing.
abbrev pub KeepsBase : Plan → ℕ → List ℤ → Kept → Type 0
KeepsBase plan s base (Cells cells) = (is_replicated plan s ≡ false) × (is_replicated plan (suc s) ≡ false) × (cells ≡ base)
KeepsBase plan s base (Versioned both) = (is_replicated plan s ≡ false) × (is_replicated plan (suc s) ≡ true) × (both ≡ base)
KeepsBase plan s base Nothing = is_replicated plan s ≡ true
