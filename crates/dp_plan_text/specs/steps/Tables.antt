-- What the nine rules are tested by: lists in ascending order, and the least of two.
use Rattle.std.specs.Prelude.{ℕ, Bool, not, ◌&&◌, ◌||◌, List, Option, Some, None}
use Rattle.dp_plan.specs.Written.{has}
use Rattle.dp_plan.specs.declared.WrittenPlan.{WrittenPlan}
use Rattle.dp_plan.specs.declared.Enclosing.{Enclosing}
use Rattle.dp_plan.specs.Rules.{lesser, occurs_again, comes_late}

-- the number isn't among these
abbrev pub is_outside : List ℕ → ℕ → Bool
is_outside numbers n = not (has n numbers)

-- the lesser of two numbers, where each may be missing
abbrev pub lesser_of : Option ℕ → Option ℕ → Option ℕ
lesser_of None other = other
lesser_of (Some n) other = lesser n other

-- the condition comes late, and isn't among these sites
abbrev pub is_late_outside : WrittenPlan → List ℕ → Enclosing → Bool
is_late_outside w assumed e = comes_late w e && is_outside assumed e.site

-- the number isn't among these, or stands more than once among those
abbrev pub is_outside_or_again : List ℕ → List ℕ → ℕ → Bool
is_outside_or_again numbers all n = is_outside numbers n || occurs_again all n
