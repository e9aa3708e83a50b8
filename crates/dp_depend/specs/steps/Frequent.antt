-- The frequent flows of a profile as ascending numbers.
use Rattle.std.specs.Prelude.{ℕ, ◌≡◌, ◌<◌, ◌+◌, ◌*◌, ◌^◌, ◌&&◌, if◌then◌else◌, Bool, List}
use Rattle.std.specs.List.{list_any}
use Rattle.std.specs.List.Sorted.{IsNonDecreasing}
use Rattle.dp_plan.specs.Written.{has}
use Rattle.dp_profile.specs.declared.SiteCount.{SiteCount}
use Rattle.dp_profile.specs.declared.Flow.{Flow}
use Rattle.dp_depend.specs.Shown.{is_flow, is_frequent}

-- the number of a flow between these sites
abbrev pub key : ℕ → ℕ → Bool → ℕ
key from to carried = (from * 2 ^ 32 + to) * 2 + (if carried then 1 else 0)

-- the number of a flow is among these exactly where it is frequent
abbrev pub HasFrequent : List SiteCount → List Flow → ℕ → ℕ → List ℕ → Type 0
HasFrequent counts flows first rate keys =
    (from to : ℕ) (carried : Bool) → from < 2 ^ 32 → to < 2 ^ 32
    → has (key from to carried) keys ≡ list_any (λ f. is_flow from to carried f && is_frequent counts first rate f) flows

-- the numbers ascend, and are those of the frequent flows
pub record AreFrequent (counts : List SiteCount) (flows : List Flow) (first rate : ℕ) (keys : List ℕ) : Type 0 where
  pub ascend : IsNonDecreasing keys
  pub right : HasFrequent counts flows first rate keys
