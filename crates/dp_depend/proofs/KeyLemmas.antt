-- The numbers of flows tell them apart.
use Rattle.std.proofs.Common.{◌≡◌, sym, ◌∙◌, ℕ, ◌^◌, ◌<◌, ◌==◌, Bool, ◌&&◌, ◌||◌, List}
use Rattle.std.specs.List.{list_any}
use Rattle.std.specs.List.Sorted.{IsPermutation, IsNonDecreasing}
use Rattle.std.proofs.lemmas.List.Sorted.{list_any-IsPermutation}
use Rattle.dp_plan.specs.Written.{has}
use Rattle.dp_profile.specs.declared.SiteCount.{SiteCount}
use Rattle.dp_profile.specs.declared.Flow.{Flow}
use Rattle.dp_depend.specs.Shown.{is_flow, is_frequent}
use Rattle.dp_depend.specs.steps.Frequent.{key, HasFrequent, AreFrequent}

abbrev pub passes : List SiteCount → ℕ → ℕ → ℕ → ℕ → Bool → Flow → Bool
passes counts first rate from to carried f = is_flow from to carried f && is_frequent counts first rate f

-- so many flows were gone through: the others and the numbers so far make all
abbrev pub SoFar : List SiteCount → ℕ → ℕ → List ℕ → List Flow → List Flow → Type 0
SoFar counts first rate keys rest flows =
    (from to : ℕ) (carried : Bool) → from < 2 ^ 32 → to < 2 ^ 32
    → (has (key from to carried) keys || list_any (passes counts first rate from to carried) rest) ≡ list_any (passes counts first rate from to carried) flows

-- in another order
pub moved : (counts : List SiteCount) (flows : List Flow) (first rate : ℕ) (keys sorted : List ℕ) → HasFrequent counts flows first rate keys →
    IsPermutation keys sorted → IsNonDecreasing sorted → AreFrequent counts flows first rate sorted
moved counts flows first rate keys sorted right same up = record {
  ascend = up;
  right = λ from to carried hf ht. sym (list_any-IsPermutation (λ n. n == key from to carried) keys sorted same) ∙ right from to carried hf ht;
}
