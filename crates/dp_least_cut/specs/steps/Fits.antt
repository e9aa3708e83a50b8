-- When the units from one on can be cut so that no stage costs more than a bound.
use Rattle.std.specs.Prelude.{ℕ, ◌≡◌, ◌<◌, ◌≤◌, Bool, true, List, length, slice_index, if◌then◌else◌}
use Rattle.dp_base.specs.declared.limits.TheConstants.{STAGES}
use Rattle.dp_least_cut.specs.declared.Stretch.{Stretch}
use Rattle.dp_least_cut.specs.Allowed.{AreStages, IsClear, cost_of, bottleneck}

-- The units from `begin` on can be cut into at most so many stages, none of which costs more than the bound.
pub record Fits (weights : List ℕ) (carried : List (ℕ × ℕ)) (workers bound most : ℕ) (closed : Bool) (begin : ℕ) : Type 0 where
  pub cut : List Stretch
  pub stages : AreStages carried (length weights) closed begin cut
  pub few : length cut ≤ most
  pub cheap : bottleneck weights workers begin cut ≤ bound

-- at each place from `from` on the list tells how many stages are needed: a number that a plan may have is exact
abbrev pub TellsNeed : List ℕ → List (ℕ × ℕ) → ℕ → ℕ → Bool → ℕ → List ℕ → Type 0
TellsNeed weights carried workers bound closed from needs =
    (begin most : ℕ) → from ≤ begin → begin ≤ length weights → most ≤ STAGES →
    (slice_index needs begin ≤ most → Fits weights carried workers bound most closed begin) × (Fits weights carried workers bound most closed begin →
    slice_index needs begin ≤ most)

-- so far no carried edge is inside: the units from `begin` up to `end` have none exactly where `end` is at most the limit
abbrev pub IsLimit : List (ℕ × ℕ) → ℕ → ℕ → ℕ → Type 0
IsLimit carried count begin limit = (end : ℕ) → end ≤ count → (IsClear carried begin end → end ≤ limit) × (end ≤ limit → IsClear carried begin end)

-- a stage of the units from `begin` up to `end` fits, and what follows needs at most so many stages with it
abbrev pub StageFits : ℕ → ℕ → Bool → ℕ → ℕ → ℕ → ℕ → Bool → Type 0
StageFits workers bound may weight need_open need_closed most replicated =
    (replicated ≡ true → may ≡ true) × (cost_of workers weight replicated ≤ bound) × ((if replicated then need_closed else need_open) < most)
