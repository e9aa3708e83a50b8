-- The best cut of the units from one on that keeps a bound.
use Rattle.std.specs.Prelude.{ℕ, ◌≡◌, ◌<◌, ◌≤◌, ◌+◌, ◌⊎◌, ◌^◌, if◌then◌else◌, Bool, true, false, List, [], ◌∷◌, length, sum, slice_index}
use Rattle.dp_least_cut.specs.declared.Stretch.{Stretch}
use Rattle.dp_least_cut.specs.Allowed.{AreStages, IsClear, cost_of, weight_between, bottleneck}
use Rattle.dp_least_cut.specs.steps.Fits.{Fits, IsLimit}

-- The places of the first cut come before those of the second, or they are the same and the first is replicated only where the second is.
abbrev pub NoLater : List Stretch → List Stretch → Type 0
NoLater [] [] = Unit {0}
NoLater [] (o ∷ os) = ⊥
NoLater (g ∷ gs) [] = ⊥
NoLater (g ∷ []) (o ∷ []) = (g.units ≡ o.units) × (g.replicated ≡ true → o.replicated ≡ true)
NoLater (g ∷ []) (o ∷ p ∷ os) = Unit {0}
NoLater (g ∷ h ∷ gs) (o ∷ []) = ⊥
NoLater (g ∷ h ∷ gs) (o ∷ p ∷ os) = (g.units < o.units) ⊎ ((g.units ≡ o.units) × (g.replicated ≡ true → o.replicated ≡ true) × NoLater (h ∷ gs) (p ∷ os))

-- a stage of the units from `begin` up to `end` is allowed and keeps the bound
pub record MayStand (weights : List ℕ) (carried : List (ℕ × ℕ)) (workers bound : ℕ) (closed : Bool) (begin end : ℕ) (replicated : Bool) : Type 0 where
  pub some : begin < end
  pub within : end ≤ length weights
  pub may : replicated ≡ true → (closed ≡ false) × IsClear carried begin end
  pub cheap : cost_of workers (weight_between weights begin end) replicated ≤ bound

-- the cut keeps the bound, and none that does is before it
pub record Best (weights : List ℕ) (carried : List (ℕ × ℕ)) (workers bound most : ℕ) (closed : Bool) (begin : ℕ) (cut : List Stretch) : Type 0 where
  pub stages : AreStages carried (length weights) closed begin cut
  pub few : length cut ≤ most
  pub cheap : bottleneck weights workers begin cut ≤ bound
  pub first : (other : List Stretch) → AreStages carried (length weights) closed begin other → length other ≤ most →
      bottleneck weights workers begin other ≤ bound → NoLater cut other

-- what the weights, the limits and the workers are like
pub record AreCosts (weights limits : List ℕ) (workers : ℕ) : Type 0 where
  pub count : length weights < 2 ^ 32
  pub total : sum weights < 2 ^ 63
  pub limited : length limits ≡ length weights
  pub some : 0 < workers
  pub few : workers < 9

-- each limit is that of its unit
abbrev pub AreLimits : List (ℕ × ℕ) → List ℕ → Type 0
AreLimits carried limits = (begin : ℕ) → begin < length limits → IsLimit carried (length limits) begin (slice_index limits begin)

-- a stage of the units from `begin` up to `end` keeps the bound: a replicated one isn't behind a closed place, and ends at the limit or before
pub record Stands (weights limits : List ℕ) (workers bound : ℕ) (closed : Bool) (begin end : ℕ) (replicated : Bool) : Type 0 where
  pub may : replicated ≡ true → (closed ≡ false) × (end ≤ slice_index limits begin)
  pub cheap : cost_of workers (weight_between weights begin end) replicated ≤ bound

-- a first stage with an end of at most `last` fits, and what follows needs less than so many stages
pub record HasFirst (weights limits : List ℕ) (workers bound : ℕ) (after_seq after_par : List ℕ) (closed : Bool) (begin last most : ℕ) : Type 0 where
  pub end : ℕ
  pub replicated : Bool
  pub some : begin < end
  pub within : end ≤ last
  pub stand : Stands weights limits workers bound closed begin end replicated
  pub rest : (if replicated then slice_index after_par end else slice_index after_seq end) < most

-- The stage is a good beginning: with the best of what follows it makes the best, and what follows fits.
pub record IsBeginning (weights : List ℕ) (carried : List (ℕ × ℕ)) (workers bound left : ℕ) (closed : Bool) (begin : ℕ) (s : Stretch) : Type 0 where
  pub rest : Fits weights carried workers bound left s.replicated (begin + s.units)
  pub best : (cut : List Stretch) → Best weights carried workers bound left s.replicated (begin + s.units) cut →
      Best weights carried workers bound (left + 1) closed begin (s ∷ cut)
