-- Which cuts of a list of units into the stages of a pipeline are allowed, and what a stage costs.
-- A cut is the list of its stages. Units are numbered from 0, in their order. `carried` lists the pairs of units with a carried edge from the one to the other.
use Rattle.std.specs.Prelude.{ℕ, ◌≡◌, ◌<◌, ◌≤◌, ◌+◌, ◌-◌, ◌/◌, if◌then◌else◌, Bool, true, false, List, [], ◌∷◌, length, take, drop, sum, max, All}
use Rattle.dp_least_cut.specs.declared.Stretch.{Stretch}

-- the unit is one of those from `begin` up to `end`
abbrev pub IsBetween : ℕ → ℕ → ℕ → Type 0
IsBetween begin end unit = (begin ≤ unit) × (unit < end)

-- no carried edge has both ends among the units from `begin` up to `end`
abbrev pub IsClear : List (ℕ × ℕ) → ℕ → ℕ → Type 0
IsClear carried begin end = All (λ edge. ¬ (IsBetween begin end edge.0 × IsBetween begin end edge.1)) carried

-- The stages take the units from `begin` on to the last, each at least one. `closed` says that the stage before is replicated or that there is none:
-- a replicated stage isn't the first, has no replicated neighbour, and no carried edge has both ends in it.
abbrev pub AreStages : List (ℕ × ℕ) → ℕ → Bool → ℕ → List Stretch → Type 0
AreStages carried count closed begin [] = begin ≡ count
AreStages carried count closed begin (s ∷ rest) =
    (0 < s.units) × (s.replicated ≡ true → (closed ≡ false) × IsClear carried begin (begin + s.units))
    × AreStages carried count s.replicated (begin + s.units) rest

-- a cut of all units into at most so many stages
abbrev pub IsAllowed : List ℕ → List (ℕ × ℕ) → ℕ → List Stretch → Type 0
IsAllowed weights carried most cut = AreStages carried (length weights) true 0 cut × (length cut ≤ most)

-- the weight of the units from `begin` up to `end`
abbrev pub weight_between : List ℕ → ℕ → ℕ → ℕ
weight_between weights begin end = sum (take (end - begin) (drop begin weights))

-- what a stage of this weight costs: where it is replicated, its weight is divided by the workers, and rounded up
abbrev pub cost_of : ℕ → ℕ → Bool → ℕ
cost_of workers weight replicated = if replicated then (weight + (workers - 1)) / workers else weight

-- the largest cost of the stages, of which the first begins at `begin`
abbrev pub bottleneck : List ℕ → ℕ → ℕ → List Stretch → ℕ
bottleneck weights workers begin [] = 0
bottleneck weights workers begin (s ∷ rest) =
    max (cost_of workers (weight_between weights begin (begin + s.units)) s.replicated) (bottleneck weights workers (begin + s.units) rest)
