-- Short forms for profiles, and those of test programs.
use Rattle.std.proofs.Common.{ℕ, Bool, true, false, List, [], ◌∷◌}
use Rattle.dp_profile.specs.declared.Profile.{Profile}
use Rattle.dp_profile.specs.declared.SiteCount.{SiteCount}
use Rattle.dp_profile.specs.declared.Flow.{Flow}

abbrev pub count : ℕ → ℕ → SiteCount
count runs nonzero = record { runs = runs; nonzero = nonzero }

abbrev pub flow : ℕ → ℕ → Bool → ℕ → Flow
flow from to carried shown = record { from = record { 0 = from }; to = record { 0 = to }; carried = carried; shown = shown }

abbrev pub profile : List SiteCount → List Flow → Profile
profile sites flows = record { regions = record { sites = sites; flows = flows } ∷ [] }

-- what a run of `sum_loop` shows
abbrev pub sum_loop_shown : Profile
sum_loop_shown = profile (count 4 3 ∷ count 3 0 ∷ count 3 0 ∷ count 3 0 ∷ [])
    (flow 3 3 true 2 ∷ flow 3 4 false 3 ∷ flow 5 2 true 3 ∷ flow 5 3 true 2 ∷ flow 5 5 true 2 ∷ [])

-- what a run of `skip_negative` with the input 5 6 7 shows
abbrev pub skip_negative_shown : Profile
skip_negative_shown = profile (count 4 3 ∷ count 3 0 ∷ count 3 0 ∷ count 0 0 ∷ count 3 0 ∷ count 3 0 ∷ [])
    (flow 3 4 false 3 ∷ flow 3 7 false 3 ∷ flow 6 2 true 3 ∷ flow 6 3 true 2 ∷ flow 6 6 true 2 ∷ flow 7 7 true 2 ∷ [])
