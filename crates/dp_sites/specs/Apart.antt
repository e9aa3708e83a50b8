-- Which stores of a region lie apart from what its sites load, as a table of its sites tells.
use Rattle.std.specs.Prelude.{ℕ, ◌≡◌, ◌-◌, Bool, true, false, [], Option, Some, None, slice_get}
use Rattle.dp_tree.specs.declared.Program.{Program}
use Rattle.dp_plan.specs.declared.Plan.{Plan}
use Rattle.dp_sites.specs.declared.place.Gap.{Gap}
use Rattle.dp_sites.specs.declared.place.Gap.TheVariants.{Strides, Whole}
pub use Rattle.dp_sites.specs.declared.apart.Apart.{Apart}
use Rattle.dp_plan.specs.Written.{has, region_sites}
use Rattle.dp_plan.specs.IsFar.{is_far, is_far_within}
use Rattle.dp_sites.specs.steps.Parts.{Part}
use Rattle.dp_sites.specs.Storings.{Storing, lies_apart}

-- the plan of region r that says nothing but that accesses which are known to lie apart aren't checked
abbrev pub bare_plan : ℕ → Plan
bare_plan r = record { region = r; words = 0; stages = []; stage_of = []; assume = []; proved = true; checked_at = [] }

-- what the one stores, if anything, passes the test against what the other loads
abbrev pub passes_or : Gap → Part → Option Storing → Bool
passes_or test u None = false
passes_or test u (Some d) = lies_apart test u d

abbrev pub store_apart_at : Gap → Part → Option (Option Storing) → Bool
store_apart_at test u None = false
store_apart_at test u (Some d) = passes_or test u d

abbrev pub loaded_at : Gap → Option Part → Option (Option Storing) → Bool
loaded_at test None d = false
loaded_at test (Some u) d = store_apart_at test u d

-- what the table tells of the store at d and the loads at u
abbrev pub tells : Gap → Apart → ℕ → ℕ → Bool
tells test t d u = loaded_at test (slice_get t.parts (u - t.first)) (slice_get t.stores (d - t.first))

-- the table is right about the sites of region r
abbrev pub TellsApart : Program → ℕ → Apart → Type 0
TellsApart p r t =
    (d u : ℕ) → has d (region_sites p r) ≡ true → has u (region_sites p r) ≡ true → (tells Strides t d u ≡ is_far p r d u)
    × (tells Whole t d u ≡ is_far_within p r d u)
