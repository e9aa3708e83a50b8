-- Reports that were saved, before those of the run that goes on.
use Rattle.std.specs.Prelude.{◌+◌, ◌^◌, ◌<◌, ◌≤◌, List, [], ◌∷◌, ◌++◌, map, take, length, All}
use Rattle.dp_base.specs.declared.RegionReport.{RegionReport}
use Rattle.dp_base.specs.declared.limits.TheConstants.{LISTED}

-- a saved report that is gone on with; it keeps its own causes
abbrev pub with_behind : RegionReport → RegionReport → RegionReport
with_behind saved behind = record {
  region = saved.region;
  iterations = saved.iterations + behind.iterations;
  recovered_count = saved.recovered_count + behind.recovered_count;
  recovered = take LISTED (saved.recovered ++ map (λ i. saved.iterations + i) behind.recovered);
  causes = saved.causes;
}

-- the reports of the run, the first of which goes on with a saved one
abbrev pub first_behind : RegionReport → List RegionReport → List RegionReport
first_behind saved [] = saved ∷ []
first_behind saved (first ∷ rest) = with_behind saved first ∷ rest

-- the saved reports, of which the last is gone on with
abbrev pub merged : List RegionReport → List RegionReport → List RegionReport
merged [] told = told
merged (last ∷ []) told = first_behind last told
merged (report ∷ next ∷ rest) told = report ∷ merged (next ∷ rest) told

-- the report's numbers can be added, and no more are listed than may be
pub record IsSmall (r : RegionReport) : Type 0 where
  pub iterations : r.iterations < 2 ^ 63
  pub count : r.recovered_count < 2 ^ 63
  pub numbers : All (λ i. i < 2 ^ 63) r.recovered
  pub listed : length r.recovered ≤ LISTED
