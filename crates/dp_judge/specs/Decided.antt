-- What is decided of the iterations of a batch, one by one.
use Rattle.std.specs.Prelude.{◌≡◌, Bool, true, false, ℕ, List, [], ◌∷◌, ◌++◌, ℤ, take, drop}
use Rattle.dp_base.specs.declared.StoreOf.{StoreOf}
use Rattle.dp_semantics.specs.EpochVerdicts.{Carried}
use Rattle.dp_judge.specs.declared.verdict.Verdict.{Verdict}
use Rattle.dp_judge.specs.declared.verdict.Verdict.TheVariants.{Clean, Unclean, NoMemory}
use Rattle.dp_judge.specs.declared.told.Last.{Last}
use Rattle.dp_judge.specs.declared.told.Last.TheVariants as given
use Rattle.dp_judge.specs.declared.told.Part.{Part}
use Rattle.dp_judge.specs.declared.told.ToldEnd.{ToldEnd}
use Rattle.dp_judge.specs.declared.told.ToldEnd.TheVariants as ends
use Rattle.dp_judge.specs.declared.told.ToldBatch.{ToldBatch}

-- the clean iterations of these parts, each of which has the first of the stores and prints that are left; what stands behind is none's
abbrev pub cleans_from : List Part → List StoreOf → List ℤ → List Verdict
cleans_from [] stores prints = []
cleans_from (p ∷ rest) stores prints =
    Clean (record { stores = take p.stores stores; prints = take p.prints prints; steps = p.steps; closing = p.closing })
    ∷ cleans_from rest (drop p.stores stores) (drop p.prints prints)

-- what stands behind those that are clean
abbrev pub end_verdicts : ToldEnd → List Verdict
end_verdicts ends.Over = []
end_verdicts ends.Unclean = Unclean ∷ []
end_verdicts ends.NoMemory = NoMemory ∷ []

-- what is carried of the iteration of this part, where its stores and prints begin there
abbrev pub carried_by : Part → ℕ → ℕ → List StoreOf → List ℤ → Carried
carried_by p from from_prints stores prints =
    record { stores = take p.stores (drop from stores); prints = take p.prints (drop from_prints prints); steps = p.steps; closing = p.closing }

-- the verdict that was given so
abbrev pub verdict_of : Last → List StoreOf → List ℤ → Verdict
verdict_of (given.Clean p from from_prints) stores prints = Clean (carried_by p from from_prints stores prints)
verdict_of given.Unclean stores prints = Unclean
verdict_of given.NoMemory stores prints = NoMemory

module _ (t : ToldBatch) where
  -- the clean iterations that weren't given yet
  abbrev pub cleans : List Verdict
  cleans = cleans_from (drop t.given t.parts) (drop t.stores_given t.collected.stores) (drop t.prints_given t.collected.prints)

  -- all verdicts that weren't given yet
  abbrev pub left_to_give : List Verdict
  left_to_give = cleans ++ end_verdicts t.end

  -- the verdict that was given last
  abbrev pub last_given : Verdict
  last_given = verdict_of t.last t.collected.stores t.collected.prints

-- Whether a further verdict is given: it is the next one then, and those behind it are left. Else none is left, and the last one stays.
abbrev pub GivesNext : Bool → ToldBatch → ToldBatch → Type 0
GivesNext true old new = left_to_give old ≡ last_given new ∷ left_to_give new
GivesNext false old new = (left_to_give old ≡ []) × (left_to_give new ≡ []) × (last_given new ≡ last_given old)
