-- What is so of verdicts on a batch where others are added.
use Rattle.std.specs.Prelude.{◌≡◌, ◌++◌, not, Bool, ℕ, List, [], ◌∷◌, length, sum_by}
use Rattle.std.specs.List.{list_all}
use Rattle.dp_lean_judge.specs.Collecting.{Grows}
use Rattle.dp_judge.specs.declared.verdict.Verdict.TheVariants as verdict
use Rattle.dp_judge.specs.Decided.{cleans}
use Rattle.dp_judge.specs.declared.told.Begun.{Begun}
use Rattle.dp_judge.specs.declared.told.Part.{Part}
use Rattle.dp_judge.specs.declared.told.ToldBatch.{ToldBatch}

-- None was given yet, and each store and print is a part's.
pub record IsUngiven (t : ToldBatch) : Type 0 where
  pub given : t.given ≡ 0
  pub stores_given : t.stores_given ≡ 0
  pub prints_given : t.prints_given ≡ 0
  pub stores : sum_by (λ (p : Part). p.stores) t.parts ≡ length t.collected.stores
  pub prints : sum_by (λ (p : Part). p.prints) t.parts ≡ length t.collected.prints

-- the stores and prints of the next part begin there
abbrev pub begun_of : ToldBatch → Begun
begun_of t = record { stores = length t.collected.stores; prints = length t.collected.prints }

-- Nothing is told more, but there may be stores and prints more, behind those of the parts.
pub record GrownTo (t u : ToldBatch) : Type 0 where
  pub given : u.given ≡ t.given
  pub stores_given : u.stores_given ≡ t.stores_given
  pub prints_given : u.prints_given ≡ t.prints_given
  pub parts : u.parts ≡ t.parts
  pub grows : Grows t.collected u.collected

-- What has come behind the parts is told as a clean iteration.
pub record AddedTo (t u : ToldBatch) (grown : GrownTo t u) (steps : ℕ) (closing : Bool) (new : ToldBatch) : Type 0 where
  pub ungiven : IsUngiven new
  pub told : cleans new
      ≡ cleans t ++ verdict.Clean (record { stores = grown.grows.more; prints = grown.grows.others; steps = steps; closing = closing }) ∷ []

-- none of these leaves the region
abbrev pub none_closing : List Part → Bool
none_closing parts = list_all (λ (p : Part). not p.closing) parts
