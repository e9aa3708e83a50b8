-- The text that explains plans.
use Rattle.std.specs.Prelude.{ℕ, ◌≡◌, List, [], ◌∷◌, ◌++◌, codes, Option}
use Rattle.dp_tree.specs.declared.Program.{Program}
use Rattle.dp_plan.specs.declared.Plan.{Plan}
use Rattle.dp_plan_text.specs.WrittenText.{plans_text}
use Rattle.dp_profile.specs.declared.Profile.{Profile}
use Rattle.dp_units.specs.declared.classes.Units.{Units}
use Rattle.dp_explain.specs.Reasons.{AreUnits, reason_text}

-- what each of these plans rests on, in order; a region has its units in one order
pub data Reasons (p : Program) (profile : Option Profile) (rate : ℕ) : List Plan → List ℕ → Type 0 where
  none : Reasons p profile rate [] []
  more : (plan : Plan) (rest : List Plan) (units : Units) (later : List ℕ) → AreUnits p plan.region profile rate units → Reasons p profile rate rest later →
      Reasons p profile rate (plan ∷ rest) (reason_text p profile rate units plan ++ later)

-- the text of the plans, and behind it what each rests on, made by this profile, if there is one, at this rate
pub record IsExplanation (p : Program) (profile : Option Profile) (rate : ℕ) (plans : List Plan) (text : List ℕ) : Type 0 where
  pub reasons : List ℕ
  pub are : Reasons p profile rate plans reasons
  pub is : text ≡ plans_text p plans ++ (reasons ++ codes "end\n")
