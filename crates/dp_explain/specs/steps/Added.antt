-- What a plan rests on, added to a text.
use Rattle.std.specs.Prelude.{ℕ, ◌≡◌, List, ◌++◌, Option}
use Rattle.dp_tree.specs.declared.Program.{Program}
use Rattle.dp_plan.specs.declared.Plan.{Plan}
use Rattle.dp_profile.specs.declared.Profile.{Profile}
use Rattle.dp_units.specs.declared.classes.Units.{Units}
use Rattle.dp_explain.specs.Reasons.{AreUnits, reason_text}

-- the text goes on by what the plan rests on
pub record IsAdded (p : Program) (profile : Option Profile) (rate : ℕ) (plan : Plan) (before after : List ℕ) : Type 0 where
  pub units : Units
  pub are : AreUnits p plan.region profile rate units
  pub text : after ≡ before ++ reason_text p profile rate units plan
