-- The run that values name, and the place where it is to be saved.
use Rattle.std.specs.Prelude.{◌≡◌, ◌≤◌, Some, codes}
use Rattle.std.specs.Option.{option_map}
use Rattle.dp_base.specs.declared.limits.TheConstants.{FUEL}
use Rattle.dp_words.specs.declared.task.TheConstants.{REGION}
use Rattle.dp_words.specs.declared.task.Place.{Place}
use Rattle.dp_words.specs.Values.{Values, number_in}
use Rattle.dp_words.specs.Run.{RunAsked, ShowsRun}

-- the values are those of this run, and of this place in it
pub record ShowsSaving (value : Values) (saving : RunAsked × Place) : Type 0 where
  pub run : ShowsRun value saving.0
  pub region : option_map number_in (value (codes "region")) ≡ Some saving.1.region
  pub after : option_map number_in (value (codes "after")) ≡ Some saving.1.after

-- the place's numbers are within their limits
pub record PlaceWithin (place : Place) : Type 0 where
  pub some_region : 1 ≤ place.region
  pub known_region : place.region ≤ REGION
  pub few_iterations : place.after ≤ FUEL
