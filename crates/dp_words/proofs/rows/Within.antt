-- The limits that no function above asks for.
use Rattle.std.proofs.Common.{◌≤◌}
use Rattle.dp_words.specs.declared.task.PlanOptions.{PlanOptions}
use Rattle.dp_words.specs.declared.task.Place.{Place}
use Rattle.dp_words.specs.declared.task.ProfileWords.{ProfileWords}
use Rattle.dp_words.specs.declared.task.RunWords.{RunWords}
use Rattle.dp_words.specs.declared.task.Task.TheVariants as task
use Rattle.dp_words.specs.Values.{OptionsWithin}
use Rattle.dp_words.specs.Words.{IsWithin}

rate : (options : PlanOptions) → OptionsWithin options → options.rate ≤ 1000
rate options within = within.rare

profile_fuel : (profile : ProfileWords) → IsWithin (task.Profile profile) → profile.fuel ≤ 1000000000
profile_fuel profile within = within

saving : (run : RunWords) (place : Place) → IsWithin (task.Save run place) → (1 ≤ place.region) × (place.region ≤ 4294967295) × (place.after ≤ 1000000000)
saving run place within = (within.1.some_region, within.1.known_region, within.1.few_iterations)
