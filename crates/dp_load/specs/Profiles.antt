-- What the text of a profile is read as.
use Rattle.std.specs.Prelude.{ℕ, ◌+◌, ◌<◌, ◌≤◌, List, length, Result, Ok, Err}
use Rattle.dp_base.specs.declared.Quantity.TheVariants.{ProfileBytes}
use Rattle.dp_base.specs.declared.limits.TheConstants.{PROFILE_BYTES}
use Rattle.dp_tree.specs.declared.Program.{Program}
use Rattle.dp_profile.specs.declared.Profile.{Profile}
use Rattle.dp_profile_text.specs.ProfileText.{ProfileText}
use Rattle.dp_profile_text.specs.Refused.{IsRefusedProfile}
use Rattle.dp_refusal.specs.declared.refusal.Refusal.{Refusal}
use Rattle.dp_refusal.specs.declared.refusal.Refusal.TheVariants.{Limit, ProfileLine}

-- The text is read as this profile of the expanded program, or refused for the first of the causes that stands: its length, its lines.
pub data ReadsProfile (p : Program) (text : List ℕ) : Result Profile Refusal → Type 0 where
  TooLong : PROFILE_BYTES < length text → ReadsProfile p text (Err (Limit ProfileBytes (PROFILE_BYTES + 1)))
  NoProfile : (line : ℕ) → length text ≤ PROFILE_BYTES → IsRefusedProfile p text line → ReadsProfile p text (Err (ProfileLine line))
  Taken : (profile : Profile) → length text ≤ PROFILE_BYTES → ProfileText p text profile → ReadsProfile p text (Ok profile)
