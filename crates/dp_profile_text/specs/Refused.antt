-- Texts that aren't in the grammar, with the line at which they are refused; and what a text is read as.
use Rattle.std.specs.Prelude.{◌≡◌, ℕ, ◌⊎◌, List, Result, Ok, Err}
use Rattle.dp_tree.specs.declared.Program.{Program}
use Rattle.dp_text.specs.Lines.{lines_of}
use Rattle.dp_text.specs.Refused.{IsRefusedAt}
use Rattle.dp_profile.specs.declared.Profile.{Profile}
use Rattle.dp_profile_text.specs.declared.ProfileFail.{ProfileFail}
use Rattle.dp_profile_text.specs.declared.ProfileFail.TheVariants.{Refused, NoMemory}
use Rattle.dp_profile_text.specs.ProfileText.{ProfileLines, ProfileText}

-- these are the lines of a text of a profile
abbrev pub IsProfileText : Program → List (List ℕ) → Type 0
IsProfileText p lines = (profile : Profile) × ProfileLines p lines profile

-- the text isn't in the grammar, from this line on
abbrev pub IsRefusedProfile : Program → List ℕ → ℕ → Type 0
IsRefusedProfile p bytes line = IsRefusedAt (IsProfileText p) (lines_of bytes) line

-- what a text is read as; want of memory may come at any place
abbrev pub ReadsAsProfile : Program → List ℕ → Result Profile ProfileFail → Type 0
ReadsAsProfile p bytes (Ok profile) = ProfileText p bytes profile
ReadsAsProfile p bytes (Err (Refused line)) = IsRefusedProfile p bytes line
ReadsAsProfile p bytes (Err NoMemory) = Unit {0}

-- reading the text gives this profile and nothing else, unless memory is wanting
abbrev pub ReadsOnlyProfile : Program → List ℕ → Profile → Type 0
ReadsOnlyProfile p bytes profile = (result : Result Profile ProfileFail) → ReadsAsProfile p bytes result → (result ≡ Ok profile) ⊎ (result ≡ Err NoMemory)
