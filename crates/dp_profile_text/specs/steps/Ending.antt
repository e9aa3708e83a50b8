-- How the reading of a text ends.
use Rattle.std.specs.Prelude.{Result, Ok, Err}
use Rattle.dp_text.specs.declared.lines.Reading.{Reading}
use Rattle.dp_text.specs.declared.lines.Reading.TheVariants as reading
use Rattle.dp_profile.specs.declared.Profile.{Profile}
use Rattle.dp_profile_text.specs.declared.ProfileFail.{ProfileFail}
use Rattle.dp_profile_text.specs.declared.ProfileFail.TheVariants.{Refused}
use Rattle.dp_profile_text.specs.declared.reader.Reader.{Reader}

-- the profile, where the text is over; else its refusal
abbrev pub finished : Reading Reader → Result Profile ProfileFail
finished (reading.Over s) = Ok (record { regions = s.done })
finished (reading.Refused line) = Err (Refused line)
