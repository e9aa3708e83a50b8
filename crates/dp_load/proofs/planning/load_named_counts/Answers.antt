use Rattle.std.proofs.Common.{◌∙◌, ap, Ok}
use Rattle.dp_load.proofs.TextsLemmas.{given, profile_gives}
use Rattle.dp_load.proofs.planning.load_named_counts.Goals as goal

pub returns-in-Text-clause-gives : goal.returns-in-Text-clause-gives
returns-in-Text-clause-gives g c =
    (given _ _ _ (c.in_ok-profile.was ∙ ap Ok c.in-Text.is) (profile_gives _ _ _ _ _ _ _ _ c.load_profile.ensures.loads c.load_profile.ensures.faults
    c.load_profile.ensures.failed_names))

pub returns-in-Refused-clause-gives : goal.returns-in-Refused-clause-gives
returns-in-Refused-clause-gives g c =
    (given _ _ _ (c.in_ok-profile.was ∙ ap Ok c.in-Refused.is) (profile_gives _ _ _ _ _ _ _ _ c.load_profile.ensures.loads c.load_profile.ensures.faults
    c.load_profile.ensures.failed_names))

pub returns-in-Failed-clause-gives : goal.returns-in-Failed-clause-gives
returns-in-Failed-clause-gives g c =
    (given _ _ _ (c.in_ok-profile.was ∙ ap Ok c.in-Failed.is) (profile_gives _ _ _ _ _ _ _ _ c.load_profile.ensures.loads c.load_profile.ensures.faults
    c.load_profile.ensures.failed_names))
