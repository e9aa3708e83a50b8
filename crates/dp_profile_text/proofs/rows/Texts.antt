-- Profiles of the test programs as they are written, and texts.
use Rattle.std.proofs.Common.{◌≡◌, refl, [], codes}
use Rattle.dp_tree.proofs.Build.{tree_opened}
use Rattle.dp_tree.proofs.Programs.{empty_program, sum_loop, skip_negative}
use Rattle.dp_profile_text.specs.WrittenText.{profile_text}
use Rattle.dp_profile.proofs.rows.Observations.{two_loops, two_loops_shown}
use Rattle.dp_profile.proofs.rows.Profiles.{sum_loop_shown, skip_negative_shown}

without_region : profile_text empty_program (record { regions = [] }) ≡ codes "profile 1\nend\n"
unfolding tree_opened Rattle.std.specs.Fmt.digits
without_region = refl

straight_loop : profile_text sum_loop sum_loop_shown
    ≡ codes "profile 1\nregion 1\nruns 2 4 3\nruns 3 3 0\nruns 4 3 0\nruns 5 3 0\nflow 3 3 carried 2\nflow 3 4 intra 3\nflow 5 2 carried 3\nflow 5 3 carried 2\nflow 5 5 carried 2\nend\n"
unfolding tree_opened Rattle.std.specs.Fmt.digits
straight_loop = refl

branch_not_taken : profile_text skip_negative skip_negative_shown
    ≡ codes "profile 1\nregion 1\nruns 2 4 3\nruns 3 3 0\nruns 4 3 0\nruns 5 0 0\nruns 6 3 0\nruns 7 3 0\nflow 3 4 intra 3\nflow 3 7 intra 3\nflow 6 2 carried 3\nflow 6 3 carried 2\nflow 6 6 carried 2\nflow 7 7 carried 2\nend\n"
unfolding tree_opened Rattle.std.specs.Fmt.digits
branch_not_taken = refl

two_regions : profile_text two_loops two_loops_shown ≡ codes
    "profile 1\nregion 1\nruns 2 2 1\nruns 3 1 0\nflow 3 2 carried 1\nregion 2\nruns 5 2 1\nruns 6 1 0\nflow 6 5 carried 1\nend\n"
unfolding tree_opened Rattle.std.specs.Fmt.digits
two_regions = refl
