-- All that a plan rests on which was made by a profile.
use Rattle.std.proofs.Common.{◌≡◌, refl, true, false, [], ◌∷◌, Some, codes}
use Rattle.dp_text.specs.Labels.{labelled}
use Rattle.dp_tree.proofs.Programs.{sum_loop}
use Rattle.dp_plan.specs.declared.Plan.{Plan}
use Rattle.dp_plan.specs.declared.StageKind.TheVariants.{Seq, Par}
use Rattle.dp_units.specs.declared.classes.Units.{Units}
use Rattle.dp_depend.proofs.rows.Graphs.{edges_opened}
use Rattle.dp_depend.proofs.rows.Programs.{sum_loop_shown}
use Rattle.dp_explain.specs.Reasons.{reason_text}

abbrev each_alone : Units
each_alone = record { place_of = 0 ∷ 1 ∷ 2 ∷ 3 ∷ []; order = 0 ∷ 1 ∷ 2 ∷ 3 ∷ [] }

abbrev in_three : Plan
in_three = record {
  region = 1;
  words = 4096;
  stages = Seq ∷ Seq ∷ Par ∷ [];
  stage_of = 1 ∷ 2 ∷ 3 ∷ 3 ∷ [];
  assume = [];
  proved = true;
  checked_at = true ∷ true ∷ false ∷ true ∷ [];
}

-- at this rate no flow is minded
whole : reason_text sum_loop (Some sum_loop_shown) 1000 each_alone in_three
    ≡ codes "region 1\nedge 2 3 control\nedge 2 4 control\nedge 2 5 control\nedge 3 3 carried 0 \nedge 3 4 intra 0 \nedge 3 4 carried 0 \nedge 5 2 carried 1 \nedge 5 3 carried 1 \nedge 5 5 carried 1 \nchecked 2\nchecked 3\nchecked 5\nminded 2 3 control\nminded 2 4 control\nminded 2 5 control\nunit 4 2\nunit 3 3\nunit 3 4\nunit 3 5\ncompared 2 5 1 \ncompared 3 5 1 \ncompared 5 5 1 \nforward 1 2 3 control\nforward 1 2 4 control\nforward 1 2 5 control\nforward 2 2 4 control\nforward 2 2 5 control\nruns 2 4 3\nruns 3 3 0\nruns 4 3 0\nruns 5 3 0\nflow 3 3 carried 2\nflow 3 4 intra 3\nflow 5 2 carried 3\nflow 5 3 carried 2\nflow 5 5 carried 2\n"
unfolding edges_opened labelled Rattle.dp_profile_text.specs.WrittenText.profile_line_text Rattle.std.specs.Fmt.digits
whole = refl
