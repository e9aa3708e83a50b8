-- Plans of the test programs as they are written.
use Rattle.std.proofs.Common.{◌≡◌, refl, [], ◌∷◌, codes, arith}
use Rattle.dp_tree.proofs.Build.{tree_opened}
use Rattle.dp_tree.proofs.Programs.{empty_program, stale_read, skip_negative, histogram, stale_step}
use Rattle.dp_plan_text.specs.WrittenText.{plans_text}
use Rattle.dp_plan.specs.GivenPlans.{ArePlans}
use Rattle.dp_plan.proofs.Plans.{proved, stale_read_plan, skip_negative_plan, histogram_plan, stale_step_plan}

without_region : plans_text empty_program [] ≡ codes "plan 2\nend\n"
unfolding Rattle.std.specs.Fmt.digits
without_region = refl

two_stages : plans_text stale_read (stale_read_plan ∷ []) ≡ codes "plan 1\nregion 1 words 4096\nseq 2 3 4\nseq 5\nend\n"
unfolding tree_opened Rattle.std.specs.Fmt.digits
two_stages = refl

with_assumption : plans_text skip_negative (skip_negative_plan ∷ []) ≡ codes "plan 1\nregion 1 words 4096\nseq 2 5 6\nseq 3 4 7\nassume 4 0\nend\n"
unfolding tree_opened Rattle.std.specs.Fmt.digits
with_assumption = refl

with_replicated_stage : plans_text histogram (histogram_plan ∷ []) ≡ codes "plan 1\nregion 1 words 4096\nseq 2 3 4\npar 5\nseq 6\nend\n"
unfolding tree_opened Rattle.std.specs.Fmt.digits
with_replicated_stage = refl

in_version_two : plans_text stale_read (proved stale_read_plan ∷ []) ≡ codes "plan 2\nregion 1 words 4096\nseq 2 3 4\nseq 5\nend\n"
unfolding tree_opened Rattle.std.specs.Fmt.digits
in_version_two = refl

few_words : plans_text stale_step (stale_step_plan 64 ∷ []) ≡ codes "plan 1\nregion 1 words 64\nseq 2 3 4 5 8\nseq 6 7\nend\n"
unfolding tree_opened Rattle.std.specs.Fmt.digits
few_words = refl

-- a plan that is given
given : ArePlans skip_negative (skip_negative_plan ∷ [])
unfolding tree_opened
given = record {
  regions = refl;
  each = (
    record {
      least_words = omega arith;
      most_words = omega arith;
      some_stage = omega arith;
      few_stages = omega arith;
      filled = (refl, (refl, tt));
      staged = refl;
      valid = refl;
      assume = (omega arith, omega arith, tt);
      table = refl;
    },
    tt,
  );
  version = (refl, tt);
}
