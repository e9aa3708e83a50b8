-- Texts of plans of the test programs, and texts cut into lines.
use Rattle.std.proofs.Common.{◌≡◌, refl, true, false, [], ◌∷◌, codes, arith}
use Rattle.dp_tree.proofs.Programs.{empty_program, skip_negative, histogram}
use Rattle.dp_plan_text.specs.PlanText.{PlanText}
use Rattle.dp_text.specs.Lines.{lines_of}
use Rattle.dp_plan.proofs.Plans.{skip_negative_written, histogram_written}

-- what follows the last LF is a line too, and nothing is none
cut : lines_of (codes "plan 1\nend") ≡ codes "plan 1\n" ∷ codes "end" ∷ []
cut = refl

cut_after_the_last : lines_of (codes "plan 1\nend\n") ≡ codes "plan 1\n" ∷ codes "end\n" ∷ []
cut_after_the_last = refl

cut_empty : lines_of [] ≡ []
cut_empty = refl

without_region : PlanText empty_program (codes "plan 1\nend\n") false []
unfolding Rattle.std.specs.Fmt.digits
without_region = record { lines_are = refl; regions = refl; fit = tt }

without_region_proved : PlanText empty_program (codes "plan 2\nend\n") true []
unfolding Rattle.std.specs.Fmt.digits
without_region_proved = record { lines_are = refl; regions = refl; fit = tt }

with_assumption : PlanText skip_negative (codes "plan 1\nregion 1 words 4096\nseq 2 5 6\nseq 3 4 7\nassume 4 0\nend\n") false (skip_negative_written ∷ [])
unfolding Rattle.std.specs.Fmt.digits
with_assumption = record {
  lines_are = refl;
  regions = refl;
  fit = (
    record {
      least_words = omega arith;
      most_words = omega arith;
      some_stage = omega arith;
      few_stages = omega arith;
      stages = (
        (omega arith, (omega arith, omega arith, (omega arith, omega arith, (omega arith, omega arith, tt)))),
        ((omega arith, (omega arith, omega arith, (omega arith, omega arith, (omega arith, omega arith, tt)))), tt),
      );
      assume = ((omega arith, omega arith), tt);
    },
    tt,
  );
}

with_replicated_stage : PlanText histogram (codes "plan 2\nregion 1 words 4096\nseq 2 3 4\npar 5\nseq 6\nend\n") true (histogram_written ∷ [])
unfolding Rattle.std.specs.Fmt.digits
with_replicated_stage = record {
  lines_are = refl;
  regions = refl;
  fit = (
    record {
      least_words = omega arith;
      most_words = omega arith;
      some_stage = omega arith;
      few_stages = omega arith;
      stages = (
        (omega arith, (omega arith, omega arith, (omega arith, omega arith, (omega arith, omega arith, tt)))),
        ((omega arith, (omega arith, omega arith, tt)), ((omega arith, (omega arith, omega arith, tt)), tt)),
      );
      assume = tt;
    },
    tt,
  );
}
