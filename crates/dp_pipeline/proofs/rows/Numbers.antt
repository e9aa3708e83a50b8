-- How many units an epoch has, written out.
use Rattle.std.proofs.Common.{◌≡◌, refl, false, [], ◌∷◌}
use Rattle.dp_plan.specs.declared.StageKind.TheVariants.{Seq, Par}
use Rattle.dp_pipeline.specs.UnitCount.{unit_count}

-- a unit a stage, or its workers, and the judge's
units_of_four_stages : unit_count 4
    (record { region = 1; words = 64; stages = Seq ∷ Par ∷ Seq ∷ Par ∷ []; stage_of = []; assume = []; proved = false; checked_at = [] }) ≡ 11
units_of_four_stages = refl
