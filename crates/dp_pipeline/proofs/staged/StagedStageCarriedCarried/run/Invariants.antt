use Rattle.dp_pipeline.proofs.staged.StagedStageCarriedCarried.run.Given as goal

abbrev pub invariant-loop-place : goal.invariant-loop-place
invariant-loop-place g l = Unit {0}
