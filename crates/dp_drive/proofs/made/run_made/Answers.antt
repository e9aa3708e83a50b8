use Rattle.dp_drive.specs.Made.{made_line}
use Rattle.dp_drive.proofs.MadeLemmas.{finishes_behind, finishes_stopped, stopped_counts}
use Rattle.dp_drive.proofs.made.run_made.Goals as goal

pub returns-in_err-write_line-clause-runs : goal.returns-in_err-write_line-clause-runs
returns-in_err-write_line-clause-runs g c = record {
  finishes = finishes_stopped (made_line c.args.words) _ _ _ _ _ c.from_residual.ensures.0 c.in_err-write_line.ensures.err;
  counted = stopped_counts _ _ c.from_residual.ensures.0;
}

pub returns-clause-runs : goal.returns-clause-runs
returns-clause-runs g c = record {
  finishes = finishes_behind (made_line c.args.words) _ _ _ _ _ _ c.in_ok-write_line.ensures.ok c.run_to_end.ensures.runs.finishes;
  counted = c.run_to_end.ensures.runs.counted;
}
