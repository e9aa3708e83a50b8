use Rattle.dp_load.proofs.accepted.ReadStarts.{run_starts_clear}
use Rattle.dp_load.proofs.law.read_programs_start_clear.Goals as goal

pub returns : goal.returns
returns c = record { starts = run_starts_clear c.args.text.now }
