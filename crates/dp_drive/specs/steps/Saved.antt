-- The exit status of a run that was to be saved.
use Rattle.std.specs.Prelude.{ℕ}
use Rattle.dp_refusal.specs.Refusal.{exit_status}
use Rattle.dp_resume.specs.declared.save.SaveEnd.{SaveEnd}
use Rattle.dp_resume.specs.declared.save.SaveEnd.TheVariants.{Saved, Ran}

-- 0 where it was saved, and else the status of the run's end
abbrev pub status_at : SaveEnd → ℕ
status_at Saved = 0
status_at (Ran end) = exit_status end
