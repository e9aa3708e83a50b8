use Rattle.dp_columns.proofs.QueueLists.{told_held, loads_held}
use Rattle.dp_columns.proofs.law.columns_hold_the_queues.Goals as goal

pub returns : goal.returns
returns c = λ first is_kept is_compared items from k y le. (
  λ kept queue at. told_held first is_kept is_compared y le kept items from k queue at,
  λ compared queue before loads loading. loads_held first is_kept is_compared y le compared items from k queue before (loads, loading),
)
