-- What the headline counts as an end.
use Rattle.std.proofs.Common.{refl, inl, inr}
use Rattle.dp_base.specs.declared.End.{End}
use Rattle.dp_base.specs.declared.End.TheVariants.{Done, Fault, Fuel}
use Rattle.dp_drive.specs.Headline.{IsEnd}
use Rattle.dp_refusal.specs.Refusal.{exit_status}

-- each run's end is one
each_end : (end : End) → IsEnd (exit_status end)
each_end Done = inl refl
each_end (Fault fault) = inr (inl refl)
each_end Fuel = inr (inr refl)
