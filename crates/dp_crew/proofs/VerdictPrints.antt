-- What is written of the prints that wait behind a verdict.
use Rattle.std.proofs.Common.{sym, subst, ℕ, List, ℤ, Option}
use Rattle.dp_edge.specs.Writing.{WritesFront}
use Rattle.dp_report.specs.PrintsText.{prints_bytes}
use Rattle.dp_semantics.specs.EpochKey.{EpochKey}
use Rattle.dp_meaning.specs.MachineState.{MachineState}
use Rattle.dp_epoch.specs.declared.ledger.Ledger.{Ledger}
use Rattle.dp_epoch.specs.declared.taken.Taken.{Taken}
use Rattle.dp_epoch.specs.declared.taken.Taken.TheVariants.{Committed, Closed, Unclean}
use Rattle.dp_epoch.specs.InEpoch.{InEpoch}
use Rattle.dp_epoch.specs.Prints.{prints_from, prints_to_come}
use Rattle.dp_epoch.specs.Taken.{TakesVerdict, left_behind_it}
use Rattle.dp_crew.specs.Output.{Emits}
use Rattle.dp_crew.proofs.StreamLemmas.{emits_ahead, front_ahead}

module _ (key : EpochKey) (n : ℕ) (first : MachineState) (old new : Ledger) (taken : Taken) (tally tally_now : ℕ)
    (t : TakesVerdict key n old new taken tally tally_now) (e : InEpoch key n first old.committed old.account) (told tells : Option (List ℕ)) where
  pub emits_taken : (after : List ℤ) → Emits new.waiting after told tells → Emits (prints_to_come key.plan first old.waiting old.committed.count)
      (left_behind_it key.plan first after new.committed.count taken) told tells
  emits_taken after w =
      subst (λ (xs : List ℤ). Emits xs (left_behind_it key.plan first after new.committed.count taken) told tells) (sym (t.ahead first e)) (by taken)
    where
      by : (s : Taken) → Emits (left_behind_it key.plan first new.waiting new.committed.count s)
          (left_behind_it key.plan first after new.committed.count s) told tells
      by Committed = emits_ahead new.waiting after (prints_from key.plan first new.committed.count) told tells w
      by Closed = w
      by Unclean = emits_ahead new.waiting after (prints_from key.plan first new.committed.count) told tells w

  pub front_of_taken : WritesFront (prints_bytes new.waiting) told tells →
      WritesFront (prints_bytes (prints_to_come key.plan first old.waiting old.committed.count)) told tells
  front_of_taken w = subst (λ (xs : List ℤ). WritesFront (prints_bytes xs) told tells) (sym (t.ahead first e)) (by taken)
    where
      by : (s : Taken) → WritesFront (prints_bytes (left_behind_it key.plan first new.waiting new.committed.count s)) told tells
      by Committed = front_ahead new.waiting (prints_from key.plan first new.committed.count) told tells w
      by Closed = w
      by Unclean = front_ahead new.waiting (prints_from key.plan first new.committed.count) told tells w
