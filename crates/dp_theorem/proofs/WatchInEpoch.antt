-- The walk at an iteration of an epoch whose earlier iterations are clean.
use Rattle.dp_semantics.proofs.Names.{◌≡◌, arith, ℕ, zero, suc, ◌+◌, List, [], length, ℤ, Stmt, Event, Epoch}
use Rattle.std.specs.Option.{option_or}
use Rattle.dp_semantics.specs.Cause.{first_cause}
use Rattle.dp_theorem.proofs.Lockstep.{Goes}
use Rattle.dp_theorem.proofs.Whole.{turn_of}
use Rattle.dp_theorem.proofs.Epochs.{History, numbered, past_at, Gone, ready}
use Rattle.dp_semantics.specs.CauseWalk.{Watch, cause_walk, watched_all, next_watch, first_watch}
use Rattle.dp_theorem.proofs.Watching.{Watches, walk_is}
use Rattle.dp_theorem.proofs.Onward.{watches_first, watches_onward}

module _ {k : Epoch} (h : History k) where
  open k use {program, plan, input, base}
  open h use {ok, memory, events}

  -- the memories before the n-th iteration
  abbrev pub watch_at : ℕ → Watch
  watch_at zero = first_watch plan base
  watch_at (suc n) = next_watch program plan (watched_all program plan (events n) (watch_at n))

  pub watches_at : (n : ℕ) → Gone h n → Watches ok (numbered h.first n) (past_at h.first events n) [] (watch_at n)
  watches_at zero gone = watches_first ok h.first h.base_size
  watches_at (suc n) gone =
      let before : Gone h n = λ m l. gone m (omega (arith, l)) in
      let here = ready h n before in
      let there = ready h (suc n) gone in
      let walked = walk_is ok (numbered h.first n) 0 [] (watch_at n) here.at (gone n (omega arith)).makes.path (watches_at n before) in
      watches_onward ok (numbered h.first n) (past_at h.first events (suc n)) _ (watched_all program plan (events n) (watch_at n)) h.clean_base
      there.before walked.watches

  -- The walk from there finds the first of the iteration's events that fails, and else what follows them.
  pub cause_is : (n m : ℕ) (made : List Event) (after : List Stmt) (then_cells : List ℤ) → Gone h n →
      Goes program input (turn_of ok.accepted) (memory n) made after then_cells →
      cause_walk program plan input (length made + m) (watch_at n) (turn_of ok.accepted) (memory n) ≡
      option_or (first_cause program plan base (numbered h.first n) (past_at h.first events n) [] made)
      (cause_walk program plan input m (watched_all program plan made (watch_at n)) after then_cells)
  cause_is n m made after then_cells gone path =
      (walk_is ok (numbered h.first n) m [] (watch_at n) (ready h n gone).at path (watches_at n gone)).is
