-- From what a call has carried out to the headline.
use Rattle.std.proofs.Common.{◌≡◌, refl, arith, inl, inr, ℕ, ◌<◌, ◌≤◌, List, Result, Ok, Err}
use Rattle.dp_edge.specs.declared.writing.WriteFail.{WriteFail}
use Rattle.dp_edge.specs.declared.writing.WriteFail.TheVariants.{Write, NoMemory}
use Rattle.dp_edge.specs.Writing.{FaultsAfter}
use Rattle.dp_drive.specs.steps.Status.{status_after}
use Rattle.dp_drive.specs.Headline.{Answered, Drives, Outside, ReadFailed, WriteFailed, Whole, Short, Nothing, OfAnswer, OfFailedRead}
use Rattle.dp_drive.specs.steps.Carried.{Carried, Starved}
use Rattle.dp_drive.specs.steps.Carried as carried

module _ (words : List (List ℕ)) (before after : Outside) where
  abbrev Carries : Result ℕ WriteFail → Type 0
  Carries = Carried words before.contents before.failed_reads after.failed_reads before.failed_names after.failed_names before.written after.written

  abbrev Counts : Result ℕ WriteFail → Type 0
  Counts r = FaultsAfter r before.failed_writes after.failed_writes

  same_and_less : {A : Type 0} → after.failed_reads ≡ before.failed_reads → before.failed_reads < after.failed_reads → A
  same_and_less e less = absurd (omega (arith, e, less))

  answers : (r : Result ℕ WriteFail) → Carries r → Counts r → after.failed_reads ≡ before.failed_reads → after.failed_writes ≡ before.failed_writes →
      Answered words before after (status_after r)
  answers (Ok s) (carried.OfAnswer t bytes answer f g h) sink same others = rw h.0 (Whole t bytes answer h.1)
  answers (Ok s) (carried.OfFailedRead which name read less g h) sink same others = same_and_less same less
  answers (Ok s) (Starved clash f g h) sink same others = absurd (cc clash)
  answers (Err Write) carry sink same others = absurd (omega (arith, sink, others))
  answers (Err NoMemory) (carried.OfAnswer t bytes answer f g h) sink same others = Short t bytes answer h
  answers (Err NoMemory) (carried.OfFailedRead which name read less g h) sink same others = same_and_less same less
  answers (Err NoMemory) (Starved clash f g h) sink same others = Nothing h

  fails_to_read : (r : Result ℕ WriteFail) → Carries r → Counts r → before.failed_reads < after.failed_reads → after.failed_writes ≡ before.failed_writes →
      ReadFailed words before after (status_after r)
  fails_to_read r (carried.OfAnswer t bytes answer f g h) sink less others = same_and_less f less
  fails_to_read (Ok s) (carried.OfFailedRead which name read more g h) sink less others =
      record { role = which; name = name; is_read = read; names = g; written = inl h }
  fails_to_read (Err Write) (carried.OfFailedRead which name read more g h) sink less others = absurd (omega (arith, sink, others))
  fails_to_read (Err NoMemory) (carried.OfFailedRead which name read more g h) sink less others =
      record { role = which; name = name; is_read = read; names = g; written = inr (refl, h) }
  fails_to_read r (Starved is f g h) sink less others = same_and_less f less

  fails_to_write : (r : Result ℕ WriteFail) → Carries r → Counts r → before.failed_writes < after.failed_writes → (status_after r ≡ 6)
      × WriteFailed words before after
  fails_to_write (Ok s) carry sink rose = absurd (omega (arith, sink, rose))
  fails_to_write (Err NoMemory) carry sink rose = absurd (omega (arith, sink, rose))
  fails_to_write (Err Write) (carried.OfAnswer t bytes answer f g h) sink rose = (refl, OfAnswer t bytes answer (record { reads = f; names = g }) h)
  fails_to_write (Err Write) (carried.OfFailedRead which name read less g h) sink rose = (refl, OfFailedRead which name read less g h)
  fails_to_write (Err Write) (Starved clash f g h) sink rose = absurd (cc clash)

  names_kept : (r : Result ℕ WriteFail) → Carries r → after.failed_reads ≡ before.failed_reads → after.failed_names ≡ before.failed_names
  names_kept r (carried.OfAnswer s bytes answer e f g) same = f
  names_kept r (carried.OfFailedRead which name read less f g) same = same_and_less same less
  names_kept r (Starved is e f g) same = f

  reads_kept : (r : Result ℕ WriteFail) → Carries r → before.failed_reads ≤ after.failed_reads
  reads_kept r (carried.OfAnswer s bytes answer e f g) = omega (arith, e)
  reads_kept r (carried.OfFailedRead which name read less f g) = omega (arith, less)
  reads_kept r (Starved is e f g) = omega (arith, e)

  writes_kept : (r : Result ℕ WriteFail) → Counts r → before.failed_writes ≤ after.failed_writes
  writes_kept (Ok s) h = omega (arith, h)
  writes_kept (Err Write) h = omega (arith, h)
  writes_kept (Err NoMemory) h = omega (arith, h)

  pub drives : (r : Result ℕ WriteFail) (status : ℕ) → status ≡ status_after r → Carries r → Counts r → after.contents ≡ before.contents →
      Drives words before after status
  drives r status e carry sink kept = rw e (record {
    answered = answers r carry sink;
    read_failed = fails_to_read r carry sink;
    write_failed = fails_to_write r carry sink;
    contents = kept;
    reads = reads_kept r carry;
    writes = writes_kept r sink;
    names = names_kept r carry;
  })
