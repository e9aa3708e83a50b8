-- A sink in memory with room for nine bytes, and one without a limit.
use Rattle.std.proofs.Common.{◌≡◌, refl, ◌<◌, ℕ, true, false, List, length, take, Option, Some, None, Result, Ok, Err, codes}
use Rattle.dp_edge.specs.declared.sink.PutFail.{PutFail}
use Rattle.dp_edge.specs.declared.sink.PutFail.TheVariants.{Failed, NoMemory}
use Rattle.dp_edge.specs.MemSink.{Basin, has_room_for, AnswersPut, after_put}
use Rattle.dp_edge.specs.Sink.{FaultsAfterPut, appended, Puts}

abbrev basin : Basin
basin = record { bytes = codes "old"; left = Some 9; faults = 4 }

abbrev wide : Basin
wide = record basin { left = None }

abbrev after : Result ℕ PutFail → Basin
after answer = after_put answer basin (codes "seven and nine")

after_ok : (after_put {X = ℕ} (Ok 1) basin (codes "seven") ≡ record basin { bytes = codes "oldseven"; left = Some 4 })
    × (after_put {X = ℕ} (Ok 1) wide (codes "seven") ≡ record wide { bytes = codes "oldseven" })
after_ok = (refl, refl)

-- a failed put takes what there is room for, and then nothing is left
after_failed : after (Err Failed) ≡ record { bytes = codes "oldseven and"; left = Some 0; faults = 5 }
after_failed = refl

after_no_memory : after (Err NoMemory) ≡ basin
after_no_memory = refl

fits_so_many : (has_room_for (Some 9) 9 ≡ true) × (has_room_for (Some 9) 10 ≡ false) × (has_room_for None 10 ≡ true)
fits_so_many = (refl, refl, refl)

-- ---- each answer that says something, written out

ok_where_all_fit : (bytes : List ℕ) → AnswersPut {X = ℕ} (Ok 1) basin bytes → has_room_for basin.left (length bytes) ≡ true
ok_where_all_fit bytes e = e

failed_where_not : (bytes : List ℕ) → AnswersPut {X = ℕ} (Err Failed) basin bytes → has_room_for basin.left (length bytes) ≡ false
failed_where_not bytes e = e

-- a put that fails is one fault more at least, and no other is a fault
module _ (old new : ℕ) where
  fault_counted : FaultsAfterPut {X = ℕ} (Err Failed) old new → old < new
  fault_counted less = less

  no_fault_in_a_put : FaultsAfterPut {X = ℕ} (Ok 1) old new → new ≡ old
  no_fault_in_a_put e = e

  no_fault_without_memory : FaultsAfterPut {X = ℕ} (Err NoMemory) old new → new ≡ old
  no_fault_without_memory e = e

all_appended : (appended (codes "seven") (Some (codes "old")) ≡ Some (codes "oldseven")) × (appended (codes "seven") None ≡ None)
all_appended = (refl, refl)

module _ (bytes : List ℕ) (old new : Option (List ℕ)) where
  all_put : Puts {X = ℕ} (Ok 1) bytes old new → new ≡ appended bytes old
  all_put e = e

  some_put : Puts {X = ℕ} (Err Failed) bytes old new → (n : ℕ) × (new ≡ appended (take n bytes) old)
  some_put front = front

  none_put : Puts {X = ℕ} (Err NoMemory) bytes old new → new ≡ old
  none_put e = e
