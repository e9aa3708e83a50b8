-- A shelf in memory with two texts of one name, an empty one, and calls that fail.
use Rattle.std.proofs.Common.{◌≡◌, refl, ◌⊎◌, ◌+◌, ◌<◌, ◌≤◌, ℕ, List, [], ◌∷◌, length, min, Option, Some, None, Result, Ok, Err, Vec, codes}
use Rattle.std.specs.declared.alloc.Global.{Global}
use Rattle.dp_edge.specs.declared.mem_shelf.Held.{Held}
use Rattle.dp_edge.specs.declared.shelf.ShelfFail.{ShelfFail}
use Rattle.dp_edge.specs.declared.shelf.ShelfFail.TheVariants.{Failed, TooLong, NoMemory}
use Rattle.dp_edge.specs.MemShelf.{Stock, next_answer, AnswersAsWanted, after_read}
use Rattle.dp_edge.specs.Shelf.{FaultsAfterRead, names_after_read, OnTooLong, TookBytes, ReadsContent}

abbrev texts : List Held
texts = record { name = codes "a"; content = codes "first" } ∷ record { name = codes "b"; content = [] }
    ∷ record { name = codes "a"; content = codes "second" } ∷ []

-- two calls were made, one of which failed, and five bytes were taken
abbrev stock : Stock
stock = record { held = texts; failing = 1 ∷ 4 ∷ []; calls = 2; failed_names = codes "old" ∷ []; faults = 7; taken = 5 }

-- the same before its fourth call
abbrev failing : Stock
failing = record stock { calls = 3 }

first_counts : (next_answer stock (codes "a") 9 ≡ Ok (codes "first")) × (next_answer stock (codes "b") 0 ≡ Ok [])
first_counts = (refl, refl)

fits_just : (next_answer stock (codes "a") 5 ≡ Ok (codes "first")) × (next_answer stock (codes "a") 4 ≡ Err TooLong)
fits_just = (refl, refl)

not_held : (next_answer stock (codes "ab") 9 ≡ Err Failed) × (next_answer stock [] 9 ≡ Err Failed) × (next_answer failing (codes "a") 9 ≡ Err Failed)
not_held = (refl, refl, refl)

-- the number of a call stays at its greatest value
last_call : next_answer (record stock { calls = 18446744073709551615; failing = 18446744073709551616 ∷ [] }) (codes "b") 0 ≡ Ok []
last_call = refl

last_call_again : next_answer (record stock { calls = 18446744073709551615; failing = 18446744073709551615 ∷ [] }) (codes "b") 0 ≡ Err Failed
last_call_again = refl

-- an answer counts the call, and the bytes that it gives
after_ok : (bytes : Vec ℕ Global) →
    after_read (Ok bytes) stock (codes "a") 9 ≡ record stock { calls = 3; taken = min (5 + length bytes.items) 18446744073709551615 }
after_ok bytes = refl

-- a failed one is a fault, and its name comes last
after_failed : after_read (Err Failed) stock (codes "c") 9 ≡ record stock { calls = 3; failed_names = codes "old" ∷ codes "c" ∷ []; faults = 8 }
after_failed = refl

-- one byte more than there is room for was taken
after_too_long : after_read (Err TooLong) stock (codes "a") 4 ≡ record stock { calls = 3; taken = 10 }
after_too_long = refl

-- the number of bytes stays at its greatest value
much_taken : (after_read (Err TooLong) (record stock { taken = 18446744073709551614 }) (codes "a") 4).taken ≡ 18446744073709551615
much_taken = refl

after_no_memory : after_read (Err NoMemory) stock (codes "a") 9 ≡ record stock { calls = 3 }
after_no_memory = refl

-- ---- each answer that says something, written out

module _ (bytes : Vec ℕ Global) (wanted : Result (List ℕ) ShelfFail) where
  answers_ok : AnswersAsWanted (Ok bytes) wanted → wanted ≡ Ok bytes.items
  answers_ok e = e

  answers_failed : AnswersAsWanted (Err Failed) wanted → wanted ≡ Err Failed
  answers_failed e = e

  answers_too_long : AnswersAsWanted (Err TooLong) wanted → wanted ≡ Err TooLong
  answers_too_long e = e

-- a read that fails is one fault more at least, and no other is a fault
module _ (old new : ℕ) where
  fault_counted : FaultsAfterRead {X = ℕ} (Err Failed) old new → old < new
  fault_counted less = less

  no_fault_in_a_content : FaultsAfterRead {X = ℕ} (Ok 1) old new → new ≡ old
  no_fault_in_a_content e = e

  no_fault_in_a_long_one : FaultsAfterRead {X = ℕ} (Err TooLong) old new → new ≡ old
  no_fault_in_a_long_one e = e

  no_fault_without_memory : FaultsAfterRead {X = ℕ} (Err NoMemory) old new → new ≡ old
  no_fault_without_memory e = e

abbrev names : {X : Type 0} → Result X ShelfFail → List (List ℕ)
names answer = names_after_read answer (codes "c") (codes "old" ∷ [])

name_added : names {X = ℕ} (Err Failed) ≡ codes "old" ∷ codes "c" ∷ []
name_added = refl

no_name_added : (names {X = ℕ} (Ok 1) ∷ names {X = ℕ} (Err TooLong) ∷ names {X = ℕ} (Err NoMemory) ∷ []) ≡ (codes "old" ∷ []) ∷ (codes "old" ∷ [])
    ∷ (codes "old" ∷ []) ∷ []
no_name_added = refl

too_long_alone : (P : Type 0) → OnTooLong {X = ℕ} (Err TooLong) P → P
too_long_alone P p = p

-- a count that took n bytes
took : (n old new : ℕ) → TookBytes n old new → (old + n ≤ new) ⊎ (new ≡ 18446744073709551615)
took n old new t = t

-- the answer is true of what is held
module _ (bytes : Vec ℕ Global) (held : Option (List ℕ)) (content : List ℕ) (room : ℕ) where
  reads_all : ReadsContent (Ok bytes) held room → held ≡ Some bytes.items
  reads_all e = e

  is_longer : ReadsContent (Err TooLong) (Some content) room → room < length content
  is_longer less = less

  is_held : ReadsContent (Err TooLong) None room → ⊥
  is_held none = none
