-- What a read of a shelf may answer, and what it leaves.
use Rattle.std.specs.Prelude.{◌≡◌, ◌⊎◌, ℕ, ◌+◌, ◌-◌, ◌^◌, ◌<◌, ◌≤◌, List, [], ◌∷◌, ◌++◌, length, Option, Some, Result, Ok, Err, Vec}
use Rattle.std.specs.Option.{IsSomeAnd}
use Rattle.std.specs.declared.alloc.Global.{Global}
use Rattle.dp_edge.specs.declared.shelf.ShelfFail.{ShelfFail}
use Rattle.dp_edge.specs.declared.shelf.ShelfFail.TheVariants.{Failed, TooLong, NoMemory}

-- the count of faults rises with `Failed`, and stays with every other answer
abbrev pub FaultsAfterRead : {X : Type 0} → Result X ShelfFail → ℕ → ℕ → Type 0
FaultsAfterRead (Ok bytes) old new = new ≡ old
FaultsAfterRead (Err Failed) old new = old < new
FaultsAfterRead (Err TooLong) old new = new ≡ old
FaultsAfterRead (Err NoMemory) old new = new ≡ old

-- the failed names after a read: this one is added with `Failed`, and nothing with any other answer
abbrev pub names_after_read : {X : Type 0} → Result X ShelfFail → List ℕ → List (List ℕ) → List (List ℕ)
names_after_read (Ok bytes) name names = names
names_after_read (Err Failed) name names = names ++ name ∷ []
names_after_read (Err TooLong) name names = names
names_after_read (Err NoMemory) name names = names

-- what holds where the answer is `TooLong`
abbrev pub OnTooLong : {X : Type 0} → Result X ShelfFail → Type 0 → Type 0
OnTooLong (Ok bytes) P = Unit {0}
OnTooLong (Err Failed) P = Unit {0}
OnTooLong (Err TooLong) P = P
OnTooLong (Err NoMemory) P = Unit {0}

-- a count of bytes rose by at least this number, or stands at its greatest value
abbrev pub TookBytes : ℕ → ℕ → ℕ → Type 0
TookBytes n old new = (old + n ≤ new) ⊎ (new ≡ 2 ^ 64 - 1)

-- The answer is true of what is held under the name: `Ok` gives all of it, and `TooLong` comes where it is longer than
-- the room.
abbrev pub ReadsContent : Result (Vec ℕ Global) ShelfFail → Option (List ℕ) → ℕ → Type 0
ReadsContent (Ok bytes) held room = held ≡ Some bytes.items
ReadsContent (Err Failed) held room = Unit {0}
ReadsContent (Err TooLong) held room = IsSomeAnd held (λ content. room < length content)
ReadsContent (Err NoMemory) held room = Unit {0}
