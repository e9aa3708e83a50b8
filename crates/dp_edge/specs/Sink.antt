-- What a put to a sink may answer, and what it leaves.
use Rattle.std.specs.Prelude.{◌≡◌, ℕ, ◌<◌, List, ◌++◌, take, Option, Result, Ok, Err}
use Rattle.std.specs.Option.{option_map}
use Rattle.dp_edge.specs.declared.sink.PutFail.{PutFail}
use Rattle.dp_edge.specs.declared.sink.PutFail.TheVariants.{Failed, NoMemory}

-- the count of faults rises with `Failed`, and stays with every other answer
abbrev pub FaultsAfterPut : {X : Type 0} → Result X PutFail → ℕ → ℕ → Type 0
FaultsAfterPut (Ok done) old new = new ≡ old
FaultsAfterPut (Err Failed) old new = old < new
FaultsAfterPut (Err NoMemory) old new = new ≡ old

-- the bytes that are told after these were appended
abbrev pub appended : List ℕ → Option (List ℕ) → Option (List ℕ)
appended bytes = option_map (λ written. written ++ bytes)

-- All bytes were appended with `Ok`, some number of them from the front with `Failed`, and none with `NoMemory`.
abbrev pub Puts : {X : Type 0} → Result X PutFail → List ℕ → Option (List ℕ) → Option (List ℕ) → Type 0
Puts (Ok done) bytes old new = new ≡ appended bytes old
Puts (Err Failed) bytes old new = (n : ℕ) × (new ≡ appended (take n bytes) old)
Puts (Err NoMemory) bytes old new = new ≡ old
