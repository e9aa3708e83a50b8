-- What was written of a text, and what the sink's count of faults says of it.
use Rattle.std.specs.Prelude.{◌≡◌, ◌<◌, ℕ, List, ◌++◌, Option, Result, Ok, Err}
use Rattle.dp_edge.specs.Sink.{appended}
use Rattle.dp_edge.specs.declared.writing.WriteFail.{WriteFail}
use Rattle.dp_edge.specs.declared.writing.WriteFail.TheVariants.{Write, NoMemory}

-- the sink's count of faults rises where writing failed, and else stays
abbrev pub FaultsAfter : {X : Type 0} → Result X WriteFail → ℕ → ℕ → Type 0
FaultsAfter (Ok x) old new = new ≡ old
FaultsAfter (Err Write) old new = old < new
FaultsAfter (Err NoMemory) old new = new ≡ old

-- a front of the text was written, and nothing else
pub record WritesFront (text : List ℕ) (told tells : Option (List ℕ)) : Type 0 where
  pub front : List ℕ
  pub rest : List ℕ
  pub splits : text ≡ front ++ rest
  pub sink : tells ≡ appended front told
