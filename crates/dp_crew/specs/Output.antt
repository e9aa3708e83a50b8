-- What is written of some prints.
use Rattle.std.specs.Prelude.{◌≡◌, ℕ, List, ◌++◌, ℤ, Option, Result, Ok, Err}
use Rattle.dp_edge.specs.Sink.{appended}
use Rattle.dp_edge.specs.Writing.{WritesFront}
use Rattle.dp_report.specs.PrintsText.{prints_bytes}

-- some of the prints were written, from the front, and the others are left
pub record Emits (prints left : List ℤ) (told tells : Option (List ℕ)) : Type 0 where
  pub written : List ℤ
  pub splits : prints ≡ written ++ left
  pub sink : tells ≡ appended (prints_bytes written) told

-- These prints are to be written: some were, and those are left which the answer says. Where it stopped early, a front of their text was written.
abbrev pub Streams : {X E : Type 0} → Result X E → List ℤ → (X → List ℤ) → Option (List ℕ) → Option (List ℕ) → Type 0
Streams (Ok done) prints left told tells = Emits prints (left done) told tells
Streams (Err stop) prints left told tells = WritesFront (prints_bytes prints) told tells
