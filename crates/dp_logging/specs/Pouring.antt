-- What is written of a text, bit by bit.
use Rattle.std.specs.Prelude.{◌≡◌, ℕ, List, ◌++◌, Option, Result, Ok, Err}
use Rattle.dp_edge.specs.Sink.{appended}
use Rattle.dp_edge.specs.Writing.{WritesFront}

-- some of the text was written, from the front, and the rest is left
pub record Pours (text left : List ℕ) (told tells : Option (List ℕ)) : Type 0 where
  pub written : List ℕ
  pub splits : text ≡ written ++ left
  pub sink : tells ≡ appended written told

-- This text is to be written: some was, and that is left which the answer says. Where it stopped early, a front of it was written.
abbrev pub StreamsText : {X E : Type 0} → Result X E → List ℕ → (X → List ℕ) → Option (List ℕ) → Option (List ℕ) → Type 0
StreamsText (Ok done) text left told tells = Pours text (left done) told tells
StreamsText (Err stop) text left told tells = WritesFront text told tells
