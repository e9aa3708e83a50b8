-- Texts that are read one after the other: the first that is refused decides, and none behind it is read.
use Rattle.std.specs.Prelude.{ℕ, suc, List, [], ◌∷◌, Result, Ok, Err}

-- one behind others: it is read where those give something
pub data Then {X Y E : Type 0} (First : Result X E → Type 0) (Next : X → Result Y E → Type 0) : Result (X × Y) E → Type 0 where
  Both : (x : X) (y : Y) → First (Ok x) → Next x (Ok y) → Then First Next (Ok (x, y))
  FirstRefused : (refusal : E) → First (Err refusal) → Then First Next (Err refusal)
  NextRefused : (x : X) (refusal : E) → First (Ok x) → Next x (Err refusal) → Then First Next (Err refusal)

-- one for each name, with its number
pub data EachInTurn {N X E : Type 0} (Reads : ℕ → N → Result X E → Type 0) : ℕ → List N → Result (List X) E → Type 0 where
  NoneLeft : (number : ℕ) → EachInTurn Reads number [] (Ok [])
  OneMore : (number : ℕ) (name : N) (rest : List N) (x : X) (xs : List X) → Reads number name (Ok x) → EachInTurn Reads (suc number) rest (Ok xs) →
      EachInTurn Reads number (name ∷ rest) (Ok (x ∷ xs))
  OneRefused : (number : ℕ) (name : N) (rest : List N) (refusal : E) → Reads number name (Err refusal) → EachInTurn Reads number (name ∷ rest) (Err refusal)
  LaterRefused : (number : ℕ) (name : N) (rest : List N) (x : X) (refusal : E) → Reads number name (Ok x) → EachInTurn Reads (suc number) rest (Err refusal) →
      EachInTurn Reads number (name ∷ rest) (Err refusal)
