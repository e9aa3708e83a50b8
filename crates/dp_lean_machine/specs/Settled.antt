-- What a stage does behind a turn.
use Rattle.std.specs.Prelude.{◌≡◌, ℕ, List, [], ◌∷◌, ◌++◌, ℤ}
use Rattle.dp_lean_judge.specs.Locals.{clear_cells}
use Rattle.dp_lean_turn.specs.declared.Turn.{Turn}
use Rattle.dp_lean_region.specs.declared.ReadyStage.{ReadyStage}

-- The body locals read 0, and the number of the turn's steps is told.
pub record Settled {M : Type 0} (cells : M → List ℤ) (r : ReadyStage) (old new : Turn M) (counts told : List ℕ) (count : ℕ) : Type 0 where
  pub readers : new.readers ≡ old.readers
  pub own : new.teller.own ≡ old.teller.own
  pub memory : cells new.memory ≡ clear_cells r.locals.now (cells old.memory)
  pub more : told ≡ counts ++ count ∷ []
