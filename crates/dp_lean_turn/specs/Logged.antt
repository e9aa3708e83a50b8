-- The net stores of a block that is running.
use Rattle.std.specs.Prelude.{◌≡◌, ℕ, ◌-◌, ◌==◌, ◌<◌, true, false, List, map, Option, Some, None, get_or, slice_get}
use Rattle.dp_plan.specs.Access.{stage_of, first_site}
use Rattle.dp_net.specs.NetItems.{Marks}
use Rattle.dp_lean_code.specs.LeanHeld.{Silent}
use Rattle.dp_columns.specs.declared.Pair.{Pair}
use Rattle.dp_columns.specs.Paired.{pair_store}
use Rattle.dp_lean_turn.specs.declared.Frame.{Frame}
use Rattle.dp_lean_turn.specs.declared.Log.{Log}

module _ (f : Frame) (m : Marks) where
  -- The log has the block's net stores, and knows the column of its first site; the table says which cells its stage hides.
  pub record IsLogged (log : Log) (b : Silent) : Type 0 where
    pub stores : map pair_store log.stores ≡ b.told
    pub place : log.place ≡ b.site - first_site f.program.now f.plan.now
    pub hides : (c : ℕ) → get_or f.hidden.now c false ≡ m.hides (stage_of f.program.now f.plan.now b.site) c

  -- .. where a block is running
  abbrev pub AreLogged : Log → Option Silent → Type 0
  AreLogged log None = log.running ≡ false
  AreLogged log (Some b) = (log.running ≡ true) × IsLogged log b

-- the first n of the entries are of other cells
abbrev pub AreOfOtherCells : ℕ → ℕ → List Pair → Type 0
AreOfOtherCells cell n stores = (k : ℕ) (e : Pair) → k < n → slice_get stores k ≡ Some e → (e.cell == cell) ≡ false

-- the first one of the cell stands at a place
abbrev pub IsFirstAt : ℕ → ℕ → List Pair → Type 0
IsFirstAt cell place stores = AreOfOtherCells cell place stores × (e : Pair) × (slice_get stores place ≡ Some e) × (e.cell ≡ cell)

-- its steps so far
abbrev pub steps_of : Option Silent → ℕ
steps_of None = 0
steps_of (Some b) = b.count
