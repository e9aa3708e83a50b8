-- A lean turn of stage 4, computed: what it tells, and what is left of its queues.
use Rattle.std.proofs.Common.{◌≡◌, refl, ℕ, ◌==◌, if◌then◌else◌, Bool, true, false, List, [], ◌∷◌, ℤ, pos, Option, Some, None, get_or}
use Rattle.dp_tree.proofs.Build.{tree_opened}
use Rattle.dp_tree.specs.Step.{Stored}
use Rattle.dp_net.specs.Quiet.{quiet_from}
use Rattle.dp_net.specs.NetItems.{Item, Net}
use Rattle.dp_lean.specs.Queues.{Told, Did, DidBlock, with_queue}
use Rattle.dp_lean.specs.LeanTurn.{LeanEnd, Arrived, BrokenOff, lean_from, lean_begin}
use Rattle.dp_lean.proofs.rows.Mixed.{mixed, mixed_plan, marks}

-- s is 2, and all others are 0
abbrev mem : List ℤ
mem = pos 0 ∷ pos 0 ∷ pos 0 ∷ pos 0 ∷ pos 2 ∷ pos 0 ∷ pos 0 ∷ pos 0 ∷ pos 0 ∷ pos 0 ∷ pos 0 ∷ []

-- y is 3 and u is 8, and no break is taken; the condition's queue has one value more
abbrev queues : ℕ → List Told
queues y =
    if y == 2 then Did 0 (pos 1) ∷ Did 0 (pos 7) ∷ []
    else if y == 5 then DidBlock (Stored 7 (pos 3) ∷ []) ∷ []
    else if y == 10 then DidBlock (Stored 10 (pos 8) ∷ []) ∷ []
    else if y == 14 then Did 0 (pos 0) ∷ []
    else []

abbrev ended : (ℕ → List Told) → ℕ → Option LeanEnd
ended q n = lean_from mixed mixed_plan (marks true) [] 4 n (lean_begin mixed mixed_plan (marks true) 4 mem q)

abbrev told_of : Option LeanEnd → Option (List Item × ℤ × ℤ × ℤ × List Told × List Told × Bool)
told_of (Some (Arrived f)) = Some (
  f.turn.own,
  get_or f.turn.cells 3 (pos 9),
  get_or f.turn.cells 4 (pos 9),
  get_or f.turn.cells 10 (pos 9),
  f.queues 2,
  f.queues 10,
  f.turn.closing,
)
told_of _ = None

told : told_of (ended queues 6) ≡ Some (Net 11 2 (Stored 4 (pos 10) ∷ Stored 3 (pos 1) ∷ []) ∷ [], pos 1, pos 10, pos 8, Did 0 (pos 7) ∷ [], [], false)
unfolding tree_opened lean_from quiet_from
told = refl

-- five steps, and one for the end
early : ended queues 5 ≡ None
unfolding tree_opened lean_from quiet_from
early = refl

-- where the queue of a site is empty, or tells of no block though one begins there
nothing : ended (with_queue queues 10 []) 6 ≡ Some BrokenOff
unfolding tree_opened lean_from quiet_from
nothing = refl

bare : ended (with_queue queues 10 (Did 10 (pos 8) ∷ [])) 6 ≡ Some BrokenOff
unfolding tree_opened lean_from quiet_from
bare = refl
