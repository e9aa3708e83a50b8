-- What the stages of a small epoch tell at its first two iterations, computed.
use Rattle.std.proofs.Common.{◌≡◌, refl, ℕ, [], ◌∷◌, pos, map}
use Rattle.dp_tree.proofs.Build.{tree_opened}
use Rattle.dp_tree.specs.Eval.{Load}
use Rattle.dp_tree.specs.Step.{Stored}
use Rattle.dp_net.specs.Quiet.{quiet_from}
use Rattle.dp_net.specs.NetItems.{Net}
use Rattle.dp_net.specs.NetRun.{net_from}
use Rattle.dp_lean.specs.Queues.{Did, DidBlock}
use Rattle.dp_lean_epoch.specs.Own.{own_items, own_steps, steps_at, own_told, own_loads, told_upto}
use Rattle.dp_lean_epoch.proofs.rows.Small.{key, marks}

-- stage 3 at the second iteration: s was 13, and y is 11, since the worker has s of the epoch's begin
items : own_items marks key 3 1 ≡ Net 6 1 (Stored 0 (pos 24) ∷ []) ∷ []
unfolding tree_opened net_from quiet_from
items = refl

-- the condition, the block of the two next sites
told : own_told marks key 2 0 ≡ Did 0 (pos 1) ∷ []
unfolding tree_opened net_from quiet_from
told = refl

block : own_told marks key 3 0 ≡ DidBlock (Stored 2 (pos 5) ∷ Stored 1 (pos 1) ∷ []) ∷ []
unfolding tree_opened net_from quiet_from
block = refl

-- site 4 stands in that block
inside : own_told marks key 4 0 ≡ []
unfolding tree_opened net_from quiet_from
inside = refl

-- y is 9, by loads of x and of s
checked : own_told marks key 5 0 ≡ Did 3 (pos 9) ∷ []
unfolding tree_opened net_from quiet_from
checked = refl

abbrev load : ℕ → ℕ → Load
load cell value = record { cell = cell; value = pos value }

loads : own_loads marks key 5 0 ≡ (load 2 5 ∷ load 0 4 ∷ []) ∷ []
unfolding tree_opened net_from quiet_from
loads = refl

-- stage 2 isn't one of those up to stage 1
early : told_upto marks key 1 5 0 ≡ []
unfolding tree_opened net_from quiet_from
early = refl

upto : told_upto marks key 2 5 0 ≡ Did 3 (pos 9) ∷ []
unfolding tree_opened net_from quiet_from
upto = refl

-- the words of loads are no steps
counts : map (λ (t : ℕ). own_steps marks key t 0) (1 ∷ 2 ∷ 3 ∷ []) ≡ 3 ∷ 1 ∷ 1 ∷ []
unfolding tree_opened net_from quiet_from
counts = refl

steps : steps_at marks key 0 ≡ 5
unfolding tree_opened net_from quiet_from
steps = refl
