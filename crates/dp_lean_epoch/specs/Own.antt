-- What each stage of an epoch itself tells at an iteration, site by site.
use Rattle.std.specs.Prelude.{◌≡◌, ℕ, if◌then◌else◌, false, List, [], length, nat_le, sum_by}
use Rattle.dp_tree.specs.Numbering.{numbers_from}
use Rattle.dp_tree.specs.Eval.{Load}
use Rattle.dp_plan.specs.Access.{stage_of}
use Rattle.dp_semantics.specs.EpochKey.{EpochKey, epoch_of}
use Rattle.dp_net.specs.NetItems.{Marks, Item, item_list}
use Rattle.dp_net.specs.NetPackets.{NetPassed, net_passed}
use Rattle.dp_net.specs.Follows.{is_void}
use Rattle.dp_lean.specs.Queues.{Told, told_in, loads_told, steps_in}

module _ (m : Marks) (key : EpochKey) where
  -- stage s at the epoch's n-th iteration; 0 stands for what comes to stage 1
  abbrev pub at_stage : ℕ → ℕ → NetPassed
  at_stage s n = net_passed m (epoch_of key) s n

  -- the packet that it sends isn't void: its turn came to the end, and so did those of the stages before
  abbrev pub Arrives : ℕ → ℕ → Type 0
  Arrives s n = is_void (at_stage s n).packet.status ≡ false

  -- what stage t itself tells: the t-th list of the packet that it sends, which a void one doesn't have
  abbrev pub own_items : ℕ → ℕ → List Item
  own_items t n = item_list (at_stage t n).packet.lists t

  -- .. the number of its steps
  abbrev pub own_steps : ℕ → ℕ → ℕ
  own_steps t n = sum_by steps_in (own_items t n)

  -- .. and those of all stages together
  abbrev pub steps_at : ℕ → ℕ
  steps_at n = sum_by (λ t. own_steps t n) (numbers_from 1 (length key.plan.stages))

  -- what is told of a site by its own stage
  abbrev pub own_told : ℕ → ℕ → List Told
  own_told y n = told_in y (own_items (stage_of key.program key.plan y) n)

  -- .. and of its loads
  abbrev pub own_loads : ℕ → ℕ → List (List Load)
  own_loads y n = loads_told y [] (own_items (stage_of key.program key.plan y) n)

  -- .. where that is one of the stages up to s
  abbrev pub told_upto : ℕ → ℕ → ℕ → List Told
  told_upto s y n = if nat_le (stage_of key.program key.plan y) s then own_told y n else []

  abbrev pub loads_upto : ℕ → ℕ → ℕ → List (List Load)
  loads_upto s y n = if nat_le (stage_of key.program key.plan y) s then own_loads y n else []
