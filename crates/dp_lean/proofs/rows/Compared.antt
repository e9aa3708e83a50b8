-- What the stages send of an iteration, by its queues, and what the judge says of it, computed.
use Rattle.std.proofs.Common.{◌≡◌, refl, ℕ, Bool, true, false, List, [], ◌∷◌, ℤ, pos, Option, Some, None, get_or, filter_map, sum_by}
use Rattle.dp_tree.proofs.Build.{tree_opened}
use Rattle.dp_tree.specs.Eval.{Load}
use Rattle.dp_tree.specs.Step.{Stored}
use Rattle.dp_tree.specs.Trace.{printed_by}
use Rattle.dp_net.specs.Quiet.{quiet_from}
use Rattle.dp_net.specs.NetItems.{weights, item_list}
use Rattle.dp_net.specs.NetRun.{net_from}
use Rattle.dp_net.specs.NetPackets.{NetPacket, net_passed}
use Rattle.dp_net.specs.NetJudge.{NetAgreed, net_judge, net_judge_from}
use Rattle.dp_lean.specs.Queues.{Told, Did, DidBlock, queue_of, load_queue_of, all_steps, are_of_text}
use Rattle.dp_lean.specs.LeanJudge.{LeanJudgement, Holds, Differs, lean_judge_from, lean_judging}
use Rattle.dp_lean.proofs.rows.Mixed.{mixed, mixed_plan, marks, epoch}

abbrev packet : Bool → NetPacket
packet blocks = (net_passed (marks blocks) epoch 4 0).packet

abbrev queues : Bool → ℕ → List Told
queues blocks = queue_of mixed mixed_plan (item_list (packet blocks).lists)

abbrev loads : Bool → ℕ → List (List Load)
loads blocks = load_queue_of mixed mixed_plan (item_list (packet blocks).lists)

-- the loop's condition was evaluated three times
condition : queues false 8 ≡ Did 0 (pos 1) ∷ Did 0 (pos 1) ∷ Did 0 (pos 0) ∷ []
unfolding tree_opened net_from quiet_from
condition = refl

-- .. and its block stored j once
block : queues true 8 ≡ DidBlock (Stored 8 (pos 2) ∷ []) ∷ []
unfolding tree_opened net_from quiet_from
block = refl

-- a store is told with its cell
store : queues false 12 ≡ Did 2 (pos 1) ∷ []
unfolding tree_opened net_from quiet_from
store = refl

-- the checked site's load of s, and what it stored; a site that isn't checked tells no load
loaded : loads true 7 ≡ (record { cell = 4; value = pos 0 } ∷ []) ∷ []
unfolding tree_opened net_from quiet_from
loaded = refl

done : queues true 7 ≡ Did 9 (pos 0) ∷ []
unfolding tree_opened net_from quiet_from
done = refl

unchecked : loads true 13 ≡ [] ∷ []
unfolding tree_opened net_from quiet_from
unchecked = refl

-- the word of a load weighs one, and is of no step of its own
weight : sum_by weights (packet true).lists ≡ 17
unfolding tree_opened net_from quiet_from
weight = refl

steps : all_steps (packet true).lists ≡ 16
unfolding tree_opened net_from quiet_from
steps = refl

steps_alone : all_steps (packet false).lists ≡ 16
unfolding tree_opened net_from quiet_from
steps_alone = refl

of_text : are_of_text mixed mixed_plan (marks true) (packet true).lists ≡ true
unfolding tree_opened net_from quiet_from
of_text = refl

abbrev judged : List ℤ → LeanJudgement → Option (List ℤ × ℤ × ℤ × ℤ × List Told × Bool)
judged cells (Holds f) = Some (
  filter_map printed_by f.effects,
  get_or f.turn.turn.cells 2 (pos 9),
  get_or f.turn.turn.cells 4 (pos 9),
  get_or f.turn.turn.cells 7 (pos 9),
  f.turn.queues 13,
  f.turn.turn.closing,
)
judged cells Differs = None

abbrev verdict : List ℤ → Option LeanJudgement → Option (Option (List ℤ × ℤ × ℤ × ℤ × List Told × Bool))
verdict cells None = None
verdict cells (Some end) = Some (judged cells end)

abbrev lean_verdict : ℕ → List ℤ → Option (Option (List ℤ × ℤ × ℤ × ℤ × List Told × Bool))
lean_verdict n cells =
    verdict cells (lean_judge_from mixed mixed_plan (marks true) n (lean_judging mixed mixed_plan (marks true) cells (queues true) (loads true)))

-- it prints 1, stores into a[2] and s, and stores no y
clean : lean_verdict 8 epoch.base ≡ Some (Some (pos 1 ∷ [], pos 1, pos 3, pos 0, [], false))
unfolding tree_opened net_from quiet_from lean_judge_from
clean = refl

-- where s isn't what the checked site loaded
unclean : lean_verdict 8 (pos 0 ∷ pos 0 ∷ pos 0 ∷ pos 0 ∷ pos 6 ∷ []) ≡ Some None
unfolding tree_opened net_from quiet_from lean_judge_from
unclean = refl

abbrev by_items : Option NetAgreed → Option (List ℤ × ℕ × Bool)
by_items (Some a) = Some (filter_map printed_by a.effects, a.steps, a.closing)
by_items None = None

-- the judgement of the packet: it wants sixteen steps
same : by_items (net_judge mixed mixed_plan (marks true) 16 epoch.base (packet true)) ≡ Some (pos 1 ∷ [], 16, false)
unfolding tree_opened net_from quiet_from net_judge_from
same = refl

short : by_items (net_judge mixed mixed_plan (marks true) 15 epoch.base (packet true)) ≡ None
unfolding tree_opened net_from quiet_from net_judge_from
short = refl
