-- What is sent, computed: two stores to one element in stage 2 are one net store.
use Rattle.std.proofs.Common.{length, map, ◌≡◌, refl, ℕ, Bool, true, false, List, [], ◌∷◌, pos, Option, Some, None}
use Rattle.dp_base.specs.declared.WordKind.TheVariants as word
use Rattle.dp_tree.specs.declared.Stmt.{Stmt}
use Rattle.dp_tree.specs.Step.{Stored}
use Rattle.dp_tree.proofs.Build.{tree_opened}
use Rattle.dp_tree.proofs.Programs.{two_stores}
use Rattle.dp_plan.specs.declared.Plan.{Plan}
use Rattle.dp_plan.specs.declared.StageKind.TheVariants.{Seq}
use Rattle.dp_plan.proofs.Plans.{plan, unchecked}
use Rattle.dp_semantics.specs.Packets.{Epoch}
use Rattle.dp_semantics.specs.EpochKey.{EpochKey}
use Rattle.dp_semantics.specs.EpochVerdicts.{Verdict, Commit, Again}
use Rattle.dp_net.specs.Quiet.{quiet_from}
use Rattle.dp_net.specs.Batches.{BatchVerdict, BatchEnd, BatchCloses, batch_at, batch_verdict_at}
use Rattle.dp_net.specs.NetItems.{Marks, Said, Net}
use Rattle.dp_net.specs.NetRun.{net_from}
use Rattle.dp_net.specs.NetPackets.{NetPacket, NetGoing, NetClosing, net_passed}
use Rattle.dp_net.specs.NetJudge.{net_judge_from}
use Rattle.dp_net.specs.NetVerdicts.{net_verdict_at}
use Rattle.dp_net.specs.Hidden.{marks_of}

-- the stores to a[0] in stage 2
abbrev two_plan : Plan
two_plan = unchecked 4 (plan 4096 (Seq ∷ Seq ∷ []) (1 ∷ 2 ∷ 2 ∷ 1 ∷ []) [])

abbrev any : List Stmt → Bool
any block = true

abbrev two_epoch : Epoch
two_epoch = record { program = two_stores; plan = two_plan; input = []; base = pos 0 ∷ pos 0 ∷ [] }

sent : (net_passed (marks_of two_stores two_plan any) two_epoch 2 1).packet.lists
    ≡ (Said (record { site = record { 0 = 2 }; kind = word.Done; index = 0; value = pos 1 }) ∷ Net 5 1 (Stored 1 (pos 2) ∷ []) ∷ [])
    ∷ (Net 3 2 (Stored 0 (pos 1) ∷ []) ∷ []) ∷ []
unfolding tree_opened net_from quiet_from
sent = refl

abbrev two_key : EpochKey
two_key = record { program = two_stores; plan = two_plan; input = []; first = 0; base = pos 0 ∷ pos 0 ∷ []; steps = 1; fuel = 1000 }

abbrev carried_of : Verdict → Option (ℕ × ℕ × Bool)
carried_of (Commit v) = Some (length v.stores, v.steps, v.closing)
carried_of (Again cause) = None

committed : carried_of (net_verdict_at (marks_of two_stores two_plan any) two_key 1) ≡ Some (2, 4, false)
unfolding tree_opened net_from quiet_from net_judge_from
committed = refl

abbrev any_marks : Marks
any_marks = marks_of two_stores two_plan any

-- the third batch has the third iteration and the closing one
together_sent : map (λ (packet : NetPacket). packet.status) (batch_at any_marks two_key 64 2 2) ≡ NetGoing ∷ NetClosing ∷ []
unfolding tree_opened net_from quiet_from
together_sent = refl

-- .. and is told with both
abbrev told_of : BatchVerdict → ℕ × ℕ × ℕ × BatchEnd
told_of v = (v.iterations, length v.stores, v.steps, v.ends)

together_told : told_of (batch_verdict_at any_marks two_key 64 2) ≡ (2, 2, 5, BatchCloses)
unfolding tree_opened net_from quiet_from net_judge_from
together_told = refl
