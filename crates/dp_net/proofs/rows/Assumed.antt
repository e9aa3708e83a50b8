-- A turn that goes against an assumption breaks off, and the others go on, computed.
use Rattle.std.proofs.Common.{◌≡◌, refl, ℕ, true, List, [], ◌∷◌, pos, negsuc, length, map}
use Rattle.dp_tree.specs.declared.Stmt.{Stmt}
use Rattle.dp_tree.proofs.Build.{tree_opened}
use Rattle.dp_tree.proofs.Programs.{skip_negative}
use Rattle.dp_tree.specs.Numbering.{numbers_from}
use Rattle.dp_plan.proofs.Plans.{skip_negative_plan}
use Rattle.dp_semantics.specs.Packets.{Epoch}
use Rattle.dp_net.specs.Quiet.{quiet_from}
use Rattle.dp_net.specs.NetRun.{net_from}
use Rattle.dp_net.specs.NetPackets.{NetGoing, NetClosing, NetVoid, NetPacket, net_passed}
use Rattle.dp_net.specs.Hidden.{marks_of}

-- The `if` of stage 2, which is assumed not to be taken, is taken in iteration 1.
-- Behind that stage 2 stands where it stood, finds the same number again, and breaks off again, up to the closing iteration.
abbrev epoch : Epoch
epoch = record { program = skip_negative; plan = skip_negative_plan; input = pos 5 ∷ negsuc 0 ∷ pos 7 ∷ pos 8 ∷ []; base = pos 0 ∷ pos 0 ∷ pos 0 ∷ [] }

abbrev packet : ℕ → ℕ → NetPacket
packet s n = (net_passed (marks_of skip_negative skip_negative_plan (λ (block : List Stmt). true)) epoch s n).packet

statuses : map (λ (n : ℕ). (packet 2 n).status) (numbers_from 0 5) ≡ NetGoing ∷ NetVoid ∷ NetVoid ∷ NetVoid ∷ NetClosing ∷ []
unfolding tree_opened net_from quiet_from
statuses = refl

lists : map (λ (n : ℕ). length (packet 2 n).lists) (numbers_from 0 5) ≡ 2 ∷ 1 ∷ 1 ∷ 1 ∷ 2 ∷ []
unfolding tree_opened net_from quiet_from
lists = refl
