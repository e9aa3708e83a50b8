-- What comes to a stage, or to the judge, and isn't void, follows the text and is of it.
use Rattle.dp_semantics.proofs.Names.{◌≡◌, refl, ap, subst, arith, ℕ, zero, suc, Bool, true, false, List, [], map, Stmt, Program, Plan, region_accesses}
use Rattle.dp_semantics.proofs.Names.{fits_plan}
use Rattle.dp_tree.specs.Inlined.{IsInlined}
use Rattle.dp_plan.specs.Written.{access_site}
use Rattle.dp_plan.proofs.Ascent.{Ascends}
use Rattle.dp_semantics.specs.EpochKey.{EpochKey, epoch_of}
use Rattle.dp_theorem.proofs.Fitting.{accepted}
use Rattle.dp_net.specs.NetItems.{item_list}
use Rattle.dp_net.specs.NetPackets.{net_passed}
use Rattle.dp_net.specs.Follows.{ended, is_void}
use Rattle.dp_net.specs.Hidden.{marks_of}
use Rattle.dp_net.proofs.Assembled.{quieted}
use Rattle.dp_net.proofs.PacketsFollow.{packet_follows}
use Rattle.dp_lean.specs.Laws.{Came, PacketsCome}
use Rattle.dp_lean.proofs.Placed.{numbered}
use Rattle.dp_lean.proofs.TextTurns.{packets_of_text}

nothing : (t : ℕ) → item_list [] t ≡ []
nothing zero = refl
nothing (suc t) = refl

came_so : (key : EpochKey) → fits_plan key.program key.plan ≡ true → (k : ℕ) → Ascends k (map access_site (region_accesses key.program key.plan)) →
    (pays : List Stmt → Bool) (s n : ℕ) →
    is_void (net_passed (marks_of key.program key.plan pays) (epoch_of key) s n).packet.status ≡ false →
    Came key.program key.plan (marks_of key.program key.plan pays) (suc s) (net_passed (marks_of key.program key.plan pays) (epoch_of key) s n).packet.lists
came_so key fits k up pays zero n alive = record { size = refl; follows = ended nothing; of_text = refl }
came_so key fits k up pays (suc s) n alive =
    let f = packet_follows (quieted key fits k up pays) (accepted key.program key.plan fits) (suc s) n (omega arith) alive in
    record { size = ap suc f.size; follows = f.follows; of_text = packets_of_text (quieted key fits k up pays) (accepted key.program key.plan fits) (suc s) n }

pub packets_come : (p : Program) (plan : Plan) → IsInlined p → fits_plan p plan ≡ true → PacketsCome p plan
packets_come p plan inlined fits key same_program same_plan pays s n = by key same_program same_plan up.0 up.1
  where
    up : (k : ℕ) × Ascends k (map access_site (region_accesses p plan))
    up = numbered p plan inlined (accepted p plan fits)

    Goal : Program → Plan → EpochKey → Type 0
    Goal p plan key = is_void (net_passed (marks_of p plan pays) (epoch_of key) s n).packet.status ≡ false →
        Came p plan (marks_of p plan pays) (suc s) (net_passed (marks_of p plan pays) (epoch_of key) s n).packet.lists

    by : (key : EpochKey) → key.program ≡ p → key.plan ≡ plan → (k : ℕ) → Ascends k (map access_site (region_accesses p plan)) → Goal p plan key
    by key e f k up =
        subst (λ (q : Program). Goal q plan key) e (subst (λ (r : Plan). Goal key.program r key) f
        (came_so key (rw (e, f) fits) k (rw (e, f) up) pays s n))
