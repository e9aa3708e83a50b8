-- In a packet that isn't void each list is what following its stage's text asks for.
use Rattle.dp_semantics.proofs.Names.{◌≡◌, ◌⊎◌, refl, sym, ap, ◌∙◌, subst, ℕ, zero, suc, ◌+◌, ◌<◌, ◌≤◌, Bool, true, false, List, [], ◌∷◌, ◌++◌, ℤ, length}
use Rattle.dp_semantics.proofs.Names.{length-append, Option, Some, None, arith, slice_get, sum_by, cases_eq, cases_lt, inl, inr, Stmt, project_all}
use Rattle.dp_semantics.proofs.Names.{region_statement, Epoch}
use Rattle.dp_semantics.proofs.Setting.{Accepted}
use Rattle.dp_net.specs.NetItems.{Marks, Item, weights, item_list}
use Rattle.dp_net.specs.NetRun.{NetEnded, net_run}
use Rattle.dp_net.specs.NetPackets.{NetStatus, NetGoing, NetClosing, NetVoid, NetPacket, NetPassed, net_passed, net_passed_on, net_run_on}
use Rattle.dp_net.specs.Follows.{PacketFollows, FollowsText, ended, is_void}
use Rattle.dp_net.proofs.Projections.{text_well, text_sites, earlier_part}
use Rattle.dp_net.proofs.Reading.{follows_same}
use Rattle.dp_net.proofs.FollowingSites.{ReadableText, Tells}
use Rattle.dp_net.proofs.Following.{tells}
use Rattle.dp_net.proofs.ItemLists.{with_own, list_early, list_next, list_past}
use Rattle.dp_net.proofs.NetSent.{runs_from}
use Rattle.dp_net.proofs.Sent.{Quieted}

module _ {k : Epoch} {m : Marks} {test : Stmt → Bool} (q : Quieted k m test) (ok : Accepted k.program k.plan) where
  open k use {program, plan, input}

  -- what leaves a stage and isn't void came so, and the turn came to its end
  record Left (s : ℕ) (before : List ℤ) (came left : NetPacket) : Type 0 where
    ended_as : NetEnded
    ends : net_run program plan m input s before came.lists ≡ Some ended_as
    alive : is_void came.status ≡ false
    lists : left.lists ≡ came.lists ++ ended_as.own ∷ []

  left_as : (s : ℕ) (before : List ℤ) (came : NetPacket) → is_void (net_run_on m k s before came).packet.status ≡ false →
      Left s before came (net_run_on m k s before came).packet
  left_as s before came = by came.status refl (net_run program plan m input s before came.lists) refl
    where
      by : (status : NetStatus) → came.status ≡ status → (turn : Option NetEnded) → net_run program plan m input s before came.lists ≡ turn →
          is_void (net_passed_on m k s before came turn status).packet.status ≡ false → Left s before came (net_passed_on m k s before came turn status).packet
      by NetVoid is turn e alive = let clash : true ≡ false = sym (ap is_void is) ∙ alive in absurd (cc clash)
      by NetGoing is (Some f) e alive = record { ended_as = f; ends = e; alive = ap is_void is; lists = refl }
      by NetClosing is (Some f) e alive = record { ended_as = f; ends = e; alive = ap is_void is; lists = refl }
      by NetGoing is None e alive = absurd (cc alive)
      by NetClosing is None e alive = absurd (cc alive)

  -- the lists of stage s, one for each stage, follow its text
  record Followed (s : ℕ) (packet : NetPacket) : Type 0 where
    size : length packet.lists ≡ s
    follows : (t : ℕ) → s ≡ suc t → FollowsText program plan m (project_all program plan s (region_statement program plan)) (item_list packet.lists)

  text_readable : (s : ℕ) → ReadableText program plan m input q.marked s (project_all program plan (suc s) (region_statement program plan))
  text_readable s = record {
    well = text_well ok (suc s) (omega arith);
    sites = text_sites ok (suc s) (omega arith);
    text = q.texts (suc s);
  }

  next_follows : (s : ℕ) (before : List ℤ) (came left : NetPacket) → Followed s came → Left (suc s) before came left → Followed (suc s) left
  next_follows s before came left f l = record {
    size = let more = length-append came.lists (l.ended_as.own ∷ []) in let is = ap length l.lists in let size = f.size in omega (arith, more, is, size);
    follows = λ t e. follows_same program plan m told.follows (item_list left.lists) lists_are;
  }
    where
      text : List Stmt
      text = project_all program plan (suc s) (region_statement program plan)

      came_is : FollowsText program plan m (Rattle.dp_net.proofs.FollowingSites.part program plan m input q.marked s s text) (item_list came.lists)
      came_is = by s refl
        where
          none_there : (lists : List (List Item)) → length lists ≡ 0 → (t : ℕ) → item_list lists t ≡ []
          none_there lists e zero = refl
          none_there lists e (suc t) = list_past program plan m lists (suc t) (omega arith) (omega (arith, e))

          by : (r : ℕ) → s ≡ r →
              FollowsText program plan m (Rattle.dp_net.proofs.FollowingSites.part program plan m input q.marked s r (project_all program plan (suc r)
              (region_statement program plan))) (item_list came.lists)
          by zero e = let size = f.size in ended (none_there came.lists (omega (arith, size, e)))
          by (suc r) e = subst (λ (xs : List Stmt). FollowsText program plan m xs (item_list came.lists))
              (sym (earlier_part ok (suc r) (suc (suc r)) (omega arith) (omega arith)))
              (subst (λ (t : ℕ). FollowsText program plan m (project_all program plan t (region_statement program plan))
              (item_list came.lists)) e (f.follows r e))

      told : Tells program plan m input q.marked s text (item_list came.lists) [] l.ended_as
      told = tells program plan m input q.marked s (plan.words + sum_by weights came.lists + 1) text (text_readable s) before came.lists [] false
          l.ended_as came_is l.ends

      lists_are : (t : ℕ) → item_list left.lists t ≡ with_own (suc s) told.more (item_list came.lists) t
      lists_are t = ap (λ (ls : List (List Item)). item_list ls t) l.lists ∙ by t
        where
          size_is : length came.lists ≡ s
          size_is = f.size

          own_is : l.ended_as.own ≡ told.more
          own_is = told.own_is

          by : (t : ℕ) → item_list (came.lists ++ l.ended_as.own ∷ []) t ≡ with_own (suc s) told.more (item_list came.lists) t
          by zero = sym (Rattle.dp_net.proofs.ItemLists.with_other (suc s) told.more (item_list came.lists) zero (λ e. omega (arith, e)))
          by (suc t) = elim (cases_lt t s) [
            | inl early ↦ list_early program plan m came.lists l.ended_as.own (suc t) (omega arith) (omega (arith, early, size_is))
                ∙ sym (Rattle.dp_net.proofs.ItemLists.with_other (suc s) told.more (item_list came.lists) (suc t) (λ e. omega (arith, e, early)))
            | inr late ↦ last_or_past late (cases_eq t s)
          ]
            where
              last_or_past : s ≤ t → (t ≡ s) ⊎ (t ≡ s → ⊥) →
                  item_list (came.lists ++ l.ended_as.own ∷ []) (suc t) ≡ with_own (suc s) told.more (item_list came.lists) (suc t)
              last_or_past late (inl here) =
                  ap (λ (n : ℕ). item_list (came.lists ++ l.ended_as.own ∷ []) (suc n)) (here ∙ sym size_is)
                  ∙ list_next program plan m came.lists l.ended_as.own ∙ own_is
                  ∙ sym (Rattle.dp_net.proofs.ItemLists.with_here (suc s) told.more (item_list came.lists) (suc t) (ap suc here))
              last_or_past late (inr other) =
                  list_past program plan m (came.lists ++ l.ended_as.own ∷ []) (suc t) (omega arith)
                  (let more = length-append came.lists (l.ended_as.own ∷ []) in omega (arith, more, size_is, late, other))
                  ∙ sym (Rattle.dp_net.proofs.ItemLists.with_other (suc s) told.more (item_list came.lists) (suc t) (λ e. other (omega (arith, e)))
                  ∙ list_past program plan m came.lists (suc t) (omega arith) (omega (arith, size_is, late)))

  sent_follows : (s n : ℕ) → is_void (net_passed m k s n).packet.status ≡ false → Followed s (net_passed m k s n).packet
  sent_follows zero n alive = record { size = refl; follows = λ t e. absurd (omega (arith, e)) }
  sent_follows (suc s) n alive =
      let run = runs_from m k (slice_get plan.stages s) (suc s) (net_passed m k s) n in
      let left = left_as (suc s) run.0 (net_passed m k s n).packet (ap (λ (w : NetPassed). is_void w.packet.status) (sym run.1) ∙ alive) in
      subst (λ (w : NetPassed). Followed (suc s) w.packet) (sym run.1)
      (next_follows s run.0 (net_passed m k s n).packet (net_run_on m k (suc s) run.0 (net_passed m k s n).packet).packet (sent_follows s n left.alive) left)

  pub packet_follows : (s n : ℕ) → 0 < s → is_void (net_passed m k s n).packet.status ≡ false → PacketFollows program plan m s (net_passed m k s n).packet
  packet_follows zero n low alive = absurd (omega (arith, low))
  packet_follows (suc s) n low alive = let f = sent_follows (suc s) n alive in record { size = f.size; follows = f.follows s refl }
