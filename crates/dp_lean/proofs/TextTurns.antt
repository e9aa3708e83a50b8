-- What a turn tells is of the text, and so are the lists of each packet.
use Rattle.dp_semantics.proofs.Names.{◌≡◌, inl, inr, refl, sym, ap, ◌∙◌, subst, arith, ℕ, zero, suc, ◌+◌, ◌-◌, ◌<◌, ◌≤◌, ◌==◌, Bool, true, false, ◌&&◌, ◌||◌}
use Rattle.dp_semantics.proofs.Names.{if◌then◌else◌, List, [], ◌∷◌, ◌++◌, drop-append_seam, ℤ, length, map, Option, Some, None, Ok, Err, list_all}
use Rattle.dp_semantics.proofs.Names.{list_all-append, flat_map-append, flat_map, and_parts, and_from, eq-eqb, ne_eqb, nat_le, cases_Bool, cases_eq, slice_get}
use Rattle.dp_semantics.proofs.Names.{sum_by, Stmt, out-Stmt, Stmt-F, Program, Plan, Event, Evaluated, evaluated, Effect, site_of, value_of, stored, followed}
use Rattle.dp_semantics.proofs.Names.{stage_of, event_as_assumed, words_of, project_all, region_statement, Access, accesses, well_nested, Epoch}
use Rattle.dp_semantics.proofs.Each.{Each, each_both, each_map, each_split}
use Rattle.dp_semantics.proofs.Heads.{accesses_all, accesses_at, accesses_out, all_well, well_at, well_out}
use Rattle.dp_semantics.proofs.Setting.{Sound, Listed, listed_all, Accepted}
use Rattle.dp_semantics.proofs.Followed.{followed_has, all_joins}
use Rattle.dp_semantics.proofs.Ways.{event_of}
use Rattle.dp_theorem.proofs.Source.{well_parts, each_joins, each_parts, head_fact}
use Rattle.dp_net.specs.Quiet.{BlockOutcome, Through, Broke}
unfoldable use Rattle.dp_net.specs.Quiet.{quiet_from}
use Rattle.dp_net.specs.NetItems.{Marks, Item, Net, net_of, said_all, weights, NetTaken, net_taken_from, item_list}
use Rattle.dp_net.specs.NetRun.{NetTurn, NetEnded, net_turned, net_own_step, net_consumed_step, net_by, net_step, block_step, net_made, net_met, net_run}
unfoldable use Rattle.dp_net.specs.NetRun.{net_from}
use Rattle.dp_net.specs.NetPackets.{NetStatus, NetGoing, NetClosing, NetVoid, NetPacket, NetPassed, net_passed, net_passed_on, net_run_on}
use Rattle.dp_net.proofs.Blocks.{effects_of}
use Rattle.dp_net.proofs.Groups.{Marked}
use Rattle.dp_net.proofs.NetSent.{runs_from}
use Rattle.dp_net.proofs.Projections.{Kept, AllKept, text_well, text_sites}
use Rattle.dp_net.proofs.Sent.{Quieted}
use Rattle.dp_net.proofs.Texts.{site_at, Plain, Text, alone, joined, headed}
use Rattle.dp_lean.specs.Queues.{is_of_text, are_of_text, stores_among}
use Rattle.dp_lean.proofs.TextItems.{AllOf, net_among, effects_ok, words_of_text}

module _ (p : Program) (plan : Plan) (m : Marks) (input : List ℤ) (marked : Marked p plan m input) (s : ℕ) where
  record Spoken (xs : List Stmt) : Type 0 where
    well : all_well p plan xs ≡ true
    sites : AllKept p plan s (Sound p plan) xs
    text : Text m xs

  join_of : (a b : List Item) → AllOf p plan m input a → AllOf p plan m input b → AllOf p plan m input (a ++ b)
  join_of a b h k = list_all-append (is_of_text p plan m) a b ∙ and_from (list_all (is_of_text p plan m) a) (list_all (is_of_text p plan m) b) h k

  abbrev Tells : ℕ → Type 0
  Tells n = (xs : List Stmt) → Spoken xs → (cells : List ℤ) (lists : List (List Item)) (own : List Item) (closing : Bool) (e : NetEnded) →
      AllOf p plan m input own →
      net_from p plan m input s n (record { to_do = xs; cells = cells; lists = lists; own = own; closing = closing }) ≡ Some e → AllOf p plan m input e.own

  module _ (n : ℕ) (go : Tells n) (x : Stmt) (cells : List ℤ) (lists : List (List Item)) (own : List Item) (closing : Bool) (e : NetEnded)
      (all : AllOf p plan m input own) where
    abbrev h : Stmt-F Stmt
    h = out-Stmt x

    abbrev u : ℕ
    u = stage_of p plan (site_at x)

    abbrev turn : List Stmt → NetTurn
    turn xs = record { to_do = xs; cells = cells; lists = lists; own = own; closing = closing }

    -- what goes on with these own items
    abbrev Onward : Option NetTurn → Type 0
    Onward o = net_by p plan m input s (net_from p plan m input s n) o ≡ Some e → AllOf p plan m input e.own

    module _ (rest : List Stmt) (r : Spoken (x ∷ rest)) (plain : Plain m x) (texts : (z : ℤ) → Text m (followed x rest (out-Stmt x) z)) where
      parts : (well_nested p plan x ≡ true) × (all_well p plan rest ≡ true)
      parts = and_parts (well_nested p plan x) (all_well p plan rest) r.well

      well : well_at p plan h ≡ true
      well = sym (well_out p plan x) ∙ parts.0

      sites : Each (Kept p plan s (Sound p plan)) (accesses_at h) × Each (Kept p plan s (Sound p plan)) (accesses_all rest)
      sites =
          let both = each_split (Kept p plan s (Sound p plan)) (accesses x) (accesses_all rest) r.sites in
          (subst (λ (l : List Access). Each (Kept p plan s (Sound p plan)) l) (accesses_out x) both.0, both.1)

      next : (z : ℤ) → Spoken (followed x rest h z)
      next z = record {
        well = followed_has (λ (xs : List Stmt). all_well p plan xs ≡ true) (all_joins (well_nested p plan)) x rest h z r.well parts.1
            (well_parts p plan h well);
        sites = followed_has (AllKept p plan s (Sound p plan)) (each_joins (Kept p plan s (Sound p plan))) x rest h z r.sites sites.1
            (each_parts (Kept p plan s (Sound p plan)) h sites.0);
        text = texts z;
      }

      own_tells : (o : Evaluated Effect) → evaluated p input cells h ≡ o → Onward (net_own_step p plan (turn (x ∷ rest)) x rest h o)
      own_tells (Err kind) gave q = absurd (cc q)
      own_tells (Ok v) gave q = by (event_as_assumed p plan (event_of h v) && nat_le (weights own + length (words_of p plan (event_of h v))) plan.words) q
        where
          by : (b : Bool) → Onward
              (if b then Some (net_turned p plan (turn (x ∷ rest)) x rest h v.value (own ++ said_all (words_of p plan (event_of h v))) lists) else None)
          by true q = go _ (next (value_of v.value)) _ lists (own ++ said_all (words_of p plan (event_of h v))) _ e
              (join_of own (said_all (words_of p plan (event_of h v))) all
              (words_of_text p plan m input h (head_fact (Kept p plan s (Sound p plan)) p plan h well sites.0).0 cells v gave)) q
          by false q = absurd (cc q)

      taken_tells : (o : Option NetTaken) → Onward (net_consumed_step p plan (turn (x ∷ rest)) x rest h o)
      taken_tells None q = absurd (cc q)
      taken_tells (Some w) q = go _ (next (value_of w.effect)) _ _ own _ e all q

      site_tells : net_from p plan m input s (suc n) (turn (x ∷ rest)) ≡ Some e → AllOf p plan m input e.own
      unfolding net_from
      site_tells q = elim (cases_Bool (u == s)) [
        | inl here ↦ own_tells (evaluated p input cells h) refl (rw (plain.0, here) at q)
        | inr other ↦ taken_tells (net_taken_from p h (item_list lists u)) (rw (plain.0, other) at q)
      ]

    module _ (b more : List Stmt) (at : m.block_at (site_at x) ≡ x ∷ b) (r : Spoken (x ∷ (b ++ more))) (text : Text m more) where
      behind : Spoken more
      behind = record {
        well = (and_parts (all_well p plan (x ∷ b)) (all_well p plan more) (sym (list_all-append (well_nested p plan) (x ∷ b) more) ∙ r.well)).1;
        sites = (each_split (Kept p plan s (Sound p plan)) (accesses_all (x ∷ b)) (accesses_all more)
            (subst (λ (l : List Access). Each (Kept p plan s (Sound p plan)) l) (flat_map-append accesses (x ∷ b) more) r.sites)).1;
        text = text;
      }

      listed : Each (λ a. Sound p plan a × Listed (accesses_all (x ∷ b)) a) (accesses_all (x ∷ b))
      listed = each_both (Sound p plan) (Listed (accesses_all (x ∷ b))) (accesses_all (x ∷ b))
          (each_map (Kept p plan s (Sound p plan)) (Sound p plan) (λ a k. k.0) (accesses_all (x ∷ b))
          (each_split (Kept p plan s (Sound p plan)) (accesses_all (x ∷ b)) (accesses_all more)
          (subst (λ (l : List Access). Each (Kept p plan s (Sound p plan)) l) (flat_map-append accesses (x ∷ b) more) r.sites)).0)
          (listed_all (accesses_all (x ∷ b)))

      item_of : (events : List Event) (after : List ℤ) → quiet_from p input (plan.words - weights own) (x ∷ b) cells ≡ Through events after →
          is_of_text p plan m (Net (site_at x) (length events) (net_of (m.hides u) (effects_of events))) ≡ true
      item_of events after gave =
          ap (λ (block : List Stmt). list_all (stores_among p plan (flat_map accesses block)) (net_of (m.hides u) (effects_of events))) at
          ∙ net_among p plan (accesses_all (x ∷ b)) (m.hides u) (effects_of events)
          (effects_ok p plan (accesses_all (x ∷ b)) input s (plan.words - weights own) (x ∷ b) cells events after
          (and_parts (all_well p plan (x ∷ b)) (all_well p plan more) (sym (list_all-append (well_nested p plan) (x ∷ b) more) ∙ r.well)).0 listed gave)

      made_tells : (o : BlockOutcome) → quiet_from p input (plan.words - weights own) (x ∷ b) cells ≡ o →
          Onward (net_made p plan m (site_at x) (turn (x ∷ (b ++ more))) more o)
      made_tells Broke gave q = absurd (cc q)
      made_tells (Through events after) gave q = go more behind after lists _ closing e (join_of own _ all (and_from _ true (item_of events after gave) refl)) q

      met_tells : (is : List Item) → Onward (net_met p plan (site_at x) (turn (x ∷ (b ++ more))) more is)
      met_tells [] q = absurd (cc q)
      met_tells (Rattle.dp_net.specs.NetItems.Said w ∷ is) q = absurd (cc q)
      met_tells (Net f count stores ∷ is) q = by ((f == site_at x) && Rattle.dp_semantics.proofs.Names.nat_lt 0 count) q
        where
          by : (c : Bool) → Onward
              (if c then Some (Rattle.dp_net.specs.NetRun.net_past p plan (turn (x ∷ (b ++ more))) more (Rattle.dp_semantics.proofs.Names.applied stores cells)
              (Rattle.dp_semantics.proofs.Names.slice_set lists (stage_of p plan (site_at x) - 1) is) own) else None)
          by true q = go more behind _ _ own closing e all q
          by false q = absurd (cc q)

      block_tells : net_from p plan m input s (suc n) (turn (x ∷ (b ++ more))) ≡ Some e → AllOf p plan m input e.own
      unfolding net_from
      block_tells q = elim (cases_Bool (u == s)) [
        | inl here ↦ made_tells (quiet_from p input (plan.words - weights own) (x ∷ b) cells) refl (rw (at, drop-append_seam b more, here) at q)
        | inr other ↦ met_tells (item_list lists u) (rw (at, drop-append_seam b more, other) at q)
      ]

  tells : (n : ℕ) → Tells n
  unfolding net_from
  tells zero xs r cells lists own closing e all q = absurd (cc q)
  tells (suc n) [] r cells lists own closing e all q =
      let same : record { own = own; cells = cells; closing = closing } ≡ e = cc q in
      ap (λ (f : NetEnded). list_all (is_of_text p plan m) f.own) (sym same) ∙ all
  tells (suc n) (x ∷ rest) r cells lists own closing e all q = elim (headed m p plan input marked x rest r.text) [
    | alone plain texts ↦ site_tells n (tells n) x cells lists own closing e all rest r plain texts q
    | joined b behind at is text ↦
        subst (λ (ys : List Stmt). Spoken (x ∷ ys) →
        net_from p plan m input s (suc n) (record { to_do = x ∷ ys; cells = cells; lists = lists; own = own; closing = closing }) ≡ Some e →
        AllOf p plan m input e.own) (sym is)
        (λ r q. block_tells n (tells n) x cells lists own closing e all b behind at r text q) r q
  ]

module _ {k : Epoch} {m : Marks} {test : Stmt → Bool} (q : Quieted k m test) (ok : Accepted k.program k.plan) where
  open k use {program, plan, input}

  turn_of_text : (t : ℕ) (before : List ℤ) (lists : List (List Item)) (e : NetEnded) → net_run program plan m input (suc t) before lists ≡ Some e →
      list_all (is_of_text program plan m) e.own ≡ true
  turn_of_text t before lists e r =
      tells program plan m input q.marked (suc t) (plan.words + sum_by weights lists + 1) (project_all program plan (suc t) (region_statement program plan))
      (record { well = text_well ok (suc t) (omega arith); sites = text_sites ok (suc t) (omega arith); text = q.texts (suc t) }) before lists [] false e refl r

  passed_of_text : (t : ℕ) (before : List ℤ) (came : NetPacket) → are_of_text program plan m came.lists ≡ true →
      are_of_text program plan m (net_run_on m k (suc t) before came).packet.lists ≡ true
  passed_of_text t before came all = by came.status (net_run program plan m input (suc t) before came.lists) refl
    where
      by : (status : NetStatus) (turn : Option NetEnded) → net_run program plan m input (suc t) before came.lists ≡ turn →
          are_of_text program plan m (net_passed_on m k (suc t) before came turn status).packet.lists ≡ true
      by NetVoid turn e = all
      by NetGoing None e = all
      by NetClosing None e = all
      by NetGoing (Some f) e = list_all-append (list_all (is_of_text program plan m)) came.lists (f.own ∷ [])
          ∙ and_from (are_of_text program plan m came.lists) _ all (and_from (list_all (is_of_text program plan m) f.own) true
          (turn_of_text t before came.lists f e) refl)
      by NetClosing (Some f) e = list_all-append (list_all (is_of_text program plan m)) came.lists (f.own ∷ [])
          ∙ and_from (are_of_text program plan m came.lists) _ all (and_from (list_all (is_of_text program plan m) f.own) true
          (turn_of_text t before came.lists f e) refl)

  -- The lists of each packet are of the text.
  pub packets_of_text : (s n : ℕ) → are_of_text program plan m (net_passed m k s n).packet.lists ≡ true
  packets_of_text zero n = refl
  packets_of_text (suc s) n =
      let run = runs_from m k (slice_get plan.stages s) (suc s) (net_passed m k s) n in
      ap (λ (w : NetPassed). are_of_text program plan m w.packet.lists) run.1 ∙ passed_of_text s run.0 (net_passed m k s n).packet (packets_of_text s n)
