-- A turn over lists that follow the earlier stages' text tells what its own asks for: what holds, and a site outside of the blocks.
use Rattle.dp_semantics.proofs.Names.{◌≡◌, inl, inr, refl, sym, ap, ◌∙◌, subst, append_assoc, ℕ, zero, suc, ◌+◌, ◌-◌, ◌<◌, ◌≤◌, ◌==◌, Bool, true, false, ◌&&◌}
use Rattle.dp_semantics.proofs.Names.{◌||◌, if◌then◌else◌, List, [], ◌∷◌, ◌++◌, ℤ, length, Option, Some, None, Ok, Err, arith, nat_le, eq-eqb, eqb-true}
use Rattle.dp_semantics.proofs.Names.{slice_set, and_parts, cases_Bool, cases_eq, Stmt, out-Stmt, Stmt-F, Program, Plan, Word, Evaluated, evaluated, WithLoads}
use Rattle.dp_semantics.proofs.Names.{Event, Effect, site_of, value_of, stored, followed, stage_of, first_site, closes_at, event_as_assumed, words_of}
use Rattle.dp_semantics.proofs.Names.{project_all, Access, accesses, well_nested}
use Rattle.dp_semantics.proofs.Each.{Each, each_map, each_split}
use Rattle.dp_semantics.proofs.Evaluation.{Form, head_loads, Readable, evaluated_tracks}
use Rattle.dp_semantics.proofs.Heads.{accesses_all, accesses_at, accesses_out, head_access, all_well, well_at, well_out}
use Rattle.dp_semantics.proofs.Setting.{Sound}
use Rattle.dp_semantics.proofs.Ways.{event_of}
use Rattle.dp_semantics.proofs.Followed.{followed_has, all_joins}
use Rattle.dp_semantics.proofs.Taking.{effect_of_word}
use Rattle.dp_theorem.proofs.Source.{well_parts, each_joins, each_parts, head_fact}
use Rattle.dp_net.specs.NetItems.{Marks, Item, weights, said_all, item_list, NetTaken, net_taken_from}
use Rattle.dp_net.specs.NetRun.{NetTurn, NetEnded, net_turned, net_own_step, net_consumed_step, net_by}
unfoldable use Rattle.dp_net.specs.NetRun.{net_from}
use Rattle.dp_net.specs.Follows.{Others, FollowsText, told}
use Rattle.dp_net.proofs.Groups.{Marked}
use Rattle.dp_net.proofs.Projections.{Kept, AllKept}
use Rattle.dp_net.proofs.Reading.{said_taken, follows_same, Found, read_site, read_past}
use Rattle.dp_net.proofs.Texts.{site_at, Plain, Text}
use Rattle.dp_semantics.proofs.Shorter.{some_word}
use Rattle.dp_net.proofs.ItemLists.{said_some, list_wide, list_others, with_own, with_here, with_other}

module _ (p : Program) (plan : Plan) (m : Marks) (input : List ℤ) (marked : Marked p plan m input) (s : ℕ) where
  abbrev pub stage : ℕ
  stage = suc s

  -- the text that the earlier stages tell of
  abbrev pub part : ℕ → List Stmt → List Stmt
  part zero xs = []
  part (suc t) xs = project_all p plan (suc t) xs

  abbrev pub Came : List Stmt → (ℕ → List Item) → Type 0
  Came xs left = FollowsText p plan m (part s xs) left

  pub record ReadableText (xs : List Stmt) : Type 0 where
    pub well : all_well p plan xs ≡ true
    pub sites : AllKept p plan stage (Sound p plan) xs
    pub text : Text m xs

  -- what a turn tells from here, and what then follows the text
  pub record Tells (xs : List Stmt) (left : ℕ → List Item) (own : List Item) (e : NetEnded) : Type 0 where
    pub more : List Item
    pub own_is : e.own ≡ own ++ more
    pub follows : FollowsText p plan m xs (with_own stage more left)

  abbrev pub TellsIn : ℕ → Type 0
  TellsIn n = (xs : List Stmt) → ReadableText xs → (cells : List ℤ) (lists : List (List Item)) (own : List Item) (closing : Bool) (e : NetEnded) →
      Came xs (item_list lists) →
      net_from p plan m input stage n (record { to_do = xs; cells = cells; lists = lists; own = own; closing = closing }) ≡ Some e →
      Tells xs (item_list lists) own e

  module _ (n : ℕ) (go : TellsIn n) (x : Stmt) (cells : List ℤ) (lists : List (List Item)) (own : List Item) (closing : Bool) (e : NetEnded) where
    abbrev pub h : Stmt-F Stmt
    h = out-Stmt x

    abbrev pub u : ℕ
    u = stage_of p plan (site_at x)

    abbrev pub left : ℕ → List Item
    left = item_list lists

    abbrev pub turn : List Stmt → NetTurn
    turn xs = record { to_do = xs; cells = cells; lists = lists; own = own; closing = closing }

    module _ (rest : List Stmt) (r : ReadableText (x ∷ rest)) (came : Came (x ∷ rest) left) where
      parts : (well_nested p plan x ≡ true) × (all_well p plan rest ≡ true)
      parts = and_parts (well_nested p plan x) (all_well p plan rest) r.well

      well : well_at p plan h ≡ true
      well = sym (well_out p plan x) ∙ parts.0

      sites : Each (Kept p plan stage (Sound p plan)) (accesses_at h) × Each (Kept p plan stage (Sound p plan)) (accesses_all rest)
      sites =
          let both = each_split (Kept p plan stage (Sound p plan)) (accesses x) (accesses_all rest) r.sites in
          (subst (λ (l : List Access). Each (Kept p plan stage (Sound p plan)) l) (accesses_out x) both.0, both.1)

      pub own_site : Kept p plan stage (Sound p plan) (head_access h)
      own_site = head_fact (Kept p plan stage (Sound p plan)) p plan h well sites.0

      low : 0 < u
      low = own_site.0.staged

      next_well : (z : ℤ) → all_well p plan (followed x rest h z) ≡ true
      next_well z = followed_has (λ (xs : List Stmt). all_well p plan xs ≡ true)
          (all_joins (well_nested p plan)) x rest h z r.well parts.1 (well_parts p plan h well)

      next_sites : (z : ℤ) → AllKept p plan stage (Sound p plan) (followed x rest h z)
      next_sites z = followed_has (AllKept p plan stage (Sound p plan))
          (each_joins (Kept p plan stage (Sound p plan))) x rest h z r.sites sites.1 (each_parts (Kept p plan stage (Sound p plan)) h sites.0)

      form_here : (v : WithLoads Effect) → evaluated p input cells h ≡ Ok v → Form p h v.value
      form_here v q = (evaluated_tracks p input cells cells (λ l. Unit {0}) h own_site.0.room
          (each_map (λ y. 0 < Rattle.dp_tree.specs.Eval.cell_count p (record { 0 = y })) (Readable p cells (λ l. Unit {0})) (λ y k. (k, λ c i. tt))
          (head_loads h) own_site.0.reads) v q).value

      -- a site outside of the blocks
      module _ (plain : Plain m x) (texts : (z : ℤ) → Text m (followed x rest h z)) where
        next_text : (z : ℤ) → ReadableText (followed x rest h z)
        next_text z = record { well = next_well z; sites = next_sites z; text = texts z }

        own_past : u ≡ stage → (effect : Effect) → Form p h effect →
            event_as_assumed p plan (record { site = (site_of h).0; loads = []; effect = effect }) ≡ true →
            Came (followed x rest h (value_of effect)) left
        own_past here effect form assumed = by s refl came
          where
            by : (t : ℕ) → s ≡ t → FollowsText p plan m (part t (x ∷ rest)) left → FollowsText p plan m (part t (followed x rest h (value_of effect))) left
            by zero is f = f
            by (suc t) is f = read_past p plan m (suc t) x rest well parts.1 (omega arith) (omega (arith, here, is)) effect form assumed f

        own_tells : u ≡ stage → (o : Evaluated Effect) → evaluated p input cells h ≡ o →
            net_by p plan m input stage (net_from p plan m input stage n) (net_own_step p plan (turn (x ∷ rest)) x rest h o) ≡ Some e →
            Tells (x ∷ rest) left own e
        own_tells here (Err kind) gave q = absurd (cc q)
        own_tells here (Ok v) gave q = by (event_as_assumed p plan event) (nat_le (weights own + length ws) plan.words) refl q
          where
            event : Event
            event = event_of h v

            ws : List Word
            ws = words_of p plan event

            by : (a b : Bool) → event_as_assumed p plan event ≡ a →
                net_by p plan m input stage (net_from p plan m input stage n)
                (if a && b then Some (net_turned p plan (turn (x ∷ rest)) x rest h v.value (own ++ said_all ws) lists) else None) ≡ Some e →
                Tells (x ∷ rest) left own e
            by false b assumed q = absurd (cc q)
            by true false assumed q = absurd (cc q)
            by true true assumed q =
                let form = form_here v gave in
                let t = go (followed x rest h (value_of v.value)) (next_text (value_of v.value)) (stored v.value cells) lists (own ++ said_all ws)
                (closing || closes_at (first_site p plan) (site_of h).0 v.value) e (own_past here v.value form assumed) q in
                record {
                  more = said_all ws ++ t.more;
                  own_is = t.own_is ∙ append_assoc own (said_all ws) t.more;
                  follows = told {next = with_own stage t.more left} event plain.0
                      (record {
                        site = refl;
                        does = effect_of_word p h (site_of h).0 v.value form;
                        assumed = assumed;
                        front = with_here stage (said_all ws
                            ++ t.more) left u here ∙ ap (λ (is : List Item). said_all ws ++ is) (sym (with_here stage t.more left u here));
                      })
                      (λ y differs. with_other stage t.more left y (λ same. differs (same ∙ sym here))
                      ∙ sym (with_other stage (said_all ws ++ t.more) left y (λ same. differs (same ∙ sym here)))) t.follows;
                }

        found : (u ≡ stage → ⊥) → Found p plan m s x rest left
        found other = by s refl came
          where
            by : (t : ℕ) → s ≡ t → FollowsText p plan m (part t (x ∷ rest)) left → Found p plan m t x rest left
            by zero is f = let reach = own_site.1 in let real = low in absurd (other (omega (arith, reach, real, is)))
            by (suc t) is f = read_site p plan m (suc t) x rest well parts.1 (let reach = own_site.1 in not_own reach) plain.0 f
              where
                not_own : u ≤ stage → u ≤ suc t
                not_own reach = elim (cases_eq u stage) [ inl same ↦ absurd (other same) | inr less ↦ omega (arith, reach, less, is) ]

        taken_tells : (u ≡ stage → ⊥) → (o : Option NetTaken) → net_taken_from p h (left u) ≡ o →
            net_by p plan m input stage (net_from p plan m input stage n) (net_consumed_step p plan (turn (x ∷ rest)) x rest h o) ≡ Some e →
            Tells (x ∷ rest) left own e
        taken_tells other None is q = absurd (cc q)
        taken_tells other (Some w) is q = with_found (found other)
          where
            with_found : Found p plan m s x rest left → Tells (x ∷ rest) left own e
            with_found f =
                let clash : Some (record { effect = f.event.effect; rest = f.next u }) ≡ Some w = sym (said_taken p plan h f.event (left u)
                (f.next u) f.says) ∙ is in
                let same : record { effect = f.event.effect; rest = f.next u } ≡ w = cc clash in
                let went : net_from p plan m input stage n
                (record {
                  to_do = followed x rest h (value_of f.event.effect);
                  cells = stored f.event.effect cells;
                  lists = slice_set lists (u - 1) (f.next
                      u);
                  own = own;
                  closing = closing || closes_at (first_site p plan) (site_of h).0 f.event.effect;
                }) ≡ Some e =
                ap (λ (t : NetTaken). net_from p plan m input stage n
                (record {
                  to_do = followed x rest h (value_of t.effect);
                  cells = stored t.effect cells;
                  lists = slice_set lists (u
                      - 1) t.rest;
                  own = own;
                  closing = closing || closes_at (first_site p plan) (site_of h).0 t.effect;
                })) same ∙ q in
                let wide = within f in
                let lists_next = list_others p plan m lists u (f.next u) f.next low wide refl f.others in
                let t = go (followed x rest h (value_of f.event.effect)) (next_text (value_of f.event.effect)) (stored f.event.effect cells)
                (slice_set lists (u - 1) (f.next u)) own (closing || closes_at (first_site p plan) (site_of h).0 f.event.effect) e
                (later_came f lists_next) went in
                record {
                  more = t.more;
                  own_is = t.own_is;
                  follows = told {next = with_own stage t.more (item_list (slice_set lists (u - 1) (f.next u)))} f.event plain.0
                      (record {
                        site = f.says.site;
                        does = f.says.does;
                        assumed = f.says.assumed;
                        front = with_other stage t.more left u other ∙ f.says.front
                            ∙ ap (λ (is : List Item). said_all (words_of p plan f.event) ++ is)
                            (sym (with_other stage t.more (item_list (slice_set lists (u - 1) (f.next u))) u other ∙ lists_next u));
                      })
                      (others_with f lists_next t.more) t.follows;
                }
              where
                within : Found p plan m s x rest left → u < suc (length lists)
                within f = by (said_all (words_of p plan f.event) ++ f.next u) f.says.front (said_some (words_of p plan f.event) (f.next u)
                    (some_word p plan f.event))
                  where
                    by : (is : List Item) → left u ≡ is → 0 < length is → u < suc (length lists)
                    by [] at some = absurd (omega (arith, some))
                    by (i ∷ is) at some = list_wide p plan m lists u i is low at

                later_came : (f : Found p plan m s x rest left) → ((t : ℕ) → item_list (slice_set lists (u - 1) (f.next u)) t ≡ f.next t) →
                    Came (followed x rest h (value_of f.event.effect)) (item_list (slice_set lists (u - 1) (f.next u)))
                later_came f same = by s refl f.later
                  where
                    by : (t : ℕ) → s ≡ t → FollowsText p plan m (project_all p plan t (followed x rest h (value_of f.event.effect))) f.next →
                        FollowsText p plan m (part t (followed x rest h (value_of f.event.effect))) (item_list (slice_set lists (u - 1) (f.next u)))
                    by zero is k = let reach = own_site.1 in let real = low in absurd (other (omega (arith, reach, real, is)))
                    by (suc t) is k = follows_same p plan m k (item_list (slice_set lists (u - 1) (f.next u))) same

                others_with : (f : Found p plan m s x rest left) → ((t : ℕ) → item_list (slice_set lists (u - 1) (f.next u)) t ≡ f.next t) →
                    (more : List Item) → Others u (with_own stage more left) (with_own stage more (item_list (slice_set lists (u - 1) (f.next u))))
                others_with f same more t differs = ap (λ (is : List Item). if t == stage then more else is) (same t ∙ f.others t differs)

        pub site_tells : net_from p plan m input stage (suc n) (turn (x ∷ rest)) ≡ Some e → Tells (x ∷ rest) left own e
        unfolding net_from
        site_tells q = elim (cases_Bool (u == stage)) [
          | inl here ↦ own_tells (eqb-true u stage here) (evaluated p input cells h) refl (rw (plain.0, here) at q)
          | inr other ↦ taken_tells (λ same. apart same other) (net_taken_from p h (left u)) refl (rw (plain.0, other) at q)
        ]
          where
            apart : u ≡ stage → (u == stage) ≡ false → ⊥
            apart same e = let clash : true ≡ false = sym (eq-eqb u stage same) ∙ e in absurd (cc clash)
