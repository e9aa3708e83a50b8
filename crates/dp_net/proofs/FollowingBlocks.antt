-- A turn over lists that follow the earlier stages' text, at a block: it tells what its own text asks for.
use Rattle.dp_semantics.proofs.Names.{◌≡◌, inl, inr, refl, sym, ap, ◌∙◌, subst, append_assoc, list_all-append, flat_map-append, lt-ltb, ℕ, zero, suc, ◌-◌, ◌<◌}
use Rattle.dp_semantics.proofs.Names.{◌≤◌, ◌==◌, Bool, if◌then◌else◌, List, [], ◌∷◌, ◌++◌, drop-append_seam, ℤ, length, Some, arith, eq-eqb, ne_eqb, slice_set}
use Rattle.dp_semantics.proofs.Names.{and_parts, cases_eq, Stmt, Program, Plan, Effect, stage_of, project_all, Access, accesses, well_nested, applied}
use Rattle.dp_semantics.proofs.Each.{Each, each_split}
use Rattle.dp_semantics.proofs.Heads.{accesses_all, all_well}
use Rattle.dp_semantics.proofs.Setting.{Sound}
use Rattle.dp_net.specs.Quiet.{BlockOutcome, Through, Broke}
unfoldable use Rattle.dp_net.specs.Quiet.{quiet_from}
use Rattle.dp_net.specs.NetItems.{Marks, Item, Net, net_of, weights, item_list}
use Rattle.dp_net.specs.NetRun.{NetTurn, NetEnded, net_past, net_made, net_met, net_by, net_step, block_step}
unfoldable use Rattle.dp_net.specs.NetRun.{net_from}
use Rattle.dp_net.specs.Follows.{FollowsText, met}
use Rattle.dp_net.proofs.Blocks.{effects_of}
use Rattle.dp_net.proofs.Silent.{AllQuiet}
use Rattle.dp_net.proofs.Groups.{Marked}
use Rattle.dp_net.proofs.BlockSteps.{made_some}
use Rattle.dp_net.proofs.Projections.{Kept}
use Rattle.dp_net.proofs.Reading.{follows_same, FoundBlock, read_block, read_past_block}
use Rattle.dp_net.proofs.Texts.{site_at, Text}
use Rattle.dp_net.proofs.Stores.{told_stores}
use Rattle.dp_net.proofs.ItemLists.{list_wide, list_others, with_own, with_here, with_other}
use Rattle.dp_net.proofs.FollowingSites.{part, Came, ReadableText, Tells, TellsIn, own_site}

module _ (p : Program) (plan : Plan) (m : Marks) (input : List ℤ) (marked : Marked p plan m input) (s : ℕ) where
  abbrev stage : ℕ
  stage = suc s

  module _ (n : ℕ) (go : TellsIn p plan m input marked s n) (x : Stmt) (cells : List ℤ) (lists : List (List Item)) (own : List Item) (closing : Bool)
      (e : NetEnded) where
    abbrev u : ℕ
    u = stage_of p plan (site_at x)

    abbrev left : ℕ → List Item
    left = item_list lists

    abbrev turn : List Stmt → NetTurn
    turn xs = record { to_do = xs; cells = cells; lists = lists; own = own; closing = closing }

    -- a block at the head
    module _ (b more : List Stmt) (at : m.block_at (site_at x) ≡ x ∷ b) (r : ReadableText p plan m input marked s (x ∷ (b ++ more))) (text : Text m more)
        (came : Came p plan m input marked s (x ∷ (b ++ more)) left) where
      quiet : AllQuiet p plan u (x ∷ b)
      quiet = marked.quiet (site_at x) x b at

      behind : ReadableText p plan m input marked s more
      behind = record {
        well = (and_parts (all_well p plan (x ∷ b)) (all_well p plan more) (sym (list_all-append (well_nested p plan) (x ∷ b) more) ∙ r.well)).1;
        sites = (each_split (Kept p plan stage (Sound p plan)) (accesses_all (x ∷ b)) (accesses_all more)
            (subst (λ (l : List Access). Each (Kept p plan stage (Sound p plan)) l) (flat_map-append accesses (x ∷ b) more) r.sites)).1;
        text = text;
      }

      low_block : 0 < u
      low_block = (own_site p plan m input marked s n go x cells lists own closing e (b ++ more) r came).0.staged

      block_reach : u ≤ stage
      block_reach = (own_site p plan m input marked s n go x cells lists own closing e (b ++ more) r came).1

      step_is : net_step p plan m input stage (turn (x ∷ (b ++ more))) x (b ++ more) ≡ block_step p plan m input stage (turn (x ∷ (b ++ more))) (site_at x)
          (x ∷ b) more
      step_is = rw (at, drop-append_seam b more) refl

      came_past : u ≡ stage → Came p plan m input marked s more left
      came_past here = by s refl came
        where
          by : (t : ℕ) → s ≡ t → FollowsText p plan m (part p plan m input marked s t (x ∷ (b ++ more))) left →
              FollowsText p plan m (part p plan m input marked s t more) left
          by zero is f = f
          by (suc t) is f = read_past_block p plan m (suc t) u x b more at quiet (omega (arith, here, is)) f

      made_tells : u ≡ stage → (o : BlockOutcome) → quiet_from p input (plan.words - weights own) (x ∷ b) cells ≡ o →
          net_by p plan m input stage (net_from p plan m input stage n) (net_made p plan m (site_at x) (turn (x ∷ (b ++ more))) more o) ≡ Some e →
          Tells p plan m input marked s (x ∷ (b ++ more)) left own e
      made_tells here Broke is q = absurd (cc q)
      made_tells here (Through events after) is q =
          let stores : List Effect = net_of (m.hides u) (effects_of events) in
          let item : Item = Net (site_at x) (length events) stores in
          let t = go more behind after lists (own ++ item ∷ []) closing e (came_past here) q in
          record {
            more = item ∷ t.more;
            own_is = t.own_is ∙ append_assoc own (item ∷ []) t.more;
            follows = met {next = with_own stage t.more left} (length events) stores at refl (made_some p input (plan.words - weights own) x b cells events
                after is) (told_stores (m.hides u) (effects_of events))
                (with_here stage (item ∷ t.more) left u here ∙ ap (λ (is : List Item). item ∷ is) (sym (with_here stage t.more left u here)))
                (λ y differs. with_other stage t.more left y (λ same. differs (same ∙ sym here))
                ∙ sym (with_other stage (item ∷ t.more) left y (λ same. differs (same ∙ sym here)))) t.follows;
          }

      found_block : (u ≡ stage → ⊥) → FoundBlock p plan m s x more left
      found_block other = by s refl came
        where
          by : (t : ℕ) → s ≡ t → FollowsText p plan m (part p plan m input marked s t (x ∷ (b ++ more))) left → FoundBlock p plan m t x more left
          by zero is f = let reach = block_reach in let real = low_block in absurd (other (omega (arith, reach, real, is)))
          by (suc t) is f = read_block p plan m (suc t) u x b more at quiet (not_own block_reach) f
            where
              not_own : u ≤ stage → u ≤ suc t
              not_own reach = elim (cases_eq u stage) [ inl same ↦ absurd (other same) | inr less ↦ omega (arith, reach, less, is) ]

      met_tells : (other : u ≡ stage → ⊥) → FoundBlock p plan m s x more left →
          net_by p plan m input stage (net_from p plan m input stage n) (net_met p plan (site_at x) (turn (x ∷ (b ++ more))) more (left u)) ≡ Some e →
          Tells p plan m input marked s (x ∷ (b ++ more)) left own e
      met_tells other f q = tells
        where
          lists_next : List (List Item)
          lists_next = slice_set lists (u - 1) (f.next u)

          met_is : net_met p plan (site_at x) (turn (x ∷ (b ++ more))) more (left u) ≡ Some (net_past p plan (turn (x ∷ (b ++ more))) more
              (applied f.stores cells) lists_next own)
          met_is = ap (net_met p plan (site_at x) (turn (x ∷ (b ++ more))) more) f.front
              ∙ rw (eq-eqb (site_at x) (site_at x) refl, lt-ltb 0 f.count f.some) refl

          same : (t : ℕ) → item_list lists_next t ≡ f.next t
          same = list_others p plan m lists u (f.next u) f.next low_block (list_wide p plan m lists u _ _ low_block f.front) refl f.others

          later : Came p plan m input marked s more (item_list lists_next)
          later = by s refl f.later
            where
              by : (t : ℕ) → s ≡ t → FollowsText p plan m (project_all p plan t more) f.next →
                  FollowsText p plan m (part p plan m input marked s t more) (item_list lists_next)
              by zero is k = let reach = block_reach in let real = low_block in absurd (other (omega (arith, reach, real, is)))
              by (suc t) is k = follows_same p plan m k (item_list lists_next) same

          t : Tells p plan m input marked s more (item_list lists_next) own e
          t = go more behind (applied f.stores cells) lists_next own closing e later
              (sym (ap (net_by p plan m input stage (net_from p plan m input stage n)) met_is) ∙ q)

          tells : Tells p plan m input marked s (x ∷ (b ++ more)) left own e
          tells = record {
            more = t.more;
            own_is = t.own_is;
            follows = met {next = with_own stage t.more (item_list lists_next)} f.count f.stores at refl f.some f.all
                (with_other stage t.more left u other ∙ f.front
                ∙ ap (λ (is : List Item). Net (site_at x) f.count f.stores ∷ is) (sym (with_other stage t.more (item_list lists_next) u other ∙ same u)))
                (λ y differs. ap (λ (is : List Item). if y == stage then t.more else is) (same y ∙ f.others y differs)) t.follows;
          }

      pub block_tells : net_from p plan m input stage (suc n) (turn (x ∷ (b ++ more))) ≡ Some e → Tells p plan m input marked s (x ∷ (b ++ more)) left own e
      unfolding net_from
      block_tells q = by (ap (net_by p plan m input stage (net_from p plan m input stage n)) (sym step_is) ∙ q)
        where
          by : net_by p plan m input stage (net_from p plan m input stage n)
              (block_step p plan m input stage (turn (x ∷ (b ++ more))) (site_at x) (x ∷ b) more) ≡ Some e →
              Tells p plan m input marked s (x ∷ (b ++ more)) left own e
          by q = elim (cases_eq u stage) [
            | inl here ↦ made_tells here (quiet_from p input (plan.words - weights own) (x ∷ b) cells) refl (rw (eq-eqb u stage here) at q)
            | inr other ↦ met_tells other (found_block other) (rw (ne_eqb u stage other) at q)
          ]
