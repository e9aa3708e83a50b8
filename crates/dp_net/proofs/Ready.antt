-- What is asked of the sites of a text, so that memories which agree give each stage the same.
use Rattle.dp_semantics.proofs.Names.{◌≡◌, refl, sym, ◌∙◌, subst, ℕ, zero, suc, ◌<◌, Bool, true, false, List, [], ◌∷◌, ◌++◌, ℤ, list_all, Ok, Err, slice_set}
use Rattle.dp_semantics.proofs.Names.{get_or, list_all-append, and_parts, FaultKind, Stmt, out-Stmt, Stmt-F, Program, Plan, Evaluated, evaluated, WithLoads}
use Rattle.dp_semantics.proofs.Names.{Event, Effect, site_of, value_of, stored, followed, stage_of, is_checked, cell_count, last}
use Rattle.dp_semantics.proofs.Each.{Each, each_map}
use Rattle.dp_semantics.proofs.Evaluation.{InVar, IsHeld, Readable, Roomy, head_loads, head_stores, evaluated_tracks}
use Rattle.dp_semantics.proofs.Ways.{event_of}
use Rattle.dp_semantics.proofs.Followed.{Parts, followed_has, all_joins}
use Rattle.dp_net.specs.Quiet.{BlockOutcome, Through, Broke, with_event, quiet_by}
unfoldable use Rattle.dp_net.specs.Quiet.{quiet_from}
use Rattle.dp_net.specs.NetItems.{Marks}
use Rattle.dp_net.proofs.Silent.{AllQuiet}
use Rattle.dp_net.proofs.Blocks.{onward, head_of}
use Rattle.dp_net.proofs.Memories.{Open, Agrees, agree_stored}
use Rattle.dp_net.proofs.Groups.{Marked}

-- what is asked of a site: the cells that it loads aren't hidden by another stage, nor by its own where it is checked
pub record Ready (p : Program) (plan : Plan) (m : Marks) (h : Stmt-F Stmt) : Type 0 where
  pub reads : Each (λ y. (0 < cell_count p (record { 0 = y })) × ((c : ℕ) → InVar p y c → Open m (stage_of p plan (site_of h).0) c)) (head_loads h)
  pub told : is_checked p plan (site_of h).0 ≡ true → Each (λ y. (c : ℕ) → InVar p y c → (u : ℕ) → m.hides u c ≡ false) (head_loads h)
  pub room : Roomy p (head_stores h)
  pub staged : 0 < stage_of p plan (site_of h).0
  pub early : stage_of p plan (site_of h).0 < last plan

pub each_set : {X : Type 0} (P : X → Type 0) (l : List X) (i : ℕ) (x : X) → Each P l → P x → Each P (slice_set l i x)
each_set P [] zero x h k = tt
each_set P [] (suc i) x h k = tt
each_set P (y ∷ l) zero x h k = (k, h.1)
each_set P (y ∷ l) (suc i) x h k = (h.0, each_set P l i x h.1 k)

pub each_get : {X : Type 0} (P : X → Type 0) (l : List X) (i : ℕ) (d : X) → Each P l → P d → P (get_or l i d)
each_get P [] zero d h k = k
each_get P [] (suc i) d h k = k
each_get P (y ∷ l) zero d h k = h.0
each_get P (y ∷ l) (suc i) d h k = each_get P l i d h.1 k

pub data SameEval : Evaluated Effect → Evaluated Effect → Type 0 where
  same_value : (v : WithLoads Effect) → SameEval (Ok v) (Ok v)
  same_fault : (k l : FaultKind) → SameEval (Err k) (Err l)

pub data SameOutcome (m : Marks) (s : ℕ) : BlockOutcome → BlockOutcome → Type 0 where
  same_through : (events : List Event) (a b : List ℤ) → Agrees m s a b → SameOutcome m s (Through events a) (Through events b)
  same_broke : SameOutcome m s Broke Broke

module _ (p : Program) (plan : Plan) (m : Marks) (input : List ℤ) (marked : Marked p plan m input) (test : Stmt → Bool) where
  abbrev pub Steady : List Stmt → Type 0
  Steady xs = list_all test xs ≡ true

  module _ (ready : (x : Stmt) → test x ≡ true → Ready p plan m (out-Stmt x) × Parts (λ xs. list_all test xs ≡ true) (out-Stmt x)) (s : ℕ) where
    pub steady_head : (x : Stmt) (rest : List Stmt) → Steady (x ∷ rest) → Ready p plan m (out-Stmt x)
    steady_head x rest h = (ready x (and_parts (test x) (list_all test rest) h).0).0

    pub steady_next : (x : Stmt) (rest : List Stmt) (z : ℤ) → Steady (x ∷ rest) → Steady (followed x rest (out-Stmt x) z)
    steady_next x rest z h = let parts = and_parts (test x)
        (list_all test rest) h in followed_has Steady (all_joins test) x rest (out-Stmt x) z h parts.1 (ready x parts.0).1

    pub steady_split : (a b : List Stmt) → Steady (a ++ b) → Steady a × Steady b
    steady_split a b h = and_parts (list_all test a) (list_all test b) (sym (list_all-append test a b) ∙ h)

    -- An own evaluation is the same in memories that agree.
    pub eval_ok : (h : Stmt-F Stmt) → Ready p plan m h → stage_of p plan (site_of h).0 ≡ s → (a b : List ℤ) → Agrees m s a b →
        (v : WithLoads Effect) → evaluated p input a h ≡ Ok v → evaluated p input b h ≡ Ok v
    eval_ok h r here a b ab v e =
        let known = each_map (λ y. (0 < cell_count p (record { 0 = y })) × ((c : ℕ) → InVar p y c → Open m (stage_of p plan (site_of h).0) c))
        (Readable p a (IsHeld b))
        (λ y k. (k.0, λ c i. sym (ab.same c (subst (λ (u : ℕ). Open m u c) here (k.1 c i))))) (head_loads h) r.reads in
        let t = evaluated_tracks p input a b (IsHeld b) h r.room known v e in
        t.same t.loads

    pub turned_round : {a b : List ℤ} → Agrees m s a b → Agrees m s b a
    turned_round ab = record { size = sym ab.size; same = λ c o. sym (ab.same c o) }

    pub eval_same : (h : Stmt-F Stmt) → Ready p plan m h → stage_of p plan (site_of h).0 ≡ s → (a b : List ℤ) → Agrees m s a b →
        SameEval (evaluated p input a h) (evaluated p input b h)
    eval_same h r here a b ab = by (evaluated p input a h) (evaluated p input b h) refl refl
      where
        by : (u w : Evaluated Effect) → evaluated p input a h ≡ u → evaluated p input b h ≡ w → SameEval u w
        by (Ok v) w e f = subst (λ (y : Evaluated Effect). SameEval (Ok v) y) (sym (eval_ok h r here a b ab v e) ∙ f) (same_value v)
        by (Err k) (Ok v) e f = let clash : Err k ≡ Ok v = sym e ∙ eval_ok h r here b a (turned_round ab) v f in absurd (cc clash)
        by (Err k) (Err l) e f = same_fault k l

    pub outcome_same : (n : ℕ) (to_do : List Stmt) (a b : List ℤ) → Steady to_do → AllQuiet p plan s to_do → Agrees m s a b →
        SameOutcome m s (quiet_from p input n to_do a) (quiet_from p input n to_do b)
    unfolding quiet_from
    outcome_same zero [] a b h q ab = same_through [] a b ab
    outcome_same zero (x ∷ rest) a b h q ab = same_broke
    outcome_same (suc n) [] a b h q ab = same_through [] a b ab
    outcome_same (suc n) (x ∷ rest) a b h q ab =
        by (evaluated p input a (out-Stmt x)) (evaluated p input b (out-Stmt x))
        (eval_same (out-Stmt x) (steady_head x rest h) (head_of p plan s x rest q).stage a b ab)
        (λ v. outcome_same n (followed x rest (out-Stmt x) (value_of v.value)) (stored v.value a) (stored v.value b)
        (steady_next x rest (value_of v.value) h) (onward p plan s x rest (value_of v.value) q) (agree_stored m s v.value a b ab))
      where
        more : (event : Event) (o u : BlockOutcome) → SameOutcome m s o u → SameOutcome m s (with_event event o) (with_event event u)
        more event o u (same_through events c d cd) = same_through (event ∷ events) c d cd
        more event o u same_broke = same_broke

        by : (u w : Evaluated Effect) → SameEval u w →
            ((v : WithLoads Effect) →
            SameOutcome m s (quiet_from p input n (followed x rest (out-Stmt x) (value_of v.value)) (stored v.value a))
            (quiet_from p input n (followed x rest (out-Stmt x) (value_of v.value)) (stored v.value b))) →
            SameOutcome m s (quiet_by (quiet_from p input n) x rest a (out-Stmt x) u) (quiet_by (quiet_from p input n) x rest b (out-Stmt x) w)
        by u w (same_value v) go = more (event_of (out-Stmt x) v) _ _ (go v)
        by u w (same_fault k l) go = same_broke
