-- Quiet statements against a stage's turn and the judgement: what the stage itself makes of them, and how a later one takes their words.
use Rattle.dp_semantics.proofs.Names.{has_cell, stores_known, list_any, ◌≡◌, refl, sym, ap, ◌∙◌, ℕ, ◌-◌, ◌==◌, Bool, true, false, not, ◌&&◌, ◌||◌, List, []}
use Rattle.dp_semantics.proofs.Names.{◌∷◌, ℤ, Option, Some, None, Ok, nat_le, ltb-true, eqb-true, list_all, and_parts, and_from, Stmt, out-Stmt, roll-Stmt}
use Rattle.dp_semantics.proofs.Names.{roll-out-Stmt, opened_statement, rolls-Assign, rolls-Store, rolls-Print, rolls-If, rolls-While, rolls-Region, rolls-Break}
use Rattle.dp_semantics.proofs.Names.{rolls-Call, Stmt-F, Assign, Store, Print, If, While, Region, Break, Call, Program, Plan, Assume, evaluated, WithLoads}
use Rattle.dp_semantics.proofs.Names.{Effect, Stored, Printed, Decided, Tried, site_of, taken, leaves, stage_of, first_site, is_checked, goes_as, stays_late}
use Rattle.dp_semantics.proofs.Names.{as_assumed, went, done_word, words_of, closes_at}
use Rattle.dp_tree.proofs.SitesOf.{everywhere_hidden}
use Rattle.dp_semantics.proofs.Evaluation.{Form, head_loads, head_stores, Readable, Roomy, evaluated_tracks}
use Rattle.dp_semantics.proofs.Each.{Each, all_of, each_map, none_of}
use Rattle.dp_semantics.proofs.Followed.{Parts}
use Rattle.dp_net.specs.Quiet.{is_assumed_at, is_quiet_site, is_quiet_access, quiet_at, is_quiet}

module _ (p : Program) (plan : Plan) (t : ℕ) where
  abbrev pub all_quiet : List Stmt → Bool
  all_quiet xs = list_all (is_quiet p plan t) xs

  abbrev pub quiet_own : Stmt-F Stmt → Bool
  quiet_own h = is_quiet_access p plan t (site_of h).0 (head_loads h) (head_stores h)

  abbrev pub quiet_head : Stmt-F Stmt → Bool
  quiet_head (Assign site x e) = quiet_own (Assign site x e)
  quiet_head (Store site x index e) = quiet_own (Store site x index e)
  quiet_head (If site cond a b) = quiet_own (If site cond a b) && (all_quiet a && all_quiet b)
  quiet_head (While site cond a) = quiet_own (While site cond a) && all_quiet a
  quiet_head _ = false

  quiet_roll : (h : Stmt-F Stmt) → is_quiet p plan t (roll-Stmt h) ≡ quiet_head h
  unfolding opened_statement
  quiet_roll (Assign site x e) = ap (is_quiet p plan t) (rolls-Assign site x e)
  quiet_roll (Store site x index e) = ap (is_quiet p plan t) (rolls-Store site x index e)
  quiet_roll (Print site e) = ap (is_quiet p plan t) (rolls-Print site e)
  quiet_roll (If site cond a b) = rw (rolls-If site cond a b, everywhere_hidden (quiet_at p plan t) a, everywhere_hidden (quiet_at p plan t) b)
  quiet_roll (While site cond a) = rw (rolls-While site cond a, everywhere_hidden (quiet_at p plan t) a)
  quiet_roll (Region r site cond a) = rw (rolls-Region r site cond a)
  quiet_roll (Break site cond) = ap (is_quiet p plan t) (rolls-Break site cond)
  quiet_roll (Call f line args) = ap (is_quiet p plan t) (rolls-Call f line args)

  pub quiet_out : (x : Stmt) → is_quiet p plan t x ≡ quiet_head (out-Stmt x)
  quiet_out x = ap (is_quiet p plan t) (sym (roll-out-Stmt x)) ∙ quiet_roll (out-Stmt x)

  abbrev pub AllQuiet : List Stmt → Type 0
  AllQuiet xs = all_quiet xs ≡ true

  -- what is known of a quiet head
  pub record QuietHead (h : Stmt-F Stmt) : Type 0 where
    pub stage : stage_of p plan (site_of h).0 ≡ t
    pub unchecked : is_checked p plan (site_of h).0 ≡ false
    pub inner : ((site_of h).0 == first_site p plan) ≡ false
    pub free : list_any (is_assumed_at (site_of h).0) plan.assume ≡ false
    pub reads : Each (λ y. has_cell p y ≡ true) (head_loads h)
    pub stores : stores_known p (head_stores h) ≡ true
    pub parts : Parts AllQuiet h
    pub onward : (z : ℤ) → taken h z ≡ false
    pub tries : (z : ℤ) → Form p h (Tried z) → ⊥
    pub mute : (z : ℤ) → Form p h (Printed z) → ⊥

  is_not : (b : Bool) → not b ≡ true → b ≡ false
  is_not true e = absurd (cc)
  is_not false e = refl

  known_quiet_by : (h : Stmt-F Stmt) → quiet_own h ≡ true → Parts AllQuiet h → ((z : ℤ) → taken h z ≡ false) → ((z : ℤ) → Form p h (Tried z) → ⊥) →
      ((z : ℤ) → Form p h (Printed z) → ⊥) → QuietHead h
  known_quiet_by h q parts onward tries mute =
      let both = and_parts (is_quiet_site p plan t (site_of h).0) (list_all (has_cell p) (head_loads h) && stores_known p (head_stores h)) q in
      let one = and_parts (stage_of p plan (site_of h).0 == t)
      (not (is_checked p plan (site_of h).0) && (not ((site_of h).0 == first_site p plan) && not (list_any (is_assumed_at (site_of h).0) plan.assume))) both.0
      in
      let two = and_parts (not (is_checked p plan (site_of h).0))
      (not ((site_of h).0 == first_site p plan) && not (list_any (is_assumed_at (site_of h).0) plan.assume)) one.1 in
      let three = and_parts (not ((site_of h).0 == first_site p plan)) (not (list_any (is_assumed_at (site_of h).0) plan.assume)) two.1 in
      let four = and_parts (list_all (has_cell p) (head_loads h)) (stores_known p (head_stores h)) both.1 in
      record {
        stage = eqb-true (stage_of p plan (site_of h).0) t one.0;
        unchecked = is_not (is_checked p plan (site_of h).0) two.0;
        inner = is_not ((site_of h).0 == first_site p plan) three.0;
        free = is_not (list_any (is_assumed_at (site_of h).0) plan.assume) three.1;
        reads = all_of (has_cell p) (head_loads h) four.0;
        stores = four.1;
        parts = parts;
        onward = onward;
        tries = tries;
        mute = mute;
      }

  pub known_quiet : (h : Stmt-F Stmt) → quiet_head h ≡ true → QuietHead h
  known_quiet (Assign site x e) q = known_quiet_by (Assign site x e) q tt (λ z. refl) (λ z f. f) (λ z f. f)
  known_quiet (Store site x index e) q = known_quiet_by (Store site x index e) q tt (λ z. refl) (λ z f. f) (λ z f. f)
  known_quiet (If site cond a b) q =
      let both = and_parts (quiet_own (If site cond a b)) (all_quiet a && all_quiet b) q in
      known_quiet_by (If site cond a b) both.0 (and_parts (all_quiet a) (all_quiet b) both.1) (λ z. refl) (λ z f. f) (λ z f. f)
  known_quiet (While site cond a) q =
      let both = and_parts (quiet_own (While site cond a)) (all_quiet a) q in
      known_quiet_by (While site cond a) both.0 both.1 (λ z. refl) (λ z f. f) (λ z f. f)
  known_quiet _ q = absurd (cc)

  module _ (h : Stmt-F Stmt) (q : QuietHead h) where
    room : (o : Option ℕ) → stores_known p o ≡ true → Roomy p o
    room None e = tt
    room (Some x) e = ltb-true 0 _ e

    reads : (input cells : List ℤ) → Each (Readable p cells (λ l. Unit {0})) (head_loads h)
    reads input cells = each_map (λ y. has_cell p y ≡ true) (Readable p cells (λ l. Unit {0})) (λ y e. (ltb-true 0 _ e, λ c i. tt)) (head_loads h) q.reads

    -- its effect has its form, and doesn't leave
    pub form_is : (input cells : List ℤ) (v : WithLoads Effect) → evaluated p input cells h ≡ Ok v → Form p h v.value
    form_is input cells v e = (evaluated_tracks p input cells cells (λ l. Unit {0}) h (room (head_stores h) q.stores) (reads input cells) v e).value

    pub stays_in : (effect : Effect) → Form p h effect → leaves effect ≡ false
    stays_in (Stored c z) f = refl
    stays_in (Printed z) f = refl
    stays_in (Decided z) f = refl
    stays_in (Tried z) f = absurd (q.tries z f)

    pub closes_not : (effect : Effect) → Form p h effect → closes_at (first_site p plan) (site_of h).0 effect ≡ false
    closes_not effect f = rw (q.inner, stays_in effect f)

    pub words_are : (loads : List Rattle.dp_tree.specs.Eval.Load) (effect : Effect) →
        words_of p plan (record { site = (site_of h).0; loads = loads; effect = effect }) ≡ done_word (site_of h).0 effect ∷ []
    words_are loads effect = rw q.unchecked

    nothing_assumed : (effect : Effect) (all : List Assume) → list_any (is_assumed_at (site_of h).0) all ≡ false →
        list_all (goes_as (site_of h).0 effect) all ≡ true
    nothing_assumed effect [] e = refl
    nothing_assumed effect (a ∷ all) e =
        let n = none_of (is_assumed_at (site_of h).0) (a ∷ all) e in
        and_from (goes_as (site_of h).0 effect a) (list_all (goes_as (site_of h).0 effect) all) (ap (λ (b : Bool). not b || went a.taken effect) n.0)
        (nothing_assumed effect all (tail_none (is_assumed_at (site_of h).0) a all e))
      where
        tail_none : (test : Assume → Bool) (a : Assume) (all : List Assume) → list_any test (a ∷ all) ≡ false → list_any test all ≡ false
        tail_none test a all e = (Rattle.dp_semantics.proofs.Names.or_parts (test a) (list_any test all) e).1

    pub goes_assumed : (effect : Effect) → Form p h effect → as_assumed p plan (site_of h).0 effect ≡ true
    goes_assumed effect f = and_from (list_all (goes_as (site_of h).0 effect) plan.assume) (stays_late p plan (site_of h).0 effect)
        (nothing_assumed effect plan.assume q.free)
        (ap (λ (b : Bool). not b || nat_le (stage_of p plan (site_of h).0) 1) (stays_in effect f))
