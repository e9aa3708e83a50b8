-- What a plan's blocks are, and what a site loads isn't hidden from it.
use Rattle.dp_semantics.proofs.Names.{◌≡◌, inl, inr, refl, sym, ap, ◌∙◌, ℕ, ◌<◌, ◌==◌, Bool, true, false, not, ◌&&◌, ◌||◌, List, [], ◌∷◌, length, list_all}
use Rattle.dp_semantics.proofs.Names.{list_any, Option, Some, None, arith, nat_lt, eq-eqb, eqb-true, ltb-true, and_parts, or-true, cases_Bool, Stmt, out-Stmt}
use Rattle.dp_semantics.proofs.Names.{roll-Stmt, roll-out-Stmt, opened_statement, rolls-Assign, rolls-Store, rolls-Print, rolls-If, rolls-While, rolls-Region}
use Rattle.dp_semantics.proofs.Names.{rolls-Break, rolls-Call, Stmt-F, Assign, Store, Print, If, While, Region, Break, Call, Program, Plan, site_of, stage_of}
use Rattle.dp_semantics.proofs.Names.{cell_count, first_cell, Access, region_accesses, is_body_local, is_local_at, is_checked, has_cell, last}
use Rattle.dp_tree.specs.declared.Stmt.TheVariants as tree
use Rattle.dp_tree.specs.Numbering.{numbers_from}
use Rattle.dp_tree.specs.Statements.{everywhere}
use Rattle.dp_tree.proofs.SitesOf.{everywhere_hidden}
use Rattle.dp_plan.specs.Access.{access_at}
use Rattle.dp_semantics.specs.Fits.{stores_known}
use Rattle.dp_semantics.proofs.Each.{Each, each_map, all_of, each_both}
use Rattle.dp_semantics.proofs.Setting.{Laid, head_access}
use Rattle.dp_semantics.proofs.Evaluation.{InVar, Roomy, head_loads, head_stores}
use Rattle.dp_semantics.proofs.Followed.{Parts}
use Rattle.dp_net.specs.NetItems.{Marks}
use Rattle.dp_net.specs.Hidden.{loads_var, home, at_home, is_private, is_hidden_by, is_hidden}
use Rattle.dp_net.proofs.Ready.{Ready}

module _ (p : Program) (plan : Plan) where
  -- the site keeps to what is asked of hidden variables, and its own variables have cells
  abbrev pub is_clear : Access → ℕ → Bool
  is_clear a x = not (is_private p plan x) || at_home p plan x a

  abbrev pub is_sound : Access → Bool
  is_sound a = (list_all (has_cell p) a.loads && stores_known p a.stores) && ((nat_lt 0 (stage_of p plan a.site) && nat_lt (stage_of p plan a.site)
      (last plan)) && list_all (is_clear a) (numbers_from 0 (length p.vars)))

  -- the statement is no call, and its site is sound; a test of all statements inside
  abbrev pub sound_at : Stmt → Bool
  sound_at (tree.Call f line args) = false
  sound_at x = list_all is_sound (access_at x)

  abbrev pub all_sound : Stmt → Bool
  all_sound x = everywhere sound_at x

  abbrev pub sound_head : Stmt-F Stmt → Bool
  sound_head (Assign site x e) = is_sound (head_access (Assign site x e)) && true
  sound_head (Store site x index e) = is_sound (head_access (Store site x index e)) && true
  sound_head (Print site e) = is_sound (head_access (Print site e)) && true
  sound_head (If site cond a b) = (is_sound (head_access (If site cond a b)) && true) && (list_all all_sound a && list_all all_sound b)
  sound_head (While site cond a) = (is_sound (head_access (While site cond a)) && true) && list_all all_sound a
  sound_head (Region r site cond a) = (is_sound (head_access (Region r site cond a)) && true) && list_all all_sound a
  sound_head (Break site cond) = is_sound (head_access (Break site cond)) && true
  sound_head (Call f line args) = false

  pub sound_roll : (h : Stmt-F Stmt) → all_sound (roll-Stmt h) ≡ sound_head h
  unfolding opened_statement
  sound_roll (Assign site x e) = ap all_sound (rolls-Assign site x e)
  sound_roll (Store site x index e) = ap all_sound (rolls-Store site x index e)
  sound_roll (Print site e) = ap all_sound (rolls-Print site e)
  sound_roll (If site cond a b) = rw (rolls-If site cond a b, everywhere_hidden sound_at a, everywhere_hidden sound_at b)
  sound_roll (While site cond a) = rw (rolls-While site cond a, everywhere_hidden sound_at a)
  sound_roll (Region r site cond a) = rw (rolls-Region r site cond a, everywhere_hidden sound_at a)
  sound_roll (Break site cond) = ap all_sound (rolls-Break site cond)
  sound_roll (Call f line args) = ap all_sound (rolls-Call f line args)

  sound_out : (x : Stmt) → all_sound x ≡ sound_head (out-Stmt x)
  sound_out x = ap all_sound (sym (roll-out-Stmt x)) ∙ sound_roll (out-Stmt x)

  module _ (laid : Laid p plan) (m : Marks) (hides_is : m.hides ≡ is_hidden p plan) where
    -- a hidden cell is a private variable's
    record HiddenBy (u c : ℕ) : Type 0 where
      x : ℕ
      among : (test : ℕ → Bool) → list_all test (numbers_from 0 (length p.vars)) ≡ true → test x ≡ true
      private_ : is_private p plan x ≡ true
      stage : home p plan x ≡ u
      inside : InVar p x c

    found_in : (u c : ℕ) (xs : List ℕ) → list_any (is_hidden_by p plan u c) xs ≡ true →
        (x : ℕ) × ((test : ℕ → Bool) → list_all test xs ≡ true → test x ≡ true) × (is_hidden_by p plan u c x ≡ true)
    found_in u c [] e = absurd (cc)
    found_in u c (x ∷ xs) e = elim (cases_Bool (is_hidden_by p plan u c x)) [
      | inl q ↦ (x, λ test all. (and_parts (test x) (list_all test xs) all).0, q)
      | inr q ↦ let r = found_in u c xs (rw q at e) in (r.0, λ test all. r.1 test (and_parts (test x) (list_all test xs) all).1, r.2)
    ]

    hidden_by : (u c : ℕ) → is_hidden p plan u c ≡ true → HiddenBy u c
    hidden_by u c e =
        let f = found_in u c (numbers_from 0 (length p.vars)) e in
        let both = and_parts (is_private p plan f.0) ((home p plan f.0 == u) && (first_cell p (record { 0 = f.0 }) == c)) f.2 in
        let two = and_parts (home p plan f.0 == u) (first_cell p (record { 0 = f.0 }) == c) both.1 in
        let local = and_parts (is_body_local p plan f.0 && has_cell p f.0) (list_all (at_home p plan f.0) (region_accesses p plan)) both.0 in
        let cell : 0 < cell_count p (record { 0 = f.0 }) = ltb-true 0 _ (and_parts (is_body_local p plan f.0) (has_cell p f.0) local.0).1 in
        let at : first_cell p (record { 0 = f.0 }) ≡ c = eqb-true _ c two.1 in
        record { x = f.0; among = f.1; private_ = both.0; stage = eqb-true (home p plan f.0) u two.0; inside = (omega (arith, at), omega (arith, at, cell)) }

    pub hidden_local : (u c : ℕ) → m.hides u c ≡ true → is_local_at p plan c ≡ true
    hidden_local u c e =
        let h = hidden_by u c (ap (λ (f : ℕ → ℕ → Bool). f u c) (sym hides_is) ∙ e) in
        let local = and_parts (is_body_local p plan h.x && has_cell p h.x) (list_all (at_home p plan h.x) (region_accesses p plan)) h.private_ in
        laid.local h.x c h.inside ∙ (and_parts (is_body_local p plan h.x) (has_cell p h.x) local.0).0

    either : (a b : Bool) → (not a || b) ≡ true → a ≡ true → b ≡ true
    either true b e q = e
    either false b e q = absurd (cc q)

    members : (loads : List ℕ) → Each (λ y. list_any (λ z. z == y) loads ≡ true) loads
    members [] = tt
    members (y ∷ loads) = (
      ap (λ (b : Bool). b || list_any (λ z. z == y) loads)
          (eq-eqb y y refl),
      each_map _ _ (λ z q. ap (λ (b : Bool). (y == z) || b) q ∙ or-true (y == z)) loads (members loads),
    )

    module _ (h : Stmt-F Stmt) (sound : is_sound (head_access h) ≡ true) where
      a : Access
      a = head_access h

      cells_stages : (list_all (has_cell p) (head_loads h) && stores_known p (head_stores h)) ≡ true
      cells_stages = (and_parts _ _ sound).0

      rest_of : ((nat_lt 0 (stage_of p plan (site_of h).0) && nat_lt (stage_of p plan (site_of h).0)
          (last plan)) ≡ true) × (list_all (is_clear (head_access h)) (numbers_from 0 (length p.vars)) ≡ true)
      rest_of = and_parts _ _ (and_parts _ _ sound).1

      stages : (nat_lt 0 (stage_of p plan (site_of h).0) ≡ true) × (nat_lt (stage_of p plan (site_of h).0) (last plan) ≡ true)
      stages = and_parts _ _ rest_of.0

      -- what it loads is at home, if it is hidden at all
      home_here : (y c : ℕ) → list_any (λ z. z == y) (head_loads h) ≡ true → InVar p y c → (u : ℕ) → m.hides u c ≡ true →
          (stage_of p plan (site_of h).0 ≡ u) × (is_checked p plan (site_of h).0 ≡ false)
      home_here y c loaded in_y u e =
          let k = hidden_by u c (ap (λ (f : ℕ → ℕ → Bool). f u c) (sym hides_is) ∙ e) in
          let same : k.x ≡ y = laid.apart k.x y c k.inside in_y in
          let at = either (is_private p plan k.x) (at_home p plan k.x (head_access h)) (k.among (is_clear (head_access h)) rest_of.1) k.private_ in
          let loads : loads_var p plan k.x (head_access h) ≡ true = ap (λ (n : ℕ). list_any (λ z. z == n) (head_loads h)) same ∙ loaded in
          let both = and_parts (stage_of p plan (site_of h).0 == home p plan k.x) (not (is_checked p plan (site_of h).0))
          (either (loads_var p plan k.x (head_access h)) _ at loads) in
          (eqb-true _ _ both.0 ∙ k.stage, is_not (is_checked p plan (site_of h).0) both.1)
        where
          is_not : (b : Bool) → not b ≡ true → b ≡ false
          is_not true e = absurd (cc)
          is_not false e = refl

      not_hidden : (u c : ℕ) → (m.hides u c ≡ true → ⊥) → m.hides u c ≡ false
      not_hidden u c e = by (m.hides u c) refl
        where
          by : (b : Bool) → m.hides u c ≡ b → b ≡ false
          by true q = absurd (e q)
          by false q = refl

      room_of : (o : Option ℕ) → stores_known p o ≡ true → Roomy p o
      room_of None e = tt
      room_of (Some x) e = ltb-true 0 _ e

      pub ready_head : Ready p plan m h
      ready_head =
          let both = and_parts (list_all (has_cell p) (head_loads h)) (stores_known p (head_stores h)) cells_stages in
          record {
            reads = each_map _ _ (λ y k. (ltb-true 0 _ k.0, λ c i u other. not_hidden u c (λ e. other (sym (home_here y c k.1 i u e).0)))) (head_loads h)
                (each_both _ _ (head_loads h) (all_of (has_cell p) (head_loads h) both.0) (members (head_loads h)));
            told = λ checked. each_map _ _ (λ y k c i u. not_hidden u c (λ e. differ (sym checked ∙ (home_here y c k i u e).1))) (head_loads h)
                (members (head_loads h));
            room = room_of (head_stores h) both.1;
            staged = ltb-true 0 _ stages.0;
            early = ltb-true _ _ stages.1;
          }
        where
          differ : true ≡ false → ⊥
          differ e = absurd (cc e)

    pub ready_all : (x : Stmt) → all_sound x ≡ true → Ready p plan m (out-Stmt x) × Parts (λ xs. list_all all_sound xs ≡ true) (out-Stmt x)
    ready_all x e = by (out-Stmt x) (sym (sound_out x) ∙ e)
      where
        by : (h : Stmt-F Stmt) → sound_head h ≡ true → Ready p plan m h × Parts (λ xs. list_all all_sound xs ≡ true) h
        by (Assign site x e) s = (ready_head (Assign site x e) (and_parts _ _ s).0, tt)
        by (Store site x index e) s = (ready_head (Store site x index e) (and_parts _ _ s).0, tt)
        by (Print site e) s = (ready_head (Print site e) (and_parts _ _ s).0, tt)
        by (If site cond a b) s = let both = and_parts (is_sound (head_access (If site cond a b)) && true)
            (list_all all_sound a && list_all all_sound b) s in (
              ready_head (If site cond a b) (and_parts _ _ both.0).0,
              and_parts (list_all all_sound a)
                  (list_all all_sound b) both.1,
            )
        by (While site cond a) s = let both = and_parts (is_sound (head_access (While site cond a)) && true)
            (list_all all_sound a) s in (ready_head (While site cond a) (and_parts _ _ both.0).0, both.1)
        by (Region r site cond a) s = let both = and_parts (is_sound (head_access (Region r site cond a)) && true)
            (list_all all_sound a) s in (ready_head (Region r site cond a) (and_parts _ _ both.0).0, both.1)
        by (Break site cond) s = (ready_head (Break site cond) (and_parts _ _ s).0, tt)
        by (Call f line args) s = absurd (cc)
