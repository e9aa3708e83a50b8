-- Memories that agree on what a stage wants: what stores make of them, and what evaluations give in them.
use Rattle.dp_semantics.proofs.Names.{◌≡◌, inl, inr, refl, sym, ap, ◌∙◌, subst, arith, ℕ, zero, suc, ◌+◌, ◌<◌, ◌≤◌, ◌==◌, Bool, true, false, not, ◌&&◌, ◌||◌}
use Rattle.dp_semantics.proofs.Names.{if◌then◌else◌, List, [], ◌∷◌, ◌++◌, ℤ, pos, length, Option, Some, None, Ok, Err, unwrap_or, get_or, get_or_past, eq-eqb}
use Rattle.dp_semantics.proofs.Names.{eqb-true, ne_eqb, leb-true, ltb-true, le-leb, lt-ltb, nat_le, nat_lt, and_parts, and_from, or_parts, cases_Bool, cases_eq}
use Rattle.dp_semantics.proofs.Names.{cases_lt, list_any, list_all, or-true, flat_map, FaultKind, Stmt, out-Stmt, Stmt-F, Program, Plan, Event, Evaluated}
use Rattle.dp_semantics.proofs.Names.{evaluated, WithLoads, Effect, Stored, Printed, Decided, Tried, site_of, value_of, stored, applied, followed, stage_of}
use Rattle.dp_semantics.proofs.Names.{is_checked, is_replicated, first_cell, cell_count, Access, accesses, region_accesses, is_cell_of}
use Rattle.std.specs.Option.{option_or}
use Rattle.dp_semantics.proofs.Each.{Each, each_map, each_both}
use Rattle.dp_semantics.proofs.Evaluation.{InVar, IsHeld, Form, Readable, head_loads, head_stores, evaluated_tracks}
use Rattle.dp_semantics.proofs.Heads.{head_access}
use Rattle.dp_semantics.proofs.Setting.{Laid, Sound, Listed}
use Rattle.dp_net.specs.Hidden.{loads_var}
use Rattle.dp_net.proofs.Memories.{applied_size, applied_get, stored_at, last_of}
use Rattle.dp_net.proofs.Ready.{SameEval, same_value, same_fault}
use Rattle.dp_lean.specs.Needed.{is_judge, loads_in, is_loaded_in, compares, wanted, is_done_to, does_store, store_inside}
use Rattle.dp_lean.specs.Queues.{stores_among, stores_cell}
use Rattle.dp_lean.specs.Laws.{AgreesOn}

module _ (p : Program) (plan : Plan) where
  pub in_var : (x c : ℕ) → is_cell_of p (record { 0 = x }) c ≡ true → InVar p x c
  in_var x c e =
      let both = and_parts (nat_le (first_cell p (record { 0 = x })) c) (nat_lt c (first_cell p (record { 0 = x }) + cell_count p (record { 0 = x }))) e in
      (leb-true (first_cell p (record { 0 = x })) c both.0, ltb-true c _ both.1)

  pub cell_of_var : (x c : ℕ) → InVar p x c → is_cell_of p (record { 0 = x }) c ≡ true
  cell_of_var x c i = and_from (nat_le (first_cell p (record { 0 = x })) c) (nat_lt c (first_cell p (record { 0 = x }) + cell_count p (record { 0 = x })))
      (le-leb (first_cell p (record { 0 = x })) c i.0) (lt-ltb c _ i.1)

  module _ (s : ℕ) where
    -- the effects store into no cell that the stage wants
    abbrev pub Elsewhere : List Effect → Type 0
    Elsewhere es = (x c : ℕ) → wanted p plan s x ≡ true → is_cell_of p (record { 0 = x }) c ≡ true → last_of c es ≡ None

    pub agree_after : (es fs : List Effect) (a b : List ℤ) →
        ((x c : ℕ) → wanted p plan s x ≡ true → is_cell_of p (record { 0 = x }) c ≡ true → last_of c fs ≡ last_of c es) →
        AgreesOn p plan s a b → AgreesOn p plan s (applied es a) (applied fs b)
    agree_after es fs a b same ab = record {
      size = applied_size fs b ∙ ab.size ∙ sym (applied_size es a);
      same = λ x c w i. elim (cases_lt c (length a)) [
        | inl within ↦ applied_get fs b c (omega (arith, within, ab.size)) ∙ ap (λ (u : Option ℤ). unwrap_or u (get_or b c (pos 0))) (same x c w i)
            ∙ ap (unwrap_or (last_of c es)) (ab.same x c w i) ∙ sym (applied_get es a c within)
        | inr past ↦ get_or_past (applied fs b) c (pos 0) (omega (arith, past, applied_size fs b, ab.size))
            ∙ sym (get_or_past (applied es a) c (pos 0) (omega (arith, past, applied_size es a)))
      ];
    }

    -- both store the same
    pub agree_both : (es : List Effect) (a b : List ℤ) → AgreesOn p plan s a b → AgreesOn p plan s (applied es a) (applied es b)
    agree_both es a b ab = agree_after es es a b (λ x c w i. refl) ab

    -- one stores what isn't wanted
    pub agree_past : (es : List Effect) (a b : List ℤ) → Elsewhere es → AgreesOn p plan s a b → AgreesOn p plan s (applied es a) b
    agree_past es a b e ab = agree_after es [] a b (λ x c w i. sym (e x c w i)) ab

    pub turned_round : {a b : List ℤ} → AgreesOn p plan s a b → AgreesOn p plan s b a
    turned_round ab = record { size = sym ab.size; same = λ x c w i. sym (ab.same x c w i) }

    not_done : (x : ℕ) → is_done_to p plan s x ≡ false → wanted p plan s x ≡ true → ⊥
    not_done x e w = let both = or_parts (wanted p plan s x) _ e in let clash : true ≡ false = sym w ∙ both.0 in absurd (cc clash)

    module _ (laid : Laid p plan) where
      -- a store into a variable that isn't done to
      store_elsewhere : (y d : ℕ) (z : ℤ) → InVar p y d → is_done_to p plan s y ≡ false → (x c : ℕ) → wanted p plan s x ≡ true →
          is_cell_of p (record { 0 = x }) c ≡ true → stored_at c (Stored d z) ≡ None
      store_elsewhere y d z i undone x c w e =
          ap (λ (b : Bool). if b then Some z else None) (ne_eqb d c (λ same.
          let ix : InVar p x d = subst (λ (k : ℕ). InVar p x k) (sym same) (in_var x c e) in
          let var : x ≡ y = laid.apart x y d ix i in
          not_done y undone (subst (λ (k : ℕ). wanted p plan s k ≡ true) var w)))

      pub form_elsewhere : (h : Stmt-F Stmt) (effect : Effect) → Form p h effect → does_store p plan s (head_stores h) ≡ false → Elsewhere (effect ∷ [])
      form_elsewhere h effect form undone x c w e = one (stored_at c effect) (by h effect form undone)
        where
          one : (o : Option ℤ) → o ≡ None → option_or None o ≡ None
          one o q = q

          by : (h : Stmt-F Stmt) (effect : Effect) → Form p h effect → does_store p plan s (head_stores h) ≡ false → stored_at c effect ≡ None
          by (Rattle.dp_semantics.proofs.Names.Assign site v e1) (Stored d z) f u = store_elsewhere v.0 d z f u x c w e
          by (Rattle.dp_semantics.proofs.Names.Store site v e1 e2) (Stored d z) f u = store_elsewhere v.0 d z f u x c w e
          by (Rattle.dp_semantics.proofs.Names.Print site e1) (Stored d z) f u = absurd f
          by (Rattle.dp_semantics.proofs.Names.If site e1 a b) (Stored d z) f u = absurd f
          by (Rattle.dp_semantics.proofs.Names.While site e1 a) (Stored d z) f u = absurd f
          by (Rattle.dp_semantics.proofs.Names.Region r site e1 a) (Stored d z) f u = absurd f
          by (Rattle.dp_semantics.proofs.Names.Break site e1) (Stored d z) f u = absurd f
          by (Rattle.dp_semantics.proofs.Names.Call f1 l a) (Stored d z) f u = absurd f
          by h (Printed z) f u = refl
          by h (Decided z) f u = refl
          by h (Tried z) f u = refl

      -- the variable of a store among these sites
      pub among : (all : List Access) (d : ℕ) → list_any (stores_cell p plan d) all ≡ true →
          list_any (λ (a : Access). does_store p plan s a.stores) all ≡ false →
          (y : ℕ) × InVar p y d × (is_done_to p plan s y ≡ false)
      among [] d e u = absurd (cc e)
      among (a ∷ all) d e u = elim (cases_Bool (stores_cell p plan d a)) [
        | inl q ↦ by a.stores q (or_parts (does_store p plan s a.stores) _ u).0
        | inr q ↦ among all d (rw q at e) (or_parts (does_store p plan s a.stores) _ u).1
      ]
        where
          by : (o : Option ℕ) → stores_cell p plan d (record { site = a.site; loads = a.loads; stores = o }) ≡ true → does_store p plan s o ≡ false →
              (y : ℕ) × InVar p y d × (is_done_to p plan s y ≡ false)
          by None q u = absurd (cc q)
          by (Some y) q u = (y, in_var y d q, u)

      pub block_elsewhere : (block : List Stmt) (es : List Effect) → list_all (stores_among p plan (flat_map accesses block)) es ≡ true →
          store_inside p plan s block ≡ false → Elsewhere es
      block_elsewhere block [] e u x c w i = refl
      block_elsewhere block (f ∷ es) e u x c w i =
          let both = and_parts (stores_among p plan (flat_map accesses block) f) (list_all (stores_among p plan (flat_map accesses block)) es) e in
          rw (block_elsewhere block es both.1 u x c w i) (by f both.0)
        where
          by : (f : Effect) → stores_among p plan (flat_map accesses block) f ≡ true → stored_at c f ≡ None
          by (Stored d z) q = let v = among (flat_map accesses block) d q u in store_elsewhere v.0 d z v.1 v.2 x c w i
          by (Printed z) q = absurd (cc q)
          by (Decided z) q = absurd (cc q)
          by (Tried z) q = absurd (cc q)

    module _ (input : List ℤ) (real : is_judge p plan s ≡ false) where
      members : (loads : List ℕ) → Each (λ y. list_any (λ z. z == y) loads ≡ true) loads
      members [] = tt
      members (y ∷ loads) = (
        ap (λ (b : Bool). b || list_any (λ z. z == y) loads) (eq-eqb y y refl),
        each_map _ _ (λ z q. ap (λ (b : Bool). (y == z) || b) q ∙ or-true (y == z)) loads (members loads),
      )

      -- what an own site loads is wanted
      own_wanted : (a : Access) → Listed (region_accesses p plan) a → stage_of p plan a.site ≡ s → (y : ℕ) → list_any (λ z. z == y) a.loads ≡ true →
          wanted p plan s y ≡ true
      own_wanted a listed here y loaded = ap (λ (b : Bool). if b then list_any (compares p plan y) (region_accesses p plan)
          else (is_loaded_in p plan s y || (is_replicated plan (suc s) && is_loaded_in p plan (suc s) y))) real
          ∙ ap (λ (b : Bool). b || (is_replicated plan (suc s) && is_loaded_in p plan (suc s) y)) (there (is_loaded_in p plan s y) refl)
        where
          there : (b : Bool) → is_loaded_in p plan s y ≡ b → b ≡ true
          there true q = refl
          there false q =
              let none : loads_in p plan s y a ≡ false = listed (loads_in p plan s y) q in
              let some : loads_in p plan s y a ≡ true = and_from (stage_of p plan a.site == s) (loads_var p plan y a)
              (eq-eqb (stage_of p plan a.site) s here) loaded in
              sym none ∙ some

      own_readable : (h : Stmt-F Stmt) → Sound p plan (head_access h) → stage_of p plan (site_of h).0 ≡ s → (a b : List ℤ) → AgreesOn p plan s a b →
          Each (Readable p a (IsHeld b)) (head_loads h)
      own_readable h sound here a b ab =
          each_map (λ y. (0 < cell_count p (record { 0 = y })) × (list_any (λ z. z == y) (head_loads h) ≡ true)) (Readable p a (IsHeld b))
          (λ y k. (k.0, λ c i. ab.same y c (own_wanted (head_access h) sound.listed here y k.1) (cell_of_var y c i))) (head_loads h)
          (each_both _ _ (head_loads h) sound.reads (members (head_loads h)))

      eval_ok : (h : Stmt-F Stmt) → Sound p plan (head_access h) → stage_of p plan (site_of h).0 ≡ s → (a b : List ℤ) → AgreesOn p plan s a b →
          (v : WithLoads Effect) → evaluated p input a h ≡ Ok v → evaluated p input b h ≡ Ok v
      eval_ok h sound here a b ab v e =
          let t = evaluated_tracks p input a b (IsHeld b) h sound.room (own_readable h sound here a b ab) v e in t.same t.loads

      -- An own evaluation is the same in memories that agree.
      pub eval_alike : (h : Stmt-F Stmt) → Sound p plan (head_access h) → stage_of p plan (site_of h).0 ≡ s → (a b : List ℤ) → AgreesOn p plan s a b →
          SameEval (evaluated p input a h) (evaluated p input b h)
      eval_alike h sound here a b ab = by (evaluated p input a h) (evaluated p input b h) refl refl
        where
          by : (u w : Evaluated Effect) → evaluated p input a h ≡ u → evaluated p input b h ≡ w → SameEval u w
          by (Ok v) w e f = subst (λ (y : Evaluated Effect). SameEval (Ok v) y) (sym (eval_ok h sound here a b ab v e) ∙ f) (same_value v)
          by (Err k) (Ok v) e f = let clash : Err k ≡ Ok v = sym e ∙ eval_ok h sound here b a (turned_round ab) v f in absurd (cc clash)
          by (Err k) (Err l) e f = same_fault k l
