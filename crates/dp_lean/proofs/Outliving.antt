-- Memories that differ in body locals alone, and what the judge leaves out of an iteration's stores.
use Rattle.dp_semantics.proofs.Names.{◌≡◌, inl, inr, refl, sym, ap, ◌∙◌, subst, arith, ℕ, ◌<◌, Bool, true, false, not, ◌||◌, ◌&&◌, if◌then◌else◌, List, [], ◌∷◌}
use Rattle.dp_semantics.proofs.Names.{◌++◌, ℤ, pos, length, Option, Some, None, unwrap_or, get_or, get_or_past, filter_map, cons_option, list_any, list_all}
use Rattle.dp_semantics.proofs.Names.{and_parts, or_parts, ne_eqb, cases_Bool, cases_lt, flat_map, Stmt, Stmt-F, Program, Plan, Effect, Stored, Printed}
use Rattle.dp_semantics.proofs.Names.{Decided, Tried, applied, clear_locals, is_local_cell, is_local_at, is_body_local, is_cell_of, Access, accesses}
use Rattle.std.proofs.lemmas.List.{ext_get_or}
use Rattle.dp_semantics.specs.Told.{store_made, with_stores}
use Rattle.dp_semantics.proofs.Evaluation.{InVar, Form, head_stores}
use Rattle.dp_semantics.proofs.Setting.{Laid}
use Rattle.dp_theorem.proofs.Memory.{clear-at, clear-other}
use Rattle.dp_theorem.proofs.Told.{stores_are_all}
use Rattle.dp_net.proofs.Memories.{applied_size, applied_get, stored_at, last_of}
use Rattle.dp_net.proofs.Sent.{clear_size}
use Rattle.dp_lean.specs.Needed.{is_judge, wanted, is_done_to, does_store, store_inside}
use Rattle.dp_lean.specs.Queues.{stores_among}
use Rattle.dp_lean.proofs.Wanted.{among}

pub filter_join : {X Y : Type 0} (f : X → Option Y) (a b : List X) → filter_map f (a ++ b) ≡ filter_map f a ++ filter_map f b
filter_join f [] b = refl
filter_join {Y = Y} f (x ∷ a) b = by (f x) (filter_join f a b)
  where
    by : (o : Option Y) → filter_map f (a ++ b) ≡ filter_map f a ++ filter_map f b → cons_option o (filter_map f (a ++ b)) ≡ cons_option o
        (filter_map f a) ++ filter_map f b
    by None e = e
    by (Some y) e = ap (λ ys. y ∷ ys) e

pub applied_join : (a b : List Effect) (cells : List ℤ) → applied (a ++ b) cells ≡ applied b (applied a cells)
applied_join [] b cells = refl
applied_join (e ∷ a) b cells = applied_join a b (Rattle.dp_semantics.proofs.Names.stored e cells)

module _ (p : Program) (plan : Plan) where
  -- they differ in body locals alone
  pub record Outlives (a b : List ℤ) : Type 0 where
    pub size : length b ≡ length a
    pub same : (c : ℕ) → is_local_at p plan c ≡ false → get_or b c (pos 0) ≡ get_or a c (pos 0)

  pub outlives_self : (a : List ℤ) → Outlives a a
  outlives_self a = record { size = refl; same = λ c o. refl }

  -- the effects store into body locals alone
  abbrev pub Local : List Effect → Type 0
  Local es = (c : ℕ) → is_local_at p plan c ≡ false → last_of c es ≡ None

  outlives_after : (es fs : List Effect) (a b : List ℤ) → ((c : ℕ) → is_local_at p plan c ≡ false → last_of c fs ≡ last_of c es) → Outlives a b →
      Outlives (applied es a) (applied fs b)
  outlives_after es fs a b same ab = record {
    size = applied_size fs b ∙ ab.size ∙ sym (applied_size es a);
    same = λ c o. elim (cases_lt c (length a)) [
      | inl within ↦ applied_get fs b c (omega (arith, within, ab.size)) ∙ ap (λ (u : Option ℤ). unwrap_or u (get_or b c (pos 0))) (same c o)
          ∙ ap (unwrap_or (last_of c es)) (ab.same c o) ∙ sym (applied_get es a c within)
      | inr past ↦ get_or_past (applied fs b) c (pos 0) (omega (arith, past, applied_size fs b, ab.size))
          ∙ sym (get_or_past (applied es a) c (pos 0) (omega (arith, past, applied_size es a)))
    ];
  }

  -- both store the same, or one of them into body locals more
  pub outlives_both : (es : List Effect) (a b : List ℤ) → Outlives a b → Outlives (applied es a) (applied es b)
  outlives_both es a b ab = outlives_after es es a b (λ c o. refl) ab

  pub outlives_past : (es : List Effect) (a b : List ℤ) → Local es → Outlives a b → Outlives (applied es a) b
  outlives_past es a b local ab = outlives_after es [] a b (λ c o. sym (local c o)) ab

  -- The memories are the same where the next iteration starts.
  pub cleared_same : (a b : List ℤ) → Outlives a b → clear_locals plan.region p.vars b ≡ clear_locals plan.region p.vars a
  cleared_same a b ab = ext_get_or (pos 0) (clear_locals plan.region p.vars b) (clear_locals plan.region p.vars a) (clear_size plan.region p.vars b ∙ ab.size
      ∙ sym (clear_size plan.region p.vars a))
      (λ c within. elim (cases_Bool (list_any (is_local_cell plan.region c) p.vars)) [
        | inl e ↦ clear-at plan.region c p.vars b (inl e) ∙ sym (clear-at plan.region c p.vars a (inl e))
        | inr e ↦ clear-other plan.region c p.vars b e ∙ ab.same c e ∙ sym (clear-other plan.region c p.vars a e)
      ])

  pub stores_cleared : (es fs : List Effect) → ((from : List ℤ) → Outlives (applied es from) (applied fs from)) → (from : List ℤ) →
      clear_locals plan.region p.vars (with_stores (filter_map store_made fs) from) ≡ clear_locals plan.region p.vars
      (with_stores (filter_map store_made es) from)
  stores_cleared es fs all from =
      ap (clear_locals plan.region p.vars) (sym (stores_are_all fs from)) ∙ cleared_same (applied es from) (applied fs from) (all from)
      ∙ ap (clear_locals plan.region p.vars) (stores_are_all es from)

  module _ (laid : Laid p plan) (s : ℕ) (judge : is_judge p plan s ≡ true) where
    -- what the judge doesn't do is to a body local
    local_of : (x : ℕ) → is_done_to p plan s x ≡ false → is_body_local p plan x ≡ true
    local_of x e = by (is_body_local p plan x) (or_parts (wanted p plan s x) (is_judge p plan s && not (is_body_local p plan x)) e).1
      where
        by : (b : Bool) → (is_judge p plan s && not b) ≡ false → b ≡ true
        by true q = refl
        by false q = let clash : true ≡ false = ap (λ (j : Bool). j && true) (sym judge) ∙ q in absurd (cc clash)

    local_store : (y d : ℕ) (z : ℤ) → InVar p y d → is_done_to p plan s y ≡ false → (c : ℕ) → is_local_at p plan c ≡ false → stored_at c (Stored d z) ≡ None
    local_store y d z i undone c open_cell = ap (λ (b : Bool). if b then Some z else None) (ne_eqb d c (λ same.
        let clash : true ≡ false = sym (laid.local y d i ∙ local_of y undone) ∙ ap (is_local_at p plan) same ∙ open_cell in absurd (cc clash)))

    pub form_local : (h : Stmt-F Stmt) (effect : Effect) → Form p h effect → does_store p plan s (head_stores h) ≡ false → Local (effect ∷ [])
    form_local h effect form undone c o = by h effect form undone
      where
        by : (h : Stmt-F Stmt) (effect : Effect) → Form p h effect → does_store p plan s (head_stores h) ≡ false → stored_at c effect ≡ None
        by (Rattle.dp_semantics.proofs.Names.Assign site v e1) (Stored d z) f u = local_store v.0 d z f u c o
        by (Rattle.dp_semantics.proofs.Names.Store site v e1 e2) (Stored d z) f u = local_store v.0 d z f u c o
        by (Rattle.dp_semantics.proofs.Names.Print site e1) (Stored d z) f u = absurd f
        by (Rattle.dp_semantics.proofs.Names.If site e1 a b) (Stored d z) f u = absurd f
        by (Rattle.dp_semantics.proofs.Names.While site e1 a) (Stored d z) f u = absurd f
        by (Rattle.dp_semantics.proofs.Names.Region r site e1 a) (Stored d z) f u = absurd f
        by (Rattle.dp_semantics.proofs.Names.Break site e1) (Stored d z) f u = absurd f
        by (Rattle.dp_semantics.proofs.Names.Call f1 l a) (Stored d z) f u = absurd f
        by h (Printed z) f u = refl
        by h (Decided z) f u = refl
        by h (Tried z) f u = refl

    pub block_local : (block : List Stmt) (es : List Effect) → list_all (stores_among p plan (flat_map accesses block)) es ≡ true →
        store_inside p plan s block ≡ false → Local es
    block_local block [] e u c o = refl
    block_local block (f ∷ es) e u c o =
        let both = and_parts (stores_among p plan (flat_map accesses block) f) (list_all (stores_among p plan (flat_map accesses block)) es) e in
        rw (block_local block es both.1 u c o) (by f both.0)
      where
        by : (f : Effect) → stores_among p plan (flat_map accesses block) f ≡ true → stored_at c f ≡ None
        by (Stored d z) q = let v = among p plan s laid (flat_map accesses block) d q u in local_store v.0 d z v.1 v.2 c o
        by (Printed z) q = absurd (cc q)
        by (Decided z) q = absurd (cc q)
        by (Tried z) q = absurd (cc q)
