-- The values of a lean code are in order, and its own blocks are of the code's stage.
use Rattle.std.proofs.Common.{◌≡◌, refl, sym, ap, ◌∙◌, ℕ, zero, suc, ◌+◌, ◌-◌, ◌==◌, if◌then◌else◌, Bool, true, false, nat_lt, List, [], ◌∷◌, ◌++◌, length, map}
use Rattle.std.proofs.Common.{Some, slice_get, arith}
use Rattle.std.specs.List.{list_all}
use Rattle.std.proofs.lemmas.Bool.{and_from, and_parts, eqb-true}
use Rattle.std.proofs.lemmas.List.{map-append}
use Rattle.std.proofs.lemmas.List.Folds.{list_all-append}
use Rattle.dp_base.specs.declared.SiteId.{SiteId}
use Rattle.dp_tree.specs.declared.Expr.{Expr}
use Rattle.dp_tree.specs.declared.Stmt.{Stmt, out-Stmt, Row_of-Stmt, end_of-Stmt, more_of-Stmt}
use Rattle.dp_tree.specs.declared.Stmt.TheVariants as stmt
use Rattle.dp_tree.specs.declared.Program.{Program}
use Rattle.dp_tree.specs.Step.{site_of}
use Rattle.dp_plan.specs.declared.Plan.{Plan}
use Rattle.dp_plan.specs.Access.{stage_of}
use Rattle.dp_net.specs.NetItems.{Marks}
use Rattle.dp_code.specs.declared.Op.{Op}
use Rattle.dp_code.specs.declared.Op.TheVariants as op
use Rattle.dp_code.specs.Code.{expr_code}
use Rattle.dp_code.specs.Order.{gives_value, passes, leads_on}
unfoldable use Rattle.dp_code.specs.Order.{in_order}
use Rattle.dp_code.proofs.CodeOrder.{IsPlain}
use Rattle.dp_lean.specs.LeanText.{lean_text}
use Rattle.dp_lean_code.specs.declared.LeanOp.{LeanOp}
use Rattle.dp_lean_code.specs.declared.LeanOp.TheVariants.{Plain, Exit, Begin, Finish, Meet}
use Rattle.dp_lean_code.specs.LeanCode.{either, choice, repetition, leaving, value_code, test_code, branch, exit, code_of_head, list_code, no_blocks}
use Rattle.dp_lean_code.specs.LeanCode.{silent_code, block_code, lean_code}
unfoldable use Rattle.dp_lean_code.specs.LeanCode.{stmt_code, row_code}
use Rattle.dp_lean_turn.specs.Notes.{value_part}
use Rattle.dp_lean_turn.proofs.ValueCode.{value_ordered}

-- ---- one piece behind another

passes_more : (n : ℕ) (a b : List Op) → passes n a ≡ true → passes n (a ++ b) ≡ true
passes_more zero a b h = refl
passes_more (suc n) [] b h = let clash : false ≡ true = h in absurd (cc clash)
passes_more (suc n) (o ∷ a) b h = let both = and_parts (gives_value o) (passes n a) h in and_from _ _ both.0 (passes_more n a b both.1)

leads_more : (o : Op) (at : ℕ) (a b : List Op) → leads_on o at a ≡ true → leads_on o at (a ++ b) ≡ true
leads_more (op.SkipIfZero to) at a b h =
    let both = and_parts (nat_lt at to) (passes (to - (at + 1)) a) h in and_from (nat_lt at to) _ both.0 (passes_more (to - (at + 1)) a b both.1)
leads_more (op.SkipIfNotZero to) at a b h =
    let both = and_parts (nat_lt at to) (passes (to - (at + 1)) a) h in and_from (nat_lt at to) _ both.0 (passes_more (to - (at + 1)) a b both.1)
leads_more _ at a b h = refl

module _ (p : Program) (plan : Plan) (s : ℕ) where
  -- a block that begins there is of the stage
  abbrev pub begins_own : LeanOp → Bool
  begins_own (Begin site) = stage_of p plan site.0 == s
  begins_own _ = true

  -- The values are in order, from a place on, and the blocks of the stage.
  pub record Good (at : ℕ) (ops : List LeanOp) : Type 0 where
    pub order : in_order at (map value_part ops) ≡ true
    pub blocks : list_all begins_own ops ≡ true

  order_join : (at : ℕ) (a b : List LeanOp) → in_order at (map value_part a) ≡ true → in_order (at + length a) (map value_part b) ≡ true →
      in_order at (map value_part (a ++ b)) ≡ true
  unfolding in_order
  order_join at [] b h k = let here : at + 0 ≡ at = omega arith in sym (ap (λ (n : ℕ). in_order n (map value_part b)) here) ∙ k
  order_join at (o ∷ a) b h k =
      let both = and_parts (leads_on (value_part o) at (map value_part a)) (in_order (at + 1) (map value_part a)) h in
      let there : at + length (o ∷ a) ≡ at + 1 + length a = omega arith in
      let leads : leads_on (value_part o) at (map value_part (a ++ b)) ≡ true =
      ap (leads_on (value_part o) at) (map-append value_part a b) ∙ leads_more (value_part o) at (map value_part a) (map value_part b) both.0 in
      and_from (leads_on (value_part o) at (map value_part (a ++ b))) _ leads
      (order_join (at + 1) a b both.1 (sym (ap (λ (n : ℕ). in_order n (map value_part b)) there) ∙ k))

  join : (at : ℕ) (a b : List LeanOp) → Good at a → Good (at + length a) b → Good at (a ++ b)
  join at a b h k = record {
    order = order_join at a b h.order k.order;
    blocks = list_all-append begins_own a b ∙ and_from _ _ h.blocks k.blocks;
  }

  none : (at : ℕ) → Good at []
  unfolding in_order
  none at = record { order = refl; blocks = refl }

  one : (at : ℕ) (o : LeanOp) → IsPlain (value_part o) → begins_own o ≡ true → Good at (o ∷ [])
  unfolding in_order
  one at o plain own = record { order = and_from (leads_on (value_part o) at []) _ (plain at []) refl; blocks = and_from (begins_own o) _ own refl }

  -- an op in front of others
  first : (at : ℕ) (o : LeanOp) (rest : List LeanOp) → Good at (o ∷ []) → Good (at + 1) rest → Good at (o ∷ rest)
  first at o rest h k = join at (o ∷ []) rest h k

  -- .. and behind others
  ended : (at : ℕ) (ops : List LeanOp) (o : LeanOp) → ((k : ℕ) → Good k (o ∷ [])) → Good at ops → Good at (ops ++ o ∷ [])
  ended at ops o h k = join at ops (o ∷ []) k (h _)

  by_test : (b : Bool) (at : ℕ) (own other : List LeanOp) → Good at own → Good at other → Good at (if b then own else other)
  by_test true at own other h k = h
  by_test false at own other h k = k

  -- ---- values

  no_begin : (ops : List Op) → list_all begins_own (map Plain ops) ≡ true
  no_begin [] = refl
  no_begin (o ∷ ops) = no_begin ops

  value_good : (e : Expr) (at : ℕ) → Good at (value_code p e at)
  value_good e at = record { order = value_ordered p e at; blocks = no_begin (expr_code p e at) }

  -- an expression and the op of its site
  site_good : (e : Expr) (at : ℕ) (o : LeanOp) → ((k : ℕ) → Good k (o ∷ [])) → Good at (value_code p e at ++ o ∷ [])
  site_good e at o h = ended at (value_code p e at) o h (value_good e at)

  -- ---- statements

  either_good : (at : ℕ) (fork : ℕ → LeanOp) (a b : List LeanOp) → ((to k : ℕ) → Good k (fork to ∷ [])) → Good (at + 1) a → Good (at + 1 + length a + 1) b →
      Good at (either at fork a b)
  either_good at fork a [] plain h k = first at _ a (plain _ at) h
  either_good at fork a (o ∷ b) plain h k =
      first at _ _ (plain _ at) (join (at + 1) a _ h (first _ (Plain (op.Jump _)) (o ∷ b) (one _ _ (λ n rest. refl) refl) k))

  choice_good : (fork : ℕ → LeanOp) (a b : ℕ → List LeanOp) (at : ℕ) → ((to k : ℕ) → Good k (fork to ∷ [])) → ((k : ℕ) → Good k (a k)) →
      ((k : ℕ) → Good k (b k)) → Good at (choice fork a b at)
  choice_good fork a b at plain h k = either_good at fork (a (at + 1)) (b _) plain (h _) (k _)

  repetition_good : (start : ℕ) (fork : ℕ → LeanOp) (body : ℕ → List LeanOp) (at : ℕ) → ((to k : ℕ) → Good k (fork to ∷ [])) → ((k : ℕ) → Good k (body k)) →
      Good at (repetition start fork body at)
  repetition_good start fork body at plain h =
      first at _ _ (plain _ at) (ended (at + 1) (body (at + 1)) (Plain (op.Jump start)) (λ k. one k _ (λ n rest. refl) refl) (h _))

  leaving_good : (fork : ℕ → LeanOp) (at : ℕ) → ((to k : ℕ) → Good k (fork to ∷ [])) → Good at (leaving fork at)
  leaving_good fork at plain = first at _ _ (plain _ at) (one _ (Plain op.End) (λ k rest. refl) refl)

  branch_good : (site : SiteId) (to k : ℕ) → Good k (branch p plan s site to ∷ [])
  branch_good site to k = by (stage_of p plan site.0 == s)
    where
      by : (b : Bool) → Good k ((if b then Plain (op.Branch site to) else Plain (op.ConsumeBranch site to)) ∷ [])
      by true = one k _ (λ n rest. refl) refl
      by false = one k _ (λ n rest. refl) refl

  exit_good : (site : SiteId) (to k : ℕ) → Good k (exit p plan s site to ∷ [])
  exit_good site to k = by (stage_of p plan site.0 == s)
    where
      by : (b : Bool) → Good k ((if b then Exit site to else Plain (op.ConsumeBranch site to)) ∷ [])
      by true = one k _ (λ n rest. refl) refl
      by false = one k _ (λ n rest. refl) refl

  -- a condition's value, and then other code
  tested_good : (site : SiteId) (cond : Expr) (at : ℕ) (next : ℕ → List LeanOp) → ((k : ℕ) → Good k (next k)) →
      Good at (test_code p plan s site cond at ++ next (at + length (test_code p plan s site cond at)))
  tested_good site cond at next h =
      join at (test_code p plan s site cond at) _ (by_test (stage_of p plan site.0 == s) at (value_code p cond at) [] (value_good cond at) (none at)) (h _)

  -- at a site the stage's own ops, or the one by which it takes the next of the site's queue
  own_or : (site : SiteId) (at : ℕ) (own : List LeanOp) (other : LeanOp) → Good at own → Good at (other ∷ []) →
      Good at (if stage_of p plan site.0 == s then own else other ∷ [])
  own_or site at own other h k = by_test (stage_of p plan site.0 == s) at own (other ∷ []) h k

  module _ (m : Marks) (inner : SiteId → List Stmt → ℕ → List LeanOp)
      (inner_good : (site : SiteId) (block : List Stmt) (at : ℕ) → Good at (inner site block at)) where
    head_good : (block : List Stmt) (site : SiteId) (alone : ℕ → List LeanOp) (onward : ℕ → ℕ → List LeanOp) (at : ℕ) →
        ((k : ℕ) → Good k (alone k)) → ((n k : ℕ) → Good k (onward n k)) → Good at (code_of_head p plan s m inner block site alone onward at)
    head_good [] site alone onward at h k = join at (alone at) _ (h at) (k zero _)
    head_good (y ∷ ys) site alone onward at h k = join at (inner site (y ∷ ys) at) _ (inner_good site (y ∷ ys) at) (k (length ys) _)

    mutual
      unfolding stmt_code row_code

      stmt_good : (x : Stmt) (at : ℕ) → Good at (stmt_code p plan s m inner x at)
      stmt_good (stmt.Assign site x e) at = own_or site at _ _ (site_good e at _ (λ k. one k _ (λ n rest. refl) refl)) (one at _ (λ n rest. refl) refl)
      stmt_good (stmt.Store site x index e) at =
          own_or site at _ _ (join at (value_code p index at) _ (value_good index at) (site_good e _ _ (λ k. one k _ (λ n rest. refl) refl)))
          (one at _ (λ n rest. refl) refl)
      stmt_good (stmt.Print site e) at = own_or site at _ _ (site_good e at _ (λ k. one k _ (λ n rest. refl) refl)) (one at _ (λ n rest. refl) refl)
      stmt_good (stmt.If' site cond _ a _ b) at =
          tested_good site cond at _ (λ k. choice_good (branch p plan s site) _ _ k (branch_good site) (row_good zero a) (row_good zero b))
      stmt_good (stmt.While' site cond _ a) at =
          tested_good site cond at _ (λ k. repetition_good at (branch p plan s site) _ k (branch_good site) (row_good zero a))
      stmt_good (stmt.Break site cond) at = tested_good site cond at _ (λ k. leaving_good (exit p plan s site) k (exit_good site))
      stmt_good _ at = none at

      row_good : {n : _} (skipped : ℕ) (row : Row_of-Stmt n) (at : ℕ) → Good at (row_code p plan s m inner skipped row at)
      row_good skipped end_of-Stmt at = none at
      row_good (suc skipped) (more_of-Stmt x rest) at = row_good skipped rest at
      row_good zero (more_of-Stmt x rest) at =
          head_good (m.block_at (site_of (out-Stmt x)).0) (site_of (out-Stmt x)) _ _ at (stmt_good x) (λ n k. row_good n rest k)

    list_good : (skipped : ℕ) (xs : List Stmt) (at : ℕ) → Good at (list_code p plan s m inner skipped xs at)
    list_good skipped [] at = none at
    list_good (suc skipped) (x ∷ rest) at = list_good skipped rest at
    list_good zero (x ∷ rest) at =
        head_good (m.block_at (site_of (out-Stmt x)).0) (site_of (out-Stmt x)) _ _ at (stmt_good x) (λ n k. list_good n rest k)

  silent_good : (block : List Stmt) (at : ℕ) → Good at (silent_code p plan s block at)
  silent_good block at = list_good (no_blocks p plan s) (λ site block at. []) (λ site block k. none k) zero block at

  block_good : (site : SiteId) (block : List Stmt) (at : ℕ) → Good at (block_code p plan s site block at)
  block_good site block at = by (stage_of p plan site.0 == s) refl
    where
      by : (b : Bool) → (stage_of p plan site.0 == s) ≡ b → Good at (if b then Begin site ∷ (silent_code p plan s block (at + 1) ++ Finish ∷ [])
          else Meet site ∷ [])
      by true own = first at (Begin site) _ (one at (Begin site) (λ n rest. refl) own) (ended (at + 1) _ Finish (λ k. one k Finish (λ n rest. refl) refl)
          (silent_good block (at + 1)))
      by false own = one at (Meet site) (λ n rest. refl) refl

  pub lean_good : (m : Marks) → Good 0 (lean_code p plan s m)
  lean_good m = ended 0 _ (Plain op.End) (λ k. one k _ (λ n rest. refl) refl) (list_good m (block_code p plan s) block_good zero (lean_text p plan m s) 0)

  own_among : (code : List LeanOp) (at : ℕ) (site : SiteId) → list_all begins_own code ≡ true → slice_get code at ≡ Some (Begin site) →
      stage_of p plan site.0 ≡ s
  own_among [] at site all here = absurd (cc here)
  own_among (o ∷ code) zero site all here =
      eqb-true (stage_of p plan site.0) s (sym (ap begins_own (some_same here)) ∙ (and_parts (begins_own o) (list_all begins_own code) all).0)
    where
      some_same : Some o ≡ Some (Begin site) → o ≡ Begin site
      some_same e = cc e
  own_among (o ∷ code) (suc at) site all here = own_among code at site (and_parts (begins_own o) (list_all begins_own code) all).1 here

  -- the own blocks of a stage's code are of the stage
  pub blocks_own : (m : Marks) (code : List LeanOp) → code ≡ lean_code p plan s m → (at : ℕ) (site : SiteId) → slice_get code at ≡ Some (Begin site) →
      stage_of p plan site.0 ≡ s
  blocks_own m code code_is at site here = own_among code at site (ap (list_all begins_own) code_is ∙ (lean_good m).blocks) here

  -- the value parts of a stage's code are in order
  pub values_ordered : (m : Marks) (ops : List Op) (code : List LeanOp) → code ≡ lean_code p plan s m → ops ≡ map value_part code → in_order 0 ops ≡ true
  values_ordered m ops code code_is ops_are = ap (in_order 0) (ops_are ∙ ap (map value_part) code_is) ∙ (lean_good m).order
