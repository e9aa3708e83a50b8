-- A stage's code as the walk over the region's statements makes it, with what is known of the region looked up.
use Rattle.std.specs.Prelude.{ℕ, zero, suc, if◌then◌else◌, ◌+◌, ◌==◌, Bool, false, ◌&&◌, ◌||◌, nat_le, List, [], ◌∷◌, ◌++◌, length, take, Option, Some, None}
use Rattle.std.specs.List.{list_any, flat_map}
use Rattle.dp_base.specs.declared.SiteId.{SiteId}
use Rattle.dp_tree.specs.declared.Expr.{Expr}
use Rattle.dp_tree.specs.declared.Stmt.{Stmt, out-Stmt, Row_of-Stmt, end_of-Stmt, more_of-Stmt}
use Rattle.dp_tree.specs.declared.Stmt.TheVariants as stmt
use Rattle.dp_tree.specs.declared.Program.{Program}
use Rattle.dp_tree.specs.Statements.{listed}
use Rattle.dp_tree.specs.Step.{site_of}
use Rattle.dp_plan.specs.declared.Plan.{Plan}
use Rattle.dp_plan.specs.Access.{Access, accesses, stage_of, first_site}
use Rattle.dp_semantics.specs.Project.{assumed_in}
use Rattle.dp_lean.specs.Needed.{is_judge}
use Rattle.dp_lean_code.specs.declared.LeanOp.{LeanOp}
use Rattle.dp_lean_code.specs.declared.LeanOp.TheVariants.{Begin, Finish, Meet}
use Rattle.dp_lean_code.specs.LeanCode.{behind, choice, repetition, branch, test_code, silent_code}
pub use Rattle.dp_lean_code.specs.steps.Leaves.{has_ops, where_filled, assign_code, store_code, print_code, tested, break_code}

-- What is known of a region for the code of one stage: how many statements the block has that begins at a site, if one does;
-- to which variables stores are done; and which sites are checked.
pub record Known : Type 0 where
  pub count : ℕ → ℕ
  pub done : ℕ → Bool
  pub checked : ℕ → Bool

module _ (p : Program) (plan : Plan) (s : ℕ) (k : Known) where
  -- the site is of this stage or an earlier one
  abbrev pub reaches : SiteId → Bool
  reaches site = nat_le (stage_of p plan site.0) s

  -- the site itself asks that its statement is kept
  abbrev pub keeps : SiteId → Bool
  keeps site = (stage_of p plan site.0 == s) || ((site.0 == first_site p plan) || (is_judge p plan s && k.checked site.0))

  -- the stored variable, if any, is one to which stores are done
  abbrev pub does : Option ℕ → Bool
  does None = false
  does (Some x) = k.done x

  -- .. at one of the sites of the statement
  unfoldable pub stored_in : Stmt → Bool
  stored_in x = list_any (λ (a : Access). does a.stores) (accesses x)

  -- .. and of several
  unfoldable pub stored_inside : List Stmt → Bool
  stored_inside block = list_any (λ (a : Access). does a.stores) (flat_map accesses block)

  -- code of a statement that is reached, and is kept because of its site or for another reason
  abbrev pub where_kept : SiteId → Bool → List LeanOp → List LeanOp
  where_kept site also ops = if reaches site && (keeps site || also) then ops else []

  -- an early exit that is reached
  abbrev pub reached_exit : SiteId → Expr → ℕ → List LeanOp
  reached_exit site cond at = if reaches site then break_code p plan s site cond at else []

  -- a choice whose branches' code begins at `inner`, kept where there is something in it
  abbrev pub choice_at : SiteId → Expr → (ℕ → List LeanOp) → (ℕ → List LeanOp) → ℕ → ℕ → List LeanOp
  choice_at site cond a b inner at =
      if keeps site || (has_ops (a inner) || has_ops (b (inner + length (a inner) + 1)))
      then tested p plan s site cond (choice (branch p plan s site) a b) at
      else []

  -- .. behind its condition's value and op
  abbrev pub choice_part : SiteId → Expr → (ℕ → List LeanOp) → (ℕ → List LeanOp) → ℕ → List LeanOp
  choice_part site cond a b at = choice_at site cond a b (at + length (test_code p plan s site cond at) + 1) at

  -- .. and a loop
  abbrev pub loop_part : SiteId → Expr → (ℕ → List LeanOp) → ℕ → List LeanOp
  loop_part site cond a at =
      if keeps site || has_ops (a (at + length (test_code p plan s site cond at) + 1)) then tested p plan s site cond
      (repetition at (branch p plan s site) a) at else []

  -- .. that is reached
  abbrev pub reached_loop : SiteId → Expr → (ℕ → List LeanOp) → ℕ → List LeanOp
  reached_loop site cond a at = if reaches site then loop_part site cond a at else []

  -- the branch that is assumed
  abbrev pub assumed_part : Option Bool → List LeanOp → List LeanOp → List LeanOp
  assumed_part None a b = []
  assumed_part (Some taken) a b = if taken then a else b

  -- a block that is reached: an own one, or another stage's of which a store is done
  abbrev pub block_part : SiteId → List Stmt → ℕ → List LeanOp
  block_part site block at =
      if reaches site
      then (if stage_of p plan site.0 == s then Begin site ∷ (silent_code p plan s block (at + 1) ++ Finish ∷ []) else if stored_inside block
      then Meet site ∷ [] else [])
      else []

  -- what stands at the head of a row: a statement outside of blocks, or a block of so many statements; `onward` leaves out so many
  abbrev pub head_part : ℕ → Stmt → List Stmt → (ℕ → List LeanOp) → (ℕ → ℕ → List LeanOp) → ℕ → List LeanOp
  head_part zero x rest alone onward at = behind at (alone at) (onward zero)
  head_part (suc n) x rest alone onward at = behind at (block_part (site_of (out-Stmt x)) (x ∷ take n rest) at) (onward n)

  unfoldable mutual
    -- the code of a statement outside of blocks that stands from a place on
    pub part : Stmt → ℕ → List LeanOp
    part (stmt.Assign site x e) at = where_kept site (k.done x.0) (assign_code p plan s site x e at)
    part (stmt.Store site x index e) at = where_kept site (k.done x.0) (store_code p plan s site x index e at)
    part (stmt.Print site e) at = where_kept site (is_judge p plan s) (print_code p plan s site e at)
    part (stmt.If' site cond _ a _ b) at =
        if reaches site then choice_part site cond (row zero a) (row zero b) at
        else assumed_part (assumed_in plan.assume site.0) (row zero a at) (row zero b at)
    part (stmt.While' site cond _ a) at = reached_loop site cond (row zero a) at
    part (stmt.Region' r site cond _ a) at = choice_part site cond (row zero a) (λ j. []) at
    part (stmt.Break site cond) at = reached_exit site cond at
    part (stmt.Call f line args) at = []

    -- .. and of several, but for so many at the front
    pub row : {n : _} → ℕ → Row_of-Stmt n → ℕ → List LeanOp
    row skipped end_of-Stmt at = []
    row (suc skipped) (more_of-Stmt x rest) at = row skipped rest at
    row zero (more_of-Stmt x rest) at = head_part (k.count (site_of (out-Stmt x)).0) x (listed rest) (λ j. part x j) (λ n j. row n rest j) at

  -- the same of a list
  unfoldable pub parts : ℕ → List Stmt → ℕ → List LeanOp
  parts skipped [] at = []
  parts (suc skipped) (x ∷ rest) at = parts skipped rest at
  parts zero (x ∷ rest) at = head_part (k.count (site_of (out-Stmt x)).0) x rest (λ j. part x j) (λ n j. parts n rest j) at

  -- .. of statements one after the other, none of which is of a block
  unfoldable pub regions : List Stmt → ℕ → List LeanOp
  regions [] at = []
  regions (x ∷ rest) at = behind at (part x at) (regions rest)
