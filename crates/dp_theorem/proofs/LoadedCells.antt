-- Each load of an event is what its cell held before the step.
use Rattle.dp_semantics.proofs.Names.{◌≡◌, inl, inr, refl, subst, ℕ, suc, ◌+◌, Bool, true, false, if◌then◌else◌, List, [], ◌∷◌, ℤ, pos, negsuc, length, map}
use Rattle.dp_semantics.proofs.Names.{get_or, nat_lt, slice_get_within, Result, Ok, Err, arith, cases_Bool, FaultKind, Expr, more_of-Expr, end_of-Expr, Program}
use Rattle.dp_semantics.proofs.Names.{Stmt, Stmt-F, out-Stmt, Assign, Store, Print, If, While, Region, Break, Call, SiteId, Evaluated, and_then, after_loads}
use Rattle.dp_semantics.proofs.Names.{just, without_loads, place, load, Load, first_cell, cell_count, unary_result, binary_result, is_zero, slice_get-get_or}
use Rattle.dp_semantics.proofs.Names.{Config, Effect, Stored, Step, Stepped, Faulted, Finished, step, step_at, step_by, evaluated, run_of}
unfoldable use Rattle.dp_semantics.proofs.Names.{eval}
use Rattle.dp_tree.specs.declared.Expr.TheVariants as tree
use Rattle.dp_tree.proofs.RunLaws.{runs_by_step}
use Rattle.dp_semantics.specs.LoadedCells.{load_from, loaded_cells, CellsTellLoads}
use Rattle.dp_semantics.proofs.Setting.{Each, each_join}

module _ (cells : List ℤ) where
  -- the load gave what the memory holds
  abbrev IsRead : Load → Type 0
  IsRead l = l ≡ load_from cells l.cell

  -- .. as each one on the way to a value
  unfoldable Reads : {X : Type 0} → Evaluated X → Type 0
  Reads (Ok v) = Each IsRead v.loads
  Reads (Err fault) = Unit {0}

  reads_just : {X : Type 0} (x : X) → Reads (just x)
  unfolding Reads
  reads_just x = tt

  reads_same : {X : Type 0} (r : Result X FaultKind) → Reads (without_loads r)
  unfolding Reads
  reads_same (Ok x) = tt
  reads_same (Err fault) = tt

  reads_place : (i : ℤ) (n : ℕ) → Reads (place i n)
  unfolding Reads
  reads_place (pos i) n = elim (cases_Bool (nat_lt i n)) [ inl e ↦ rw e tt | inr e ↦ rw e tt ]
  reads_place (negsuc i) n = tt

  reads_load : (c : ℕ) → Reads (load cells c)
  unfolding Reads
  reads_load c = (refl, tt)

  reads_then : {X Y : Type 0} (u : Evaluated X) (f : X → Evaluated Y) → Reads u → ((x : X) → Reads (f x)) → Reads (and_then u f)
  unfolding Reads
  reads_then {Y = Y} (Ok x) f first next = by (f x.value) (next x.value)
    where
      by : (r : Evaluated Y) → Reads r → Reads (after_loads x.loads r)
      by (Ok y) t = each_join IsRead x.loads y.loads first t
      by (Err fault) t = tt
  reads_then (Err fault) f first next = tt

  reads_if : {X : Type 0} (b : Bool) (u f : Evaluated X) → Reads u → Reads f → Reads (if b then u else f)
  reads_if true u f h k = h
  reads_if false u f h k = k

  module _ (p : Program) (input : List ℤ) where
    eval_reads : (e : Expr) → Reads (eval p input cells e)
    unfolding eval
    eval_reads (tree.Number n) = reads_just _
    eval_reads (tree.Input' _ (more_of-Expr e end_of-Expr)) =
        reads_then _ _ (eval_reads e) (λ i. reads_then _ _ (reads_place i (length input)) (λ k. reads_just _))
    eval_reads tree.InputLen = reads_just _
    eval_reads (tree.Scalar x) = reads_load (first_cell p x)
    eval_reads (tree.Element' x _ (more_of-Expr e end_of-Expr)) =
        reads_then _ _ (eval_reads e) (λ i. reads_then _ _ (reads_place i (cell_count p x)) (λ k. reads_load (first_cell p x + k)))
    eval_reads (tree.Unary' op _ (more_of-Expr e end_of-Expr)) = reads_then _ _ (eval_reads e) (λ x. reads_same (unary_result op x))
    eval_reads (tree.Binary' op _ (more_of-Expr a end_of-Expr) _ (more_of-Expr b end_of-Expr)) =
        reads_then _ _ (eval_reads a) (λ x. reads_then _ _ (eval_reads b) (λ y. reads_same (binary_result op x y)))
    eval_reads (tree.And' _ (more_of-Expr a end_of-Expr) _ (more_of-Expr b end_of-Expr)) =
        reads_then _ _ (eval_reads a) (λ x. reads_if (is_zero x) _ _ (reads_just (pos 0)) (reads_then _ _ (eval_reads b) (λ y. reads_just _)))
    eval_reads (tree.Or' _ (more_of-Expr a end_of-Expr) _ (more_of-Expr b end_of-Expr)) =
        reads_then _ _ (eval_reads a) (λ x. reads_if (is_zero x) _ _ (reads_then _ _ (eval_reads b) (λ y. reads_just _)) (reads_just (pos 1)))

    one_reads : (e : Expr) (f : ℤ → Effect) → Reads (and_then (eval p input cells e) (λ z. just (f z)))
    one_reads e f = reads_then _ _ (eval_reads e) (λ z. reads_just (f z))

    head_reads : (h : Stmt-F Stmt) → Reads (evaluated p input cells h)
    unfolding Reads
    head_reads (Assign site x e) = one_reads e _
    head_reads (Store site x index e) =
        reads_then _ _ (eval_reads index)
        (λ i. reads_then _ _ (eval_reads e) (λ z. reads_then _ _ (reads_place i (cell_count p x))
        (λ k. reads_just {X = Effect} (Stored (first_cell p x + k) z))))
    head_reads (Print site e) = one_reads e _
    head_reads (If site cond a b) = one_reads cond _
    head_reads (While site cond a) = one_reads cond _
    head_reads (Region r site cond a) = one_reads cond _
    head_reads (Break site cond) = one_reads cond _
    head_reads (Call f line args) = tt

    -- a step that is made
    abbrev StepReads : Step → Type 0
    StepReads (Stepped event next) = Each IsRead event.loads
    StepReads (Faulted fault) = Unit {0}
    StepReads Finished = Unit {0}

    by_reads : (site : SiteId) (v : Evaluated Effect) (next : Effect → Config) → Reads v → StepReads (step_by p site v next)
    unfolding Reads
    by_reads site (Ok v) next h = h
    by_reads site (Err kind) next h = tt

    at_reads : (s : Stmt) (rest : List Stmt) (h : Stmt-F Stmt) → StepReads (step_at p input cells s rest h)
    at_reads s rest (Call f line args) = tt
    at_reads s rest (Assign site x e) = by_reads site _ _ (head_reads (Assign site x e))
    at_reads s rest (Store site x index e) = by_reads site _ _ (head_reads (Store site x index e))
    at_reads s rest (Print site e) = by_reads site _ _ (head_reads (Print site e))
    at_reads s rest (If site cond a b) = by_reads site _ _ (head_reads (If site cond a b))
    at_reads s rest (While site cond a) = by_reads site _ _ (head_reads (While site cond a))
    at_reads s rest (Region r site cond a) = by_reads site _ _ (head_reads (Region r site cond a))
    at_reads s rest (Break site cond) = by_reads site _ _ (head_reads (Break site cond))

  listed : (loads : List Load) → Each IsRead loads → loads ≡ map (load_from cells) (loaded_cells loads)
  listed [] h = refl
  listed (l ∷ rest) h = λ i. h.0 i ∷ listed rest h.1 i

step_reads : (p : Program) (input : List ℤ) (c : Config) → StepReads c.cells p input (step p input c)
step_reads p input c = by c.to_do
  where
    by : (to_do : List Stmt) → StepReads c.cells p input (Rattle.dp_tree.specs.Step.step_from p input c.cells to_do)
    by [] = tt
    by (s ∷ rest) = at_reads c.cells p input s rest (out-Stmt s)

pub cells_tell_loads : (p : Program) → CellsTellLoads p
cells_tell_loads p input fuel k c before event there made =
    let g = runs_by_step p input fuel c in
    let within = slice_get_within (run_of p input fuel c).trace k event made in
    let next = slice_get-get_or (run_of p input fuel c).configs (suc k) before (omega (arith, g.one_more, within)) in
    listed before.cells event.loads (subst (StepReads before.cells p input) (g.each k before (get_or (run_of p input fuel c).configs (suc k) before) event there
    made next) (step_reads p input before))
