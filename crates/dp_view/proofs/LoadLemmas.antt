-- The events of an iteration load from the memory that the ones before them leave.
use Rattle.std.proofs.Common.{◌≡◌, refl, sym, ap, subst, true, List, ◌∷◌, ℤ, map, Ok, slice_get}
use Rattle.dp_tree.specs.declared.Stmt.{Stmt, out-Stmt}
use Rattle.dp_tree.specs.declared.Stmt.TheOpen.{Stmt-F, Call}
use Rattle.dp_tree.specs.declared.Program.{Program}
use Rattle.dp_tree.specs.Eval.{WithLoads}
use Rattle.dp_tree.specs.Step.{Config, Effect, Event, Stepped, after_effect, evaluated}
use Rattle.dp_tree.specs.Iteration.{iteration}
use Rattle.dp_tree.specs.Trace.{Run, run_of}
use Rattle.dp_plan.specs.declared.Plan.{Plan}
use Rattle.dp_semantics.specs.LoadedCells.{load_from, loaded_cells}
use Rattle.dp_semantics.proofs.Setting.{Accepted, Goes, event_of, goes, stays}
use Rattle.dp_theorem.proofs.Iterations.{iteration_is}
use Rattle.dp_theorem.proofs.LoadedCells.{cells_tell_loads}
use Rattle.dp_theorem.proofs.Runs.{is_step, run_first, run_step, step_on}
use Rattle.dp_view.specs.Following.{ViewsFollow}
use Rattle.dp_view.specs.Heard.{LoadsFrom}

module _ (p : Program) (input : List ℤ) where
  no_call : (cells : List ℤ) (h : Stmt-F Stmt) (v : WithLoads Effect) → evaluated p input cells h ≡ Ok v → is_step h ≡ true
  no_call cells (Call f line args) v e = absurd (cc)
  no_call cells _ v e = refl

  loads_read : (x : Stmt) (rest : List Stmt) (cells : List ℤ) (v : WithLoads Effect) → evaluated p input cells (out-Stmt x) ≡ Ok v →
      v.loads ≡ map (load_from cells) (loaded_cells v.loads)
  loads_read x rest cells v e =
      let c : Config = record { to_do = x ∷ rest; cells = cells } in
      let next = after_effect p x rest cells (out-Stmt x) v.value in
      cells_tell_loads p input 1 0 c c (event_of (out-Stmt x) v) (run_first p input 1 c)
      (ap (λ (run : Run). slice_get run.trace 0) (run_step p input 0 c (Stepped (event_of (out-Stmt x) v) next)
      (step_on p input x rest cells v (no_call cells (out-Stmt x) v e) e)))

  pub goes_loads : {to_do : List Stmt} {cells : List ℤ} {events : List Event} {after : List Stmt} {then_cells : List ℤ} →
      Goes p input to_do cells events after then_cells → LoadsFrom cells events
  goes_loads stays = tt
  goes_loads (goes {x = x} {rest = rest} {cells = cells} {v = v} e path) = (loads_read x rest cells v e, goes_loads path)

-- Of what is kept where an iteration begins: its source is the memory that the first event loads from.
pub views_follow : {p : Program} {plan : Plan} → Accepted p plan → ViewsFollow p plan
views_follow {p = p} {plan = plan} a input fuel c stands e i k here v kept =
    subst (λ (cells : List ℤ). LoadsFrom cells (iteration (run_of p input fuel c) plan.region i)) (sym kept.source)
    (goes_loads p input (iteration_is a input fuel c stands i k here).path)
