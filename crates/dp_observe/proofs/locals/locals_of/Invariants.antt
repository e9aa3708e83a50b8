use Rattle.std.proofs.Common.{◌≡◌, ℕ, ◌||◌, ◌&&◌, drop}
use Rattle.std.specs.List.{list_any}
use Rattle.dp_tree.specs.Step.{is_local_of}
use Rattle.dp_profile.specs.Observed.{is_cell_in, is_body_cell}
use Rattle.dp_observe.specs.Sparse.{at}
use Rattle.dp_observe.proofs.locals.locals_of.Given as goal

abbrev pub invariant-loop-info : goal.invariant-loop-info
invariant-loop-info l = record {
  marked : (k : ℕ) → (at l.locals k || list_any (λ x. is_local_of l.region x.scope && is_cell_in k x) (drop l.info-index l.program.vars)) ≡ is_body_cell
      l.program l.region k;
}
