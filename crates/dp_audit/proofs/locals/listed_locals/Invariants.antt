use Rattle.std.proofs.Common.{◌≡◌, ◌||◌, ℕ, drop}
use Rattle.std.specs.List.{list_any}
use Rattle.dp_plan.specs.Written.{has}
use Rattle.dp_semantics.specs.Seen.{is_local_cell}
use Rattle.dp_audit.proofs.locals.listed_locals.Given as goal

abbrev pub invariant-loop-info : goal.invariant-loop-info
invariant-loop-info l = record {
  listed : (c : ℕ) → (has c l.locals || list_any (is_local_cell l.region c) (drop l.info-index l.p.vars)) ≡ list_any (is_local_cell l.region c) l.p.vars;
}
