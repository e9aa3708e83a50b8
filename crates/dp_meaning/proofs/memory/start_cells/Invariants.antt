use Rattle.dp_meaning.proofs.Names.{◌≡◌, ◌<◌, ◌^◌, ◌++◌, drop, vec_len, start_cells}
use Rattle.dp_meaning.proofs.memory.start_cells.Given as goal

abbrev pub invariant-loop-info : goal.invariant-loop-info
invariant-loop-info l = record {
  cells : l.values.items ++ start_cells (drop l.info-index l.vars) ≡ start_cells l.vars;
  small : vec_len l.values < 2 ^ 32;
}
