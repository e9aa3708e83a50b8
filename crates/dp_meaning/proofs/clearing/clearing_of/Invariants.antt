-- What is still to be cleared is cleared after what the rows clear.
use Rattle.dp_meaning.proofs.Names.{◌≡◌, ℕ, List, [], ℤ, drop, get_or, clear_locals, with_stores}
use Rattle.dp_meaning.proofs.clearing.clearing_of.Given as goal

abbrev pub invariant-loop-info : goal.invariant-loop-info
invariant-loop-info l = (r : ℕ) (cells : List ℤ) → clear_locals r (drop l.info-index l.vars) (with_stores (get_or l.rows r []) cells)
    ≡ clear_locals r l.vars cells
