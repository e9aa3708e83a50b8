-- What is still to be stored is stored after what was.
use Rattle.dp_meaning.proofs.Names.{◌≡◌, drop, with_stores}
use Rattle.dp_meaning.proofs.memory.make_stores.Given as goal

abbrev pub invariant-loop-store : goal.invariant-loop-store
invariant-loop-store l = with_stores (drop l.store-index l.stores) l.cells ≡ with_stores l.fn.stores l.initial.cells
