use Rattle.std.proofs.Common.{◌≡◌, drop}
use Rattle.std.specs.List.{list_any}
use Rattle.dp_sites.specs.Storings as spec
use Rattle.dp_sites.proofs.compared.differs_by_store.Given as goal

abbrev pub invariant-loop-load : goal.invariant-loop-load
invariant-loop-load l = list_any (λ load. spec.stores_otherwise l.p l.plan l.part load.var l.storing) (drop l.load-index l.part.loads) ≡ list_any
    (λ load. spec.stores_otherwise l.p l.plan l.part load.var l.storing) l.part.loads
