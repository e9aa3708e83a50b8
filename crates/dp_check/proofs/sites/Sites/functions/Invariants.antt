use Rattle.std.proofs.Common.{◌≡◌, drop}
use Rattle.std.specs.List.{flat_map}
use Rattle.dp_check.specs.Tables.{sites_made, item_parts}
use Rattle.dp_check.specs.steps.Growing.{with_sites}
use Rattle.dp_check.proofs.sites.Sites.functions.Given as goal

abbrev pub invariant-loop-item : goal.invariant-loop-item
invariant-loop-item l = with_sites l.fn.self (flat_map (λ item. sites_made 0 (item_parts item)) l.items) ≡ with_sites l.self
    (flat_map (λ item. sites_made 0 (item_parts item)) (drop l.item-index l.items))
