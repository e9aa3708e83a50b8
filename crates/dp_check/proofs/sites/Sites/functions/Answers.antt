use Rattle.std.proofs.Common.{◌<◌, length, sym, ◌∙◌, arith}
use Rattle.std.specs.List.{flat_map}
use Rattle.dp_check.specs.Tables.{sites_made, item_parts}
use Rattle.dp_check.specs.steps.Growing.{with_sites}
use Rattle.dp_check.proofs.TableLemmas as tables
use Rattle.dp_check.proofs.sites.Sites.functions.Goals as goal
use Rattle.dp_room.proofs.LoopLemmas.{fold_more, fold_end}

pub loop-item-preserved : goal.loop-item-preserved
loop-item-preserved c =
    let below : c.loop-item.item-index < length c.args.items.now = omega arith in
    fold_more (λ t all. with_sites t (flat_map (λ item. sites_made 0 (item_parts item)) all)) (λ t item. with_sites t (sites_made 0 (item_parts item)))
    (tables.flat_sites_more (λ item. sites_made 0 (item_parts item))) c.args.items.now c.loop-item.item-index c.loop-item.self _ c.loop-item.invariant
    c.item-item.result below c.item-item.is c.function.new.self c.in_ok-function.ensures

pub returns : goal.returns
returns c =
    sym (fold_end (λ t all. with_sites t (flat_map (λ item. sites_made 0 (item_parts item)) all)) (λ t item. with_sites t (sites_made 0 (item_parts item)))
    (tables.flat_sites_more (λ item. sites_made 0 (item_parts item))) c.args.items.now c.loop-item.item-index c.loop-item.self _ c.loop-item.invariant
    (omega arith) ∙ tables.with_sites-none c.loop-item.self)
