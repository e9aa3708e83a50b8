-- The stores, prints and steps that a Clean judgement tells are those of its iteration's events.
use Rattle.dp_semantics.proofs.Names.{Tried, ◌≡◌, refl, ap, List, [], ◌∷◌, length-map, map, filter_map, cons_option, Option, slice_set, Event, Effect, Stored}
use Rattle.dp_semantics.proofs.Names.{Printed, Decided, Plan, iteration, effect_in}
use Rattle.dp_tree.specs.Trace.{printed_by}
use Rattle.dp_semantics.specs.Told.{store_made, StoresAreAll, Tells}

-- what is chosen of the effects is what is chosen of the events by their effects
pub chosen : {X : Type 0} (by : Effect → Option X) (events : List Event) → filter_map by (map effect_in events) ≡ filter_map (λ (e : Event). by e.effect) events
chosen by [] = refl
chosen by (event ∷ rest) = ap (cons_option (by event.effect)) (chosen by rest)

pub stores_are_all : StoresAreAll
stores_are_all [] cells = refl
stores_are_all (Stored cell value ∷ rest) cells = stores_are_all rest (slice_set cells cell value)
stores_are_all (Printed value ∷ rest) cells = stores_are_all rest cells
stores_are_all (Decided value ∷ rest) cells = stores_are_all rest cells
stores_are_all (Tried value ∷ rest) cells = stores_are_all rest cells

pub tells : (plan : Plan) → Tells plan
tells plan run i = record {
  stores = chosen store_made (iteration run plan.region i);
  prints = chosen printed_by (iteration run plan.region i);
  steps = length-map (iteration run plan.region i) effect_in;
}
