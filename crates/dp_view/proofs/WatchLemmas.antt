-- Steps that are watched one by one.
use Rattle.std.proofs.Common.{◌≡◌, refl, sym, ap, ◌∙◌, subst, arith, ℕ, ◌+◌, ◌<◌, List, [], ◌∷◌, ◌++◌, ℤ, length, map, Option, Some, None}
use Rattle.dp_base.specs.declared.Cause.{Cause}
use Rattle.dp_base.specs.declared.SiteId.{SiteId}
use Rattle.dp_tree.specs.Event as event
use Rattle.dp_tree.specs.Step.{Event, stored}
use Rattle.dp_semantics.specs.LoadedCells.{load_from, loaded_cells}
use Rattle.dp_meaning.specs.MachineState.{MachineState, rest_of_run}
use Rattle.dp_meaning.specs.Watched.{Watches, effect_seen}
use Rattle.dp_meaning.specs.declared.sight.Effect.{Effect}
use Rattle.dp_view.specs.Viewed.{Viewed, after_all, after_event, effect_of, event_told, noticed}
use Rattle.dp_view.specs.Heard.{Comes, LoadsFrom}

effect_back : (e : event.Effect) → effect_of (effect_seen e) ≡ e
effect_back (event.Stored cell value) = refl
effect_back (event.Printed value) = refl
effect_back (event.Decided value) = refl
effect_back (event.Tried value) = refl

-- what is told of an event is the event
told_is : (source : List ℤ) (site : SiteId) (seen : Effect) (cells : List ℕ) (e : Event) → site ≡ record { 0 = e.site } → seen ≡ effect_seen e.effect →
    cells ≡ loaded_cells e.loads → e.loads ≡ map (load_from source) (loaded_cells e.loads) →
    event_told source site seen cells ≡ e
told_is source site seen cells e at did from loads = λ i. record {
  site = (ap (λ (s : SiteId). s.0) at) i;
  loads = (ap (map (load_from source)) from ∙ sym loads) i;
  effect = (ap effect_of did ∙ effect_back e.effect) i;
}

source_after : (o : Option Cause) (e : Event) (v : Viewed) → (noticed o e v).source ≡ stored e.effect v.source
source_after (Some cause) e v = refl
source_after None e v = refl

-- One step brings what comes on.
pub follows_step : (m new : MachineState) (until : ℕ) (v w : Viewed) (site : SiteId) (seen : Effect) (cells : List ℕ) → Watches site seen cells m new →
    m.steps < until → w ≡ after_event (event_told v.source site seen cells) v →
    (left later : List Event) → Comes m until v.source left later → (x : List Event) × Comes new until w.source x later × (after_all x w ≡ after_all left v)
follows_step m new until v w site seen cells s less is [] later c = let at = c.steps in absurd (omega (arith, less, at))
follows_step m new until v w site seen cells s less is (e ∷ rest) later c =
    let both : s.event ∷ (rest_of_run new).trace ≡ e ∷ (rest ++ later) = sym s.trace ∙ c.trace in
    let one : s.event ≡ e = cc both in
    let more : (rest_of_run new).trace ≡ rest ++ later = cc both in
    let told : event_told v.source site seen cells ≡ e =
    told_is v.source site seen cells e (s.site_is ∙ ap (λ (x : Event). record { 0 = x.site }) one) (s.effect_is ∙ ap (λ (x : Event). effect_seen x.effect) one)
    (s.cells_are ∙ ap (λ (x : Event). loaded_cells x.loads) one) c.loads.0 in
    let next : w ≡ after_event e v = is ∙ ap (λ (x : Event). after_event x v) told in
    let count : new.steps + length rest ≡ until = omega (arith, s.steps, c.steps) in (
      rest,
      record {
        trace = more;
        steps = count;
        loads = subst (λ (cs : List ℤ). LoadsFrom cs rest) (sym (ap (λ (x : Viewed). x.source) next ∙ source_after v.found e v)) c.loads.1;
      },
      ap (after_all rest) next,
    )

-- Where the run is over, nothing comes.
pub nothing_comes : {A : Type 0} (m : MachineState) (until : ℕ) (cells : List ℤ) (left later : List Event) → (rest_of_run m).trace ≡ [] → m.steps < until →
    Comes m until cells left later → A
nothing_comes m until cells [] later none less c = let at = c.steps in absurd (omega (arith, less, at))
nothing_comes m until cells (e ∷ rest) later none less c = let clash : [] ≡ e ∷ (rest ++ later) = sym none ∙ c.trace in absurd (cc clash)
