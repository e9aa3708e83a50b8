-- An iteration that is executed again, call by call.
use Rattle.std.proofs.Common.{◌≡◌, sym, ap, ◌∙◌, subst, ◌⊎◌, inl, inr, ℕ, ◌+◌, ◌-◌, ◌<◌, List, [], ◌++◌, ℤ, Option, arith}
use Rattle.std.proofs.lemmas.List.{append-nil}
use Rattle.dp_tree.specs.Trace.{prints}
use Rattle.dp_meaning.specs.declared.ends.Part.TheVariants.{Region}
use Rattle.dp_meaning.specs.declared.ends.IterEnd.{IterEnd}
use Rattle.dp_meaning.specs.declared.ends.IterEnd.TheVariants.{Going}
use Rattle.dp_meaning.specs.MachineState.{next_part, part_at}
use Rattle.dp_meaning.specs.IterationRun.{IterationRun}
use Rattle.dp_commit.specs.CommittedState.{CommittedState, count_after, RecoversFor}
use Rattle.dp_epoch.specs.Remade.{Remade, MayPrint, nothing, some}
use Rattle.dp_epoch.proofs.Joins.{alone, iteration_join, under_way}

-- No call was made yet, or some were and the iteration is under way.
pub record SoFar (old now : CommittedState) (printed : List ℤ) : Type 0 where
  pub now_at : next_part now.machine ≡ Region now.region
  pub made : ((now ≡ old) × (printed ≡ [])) ⊎ Remade old now printed Going

-- two calls as one
joined : (old mid new : CommittedState) (first second : List ℤ) (end : IterEnd) → Remade old mid first Going → Remade mid new second end →
    Remade old new (first ++ second) end
joined old mid new first second end a b =
    let same : mid.region ≡ old.region = ap (λ (s : CommittedState). s.region) a.rest in
    let call : IterationRun old.region b.turns mid.machine new.machine [] second end = subst (λ (r : ℕ). IterationRun r b.turns mid.machine new.machine []
    second end) same b.call in
    record {
      turns = a.turns + b.turns;
      some = omega (arith, a.some);
      call = iteration_join old.region a.turns b.turns old.machine mid.machine new.machine first second a.some a.call end call;
      rest = b.rest ∙ ap (λ (s : CommittedState). record { machine = new.machine; region = s.region; count = count_after s.count end }) a.rest;
    }

-- An iteration that goes on is under way.
goes_on_at : (mid new : CommittedState) (printed : List ℤ) → Remade mid new printed Going → next_part new.machine ≡ Region new.region
goes_on_at mid new printed s =
    ap (λ (o : Option ℕ). part_at o new.machine.config.to_do) (s.call.stops.0.current ∙ under_way mid.region mid.machine.current s.call.events
    (omega (arith, s.some, s.call.stops.2)))
    ∙ ap (λ (r : ℕ). Region r) (sym (ap (λ (t : CommittedState). t.region) s.rest))

module _ (old mid : CommittedState) (first : List ℤ) (h : SoFar old mid first) where
  pub remade : (new : CommittedState) (second : List ℤ) (end : IterEnd) → Remade mid new second end → Remade old new (first ++ second) end
  remade new second end s = by h.made
    where
      by : ((mid ≡ old) × (first ≡ [])) ⊎ Remade old mid first Going → Remade old new (first ++ second) end
      by (inl e) = subst (λ (xs : List ℤ). Remade old new (xs ++ second) end) (sym e.1) (subst (λ (t : CommittedState). Remade t new second end) e.0 s)
      by (inr a) = joined old mid new first second end a s

  pub remade_going : (new : CommittedState) (second : List ℤ) → Remade mid new second Going → SoFar old new (first ++ second)
  remade_going new second s = record { now_at = goes_on_at mid new second s; made = inr (remade new second Going s) }

  pub may_print : (second : List ℤ) → MayPrint mid second → MayPrint old (first ++ second)
  may_print second (nothing e) = by h.made
    where
      none : first ++ second ≡ first
      none = ap (λ (xs : List ℤ). first ++ xs) e ∙ append-nil first

      by : ((mid ≡ old) × (first ≡ [])) ⊎ Remade old mid first Going → MayPrint old (first ++ second)
      by (inl f) = nothing (none ∙ f.1)
      by (inr a) = some mid Going (subst (λ (xs : List ℤ). Remade old mid xs Going) (sym none) a)
  may_print second (some new end s) = some new end (remade new second end s)

-- Where it goes on, there is less fuel left.
pub remade_falls : (mid new : CommittedState) (printed : List ℤ) → Remade mid new printed Going →
    new.machine.fuel - new.machine.steps < mid.machine.fuel - mid.machine.steps
remade_falls mid new printed s = omega (arith, s.some, s.call.moved.steps, s.call.moved.fuel, s.call.stops.1, s.call.stops.2)

-- one call of the committed memory
pub recovers_for : (turns : ℕ) (old new : CommittedState) (before after : List ℤ) (end : IterEnd) → 0 < turns →
    (q : RecoversFor turns old new before after end) → Remade old new (prints q.call.events) end
recovers_for turns old new before after end h q =
    record { turns = turns; some = h; call = alone old.region turns old.machine new.machine before after end q.call; rest = q.rest }
