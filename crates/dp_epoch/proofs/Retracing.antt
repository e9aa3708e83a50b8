-- A clean iteration that is made step by step is committed as its verdict says.
use Rattle.std.proofs.Common.{◌≡◌, ◌+◌, refl, sym, ap, ◌∙◌, subst, ℕ, Bool, true, false, List, [], ℤ, Option, Some, None}
use Rattle.dp_plan.specs.declared.Plan.{Plan}
use Rattle.dp_tree.specs.Trace.{prints}
use Rattle.dp_tree.specs.Iteration.{has_ended, is_closing, iteration}
use Rattle.dp_base.specs.declared.End.TheVariants as how
use Rattle.dp_semantics.specs.EpochVerdicts.{Carried}
use Rattle.dp_meaning.specs.IterationRun.{IterationRun}
use Rattle.dp_meaning.specs.NextIteration.{end_of_iteration}
use Rattle.dp_meaning.specs.MachineState.{MachineState, fuel_left, rest_of_run}
use Rattle.dp_commit.specs.CommittedState.{CarriesNext, CommittedState, region_run}
use Rattle.dp_epoch.specs.declared.account.Account.{Account}
use Rattle.dp_epoch.specs.declared.ends.RegionEnd.{RegionEnd}
use Rattle.dp_epoch.specs.declared.ends.RegionEnd.TheVariants as region_end
use Rattle.dp_epoch.specs.Applied.{Applied}
use Rattle.dp_epoch.specs.Progress.{Progress}
use Rattle.dp_epoch.specs.Remade.{Remade, iteration_end}
use Rattle.dp_epoch.proofs.Carrying.{closing_same, ended_same, iteration_same}
use Rattle.dp_epoch.proofs.Done as done
use Rattle.dp_epoch.proofs.Rehearing.{events_made, going_on}
use Rattle.dp_epoch.proofs.Stopped.{not_ended}

module _ (plan : Plan) (first : MachineState) (c : CommittedState) (account : Account) (g : Progress plan first c account) (v : Carried)
    (next : CarriesNext c v) (new : CommittedState) (printed : List ℤ) where
  ended : has_ended (region_run first) plan.region c.count ≡ true
  ended = ended_same plan first c account g ∙ ap (λ (r : ℕ). has_ended (rest_of_run c.machine) r 0) (sym g.region) ∙ next.iteration_is.ended

  closing_is : v.closing ≡ is_closing (region_run first) plan.region c.count
  closing_is = next.iteration_is.closing_is ∙ ap (λ (r : ℕ). is_closing (rest_of_run c.machine) r 0) g.region ∙ sym (closing_same plan first c account g)

  pub prints_are : (end : Option RegionEnd) (s : Remade c new printed (iteration_end end)) → printed ≡ v.prints
  prints_are end s =
      s.call.moved.prints ∙ ap prints (sym (events_made plan first c account g new printed end s) ∙ iteration_same plan first c account g
      ∙ ap (λ (r : ℕ). iteration (rest_of_run c.machine) r 0) (sym g.region)) ∙ sym next.prints_are

  committed : (b : Bool) → v.closing ≡ b → (end : Option RegionEnd) → iteration_end end ≡ end_of_iteration b → Remade c new printed (iteration_end end) →
      new ≡ record c { machine = new.machine; count = c.count + 1 } → Applied v c new
  committed b closing end same s rest = record {
    turns = s.turns;
    call = subst (λ (t : Bool). IterationRun c.region s.turns c.machine new.machine [] v.prints (end_of_iteration t)) (sym closing)
        (subst (λ (xs : List ℤ). IterationRun c.region s.turns c.machine new.machine [] xs (end_of_iteration b)) (prints_are end s)
        (subst (IterationRun c.region s.turns c.machine new.machine [] printed) same s.call));
    rest = rest;
  }

  -- It ended, so neither a fault nor the fuel stopped it.
  pub retraced : (end : Option RegionEnd) → Remade c new printed (iteration_end end) → Applied v c new
  retraced None s = committed false (closing_is ∙ going_on plan first c account g new printed s) None refl s s.rest
  retraced (Some region_end.Closed) s =
      committed true (closing_is ∙ done.closing_here plan first c account g new.machine s.turns [] printed s.call) (Some region_end.Closed) refl s s.rest
  retraced (Some (region_end.Fault fault)) s =
      let clash : false ≡ true = sym (not_ended plan first c account g new.machine [] printed s.call.events s.call.configs s.call.moved s.call.heads
      s.call.stops.0 s.call.spoiled (fuel_left new.machine) (how.Fault fault) s.call.stops.2.ends) ∙ ended in
      absurd (cc clash)
  retraced (Some region_end.Fuel) s =
      let clash : false ≡ true = sym (not_ended plan first c account g new.machine [] printed s.call.events s.call.configs s.call.moved s.call.heads
      s.call.stops.0 s.call.spoiled 0 how.Fuel s.call.stops.1.ends) ∙ ended in
      absurd (cc clash)
