-- What waits while an iteration is executed again, and what is to come behind it.
use Rattle.std.proofs.Common.{◌≡◌, refl, sym, ap, ◌∙◌, append_assoc, List, ◌++◌, Option, Some, None, ℤ}
use Rattle.std.proofs.lemmas.List.{append-nil}
use Rattle.dp_epoch.specs.declared.account.Account.{Account}
use Rattle.dp_plan.specs.declared.Plan.{Plan}
use Rattle.dp_meaning.specs.MachineState.{MachineState}
use Rattle.dp_commit.specs.CommittedState.{CommittedState}
use Rattle.dp_epoch.specs.declared.ends.RegionEnd.{RegionEnd}
use Rattle.dp_epoch.specs.InEpoch.{left_by_recovery}
use Rattle.dp_epoch.specs.Prints.{prints_to_come}
use Rattle.dp_epoch.specs.Progress.{Progress}
use Rattle.dp_epoch.specs.Remade.{Remade, iteration_end}
use Rattle.dp_epoch.proofs.Recovering.{left_behind, recovered_prints}

-- the prints of two calls
pub waits : (old first mid second new : List ℤ) → mid ≡ old ++ first → new ≡ mid ++ second → new ≡ old ++ (first ++ second)
waits old first mid second new a b = b ∙ ap (λ (xs : List ℤ). xs ++ second) a ∙ append_assoc old first second

module _ (plan : Plan) (first : MachineState) (c : CommittedState) (account : Account) (g : Progress plan first c account) (waiting : List ℤ) (printed : List ℤ)
    (new : CommittedState) (end : Option RegionEnd) (s : Remade c new printed (iteration_end end)) where
  pub is_split : prints_to_come plan first waiting c.count ≡ (waiting ++ printed) ++ left_behind plan first c account g new.count end
  is_split = ap (λ (xs : List ℤ). waiting ++ xs) (recovered_prints plan first c account g new printed end s)
      ∙ sym (append_assoc waiting printed (left_behind plan first c account g new.count end))

  pub same_left : (after : List ℤ) (o : Option RegionEnd) → after ++ left_behind plan first c account g new.count o ≡ left_by_recovery plan
      first after new.count o
  same_left after None = refl
  same_left after (Some x) = append-nil after

  pub recovered_ahead : (after : List ℤ) → after ≡ waiting ++ printed → prints_to_come plan first waiting c.count ≡ left_by_recovery plan
      first after new.count end
  recovered_ahead after is = is_split ∙ ap (λ (xs : List ℤ). xs ++ left_behind plan first c account g new.count end) (sym is) ∙ same_left after end
