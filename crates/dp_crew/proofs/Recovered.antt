-- What is written while an iteration is executed again.
use Rattle.std.proofs.Common.{sym, ap, ◌∙◌, subst, append_assoc, ℕ, List, ◌++◌, Option, ℤ}
use Rattle.dp_plan.specs.declared.Plan.{Plan}
use Rattle.dp_meaning.specs.MachineState.{MachineState}
use Rattle.dp_report.specs.PrintsText.{prints_bytes}
use Rattle.dp_commit.specs.CommittedState.{CommittedState}
use Rattle.dp_epoch.specs.declared.account.Account.{Account}
use Rattle.dp_epoch.specs.declared.ends.RegionEnd.{RegionEnd}
use Rattle.dp_edge.specs.Writing.{WritesFront}
use Rattle.dp_epoch.specs.Prints.{prints_to_come}
use Rattle.dp_crew.specs.Output.{Emits}
use Rattle.dp_epoch.specs.Progress.{Progress}
use Rattle.dp_epoch.specs.InEpoch.{left_by_recovery}
use Rattle.dp_epoch.specs.Remade.{Remade, MayPrint, iteration_end}
use Rattle.dp_crew.proofs.StreamLemmas.{emits_ahead, emits_stopped, front_within}
use Rattle.dp_epoch.proofs.Recovering.{front_prints, left_behind}
use Rattle.dp_epoch.proofs.Reexecuted.{is_split, same_left}

module _ (plan : Plan) (first : MachineState) (c : CommittedState) (account : Account) (g : Progress plan first c account) (waiting : List ℤ) (printed : List ℤ)
    (told tells : Option (List ℕ)) where
  pub recovery_front : MayPrint c printed → WritesFront (prints_bytes (waiting ++ printed)) told tells →
      WritesFront (prints_bytes (prints_to_come plan first waiting c.count)) told tells
  recovery_front may w =
      let more = front_prints plan first c account g printed may in
      front_within (waiting ++ printed) (prints_to_come plan first waiting c.count) told tells
      (more.0, ap (λ (xs : List ℤ). waiting ++ xs) more.1 ∙ sym (append_assoc waiting printed more.0)) w

  module _ (new : CommittedState) (end : Option RegionEnd) (s : Remade c new printed (iteration_end end)) where
    pub recovery_emits : (after : List ℤ) → Emits (waiting ++ printed) after told tells → Emits (prints_to_come plan first waiting c.count)
        (left_by_recovery plan first after new.count end) told tells
    recovery_emits after e =
        subst (λ (xs : List ℤ). Emits xs (left_by_recovery plan first after new.count end) told tells)
        (sym (is_split plan first c account g waiting printed new end s))
        (subst (λ (xs : List ℤ). Emits ((waiting ++ printed) ++ left_behind plan first c account g new.count end) xs told tells)
        (same_left plan first c account g waiting printed new end s after end)
        (emits_ahead (waiting ++ printed) after (left_behind plan first c account g new.count end) told tells e))

    pub recovery_stopped : (after : List ℤ) → Emits (waiting ++ printed) after told tells →
        WritesFront (prints_bytes (prints_to_come plan first waiting c.count)) told tells
    recovery_stopped after e =
        front_within (waiting ++ printed) (prints_to_come plan first waiting c.count) told tells
        (left_behind plan first c account g new.count end, is_split plan first c account g waiting printed new end s)
        (emits_stopped (waiting ++ printed) after told tells e)
