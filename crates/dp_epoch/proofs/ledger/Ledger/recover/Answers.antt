-- What the stages see is kept or isn't, before and behind the steps.
use Rattle.std.proofs.Common.{sym, ap, ◌∙◌, subst, Option, Some}
use Rattle.std.proofs.lemmas.Result.{on_ok_weaker}
use Rattle.dp_view.specs.Viewed.{Viewed}
use Rattle.dp_epoch.specs.Accounts.{HearsOn}
use Rattle.dp_epoch.proofs.ledger.Ledger.recover.Goals as goal

pub returns-in-Some-clause-heard : goal.returns-in-Some-clause-heard
returns-in-Some-clause-heard c =
    on_ok_weaker c.watch_steps.result
    (λ h. subst (λ (o : Option Viewed). HearsOn c.args.self.now.committed.machine c.watch_steps.new.committed.machine o (Some c.watch_steps.new.views))
    (ap Some c.get_mut.ensures.value ∙ sym c.in-Some.is) h)
    c.watch_steps.ensures.heard
