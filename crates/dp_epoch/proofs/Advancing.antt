-- The region's next iteration comes, with what is reported by then.
use Rattle.std.proofs.Common.{ap, ◌∙◌, ℕ, ◌+◌, Option, List, ℤ}
use Rattle.dp_epoch.specs.declared.account.Account.{Account}
use Rattle.dp_plan.specs.declared.Plan.{Plan}
use Rattle.dp_meaning.specs.declared.ends.IterEnd.TheVariants as iter_end
use Rattle.dp_meaning.specs.MachineState.{MachineState, part_at}
use Rattle.dp_meaning.specs.IterationRun.{IterationRun}
use Rattle.dp_commit.specs.CommittedState.{CommittedState}
use Rattle.dp_commit.proofs.Committing.{held_next}
use Rattle.dp_epoch.specs.Accounts.{Reports}
use Rattle.dp_epoch.specs.Progress.{Progress, Watching, report_before}
use Rattle.dp_epoch.proofs.Here.{first_there}

module _ (plan : Plan) (first : MachineState) (c : CommittedState) (account : Account) (g : Progress plan first c account) (turns : ℕ) (before after : List ℤ)
    (m : MachineState) where
  abbrev pub one_more : CommittedState
  one_more = record c { machine = m; count = c.count + 1 }

  pub advanced : (call : IterationRun c.region turns c.machine m before after iter_end.Next) (more : Account) →
      Reports more (report_before plan first (c.count + 1)) → Watching plan first (c.count + 1) more.why more.views → Progress plan first one_more more
  advanced call more told watching = record {
    start = g.start;
    region = g.region;
    is_open = record {
      next = ap (λ (o : Option ℕ). part_at o m.config.to_do) call.stops.current ∙ call.stops.head;
      between = call.stops.current;
      sound = call.spoiled ∙ g.is_open.sound;
    };
    holds = (held_next first c g.holds g.is_open m turns before after call).held;
    left = call.stops.rest ∙ first_there plan first c account g;
    report_is = told;
    views_are = watching;
  }
