-- The iteration that was made is the one that the verdict is on.
use Rattle.std.proofs.Common.{◌∙◌, ap, List, ℤ, ◌++◌}
use Rattle.dp_epoch.proofs.Retracing.{prints_are, retraced}
use Rattle.dp_epoch.proofs.ledger.Ledger.retrace.Goals as goal

pub confirm-requires-clause-made : goal.confirm-requires-clause-made
confirm-requires-clause-made g c =
    let s = c.requires.stands in
    let made = c.in_ok-_end.ensures.ok in (
      c.args.self.now.committed,
      c.requires.next,
      retraced s.0 s.1 c.args.self.now.committed c.args.self.now.account s.2 c.args.clean c.requires.next c.execute.new.ledger.committed made.0
          c.in_ok-_end._end made.1,
    )

pub returns-clause-ok : goal.returns-clause-ok
returns-clause-ok g c =
    let s = c.requires.stands in
    let made = c.in_ok-_end.ensures.ok in
    retraced s.0 s.1 c.args.self.now.committed c.args.self.now.account s.2 c.args.clean c.requires.next c.execute.new.ledger.committed made.0
    c.in_ok-_end._end made.1

pub returns-clause-waiting : goal.returns-clause-waiting
returns-clause-waiting g c =
    let s = c.requires.stands in
    let made = c.in_ok-_end.ensures.ok in
    made.2 ∙ ap (λ (xs : List ℤ). c.args.self.now.waiting ++ xs) (prints_are s.0 s.1 c.args.self.now.committed c.args.self.now.account s.2 c.args.clean
    c.requires.next c.execute.new.ledger.committed made.0 c.in_ok-_end._end made.1)
