-- What each verdict leads to.
use Rattle.std.proofs.Common.{refl, sym, ap, ◌∙◌, append-nil, arith}
use Rattle.dp_commit.specs.CommittedState.{CommittedState}
use Rattle.dp_epoch.specs.declared.account.Account.{Account}
use Rattle.dp_epoch.proofs.EpochLemmas.{closes_ahead, epoch_closes, epoch_goes, goes_ahead, left_falls, left_here, may_commit, report_here, told_so}
use Rattle.dp_epoch.proofs.EpochLemmas.{unclean_here, waits}
use Rattle.dp_epoch.proofs.taken.take.Goals as goal

pub next-requires : goal.next-requires
next-requires g c n h = c.requires.epoch.1.gone n h

pub commit-requires-clause-stands : goal.commit-requires-clause-stands
commit-requires-clause-stands g c = let e = c.requires.epoch in (_, e.0, e.1.progress)

pub commit-requires-clause-next : goal.commit-requires-clause-next
commit-requires-clause-next g c =
    let gives = told_so (g.V.Verdicts.key c.args.verdicts.now) _ _ _ c.in-Clean.ensures c.next.ensures.verdict in
    may_commit _ _ _ _ _ c.requires.epoch.1 c.in-Clean.clean gives

pub commit-requires-clause-tally : goal.commit-requires-clause-tally
commit-requires-clause-tally g c =
    let gives = told_so (g.V.Verdicts.key c.args.verdicts.now) _ _ _ c.in-Clean.ensures c.next.ensures.verdict in
    let some = left_here _ _ _ _ _ c.requires.epoch.1 c.in-Clean.clean gives in
    let room = c.requires.room in
    omega (arith, some, room)

pub returns-then-closing-clause-taken : goal.returns-then-closing-clause-taken
returns-then-closing-clause-taken g c =
    let gives = told_so (g.V.Verdicts.key c.args.verdicts.now) _ _ _ c.in-Clean.ensures c.next.ensures.verdict in
    let clean = c.in-Clean.clean in
    let closing = sym c.closing-closing.ensures ∙ c.if-closing.true in
    let done = c.in_ok-commit-in-Clean.ensures in
    let less = left_falls clean c.args.ledger.now.committed c.commit.new.self.committed c.requires.epoch.1.progress.is_open done.ok in
    let room = c.requires.room in
    let one = done.tally in
    let counted = ap (λ (s : CommittedState). s.count) done.ok.rest in
    record {
      stands = λ first e. epoch_closes _ _ first _ _ e clean gives c.commit.new.self.committed done.ok c.commit.new.self.account done.account closing;
      prints = λ first e. waits _ _ first _ _ e clean gives c.args.ledger.now.waiting c.commit.new.self.waiting done.waiting;
      ahead = λ first e. closes_ahead _ _ first _ _ e clean gives c.commit.new.self.committed done.ok c.args.ledger.now.waiting c.commit.new.self.waiting
          done.waiting closing;
      kept = λ e. absurd (cc e);
      report = ap (λ (a : Account). a.report) done.account.account;
      why = ap (λ (a : Account). a.why) done.account.account;
      counted = omega (arith, one, counted);
      room = omega (arith, less, room, one);
      left = omega (arith, less);
      falls = λ e. less;
    }

pub returns-else-closing-clause-taken : goal.returns-else-closing-clause-taken
returns-else-closing-clause-taken g c =
    let gives = told_so (g.V.Verdicts.key c.args.verdicts.now) _ _ _ c.in-Clean.ensures c.next.ensures.verdict in
    let clean = c.in-Clean.clean in
    let going = sym c.closing-closing.ensures ∙ c.if-closing.false in
    let done = c.in_ok-commit-in-Clean.ensures in
    let less = left_falls clean c.args.ledger.now.committed c.commit.new.self.committed c.requires.epoch.1.progress.is_open done.ok in
    let room = c.requires.room in
    let one = done.tally in
    let counted = ap (λ (s : CommittedState). s.count) done.ok.rest in
    record {
      stands = λ first e. epoch_goes _ _ first _ _ e clean gives c.commit.new.self.committed done.ok c.commit.new.self.account done.account going;
      prints = λ first e. waits _ _ first _ _ e clean gives c.args.ledger.now.waiting c.commit.new.self.waiting done.waiting;
      ahead = λ first e. goes_ahead _ _ first _ _ e clean gives c.commit.new.self.committed done.ok c.args.ledger.now.waiting
          c.commit.new.self.waiting done.waiting;
      kept = λ e. absurd (cc e);
      report = ap (λ (a : Account). a.report) done.account.account;
      why = ap (λ (a : Account). a.why) done.account.account;
      counted = omega (arith, one, counted);
      room = omega (arith, less, room, one);
      left = omega (arith, less);
      falls = λ e. less;
    }

pub returns-in-Unclean-clause-taken : goal.returns-in-Unclean-clause-taken
returns-in-Unclean-clause-taken g c = record {
  stands = λ first e.
      let gives = told_so (g.V.Verdicts.key c.args.verdicts.now) _ _ _ c.in-Unclean.ensures c.next.ensures.verdict in
      unclean_here _ _ first _ _ e gives.0 gives.1;
  prints = λ first e. sym (append-nil c.args.ledger.now.waiting);
  ahead = λ first e. refl;
  kept = λ e. (refl, refl);
  report = report_here _ _ _ _ _ c.requires.epoch.1;
  why = refl;
  counted = refl;
  room = c.requires.room;
  left = omega arith;
  falls = λ e. absurd (cc e);
}
