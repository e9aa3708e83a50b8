-- What each verdict leads to that is followed.
use Rattle.std.proofs.Common.{◌≤◌, refl, sym, ap, ◌∙◌, append-nil, arith}
use Rattle.dp_commit.specs.CommittedState.{CommittedState}
use Rattle.dp_epoch.specs.declared.account.Account.{Account}
use Rattle.dp_epoch.proofs.EpochLemmas.{left_falls, told_so}
use Rattle.dp_epoch.proofs.OtherEpoch.{followed_ahead, followed_left, followed_on, followed_report, followed_waits, leaves_followed, may_follow}
use Rattle.dp_epoch.proofs.following.follow.Goals as goal

pub next-requires : goal.next-requires
next-requires g c n h = c.requires.epoch.2.other.gone n h

pub commit-requires-clause-stands : goal.commit-requires-clause-stands
commit-requires-clause-stands g c = let e = c.requires.epoch in (e.0, e.1, e.2.progress)

pub commit-requires-clause-next : goal.commit-requires-clause-next
commit-requires-clause-next g c =
    let e = c.requires.epoch in
    let few : c.in-Clean.clean.steps ≤ e.0.words = omega (arith, e.3, c.if-steps-words.false, c.steps-steps.ensures) in
    let gives = told_so (g.V.Verdicts.key c.args.verdicts.now) _ _ _ c.in-Clean.ensures c.next.ensures.verdict in
    may_follow e.0 _ _ e.1 _ _ e.2 c.in-Clean.clean gives (sym c.closing-closing.ensures ∙ c.if-closing.false) few

pub commit-requires-clause-tally : goal.commit-requires-clause-tally
commit-requires-clause-tally g c =
    let e = c.requires.epoch in
    let few : c.in-Clean.clean.steps ≤ e.0.words = omega (arith, e.3, c.if-steps-words.false, c.steps-steps.ensures) in
    let gives = told_so (g.V.Verdicts.key c.args.verdicts.now) _ _ _ c.in-Clean.ensures c.next.ensures.verdict in
    let some = followed_left e.0 _ _ e.1 _ _ e.2 c.in-Clean.clean gives (sym c.closing-closing.ensures ∙ c.if-closing.false) few in
    let room = c.requires.room in
    omega (arith, some, room)

pub returns-in_ok-commit-in-Clean-clause-followed : goal.returns-in_ok-commit-in-Clean-clause-followed
returns-in_ok-commit-in-Clean-clause-followed g c =
    let gives = told_so (g.V.Verdicts.key c.args.verdicts.now) _ _ _ c.in-Clean.ensures c.next.ensures.verdict in
    let clean = c.in-Clean.clean in
    let going = sym c.closing-closing.ensures ∙ c.if-closing.false in
    let low = c.if-steps-words.false in
    let is = c.steps-steps.ensures in
    let done = c.in_ok-commit-in-Clean.ensures in
    let less = left_falls clean c.args.ledger.now.committed c.commit.new.self.committed c.requires.epoch.2.progress.is_open done.ok in
    let room = c.requires.room in
    let one = done.tally in
    let counted = ap (λ (s : CommittedState). s.count) done.ok.rest in
    record {
      stands = λ plan first f w.
          (let few : clean.steps ≤ plan.words = omega (arith, w, low, is) in
          followed_on plan _ _ first _ _ f clean gives going few c.commit.new.self.committed done.ok c.commit.new.self.account done.account);
      prints = λ plan first f w.
          (let few : clean.steps ≤ plan.words = omega (arith, w, low, is) in
          followed_waits plan _ _ first _ _ f clean gives going few c.args.ledger.now.waiting c.commit.new.self.waiting done.waiting);
      ahead = λ plan first f w.
          (let few : clean.steps ≤ plan.words = omega (arith, w, low, is) in
          followed_ahead plan _ _ first _ _ f clean gives going few c.commit.new.self.committed done.ok c.args.ledger.now.waiting
          c.commit.new.self.waiting done.waiting);
      kept = λ e. absurd (cc e);
      report = ap (λ (a : Account). a.report) done.account.account;
      why = ap (λ (a : Account). a.why) done.account.account;
      counted = omega (arith, one, counted);
      room = omega (arith, less, room, one);
      left = omega (arith, less);
      falls = λ e. less;
    }

pub returns-then-closing-clause-followed : goal.returns-then-closing-clause-followed
returns-then-closing-clause-followed g c = record {
  stands = λ plan first f w. leaves_followed _ _ _ _ _ _ f;
  prints = λ plan first f w. sym (append-nil c.args.ledger.now.waiting);
  ahead = λ plan first f w. refl;
  kept = λ e. (refl, refl);
  report = followed_report _ _ _ _ _ _ c.requires.epoch.2;
  why = refl;
  counted = refl;
  room = c.requires.room;
  left = omega arith;
  falls = λ e. absurd (cc e);
}

pub returns-then-steps-words-clause-followed : goal.returns-then-steps-words-clause-followed
returns-then-steps-words-clause-followed g c = record {
  stands = λ plan first f w. leaves_followed _ _ _ _ _ _ f;
  prints = λ plan first f w. sym (append-nil c.args.ledger.now.waiting);
  ahead = λ plan first f w. refl;
  kept = λ e. (refl, refl);
  report = followed_report _ _ _ _ _ _ c.requires.epoch.2;
  why = refl;
  counted = refl;
  room = c.requires.room;
  left = omega arith;
  falls = λ e. absurd (cc e);
}

pub returns-in-Unclean-clause-followed : goal.returns-in-Unclean-clause-followed
returns-in-Unclean-clause-followed g c = record {
  stands = λ plan first f w. leaves_followed _ _ _ _ _ _ f;
  prints = λ plan first f w. sym (append-nil c.args.ledger.now.waiting);
  ahead = λ plan first f w. refl;
  kept = λ e. (refl, refl);
  report = followed_report _ _ _ _ _ _ c.requires.epoch.2;
  why = refl;
  counted = refl;
  room = c.requires.room;
  left = omega arith;
  falls = λ e. absurd (cc e);
}
