use Rattle.std.proofs.Common.{subst, Some}
use Rattle.std.proofs.lemmas.Result.{IfOk-weaker}
use Rattle.dp_audit.specs.declared.runner.Runner.{Runner}
use Rattle.dp_audit.specs.Groups.{Makes}
use Rattle.dp_audit.proofs.NextLemmas.{judged, unclean}
use Rattle.dp_epoch.proofs.EpochLemmas.{told_so}
use Rattle.dp_audit.proofs.runner.Runner.make.Goals as goal

pub next-requires : goal.next-requires
next-requires g c n h = let s = c.requires.stands in (c.in_ok-verdicts.ensures.verdicts s.0 s.1 s.2 s.3 s.4 s.5).epoch.gone n h

pub close-requires-clause-judged : goal.close-requires-clause-judged
close-requires-clause-judged g c =
    let s = c.requires.stands in
    let u = c.in_ok-verdicts.ensures.verdicts s.0 s.1 s.2 s.3 s.4 s.5 in (
      s.0,
      s.1,
      s.2,
      s.3,
      c.next.new.self,
      judged s.0 s.1 s.2 s.3 c.args.self.now s.5.kept c.current.new.self c.in_ok-verdicts.ensures.kept c.in_ok-verdicts.verdicts c.next.new.self u
          c.next.ensures.key c.next.ensures.given c.in-Clean.clean
          (told_so c.in_ok-verdicts.verdicts.key _ _ _ c.in-Clean.ensures c.next.ensures.verdict),
    )

pub go_on-requires-clause-judged : goal.go_on-requires-clause-judged
go_on-requires-clause-judged g c =
    let s = c.requires.stands in
    let u = c.in_ok-verdicts.ensures.verdicts s.0 s.1 s.2 s.3 s.4 s.5 in (
      s.0,
      s.1,
      s.2,
      s.3,
      c.next.new.self,
      judged s.0 s.1 s.2 s.3 c.args.self.now s.5.kept c.current.new.self c.in_ok-verdicts.ensures.kept c.in_ok-verdicts.verdicts c.next.new.self u
          c.next.ensures.key c.next.ensures.given c.in-Clean.clean
          (told_so c.in_ok-verdicts.verdicts.key _ _ _ c.in-Clean.ensures c.next.ensures.verdict),
    )

pub again-requires : goal.again-requires
again-requires g c =
    let s = c.requires.stands in
    let u = c.in_ok-verdicts.ensures.verdicts s.0 s.1 s.2 s.3 s.4 s.5 in
    let gives = told_so c.in_ok-verdicts.verdicts.key _ _ _ c.in-Unclean.ensures c.next.ensures.verdict in
    record {
      unclean = (
        s.0,
        s.1,
        s.2,
        s.3,
        unclean s.0 s.1 s.2 s.3 c.args.self.now s.5.kept c.current.new.self c.in_ok-verdicts.ensures.kept c.in_ok-verdicts.verdicts c.next.new.self u
            c.next.ensures.key c.next.ensures.given gives.0 gives.1,
      );
    }

pub returns-then-closing : goal.returns-then-closing
returns-then-closing g c = record {
  made = IfOk-weaker c.close.result _ _
      (λ group h p plan input first n s.
      let u = c.in_ok-verdicts.ensures.verdicts p plan input first n s in
      let gives = told_so c.in_ok-verdicts.verdicts.key _ _ _ c.in-Clean.ensures c.next.ensures.verdict in
      subst (λ (x : Runner). Makes p plan input first x.ledger.committed c.close.new.self group) c.in_ok-verdicts.ensures.kept
      (h p plan input first c.next.new.self (judged p plan input first c.args.self.now s.kept c.current.new.self c.in_ok-verdicts.ensures.kept
      c.in_ok-verdicts.verdicts c.next.new.self u c.next.ensures.key c.next.ensures.given c.in-Clean.clean gives)))
      c.close.ensures.made;
}

pub returns-in_ok-group-in-Clean : goal.returns-in_ok-group-in-Clean
returns-in_ok-group-in-Clean g c = record {
  made = λ p plan input first n s.
      let u = c.in_ok-verdicts.ensures.verdicts p plan input first n s in
      let gives = told_so c.in_ok-verdicts.verdicts.key _ _ _ c.in-Clean.ensures c.next.ensures.verdict in
      subst (λ (x : Runner). Makes p plan input first x.ledger.committed (record c.go_on.new.self { verdicts = Some c.next.new.self })
      c.in_ok-group-in-Clean.group) c.in_ok-verdicts.ensures.kept
      (c.in_ok-group-in-Clean.ensures.made p plan input first c.next.new.self (judged p plan input first c.args.self.now s.kept c.current.new.self
      c.in_ok-verdicts.ensures.kept c.in_ok-verdicts.verdicts c.next.new.self u c.next.ensures.key c.next.ensures.given c.in-Clean.clean gives));
}

pub returns-in-Unclean : goal.returns-in-Unclean
returns-in-Unclean g c = record {
  made = IfOk-weaker c.again.result _ _
      (λ group h p plan input first n s.
      let u = c.in_ok-verdicts.ensures.verdicts p plan input first n s in
      let gives = told_so c.in_ok-verdicts.verdicts.key _ _ _ c.in-Unclean.ensures c.next.ensures.verdict in
      subst (λ (x : Runner). Makes p plan input first x.ledger.committed c.again.new.self group) c.in_ok-verdicts.ensures.kept
      (h p plan input first (unclean p plan input first c.args.self.now s.kept c.current.new.self c.in_ok-verdicts.ensures.kept c.in_ok-verdicts.verdicts
      c.next.new.self u c.next.ensures.key c.next.ensures.given gives.0 gives.1)))
      c.again.ensures.made;
}
