-- Nothing is kept of what the stages see.
use Rattle.std.proofs.Common.{[]}
use Rattle.dp_epoch.proofs.SeenLemmas.{none_heard, none_seen}
use Rattle.dp_epoch.proofs.ledger.Ledger.apply.Goals as goal

pub returns-clause-ok : goal.returns-clause-ok
returns-clause-ok g c = record { turns = c.args.clean.steps; call = c.apply.ensures.call []; rest = c.apply.ensures.rest }

pub returns-clause-account : goal.returns-clause-account
returns-clause-account g c = record {
  seen = c.args.self.now.account.views;
  heard = none_heard c.args.self.now.committed.machine c.apply.new.self.machine c.args.self.now.account.views c.requires.unwatched;
  account =
      let still = none_seen c.args.self.now.account.views c.requires.unwatched in
      let count = c.count-self.ensures.value in
      (λ i. record { report = record c.args.self.now.account.report { iterations = count i }; why = c.args.self.now.account.why; views = still i });
}
