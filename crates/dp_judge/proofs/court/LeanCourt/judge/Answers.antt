use Rattle.std.proofs.Common.{ap, ◌≡◌, ◌∙◌, ◌++◌}
use Rattle.dp_judge.specs.Decided.{cleans, end_verdicts}
use Rattle.dp_judge.specs.steps.Deciding.{end_of_decision}
use Rattle.dp_judge.specs.declared.told.ToldEnd.{ToldEnd}
use Rattle.dp_judge.proofs.Beginning.{as_left}
use Rattle.dp_judge.proofs.Concluding.{concludes}
use Rattle.dp_judge.proofs.Settling.{settles}
use Rattle.dp_judge.proofs.court.LeanCourt.judge.Goals as goal

pub returns : goal.returns
returns c = record {
  gives = λ e b at sent. (
      let x = c.args.batch.now in
      let d = c.decide_known-decision in
      let end : c.end_of.result ≡ end_of_decision d.result x.status = c.end_of.ensures ∙ ap (end_of_decision d.result) c.status.ensures in
      settles e b x.iterations c.args.self.now d.new.self at x.status (end_of_decision d.result x.status) d.new.told c.end_with.new.self
      c.end_with.ensures.cleans
      (c.end_with.ensures.left ∙ ap (λ (t : ToldEnd). cleans d.new.told ++ end_verdicts t) end)
      (concludes e b x.iterations d.new.self.bench.left d.new.self.bench.cells (cleans d.new.told) x.status (as_left e b c.args.self.now at x sent) d.result
      (d.ensures.came e b at sent c.clear.ensures.cleans)));
}
