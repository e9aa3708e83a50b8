use Rattle.std.proofs.Common.{sym, ap, ◌∙◌, subst, List}
use Rattle.dp_judge.specs.declared.verdict.Verdict.{Verdict}
use Rattle.dp_lean_region.specs.Judging.{IsJudging}
use Rattle.dp_lean_region.specs.Line.{line_kinds, line_program, line_plan}
use Rattle.dp_lean_region.specs.declared.line.Line.{Line}
use Rattle.dp_judge.specs.Decided.{cleans}
use Rattle.dp_judge.specs.steps.Within.{CleanTo}
use Rattle.dp_judge.proofs.Beginning.{kept_there, judges_by, clean_begins, decided_so}
use Rattle.dp_judge.proofs.court.LeanCourt.decide.Goals as goal

pub decide_all-decision-requires-clause-kept : goal.decide_all-decision-requires-clause-kept
decide_all-decision-requires-clause-kept c =
    kept_there c.line.result c.judging-tables.result c.judging-tables.ensures c.stages-stages.result.now (c.stages-stages.ensures.kinds
    ∙ ap line_kinds (sym c.line.ensures))
    c.in-Ok.readers c.in-Ok.ensures

pub returns-in-Ok : goal.returns-in-Ok
returns-in-Ok c = record {
  came = λ e b ends like at sent none. (
      decided_so e b c.args.self.now at c.args.batch.now sent ends like c.iterations-most.result c.iterations-most.ensures c.stages-stages.result.now
      c.stages-stages.ensures.value
      c.in-Ok.readers c.in-Ok.ensures (cleans c.args.told.now) none c.decide_all-decision.result c.decide_all-decision.new.self.left
      c.decide_all-decision.new.self.cells
      (cleans c.decide_all-decision.new.told)
      (λ came within. c.decide_all-decision.ensures.comes e b came
      (judges_by e c.args.batch.now.line sent.line c.judging-tables.result
      (subst (λ (line : Line). IsJudging (line_program line) (line_plan line) c.judging-tables.result) c.line.ensures c.judging-tables.ensures)) within));
}

pub returns-in-Err : goal.returns-in-Err
returns-in-Err c = record {
  came = λ e b ends like at sent none. (
    0,
    subst (λ (vs : List Verdict). CleanTo e b 0 c.args.self.now.bench.left c.args.self.now.bench.cells vs) (sym none) (clean_begins e b c.args.self.now at),
  );
}
