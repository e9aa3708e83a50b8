use Rattle.std.proofs.Common.{◌++◌, ◌∙◌, sym, ap, subst, length, ℕ, List}
use Rattle.dp_tree.specs.Trace.{Run}
use Rattle.dp_semantics.specs.Verdict.{source_run}
use Rattle.dp_meaning.specs.MachineState.{rest_of_run}
use Rattle.dp_report.specs.EndText.{end_line}
use Rattle.dp_log.specs.LogText.{first_line, logged_regions}
use Rattle.dp_auditor.specs.Comparing.{Fails, PassesPiece}
use Rattle.dp_auditor.specs.Walking.{AllCompared}
use Rattle.dp_auditor.specs.declared.parts.Walked.{Walked}
use Rattle.dp_auditor.proofs.AuditLemmas.{answers, ascending, fails_end, fails_first, fails_regions, run_is, standing_first}
use Rattle.dp_auditor.proofs.whole.audit.Goals as goal

pub returns-in-Some : goal.returns-in-Some
returns-in-Some c =
    let run = source_run c.args.program.now c.args.input.now c.args.fuel in
    let text = c.as_slice.ensures ∙ c.in_ok-put_first.ensures ∙ ap (λ (xs : List ℕ). xs ++ first_line) c.new-text.ensures in
    fails_first c.args.log.now (logged_regions c.args.program.now c.args.plans.now run) (end_line run.end) c.begin-compared.result
    c.begin-compared.ensures c.in-Some.line
    (subst (λ (xs : List ℕ). (later : List ℕ) → Fails c.begin-compared.result (xs ++ later) c.in-Some.line) text c.in-Some.ensures.fails)

pub compare_parts-requires-clause-plans : goal.compare_parts-requires-clause-plans
compare_parts-requires-clause-plans c = ascending 1 (length c.args.program.now.regions) c.args.plans.now c.requires.plans.regions

pub compare_parts-requires-clause-standing : goal.compare_parts-requires-clause-standing
compare_parts-requires-clause-standing c = standing_first c.args.program.now c.args.plans.now c.args.input.now c.args.fuel c.in_ok-machine.machine
    c.in_ok-machine.ensures c.requires.inlined c.requires.plans

pub returns-in-Differs : goal.returns-in-Differs
returns-in-Differs c =
    let run = source_run c.args.program.now c.args.input.now c.args.fuel in
    let text = c.as_slice.ensures ∙ c.in_ok-put_first.ensures ∙ ap (λ (xs : List ℕ). xs ++ first_line) c.new-text.ensures in
    let passes = subst (PassesPiece c.begin-compared.result c.take.new.self) text c.in_default.ensures.passes in
    let walked = subst (λ (w : Walked). AllCompared c.args.program.now c.args.plans.now (rest_of_run c.in_ok-machine.machine) c.take.new.self
    c.compare_parts.new.compared w) c.in-Differs.is c.in_ok-end.ensures in
    let same = run_is c.args.program.now c.args.plans.now c.args.input.now c.args.fuel c.in_ok-machine.machine c.in_ok-machine.ensures in
    fails_regions c.args.log.now (logged_regions c.args.program.now c.args.plans.now run) (end_line run.end) c.begin-compared.result c.begin-compared.ensures
    c.take.new.self passes c.in-Differs.line
    (subst (λ (u : Run). (later : List ℕ) → Fails c.take.new.self (logged_regions c.args.program.now c.args.plans.now u ++ later)
    c.in-Differs.line) same walked)

pub returns-in-Some-take : goal.returns-in-Some-take
returns-in-Some-take c =
    let run = source_run c.args.program.now c.args.input.now c.args.fuel in
    let text = c.as_slice.ensures ∙ c.in_ok-put_first.ensures ∙ ap (λ (xs : List ℕ). xs ++ first_line) c.new-text.ensures in
    let passes = subst (PassesPiece c.begin-compared.result c.take.new.self) text c.in_default.ensures.passes in
    let same = run_is c.args.program.now c.args.plans.now c.args.input.now c.args.fuel c.in_ok-machine.machine c.in_ok-machine.ensures in
    let walked = subst (λ (w : Walked). AllCompared c.args.program.now c.args.plans.now (rest_of_run c.in_ok-machine.machine) c.take.new.self
    c.compare_parts.new.compared w) c.in-Whole.is c.in_ok-end.ensures in
    let more = subst (λ (u : Run). PassesPiece c.take.new.self c.compare_parts.new.compared
    (logged_regions c.args.program.now c.args.plans.now u)) same walked.0 in
    let end = ap (λ (u : Run). u.end) (sym same) ∙ walked.1 in
    let last = c.as_slice-2.ensures ∙ c.in_ok-put_end-in-Whole.ensures ∙ ap (λ (xs : List ℕ). xs ++ end_line c.in-Whole.end) c.clear.ensures
    ∙ ap end_line (sym end) in
    fails_end c.args.log.now (logged_regions c.args.program.now c.args.plans.now run) (end_line run.end) c.begin-compared.result c.begin-compared.ensures
    c.take.new.self passes c.compare_parts.new.compared more c.in-Some-take.line
    (subst (λ (xs : List ℕ). (later : List ℕ) → Fails c.compare_parts.new.compared (xs ++ later) c.in-Some-take.line) last c.in-Some-take.ensures.fails)

pub returns : goal.returns
returns c =
    let run = source_run c.args.program.now c.args.input.now c.args.fuel in
    let text = c.as_slice.ensures ∙ c.in_ok-put_first.ensures ∙ ap (λ (xs : List ℕ). xs ++ first_line) c.new-text.ensures in
    let passes = subst (PassesPiece c.begin-compared.result c.take.new.self) text c.in_default.ensures.passes in
    let same = run_is c.args.program.now c.args.plans.now c.args.input.now c.args.fuel c.in_ok-machine.machine c.in_ok-machine.ensures in
    let walked = subst (λ (w : Walked). AllCompared c.args.program.now c.args.plans.now (rest_of_run c.in_ok-machine.machine) c.take.new.self
    c.compare_parts.new.compared w) c.in-Whole.is c.in_ok-end.ensures in
    let more = subst (λ (u : Run). PassesPiece c.take.new.self c.compare_parts.new.compared
    (logged_regions c.args.program.now c.args.plans.now u)) same walked.0 in
    let end = ap (λ (u : Run). u.end) (sym same) ∙ walked.1 in
    let last = c.as_slice-2.ensures ∙ c.in_ok-put_end-in-Whole.ensures ∙ ap (λ (xs : List ℕ). xs ++ end_line c.in-Whole.end) c.clear.ensures
    ∙ ap end_line (sym end) in
    answers c.args.log.now (logged_regions c.args.program.now c.args.plans.now run) (end_line run.end) c.begin-compared.result c.begin-compared.ensures
    c.take.new.self passes c.compare_parts.new.compared more c.take-2.new.self
    (subst (PassesPiece c.compare_parts.new.compared c.take-2.new.self) last c.in-None.ensures.passes) c.end.result c.end.ensures
