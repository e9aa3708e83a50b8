use Rattle.std.proofs.Common.{◌≡◌, ◌<◌, ◌-◌, ◌++◌, ◌∙◌, refl, sym, ap, subst, arith, length, ℕ, List}
use Rattle.dp_tree.specs.Step.{standing}
use Rattle.dp_tree.specs.Trace.{run_of}
use Rattle.dp_semantics.specs.EpochKey.{statements_from}
use Rattle.dp_theorem.proofs.GivenFits.{given_fits, given_tabled}
use Rattle.dp_meaning.specs.MachineState.{MachineState, fuel_left, rest_of_run}
use Rattle.dp_log.specs.LogText.{region_line, closed_line}
use Rattle.dp_view.specs.Viewed.{Viewed, begun}
use Rattle.dp_auditor.specs.Comparing.{Fails, PassesPiece}
use Rattle.dp_auditor.specs.Walking.{IterationsCompared, StartsAtRegion}
use Rattle.dp_auditor.specs.declared.iterations.After.{After}
use Rattle.dp_auditor.proofs.RegionLemmas.{config_is, differs_first, differs_last, differs_region, ends_region, left_region, size_is, spent_region}
use Rattle.dp_auditor.proofs.iterations.compare_region.Goals as goal

pub returns-then-steps-fuel : goal.returns-then-steps-fuel
returns-then-steps-fuel c =
    spent_region c.args.program.now c.args.plan.now c.args.ahead.now c.args.ahead.now c.args.compared.now c.requires.at (sym c.steps.ensures.value
    ∙ c.if-steps-fuel.true ∙ c.fuel.ensures)

pub returns-in-Some : goal.returns-in-Some
returns-in-Some c =
    let text = c.as_slice.ensures ∙ c.in_ok-put_region.ensures ∙ ap (λ (xs : List ℕ). xs ++ region_line c.args.plan.now.region) c.new-text.ensures in
    let left : 0 < fuel_left c.args.ahead.now = omega (arith, c.if-steps-fuel.false, c.steps.ensures.value, c.steps.ensures.within, c.fuel.ensures) in
    differs_first c.args.program.now c.args.plan.now c.args.ahead.now c.args.ahead.now c.args.compared.now c.requires.at left c.in-Some.line
    (subst (λ (xs : List ℕ). (later : List ℕ) → Fails c.args.compared.now (xs ++ later) c.in-Some.line) text c.in-Some.ensures.fails)

pub at_region-requires-clause-cells : goal.at_region-requires-clause-cells
at_region-requires-clause-cells c =
    ap length (c.in_ok-cells.ensures ∙ c.cells.ensures) ∙ size_is c.args.program.now c.args.plan.now c.args.ahead.now c.requires.at

pub begin-requires-clause-fits : goal.begin-requires-clause-fits
begin-requires-clause-fits c = given_fits c.args.program.now c.requires.at.inlined c.args.plan.now c.requires.at.is_plan

pub begin-requires-clause-tabled : goal.begin-requires-clause-tabled
begin-requires-clause-tabled c = given_tabled c.args.program.now c.requires.at.inlined c.args.plan.now c.requires.at.is_plan

pub compare_iterations-requires-clause-starts : goal.compare_iterations-requires-clause-starts
compare_iterations-requires-clause-starts c =
    let m = c.args.ahead.now in
    let p = c.args.program.now in
    let plan = c.args.plan.now in
    let views : c.in_ok-views.views ≡ begun p plan m.config.cells = c.in_ok-views.ensures ∙ ap (begun p plan) c.cells-2.ensures in
    let cells : c.in_ok-cells.cells ≡ m.config.cells = c.in_ok-cells.ensures ∙ c.cells.ensures in
    let config : standing p (statements_from plan.region p.main) c.in_ok-cells.cells ≡ m.config = ap (standing p (statements_from plan.region p.main)) cells
    ∙ config_is p plan m c.requires.at in
    let fuel : c.fuel-fuel.result - c.steps-steps.result ≡ fuel_left m = omega (arith, c.fuel-fuel.ensures, c.steps-steps.ensures.value) in
    let trace : (rest_of_run c.in_ok-behind.behind).trace ≡ (rest_of_run m).trace =
    ap (λ (b : MachineState). (rest_of_run b).trace) c.in_ok-behind.ensures
    ∙ (λ i. (run_of (sym c.requires.at.program_is i) (sym c.requires.input i) (fuel i) (config i)).trace) in
    let steps : c.in_ok-behind.behind.steps ≡ m.steps = ap (λ (b : MachineState). b.steps) c.in_ok-behind.ensures ∙ c.steps-steps.ensures.value in
    subst (λ (v : Viewed). StartsAtRegion m c.in_ok-behind.behind v) (sym views) (record { at = c.requires.at; trace = trace; steps = steps; kept = refl })

pub returns-in-Ends : goal.returns-in-Ends
returns-in-Ends c =
    let text = c.as_slice.ensures ∙ c.in_ok-put_region.ensures ∙ ap (λ (xs : List ℕ). xs ++ region_line c.args.plan.now.region) c.new-text.ensures in
    let left : 0 < fuel_left c.args.ahead.now = omega (arith, c.if-steps-fuel.false, c.steps.ensures.value, c.steps.ensures.within, c.fuel.ensures) in
    ends_region c.args.program.now c.args.plan.now c.args.ahead.now c.compare_iterations.new.ahead c.args.compared.now c.requires.at left c.take.new.self
    c.compare_iterations.new.compared
    (subst (PassesPiece c.args.compared.now c.take.new.self) text c.in_default.ensures.passes) c.in-Ends.end
    (subst (λ (a : After). IterationsCompared c.args.program.now c.args.plan.now c.args.ahead.now c.compare_iterations.new.ahead c.take.new.self
    c.compare_iterations.new.compared a) c.in-Ends.is c.in_ok-compare_iterations.ensures)

pub returns-in-Differs : goal.returns-in-Differs
returns-in-Differs c =
    let text = c.as_slice.ensures ∙ c.in_ok-put_region.ensures ∙ ap (λ (xs : List ℕ). xs ++ region_line c.args.plan.now.region) c.new-text.ensures in
    let left : 0 < fuel_left c.args.ahead.now = omega (arith, c.if-steps-fuel.false, c.steps.ensures.value, c.steps.ensures.within, c.fuel.ensures) in
    differs_region c.args.program.now c.args.plan.now c.args.ahead.now c.compare_iterations.new.ahead c.args.compared.now c.requires.at left c.take.new.self
    c.compare_iterations.new.compared
    (subst (PassesPiece c.args.compared.now c.take.new.self) text c.in_default.ensures.passes) c.in-Differs.line
    (subst (λ (a : After). IterationsCompared c.args.program.now c.args.plan.now c.args.ahead.now c.compare_iterations.new.ahead c.take.new.self
    c.compare_iterations.new.compared a) c.in-Differs.is c.in_ok-compare_iterations.ensures)

pub returns-in-Some-take : goal.returns-in-Some-take
returns-in-Some-take c =
    let text = c.as_slice.ensures ∙ c.in_ok-put_region.ensures ∙ ap (λ (xs : List ℕ). xs ++ region_line c.args.plan.now.region) c.new-text.ensures in
    let left : 0 < fuel_left c.args.ahead.now = omega (arith, c.if-steps-fuel.false, c.steps.ensures.value, c.steps.ensures.within, c.fuel.ensures) in
    let passes = subst (PassesPiece c.args.compared.now c.take.new.self) text c.in_default.ensures.passes in
    let h = subst (λ (a : After). IterationsCompared c.args.program.now c.args.plan.now c.args.ahead.now c.compare_iterations.new.ahead c.take.new.self
    c.compare_iterations.new.compared a) c.in-Left.is c.in_ok-compare_iterations.ensures in
    let closed = c.as_slice-2.ensures ∙ c.in_ok-put_closed.ensures ∙ ap (λ (xs : List ℕ). xs ++ closed_line c.args.plan.now.region) c.clear.ensures in
    differs_last c.args.program.now c.args.plan.now c.args.ahead.now c.compare_iterations.new.ahead c.args.compared.now c.requires.at left c.take.new.self
    c.compare_iterations.new.compared passes h c.take-2.new.self c.in-Some-take.line
    (subst (λ (xs : List ℕ). (later : List ℕ) → Fails c.compare_iterations.new.compared (xs ++ later) c.in-Some-take.line) closed c.in-Some-take.ensures.fails)

pub returns : goal.returns
returns c =
    let text = c.as_slice.ensures ∙ c.in_ok-put_region.ensures ∙ ap (λ (xs : List ℕ). xs ++ region_line c.args.plan.now.region) c.new-text.ensures in
    let left : 0 < fuel_left c.args.ahead.now = omega (arith, c.if-steps-fuel.false, c.steps.ensures.value, c.steps.ensures.within, c.fuel.ensures) in
    let passes = subst (PassesPiece c.args.compared.now c.take.new.self) text c.in_default.ensures.passes in
    let h = subst (λ (a : After). IterationsCompared c.args.program.now c.args.plan.now c.args.ahead.now c.compare_iterations.new.ahead c.take.new.self
    c.compare_iterations.new.compared a) c.in-Left.is c.in_ok-compare_iterations.ensures in
    let closed = c.as_slice-2.ensures ∙ c.in_ok-put_closed.ensures ∙ ap (λ (xs : List ℕ). xs ++ closed_line c.args.plan.now.region) c.clear.ensures in
    left_region c.args.program.now c.args.plan.now c.args.ahead.now c.compare_iterations.new.ahead c.args.compared.now c.requires.at left c.take.new.self
    c.compare_iterations.new.compared passes h c.take-2.new.self (subst (PassesPiece c.compare_iterations.new.compared c.take-2.new.self) closed
    c.in-None.ensures.passes)
