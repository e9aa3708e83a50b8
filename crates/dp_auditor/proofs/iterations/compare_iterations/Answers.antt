use Rattle.std.proofs.Common.{◌≡◌, ◌<◌, ◌∙◌, sym, ap, subst, arith, ℕ, List, ℤ, Option}
use Rattle.dp_tree.specs.declared.Program.{Program}
use Rattle.dp_plan.specs.declared.Plan.{Plan}
use Rattle.dp_meaning.specs.MachineState.{MachineState, part_at}
use Rattle.dp_view.specs.Viewed.{begun}
use Rattle.dp_auditor.specs.Regions.{AtRegion}
use Rattle.dp_auditor.specs.Turned.{OneCompared}
use Rattle.dp_auditor.proofs.EntryLemmas.{reached_first, spent_here}
use Rattle.dp_auditor.proofs.ReachedLemmas.{few_iterations}
use Rattle.dp_auditor.proofs.TurnLemmas.{ends_so, goes_on, is_cleared}
use Rattle.dp_auditor.proofs.iterations.compare_iterations.Goals as goal

-- the region is the plan's, and the program is the one that is given
at_start : (p q : Program) (plan other : Plan) (m : MachineState) → q ≡ p → other ≡ plan → AtRegion q other m → AtRegion p plan m
at_start p q plan other m a b at = subst (λ (x : Program). AtRegion x plan m) a (subst (λ (x : Plan). AtRegion q x m) b at)

pub iterations-init : goal.iterations-init
iterations-init c =
    let s = c.requires.starts in
    let at = at_start c.args.program.now c.args.views.now.program c.args.plan.now c.args.views.now.plan c.args.ahead.now c.requires.program
    c.requires.plan s.at in
    reached_first c.args.program.now c.args.plan.now c.args.ahead.now at c.args.behind.now c.args.views.now c.args.compared.now s.trace s.steps
    (s.kept ∙ (λ i. begun (c.requires.program i) (c.requires.plan i) c.args.ahead.now.config.cells))

pub returns-then-steps-fuel : goal.returns-then-steps-fuel
returns-then-steps-fuel c =
    let s = c.requires.starts in
    let at = at_start c.args.program.now c.args.views.now.program c.args.plan.now c.args.views.now.plan c.args.ahead.now c.requires.program
    c.requires.plan s.at in
    spent_here c.args.program.now c.args.plan.now c.args.ahead.now at c.iterations.ahead c.iterations.behind c.iterations.views c.args.compared.now
    c.iterations.compared c.iterations.iteration c.iterations.invariant
    (sym c.steps.ensures.value ∙ c.if-steps-fuel.true ∙ c.fuel.ensures) c.iterations.ahead

pub compare_one-requires : goal.compare_one-requires
compare_one-requires c =
    let s = c.requires.starts in
    let at = at_start c.args.program.now c.args.views.now.program c.args.plan.now c.args.views.now.plan c.args.ahead.now c.requires.program
    c.requires.plan s.at in
    let h = c.iterations.invariant in
    let call = c.in_ok-end.ensures.runs c.args.plan.now.region (ap (λ (o : Option ℕ). part_at o c.iterations.ahead.config.to_do) h.at.between ∙ h.at.head) in
    record {
      before = is_cleared c.args.program.now c.args.plan.now c.args.ahead.now c.iterations.ahead c.iterations.behind c.iterations.views c.args.compared.now
          c.iterations.compared c.iterations.iteration at h
          c.iterate.new.self c.follow.new.machine c.clear.new.self c.iterate.new.out c.clear.ensures c.steps-in-iterations.result
          c.steps-in-iterations.ensures.value c.follow.new.views c.in_ok-follow.ensures c.in_ok-end.end call;
    }

pub returns-in-Some : goal.returns-in-Some
returns-in-Some c =
    let s = c.requires.starts in
    let at = at_start c.args.program.now c.args.views.now.program c.args.plan.now c.args.views.now.plan c.args.ahead.now c.requires.program
    c.requires.plan s.at in
    let h = c.iterations.invariant in
    let call = c.in_ok-end.ensures.runs c.args.plan.now.region (ap (λ (o : Option ℕ). part_at o c.iterations.ahead.config.to_do) h.at.between ∙ h.at.head) in
    let few : c.iterations.ahead.steps < c.iterations.ahead.fuel = omega
    (arith, c.if-steps-fuel.false, c.steps.ensures.value, c.steps.ensures.within, c.fuel.ensures) in
    let one = subst (λ (printed : List ℤ). OneCompared c.args.program.now c.args.plan.now c.in_ok-end.end c.iterations.iteration printed
    c.iterate.new.self.config.cells c.follow.new.views c.compare_one.new.views c.iterations.compared c.compare_one.new.compared c.in_ok-after.field-0)
    c.as_slice.ensures c.in_ok-after.ensures in
    ends_so c.args.program.now c.args.plan.now c.args.ahead.now c.iterations.ahead c.iterations.behind c.iterations.views c.args.compared.now
    c.iterations.compared c.iterations.iteration at h
    c.iterate.new.self c.follow.new.machine c.clear.new.self c.iterate.new.out c.clear.ensures c.steps-in-iterations.result c.steps-in-iterations.ensures.value
    c.follow.new.views c.in_ok-follow.ensures
    few c.compare_one.new.views c.compare_one.new.compared c.in_ok-after.field-0 c.in_ok-end.end call one c.in-Some.after c.in-Some.is

pub overflow_add-iteration : goal.overflow_add-iteration
overflow_add-iteration c =
    let s = c.requires.starts in
    let at = at_start c.args.program.now c.args.views.now.program c.args.plan.now c.args.views.now.plan c.args.ahead.now c.requires.program
    c.requires.plan s.at in
    let h = c.iterations.invariant in
    let few = few_iterations c.args.program.now c.args.plan.now c.args.ahead.now c.iterations.ahead c.iterations.behind c.iterations.views c.args.compared.now
    c.iterations.compared c.iterations.iteration at h in
    omega (arith, few)

pub iterations-smaller : goal.iterations-smaller
iterations-smaller c =
    let s = c.requires.starts in
    let at = at_start c.args.program.now c.args.views.now.program c.args.plan.now c.args.views.now.plan c.args.ahead.now c.requires.program
    c.requires.plan s.at in
    let h = c.iterations.invariant in
    let call = c.in_ok-end.ensures.runs c.args.plan.now.region (ap (λ (o : Option ℕ). part_at o c.iterations.ahead.config.to_do) h.at.between ∙ h.at.head) in
    let few : c.iterations.ahead.steps < c.iterations.ahead.fuel = omega
    (arith, c.if-steps-fuel.false, c.steps.ensures.value, c.steps.ensures.within, c.fuel.ensures) in
    let one = subst (λ (printed : List ℤ). OneCompared c.args.program.now c.args.plan.now c.in_ok-end.end c.iterations.iteration printed
    c.iterate.new.self.config.cells c.follow.new.views c.compare_one.new.views c.iterations.compared c.compare_one.new.compared c.in_ok-after.field-0)
    c.as_slice.ensures c.in_ok-after.ensures in
    (goes_on c.args.program.now c.args.plan.now c.args.ahead.now c.iterations.ahead c.iterations.behind c.iterations.views c.args.compared.now
    c.iterations.compared c.iterations.iteration at h
    c.iterate.new.self c.follow.new.machine c.clear.new.self c.iterate.new.out c.clear.ensures c.steps-in-iterations.result c.steps-in-iterations.ensures.value
    c.follow.new.views c.in_ok-follow.ensures
    few c.compare_one.new.views c.compare_one.new.compared c.in_ok-after.field-0 c.in_ok-end.end call one c.in_default.is).1

pub iterations-preserved : goal.iterations-preserved
iterations-preserved c =
    let s = c.requires.starts in
    let at = at_start c.args.program.now c.args.views.now.program c.args.plan.now c.args.views.now.plan c.args.ahead.now c.requires.program
    c.requires.plan s.at in
    let h = c.iterations.invariant in
    let call = c.in_ok-end.ensures.runs c.args.plan.now.region (ap (λ (o : Option ℕ). part_at o c.iterations.ahead.config.to_do) h.at.between ∙ h.at.head) in
    let few : c.iterations.ahead.steps < c.iterations.ahead.fuel = omega
    (arith, c.if-steps-fuel.false, c.steps.ensures.value, c.steps.ensures.within, c.fuel.ensures) in
    let one = subst (λ (printed : List ℤ). OneCompared c.args.program.now c.args.plan.now c.in_ok-end.end c.iterations.iteration printed
    c.iterate.new.self.config.cells c.follow.new.views c.compare_one.new.views c.iterations.compared c.compare_one.new.compared c.in_ok-after.field-0)
    c.as_slice.ensures c.in_ok-after.ensures in
    (goes_on c.args.program.now c.args.plan.now c.args.ahead.now c.iterations.ahead c.iterations.behind c.iterations.views c.args.compared.now
    c.iterations.compared c.iterations.iteration at h
    c.iterate.new.self c.follow.new.machine c.clear.new.self c.iterate.new.out c.clear.ensures c.steps-in-iterations.result c.steps-in-iterations.ensures.value
    c.follow.new.views c.in_ok-follow.ensures
    few c.compare_one.new.views c.compare_one.new.compared c.in_ok-after.field-0 c.in_ok-end.end call one c.in_default.is).0
