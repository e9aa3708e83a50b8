use Rattle.std.proofs.Common.{◌≡◌, ◌+◌, ◌≤◌, ◌∙◌, sym, subst, arith, ℕ, List, ◌∷◌, drop, length, Option}
use Rattle.std.proofs.Math.ListN.{drop_of_length-le}
use Rattle.dp_room.proofs.ListLemmas.{next_of}
use Rattle.dp_base.specs.declared.End.{End}
use Rattle.dp_plan.specs.declared.Plan.{Plan}
use Rattle.dp_plan.specs.Each.{Each}
use Rattle.dp_plan.specs.GivenPlans.{IsPlan}
use Rattle.dp_auditor.specs.Regions.{Ascending, PlainLeads}
use Rattle.dp_auditor.specs.Walking.{RegionCompared}
use Rattle.dp_auditor.specs.declared.iterations.After.{After}
use Rattle.dp_auditor.proofs.PartsLemmas.{Joined, ascending_from, differs_inside, each_from, ends_behind, ends_inside, joined_all, joined_next, region_next}
use Rattle.dp_auditor.proofs.PartsLemmas.{standing_behind}
use Rattle.dp_auditor.proofs.parts.compare_parts.Goals as goal

pub compare_region-requires-clause-at : goal.compare_region-requires-clause-at
compare_region-requires-clause-at c =
    let plan = c.plan-item.result in
    let left = drop (c.loop-plan.plan-index + 1) c.args.plans.now in
    let cons : drop c.loop-plan.plan-index c.args.plans.now ≡ plan ∷ left = next_of c.args.plans.now c.loop-plan.plan-index plan
    c.loop-plan-test.true c.plan-item.is in
    let j = subst (λ (l : List Plan). Joined c.args.program.now c.args.plans.now l c.args.machine.now c.loop-plan.machine c.args.compared.now
    c.loop-plan.compared) cons c.loop-plan.invariant in
    record {
      inlined = j.standing.inlined;
      is_plan = (subst (Each (IsPlan c.args.program.now)) cons (each_from (IsPlan c.args.program.now) c.loop-plan.plan-index c.args.plans.now
          c.requires.each)).0;
      program_is = j.standing.program_is;
      stands = j.standing.stands;
      head = region_next c.args.program.now c.args.plans.now c.args.machine.now c.args.compared.now plan left c.loop-plan.machine c.loop-plan.compared j;
      between = j.standing.between;
      few = subst (λ (n : ℕ). n ≤ 1000000000) (sym j.same.fuel_is) c.requires.fuel;
    }

pub compare_region-requires-clause-input : goal.compare_region-requires-clause-input
compare_region-requires-clause-input c = c.loop-plan.invariant.same.input_is ∙ c.requires.input

pub returns-in-Ends : goal.returns-in-Ends
returns-in-Ends c =
    let plan = c.plan-item.result in
    let left = drop (c.loop-plan.plan-index + 1) c.args.plans.now in
    let cons : drop c.loop-plan.plan-index c.args.plans.now ≡ plan ∷ left = next_of c.args.plans.now c.loop-plan.plan-index plan
    c.loop-plan-test.true c.plan-item.is in
    let j = subst (λ (l : List Plan). Joined c.args.program.now c.args.plans.now l c.args.machine.now c.loop-plan.machine c.args.compared.now
    c.loop-plan.compared) cons c.loop-plan.invariant in
    let above = (subst Ascending cons (ascending_from c.loop-plan.plan-index c.args.plans.now c.requires.plans)).0 in
    let h = subst (λ (a : After). RegionCompared c.args.program.now plan c.loop-plan.machine c.compare_region.new.ahead c.loop-plan.compared
    c.compare_region.new.compared a) c.in-Ends.is c.in_ok-compare_region.ensures in
    ends_inside c.args.program.now c.args.plans.now c.args.machine.now c.args.compared.now plan left c.loop-plan.machine c.loop-plan.compared j above
    c.compare_region.new.ahead c.compare_region.new.compared c.in-Ends.end h

pub returns-in-Differs : goal.returns-in-Differs
returns-in-Differs c =
    let plan = c.plan-item.result in
    let left = drop (c.loop-plan.plan-index + 1) c.args.plans.now in
    let cons : drop c.loop-plan.plan-index c.args.plans.now ≡ plan ∷ left = next_of c.args.plans.now c.loop-plan.plan-index plan
    c.loop-plan-test.true c.plan-item.is in
    let j = subst (λ (l : List Plan). Joined c.args.program.now c.args.plans.now l c.args.machine.now c.loop-plan.machine c.args.compared.now
    c.loop-plan.compared) cons c.loop-plan.invariant in
    let above = (subst Ascending cons (ascending_from c.loop-plan.plan-index c.args.plans.now c.requires.plans)).0 in
    let h = subst (λ (a : After). RegionCompared c.args.program.now plan c.loop-plan.machine c.compare_region.new.ahead c.loop-plan.compared
    c.compare_region.new.compared a) c.in-Differs.is c.in_ok-compare_region.ensures in
    differs_inside c.args.program.now c.args.plans.now c.args.machine.now c.args.compared.now plan left c.loop-plan.machine c.loop-plan.compared j above
    c.compare_region.new.ahead c.compare_region.new.compared c.in-Differs.line h

pub returns-in-Some-2 : goal.returns-in-Some-2
returns-in-Some-2 c =
    let plan = c.plan-item.result in
    let left = drop (c.loop-plan.plan-index + 1) c.args.plans.now in
    let cons : drop c.loop-plan.plan-index c.args.plans.now ≡ plan ∷ left = next_of c.args.plans.now c.loop-plan.plan-index plan
    c.loop-plan-test.true c.plan-item.is in
    let j = subst (λ (l : List Plan). Joined c.args.program.now c.args.plans.now l c.args.machine.now c.loop-plan.machine c.args.compared.now
    c.loop-plan.compared) cons c.loop-plan.invariant in
    let above = (subst Ascending cons (ascending_from c.loop-plan.plan-index c.args.plans.now c.requires.plans)).0 in
    let h = subst (λ (a : After). RegionCompared c.args.program.now plan c.loop-plan.machine c.compare_region.new.ahead c.loop-plan.compared
    c.compare_region.new.compared a) c.in-Left.is c.in_ok-compare_region.ensures in
    let l = subst (λ (o : Option End). PlainLeads c.args.program.now left c.compare_region.new.ahead c.pass_plain-in-loop-plan.new.machine o) c.in-Some-2.is
    (c.in_ok-end-2.ensures c.args.program.now left (standing_behind c.args.program.now c.args.plans.now c.args.machine.now c.args.compared.now plan left
    c.loop-plan.machine c.loop-plan.compared j above c.compare_region.new.ahead c.compare_region.new.compared h.1)) in
    ends_behind c.args.program.now c.args.plans.now c.args.machine.now c.args.compared.now plan left c.loop-plan.machine c.loop-plan.compared j above
    c.compare_region.new.ahead c.compare_region.new.compared c.in-Some-2.end h c.pass_plain-in-loop-plan.new.machine l

pub loop-plan-preserved : goal.loop-plan-preserved
loop-plan-preserved c =
    let plan = c.plan-item.result in
    let left = drop (c.loop-plan.plan-index + 1) c.args.plans.now in
    let cons : drop c.loop-plan.plan-index c.args.plans.now ≡ plan ∷ left = next_of c.args.plans.now c.loop-plan.plan-index plan
    c.loop-plan-test.true c.plan-item.is in
    let j = subst (λ (l : List Plan). Joined c.args.program.now c.args.plans.now l c.args.machine.now c.loop-plan.machine c.args.compared.now
    c.loop-plan.compared) cons c.loop-plan.invariant in
    let above = (subst Ascending cons (ascending_from c.loop-plan.plan-index c.args.plans.now c.requires.plans)).0 in
    let h = subst (λ (a : After). RegionCompared c.args.program.now plan c.loop-plan.machine c.compare_region.new.ahead c.loop-plan.compared
    c.compare_region.new.compared a) c.in-Left.is c.in_ok-compare_region.ensures in
    let l = subst (λ (o : Option End). PlainLeads c.args.program.now left c.compare_region.new.ahead c.pass_plain-in-loop-plan.new.machine o) c.in_default-2.is
    (c.in_ok-end-2.ensures c.args.program.now left (standing_behind c.args.program.now c.args.plans.now c.args.machine.now c.args.compared.now plan left
    c.loop-plan.machine c.loop-plan.compared j above c.compare_region.new.ahead c.compare_region.new.compared h.1)) in
    joined_next c.args.program.now c.args.plans.now c.args.machine.now c.args.compared.now plan left c.loop-plan.machine c.loop-plan.compared j above
    c.compare_region.new.ahead c.compare_region.new.compared h c.pass_plain-in-loop-plan.new.machine l

pub returns : goal.returns
returns c =
    let all : length c.args.plans.now ≤ c.loop-plan.plan-index = omega (arith, c.loop-plan-test.false) in
    let none = drop_of_length-le c.args.plans.now all in
    joined_all c.args.program.now c.args.plans.now c.args.machine.now c.args.compared.now c.loop-plan.machine c.loop-plan.compared
    (subst (λ (l : List Plan). Joined c.args.program.now c.args.plans.now l c.args.machine.now c.loop-plan.machine c.args.compared.now c.loop-plan.compared)
    none c.loop-plan.invariant)
