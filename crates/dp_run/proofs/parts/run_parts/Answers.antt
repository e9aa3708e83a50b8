use Rattle.std.proofs.Common.{◌≡◌, ◌∙◌, refl, subst, [], ℕ, suc, ◌+◌, ◌<◌, ◌≤◌, length, arith}
use Rattle.std.proofs.lemmas.Option.{slice_get_read}
use Rattle.dp_run.specs.Stretches.{Between, Leads}
use Rattle.dp_run.proofs.Counting.{counted_none}
use Rattle.dp_run.specs.Prepared.{plans_in}
use Rattle.dp_run.proofs.PlanByPlan.{ended_here, goes_on, room_here, went_by_all}
use Rattle.dp_run.proofs.RegionByRegion.{as_many_plans, region_counts, region_front, region_leads, region_starts}
use Rattle.dp_crew.proofs.StreamLemmas.{emits_front, emits_on}
use Rattle.dp_run.proofs.Before.{before_less}
use Rattle.dp_run.proofs.parts.run_parts.Goals as goal
use Rattle.dp_room.proofs.ResultLemmas.{on_err}

pub returns-in-Some-clause-ok : goal.returns-in-Some-clause-ok
returns-in-Some-clause-ok g c run n a =
    let none : n ≡ n + 0 = omega arith in
    ended_here c.args.machine.program (plans_in c.args.regions.now) c.args.input.now c.args.machine.fuel run n 0 c.run_plain.new.machine c.args.reports.now
    c.args.reports.now c.args.tally.now c.run_plain.new.tally
    (counted_none c.args.machine.program (plans_in c.args.regions.now) run c.args.reports.now c.args.tally.now c.run_plain.new.tally c.in_ok-end.ensures.tally)
    (omega arith) c.in_ok-end.field-0 c.in-Some.end c.in-Some.is
    (subst (λ (k : ℕ). Leads c.args.machine.program c.args.input.now c.args.machine.fuel run k c.run_plain.new.machine c.in_ok-end.field-0) none
    (c.in_ok-end.ensures.ok c.args.machine.program c.args.input.now c.args.machine.fuel run n a.behind))

pub loop-region-init : goal.loop-region-init
loop-region-init g c = record {
  between = λ run n a. let none : n ≡ n + 0 = omega arith in
      subst (λ (k : ℕ). Between c.args.machine.program c.args.input.now c.args.machine.fuel run k c.run_plain.new.machine) none
      (goes_on c.args.machine.program (plans_in c.args.regions.now) c.args.input.now c.args.machine.fuel run n n c.run_plain.new.machine c.in_ok-end.field-0
      c.in_default.is (c.in_ok-end.ensures.ok c.args.machine.program c.args.input.now c.args.machine.fuel run n a.behind));
  counted = λ run n a. counted_none c.args.machine.program (plans_in c.args.regions.now) run c.args.reports.now c.args.tally.now c.run_plain.new.tally
      c.in_ok-end.ensures.tally;
  emits = c.in_ok-end.ensures.streams;
  faults = c.in_ok-end.ensures.faults;
}

pub run_stretch-requires-clause-between : goal.run_stretch-requires-clause-between
run_stretch-requires-clause-between g c κs within =
    let below : c.loop-region.region-index < length c.args.regions.now = omega arith in
    let at = slice_get_read c.args.regions.now (length c.args.regions.now) c.loop-region.region-index c.region-item.result refl below c.region-item.is in
    let a = c.requires.ahead in
    region_starts c.args.machine.program c.args.regions.now c.args.input.now c.args.machine.fuel a.0 a.1 c.loop-region.region-index a.2.next c.requires.regions
    c.region-item.result at c.loop-region.machine (c.loop-region.invariant.between a.0 a.1 a.2)

pub run_stretch-requires-clause-room : goal.run_stretch-requires-clause-room
run_stretch-requires-clause-room g c κs within =
    let many = as_many_plans c.args.regions.now in
    let below : c.loop-region.region-index < length (plans_in c.args.regions.now) = omega (arith, many) in
    let a = c.requires.ahead in
    room_here c.args.machine.program (plans_in c.args.regions.now) c.args.input.now c.args.machine.fuel a.0 a.1 c.loop-region.region-index c.loop-region.machine
    c.args.reports.now c.loop-region.reports c.args.tally.now c.loop-region.tally (c.loop-region.invariant.counted a.0 a.1 a.2) a.2.next below c.requires.fuel
    c.requires.room (c.loop-region.invariant.between a.0 a.1 a.2)

pub run_stretch-requires-clause-fuel : goal.run_stretch-requires-clause-fuel
run_stretch-requires-clause-fuel g c κs within =
    let a = c.requires.ahead in
    let same = (c.loop-region.invariant.between a.0 a.1 a.2).behind.fuel_is in
    let few = c.requires.fuel in
    omega (arith, same, few)

pub returns-in_err-next-clause-front : goal.returns-in_err-next-clause-front
returns-in_err-next-clause-front g c =
    on_err c.from_residual-in_err-next.result _ (emits_front _ _ _ _ _ c.loop-region.invariant.emits c.in_err-next.ensures.front)

pub returns-in-Some-end-clause-ok : goal.returns-in-Some-end-clause-ok
returns-in-Some-end-clause-ok g c run n a =
    let below : c.loop-region.region-index < length c.args.regions.now = omega arith in
    let at = slice_get_read c.args.regions.now (length c.args.regions.now) c.loop-region.region-index c.region-item.result refl below c.region-item.is in
    let here = c.loop-region.invariant.between run n a in
    let leads = region_leads c.args.machine.program c.args.regions.now c.args.input.now c.args.machine.fuel run n c.loop-region.region-index a.next
    c.requires.regions c.region-item.result at c.loop-region.machine here c.in_ok-next.next c.in_ok-next.end c.in_ok-next.ensures.ok in
    let counted = region_counts c.args.machine.program c.args.regions.now c.args.input.now c.args.machine.fuel run n c.loop-region.region-index a.next
    c.requires.regions c.region-item.result at c.loop-region.machine here c.args.reports.now c.loop-region.reports c.run_stretch.new.reports c.args.tally.now
    c.loop-region.tally c.run_stretch.new.tally (c.loop-region.invariant.counted run n a) c.in_ok-next.ensures.report c.in_ok-next.ensures.tally in
    let many = as_many_plans c.args.regions.now in
    let within : c.loop-region.region-index + 1 ≤ length (plans_in c.args.regions.now) = omega (arith, below, many) in
    ended_here c.args.machine.program (plans_in c.args.regions.now) c.args.input.now c.args.machine.fuel run n (c.loop-region.region-index + 1)
    c.in_ok-next.next c.args.reports.now c.run_stretch.new.reports c.args.tally.now c.run_stretch.new.tally counted within c.in_ok-next.end c.in-Some-end.end
    c.in-Some-end.is leads

pub returns-in-Some-end-clause-written : goal.returns-in-Some-end-clause-written
returns-in-Some-end-clause-written g c = emits_on _ _ _ _ _ _ c.loop-region.invariant.emits c.in_ok-next.ensures.written

pub loop-region-preserved : goal.loop-region-preserved
loop-region-preserved g c =
    let below : c.loop-region.region-index < length c.args.regions.now = omega arith in
    let at = slice_get_read c.args.regions.now (length c.args.regions.now) c.loop-region.region-index c.region-item.result refl below c.region-item.is in
    record {
      between = λ run n a.
          goes_on c.args.machine.program (plans_in c.args.regions.now) c.args.input.now c.args.machine.fuel run n (n + (c.loop-region.region-index + 1))
          c.in_ok-next.next c.in_ok-next.end c.in_default-end.is
          (region_leads c.args.machine.program c.args.regions.now c.args.input.now c.args.machine.fuel run n c.loop-region.region-index a.next
          c.requires.regions c.region-item.result at c.loop-region.machine (c.loop-region.invariant.between run n a) c.in_ok-next.next c.in_ok-next.end
          c.in_ok-next.ensures.ok);
      counted = λ run n a.
          region_counts c.args.machine.program c.args.regions.now c.args.input.now c.args.machine.fuel run n c.loop-region.region-index a.next
          c.requires.regions c.region-item.result at c.loop-region.machine (c.loop-region.invariant.between run n a) c.args.reports.now c.loop-region.reports
          c.run_stretch.new.reports c.args.tally.now c.loop-region.tally c.run_stretch.new.tally (c.loop-region.invariant.counted run n a)
          c.in_ok-next.ensures.report c.in_ok-next.ensures.tally;
      emits = emits_on _ _ _ _ _ _ c.loop-region.invariant.emits c.in_ok-next.ensures.written;
      faults = c.in_ok-next.ensures.faults ∙ c.loop-region.invariant.faults;
    }

pub returns-clause-ok : goal.returns-clause-ok
returns-clause-ok g c run n a =
    let many = as_many_plans c.args.regions.now in
    let all : c.loop-region.region-index ≡ length (plans_in c.args.regions.now) = omega (arith, many) in
    went_by_all c.args.machine.program (plans_in c.args.regions.now) c.args.input.now c.args.machine.fuel run n c.loop-region.region-index c.loop-region.machine
    c.args.reports.now c.loop-region.reports c.args.tally.now c.loop-region.tally (c.loop-region.invariant.counted run n a) all
    (c.loop-region.invariant.between run n a)

pub returns-in_err-end-clause-before : goal.returns-in_err-end-clause-before
returns-in_err-end-clause-before g c = on_err c.from_residual.result _ (λ run n a. before_less [] c.args.machine _ _ 0 (suc (n + length c.args.regions.now))
    (omega arith) c.in_err-end.ensures.before)

pub returns-in_err-next-clause-before : goal.returns-in_err-next-clause-before
returns-in_err-next-clause-before g c =
    on_err c.from_residual-in_err-next.result _ (λ run n a.
    let below : c.loop-region.region-index < length c.args.regions.now = omega arith in
    let at = slice_get_read c.args.regions.now (length c.args.regions.now) c.loop-region.region-index c.region-item.result refl below c.region-item.is in
    region_front c.args.machine.program c.args.regions.now c.args.input.now c.args.machine.fuel run n c.args.machine a c.loop-region.region-index below
    c.region-item.result at c.loop-region.machine (c.loop-region.invariant.between _ n) _ _ _ c.loop-region.invariant.emits c.in_err-next.ensures.before)
