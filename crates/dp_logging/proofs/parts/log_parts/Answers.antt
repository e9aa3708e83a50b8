use Rattle.std.proofs.Common.{◌≡◌, ◌∙◌, refl, subst, ap, ℕ, ◌+◌, ◌<◌, ◌≤◌, [], List, ◌++◌, length, drop, arith}
use Rattle.std.proofs.lemmas.Option.{slice_get_read}
use Rattle.std.proofs.lemmas.List.{drop_all}
use Rattle.dp_log.specs.LogText.{region_bytes, logged_regions}
use Rattle.dp_plan.specs.declared.Plan.{Plan}
use Rattle.dp_run.specs.Stretches.{Between, Leads}
use Rattle.dp_run.specs.Prepared.{plans_in}
use Rattle.dp_run.proofs.Counting.{number_is}
use Rattle.dp_run.proofs.PlanByPlan.{goes_on}
use Rattle.dp_run.proofs.PlansIn.{plan_at}
use Rattle.dp_run.proofs.RegionByRegion.{as_many_plans, region_leads, region_starts}
use Rattle.dp_edge.specs.Writing.{WritesFront}
use Rattle.dp_edge.proofs.FrontLemmas.{front_nothing}
use Rattle.dp_logging.specs.Pouring.{Pours}
use Rattle.dp_logging.proofs.PartLemmas.{at_own, lines_there, next_lines, none_behind, over_so, went_all, went_so}
use Rattle.dp_logging.proofs.PourLemmas.{left_none, part_front, part_pours, pours_nothing, split_so, stopped}
use Rattle.dp_logging.proofs.parts.log_parts.Goals as goal

pub returns-in_err-end-clause-streams : goal.returns-in_err-end-clause-streams
returns-in_err-end-clause-streams g c run n a = stopped c.from_residual.result _ _ _ _ c.from_residual.ensures.0 (front_nothing _ _ _ refl)

pub returns-in-Some-clause-ok : goal.returns-in-Some-clause-ok
returns-in-Some-clause-ok g c run n a =
    let none : n ≡ n + 0 = omega arith in
    went_so c.args.machine.program (plans_in c.args.regions.now) c.args.input.now c.args.machine.fuel run n 0 c.skip_plain.new.machine (omega arith)
    c.in_ok-end.field-0 c.in-Some.end c.in-Some.is
    (subst (λ (k : ℕ). Leads c.args.machine.program c.args.input.now c.args.machine.fuel run k c.skip_plain.new.machine c.in_ok-end.field-0) none
    (c.in_ok-end.ensures c.args.machine.program c.args.input.now c.args.machine.fuel run n a.behind))

pub returns-in-Some-clause-streams : goal.returns-in-Some-clause-streams
returns-in-Some-clause-streams g c run n a =
    let none : n ≡ n + 0 = omega arith in
    let leads = subst (λ (k : ℕ). Leads c.args.machine.program c.args.input.now c.args.machine.fuel run k c.skip_plain.new.machine c.in_ok-end.field-0) none
    (c.in_ok-end.ensures c.args.machine.program c.args.input.now c.args.machine.fuel run n a.behind) in
    let over = over_so c.args.machine.program (plans_in c.args.regions.now) c.args.input.now c.args.machine.fuel run n 0 c.skip_plain.new.machine
    c.in_ok-end.field-0 c.in-Some.end c.in-Some.is leads in
    left_none _ c.args.out.now _ _ _ (none_behind c.args.machine.program (plans_in c.args.regions.now) c.args.input.now c.args.machine.fuel run n a.next 0
    (omega arith) c.skip_plain.new.machine c.in-Some.end over) (pours_nothing _ _ _ _ refl refl)

pub loop-region-init : goal.loop-region-init
loop-region-init g c = record {
  between = λ run n a. let none : n ≡ n + 0 = omega arith in
      subst (λ (k : ℕ). Between c.args.machine.program c.args.input.now c.args.machine.fuel run k c.skip_plain.new.machine) none
      (goes_on c.args.machine.program (plans_in c.args.regions.now) c.args.input.now c.args.machine.fuel run n n c.skip_plain.new.machine c.in_ok-end.field-0
      c.in_default.is (c.in_ok-end.ensures c.args.machine.program c.args.input.now c.args.machine.fuel run n a.behind));
  pours = λ run n a. pours_nothing _ _ _ _ refl refl;
  faults = refl;
}

pub log_stretch-requires-clause-between : goal.log_stretch-requires-clause-between
log_stretch-requires-clause-between g c =
    let p = c.args.machine.program in let regions = c.args.regions.now in let input = c.args.input.now in let fuel = c.args.machine.fuel in
    let k = c.loop-region.region-index in let region = c.region-item.result in
    let below : k < length regions = omega arith in
    let there = slice_get_read regions (length regions) k region refl below c.region-item.is in
    let a = c.requires.ahead in
    region_starts p regions input fuel a.0 a.1 k a.2.next c.requires.regions region there c.loop-region.machine (c.loop-region.invariant.between a.0 a.1 a.2)

pub log_stretch-requires-clause-fuel : goal.log_stretch-requires-clause-fuel
log_stretch-requires-clause-fuel g c =
    let a = c.requires.ahead in
    let same = (c.loop-region.invariant.between a.0 a.1 a.2).behind.fuel_is in
    let few = c.requires.fuel in
    omega (arith, same, few)

pub returns-in_err-next-clause-streams : goal.returns-in_err-next-clause-streams
returns-in_err-next-clause-streams g c run n a =
    let p = c.args.machine.program in let regions = c.args.regions.now in let input = c.args.input.now in let fuel = c.args.machine.fuel in
    let k = c.loop-region.region-index in let region = c.region-item.result in
    let below : k < length regions = omega arith in
    let there = slice_get_read regions (length regions) k region refl below c.region-item.is in
    let at = plan_at regions k region there in
    let here = c.loop-region.invariant.between run n a in
    let number = number_is p n (plans_in regions) a.next k region.plan at in
    let own = at_own p (plans_in regions) input fuel run n (n + k) c.loop-region.machine here in
    stopped c.from_residual-in_err-next.result _ _ _ _ c.from_residual-in_err-next.ensures.0
    (part_front _ c.loop-region.out (region_bytes p region.plan run) (logged_regions p (drop (k + 1) (plans_in regions)) run) _ _ _
    (split_so _ c.loop-region.out _ (region_bytes p region.plan run) (logged_regions p (drop (k + 1) (plans_in regions)) run) _ _
    (next_lines p run (plans_in regions) k region.plan at) (c.loop-region.invariant.pours run n a))
    (lines_there (λ (x : List ℕ). WritesFront (c.loop-region.out ++ x) (g.K.Sink.written c.loop-region.sink) (g.K.Sink.written c.log_stretch.new.sink)) p
    regions k region c.requires.regions there input c.loop-region.machine c.in_err-next.ensures.streams run (n + k) number own))

pub returns-in-Some-end-clause-ok : goal.returns-in-Some-end-clause-ok
returns-in-Some-end-clause-ok g c run n a =
    let p = c.args.machine.program in let regions = c.args.regions.now in let input = c.args.input.now in let fuel = c.args.machine.fuel in
    let k = c.loop-region.region-index in let region = c.region-item.result in
    let below : k < length regions = omega arith in
    let there = slice_get_read regions (length regions) k region refl below c.region-item.is in
    let here = c.loop-region.invariant.between run n a in
    let leads = region_leads p regions input fuel run n k a.next c.requires.regions region there c.loop-region.machine here c.in_ok-next.next c.in_ok-next.end
    c.in_ok-next.ensures.ok in
    let within : k + 1 ≤ length (plans_in regions) = let many = as_many_plans regions in omega (arith, below, many) in
    went_so p (plans_in regions) input fuel run n (k + 1) c.in_ok-next.next within c.in_ok-next.end c.in-Some-end.end c.in-Some-end.is leads

pub returns-in-Some-end-clause-streams : goal.returns-in-Some-end-clause-streams
returns-in-Some-end-clause-streams g c run n a =
    let p = c.args.machine.program in let regions = c.args.regions.now in let input = c.args.input.now in let fuel = c.args.machine.fuel in
    let k = c.loop-region.region-index in let region = c.region-item.result in
    let below : k < length regions = omega arith in
    let there = slice_get_read regions (length regions) k region refl below c.region-item.is in
    let at = plan_at regions k region there in
    let here = c.loop-region.invariant.between run n a in
    let number = number_is p n (plans_in regions) a.next k region.plan at in
    let own = at_own p (plans_in regions) input fuel run n (n + k) c.loop-region.machine here in
    let leads = region_leads p regions input fuel run n k a.next c.requires.regions region there c.loop-region.machine here c.in_ok-next.next c.in_ok-next.end
    c.in_ok-next.ensures.ok in
    let within : k + 1 ≤ length (plans_in regions) = let many = as_many_plans regions in omega (arith, below, many) in
    let over = over_so p (plans_in regions) input fuel run n (k + 1) c.in_ok-next.next c.in_ok-next.end c.in-Some-end.end c.in-Some-end.is leads in
    left_none _ c.log_stretch.new.out (logged_regions p (drop (k + 1) (plans_in regions)) run) _ _
    (none_behind p (plans_in regions) input fuel run n a.next (k + 1) within c.in_ok-next.next c.in-Some-end.end over)
    (part_pours _ c.loop-region.out (region_bytes p region.plan run) (logged_regions p (drop (k + 1) (plans_in regions)) run) _ _ _
    (split_so _ c.loop-region.out _ (region_bytes p region.plan run) (logged_regions p (drop (k + 1) (plans_in regions)) run) _ _
    (next_lines p run (plans_in regions) k region.plan at) (c.loop-region.invariant.pours run n a))
    c.log_stretch.new.out (lines_there (λ (x : List ℕ). Pours (c.loop-region.out ++ x) c.log_stretch.new.out (g.K.Sink.written c.loop-region.sink)
    (g.K.Sink.written c.log_stretch.new.sink)) p regions k region c.requires.regions there input c.loop-region.machine c.in_ok-next.ensures.streams run
    (n + k) number own))

pub loop-region-preserved : goal.loop-region-preserved
loop-region-preserved g c =
    let p = c.args.machine.program in let regions = c.args.regions.now in let input = c.args.input.now in let fuel = c.args.machine.fuel in
    let k = c.loop-region.region-index in let region = c.region-item.result in
    let below : k < length regions = omega arith in
    let there = slice_get_read regions (length regions) k region refl below c.region-item.is in
    let at = plan_at regions k region there in
    record {
      between = λ run n a.
          goes_on p (plans_in regions) input fuel run n (n + (k + 1)) c.in_ok-next.next c.in_ok-next.end c.in_default-end.is
          (region_leads p regions input fuel run n k a.next c.requires.regions region there c.loop-region.machine (c.loop-region.invariant.between run n a)
          c.in_ok-next.next c.in_ok-next.end c.in_ok-next.ensures.ok);
      pours = λ run n a.
          let number = number_is p n (plans_in regions) a.next k region.plan at in
          let own = at_own p (plans_in regions) input fuel run n (n + k) c.loop-region.machine (c.loop-region.invariant.between run n a) in
          part_pours _ c.loop-region.out (region_bytes p region.plan run) (logged_regions p (drop (k + 1) (plans_in regions)) run) _ _ _
          (split_so _ c.loop-region.out _ (region_bytes p region.plan run) (logged_regions p (drop (k + 1) (plans_in regions)) run) _ _
          (next_lines p run (plans_in regions) k region.plan at) (c.loop-region.invariant.pours run n a))
          c.log_stretch.new.out (lines_there (λ (x : List ℕ). Pours (c.loop-region.out ++ x) c.log_stretch.new.out (g.K.Sink.written c.loop-region.sink)
          (g.K.Sink.written c.log_stretch.new.sink)) p regions k region c.requires.regions there input c.loop-region.machine c.in_ok-next.ensures.streams run
          (n + k) number own);
      faults = c.in_ok-next.ensures.faults ∙ c.loop-region.invariant.faults;
    }

pub returns-clause-ok : goal.returns-clause-ok
returns-clause-ok g c run n a =
    let all : c.loop-region.region-index ≡ length (plans_in c.args.regions.now) = let many = as_many_plans c.args.regions.now in omega (arith, many) in
    went_all c.args.machine.program (plans_in c.args.regions.now) c.args.input.now c.args.machine.fuel run n c.loop-region.region-index c.loop-region.machine
    all (c.loop-region.invariant.between run n a)

pub returns-clause-streams : goal.returns-clause-streams
returns-clause-streams g c run n a =
    let over : drop c.loop-region.region-index (plans_in c.args.regions.now) ≡ [] = drop_all c.loop-region.region-index (plans_in c.args.regions.now)
    (let many = as_many_plans c.args.regions.now in omega (arith, many)) in
    left_none _ c.loop-region.out _ _ _ (ap (λ (ps : List Plan). logged_regions c.args.machine.program ps run) over) (c.loop-region.invariant.pours run n a)
