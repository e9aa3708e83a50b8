use Rattle.std.proofs.Common.{refl, sym, subst, suc, List, ℕ, ◌++◌}
use Rattle.dp_prepared.specs.Planned.{Prepared}
use Rattle.dp_edge.specs.Writing.{WritesFront}
use Rattle.dp_epoch.specs.RegionRun.{RegionStart}
use Rattle.dp_audit.specs.Runs.{RegionStands}
use Rattle.dp_edge.proofs.FrontLemmas.{front_nothing}
use Rattle.dp_run.proofs.Regions.{after_region, region_start}
use Rattle.dp_logging.specs.Pouring.{Pours}
use Rattle.dp_logging.proofs.PourLemmas.{pours_stopped, stopped}
use Rattle.dp_logging.proofs.SameLines.{region_lines}
use Rattle.dp_logging.proofs.stretch.log_stretch.Goals as goal

pub begin-requires-clause-start : goal.begin-requires-clause-start
begin-requires-clause-start g c =
    let b = c.requires.between in
    subst (λ (x : Prepared). RegionStart x.program x.plan c.args.input.now c.args.machine) (sym c.region.ensures)
    (region_start c.args.region.now.program c.args.region.now.plan c.args.input.now c.args.machine.fuel b.0 b.1 c.args.machine
    c.number-number.ensures.planned b.2 b.3)

pub log_runner-requires-clause-stands : goal.log_runner-requires-clause-stands
log_runner-requires-clause-stands g c = (
  c.args.region.now.program,
  c.args.region.now.plan,
  c.args.input.now,
  c.args.machine,
  sym c.number-number.ensures.value,
  (subst
      (λ (x : Prepared). RegionStands x.program x.plan c.args.input.now c.args.machine 0 c.in_ok-runner.runner) c.region.ensures c.in_ok-runner.ensures),
)

pub returns-in_err-runner-clause-streams : goal.returns-in_err-runner-clause-streams
returns-in_err-runner-clause-streams g c run n number b = stopped c.from_residual.result _ _ _ _ c.from_residual.ensures.0 (front_nothing _ _ _ refl)

pub returns-in_err-next-clause-streams : goal.returns-in_err-next-clause-streams
returns-in_err-next-clause-streams g c run n number b =
    let p = c.args.region.now.program in let plan = c.args.region.now.plan in let input = c.args.input.now in let m = c.args.machine in
    let fuel = c.args.machine.fuel in let planned = c.number-number.ensures.planned in let is = sym c.number-number.ensures.value in
    let same = region_lines p plan input fuel run n m planned number b in
    stopped c.from_residual-in_err-next.result _ _ _ _ c.from_residual-in_err-next.ensures.0
    (subst (λ (x : List ℕ). WritesFront (c.args.out.now ++ x) (g.K.Sink.written c.args.sink.now) (g.K.Sink.written c.log_runner.new.sink)) same
    (c.in_err-next.ensures.streams p plan input m is
    (subst (λ (x : Prepared). RegionStands x.program x.plan c.args.input.now c.args.machine 0 c.in_ok-runner.runner) c.region.ensures c.in_ok-runner.ensures)))

pub returns-in_err-passed-clause-streams : goal.returns-in_err-passed-clause-streams
returns-in_err-passed-clause-streams g c run n number b =
    let p = c.args.region.now.program in let plan = c.args.region.now.plan in let input = c.args.input.now in let m = c.args.machine in
    let fuel = c.args.machine.fuel in let planned = c.number-number.ensures.planned in let is = sym c.number-number.ensures.value in
    let same = region_lines p plan input fuel run n m planned number b in
    let poured = c.in_ok-next.ensures.streams p plan input m is
    (subst (λ (x : Prepared). RegionStands x.program x.plan c.args.input.now c.args.machine 0 c.in_ok-runner.runner) c.region.ensures c.in_ok-runner.ensures) in
    stopped c.from_residual-in_err-passed.result _ _ _ _ c.from_residual-in_err-passed.ensures.0
    (subst (λ (x : List ℕ). WritesFront (c.args.out.now ++ x) (g.K.Sink.written c.args.sink.now) (g.K.Sink.written c.log_runner.new.sink)) same
    (pours_stopped _ _ _ _ poured))

pub returns-clause-ok : goal.returns-clause-ok
returns-clause-ok g c run n number b =
    let p = c.args.region.now.program in let plan = c.args.region.now.plan in let input = c.args.input.now in let m = c.args.machine in
    let fuel = c.args.machine.fuel in let planned = c.number-number.ensures.planned in let is = sym c.number-number.ensures.value in
    let ran = c.in_ok-next.ensures.ran p plan input m is
    (subst (λ (x : Prepared). RegionStands x.program x.plan c.args.input.now c.args.machine 0 c.in_ok-runner.runner) c.region.ensures c.in_ok-runner.ensures) in
    c.in_ok-passed.ensures p input fuel run (suc n)
    (after_region p plan input fuel run n m planned number b c.in_ok-next.next c.in_ok-next.end ran)

pub returns-clause-streams : goal.returns-clause-streams
returns-clause-streams g c run n number b =
    let p = c.args.region.now.program in let plan = c.args.region.now.plan in let input = c.args.input.now in let m = c.args.machine in
    let fuel = c.args.machine.fuel in let planned = c.number-number.ensures.planned in let is = sym c.number-number.ensures.value in
    let same = region_lines p plan input fuel run n m planned number b in
    subst (λ (x : List ℕ). Pours (c.args.out.now ++ x) c.log_runner.new.out (g.K.Sink.written c.args.sink.now) (g.K.Sink.written c.log_runner.new.sink)) same
    (c.in_ok-next.ensures.streams p plan input m is
    (subst (λ (x : Prepared). RegionStands x.program x.plan c.args.input.now c.args.machine 0 c.in_ok-runner.runner) c.region.ensures c.in_ok-runner.ensures))
