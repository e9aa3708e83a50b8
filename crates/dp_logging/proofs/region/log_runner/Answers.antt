use Rattle.std.proofs.Common.{◌∙◌, refl, sym, subst, suc, [], ◌++◌, Option}
use Rattle.dp_meaning.specs.MachineState.{MachineState}
use Rattle.dp_epoch.specs.RegionRun.{RegionRan, region_run}
use Rattle.dp_epoch.specs.declared.ends.RegionEnd.{RegionEnd}
use Rattle.dp_logging.specs.Lines.{left_lines, left_then}
use Rattle.dp_logging.specs.Logged.{Logged}
use Rattle.dp_logging.specs.Pouring.{Pours}
use Rattle.dp_logging.proofs.PourLemmas.{left_none, pours_front, pours_nothing, pours_on, stopped}
use Rattle.dp_logging.proofs.region.log_runner.Goals as goal

pub iterations-init : goal.iterations-init
iterations-init g c = record { so_far = λ p plan input first number s. (0, s, pours_nothing _ _ _ _ refl refl); faults = refl }

pub log_next-requires-clause-stands : goal.log_next-requires-clause-stands
log_next-requires-clause-stands g c =
    let r = c.requires.stands in
    let f = c.iterations.invariant.so_far r.0 r.1 r.2 r.3 r.4 r.5 in
    (r.0, r.1, r.2, r.3, f.0, r.4, f.1)

pub returns-in_err-log_next-clause-streams : goal.returns-in_err-log_next-clause-streams
returns-in_err-log_next-clause-streams g c p plan input first number s =
    let f = c.iterations.invariant.so_far p plan input first number s in
    stopped c.from_residual.result _ _ _ _ c.from_residual.ensures.0
    (pours_front _ _ _ _ _ f.2 (c.in_err-log_next.ensures.streams p plan input first f.0 number f.1))

pub iterations-preserved : goal.iterations-preserved
iterations-preserved g c = record {
  so_far = λ p plan input first number s.
      let f = c.iterations.invariant.so_far p plan input first number s in (
        suc f.0,
        subst (Logged p plan input first f.0 c.log_next.new.runner) c.in-None.is (c.in_ok-log_next.ensures.ok p plan input first f.0 f.1),
        pours_on _ _ _ _ _ _ f.2
            (subst (λ (e : Option RegionEnd). Pours (c.iterations.out ++ left_lines p plan (region_run first) f.0)
            (c.log_next.new.out ++ left_then p plan (region_run first) f.0 e) (g.K.Sink.written c.iterations.sink)
            (g.K.Sink.written c.log_next.new.sink)) c.in-None.is
            (c.in_ok-log_next.ensures.streams p plan input first f.0 number f.1)),
      );
  faults = c.in_ok-log_next.ensures.faults ∙ c.iterations.invariant.faults;
}

pub returns-in-Some-clause-ran : goal.returns-in-Some-clause-ran
returns-in-Some-clause-ran g c p plan input first number s =
    let f = c.iterations.invariant.so_far p plan input first number s in
    subst (λ (m : MachineState). RegionRan p plan first m c.in-Some.end) (sym c.finish.ensures)
    (subst (Logged p plan input first f.0 c.log_next.new.runner) c.in-Some.is (c.in_ok-log_next.ensures.ok p plan input first f.0 f.1))

pub returns-in-Some-clause-streams : goal.returns-in-Some-clause-streams
returns-in-Some-clause-streams g c p plan input first number s =
    let f = c.iterations.invariant.so_far p plan input first number s in
    left_none _ c.log_next.new.out [] _ _ refl
    (pours_on _ _ _ _ _ _ f.2
    (subst (λ (e : Option RegionEnd). Pours (c.iterations.out ++ left_lines p plan (region_run first) f.0)
    (c.log_next.new.out ++ left_then p plan (region_run first) f.0 e) (g.K.Sink.written c.iterations.sink) (g.K.Sink.written c.log_next.new.sink)) c.in-Some.is
    (c.in_ok-log_next.ensures.streams p plan input first f.0 number f.1)))
