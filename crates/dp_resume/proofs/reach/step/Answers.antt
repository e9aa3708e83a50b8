use Rattle.std.proofs.Common.{◌++◌, List, ℤ, Option, None, refl, sym, ap, subst, ◌∙◌}
use Rattle.dp_room.proofs.ResultLemmas.{on_err}
use Rattle.dp_edge.proofs.FrontLemmas.{front_nothing}
use Rattle.dp_edge.specs.Writing.{WritesFront}
use Rattle.dp_report.specs.PrintsText.{prints_bytes}
use Rattle.dp_epoch.specs.declared.ends.RegionEnd.{RegionEnd}
use Rattle.dp_audit.specs.declared.group.Group.{Group}
use Rattle.dp_audit.specs.Groups.{GivesGroup}
use Rattle.dp_run.proofs.Prints.{emits_called}
use Rattle.dp_resume.specs.steps.Reaching.{Steps, machine_of}
use Rattle.dp_resume.proofs.ReachLemmas.{emits_none, made, made_prints, spent, spent_prints, waits}
use Rattle.dp_resume.proofs.reach.step.Goals as goal

pub returns-in_err-next-clause-front : goal.returns-in_err-next-clause-front
returns-in_err-next-clause-front g c = on_err c.from_residual.result _ (λ p plan input first n s. front_nothing _ _ _ refl)

pub returns-in_err-append-in-Some-clause-front : goal.returns-in_err-append-in-Some-clause-front
returns-in_err-append-in-Some-clause-front g c = on_err c.from_residual-in_err-append-in-Some.result _ (λ p plan input first n s. front_nothing _ _ _ refl)

pub returns-in_err-flush_if_many-in-Some-clause-front : goal.returns-in_err-flush_if_many-in-Some-clause-front
returns-in_err-flush_if_many-in-Some-clause-front g c =
    on_err c.from_residual-in_err-flush_if_many-in-Some.result _ (λ p plan input first n s.
    let given = subst (λ (o : Option Group). GivesGroup p plan input first n c.next.new.self o) c.in-Some.is
    (c.in_ok-next.ensures.given p plan input first n s) in
    let all = c.in_ok-append-in-Some.ensures.ok ∙ ap (λ (zs : List ℤ). c.args.waiting.now ++ zs) given.0.prints_are in
    subst (λ (zs : List ℤ). WritesFront (prints_bytes zs) (g.K.Sink.written c.args.sink.now) (g.K.Sink.written c.flush_if_many.new.sink)) all
    c.in_err-flush_if_many-in-Some.ensures.streams)

pub returns-in-None-clause-made : goal.returns-in-None-clause-made
returns-in-None-clause-made g c = λ p plan input first n s.
    spent p plan input first n c.args.runner.now c.next.new.self s (subst (λ (o : Option Group). GivesGroup p plan input first n c.next.new.self o) c.in-None.is
    (c.in_ok-next.ensures.given p plan input first n s))

pub returns-in-None-clause-emits : goal.returns-in-None-clause-emits
returns-in-None-clause-emits g c =
    let q = c.requires.stands in
    let given = subst (λ (o : Option Group). GivesGroup q.0 q.1 q.2 q.3 q.4 c.next.new.self o) c.in-None.is
    (c.in_ok-next.ensures.given q.0 q.1 q.2 q.3 q.4 q.5) in
    emits_none c.args.waiting.now c.args.waiting.now c.args.waiting.now (machine_of c.args.runner.now) (machine_of c.next.new.self)
    (g.K.Sink.written c.args.sink.now) None
    (spent_prints q.0 q.1 q.2 q.3 q.4 c.args.runner.now c.next.new.self q.5 given)

pub returns-in_ok-flush_if_many-in-Some-clause-made : goal.returns-in_ok-flush_if_many-in-Some-clause-made
returns-in_ok-flush_if_many-in-Some-clause-made g c = λ p plan input first n s.
    let given = subst (λ (o : Option Group). GivesGroup p plan input first n c.next.new.self o) c.in-Some.is
    (c.in_ok-next.ensures.given p plan input first n s) in
    subst (λ (o : Option RegionEnd). Steps p plan input first n c.next.new.self o) (sym c.ended_so.ensures)
    (made p plan input first n c.args.runner.now c.next.new.self s c.in-Some.group given)

pub returns-in_ok-flush_if_many-in-Some-clause-emits : goal.returns-in_ok-flush_if_many-in-Some-clause-emits
returns-in_ok-flush_if_many-in-Some-clause-emits g c =
    let q = c.requires.stands in
    let given = subst (λ (o : Option Group). GivesGroup q.0 q.1 q.2 q.3 q.4 c.next.new.self o) c.in-Some.is
    (c.in_ok-next.ensures.given q.0 q.1 q.2 q.3 q.4 q.5) in
    let same = waits c.args.waiting.now c.in-Some.group.prints c.append.new.self (machine_of c.args.runner.now) (machine_of c.next.new.self) None None
    c.in_ok-append-in-Some.ensures.ok
    (made_prints q.0 q.1 q.2 q.3 q.4 c.args.runner.now c.next.new.self q.5 c.in-Some.group given) in
    emits_called (machine_of c.args.runner.now) (machine_of c.next.new.self) c.args.waiting.now c.append.new.self c.flush_if_many.new.waiting _ _ same
    c.in_ok-flush_if_many-in-Some.ensures.streams
