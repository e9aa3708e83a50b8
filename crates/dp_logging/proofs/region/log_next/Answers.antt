use Rattle.std.proofs.Common.{◌∙◌, refl, sym, ap, subst, ℕ, List, ◌++◌, Option}
use Rattle.dp_edge.proofs.FrontLemmas.{front_nothing}
use Rattle.dp_epoch.specs.RegionRun.{region_run}
use Rattle.dp_epoch.specs.declared.ends.RegionEnd.{RegionEnd}
use Rattle.dp_audit.specs.Groups.{GivesGroup}
use Rattle.dp_logging.specs.Lines.{group_lines, left_lines, left_then, region_end_of}
use Rattle.dp_logging.specs.Logged.{Logged}
use Rattle.dp_logging.specs.Pouring.{Pours}
use Rattle.dp_logging.proofs.GroupLines.{group_logged, group_next, lines_none, lines_split, none_logged}
use Rattle.dp_logging.proofs.PourLemmas.{lines_front, lines_pour, pours_nothing, stopped}
use Rattle.dp_logging.proofs.region.log_next.Goals as goal

pub returns-in_err-group-clause-streams : goal.returns-in_err-group-clause-streams
returns-in_err-group-clause-streams g c p plan input first n number s =
    stopped c.from_residual.result _ _ _ _ c.from_residual.ensures.0 (front_nothing _ _ _ refl)

pub returns-in_err-put_lines-in-Some-clause-streams : goal.returns-in_err-put_lines-in-Some-clause-streams
returns-in_err-put_lines-in-Some-clause-streams g c p plan input first n number s =
    stopped c.from_residual-in_err-put_lines-in-Some.result _ _ _ _ c.from_residual-in_err-put_lines-in-Some.ensures.0 (front_nothing _ _ _ refl)

pub returns-in_err-pour_if_many-in-Some-clause-streams : goal.returns-in_err-pour_if_many-in-Some-clause-streams
returns-in_err-pour_if_many-in-Some-clause-streams g c p plan input first n number s =
    let given = subst (GivesGroup p plan input first n c.next.new.self) c.in-Some.is (c.in_ok-group.ensures.given p plan input first n s) in
    stopped c.from_residual-in_err-pour_if_many-in-Some.result _ _ _ _ c.from_residual-in_err-pour_if_many-in-Some.ensures.0
    (lines_front c.args.out.now (group_lines plan.region c.in-Some.group) (left_then p plan (region_run first) n (region_end_of c.in-Some.group.end))
    (left_lines p plan (region_run first) n) c.put_lines.new.out
    (c.in_ok-put_lines-in-Some.ensures ∙ ap (λ (r : ℕ). c.args.out.now ++ group_lines r c.in-Some.group) (sym number))
    (lines_split p plan input first n c.args.runner.now s c.next.new.self c.in-Some.group given) _ _ c.in_err-pour_if_many-in-Some.ensures.streams)

pub returns-in_ok-pour_if_many-in-Some-clause-ok : goal.returns-in_ok-pour_if_many-in-Some-clause-ok
returns-in_ok-pour_if_many-in-Some-clause-ok g c p plan input first n s =
    let given = subst (GivesGroup p plan input first n c.next.new.self) c.in-Some.is (c.in_ok-group.ensures.given p plan input first n s) in
    subst (Logged p plan input first n c.next.new.self) (sym c.region_end.ensures) (group_logged p plan input first n c.args.runner.now s c.next.new.self
    c.in-Some.group given)

pub returns-in_ok-pour_if_many-in-Some-clause-streams : goal.returns-in_ok-pour_if_many-in-Some-clause-streams
returns-in_ok-pour_if_many-in-Some-clause-streams g c p plan input first n number s =
    let given = subst (GivesGroup p plan input first n c.next.new.self) c.in-Some.is (c.in_ok-group.ensures.given p plan input first n s) in
    subst (λ (e : Option RegionEnd). Pours (c.args.out.now ++ left_lines p plan (region_run first) n) (c.pour_if_many.new.out
    ++ left_then p plan (region_run first) n e) (g.K.Sink.written c.args.sink.now) (g.K.Sink.written c.pour_if_many.new.sink)) (sym c.region_end.ensures)
    (lines_pour c.args.out.now (group_lines plan.region c.in-Some.group) (left_then p plan (region_run first) n (region_end_of c.in-Some.group.end))
    (left_lines p plan (region_run first) n) c.put_lines.new.out
    (c.in_ok-put_lines-in-Some.ensures ∙ ap (λ (r : ℕ). c.args.out.now ++ group_lines r c.in-Some.group) (sym number))
    (lines_split p plan input first n c.args.runner.now s c.next.new.self c.in-Some.group given) _ _ c.pour_if_many.new.out
    c.in_ok-pour_if_many-in-Some.ensures.streams)

pub returns-in_ok-pour_if_many-in-Some-clause-left : goal.returns-in_ok-pour_if_many-in-Some-clause-left
returns-in_ok-pour_if_many-in-Some-clause-left g c none =
    let r = c.requires.stands in
    let given = subst (GivesGroup r.0 r.1 r.2 r.3 r.4 c.next.new.self) c.in-Some.is (c.in_ok-group.ensures.given r.0 r.1 r.2 r.3 r.4 r.6) in
    c.in_ok-group.ensures.left c.in-Some.group c.in-Some.is (group_next r.0 r.1 r.2 r.3 r.4 c.args.runner.now r.6 c.next.new.self c.in-Some.group given
    (sym c.region_end.ensures ∙ none))

pub returns-in-None-clause-ok : goal.returns-in-None-clause-ok
returns-in-None-clause-ok g c p plan input first n s =
    none_logged p plan input first n c.args.runner.now s c.next.new.self (subst (GivesGroup p plan input first n c.next.new.self) c.in-None.is
    (c.in_ok-group.ensures.given p plan input first n s))

pub returns-in-None-clause-streams : goal.returns-in-None-clause-streams
returns-in-None-clause-streams g c p plan input first n number s =
    pours_nothing _ _ _ _
    (ap (λ (x : List ℕ). c.args.out.now ++ x) (lines_none p plan input first n c.args.runner.now s c.next.new.self
    (subst (GivesGroup p plan input first n c.next.new.self) c.in-None.is (c.in_ok-group.ensures.given p plan input first n s)))) refl
