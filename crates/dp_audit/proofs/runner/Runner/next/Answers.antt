use Rattle.std.proofs.Common.{◌≡◌, ◌<◌, ◌≤◌, ◌∙◌, ap, rules, arith}
use Rattle.dp_audit.specs.declared.group.Group.{Group}
use Rattle.dp_audit.proofs.NextLemmas.{falls, gives_group, gives_none}
use Rattle.dp_audit.proofs.runner.Runner.next.Goals as goal

pub returns-then-begun-clause-given : goal.returns-then-begun-clause-given
returns-then-begun-clause-given g c p plan input first n s =
    let begun : c.steps.result < c.fuel.result = search rules in
    let steps = c.steps.ensures.value in
    let fuel = c.fuel.ensures in
    gives_group p plan input first n c.args.self.now s c.make.new.self c.in_ok-group.group (c.in_ok-group.ensures.made p plan input first n s)
    (omega (arith, begun, steps, fuel))

pub returns-then-begun-clause-left : goal.returns-then-begun-clause-left
returns-then-begun-clause-left g c group is e =
    let s = c.requires.stands in
    let same : c.in_ok-group.group ≡ group = cc is in
    falls s.0 s.1 s.2 s.3 s.4 c.args.self.now s.5 c.make.new.self c.in_ok-group.group (c.in_ok-group.ensures.made s.0 s.1 s.2 s.3 s.4 s.5)
    (ap (λ (x : Group). x.end) same ∙ e)

pub returns-clause-given : goal.returns-clause-given
returns-clause-given g c p plan input first n s =
    let unbegun : c.fuel.result ≤ c.steps.result = search rules in
    let steps = c.steps.ensures.value in
    let fuel = c.fuel.ensures in
    gives_none p plan input first n c.args.self.now s c.make.new.self c.in_ok-group.group (c.in_ok-group.ensures.made p plan input first n s)
    (omega (arith, unbegun, steps, fuel))
