use Rattle.std.proofs.Common.{◌≡◌, subst, ℕ, IfOk}
use Rattle.dp_lean_code.specs.Known.{paying_marks}
use Rattle.dp_lean_code.specs.LeanCode.{lean_code}
use Rattle.dp_lean_region.proofs.judging.judge_code.Goals as goal

pub returns : goal.returns
returns c =
    let p = c.args.program.now in let plan = c.args.plan.now in
    subst (λ (n : ℕ). IfOk c.lean_program.result (λ program. program.ops ≡ lean_code p plan n (paying_marks p plan))) c.in_ok-number.ensures
    c.lean_program.ensures
