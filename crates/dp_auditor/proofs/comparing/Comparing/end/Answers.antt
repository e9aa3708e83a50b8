use Rattle.std.proofs.Common.{sym, subst, arith, take, ℕ}
use Rattle.dp_log.specs.Compared.{DifferFirst}
use Rattle.dp_auditor.specs.Comparing.{Compared, line_behind}
use Rattle.dp_auditor.proofs.LineLemmas.{more_behind}
use Rattle.dp_auditor.proofs.comparing.Comparing.end.Goals as goal

pub returns : goal.returns
returns c =
    let log = c.self.inside.log.now in
    let place = c.self.inside.place in
    let within = c.self.invariant.0 in
    subst (λ (line : ℕ). DifferFirst c.args.self.now.log (take c.args.self.now.place c.args.self.now.log) line) (sym c.line_behind.ensures)
    (subst (λ (v : Compared). DifferFirst v.log (take v.place v.log) (line_behind (take place log))) c.self.view_is
    (more_behind log place (omega (arith, within, c.if-self.false))))
