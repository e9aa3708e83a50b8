use Rattle.std.proofs.Common.{◌≡◌, subst, sym, rules, ℕ}
use Rattle.dp_forms.specs.Codes.{Enters, OfPut}
use Rattle.dp_forms.proofs.ChoiceLemmas.{own_enters, own_put}
use Rattle.dp_forms.proofs.statements.PutCode.enter.Goals as goal

pub returns-then-site : goal.returns-then-site
returns-then-site g c =
    let own : c.args.site ≡ g.row.S = search rules in (
      c.run-to.ensures.small,
      subst (λ (n : ℕ). Enters (OfPut g.row.S g.row.F g.row.C g.I.Value.is_of g.V.Value.is_of) n c.args.input.now c.args.state.now.fuel
          c.args.state.now.registers c.args.memory.now c.args.out.now c.run-to.result.at c.run-to.result.fuel c.run-to.result.registers c.run-to.new.memory
          c.run-to.new.out) (sym own) (own_enters (OfPut g.row.S g.row.F g.row.C g.I.Value.is_of g.V.Value.is_of) g.row.S
          (own_put g.row.S g.row.F g.row.C g.I.Value.is_of g.V.Value.is_of) c.run-to.ensures.runs),
    )
