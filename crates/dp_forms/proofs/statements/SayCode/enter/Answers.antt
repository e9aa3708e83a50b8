use Rattle.std.proofs.Common.{◌≡◌, subst, sym, rules, ℕ}
use Rattle.dp_forms.specs.Codes.{Enters, OfSay}
use Rattle.dp_forms.proofs.ChoiceLemmas.{own_enters, own_say}
use Rattle.dp_forms.proofs.statements.SayCode.enter.Goals as goal

pub returns-then-site : goal.returns-then-site
returns-then-site g c =
    let own : c.args.site ≡ g.row.S = search rules in (
      c.run-to.ensures.small,
      subst (λ (n : ℕ). Enters (OfSay g.row.S g.V.Value.is_of) n c.args.input.now c.args.state.now.fuel c.args.state.now.registers
          c.args.memory.now c.args.out.now c.run-to.result.at c.run-to.result.fuel c.run-to.result.registers c.run-to.new.memory c.run-to.new.out) (sym own)
          (own_enters (OfSay g.row.S g.V.Value.is_of) g.row.S (own_say g.row.S g.V.Value.is_of) c.run-to.ensures.runs),
    )
