use Rattle.std.proofs.Common.{◌≡◌, subst, sym, rules, ℕ}
use Rattle.dp_forms.specs.Codes.{Enters}
use Rattle.dp_forms.proofs.ChoiceLemmas.{own_enters, own_if}
use Rattle.dp_forms.specs.Codes.{OfIf}
use Rattle.dp_forms.proofs.ChoiceLemmas.{if_enters_then, if_enters_else, entered_at}
use Rattle.dp_forms.proofs.choices.IfCode.enter.Goals as goal

pub returns-in-Some : goal.returns-in-Some
returns-in-Some g c = (c.in-Some.ensures.0, if_enters_then g.C.Value.is_of g.A.Code.is_of g.B.Code.is_of g.row.S c.in-Some.ensures.1)

pub returns-in-Some-enter : goal.returns-in-Some-enter
returns-in-Some-enter g c = (
  c.in-Some-enter.ensures.0,
  entered_at (OfIf g.row.S g.C.Value.is_of g.A.Code.is_of g.B.Code.is_of) c.in-None.ensures.0 c.in-None.ensures.1 (if_enters_else
      g.C.Value.is_of g.A.Code.is_of g.B.Code.is_of g.row.S c.in-Some-enter.ensures.1),
)

pub returns-then-site : goal.returns-then-site
returns-then-site g c =
    let own : c.args.site ≡ g.row.S = search rules in (
      c.run-to.ensures.small,
      subst (λ (n : ℕ). Enters (OfIf g.row.S g.C.Value.is_of g.A.Code.is_of g.B.Code.is_of) n c.args.input.now c.args.state.now.fuel
          c.args.state.now.registers c.args.memory.now c.args.out.now c.run-to.result.at c.run-to.result.fuel c.run-to.result.registers c.run-to.new.memory
          c.run-to.new.out) (sym own) (own_enters (OfIf g.row.S g.C.Value.is_of g.A.Code.is_of g.B.Code.is_of) g.row.S
          (own_if g.row.S g.C.Value.is_of g.A.Code.is_of g.B.Code.is_of) c.run-to.ensures.runs),
    )
