use Rattle.std.proofs.Common.{◌≡◌, ◌≢◌, subst, sym, arith, rules, ℕ}
use Rattle.dp_forms.specs.Codes.{Enters, OfWhile}
use Rattle.dp_forms.proofs.ChoiceLemmas.{while_enters, while_enters_body, while_entered}
use Rattle.dp_forms.proofs.loops.entered.Goals as goal

pub returns-then-site : goal.returns-then-site
returns-then-site g c =
    let own : c.args.site ≡ g.row.S = search rules in (
      c.turns_apart-to.ensures.small,
      subst (λ (n : ℕ). Enters (OfWhile g.row.S g.C.Value.is_of g.A.Code.is_of) n c.args.input.now c.args.state.now.fuel
          c.args.state.now.registers c.args.memory.now c.args.out.now c.turns_apart-to.result.at c.turns_apart-to.result.fuel c.turns_apart-to.result.registers
          c.turns_apart-to.new.memory c.turns_apart-to.new.out) (sym own) (while_enters g.C.Value.is_of g.A.Code.is_of g.row.S c.turns_apart-to.ensures.runs),
    )

pub returns-then-inside-ne0 : goal.returns-then-inside-ne0
returns-then-inside-ne0 g c = let some : c.in-Some.inside.at ≢ 0 = λ (e : c.in-Some.inside.at ≡ 0). absurd (omega (arith, c.if-inside-ne0.true, e)) in
    (c.in-Some.ensures.0, while_entered g.C.Value.is_of g.A.Code.is_of g.A.Code.is_of g.row.S some c.in-Some.ensures.1)

pub returns-else-inside-ne0 : goal.returns-else-inside-ne0
returns-else-inside-ne0 g c = let zero : c.in-Some.inside.at ≡ 0 = omega (arith, c.if-inside-ne0.false) in (
  c.turns_apart-behind.ensures.small,
  while_enters_body g.C.Value.is_of g.A.Code.is_of g.A.Code.is_of g.row.S zero c.enter.auto.memory c.in-Some.ensures.1
      c.turns_apart-behind.ensures.runs,
)
