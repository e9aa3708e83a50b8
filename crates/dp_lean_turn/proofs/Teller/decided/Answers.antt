use Rattle.std.proofs.Common.{◌≡◌, ◌∙◌, sym, subst, ℤ, w64, to_z, of_z, rules}
use Rattle.dp_lean_turn.specs.Adding.{IsOwnEvent}
use Rattle.dp_lean_turn.proofs.Answering.{step_counted, none_runs}
use Rattle.dp_lean_turn.proofs.Teller.decided.Goals as goal

pub returns-then-self-clause-adds : goal.returns-then-self-clause-adds
returns-then-self-clause-adds c = λ m before h event is other assumed.
    step_counted c.args.frame.now m before c.args.self.now c.args.note.now h 0 c.args.value event is c.if-self.true other c.count.new.self c.count.result
    c.count.ensures.counts

pub returns-clause-adds : goal.returns-clause-adds
returns-clause-adds c = λ m before h event is other assumed.
    let same : to_z w64 (of_z w64 c.args.value) ≡ c.args.value = search rules in
    c.tell.ensures.adds m before h event (subst (λ (z : ℤ). IsOwnEvent c.args.frame.now m before c.args.self.now c.args.note.now h 0 z event) (sym same) is)
    (none_runs c.args.frame.now m before c.args.self.now c.args.note.now h 0 c.args.value event is c.if-self.false) (sym assumed ∙ c.if-not-assumed.false)
