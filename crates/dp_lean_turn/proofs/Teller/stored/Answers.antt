use Rattle.std.proofs.Common.{◌≡◌, sym, subst, ℤ, w64, to_z, of_z, rules}
use Rattle.dp_lean_turn.specs.Adding.{IsOwnEvent, LogsStore}
use Rattle.dp_lean_turn.proofs.Answering.{store_assumed, store_counted, none_runs}
use Rattle.dp_lean_turn.proofs.Teller.stored.Goals as goal

pub returns-then-not-self-clause-adds : goal.returns-then-not-self-clause-adds
returns-then-not-self-clause-adds c = λ m before h event is store.
    let same : to_z w64 (of_z w64 c.args.value) ≡ c.args.value = search rules in
    c.tell.ensures.adds m before h event (subst (λ (z : ℤ). IsOwnEvent c.args.frame.now m before c.args.self.now c.args.note.now h c.args.cell z
    event) (sym same) is)
    (none_runs c.args.frame.now m before c.args.self.now c.args.note.now h c.args.cell c.args.value event is c.if-not-self.true)
    (store_assumed c.args.frame.now.program.now c.args.frame.now.plan.now event c.args.cell c.args.value store)

pub returns-in-Goes-clause-adds : goal.returns-in-Goes-clause-adds
returns-in-Goes-clause-adds c = λ m before h event is store.
    let same : to_z w64 (of_z w64 c.args.value) ≡ c.args.value = search rules in
    store_counted c.args.frame.now m before c.args.self.now c.args.note.now h c.args.cell c.args.value event is c.if-not-self.false store c.count.new.self
    c.log_store.new.self c.in-Goes.ensures.counts c.log_store.result
    (subst (λ (z : ℤ). LogsStore c.args.frame.now c.args.cell z c.count.new.self c.log_store.new.self c.log_store.result) same c.log_store.ensures)
