use Rattle.std.proofs.Common.{◌≡◌, subst, ℤ, w64, to_z, of_z, rules}
use Rattle.dp_lean_turn.specs.Adding.{IsEventPut}
use Rattle.dp_lean_turn.proofs.Growing.{same_stays}
use Rattle.dp_lean_turn.proofs.Makes.{tells_event}
use Rattle.dp_lean_turn.proofs.Answering.{not_told}
use Rattle.dp_lean_turn.proofs.Teller.tell.Goals as goal

pub returns-in-Ok-clause-adds : goal.returns-in-Ok-clause-adds
returns-in-Ok-clause-adds c = λ m before h event is none assumed.
    let same : to_z w64 (of_z w64 c.args.value) ≡ c.args.value = search rules in
    tells_event c.args.frame.now m before c.args.self.now c.args.note.now h c.args.cell c.args.value event is c.load_words.result c.load_words.ensures none
    c.if-self.false assumed
    c.in-Goes.ensures.counts.0 c.count.new.self c.put.new.self c.in-Goes.ensures.counts.1
    (subst (λ (z : ℤ). IsEventPut c.args.note.now c.args.cell z c.count.new.self c.put.new.self) same c.in-Ok.ensures.ok)

pub returns-in_default : goal.returns-in_default
returns-in_default c = record {
  adds = λ m before h event is none assumed. not_told c.args.frame.now m before c.args.self.now c.args.note.now h c.args.cell c.args.value event is
      c.load_words.result c.load_words.ensures none c.if-self.false
      c.count.new.self c.count.result c.in_default.not-Goes c.count.ensures.counts;
  grown = same_stays c.args.self.now.own c.count.new.self.own c.count.ensures.own;
}
