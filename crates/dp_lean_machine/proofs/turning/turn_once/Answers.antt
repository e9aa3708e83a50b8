use Rattle.std.proofs.Common.{Bool, refl, subst}
use Rattle.dp_lean_turn.specs.Ending.{TurnIs}
use Rattle.dp_lean_turn.specs.declared.Turned.TheVariants as turned
use Rattle.dp_lean_machine.proofs.Steps.{closes, goes, voids}
use Rattle.dp_lean_machine.proofs.AllRan.{own_fill}
use Rattle.dp_lean_machine.proofs.turning.turn_once.Goals as goal

pub returns-then-closing-clause-steps : goal.returns-then-closing-clause-steps
returns-then-closing-clause-steps g c e s b j came is runs low at =
    closes e s b came is c.args.stage.now runs (own_fill e s b came is) g.M.Memory.cells j low c.args.turn.now c.args.steps.now at c.requires.locals
    c.turn.new.self
    (record {
      memory = c.settle.new.memory;
      readers = c.turn.new.self.readers;
      teller = c.turn.new.self.teller;
      place = c.turn.new.self.place;
      closing = c.turn.new.self.closing;
    })
    c.settle.new.steps c.in-Done.count
    (record { readers = refl; own = refl; memory = c.in-Ok.ensures.memory; more = c.in-Ok.ensures.steps })
    (subst (λ (q : Bool). TurnIs g.M.Memory.cells c.args.stage.now.frame c.args.turn.now c.turn.new.self (turned.Done q c.in-Done.count)) c.if-closing.true
    c.in-Done.ensures.is)

pub returns-else-closing-clause-steps : goal.returns-else-closing-clause-steps
returns-else-closing-clause-steps g c e s b j came is runs low at =
    goes e s b came is c.args.stage.now runs (own_fill e s b came is) g.M.Memory.cells j low c.args.turn.now c.args.steps.now at c.requires.locals
    c.turn.new.self
    (record {
      memory = c.settle.new.memory;
      readers = c.turn.new.self.readers;
      teller = c.turn.new.self.teller;
      place = c.turn.new.self.place;
      closing = c.turn.new.self.closing;
    })
    c.settle.new.steps c.in-Done.count
    (record { readers = refl; own = refl; memory = c.in-Ok.ensures.memory; more = c.in-Ok.ensures.steps })
    (subst (λ (q : Bool). TurnIs g.M.Memory.cells c.args.stage.now.frame c.args.turn.now c.turn.new.self (turned.Done q c.in-Done.count)) c.if-closing.false
    c.in-Done.ensures.is)

pub returns-in-Void-clause-steps : goal.returns-in-Void-clause-steps
returns-in-Void-clause-steps g c e s b j came is runs low at =
    voids e s b came is c.args.stage.now runs (own_fill e s b came is) g.M.Memory.cells j low c.args.turn.now c.args.steps.now at
    c.turn.new.self c.in-Void.ensures.keeps c.in-Void.ensures.is
