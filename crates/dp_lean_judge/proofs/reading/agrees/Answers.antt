use Rattle.dp_lean_judge.proofs.Taken.{loads_count}
use Rattle.dp_lean_judge.proofs.Comparing.{held, none_left}
use Rattle.dp_lean_judge.proofs.reading.agrees.Goals as goal

pub returns-in-Some-clause-compares : goal.returns-in-Some-clause-compares
returns-in-Some-clause-compares c = λ p plan site k at is shows.
    held p plan site k c.args.seat at c.if-not-seat.false c.args.cells.now is c.args.readers.now c.next_loads.new.readers shows _ c.hold.result
    c.hold.ensures c.in-Some.ensures

pub returns-in-Some-clause-count : goal.returns-in-Some-clause-count
returns-in-Some-clause-count c = loads_count c.args.readers.now c.next_loads.new.readers c.args.seat _ c.next_loads.ensures

pub returns-in-None-clause-compares : goal.returns-in-None-clause-compares
returns-in-None-clause-compares c = λ p plan site k at is shows.
    none_left p plan site k c.args.seat at c.if-not-seat.false c.args.cells.now is c.args.readers.now c.next_loads.new.readers shows c.in-None.ensures
