use Rattle.dp_semantics.proofs.Names.{sym, subst}
use Rattle.dp_lean_machine.specs.Standing.{TakesNext}
use Rattle.dp_lean_machine.specs.declared.machine.Kept.{Kept}
use Rattle.dp_lean_machine.proofs.machine.LeanMachine.go.Goals as goal

pub returns-in-Cells-clause-sent : goal.returns-in-Cells-clause-sent
returns-in-Cells-clause-sent c e b ends like at sent =
    c.from_cells.ensures.sent e b ends like (subst (λ (k : Kept). TakesNext c.args.self.now.stage k e b) (sym c.in-Cells.ensures.value) at) sent

pub returns-in-Versioned-clause-sent : goal.returns-in-Versioned-clause-sent
returns-in-Versioned-clause-sent c e b ends like at sent =
    c.from_versioned.ensures.sent e b ends like (subst (λ (k : Kept). TakesNext c.args.self.now.stage k e b) (sym c.in-Versioned.ensures.value) at) sent

pub returns-in-Nothing-clause-sent : goal.returns-in-Nothing-clause-sent
returns-in-Nothing-clause-sent c e b ends like at sent =
    c.from_version.ensures.sent e b ends like (subst (λ (k : Kept). TakesNext c.args.self.now.stage k e b) (sym c.in-Nothing.ensures.value) at) sent
