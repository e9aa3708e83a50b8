use Rattle.std.proofs.Common.{◌∙◌, sym}
use Rattle.dp_lean_code.proofs.TablesMade.{tables_made}
use Rattle.dp_lean_code.proofs.tables.LeanTables.of.Goals as goal

pub returns : goal.returns
returns c =
    let p = c.args.p.now in let plan = c.args.plan.now in
    tables_made p plan c.requires.inlined c.requires.fits c.requires.tabled c.as_slice.result.now c.as_slice-2.result.now _ (c.as_slice.ensures
    ∙ c.in_ok-accesses.ensures) c.in_ok-done.ensures
    (c.as_slice-2.ensures ∙ c.in_ok-homes.ensures) c.in_ok-blocks.ensures (sym c.as_slice-2.ensures)
