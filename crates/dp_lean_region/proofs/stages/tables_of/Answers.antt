use Rattle.std.proofs.Common.{◌≡◌, sym, ap, subst, ◌∙◌, arith, suc, ◌-◌, ◌<◌, ◌≤◌, ℕ, List, [], get_or, length}
use Rattle.dp_plan.specs.Access.{first_site}
use Rattle.dp_columns.specs.declared.ColumnKind.{ColumnKind}
use Rattle.dp_lean_code.specs.declared.LeanOp.{LeanOp}
use Rattle.dp_lean_code.specs.Known.{paying_marks}
use Rattle.dp_lean_code.specs.LeanCode.{lean_code}
use Rattle.dp_lean_turn.specs.Made.{AreTurnTables}
use Rattle.dp_lean_region.proofs.Holding.{kinds_length}
use Rattle.dp_lean_region.proofs.SiteKinds.{placed, checked_there}
use Rattle.dp_lean_region.proofs.stages.tables_of.Goals as goal

pub kinds_at-columns-requires : goal.kinds_at-columns-requires
kinds_at-columns-requires c =
    let count = ap length c.requires.kinds ∙ kinds_length c.args.program.now c.args.plan.now in record { within = omega (arith, count, c.requires.high) }

pub new-requires-clause-places : goal.new-requires-clause-places
new-requires-clause-places c = λ y checked.
    let p = c.args.program.now in let plan = c.args.plan.now in let f = c.requires.fitting in let s = c.args.number - 1 in
    let own_is : c.kinds_at-columns.result.own.now ≡ get_or _ s [] = c.kinds_at-columns.ensures.own
    ∙ ap (λ (all : List (List ColumnKind)). get_or all s []) c.requires.kinds in
    let upto : suc s ≤ length plan.stages = omega (arith, c.requires.low, c.requires.high) in
    subst (λ (own : List ColumnKind). y - first_site p plan < length own) (sym own_is)
    (placed p plan f.inlined f.fits s y upto (checked_there p plan y checked))

pub returns : goal.returns
returns c =
    let p = c.args.program.now in let plan = c.args.plan.now in
    let number : c.args.number ≡ suc (c.args.number - 1) = omega (arith, c.requires.low) in record {
      code = c.in_ok-code.ensures ∙ ap (λ (n : ℕ). lean_code p plan n (paying_marks p plan)) number;
      of = c.kinds_at-columns.result;
      tables = subst (λ (ops : List LeanOp). AreTurnTables p plan c.kinds_at-columns.result ops c.in_ok-turn.turn) c.as_slice-ops.ensures c.in_ok-turn.ensures;
      own = c.kinds_at-columns.ensures.own;
      read = c.kinds_at-columns.ensures.read;
    }
