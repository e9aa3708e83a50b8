use Rattle.std.proofs.Common.{sym, ◌∙◌, arith}
use Rattle.dp_lex.specs.Scan.{closing}
use Rattle.dp_lex.proofs.Skipping.{shifted_none, closing_goes, closing_stops, closing_ends}
use Rattle.dp_lex.proofs.front.closing.Goals as goal

pub loop-at-init : goal.loop-at-init
loop-at-init c = shifted_none (closing c.args.z.now)

pub returns-then-closes-clause-value : goal.returns-then-closes-clause-value
returns-then-closes-clause-value c =
    let stops = closing_stops c.args.z.now c.loop-at.at (omega arith) (cc) in
    sym stops ∙ c.loop-at.invariant

pub loop-at-preserved : goal.loop-at-preserved
loop-at-preserved c =
    let goes = closing_goes c.args.z.now c.loop-at.at (omega arith) (cc) in
    sym goes ∙ c.loop-at.invariant

pub returns-clause-value : goal.returns-clause-value
returns-clause-value c = sym (closing_ends c.args.z.now c.loop-at.at (omega arith)) ∙ c.loop-at.invariant
