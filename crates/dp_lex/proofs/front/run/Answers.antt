use Rattle.std.proofs.Common.{arith}
use Rattle.std.proofs.lemmas.List.Sums.{prefix_len-drop_no, prefix_len-drop_all}
use Rattle.dp_lex.specs.Scan.{is_in}
use Rattle.dp_lex.proofs.Runs.{run_passes}
use Rattle.dp_lex.proofs.front.run.Goals as goal

pub returns-else-is_in-clause-passes : goal.returns-else-is_in-clause-passes
returns-else-is_in-clause-passes c =
    let p = is_in c.args.class in
    let stop = prefix_len-drop_no p c.args.z.now c.loop-end.end 0 c.loop-end-test.true (cc) in
    run_passes p c.args.z.now c.loop-end.end (omega (arith, c.loop-end.invariant.0, stop))

pub returns-after-loop-end-clause-passes : goal.returns-after-loop-end-clause-passes
returns-after-loop-end-clause-passes c =
    let p = is_in c.args.class in let stop = prefix_len-drop_all p c.args.z.now c.loop-end.end c.loop-end-test.false in
    run_passes p c.args.z.now c.loop-end.end (omega (arith, c.loop-end.invariant.0, stop))
