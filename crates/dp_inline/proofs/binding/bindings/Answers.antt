use Rattle.std.proofs.Common.{◌<◌, length, sym, ◌∙◌, arith}
use Rattle.dp_inline.specs.steps.Written.{written}
use Rattle.dp_inline.proofs.EndLemmas.{bound_more, bound_end}
use Rattle.dp_inline.proofs.binding.bindings.Goals as goal

pub loop-i-preserved : goal.loop-i-preserved
loop-i-preserved c =
    let below : c.loop-i.i < length c.args.params.now = omega arith in
    let less : c.loop-i.i < length c.args.args.now = omega arith in
    c.loop-i.invariant ∙ bound_more c.args.p.now c.args.region c.args.line c.args.caller.now (written c.loop-i.out) (written c.bind.new.out) c.args.params.now
    c.args.args.now c.loop-i.i
    (record { 0 = 0 }) c.index-args-i.result below less c.index-args-i.is c.in_ok-bind.ensures

pub returns : goal.returns
returns c =
    sym (c.loop-i.invariant ∙ bound_end c.args.p.now c.args.region c.args.line c.args.caller.now (written c.loop-i.out) c.args.params.now c.args.args.now
    c.loop-i.i (omega arith))
