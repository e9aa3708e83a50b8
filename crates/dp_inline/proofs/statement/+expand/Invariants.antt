use Rattle.std.proofs.Common.{◌≡◌, ◌+◌, drop}
use Rattle.dp_inline.specs.steps.Written.{written, after_list}
use Rattle.dp_inline.proofs.Work.{work_one, work_list, work_within}
use Rattle.dp_inline.proofs.statement.+expand.Given as goal

abbrev pub decreases-call : goal.decreases-call
decreases-call l = 1 + work_within l.p.now l.depth l.function

abbrev pub decreases-block : goal.decreases-block
decreases-block l = 1 + work_list (work_within l.p.now l.depth) l.all.now

abbrev pub decreases-statement : goal.decreases-statement
decreases-statement l = work_one (work_within l.p.now l.depth) l.s.now

abbrev pub decreases-statements : goal.decreases-statements
decreases-statements l = work_list (work_within l.p.now l.depth) l.all.now

abbrev pub invariant-statements-loop-s : goal.invariant-statements-loop-s
invariant-statements-loop-s l =
    after_list l.p l.depth l.around (written l.fn.out) l.all ≡ after_list l.p l.depth l.around (written l.out) (drop l.s-index l.all)

abbrev pub decreases-branch : goal.decreases-branch
decreases-branch l = 2 + (work_list (work_within l.p.now l.depth) l.then_part.now + work_list (work_within l.p.now l.depth) l.else_part.now)

abbrev pub decreases-repeat : goal.decreases-repeat
decreases-repeat l = 2 + work_list (work_within l.p.now l.depth) l.body.now

abbrev pub decreases-marked : goal.decreases-marked
decreases-marked l = 2 + work_list (work_within l.p.now l.depth) l.body.now
