use Rattle.std.proofs.Common.{sym, subst, ◌∙◌, List}
use Rattle.dp_lean_code.specs.declared.LeanOp.{LeanOp}
use Rattle.dp_lean_judge.specs.declared.ready.Entry.{Entry}
use Rattle.dp_lean_judge.specs.Ready.{AllKept, JudgeIsReady}
use Rattle.dp_lean_region.proofs.EntriesRead.{all_read}
use Rattle.dp_lean_region.proofs.judging.judge_of.Goals as goal

pub returns : goal.returns
returns c =
    let p = c.args.program.now in let plan = c.args.plan.now in let f = c.requires.fitting in
    let made = subst (λ (ops : List LeanOp). JudgeIsReady p plan ops c.in_ok-ready.ready) (c.as_slice-ops.ensures ∙ c.in_ok-code.ensures)
    c.in_ok-ready.ensures in record {
      ready = made;
      kept = λ readers same. subst (λ (entries : List Entry). AllKept readers entries) (sym made.entries)
          (all_read p plan f.inlined f.fits f.stages readers same);
      cap = c.in_ok-cap.ensures;
    }
