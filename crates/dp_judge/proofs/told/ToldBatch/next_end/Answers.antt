use Rattle.std.proofs.Common.{refl, sym, ap, ◌∙◌, List, [], ◌∷◌, ◌++◌}
use Rattle.dp_judge.specs.declared.verdict.Verdict.{Verdict}
use Rattle.dp_judge.specs.declared.verdict.Verdict.TheVariants.{Unclean, NoMemory}
use Rattle.dp_judge.specs.Decided.{end_verdicts}
use Rattle.dp_judge.specs.declared.told.ToldEnd.{ToldEnd}
use Rattle.dp_judge.proofs.Giving.{none_clean}
use Rattle.dp_judge.proofs.told.ToldBatch.next_end.Goals as goal

pub returns-in-Over : goal.returns-in-Over
returns-in-Over c =
    let old = c.args.self.now in (
      ap (λ (vs : List Verdict). vs ++ end_verdicts old.end) (none_clean old c.requires) ∙ ap (λ (t : ToldEnd). end_verdicts t) c.in-Over.is,
      ap (λ (vs : List Verdict). vs ++ []) (none_clean old c.requires),
      refl,
    )

pub returns-in-Unclean : goal.returns-in-Unclean
returns-in-Unclean c =
    let old = c.args.self.now in
    ap (λ (vs : List Verdict). vs ++ end_verdicts old.end) (none_clean old c.requires) ∙ ap (λ (t : ToldEnd). end_verdicts t) c.in-Unclean.is
    ∙ ap (λ (vs : List Verdict). Unclean ∷ vs ++ []) (sym (none_clean old c.requires))

pub returns-in-NoMemory : goal.returns-in-NoMemory
returns-in-NoMemory c =
    let old = c.args.self.now in
    ap (λ (vs : List Verdict). vs ++ end_verdicts old.end) (none_clean old c.requires) ∙ ap (λ (t : ToldEnd). end_verdicts t) c.in-NoMemory.is
    ∙ ap (λ (vs : List Verdict). NoMemory ∷ vs ++ []) (sym (none_clean old c.requires))
