-- What an iteration's judging comes to, by the end of the judge's code.
use Rattle.dp_semantics.proofs.Names.{◌≡◌, refl, sym, ap, ◌∙◌, Bool, true, false, not, ◌++◌, List, ℤ, filter_map, Program, Plan}
use Rattle.dp_base.specs.declared.Cause.{Cause}
use Rattle.dp_tree.specs.Trace.{printed_by}
use Rattle.dp_semantics.specs.Told.{store_made}
use Rattle.dp_semantics.specs.EpochKey.{EpochKey}
use Rattle.dp_semantics.specs.EpochVerdicts.{Carried, Verdict, Commit, Again, goes_on}
use Rattle.dp_net.specs.NetItems.{Marks}
use Rattle.dp_net.specs.NetVerdicts.{SaysTheSame}
use Rattle.dp_lean.specs.LeanJudge.{LeanJudging, LeanJudgement}
use Rattle.dp_lean.specs.LeanJudge as lean
use Rattle.dp_columns.specs.Left.{Left}
use Rattle.dp_lean_judge.specs.JudgeState.{JudgeEnd}
use Rattle.dp_lean_judge.specs.JudgeState as end
use Rattle.dp_lean_judge.specs.Laws.{SaysSame}
use Rattle.dp_lean_judge.specs.Shown.{ShowsQueues}
use Rattle.dp_lean_judge.specs.Judged.{JudgingEnds, SameWhereChecked}
use Rattle.dp_lean_judge.specs.declared.collected.Collected.{Collected}
use Rattle.dp_lean_judge.specs.declared.judge.LeanJudged.TheVariants as judged
use Rattle.dp_lean_epoch.specs.JudgeSteps.{again_at, lean_verdict_by}

module _ (p : Program) (plan : Plan) (cells : List ℤ) (readers : List Left) (start collected : Collected) where
  -- the judging holds, and what is left and collected is the judging's
  pub record Held (closing : Bool) (judgement : LeanJudgement) : Type 0 where
    pub judging : LeanJudging
    pub is : judgement ≡ lean.Holds judging
    pub closes : judging.turn.turn.closing ≡ closing
    pub memory : SameWhereChecked p plan judging.turn.turn.cells cells
    pub shows : ShowsQueues p plan readers judging.turn.queues judging.loads
    pub stores : collected.stores ≡ start.stores ++ filter_map store_made judging.effects
    pub prints : collected.prints ≡ start.prints ++ filter_map printed_by judging.effects

  pub held : (closing : Bool) (e : JudgeEnd) (judgement : LeanJudgement) → SaysSame e judgement →
      JudgingEnds p plan start e (judged.Holds closing) cells readers collected → Held closing judgement
  held closing (end.Holds c) (lean.Holds f) same is = record {
    judging = f;
    is = refl;
    closes = sym same.closing ∙ is.0;
    memory = λ y checked. sym same.cells ∙ is.1.memory y checked;
    shows = record {
      told = λ y low. ap (λ queues. queues y) (sym same.queues) ∙ is.1.shows.told y low;
      loaded = λ y low. ap (λ loads. loads y) (sym same.loads) ∙ is.1.shows.loaded y low;
    };
    stores = is.1.holds.stores ∙ ap (λ xs. start.stores ++ xs) same.stores;
    prints = is.1.holds.prints ∙ ap (λ zs. start.prints ++ zs) same.prints;
  }
  held closing (end.Holds c) lean.Differs same is = absurd same
  held closing end.Differs judgement same is = absurd is

  pub differs : (e : JudgeEnd) (judgement : LeanJudgement) → SaysSame e judgement →
      JudgingEnds p plan start e judged.Differs cells readers collected → judgement ≡ lean.Differs
  differs (end.Holds c) judgement same is = absurd is
  differs end.Differs (lean.Holds f) same is = absurd same
  differs end.Differs lean.Differs same is = refl

-- where the definition's verdict says the same as one that the iteration is executed again, it is such a one
pub again_said : (key : EpochKey) (v : Verdict) (cause : Cause) → SaysTheSame key v (Again cause) → (c : Cause) × (Again c ≡ v)
again_said key (Commit w) cause same = absurd same
again_said key (Again other) cause same = (other, refl)

-- .. and where it says the same as one that is committed and doesn't close, it goes on
pub goes_said : (key : EpochKey) (v : Verdict) (w : Carried) → SaysTheSame key v (Commit w) → w.closing ≡ false → goes_on v ≡ true
goes_said key (Commit v) w same still = ap not (sym same.2 ∙ still)
goes_said key (Again cause) w same still = absurd same

-- nothing is committed where the judging differs
pub differs_again : (m : Marks) (key : EpochKey) (n : _) (enough : Bool) → lean_verdict_by m key n enough lean.Differs ≡ again_at m key n
differs_again m key n true = refl
differs_again m key n false = refl
