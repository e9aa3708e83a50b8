-- What the try-commit unit makes of a batch that came.
use Rattle.std.proofs.Common.{arith, ◌≡◌, ℕ, suc, ◌+◌, ◌-◌, false, length, Option, Some, None, sym, ap, ◌∙◌, subst}
use Rattle.dp_judge.specs.Told.{goes_on_behind}
use Rattle.dp_relay.specs.UnitsKey.{UnitsKey}
use Rattle.dp_relay.specs.Places.{At, place_behind}
use Rattle.dp_lean_region.specs.LeanEpoch.{LeanEpoch}
use Rattle.dp_lean_region.specs.Line.{IsLineOf}
use Rattle.dp_lean_machine.specs.declared.batch.LeanBatch.{LeanBatch}
use Rattle.dp_lean_machine.specs.Sent.{IsSent}
use Rattle.dp_judge.specs.declared.court.LeanCourt.{LeanCourt}
use Rattle.dp_judge.specs.Decided.{left_to_give}
use Rattle.dp_judge.specs.Judging.{Judges, GivesVerdicts}
use Rattle.dp_pipeline.specs.declared.carried.Carried.{Carried}
use Rattle.dp_pipeline.specs.declared.judge.Judge.{Judge}
use Rattle.dp_pipeline.specs.declared.judged.Judged.{Judged}
use Rattle.dp_pipeline.specs.Carried.{lean_of, IsCarried, IsJudged, IsTold, is_going_on, is_over}
use Rattle.dp_pipeline.specs.Sizes.{batch_begins, size}
use Rattle.dp_pipeline.specs.Staging.{JudgesFor, JudgesAt}
use Rattle.dp_pipeline.proofs.Froms.{each_of, all_at}
use Rattle.dp_pipeline.proofs.Growth.{ends_within}
use Rattle.dp_pipeline.proofs.Staging.{not_last, going_is}

judges_here : (t : LeanCourt) (key : UnitsKey) (place : Option ℕ) (b : ℕ) → JudgesFor t key place → At place b → Judges t (lean_of key) b
judges_here t key (Some c) b judges at = subst (Judges t (lean_of key)) (sym at) judges
judges_here t key None b judges at = absurd judges

judges_behind : (t new : LeanCourt) (key : UnitsKey) (place : Option ℕ) (b : ℕ) → JudgesFor t key place → Judges new (lean_of key) (suc b) →
    JudgesFor new key (place_behind place b)
judges_behind t new key (Some c) b judges next = let one : suc b ≡ b + 1 = omega arith in subst (Judges new (lean_of key)) one next
judges_behind t new key None b judges next = absurd judges

module _ (x new : Judge) (came : Carried) (made : Judged) (key : UnitsKey) (s : ℕ) (place : Option ℕ) (b : ℕ)
    (stands : JudgesAt x key s place) (at : At place b)
    (is : IsCarried key (s - 1) b came) (same : made.batch ≡ came.batch) where
  -- the court decides of it, wherever it stands
  abbrev pub Decides : Type 0
  Decides = (e : LeanEpoch) (c : ℕ) → Judges x.court e c → IsSent e (length e.key.plan.stages) c came.batch →
      GivesVerdicts new.court e c came.batch.status made.told

  gives : Decides → GivesVerdicts new.court (lean_of key) b came.batch.status made.told
  gives step = step (lean_of key) b (judges_here x.court key place b stands.stands at)
      (subst (λ (t : ℕ). IsSent (lean_of key) t b came.batch) stands.before is.sent)

  all_there : Decides → is_over made ≡ false → (length (left_to_give made.told) ≡ size key b) × Judges new.court (lean_of key) (suc b)
  all_there step goes =
      let both = not_last _ _ goes in
      (gives step).next (going_is came.batch.status (ap (λ (batch : LeanBatch). is_going_on batch.status) (sym same) ∙ both.0))
      (all_at goes_on_behind (left_to_give made.told) both.1)

  pub batch_told : Decides → IsJudged key b made
  batch_told step =
      let g = gives step in let few = g.told.few in
      let most = ends_within key (s - 1) b came is in let fuel = stands.few in record {
        line = subst (λ (batch : LeanBatch). IsLineOf (lean_of key) batch.line) (sym same) is.sent.line;
        told = each_of (IsTold key) (batch_begins key b) (left_to_give made.told) (λ i v there. (g.told.each i v there).1);
        whole = λ goes. (all_there step goes).0;
        few = omega (arith, few, most, fuel);
      }

  pub judges_next : Decides → is_over made ≡ false → JudgesAt new key s (place_behind place b)
  judges_next step goes = record {
    before = stands.before;
    stands = judges_behind x.court new.court key place b stands.stands (all_there step goes).1;
    few = stands.few;
  }
