-- The judge goes from iteration to iteration of a batch.
use Rattle.dp_semantics.proofs.Names.{◌≡◌, sym, ap, ◌∙◌, subst, arith, ℕ, suc, ◌+◌, ◌-◌, ◌≤◌, Bool, true, false, not, nat_le, le-leb, List, ◌++◌, ℤ, length}
use Rattle.dp_semantics.proofs.Names.{flat_map, Stmt, Load, fits_plan}
use Rattle.dp_tree.specs.Inlined.{IsInlined}
use Rattle.dp_tree.specs.Numbering.{numbers_from}
use Rattle.dp_semantics.specs.EpochKey.{EpochKey}
use Rattle.dp_semantics.specs.EpochVerdicts.{Verdict, Commit, Again, goes_on, verdict_at, state_at}
use Rattle.dp_net.specs.NetItems.{Marks}
use Rattle.dp_net.specs.NetVerdicts.{GoesOnTo, SaysTheSame}
use Rattle.dp_net.specs.Hidden.{marks_of}
use Rattle.dp_net.proofs.BatchVerdicts.{goes_further}
use Rattle.dp_lean.specs.Queues.{Told}
use Rattle.dp_lean.specs.LeanJudge.{LeanJudging, LeanJudgement, Holds}
use Rattle.dp_lean_epoch.specs.Own.{steps_at, told_upto, loads_upto}
use Rattle.dp_lean_epoch.specs.Coming.{LeanJudges}
use Rattle.dp_lean_epoch.specs.Steps.{without_locals}
use Rattle.dp_lean_epoch.specs.JudgeSteps.{lean_carried, lean_verdict_by, JudgedAsDefined}
use Rattle.dp_lean_epoch.specs.Midway.{JudgeMidway, JudgesFurther, JudgeMidwaySteps}
use Rattle.dp_lean_epoch.proofs.Queueing.{come_one_by_one}
use Rattle.dp_lean_epoch.proofs.JudgeStepping.{judge_steps}

module _ (key : EpochKey) (inlined : IsInlined key.program) (fits : fits_plan key.program key.plan ≡ true) (pays : List Stmt → Bool) where
  open key use {program, plan}

  abbrev m : Marks
  m = marks_of program plan pays

  abbrev all : ℕ
  all = length plan.stages

  module _ (k i j : ℕ) (queues more : ℕ → List Told) (loads more_loads : ℕ → List (List Load)) (memory : List ℤ) (steps : ℕ)
      (st : JudgeMidway m key k i (suc j) queues more loads more_loads memory steps) where
    abbrev behind : ℕ → List Told
    behind y = flat_map (told_upto m key all y) (numbers_from ((k + i) + 1) j) ++ more y

    abbrev loads_behind : ℕ → List (List Load)
    loads_behind y = flat_map (loads_upto m key all y) (numbers_from ((k + i) + 1) j) ++ more_loads y

    module _ (end : LeanJudgement) (judged : JudgedAsDefined m key (k + i) behind loads_behind end) where
      fuel_is : key.fuel - steps ≡ key.fuel - (state_at key (k + i)).steps
      fuel_is = ap (λ (n : ℕ). key.fuel - n) st.counted

      -- the verdict goes on where it is committed and doesn't close
      goes : (f : LeanJudging) → end ≡ Holds f → steps_at m key (k + i) ≤ key.fuel - steps → f.turn.turn.closing ≡ false →
          goes_on (verdict_at key (k + i)) ≡ true
      goes f e low still = by (verdict_at key (k + i)) (subst (λ (w : Verdict). SaysTheSame key (verdict_at key (k + i)) w) is judged.verdict)
        where
          is : lean_verdict_by m key (k + i) (nat_le (steps_at m key (k + i)) (key.fuel - (state_at key (k + i)).steps)) end
              ≡ Commit (lean_carried m key (k + i) f)
          is = ap (λ (n : ℕ). lean_verdict_by m key (k + i) (nat_le (steps_at m key (k + i)) n) end) (sym fuel_is)
              ∙ ap (λ (b : Bool). lean_verdict_by m key (k + i) b end) (le-leb (steps_at m key (k + i)) (key.fuel - steps) low)
              ∙ ap (lean_verdict_by m key (k + i) true) e

          by : (v : Verdict) → SaysTheSame key v (Commit (lean_carried m key (k + i) f)) → goes_on v ≡ true
          by (Commit v) same = ap not (sym same.2 ∙ still)
          by (Again cause) same = absurd same

      one_more : suc (k + i) ≡ k + suc i
      one_more = omega arith

      same_place : (k + i) + 1 ≡ k + suc i
      same_place = omega arith

      further : JudgesFurther m key k i j more more_loads steps end
      further = record {
        verdict = subst (λ (n : ℕ). SaysTheSame key (verdict_at key (k + i)) (lean_verdict_by m key (k + i) (nat_le (steps_at m key (k + i)) n) end))
            (sym fuel_is) judged.verdict;
        onward = λ f e low still.
            let next = judged.next f e (subst (λ (n : ℕ). steps_at m key (k + i) ≤ n) fuel_is low) in
            record {
              goes = subst (GoesOnTo key) same_place (goes_further key (k + i) st.goes (goes f e low still));
              coming = λ y read. next.left y read ∙ ap (λ (n : ℕ). flat_map (told_upto m key all y) (numbers_from n j) ++ more y) same_place;
              loads_coming = λ y read checked. next.loads_left y read checked
                  ∙ ap (λ (n : ℕ). flat_map (loads_upto m key all y) (numbers_from n j) ++ more_loads y) same_place;
              stands = subst (λ (n : ℕ). LeanJudges key n (without_locals m key f.turn.turn.cells)) one_more next.cells;
              counted = ap (λ (n : ℕ). n + steps_at m key (k + i)) st.counted ∙ sym next.steps ∙ ap (λ (n : ℕ). (state_at key n).steps) one_more;
            };
      }

  pub judge_midway_steps : JudgeMidwaySteps m key
  judge_midway_steps k i j alive queues more loads more_loads memory steps st =
      let come = come_one_by_one m key all (k + i) j in
      let r = judge_steps key inlined fits pays (k + i) st.goes alive memory st.stands queues (behind k i j queues more loads more_loads memory steps st)
      (come.told queues more st.coming) loads (loads_behind k i j queues more loads more_loads memory steps st) (come.loads loads more_loads st.loads_coming) in
      (r.0, r.1, further k i j queues more loads more_loads memory steps st r.0 r.2)
