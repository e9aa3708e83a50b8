-- The lean judging of an iteration decides the definition's verdict.
use Rattle.dp_semantics.proofs.Names.{◌≡◌, refl, sym, ap, ◌∙◌, subst, arith, leb-true, le-leb, ℕ, suc, ◌+◌, ◌<◌, ◌≤◌, Bool, true, false, nat_le, List, [], ◌++◌}
use Rattle.dp_semantics.proofs.Names.{ℤ, length, Option, Some, None, Stmt, Load, Clean, Unclean, Judgement, applied, last, fits_plan}
use Rattle.dp_tree.specs.Inlined.{IsInlined}
use Rattle.dp_semantics.specs.EpochKey.{EpochKey}
use Rattle.dp_semantics.specs.EpochVerdicts.{JudgeState, Carried, Verdict, Commit, Again, after_judgement, verdict_by, judgement_of, verdict_at, state_at}
use Rattle.dp_theorem.proofs.Told.{stores_are_all}
use Rattle.dp_net.specs.NetItems.{Marks, Item}
use Rattle.dp_net.specs.NetJudge.{NetAgreed, net_judge, net_judge_status}
use Rattle.dp_net.specs.NetVerdicts.{GoesOnTo, NetAgrees, SaysTheSame, left_by, net_carried, net_judgement_in, net_judgement_of, net_verdict_by}
use Rattle.dp_net.specs.Hidden.{marks_of}
use Rattle.dp_net.proofs.Assembled.{net_right}
use Rattle.dp_lean.specs.Queues.{Told, loads_told, all_steps}
use Rattle.dp_lean.specs.LeanJudge.{LeanJudging, LeanJudgement, Holds, Differs}
use Rattle.dp_lean.specs.Laws.{AgreesOn, LoadsQueued, JudgedAlike, JudgesAlike, spent, differs, alike}
use Rattle.dp_lean.proofs.LeanJudges.{lean_judges}
use Rattle.dp_lean.proofs.Coming.{packets_come}
use Rattle.dp_lean.proofs.GoingOn.{memories_go_on}
use Rattle.dp_lean_epoch.specs.Own.{at_stage, Arrives, steps_at}
use Rattle.dp_lean_epoch.specs.Steps.{without_locals}
use Rattle.dp_lean_epoch.specs.JudgeSteps.{fuel_before, again_at, lean_carried, lean_verdict_by, CommitsAs, JudgedAsDefined, JudgeSteps, VoidsRecover}
use Rattle.dp_lean_epoch.proofs.Arriving.{upto_is}
use Rattle.dp_lean_epoch.proofs.StepCounts.{steps_are}
use Rattle.dp_lean_epoch.proofs.Stepping.{queued}

module _ (key : EpochKey) (inlined : IsInlined key.program) (fits : fits_plan key.program key.plan ≡ true) (pays : List Stmt → Bool) where
  open key use {program, plan}

  abbrev m : Marks
  m = marks_of program plan pays

  -- the stages up to the last one
  abbrev all : ℕ
  all = length plan.stages

  agrees : (n : ℕ) → GoesOnTo key n → NetAgrees m key n
  agrees n goes = net_right program plan inlined fits key refl refl pays n goes

  judgement_is : (n : ℕ) → GoesOnTo key n →
      net_judgement_of m key n ≡ net_judge program plan m (fuel_before m key n) (state_at key n).cells (at_stage m key all n).packet
  judgement_is n goes = let a = agrees n goes in ap (λ (s : JudgeState). net_judgement_in m key n s) a.state

  verdict_is : (n : ℕ) → GoesOnTo key n → (o : Option NetAgreed) → net_judgement_of m key n ≡ o → SaysTheSame key (verdict_at key n) (net_verdict_by m key n o)
  verdict_is n goes o is = let a = agrees n goes in subst (λ (v : Verdict). SaysTheSame key (verdict_at key n) v) (ap (net_verdict_by m key n) is) a.verdict

  pub voids_recover : VoidsRecover m key
  voids_recover n goes void = by (verdict_at key n) (verdict_is n goes None (judgement_is n goes ∙ ap (net_judge_status program plan _) void))
    where
      by : (v : Verdict) → SaysTheSame key v (again_at m key n) → v ≡ again_at m key n
      by (Commit w) same = absurd same
      by (Again cause) same = ap Again (sym same)

  -- what is committed says as much by another way to carry it
  says_too : (v : Verdict) (a b : Carried) → SaysTheSame key v (Commit a) → b.prints ≡ a.prints → b.steps ≡ a.steps → b.closing ≡ a.closing →
      ((cells : List ℤ) → left_by key b cells ≡ left_by key a cells) → SaysTheSame key v (Commit b)
  says_too (Commit v) a b same prints steps closing stores =
      (prints ∙ same.0, steps ∙ same.1, closing ∙ same.2, λ cells. stores cells ∙ same.3 cells)
  says_too (Again cause) a b same prints steps closing stores = absurd same

  module _ (n : ℕ) (goes : GoesOnTo key n) (alive : Arrives m key all n) (more : ℕ → List Told) (more_loads : ℕ → List (List Load)) where
    abbrev lists : List (List Item)
    lists = (at_stage m key all n).packet.lists

    abbrev cells : List ℤ
    cells = (state_at key n).cells

    -- where the definition stands behind what is committed
    state_next : (a : NetAgreed) → SaysTheSame key (verdict_at key n) (Commit (net_carried m key a)) →
        ((state_at key (suc n)).cells ≡ without_locals m key (applied a.effects cells)) × ((state_at key (suc n)).steps ≡ (state_at key n).steps + a.steps)
    state_next a same = by (judgement_of key n) refl same
      where
        by : (j : Judgement) → judgement_of key n ≡ j → SaysTheSame key (verdict_by key n j) (Commit (net_carried m key a)) →
            ((state_at key (suc n)).cells ≡ without_locals m key (applied a.effects cells)) × ((state_at key (suc n)).steps ≡ (state_at key n).steps + a.steps)
        by Unclean is same = absurd same
        by (Clean b) is same = (
          ap (λ (j : Judgement). (after_judgement key (state_at key n) j).cells) is ∙ ap (without_locals m key) (stores_are_all b.effects cells)
              ∙ sym (same.3 cells) ∙ sym (ap (without_locals m key) (stores_are_all a.effects cells)),
          ap (λ (j : Judgement). (after_judgement key (state_at key n) j).steps) is ∙ ap (λ (k : ℕ). (state_at key n).steps + k) (sym same.1),
        )

    commits : (a : NetAgreed) (f : LeanJudging) → SaysTheSame key (verdict_at key n) (Commit (net_carried m key a)) →
        JudgedAlike program plan m lists more more_loads cells a f → CommitsAs m key n more more_loads f
    commits a f same judged =
        let next = state_next a same in
        record {
          cells = subst (λ (cs : List ℤ). AgreesOn program plan (last plan) cs (without_locals m key f.turn.turn.cells)) (sym next.0)
              (memories_go_on program plan fits (last plan) (applied a.effects cells) f.turn.turn.cells judged.memory).0;
          steps = next.1 ∙ ap (λ (k : ℕ). (state_at key n).steps + k) (judged.steps ∙ steps_are m key n alive);
          left = judged.left;
          loads_left = judged.loads_left;
        }

    enough : all_steps lists ≤ fuel_before m key n → nat_le (steps_at m key n) (fuel_before m key n) ≡ true
    enough low = le-leb (steps_at m key n) (fuel_before m key n) (subst (λ (k : ℕ). k ≤ fuel_before m key n) (steps_are m key n alive) low)

    too_many : fuel_before m key n < all_steps lists → steps_at m key n ≤ fuel_before m key n → ⊥
    too_many high low = let same = steps_are m key n alive in omega (arith, high, low, same)

    decided : (o : Option NetAgreed) (end : LeanJudgement) → net_judgement_of m key n ≡ o →
        JudgesAlike program plan m (fuel_before m key n) lists more more_loads cells o end → JudgedAsDefined m key n more more_loads end
    decided o end is (spent high) = record {
      verdict = by (nat_le (steps_at m key n) (fuel_before m key n)) refl;
      next = λ f e low. absurd (too_many high low);
    }
      where
        by : (b : Bool) → nat_le (steps_at m key n) (fuel_before m key n) ≡ b → SaysTheSame key (verdict_at key n) (lean_verdict_by m key n b end)
        by false e = verdict_is n goes None is
        by true e = absurd (too_many high (leb-true (steps_at m key n) (fuel_before m key n) e))
    decided o end is differs = record { verdict = by (nat_le (steps_at m key n) (fuel_before m key n)); next = λ f e low. absurd (differs_holds f e) }
      where
        differs_holds : (f : LeanJudging) → Differs ≡ Holds f → ⊥
        differs_holds f e = absurd (cc e)

        by : (b : Bool) → SaysTheSame key (verdict_at key n) (lean_verdict_by m key n b Differs)
        by false = verdict_is n goes None is
        by true = verdict_is n goes None is
    decided o end is (alike {a = a} {f = f} low judged) =
        let said = verdict_is n goes (Some a) is in
        record {
          verdict = subst (λ (b : Bool). SaysTheSame key (verdict_at key n) (lean_verdict_by m key n b (Holds f))) (sym (enough low))
              (says_too (verdict_at key n) (net_carried m key a) (lean_carried m key n f) said judged.prints
              (sym (judged.steps ∙ steps_are m key n alive)) judged.closing judged.stores);
          next = λ g e within. subst (λ (h : LeanJudging). CommitsAs m key n more more_loads h) (same_holds g e) (commits a f said judged);
        }
      where
        same_holds : (g : LeanJudging) → Holds f ≡ Holds g → f ≡ g
        same_holds g e = cc e

  pub judge_steps : JudgeSteps m key
  judge_steps n goes alive memory stands queues more brought loads more_loads loads_brought =
      let r = lean_judges program plan inlined fits pays (fuel_before m key n) (at_stage m key all n).packet alive
      (packets_come program plan inlined fits key refl refl pays all n alive) (state_at key n).cells memory stands queues more
      (queued key inlined fits pays all n alive queues more brought) loads more_loads loads_queued in (
        r.0,
        r.1,
        decided n goes alive more more_loads (net_judge program plan m (fuel_before m key n) (state_at key n).cells (at_stage m key all n).packet) r.0
            (judgement_is n goes) r.2,
      )
    where
      loads_queued : LoadsQueued program plan m (at_stage m key all n).packet.lists loads more_loads
      loads_queued y read checked = loads_brought y read checked ∙ ap (λ (front : List (List Load)). front ++ more_loads y)
          (upto_is m key all n y alive (loads_told y []) refl)
