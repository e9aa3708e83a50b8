-- A step of the judge over columns: the verdict on an iteration, and where the judging stands behind it.
use Rattle.std.specs.Prelude.{◌≡◌, ◌≤◌, ◌+◌, ◌-◌, ℕ, suc, Bool, true, false, List, ℤ, length, filter_map, nat_le}
use Rattle.dp_tree.specs.Eval.{Load}
use Rattle.dp_tree.specs.Trace.{printed_by}
use Rattle.dp_plan.specs.Checked.{is_checked}
use Rattle.dp_semantics.specs.Cause.{cause_since}
use Rattle.dp_semantics.specs.Judge.{last}
use Rattle.dp_semantics.specs.Told.{store_made}
use Rattle.dp_semantics.specs.Reported.{reported}
use Rattle.dp_semantics.specs.EpochKey.{EpochKey, epoch_run}
use Rattle.dp_semantics.specs.EpochVerdicts.{Carried, Verdict, Commit, Again, verdict_at, state_at}
use Rattle.dp_net.specs.NetItems.{Marks}
use Rattle.dp_net.specs.NetPackets.{NetVoid}
use Rattle.dp_net.specs.NetVerdicts.{GoesOnTo, SaysTheSame}
use Rattle.dp_lean.specs.Queues.{Told}
use Rattle.dp_lean.specs.Laws.{is_read}
use Rattle.dp_lean.specs.LeanJudge.{LeanJudging, LeanJudgement, Holds, Differs, JudgesIn, lean_judging}
use Rattle.dp_lean_epoch.specs.Own.{at_stage, Arrives, steps_at}
use Rattle.dp_lean_epoch.specs.Coming.{Brought, LoadsBrought, LeanJudges}
use Rattle.dp_lean_epoch.specs.Steps.{without_locals}

module _ (m : Marks) (key : EpochKey) where
  -- the number of steps that are left of the fuel before the n-th iteration
  abbrev pub fuel_before : ℕ → ℕ
  fuel_before n = key.fuel - (state_at key n).steps

  -- the iteration is executed again; the cause is the source's
  abbrev pub again_at : ℕ → Verdict
  again_at n = Again (reported (cause_since key.program key.plan (epoch_run key) 0 n))

  -- what is carried of a judging that holds; the steps are those that the stages counted
  abbrev pub lean_carried : ℕ → LeanJudging → Carried
  lean_carried n f = record {
    stores = filter_map store_made f.effects;
    prints = filter_map printed_by f.effects;
    steps = steps_at m key n;
    closing = f.turn.turn.closing;
  }

  -- the verdict by whether the fuel is enough, and by the judging
  abbrev pub lean_verdict_by : ℕ → Bool → LeanJudgement → Verdict
  lean_verdict_by n true (Holds f) = Commit (lean_carried n f)
  lean_verdict_by n true Differs = again_at n
  lean_verdict_by n false end = again_at n

  -- the verdict on the n-th iteration
  abbrev pub lean_verdict : ℕ → LeanJudgement → Verdict
  lean_verdict n end = lean_verdict_by n (nat_le (steps_at m key n) (fuel_before n)) end

  -- Behind what is committed the judging stands at the next iteration. `more` is left of the queues.
  pub record CommitsAs (n : ℕ) (more : ℕ → List Told) (more_loads : ℕ → List (List Load)) (f : LeanJudging) : Type 0 where
    pub cells : LeanJudges key (suc n) (without_locals m key f.turn.turn.cells)
    pub steps : (state_at key (suc n)).steps ≡ (state_at key n).steps + steps_at m key n
    pub left : (y : ℕ) → is_read key.program key.plan m (last key.plan) y ≡ true → f.turn.queues y ≡ more y
    pub loads_left : (y : ℕ) → is_read key.program key.plan m (last key.plan) y ≡ true → is_checked key.program key.plan y ≡ true → f.loads y ≡ more_loads y

  -- The verdict says what the definition's says, and where it commits, all stands at the next iteration.
  pub record JudgedAsDefined (n : ℕ) (more : ℕ → List Told) (more_loads : ℕ → List (List Load)) (end : LeanJudgement) : Type 0 where
    pub verdict : SaysTheSame key (verdict_at key n) (lean_verdict n end)
    pub next : (f : LeanJudging) → end ≡ Holds f → steps_at m key n ≤ fuel_before n → CommitsAs n more more_loads f

  -- Up to the first verdict that doesn't go on: on a packet that isn't void, from a memory that stands there and with what the stages told,
  -- the lean judging comes to an end, by which the verdict is decided.
  abbrev pub JudgeSteps : Type 0
  JudgeSteps = (n : ℕ) → GoesOnTo key n → Arrives m key (length key.plan.stages) n → (memory : List ℤ) → LeanJudges key n memory →
      (queues more : ℕ → List Told) → Brought m key (length key.plan.stages) n queues more →
      (loads more_loads : ℕ → List (List Load)) → LoadsBrought m key n loads more_loads →
      (end : LeanJudgement) × JudgesIn key.program key.plan m (lean_judging key.program key.plan m memory queues loads) end
      × JudgedAsDefined n more more_loads end

  -- .. and a void packet's iteration is executed again.
  abbrev pub VoidsRecover : Type 0
  VoidsRecover = (n : ℕ) → GoesOnTo key n → (at_stage m key (length key.plan.stages) n).packet.status ≡ NetVoid → verdict_at key n ≡ again_at n
