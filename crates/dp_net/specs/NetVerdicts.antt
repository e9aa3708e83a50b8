-- The verdicts on an epoch's iterations by their packets of items, and the law that they are the definition's.
use Rattle.std.specs.Prelude.{◌≡◌, Bool, true, ℕ, zero, suc, ◌+◌, ◌-◌, ◌<◌, List, ℤ, length, map, filter_map, Option, Some, None}
use Rattle.dp_tree.specs.declared.Stmt.{Stmt}
use Rattle.dp_tree.specs.declared.Program.{Program}
use Rattle.dp_tree.specs.Step.{clear_locals}
use Rattle.dp_tree.specs.Trace.{printed_by}
use Rattle.dp_plan.specs.declared.Plan.{Plan}
use Rattle.dp_semantics.specs.Cause.{cause_since}
use Rattle.dp_semantics.specs.Verdict.{applied}
use Rattle.dp_semantics.specs.Told.{store_made, with_stores}
use Rattle.dp_semantics.specs.Reported.{reported}
use Rattle.dp_semantics.specs.EpochKey.{EpochKey, epoch_of, epoch_run}
use Rattle.dp_semantics.specs.EpochVerdicts.{JudgeState, Carried, Verdict, Commit, Again, goes_on, verdict_at, state_at}
use Rattle.dp_semantics.specs.EpochCauses.{first_kept, kept_after, kept_at}
use Rattle.dp_net.specs.NetItems.{Marks}
use Rattle.dp_net.specs.Hidden.{marks_of}
use Rattle.dp_net.specs.NetPackets.{net_passed}
use Rattle.dp_net.specs.NetJudge.{NetAgreed, net_judge}

module _ (m : Marks) (key : EpochKey) where
  -- the judgement on what the last stage sends for the epoch's n-th iteration, from here
  abbrev pub net_judgement_in : ℕ → JudgeState → Option NetAgreed
  net_judgement_in n s =
      net_judge key.program key.plan m (key.fuel - s.steps) s.cells (net_passed m (epoch_of key) (length key.plan.stages) n).packet

  -- where the judging stands after it
  abbrev pub net_after_judgement : JudgeState → Option NetAgreed → JudgeState
  net_after_judgement s (Some agreed) =
      record { cells = clear_locals key.plan.region key.program.vars (applied agreed.effects s.cells); steps = s.steps + agreed.steps }
  net_after_judgement s None = s

  -- .. before the epoch's n-th iteration
  abbrev pub net_state_at : ℕ → JudgeState
  net_state_at zero = record { cells = key.base; steps = key.steps }
  net_state_at (suc n) = net_after_judgement (net_state_at n) (net_judgement_in n (net_state_at n))

  -- .. and the judgement on that iteration
  abbrev pub net_judgement_of : ℕ → Option NetAgreed
  net_judgement_of n = net_judgement_in n (net_state_at n)

  -- what is carried of what may be committed
  abbrev pub net_carried : NetAgreed → Carried
  net_carried agreed = record {
    stores = filter_map store_made agreed.effects;
    prints = filter_map printed_by agreed.effects;
    steps = agreed.steps;
    closing = agreed.closing;
  }

  -- the verdict by the judgement; the cause is the source's
  abbrev pub net_verdict_by : ℕ → Option NetAgreed → Verdict
  net_verdict_by n (Some agreed) = Commit (net_carried agreed)
  net_verdict_by n None = Again (reported (cause_since key.program key.plan (epoch_run key) 0 n))

  -- the verdict on the epoch's n-th iteration
  abbrev pub net_verdict_at : ℕ → Verdict
  net_verdict_at n = net_verdict_by n (net_judgement_of n)

  -- the memories for a search of causes, after a judgement
  abbrev pub net_next_kept : Option NetAgreed → List (List ℤ) → List (List ℤ)
  net_next_kept (Some agreed) kept =
      map (clear_locals key.plan.region key.program.vars) (kept_after key.program key.plan agreed.sites agreed.effects kept)
  net_next_kept None kept = kept

  -- .. before the epoch's n-th iteration
  abbrev pub net_kept_at : ℕ → List (List ℤ)
  net_kept_at zero = first_kept key.base key.plan.stages
  net_kept_at (suc n) = net_next_kept (net_judgement_of n) (net_kept_at n)

-- the memory where the next iteration starts, behind these stores
abbrev pub left_by : EpochKey → Carried → List ℤ → List ℤ
left_by key v cells = clear_locals key.plan.region key.program.vars (with_stores v.stores cells)

-- Both are committed with the same prints, steps and end, and with stores that leave the same memory where the next iteration starts;
-- or both are executed again for the same cause.
abbrev pub SaysTheSame : EpochKey → Verdict → Verdict → Type 0
SaysTheSame key (Commit v) (Commit w) =
    (w.prints ≡ v.prints) × (w.steps ≡ v.steps) × (w.closing ≡ v.closing) × ((cells : List ℤ) → left_by key w cells ≡ left_by key v cells)
SaysTheSame key (Again cause) (Again other) = other ≡ cause
SaysTheSame key _ _ = ⊥

-- the definition's verdicts before the n-th go on
abbrev pub GoesOnTo : EpochKey → ℕ → Type 0
GoesOnTo key n = (i : ℕ) → i < n → goes_on (verdict_at key i) ≡ true

-- The verdict says the same, and the judging and the search for causes stand where the definition's do.
pub record NetAgrees (m : Marks) (key : EpochKey) (n : ℕ) : Type 0 where
  pub verdict : SaysTheSame key (verdict_at key n) (net_verdict_at m key n)
  pub state : net_state_at m key n ≡ state_at key n
  pub kept : net_kept_at m key n ≡ kept_at key n

-- So it is in each epoch, up to the first verdict that doesn't go on, whichever runs of quiet statements are taken for blocks.
abbrev pub NetIsRight : Program → Plan → Type 0
NetIsRight p plan =
    (key : EpochKey) → key.program ≡ p → key.plan ≡ plan → (pays : List Stmt → Bool) (n : ℕ) → GoesOnTo key n →
    NetAgrees (marks_of p plan pays) key n
