-- Iterations in batches: which ones go together, what a stage sends of them, and what is decided of them.
use Rattle.std.specs.Prelude.{◌≡◌, ℕ, zero, suc, ◌+◌, ◌-◌, min, max, if◌then◌else◌, Bool, true, false, not, List, [], ◌∷◌, ◌++◌, ℤ, length, map}
use Rattle.dp_base.specs.declared.StoreOf.{StoreOf}
use Rattle.dp_base.specs.declared.Cause.{Cause as ReportedCause}
use Rattle.dp_tree.specs.declared.Stmt.{Stmt}
use Rattle.dp_tree.specs.declared.Program.{Program}
use Rattle.dp_tree.specs.Numbering.{numbers_from}
use Rattle.dp_tree.specs.Step.{clear_locals}
use Rattle.dp_plan.specs.declared.Plan.{Plan}
use Rattle.dp_semantics.specs.Told.{with_stores}
use Rattle.dp_semantics.specs.EpochKey.{EpochKey, epoch_of}
use Rattle.dp_semantics.specs.EpochVerdicts.{Carried, Verdict, Commit, Again, goes_on, verdict_at, state_at}
use Rattle.dp_net.specs.NetItems.{Marks}
use Rattle.dp_net.specs.Hidden.{marks_of}
use Rattle.dp_net.specs.NetPackets.{NetStatus, NetGoing, NetPacket, net_passed}
use Rattle.dp_net.specs.NetVerdicts.{GoesOnTo, net_verdict_at}

-- the list up to and with the first that is the last one
abbrev pub up_to : {X : Type 0} → (X → Bool) → List X → List X
up_to last [] = []
up_to last (x ∷ rest) = x ∷ (if last x then [] else up_to last rest)

module _ (key : EpochKey) (cap : ℕ) where
  -- a batch that begins at place k has as many iterations as all before it together, at least one and at most the cap,
  -- and none behind the one whose number is the fuel's
  abbrev pub size_from : ℕ → ℕ
  size_from k = min (suc key.fuel - (key.first + k)) (max 1 (min cap k))

  -- the place of a batch's first iteration in the epoch
  abbrev pub batch_begin : ℕ → ℕ
  batch_begin zero = 0
  batch_begin (suc b) = batch_begin b + size_from (batch_begin b)

  -- the number of iterations that batch b may have
  abbrev pub batch_size : ℕ → ℕ
  batch_size b = size_from (batch_begin b)

  -- .. and their places
  abbrev pub batch_places : ℕ → List ℕ
  batch_places b = numbers_from (batch_begin b) (batch_size b)

-- the epoch goes on behind the packet, as far as the stages know
abbrev pub is_onward : NetStatus → Bool
is_onward NetGoing = true
is_onward _ = false

-- no packet follows this one in a batch
abbrev pub ends_batch : NetPacket → Bool
ends_batch packet = not (is_onward packet.status)

-- what stage s sends of batch b: its packets, up to and with the first that doesn't go on
abbrev pub batch_at : Marks → EpochKey → ℕ → ℕ → ℕ → List NetPacket
batch_at m key cap s b = up_to ends_batch (map (λ k. (net_passed m (epoch_of key) s k).packet) (batch_places key cap b))

-- how a batch ends: the epoch goes on behind it, or its last iteration closes the region, or the one behind those that are committed is executed again
pub data BatchEnd : Type 0 where
  BatchGoesOn : BatchEnd
  BatchCloses : BatchEnd
  BatchRecovers : ReportedCause → BatchEnd

-- what is decided of a batch: how many of its first iterations are committed, what they did together, and how it ends
pub record BatchVerdict : Type 0 where
  pub iterations : ℕ
  pub stores : List StoreOf
  pub prints : List ℤ
  pub steps : ℕ
  pub ends : BatchEnd

-- no iteration is committed
abbrev pub nothing_but : BatchEnd → BatchVerdict
nothing_but ends = record { iterations = 0; stores = []; prints = []; steps = 0; ends = ends }

-- one iteration is committed in front of others
abbrev pub with_front : Carried → BatchVerdict → BatchVerdict
with_front v w = record {
  iterations = suc w.iterations;
  stores = v.stores ++ w.stores;
  prints = v.prints ++ w.prints;
  steps = v.steps + w.steps;
  ends = w.ends;
}

-- what verdicts come to together, up to the first behind which the epoch doesn't go on
abbrev pub together : List Verdict → BatchVerdict
together [] = nothing_but BatchGoesOn
together (Commit v ∷ rest) = with_front v (if v.closing then nothing_but BatchCloses else together rest)
together (Again cause ∷ rest) = nothing_but (BatchRecovers cause)

-- the verdict on batch b
abbrev pub batch_verdict_at : Marks → EpochKey → ℕ → ℕ → BatchVerdict
batch_verdict_at m key cap b = together (map (net_verdict_at m key) (batch_places key cap b))

-- .. by the definition's verdicts
abbrev pub source_verdict_at : EpochKey → ℕ → ℕ → BatchVerdict
source_verdict_at key cap b = together (map (verdict_at key) (batch_places key cap b))

-- the memory where the next iteration starts, behind these stores
abbrev pub left_behind : EpochKey → List StoreOf → List ℤ → List ℤ
left_behind key stores cells = clear_locals key.plan.region key.program.vars (with_stores stores cells)

-- As many iterations are committed, with the same prints and steps, and the same end, and their stores leave the same memory where the next iteration starts.
pub record BatchAgrees (key : EpochKey) (v w : BatchVerdict) : Type 0 where
  pub iterations : w.iterations ≡ v.iterations
  pub prints : w.prints ≡ v.prints
  pub steps : w.steps ≡ v.steps
  pub ends : w.ends ≡ v.ends
  pub stores : (cells : List ℤ) → left_behind key w.stores cells ≡ left_behind key v.stores cells

-- The stores of a batch, done where it begins, and its steps lead to where the judging stands behind the iterations that are committed.
pub record BatchLeads (key : EpochKey) (k : ℕ) (v : BatchVerdict) : Type 0 where
  pub cells : left_behind key [] (state_at key (k + v.iterations)).cells ≡ left_behind key v.stores (state_at key k).cells
  pub steps : (state_at key (k + v.iterations)).steps ≡ (state_at key k).steps + v.steps

-- So it is of each batch of an epoch, behind verdicts that go on.
abbrev pub BatchesAreRight : Program → Plan → Type 0
BatchesAreRight p plan = (key : EpochKey) → key.program ≡ p → key.plan ≡ plan → (pays : List Stmt → Bool) (cap b : ℕ) →
    GoesOnTo key (batch_begin key cap b) →
    BatchAgrees key (source_verdict_at key cap b) (batch_verdict_at (marks_of p plan pays) key cap b)
    × BatchLeads key (batch_begin key cap b) (batch_verdict_at (marks_of p plan pays) key cap b)

-- No packet follows one that doesn't go on, since no verdict on it goes on.
abbrev pub BatchesEnd : Program → Plan → Type 0
BatchesEnd p plan = (key : EpochKey) → key.program ≡ p → key.plan ≡ plan → (pays : List Stmt → Bool) (n : ℕ) → GoesOnTo key n →
    ends_batch (net_passed (marks_of p plan pays) (epoch_of key) (length plan.stages) n).packet ≡ true →
    goes_on (net_verdict_at (marks_of p plan pays) key n) ≡ false
