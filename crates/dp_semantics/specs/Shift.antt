-- The verdicts on a run's iterations are those on the run that begins at one of them.
use Rattle.std.specs.Prelude.{◌≡◌, ℕ, ◌+◌, ◌-◌, Bool, true, List, ◌++◌, ℤ, map, drop, Some, is_some, slice_get}
use Rattle.dp_tree.specs.declared.Program.{Program}
use Rattle.dp_tree.specs.Step.{Config}
use Rattle.dp_tree.specs.Trace.{Run, run_of}
use Rattle.dp_tree.specs.Iteration.{start, is_begun, begun_count, iteration, is_closing, has_ended, memory_after}
use Rattle.dp_tree.specs.GoesOn.{GoesOnAs, moved}
use Rattle.dp_plan.specs.declared.Plan.{Plan}
use Rattle.dp_semantics.specs.Clean.{is_clean}
use Rattle.dp_semantics.specs.Recovery.{epoch_with, epoch, is_recovered_with, is_recovered, recovered_first_with, recovered_with, recovered}
use Rattle.dp_semantics.specs.Cause.{cause_since, cause_with, cause}
use Rattle.dp_semantics.specs.Verdict.{packet_at, judgement_at}

-- After k steps and m iterations the run goes on as `rest`: iteration m + i is the rest's iteration i.
pub record SameVerdicts (p : Program) (plan : Plan) (m k : ℕ) (run rest : Run) : Type 0 where
  pub clean : (e i : ℕ) → is_clean p plan run (m + e) (m + i) ≡ is_clean p plan rest e i
  pub packets : (input : List ℤ) (e i : ℕ) → packet_at p plan input run (m + e) (m + i) ≡ packet_at p plan input rest e i
  pub judgements : (input : List ℤ) (e i j : ℕ) → judgement_at p plan input run (m + e) (m + i) (k + j) ≡ judgement_at p plan input rest e i j
  pub causes : (e i : ℕ) → cause_since p plan run (m + e) (m + i) ≡ cause_since p plan rest e i

-- what is said of iterations, said of those from m on
abbrev pub from_there : ℕ → (ℕ → Bool) → ℕ → Bool
from_there m begins i = begins (m + i)

-- .. and where an epoch begins at iteration m, because it has to or because the one before isn't clean, the epochs after it are the rest's
pub record SameEpochs (begins : ℕ → Bool) (p : Program) (plan : Plan) (m : ℕ) (run rest : Run) : Type 0 where
  pub epochs : (i : ℕ) → epoch_with begins p plan run (m + i) ≡ m + epoch_with (from_there m begins) p plan rest i
  pub again : (i : ℕ) → is_recovered_with begins p plan run (m + i) ≡ is_recovered_with (from_there m begins) p plan rest i
  pub cause : (i : ℕ) → cause_with begins p plan run (m + i) ≡ cause_with (from_there m begins) p plan rest i
  pub listed_first : (n : ℕ) → recovered_first_with begins p plan run (m + n) ≡ recovered_first_with begins p plan run m
      ++ map (λ i. m + i) (recovered_first_with (from_there m begins) p plan rest n)
  pub listed : recovered_with begins p plan run ≡ recovered_first_with begins p plan run m
      ++ map (λ i. m + i) (recovered_with (from_there m begins) p plan rest)

-- So it is for each run that reaches the region and goes on so.
abbrev pub VerdictsShift : Program → Plan → Type 0
VerdictsShift p plan = (m k : ℕ) (run rest : Run) → GoesOnAs plan.region m k run rest → is_some (start rest plan.region 0) ≡ true →
    SameVerdicts p plan m k run rest

abbrev pub EpochsShift : Program → Plan → Type 0
EpochsShift p plan = (m k : ℕ) (run rest : Run) → GoesOnAs plan.region m k run rest → is_some (start rest plan.region 0) ≡ true → (begins : ℕ → Bool) →
    epoch_with begins p plan run m ≡ m → SameEpochs begins p plan m run rest

-- The region's own run, from where its first iteration starts after k steps, has all that is said of its iterations.
pub record SameRegion (p : Program) (plan : Plan) (k : ℕ) (run own : Run) : Type 0 where
  pub fuel : run.fuel ≡ k + own.fuel
  pub trace : drop k run.trace ≡ own.trace
  pub configs : drop k run.configs ≡ own.configs
  pub end : run.end ≡ own.end
  pub started : (i : ℕ) → start run plan.region i ≡ moved k (start own plan.region i)
  pub begun : (i : ℕ) → is_begun run plan.region i ≡ is_begun own plan.region i
  pub begun_in_all : begun_count run plan.region ≡ begun_count own plan.region
  pub iterations : (i : ℕ) → iteration run plan.region i ≡ iteration own plan.region i
  pub closing : (i : ℕ) → is_closing run plan.region i ≡ is_closing own plan.region i
  pub ended : (i : ℕ) → has_ended run plan.region i ≡ has_ended own plan.region i
  pub memory : (i : ℕ) → memory_after run plan.region i ≡ memory_after own plan.region i
  pub clean : (e i : ℕ) → is_clean p plan run e i ≡ is_clean p plan own e i
  pub packets : (input : List ℤ) (e i : ℕ) → packet_at p plan input run e i ≡ packet_at p plan input own e i
  pub judgements : (input : List ℤ) (e i j : ℕ) → judgement_at p plan input run e i (k + j) ≡ judgement_at p plan input own e i j
  pub epochs : (i : ℕ) → epoch p plan run i ≡ epoch p plan own i
  pub again : (i : ℕ) → is_recovered p plan run i ≡ is_recovered p plan own i
  pub recovered_list : recovered p plan run ≡ recovered p plan own
  pub cause : (i : ℕ) → cause p plan run i ≡ cause p plan own i

-- So it is in each run that reaches the region.
abbrev pub RegionRunsAlone : Program → Plan → Type 0
RegionRunsAlone p plan = (input : List ℤ) (fuel k : ℕ) (c d : Config) → slice_get (run_of p input fuel c).configs k ≡ Some d →
    start (run_of p input fuel c) plan.region 0 ≡ Some k →
    SameRegion p plan k (run_of p input fuel c) (run_of p input (fuel - k) d)
