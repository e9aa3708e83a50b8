-- How far a region was brought, iteration by iteration, and what is kept of it in between.
use Rattle.std.specs.Prelude.{◌≡◌, ℕ, ◌+◌, ◌≤◌, false, List, [], ℤ, Option, Some, None}
use Rattle.std.specs.List.Sorted.{IsNonDecreasing}
use Rattle.dp_tree.specs.declared.Program.{Program}
use Rattle.dp_plan.specs.declared.Plan.{Plan}
use Rattle.dp_plan.specs.Written.{has}
use Rattle.dp_semantics.specs.Seen.{is_local_at}
use Rattle.dp_semantics.specs.EpochVerdicts.{Carried, Commit, verdict_at}
use Rattle.dp_meaning.specs.MachineState.{MachineState}
use Rattle.dp_net.specs.NetVerdicts.{SaysTheSame}
use Rattle.dp_pipeline.specs.Coming.{Coming}
use Rattle.dp_epoch.specs.declared.ledger.Ledger.{Ledger}
use Rattle.dp_epoch.specs.InEpoch.{AtEpoch, InEpoch, IsUnclean}
use Rattle.dp_epoch.specs.Progress.{Progress}
use Rattle.dp_audit.specs.declared.runner.Runner.{Runner}
use Rattle.dp_audit.specs.Copy.{IsCopy}

-- What is kept besides the verdicts: it is of a region of this program that began with this machine, no prints wait, no causes are asked for, and the copy is
-- that of the committed memory.
pub record RunnerIsKept (p : Program) (plan : Plan) (input : List ℤ) (first : MachineState) (r : Runner) : Type 0 where
  pub own_program : r.epochs.region.now.program ≡ p
  pub own_plan : r.epochs.region.now.plan ≡ plan
  pub own_input : r.epochs.input.now ≡ input
  pub program_is : first.program ≡ p
  pub input_is : first.input ≡ input
  pub few : first.fuel ≤ 1000000000
  pub unasked : r.ledger.account.why ≡ false
  pub none_waits : r.ledger.waiting ≡ []
  pub copy : IsCopy r.known r.ledger.committed.machine.config.cells
  pub ascending : IsNonDecreasing r.known.locals
  pub locals : (c : ℕ) → has c r.known.locals ≡ is_local_at p plan c

-- The verdicts are those of the epoch under way, behind the committed iterations.
pub record EpochUnderWay (plan : Plan) (first : MachineState) (ledger : Ledger) (v : Coming) : Type 0 where
  pub plan_is : v.key.plan ≡ plan
  pub epoch : InEpoch v.key v.given first ledger.committed ledger.account

-- the verdicts are those of the epoch under way; where there are none, an epoch is to begin
abbrev pub InItsEpoch : Plan → MachineState → Ledger → Option Coming → Type 0
InItsEpoch plan first ledger None = AtEpoch plan first ledger.committed ledger.account
InItsEpoch plan first ledger (Some v) = EpochUnderWay plan first ledger v

-- The first n iterations of the region were made, of this program on this input, and the region goes on: what is committed and reported is the source's.
pub record RegionStands (p : Program) (plan : Plan) (input : List ℤ) (first : MachineState) (n : ℕ) (r : Runner) : Type 0 where
  pub kept : RunnerIsKept p plan input first r
  pub progress : Progress plan first r.ledger.committed r.ledger.account
  pub count : r.ledger.committed.count ≡ n
  pub epoch : InItsEpoch plan first r.ledger r.verdicts

-- The last of these verdicts was to commit the next iteration, with this carried of it.
pub record CommitsNext (p : Program) (plan : Plan) (input : List ℤ) (first : MachineState) (r : Runner) (v : Coming) (clean : Carried) : Type 0 where
  pub kept : RunnerIsKept p plan input first r
  pub before : ℕ
  pub given : v.given ≡ before + 1
  pub under_way : EpochUnderWay plan first r.ledger (record v { given = before })
  pub verdict : SaysTheSame v.key (verdict_at v.key before) (Commit clean)

-- The next iteration is to be executed again.
pub record Unclean (p : Program) (plan : Plan) (input : List ℤ) (first : MachineState) (r : Runner) : Type 0 where
  pub kept : RunnerIsKept p plan input first r
  pub no_verdicts : r.verdicts ≡ None
  pub unclean : IsUnclean plan first r.ledger.committed r.ledger.account
