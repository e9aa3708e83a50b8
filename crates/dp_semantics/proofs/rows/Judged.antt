-- Judgements, computed: Clean exactly at the clean iterations, with what the source did.
use Rattle.std.proofs.Common.{◌≡◌, refl, ℕ, ◌==◌, Bool, true, false, not, ◌&&◌, ◌||◌, if◌then◌else◌, List, [], ◌∷◌, ℤ, pos, negsuc, map, Option, Some, None}
use Rattle.std.specs.Ordering.{int_eq}
use Rattle.dp_tree.specs.declared.Program.{Program}
use Rattle.dp_tree.specs.Step.{Effect, Stored, Printed, Decided}
use Rattle.dp_tree.specs.Trace.{Run}
use Rattle.dp_tree.specs.Iteration.{begun_count, memory_after, start}
use Rattle.dp_base.specs.declared.BinOp.TheVariants as op
use Rattle.dp_tree.specs.declared.SiteKind.TheVariants.{Assign, While}
use Rattle.dp_tree.specs.declared.VarScope.TheVariants.{Global, Outer, Body}
use Rattle.dp_tree.proofs.Build.{assume, bin, num, one_region, program, region, scalar, set, site, tree_opened, var}
use Rattle.dp_tree.proofs.Programs.{add, stale_read, same_value_store, skip_negative, histogram, two_stores, stale_step, stale_divisor}
use Rattle.dp_plan.specs.declared.Plan.{Plan}
use Rattle.dp_plan.specs.declared.StageKind.TheVariants.{Seq, Par}
use Rattle.dp_plan.proofs.Plans.{plan, stale_read_plan, skip_negative_plan, histogram_plan, two_stores_plan, stale_step_plan, stale_divisor_plan}
use Rattle.dp_tree.specs.Numbering.{numbers_from}
use Rattle.dp_semantics.specs.Clean.{is_clean}
use Rattle.dp_semantics.specs.Recovery.{epoch}
use Rattle.dp_semantics.specs.StageRun.{turn_from}
use Rattle.dp_semantics.specs.Judge.{Judgement, Clean, Unclean, Agreed, judge, judge_from}
use Rattle.dp_semantics.specs.Packets.{Going, Broken, Packet, Status}
use Rattle.dp_semantics.specs.Words.{Full}
use Rattle.dp_semantics.specs.Verdict.{source_run, judgement_at, packet_at, done_in}

abbrev same_effect : Effect → Effect → Bool
same_effect (Stored c v) (Stored d w) = (c == d) && int_eq v w
same_effect (Printed v) (Printed w) = int_eq v w
same_effect (Decided v) (Decided w) = int_eq v w
same_effect _ _ = false

abbrev same_effects : List Effect → List Effect → Bool
same_effects [] [] = true
same_effects (v ∷ vs) (w ∷ ws) = same_effect v w && same_effects vs ws
same_effects _ _ = false

abbrev same_sites : List ℕ → List ℕ → Bool
same_sites [] [] = true
same_sites (s ∷ ss) (t ∷ ts) = (s == t) && same_sites ss ts
same_sites _ _ = false

abbrev same_done : Agreed → Agreed → Bool
same_done a b = same_effects a.effects b.effects && same_sites a.sites b.sites && (a.closing && b.closing || not a.closing && not b.closing)

-- clean and so judged, unclean and so judged, or judged wrongly
data Verdict : Type 0 where
  clean : Verdict
  unclean : Verdict
  wrong : Verdict

abbrev compared : Bool → Agreed → Judgement → Verdict
compared true source (Clean a) = if same_done a source then clean else wrong
compared true source Unclean = wrong
compared false source (Clean a) = wrong
compared false source Unclean = unclean

abbrev steps_before : Option ℕ → ℕ
steps_before None = 0
steps_before (Some k) = k

abbrev verdict_in : Program → Plan → List ℤ → Run → ℕ → ℕ → Verdict
verdict_in p plan input run i e =
    compared (is_clean p plan run e i) (done_in plan run i) (judgement_at p plan input run e i (steps_before (start run plan.region i)))

abbrev verdicts_of : Program → Plan → List ℤ → Run → List Verdict
verdicts_of p plan input run = map (λ i. verdict_in p plan input run i (epoch p plan run i)) (numbers_from 0 (begun_count run plan.region))

abbrev verdicts : Program → Plan → List ℤ → ℕ → List Verdict
verdicts p plan input fuel = verdicts_of p plan input (source_run p input fuel)

stale_reads : verdicts stale_read stale_read_plan [] 10000 ≡ clean ∷ clean ∷ unclean ∷ clean ∷ clean ∷ unclean ∷ clean ∷ []
unfolding tree_opened turn_from judge_from
stale_reads = refl

same_values : verdicts same_value_store stale_read_plan [] 10000 ≡ clean ∷ clean ∷ clean ∷ clean ∷ clean ∷ clean ∷ clean ∷ []
unfolding tree_opened turn_from judge_from
same_values = refl

assumed_broken : verdicts skip_negative skip_negative_plan (pos 5 ∷ negsuc 0 ∷ pos 7 ∷ pos 8 ∷ []) 10000 ≡ clean ∷ unclean ∷ clean ∷ clean ∷ []
unfolding tree_opened turn_from judge_from
assumed_broken = refl

replicated : verdicts histogram histogram_plan (pos 0 ∷ pos 1 ∷ pos 2 ∷ pos 3 ∷ []) 10000 ≡ clean ∷ clean ∷ clean ∷ clean ∷ clean ∷ []
unfolding tree_opened turn_from judge_from
replicated = refl

-- the stores come in the source's order, whatever their stages
stores_in_source_order : verdicts two_stores two_stores_plan [] 10000 ≡ clean ∷ clean ∷ clean ∷ clean ∷ []
unfolding tree_opened turn_from judge_from
stores_in_source_order = refl

stale_loop : (verdicts stale_step (stale_step_plan 64) [] 10000 ≡ clean ∷ unclean ∷ clean ∷ clean ∷ [])
    × (verdicts stale_step (stale_step_plan 19) [] 10000 ≡ clean ∷ unclean ∷ unclean ∷ clean ∷ [])
unfolding tree_opened turn_from judge_from
stale_loop = (refl, refl)

stale_division : verdicts stale_divisor stale_divisor_plan [] 10000 ≡ clean ∷ unclean ∷ clean ∷ clean ∷ []
unfolding tree_opened turn_from judge_from
stale_division = refl

-- the fuel ends within the second iteration, and exactly after it
fuel_within_an_iteration : verdicts same_value_store stale_read_plan [] 8 ≡ clean ∷ unclean ∷ []
unfolding tree_opened turn_from judge_from
fuel_within_an_iteration = refl

fuel_after_an_iteration : verdicts same_value_store stale_read_plan [] 9 ≡ clean ∷ clean ∷ []
unfolding tree_opened turn_from judge_from
fuel_after_an_iteration = refl

replicated_counts : verdicts histogram (plan 4096 (Seq ∷ Par ∷ []) (1 ∷ 1 ∷ 1 ∷ 2 ∷ 2 ∷ []) []) (pos 0 ∷ pos 4 ∷ pos 8 ∷ []) 10000 ≡ clean ∷ unclean
    ∷ clean ∷ clean ∷ []
unfolding tree_opened turn_from judge_from
replicated_counts = refl

-- an assumption counts where all is in one stage, which goes as the source does
assumed_in_one_stage : verdicts skip_negative (plan 4096 (Seq ∷ []) (1 ∷ 1 ∷ 1 ∷ 1 ∷ 1 ∷ 1 ∷ []) (assume 4 false ∷ [])) (negsuc 0 ∷ pos 5 ∷ pos 3 ∷ []) 10000
    ≡ unclean ∷ clean ∷ clean ∷ []
unfolding tree_opened turn_from judge_from
assumed_in_one_stage = refl

-- a replicated stage starts before the stores that the stage before it makes in the iteration: `i` is still the old one
replicated_before : verdicts histogram (plan 4096 (Seq ∷ Par ∷ Seq ∷ []) (1 ∷ 2 ∷ 1 ∷ 2 ∷ 3 ∷ []) []) (pos 0 ∷ pos 1 ∷ pos 2 ∷ pos 3 ∷ []) 10000 ≡ clean ∷ clean
    ∷ clean ∷ clean ∷ clean ∷ []
unfolding tree_opened turn_from judge_from
replicated_before = refl

-- `while (i < 3) { s = s + x; x = 1; x = 2; i = i + 1; }`, with x a body local, which reads 0 in each iteration
abbrev unset_local : Program
unset_local = program
    (scalar 0 (pos 0) Global ∷ scalar 1 (pos 0) Outer ∷ scalar 2 (pos 0) (Body 1) ∷ [])
    (site 4 Assign 0 ∷ site 6 While 1 ∷ site 7 Assign 1 ∷ site 8 Assign 1 ∷ site 9 Assign 1 ∷ site 10 Assign 1 ∷ [])
    (one_region 6 2 6)
    (set 1 1 (num 0) ∷ region 1 2 (bin op.Lt (var 1) (num 3))
    (set 3 0 (add (var 0) (var 2)) ∷ set 4 2 (num 1) ∷ set 5 2 (num 2) ∷ set 6 1 (add (var 1) (num 1)) ∷ []) ∷ [])

-- site 3 is checked, since stage 2 stores x, and stage 1 sees neither its own store of the iteration before nor that of stage 2
cleared_locals : verdicts unset_local (plan 4096 (Seq ∷ Seq ∷ []) (1 ∷ 1 ∷ 1 ∷ 2 ∷ 1 ∷ []) []) [] 10000 ≡ clean ∷ clean ∷ clean ∷ clean ∷ []
unfolding tree_opened turn_from judge_from
cleared_locals = refl

-- A void packet is Unclean, though its words are those that would be Clean.
abbrev with_status : Status → Packet → Packet
with_status status packet = record { lists = packet.lists; status = status; version = packet.version }

abbrev first_packet_as : Status → Judgement
first_packet_as status = by (source_run same_value_store [] 10000)
  where
    by : Run → Judgement
    by run = judge same_value_store stale_read_plan run.fuel (memory_after run 1 0) (with_status status (packet_at same_value_store stale_read_plan [] run 0 0))

abbrev is_clean_judgement : Judgement → Bool
is_clean_judgement (Clean a) = true
is_clean_judgement Unclean = false

void : (is_clean_judgement (first_packet_as Going) ≡ true) × (is_clean_judgement (first_packet_as (Broken 2 Full)) ≡ false)
unfolding tree_opened turn_from judge_from
void = (refl, refl)
