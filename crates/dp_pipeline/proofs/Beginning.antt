-- Where an epoch begins, its units stand at its first item.
use Rattle.std.proofs.Common.{arith, ◌≡◌, ◌≤◌, ◌^◌, ℕ, zero, suc, ◌+◌, ◌-◌, false, List, [], ◌∷◌, ◌++◌, ℤ, length, replicate, Some, None, Result, IfOk, sym, ap}
use Rattle.std.proofs.Common.{◌∙◌, subst, refl}
use Rattle.dp_plan.specs.Each.{Each}
use Rattle.dp_relay.specs.UnitsKey.{UnitsKey}
use Rattle.dp_lane.specs.declared.rule.View.TheVariants.{Sender}
use Rattle.dp_lane.specs.Ends.{End, new_end}
use Rattle.dp_ring.specs.declared.view.Standing.{Standing}
use Rattle.dp_ring.specs.declared.view.Phase.TheVariants.{Putting, Resting, Collecting}
use Rattle.dp_ring.specs.Calls.{at_start}
use Rattle.dp_lean_epoch.specs.Coming.{LeanStands}
use Rattle.dp_lean_region.specs.LeanEpoch.{LeanEpoch, IsLeanEpoch, epoch_marks}
use Rattle.dp_lean_machine.specs.declared.machine.LeanMachine.{LeanMachine}
use Rattle.dp_lean_machine.specs.Standing.{MachineStands}
use Rattle.dp_judge.specs.declared.court.LeanCourt.{LeanCourt}
use Rattle.dp_judge.specs.Judging.{Judges}
use Rattle.dp_pipeline.specs.declared.setting.Setting.{Setting}
use Rattle.dp_pipeline.specs.steps.Setting.{IsSetting}
use Rattle.dp_pipeline.specs.declared.keys.EpochKey.{EpochKey as Held}
use Rattle.dp_pipeline.specs.declared.keys.LaneKey.{LaneKey}
use Rattle.dp_pipeline.specs.declared.passage.Passage.{Passage}
use Rattle.dp_pipeline.specs.declared.judged.Judged.{Judged}
use Rattle.dp_pipeline.specs.declared.judging.Judging.{Judging}
use Rattle.dp_pipeline.specs.declared.source.Source.{Source}
use Rattle.dp_pipeline.specs.declared.staged.Staged.{Staged}
use Rattle.dp_pipeline.specs.declared.target.Target.{Target}
use Rattle.dp_pipeline.specs.declared.tickets.Tickets.{Tickets}
use Rattle.dp_pipeline.specs.Carried.{lean_of, IsCarried, IsJudged, is_last_carried, is_last_judged}
use Rattle.dp_pipeline.specs.Keys.{key_of}
use Rattle.dp_pipeline.specs.Staging.{RunsAt, JudgesAt}
use Rattle.dp_pipeline.specs.Seats.{CollectsFrom, PutsTo, IsUnused, MayTake, HasTaken, seat_facts, taking_facts, giving_facts}
use Rattle.dp_lane.specs.Views.{sent_by}
use Rattle.dp_pipeline.specs.Lanes.{SendsTo}
use Rattle.dp_pipeline.specs.Standing.{GivesBatches, Gets, IsReady, IsHolding, MayJudge, HasJudged, source_facts, target_facts, target_ended, sent_facts}
use Rattle.dp_pipeline.specs.Standing.{sender_ended}
use Rattle.dp_relay.specs.Works.{HasSentAll}

-- a machine of the epoch's plan takes its first batch
pub stage_begins : (x : Setting) (is : IsSetting x) (m : LeanMachine) (stage : ℕ) → stage ≤ length x.key.epoch.plan.now.stages
    → ((e : LeanEpoch) → IsLeanEpoch e → e.key.plan ≡ x.key.epoch.plan.now → stage ≤ length x.key.epoch.plan.now.stages →
    LeanStands (epoch_marks e) e.key stage 0 x.key.epoch.base → MachineStands m e 0)
    → MachineStands m (lean_of (key_of x.key.epoch)) 0
stage_begins x is m stage within begins = begins (lean_of (key_of x.key.epoch)) is.lawful.lean refl within (is.lawful.begins.stages stage)

-- the number of the stage before the judging's
pub stages_before : (key : Held) (stage : ℕ) → stage ≡ length key.plan.now.stages + 1 → stage - 1 ≡ length key.plan.now.stages
stages_before key stage is = omega (arith, is)

-- a unit that takes its batches in order begins with the first
pub passage_begins : (stage : Staged) (source : Source) (target : Target) (key : UnitsKey) (s : ℕ) → RunsAt stage key s (Some 0)
    → GivesBatches source key (s - 1) 0 → Gets target key s 0 → (source_facts source).count ≡ 0 → (target_facts target).count ≡ 0 → target_ended target ≡ false
    → HasSentAll IsReady IsHolding (λ (ends : Passage). source_facts ends.source) (λ (ends : Passage). target_facts ends.target)
    (λ (ends : Passage). target_ended ends.target)
    RunsAt IsCarried is_last_carried stage (record { source = source; target = target }) false
passage_begins stage source target key s runs gives gets none_taken none_sent mark = record {
  key = key;
  number = s;
  place = Some 0;
  free = record { at = 0; place_is = refl; from = gives; to = gets };
  stands_on = λ _. runs;
  mark = mark;
  counts = none_taken ∙ sym none_sent;
}

-- .. and a worker with any
pub worker_begins : (stage : Staged) (at : Standing LaneKey) (lane : LaneKey) → RunsAt stage (key_of lane.epoch) lane.stage None
    → IsUnused lane at → lane.epoch.fuel ≤ 1000000000
    → HasSentAll MayTake HasTaken (λ (ends : Tickets). taking_facts ends.seat) (λ (ends : Tickets). giving_facts ends.seat)
    (λ (ends : Tickets). ends.seat.view.ended)
    RunsAt IsCarried is_last_carried stage (record { seat = at; has_ticket = false }) false
worker_begins stage at lane runs new fuel =
    let drawn : at.view.drawn ≡ 0 = ap (λ (s : Standing LaneKey). s.view.drawn) new in record {
      key = key_of lane.epoch;
      number = lane.stage;
      place = None;
      free = record {
        place_is = refl;
        sits = record { ring = lane; key_is = ap (λ (s : Standing LaneKey). s.view.key) new; epoch = refl; stage = refl };
        free = (ap (λ (s : Standing LaneKey). s.view.phase) new, omega (arith, drawn));
        fuel = omega (arith, fuel);
      };
      stands_on = λ _. runs;
      mark = ap (λ (s : Standing LaneKey). s.view.ended) new;
      counts = ap (λ (s : Standing LaneKey). s.view.taken) new ∙ sym (ap (λ (s : Standing LaneKey). s.view.given) new);
    }

-- the seats of a new ring
pub puts_first : (at : Standing LaneKey) (ring size : ℕ) (lane : LaneKey) (s : ℕ) → at ≡ at_start ring size Putting 0 (Some lane) → lane.stage ≡ s + 1 →
    lane.epoch.fuel ≤ 1000000000
    → PutsTo at (key_of lane.epoch) s 0 × ((seat_facts at).count ≡ 0) × (at.view.ended ≡ false)
puts_first at ring size lane s new stage fuel = (
  (
    record { ring = lane; key_is = ap (λ (x : Standing LaneKey). x.view.key) new; epoch = refl; stage = stage },
    ap (λ (x : Standing LaneKey). x.view.at) new,
    omega (arith, fuel),
  ),
  ap (λ (x : Standing LaneKey). x.view.at) new,
  ap (λ (x : Standing LaneKey). x.view.ended) new,
)

pub collects_first : (at : Standing LaneKey) (ring size spare : ℕ) (lane : LaneKey) → at ≡ at_start ring size Collecting spare (Some lane)
    → CollectsFrom at (key_of lane.epoch) lane.stage 0 × ((seat_facts at).count ≡ 0)
collects_first at ring size spare lane new = (
  (record { ring = lane; key_is = ap (λ (x : Standing LaneKey). x.view.key) new; epoch = refl; stage = refl }, ap (λ (x : Standing LaneKey). x.view.at) new),
  ap (λ (x : Standing LaneKey). x.view.at) new,
)

-- each worker's seat is unused
pub all_unused : (n ring size : ℕ) (lane : LaneKey) → Each (IsUnused lane) (replicate n (at_start ring size Resting (2 ^ 32) (Some lane)))
all_unused zero ring size lane = tt
all_unused (suc n) ring size lane = (refl, all_unused n ring size lane)

-- .. also where the last one was taken off
pub last_off : (lane : LaneKey) (seats : List (Standing LaneKey)) (last : Standing LaneKey) → Each (IsUnused lane) (seats ++ last ∷ []) →
    Each (IsUnused lane) seats × IsUnused lane last
last_off lane [] last each = (tt, each.0)
last_off lane (seat ∷ seats) last each = let rest = last_off lane seats last each.1 in ((each.0, rest.0), rest.1)

pub sends_first : (lane : LaneKey) (to : End LaneKey) (capacity : ℕ) → to ≡ new_end (Sender lane 0 false) capacity →
    SendsTo to.view (key_of lane.epoch) lane.stage 0
sends_first lane to capacity new = record { lane = lane; ended = false; view_is = ap (λ (e : End LaneKey). e.view) new; epoch = refl; stage = refl }

module _ (lane : LaneKey) (source : Source) (to : End LaneKey) (capacity : ℕ) where
  pub judging_begins : (t : LeanCourt) → Judges t (lean_of (key_of lane.epoch)) 0 → lane.stage - 1 ≡ length lane.epoch.plan.now.stages
      → GivesBatches source (key_of lane.epoch) (lane.stage - 1) 0 → (source_facts source).count ≡ 0 → to ≡ new_end (Sender lane 0 false) capacity →
      lane.epoch.fuel ≤ 1000000000
      → HasSentAll MayJudge HasJudged (λ (ends : Judging). source_facts ends.source) (λ (ends : Judging). sent_facts ends.verdicts)
      (λ (ends : Judging). sender_ended ends.verdicts.view)
      JudgesAt (λ (key : UnitsKey) (s k : ℕ) (x : Judged). IsJudged key k x) is_last_judged (record { court = t })
      (record { source = source; verdicts = to }) false
  judging_begins t judges before gives count new fuel = record {
    key = key_of lane.epoch;
    number = lane.stage;
    place = Some 0;
    free = record { at = 0; place_is = refl; from = gives; to = sends_first lane to capacity new };
    stands_on = λ _. record { before = before; stands = judges; few = fuel };
    mark = ap (λ (e : End LaneKey). sender_ended e.view) new;
    counts = count ∙ sym (ap (λ (e : End LaneKey). sent_by e.view) new);
  }
