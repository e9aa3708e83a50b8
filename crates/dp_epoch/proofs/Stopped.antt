-- The region has ended: the source's run ends in it.
use Rattle.std.proofs.Common.{◌≡◌, ◌≢◌, ◌⊎◌, inl, inr, refl, sym, ap, ◌∙◌, subst, ℕ, suc, ◌+◌, ◌-◌, ◌<◌, ◌≤◌, Bool, true, false, ◌||◌, cond, if◌then◌else◌}
use Rattle.std.proofs.Common.{List, [], ◌∷◌, ◌++◌, All, map, take, take_all, drop, length, length-append, nat_lt, lt-ltb, le-ltb, Option, Some, None, is_some}
use Rattle.std.proofs.Common.{slice_get, slice_range, ℤ, arith}
use Rattle.std.proofs.lemmas.Bool.{cases_lt, not-true}
use Rattle.std.proofs.lemmas.List.{append-nil}
use Rattle.std.proofs.lemmas.List.Elements.{All-append}
use Rattle.dp_epoch.specs.declared.account.Account.{Account}
use Rattle.dp_base.specs.declared.End.{End}
use Rattle.dp_plan.specs.declared.Plan.{Plan}
use Rattle.dp_tree.specs.Step.{Config, Event}
use Rattle.dp_tree.specs.Trace.{Run, ended}
use Rattle.dp_tree.specs.Iteration.{stands_at_head, places, starts, start, begun_count, stop_from, events_from, iteration, last_events, closes, is_closing}
use Rattle.dp_tree.specs.Iteration.{has_ended}
use Rattle.dp_tree.specs.IterationLaws.{events_of_first}
use Rattle.dp_theorem.proofs.Central.{earlier_start}
use Rattle.dp_meaning.specs.declared.ends.Part.TheVariants as part
use Rattle.dp_meaning.specs.Continues.{Continues}
use Rattle.dp_meaning.specs.MachineState.{MachineState, fuel_left, rest_of_run, part_of}
use Rattle.dp_meaning.specs.Moved.{Moved}
use Rattle.dp_meaning.specs.IterationRun.{IterationGoesOn, HeadsOnce, AwaitsCondition, has_closed, current_after}
use Rattle.dp_commit.specs.CommittedState.{CommittedState, IsInside, region_run, steps_of_first}
use Rattle.dp_commit.proofs.Parts.{off_plain}
use Rattle.dp_commit.proofs.Heads as heads
use Rattle.dp_commit.proofs.Committing.{join}
use Rattle.dp_commit.proofs.Lists.{get_at_seam}
use Rattle.dp_tree.specs.InMain.{StandsInMain}
use Rattle.dp_tree.proofs.InMain.{stays_in_main}
use Rattle.dp_epoch.specs.RegionRun.{RegionMade, RegionStops, beyond}
use Rattle.dp_epoch.specs.Accounts.{Reports, told_when}
use Rattle.dp_epoch.specs.Progress.{Progress, report_before}
use Rattle.dp_epoch.proofs.Counting.{whole_report}
use Rattle.dp_epoch.proofs.Here.{at_once, starts_here, rest_fuel}
use Rattle.dp_epoch.proofs.Here as here
use Rattle.dp_semantics.specs.Reported.{region_report}
use Rattle.dp_epoch.proofs.Carrying.{iteration_same, ended_same}
use Rattle.dp_epoch.proofs.Ending.{inside_off, others_behind, last_begun, inside_call, q, piece, on, off}
use Rattle.dp_epoch.proofs.Done.{made_by}
use Rattle.dp_meaning.proofs.NextLemmas.{last_open}

module _ (plan : Plan) (first : MachineState) (c : CommittedState) (account : Account) (g : Progress plan first c account) (m : MachineState) where
  abbrev run : Run
  run = region_run first

  abbrev rest : Run
  rest = rest_of_run c.machine

  abbrev made : ℕ
  made = steps_of_first (region_run first) plan.region c.count

  -- The run ends before the iteration has ended.
  module _ (before after : List ℤ) (events : List Event) (configs : List Config) (went : Moved c.machine m before after events configs)
      (heads_once : HeadsOnce c.region c.machine.current configs) (stay : IterationGoesOn c.region c.machine m events)
      (sound : m.spoiled ≡ c.machine.spoiled) (fuel : ℕ) (end : End) (ends : rest_of_run m ≡ ended fuel m.config end) where
    no_more : (rest_of_run m).trace ≡ []
    no_more = ap (λ (x : Run). x.trace) ends

    one_config : (rest_of_run m).configs ≡ m.config ∷ []
    one_config = ap (λ (x : Run). x.configs) ends

    trace_is : rest.trace ≡ events
    trace_is = went.run.trace ∙ ap (λ (es : List Event). events ++ es) no_more ∙ append-nil events

    -- what comes next for the machine
    awaits_is : AwaitsCondition plan.region (current_after plan.region None events) m.config
    awaits_is =
        subst (λ (r : ℕ). AwaitsCondition r (current_after r None events) m.config) g.region
        (subst (λ (o : Option ℕ). AwaitsCondition c.region o m.config) (stay.current
        ∙ ap (λ (o : Option ℕ). current_after c.region o events) g.is_open.between) stay.awaits)

    last_inside : (es : List Event) → AwaitsCondition plan.region (current_after plan.region None es) m.config → IsInside plan.region m.config
    last_inside [] w = inl w
    last_inside (e ∷ es) w = inr w

    -- there is no later start
    none_by : (es : List Event) → events ≡ es → start rest plan.region 1 ≡ None
    none_by [] e =
        let size : length configs ≡ 0 = omega (arith, went.run.paired, ap length e) in
        let configs_are : rest.configs ≡ m.config ∷ [] = went.run.configs ∙ ap (λ (cs : List Config). cs ++ (rest_of_run m).configs)
        (no_items configs size) ∙ one_config in
        ap (λ (cs : List Config). slice_get (places (stands_at_head plan.region) 0 cs) 1) configs_are ∙ by (stands_at_head plan.region m.config)
      where
        no_items : (cs : List Config) → length cs ≡ 0 → cs ≡ []
        no_items [] s = refl
        no_items (x ∷ cs) s = absurd (omega (arith, s))

        by : (t : Bool) → slice_get {X = ℕ} (if t then 0 ∷ [] else []) 1 ≡ None
        by true = refl
        by false = refl
    none_by (x ∷ es) e =
        let some : 0 < length events = omega (arith, ap length e) in
        let s = q plan first c account g m before after events configs went heads_once some stay.not_closed in
        let plain : part_of m.config.to_do ≡ part.Plain = subst (λ (xs : List Event). AwaitsCondition plan.region (current_after plan.region None xs)
        m.config) e awaits_is in
        heads.start_next plan.region rest (rest_of_run m) events s.first s.inner (piece plan first c account g m before after events configs went heads_once
        some stay.not_closed)
        (on plan first c account g m before after events configs went heads_once some stay.not_closed) (off plan first c account g m before after events configs
        went heads_once some stay.not_closed)
        ∙ ap (λ (cs : List Config). slice_get (places (stands_at_head plan.region) (length events) cs) 0) one_config
        ∙ ap (λ (t : Bool). slice_get (if t then length events ∷ [] else []) 0) (off_plain plan.region m.config plain)

    none_next : start rest plan.region 1 ≡ None
    none_next = none_by events refl

    at_start : start rest plan.region 0 ≡ Some 0
    at_start = at_once plan first c account g

    yet_open : closes events ≡ false
    yet_open = ap (λ (o : Option ℕ). has_closed o events) (sym g.is_open.between) ∙ stay.not_closed

    -- the iteration is what was made
    pub iteration_is : iteration rest plan.region 0 ≡ events
    iteration_is =
        ap (λ (k : Option ℕ). events_from rest k (start rest plan.region 1)) at_start
        ∙ ap (λ (k : Option ℕ). slice_range rest.trace 0 (stop_from rest 0 k)) none_next
        ∙ ap (λ (es : List Event). slice_range es 0 (0 + length (last_events (drop 0 es)))) trace_is
        ∙ ap (λ (es : List Event). slice_range events 0 (0 + length es)) (last_open events yet_open)
        ∙ (let size : (0 + length events) - 0 ≡ length events = omega arith in ap (λ (n : ℕ). take n events) size ∙ take_all (length
        events) events (omega arith))

    pub not_ended : has_ended run plan.region c.count ≡ false
    not_ended =
        ended_same plan first c account g ∙ ap (λ (o : Option ℕ). is_some o || is_closing rest plan.region 0) none_next ∙ ap closes iteration_is ∙ yet_open

    pub begun_here : begun_count run plan.region ≡ c.count + cond (nat_lt c.machine.steps c.machine.fuel) 1 0
    begun_here = last_begun plan first c account g none_next

    -- the steps of all begun iterations
    all_made : (c.machine.steps < c.machine.fuel) ⊎ (c.machine.fuel ≤ c.machine.steps) → events_of_first run plan.region c.count
        ++ events ≡ events_of_first run plan.region (c.count + cond (nat_lt c.machine.steps c.machine.fuel) 1 0)
    all_made (inl h) =
        ap (λ (es : List Event). events_of_first run plan.region c.count ++ es) (sym (iteration_same plan first c account g ∙ iteration_is))
        ∙ ap (events_of_first run plan.region) (let e : suc c.count ≡ c.count + cond true 1 0 = omega arith in e ∙ ap (λ (b : Bool). c.count + cond b 1 0) (sym
        (lt-ltb c.machine.steps c.machine.fuel h)))
    all_made (inr h) =
        let none : length events ≡ 0 = omega (arith, h, went.run.fuel, rest_fuel c.machine) in
        ap (λ (es : List Event). events_of_first run plan.region c.count ++ es) (no_events events none) ∙ append-nil (events_of_first run plan.region c.count)
        ∙ ap (events_of_first run plan.region) (let e : c.count ≡ c.count + cond false 1 0 = omega arith in e ∙ ap (λ (b : Bool). c.count + cond b 1 0) (sym
        (le-ltb c.machine.steps c.machine.fuel h)))
      where
        no_events : (es : List Event) → length es ≡ 0 → es ≡ []
        no_events [] s = refl
        no_events (x ∷ es) s = absurd (omega (arith, s))

    pub events_all : events_of_first run plan.region c.count ++ events ≡ events_of_first run plan.region (begun_count run plan.region)
    events_all = all_made (cases_lt c.machine.steps c.machine.fuel) ∙ ap (events_of_first run plan.region) (sym begun_here)

    whole : Continues run (events_of_first run plan.region c.count ++ events) (g.holds.configs ++ configs) (rest_of_run m)
    whole = join run rest (rest_of_run m) (events_of_first run plan.region c.count) events g.holds.configs configs
        (subst (λ (r : ℕ). Continues run (events_of_first run r c.count) g.holds.configs rest) g.region g.holds.piece) went.run

    inside : All (IsInside plan.region) (g.holds.configs ++ configs)
    inside = All-append (IsInside plan.region) g.holds.configs configs (subst (λ (r : ℕ). All (IsInside r) g.holds.configs) g.region g.holds.inside)
        (inside_call plan first c account g m before after events configs went heads_once)

    steps_are : m.steps ≡ first.steps + length (events_of_first run plan.region c.count ++ events)
    steps_are = let size = length-append (events_of_first run plan.region c.count) events in
        omega (arith, size, went.steps, here.steps_are plan first c account g)

    stands_last : StandsInMain first.program m.config
    stands_last =
        stays_in_main first.program first.input g.start.tops (fuel_left first) (length (events_of_first run plan.region c.count ++ events)) first.config
        m.config g.start.stands
        (ap (λ (cs : List Config). slice_get cs (length (events_of_first run plan.region c.count ++ events))) whole.configs
        ∙ get_at_seam (g.holds.configs ++ configs) (rest_of_run m).configs (length (events_of_first run plan.region c.count ++ events)) m.config []
        (sym whole.paired) one_config)

    ended_before : (i : ℕ) → i < c.count → has_ended run plan.region i ≡ true
    ended_before i h =
        let there = earlier_start (starts run plan.region) c.count (suc i) made (starts_here plan first c account g) (omega (arith, h)) in
        ap (λ (o : Option ℕ). is_some o || is_closing run plan.region i) there.1

    -- no other region was reached
    none_reached : (other : ℕ) → other ≢ plan.region → starts run other ≡ []
    none_reached other h =
        others_behind plan.region run (rest_of_run m) (events_of_first run plan.region c.count ++ events) (g.holds.configs ++ configs) whole inside other h
        ∙ ap (λ (cs : List Config). map (beyond (length (events_of_first run plan.region c.count ++ events))) (places (stands_at_head other) 0 cs)) one_config
        ∙ ap (λ (t : Bool). map (beyond (length (events_of_first run plan.region c.count ++ events))) (if t then 0 ∷ [] else []))
        (not_there (last_inside events awaits_is))
      where
        not_there : IsInside plan.region m.config → stands_at_head other m.config ≡ false
        not_there w = not-true (stands_at_head other m.config) (inside_off plan.region other h m.config w)

    pub stops_made : RegionMade first.program plan first m
    stops_made = made_by plan first c account g m (events_of_first run plan.region c.count ++ events) (g.holds.configs ++ configs) (begun_count run plan.region)
        refl events_all whole inside steps_are
        (went.program ∙ g.holds.program) (went.input ∙ g.holds.input) (went.fuel ∙ g.holds.fuel) stands_last (sound ∙ g.is_open.sound)

    pub stops : RegionStops plan first
    stops = record { iteration = c.count; unended = not_ended; before = ended_before; others = none_reached }

    pub report_whole : (more : Account) → Reports more (report_before plan first (c.count + cond (nat_lt c.machine.steps c.machine.fuel) 1 0)) →
        Reports more (region_report first.program plan run)
    report_whole more told = told ∙ ap (told_when more.why) (whole_report plan first (c.count + cond (nat_lt c.machine.steps c.machine.fuel) 1 0) begun_here)
