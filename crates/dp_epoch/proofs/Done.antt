-- The region has ended: it was left.
use Rattle.std.proofs.Common.{◌≡◌, refl, sym, ap, ◌∙◌, subst, ℕ, suc, ◌+◌, ◌<◌, Bool, true, false, cond, List, [], ◌∷◌, All, map, drop, length, lt-ltb, Option}
use Rattle.std.proofs.Common.{Some, None, ℤ, arith}
use Rattle.dp_epoch.specs.declared.account.Account.{Account}
use Rattle.dp_plan.specs.declared.Plan.{Plan}
use Rattle.dp_tree.specs.Step.{Config, Event}
use Rattle.dp_tree.specs.Trace.{Run}
use Rattle.dp_tree.specs.Iteration.{starts, start, begun_count, iteration, closes, is_closing}
use Rattle.dp_tree.specs.IterationLaws.{events_of_first}
use Rattle.dp_tree.specs.GoesOn.{moved}
use Rattle.dp_meaning.specs.declared.ends.IterEnd.TheVariants as iter_end
use Rattle.dp_meaning.specs.Continues.{Continues}
use Rattle.dp_meaning.specs.MachineState.{MachineState, rest_of_run}
use Rattle.dp_meaning.specs.IterationRun.{IterationRun, has_closed}
use Rattle.dp_commit.specs.CommittedState.{CommittedState, HoldsCommitted, IsInside, region_run, steps_of_first}
use Rattle.dp_commit.proofs.Committing.{held_closed}
use Rattle.dp_tree.specs.InMain.{StandsInMain}
use Rattle.dp_epoch.specs.declared.ends.RegionEnd.TheVariants as region_end
use Rattle.dp_epoch.specs.RegionRun.{RegionMade, beyond}
use Rattle.dp_epoch.specs.Accounts.{Reports, told_when}
use Rattle.dp_epoch.specs.Progress.{Progress, RegionDone, report_before}
use Rattle.dp_epoch.proofs.Counting.{whole_report}
use Rattle.dp_epoch.proofs.Here.{first_there, goes_here, once, rest_fuel, stands_there}
use Rattle.dp_commit.proofs.Going.{started}
use Rattle.dp_epoch.proofs.Ending.{others_behind, last_begun, piece}

unmoved : (made : ℕ) (k : Option ℕ) → moved made k ≡ None → k ≡ None
unmoved made None e = refl
unmoved made (Some k) e = absurd (cc)

module _ (plan : Plan) (first : MachineState) (c : CommittedState) (account : Account) (g : Progress plan first c account) (m : MachineState) where
  abbrev run : Run
  run = region_run first

  abbrev rest : Run
  rest = rest_of_run c.machine

  abbrev made : ℕ
  made = steps_of_first (region_run first) plan.region c.count

  -- all begun iterations were made
  pub made_by : (events : List Event) (configs : List Config) (n : ℕ) → begun_count run plan.region ≡ n → events ≡ events_of_first run plan.region n →
      Continues run events configs (rest_of_run m) → All (IsInside plan.region) configs →
      m.steps ≡ first.steps + length events → m.program ≡ first.program → m.input ≡ first.input → m.fuel ≡ first.fuel → StandsInMain first.program m.config →
      m.spoiled ≡ false → RegionMade first.program plan first m
  made_by events configs n count is piece inside steps program input fuel stands sound =
      let same : events ≡ events_of_first run plan.region (begun_count run plan.region) = is ∙ ap (events_of_first run plan.region) (sym count) in
      record {
        configs = configs;
        piece = subst (λ (es : List Event). Continues run es configs (rest_of_run m)) same piece;
        steps = steps ∙ ap (λ (es : List Event). first.steps + length es) same;
        others = λ other h. others_behind plan.region run (rest_of_run m) events configs piece inside other h
            ∙ ap (λ (es : List Event). map (beyond (length es)) (starts (rest_of_run m) other)) same;
        program = program;
        input = input;
        fuel = fuel;
        stands = stands;
        sound = sound;
      }

  next_start : start run plan.region (c.count + 1) ≡ moved made (start rest plan.region 1)
  next_start = (goes_here plan first c account g).started 1

  -- The region was left.
  module _ (turns : ℕ) (before after : List ℤ) (call : IterationRun c.region turns c.machine m before after iter_end.Closed) where
    held : HoldsCommitted first (record c { machine = m; count = c.count + 1 })
    held = (held_closed first c g.holds g.is_open m turns before after (once plan first c account g c.count _ (started first c g.holds g.is_open)) call).held

    pub events_are : iteration run plan.region c.count ≡ call.events
    events_are = ap (λ (r : ℕ). iteration run r c.count) (sym g.region)
        ∙ (held_closed first c g.holds g.is_open m turns before after
        (once plan first c account g c.count _ (started first c g.holds g.is_open)) call).iteration_is

    pub closing_here : is_closing run plan.region c.count ≡ true
    closing_here = ap closes events_are ∙ ap (λ (o : Option ℕ). has_closed o call.events) (sym g.is_open.between) ∙ call.stops.closed

    none_left : start rest plan.region 1 ≡ None
    none_left =
        unmoved made (start rest plan.region 1) (sym next_start ∙ ap (λ (r : ℕ). start run r (c.count + 1)) (sym g.region)
        ∙ once plan first c account g c.count _ (started first c g.holds g.is_open) (ap (λ (r : ℕ). is_closing run r c.count) g.region ∙ closing_here))

    pub some_step : c.machine.steps < c.machine.fuel
    some_step = by call.events refl
      where
        by : (es : List Event) → call.events ≡ es → c.machine.steps < c.machine.fuel
        by [] e =
            let none : has_closed c.machine.current [] ≡ true = ap (has_closed c.machine.current) (sym e) ∙ call.stops.closed in
            let clash : has_closed None [] ≡ true = ap (λ (o : Option ℕ). has_closed o []) (sym g.is_open.between) ∙ none in absurd (cc clash)
        by (x ∷ es) e = let size = ap length e in omega (arith, size, call.moved.run.fuel, rest_fuel c.machine)

    pub begun_is : begun_count run plan.region ≡ c.count + 1
    begun_is = last_begun plan first c account g none_left ∙ ap (λ (b : Bool). c.count + cond b 1 0) (lt-ltb c.machine.steps c.machine.fuel some_step)

    stands : StandsInMain first.program m.config
    stands = stands_there plan first g.start (record c { machine = m; count = c.count + 1 }) held

    pub closed_done : (more : Account) → Reports more (report_before plan first (c.count + 1)) →
        RegionDone plan first (record c { machine = m; count = c.count + 1 }) more region_end.Closed
    closed_done more told = record {
      ran = record {
        made = made_by (events_of_first run c.region (c.count + 1)) held.configs (c.count + 1) begun_is
            (ap (λ (r : ℕ). events_of_first run r (c.count + 1)) g.region) held.piece
            (subst (λ (r : ℕ). All (IsInside r) held.configs) g.region held.inside) held.steps held.program held.input held.fuel stands
            (call.spoiled ∙ g.is_open.sound);
        ends = record {
          iteration = c.count;
          is_last = begun_is ∙ (let e : c.count + 1 ≡ suc c.count = omega arith in e);
          closing = closing_here;
          left = call.stops.rest ∙ ap (drop 1) (first_there plan first c account g);
          between = call.stops.current;
        };
      };
      report_is = told ∙ ap (told_when more.why) (whole_report plan first (c.count + 1) begun_is);
    }
