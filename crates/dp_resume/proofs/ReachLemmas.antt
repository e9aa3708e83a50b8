-- A region that is brought up to an iteration: where each iteration leads, and what is left to be printed.
use Rattle.std.proofs.Common.{◌≡◌, refl, sym, ap, ◌∙◌, subst, ℕ, zero, suc, ◌+◌, ◌≤◌, Bool, true, false, ◌||◌, List, [], ◌∷◌, ◌++◌, ℤ, length, Option, Some}
use Rattle.std.proofs.Common.{None, is_some, slice_get, nat_lt, append_assoc, arith, rules}
use Rattle.std.proofs.lemmas.List.{append_cancel_left}
use Rattle.std.proofs.lemmas.Option.{slice_get_past}
use Rattle.dp_tree.specs.declared.Program.{Program}
use Rattle.dp_tree.specs.Step.{Config, Event}
use Rattle.dp_tree.specs.Trace.{Run, prints}
use Rattle.dp_tree.specs.Iteration.{has_ended, is_begun, is_closing, is_within, iteration, start, starts}
use Rattle.dp_tree.specs.IterationLaws.{AreAdjacent, events_of_first}
use Rattle.dp_tree.proofs.IterationLaws.{iterations_adjoin}
use Rattle.dp_tree.proofs.RunLaws.{runs_by_step}
use Rattle.dp_plan.specs.declared.Plan.{Plan}
use Rattle.dp_semantics.specs.Reported.{region_report}
use Rattle.dp_meaning.specs.declared.ends.IterEnd.{IterEnd}
use Rattle.dp_meaning.specs.declared.ends.IterEnd.TheVariants.{Next, Closed, Fault, Fuel, Going}
use Rattle.dp_meaning.specs.Continues.{Continues}
use Rattle.dp_meaning.specs.MachineState.{MachineState, fuel_left, rest_of_run}
use Rattle.dp_meaning.proofs.MovedLemmas.{prints-append}
use Rattle.dp_commit.specs.CommittedState.{CommittedState, region_run, steps_of_first}
use Rattle.dp_theorem.proofs.Central.{fuel_is}
use Rattle.dp_epoch.specs.Accounts.{told_when}
use Rattle.dp_epoch.specs.declared.account.Account.{Account}
use Rattle.dp_epoch.specs.declared.ends.RegionEnd.{RegionEnd}
use Rattle.dp_epoch.specs.declared.ends.RegionEnd.TheVariants as region_end
use Rattle.dp_epoch.specs.Progress.{Progress, report_before}
use Rattle.dp_epoch.specs.RegionRun.{RegionRan}
use Rattle.dp_epoch.proofs.Here.{closes_once, starts_here}
use Rattle.dp_audit.specs.declared.group.Group.{Group}
use Rattle.dp_audit.specs.declared.runner.Runner.{Runner}
use Rattle.dp_audit.specs.Groups.{GivesGroup, RegionHasEnded, IsGroup, StandsBehind, is_left, is_iteration_over}
use Rattle.dp_audit.specs.Runs.{RegionStands}
use Rattle.dp_crew.specs.Output.{Emits}
use Rattle.dp_crew.proofs.StreamLemmas.{emits_nothing}
use Rattle.dp_run.specs.Stretches.{to_come}
use Rattle.dp_run.proofs.Passing.{prints_on}
use Rattle.dp_resume.specs.steps.Reaching.{EndsBefore, StandsBefore, Steps, Stops, ended_so, machine_of}
use Rattle.dp_resume.proofs.ToldReports.{no_causes}

-- ---- an end, or none

pub none_some : {X : Type 0} (o : Option X) → o ≡ None → is_some o ≡ true → ⊥
none_some None e h = cc h
none_some (Some x) e h = cc e

pub no_end : {X : Type 0} (o : Option X) → is_some o ≡ false → o ≡ None
no_end None h = refl
no_end (Some x) h = absurd (cc h)

-- ---- iterations that aren't reached

past : {X : Type 0} (xs : List X) (n : ℕ) → slice_get xs n ≡ None → length xs ≤ n
past [] n e = omega arith
past (x ∷ xs) zero e = absurd (cc e)
past (x ∷ xs) (suc n) e = let more = past xs n e in omega (arith, more)

-- a later one isn't, either
pub start_later : (run : Run) (r n m : ℕ) → n ≤ m → start run r n ≡ None → start run r m ≡ None
start_later run r n m le e = slice_get_past (starts run r) m (let few = past (starts run r) n e in omega (arith, few, le))

none_ended : (o : Option ℕ) (closing : Bool) → (is_some o || closing) ≡ false → o ≡ None
none_ended None closing e = refl
none_ended (Some k) closing e = absurd (cc e)

no_within : (fuel k : ℕ) (o : Option ℕ) → o ≡ Some k → is_within fuel o ≡ false → fuel ≤ k
no_within fuel k o e h = let off : nat_lt k fuel ≡ false = sym (ap (is_within fuel) e) ∙ h in search rules

-- behind an iteration that isn't begun there is none
unbegun : (first : MachineState) (r n k : ℕ) → start (region_run first) r n ≡ Some k → is_begun (region_run first) r n ≡ false →
    start (region_run first) r (suc n) ≡ None
unbegun first r n k here off = by (start (region_run first) r (suc n)) refl
  where
    high : (region_run first).fuel ≤ k
    high = no_within (region_run first).fuel k (start (region_run first) r n) here off

    all : AreAdjacent (region_run first) r
    all = iterations_adjoin first.program first.input (fuel_left first) first.config r

    few : length (region_run first).trace ≤ (region_run first).fuel
    few =
        let steps = (runs_by_step first.program first.input (fuel_left first) first.config).steps_within in
        let fuel = fuel_is first.program first.input (fuel_left first) first.config in omega (arith, steps, fuel)

    by : (o : Option ℕ) → start (region_run first) r (suc n) ≡ o → o ≡ None
    by None e = refl
    by (Some next) e = absurd (let up = all.ascending n k next here e in let low = all.within (suc n) next e in omega (arith, up, low, high, few))

-- ---- what is left to be printed

module _ (run old new : Run) (before it : List Event) (cs ds : List Config) (c : Continues run before cs old) (d : Continues run (before ++ it) ds new) where
  prints_step : prints old.trace ≡ prints it ++ prints new.trace
  prints_step =
      append_cancel_left (prints before) (prints old.trace) (prints it ++ prints new.trace)
      (sym (prints_on run old before cs c) ∙ prints_on run new (before ++ it) ds d ∙ ap (λ (zs : List ℤ). zs ++ prints new.trace) (prints-append before it)
      ∙ append_assoc (prints before) (prints it) (prints new.trace))

prints_none : (run old new : Run) (before : List Event) (cs ds : List Config) → Continues run before cs old → Continues run before ds new →
    prints old.trace ≡ prints new.trace
prints_none run old new before cs ds c d =
    append_cancel_left (prints before) (prints old.trace) (prints new.trace) (sym (prints_on run old before cs c) ∙ prints_on run new before ds d)

-- ---- one iteration

module _ (p : Program) (plan : Plan) (input : List ℤ) (first : MachineState) (n : ℕ) (old new : Runner) (s : RegionStands p plan input first n old) where
  abbrev run : Run
  run = region_run first

  -- the run goes on from here
  piece_at : (c : CommittedState) (account : Account) (k : ℕ) → Progress plan first c account → c.count ≡ k → (cs : List Config)
      × Continues (region_run first) (events_of_first (region_run first) plan.region k) cs (rest_of_run c.machine)
  piece_at c account k g count = (
    g.holds.configs,
    subst (λ (r : ℕ). Continues (region_run first) (events_of_first (region_run first) r k) g.holds.configs (rest_of_run c.machine)) g.region
        (subst (λ (m : ℕ). Continues (region_run first) (events_of_first (region_run first) c.region m) g.holds.configs (rest_of_run c.machine))
        count g.holds.piece),
  )

  pub old_piece : (cs : List Config) × Continues (region_run first) (events_of_first (region_run first) plan.region n) cs (rest_of_run (machine_of old))
  old_piece = piece_at old.ledger.committed old.ledger.account n s.progress s.count

  started : (k : ℕ) × (start (region_run first) plan.region n ≡ Some k)
  started =
      let k = steps_of_first (region_run first) plan.region old.ledger.committed.count in (
        steps_of_first (region_run first) plan.region old.ledger.committed.count,
        subst (λ (m : ℕ). start (region_run first) plan.region m ≡ Some
            k) s.count (starts_here plan first old.ledger.committed old.ledger.account s.progress),
      )

  ended_piece : (k : ℕ) (end : RegionEnd) (h : RegionHasEnded plan first k new end) →
      Continues (region_run first) (events_of_first (region_run first) plan.region k) h.done.ran.made.configs (rest_of_run (machine_of new))
  ended_piece k end h = subst (λ (m : ℕ). Continues (region_run first) (events_of_first (region_run first) plan.region m) h.done.ran.made.configs
      (rest_of_run (machine_of new))) h.begun h.done.ran.made.piece

  plus : suc n ≡ n + 1
  plus = omega arith

  ends_before : (k : ℕ) (end : RegionEnd) → RegionHasEnded plan first k new end → start (region_run first) plan.region (suc n) ≡ None →
      EndsBefore p plan first (machine_of new) (n + 1) new.ledger.account.report end
  ends_before k end h none = record {
    ran = subst (λ (q : Program). RegionRan q plan first (machine_of new) end) s.kept.program_is h.done.ran;
    report_is = ap (told_when false) h.done.report_is ∙ no_causes new.ledger.account.why (region_report first.program plan (region_run first))
        ∙ ap (λ (q : Program). told_when false (region_report q plan (region_run first))) s.kept.program_is;
    unreached = ap (start (region_run first) plan.region) (sym plus) ∙ none;
  }

  -- The fuel is spent before it.
  pub spent : GivesGroup p plan input first n new None → Steps p plan input first n new (Some region_end.Fuel)
  spent g = ends_before n region_end.Fuel g.1 (unbegun first plan.region n started.0 started.1 g.0)

  pub spent_prints : GivesGroup p plan input first n new None → to_come (machine_of old) ≡ to_come (machine_of new)
  spent_prints g = prints_none (region_run first) (rest_of_run (machine_of old)) (rest_of_run (machine_of new))
      (events_of_first (region_run first) plan.region n) old_piece.0 g.1.done.ran.made.configs old_piece.1 (ended_piece n region_end.Fuel g.1)

  closed_next : is_closing (region_run first) plan.region n ≡ true → start (region_run first) plan.region (suc n) ≡ None
  closed_next closing = ap (start (region_run first) plan.region) plus ∙ closes_once plan first s.progress.start n started.0 started.1 closing

  stopped_next : has_ended (region_run first) plan.region n ≡ false → start (region_run first) plan.region (suc n) ≡ None
  stopped_next off = none_ended (start (region_run first) plan.region (suc n)) (is_closing (region_run first) plan.region n) off

  -- Where an iteration that was made leads.
  leads : (end : IterEnd) (group : Group) → group.end ≡ end → IsGroup p plan (region_run first) n group → StandsBehind p plan input first (n + 1) new end →
      Steps p plan input first n new (ended_so end)
  leads Next group e g behind = behind
  leads Closed group e g behind = ends_before (n + 1) region_end.Closed behind (closed_next (g.left ∙ ap is_left e))
  leads (Fault fault) group e g behind = ends_before (n + 1) (region_end.Fault fault) behind (stopped_next (g.over ∙ ap is_iteration_over e))
  leads Fuel group e g behind = ends_before (n + 1) region_end.Fuel behind (stopped_next (g.over ∙ ap is_iteration_over e))
  leads Going group e g behind = absurd behind

  pub made : (group : Group) → GivesGroup p plan input first n new (Some group) → Steps p plan input first n new (ended_so group.end)
  made group g = leads group.end group refl g.0 g.1

  new_piece : (end : IterEnd) → StandsBehind p plan input first (n + 1) new end → (cs : List Config)
      × Continues (region_run first) (events_of_first (region_run first) plan.region (n + 1)) cs (rest_of_run (machine_of new))
  new_piece Next behind = piece_at new.ledger.committed new.ledger.account (n + 1) behind.progress behind.count
  new_piece Closed behind = (behind.done.ran.made.configs, ended_piece (n + 1) region_end.Closed behind)
  new_piece (Fault fault) behind = (behind.done.ran.made.configs, ended_piece (n + 1) (region_end.Fault fault) behind)
  new_piece Fuel behind = (behind.done.ran.made.configs, ended_piece (n + 1) region_end.Fuel behind)
  new_piece Going behind = absurd behind

  pub made_prints : (group : Group) → GivesGroup p plan input first n new (Some group) → to_come (machine_of old) ≡ group.prints ++ to_come (machine_of new)
  made_prints group g =
      let q = new_piece group.end g.1 in
      let d : Continues (region_run first) (events_of_first (region_run first) plan.region n ++ iteration (region_run first) plan.region n) q.0
      (rest_of_run (machine_of new)) =
      subst (λ (m : ℕ). Continues (region_run first) (events_of_first (region_run first) plan.region m) q.0 (rest_of_run (machine_of new))) (sym plus) q.1 in
      prints_step (region_run first) (rest_of_run (machine_of old)) (rest_of_run (machine_of new)) (events_of_first (region_run first) plan.region n)
      (iteration (region_run first) plan.region n) old_piece.0 q.0 old_piece.1 d
      ∙ ap (λ (zs : List ℤ). zs ++ to_come (machine_of new)) (sym g.0.prints_are)

-- ---- several iterations

-- how far so many iterations lead
abbrev pub Reached : Program → Plan → List ℤ → MachineState → ℕ → Runner → Option RegionEnd → Type 0
Reached p plan input first made r None = RegionStands p plan input first made r
Reached p plan input first made r (Some end) = EndsBefore p plan first (machine_of r) made r.ledger.account.report end

module _ (p : Program) (plan : Plan) (input : List ℤ) (first : MachineState) where
  pub reached_step : (n : ℕ) (r : Runner) (end : Option RegionEnd) → Steps p plan input first n r end → Reached p plan input first (n + 1) r end
  reached_step n r None s = s
  reached_step n r (Some end) s = s

  stands_before : (n : ℕ) (r : Runner) → RegionStands p plan input first n r → StandsBefore plan first (machine_of r) n r.ledger.account.report
  stands_before n r s = record {
    committed = r.ledger.committed;
    account = r.ledger.account;
    machine_is = refl;
    count = s.count;
    progress = s.progress;
    report_is =
        s.progress.report_is ∙ ap (λ (b : Bool). told_when b (report_before plan first r.ledger.committed.count)) s.kept.unasked
        ∙ ap (λ (k : ℕ). told_when false (report_before plan first k)) s.count;
  }

  -- all that were to be made, or the region's end
  pub reached_all : (made after : ℕ) (r : Runner) (end : Option RegionEnd) → Reached p plan input first made r end → made ≤ after →
      (end ≡ None → after ≤ made) → Stops p plan first after (machine_of r) r.ledger.account.report end
  reached_all made after r None s low high =
      let same : made ≡ after = let le = high refl in omega (arith, low, le) in
      subst (λ (k : ℕ). StandsBefore plan first (machine_of r) k r.ledger.account.report) same (stands_before made r s)
  reached_all made after r (Some end) s low high =
      record { ran = s.ran; report_is = s.report_is; unreached = start_later (region_run first) plan.region made after low s.unreached }

  -- before the first one nothing was made
  pub begun_prints : (r : Runner) → RegionStands p plan input first 0 r → to_come (machine_of r) ≡ to_come first
  begun_prints r s =
      let q = piece_at p plan input first 0 r r s r.ledger.committed r.ledger.account 0 s.progress s.count in
      sym (prints_on (region_run first) (rest_of_run (machine_of r)) [] q.0 q.1)

-- ---- what waits

module _ (before printed after : List ℤ) (old new : MachineState) (told tells : Option (List ℕ)) where
  -- the prints of an iteration wait behind the others
  pub waits : after ≡ before ++ printed → to_come old ≡ printed ++ to_come new → before ++ to_come old ≡ after ++ to_come new
  waits is e = ap (λ (zs : List ℤ). before ++ zs) e ∙ sym (append_assoc before printed (to_come new)) ∙ ap (λ (zs : List ℤ). zs ++ to_come new) (sym is)

  pub emits_none : to_come old ≡ to_come new → Emits (before ++ to_come old) (before ++ to_come new) told told
  emits_none e = subst (λ (zs : List ℤ). Emits (before ++ to_come old) (before ++ zs) told told) e (emits_nothing (before ++ to_come old) told)
