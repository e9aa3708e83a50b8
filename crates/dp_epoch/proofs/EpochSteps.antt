-- An epoch goes on over one more verdict.
use Rattle.std.proofs.Common.{◌≡◌, ◌⊎◌, inl, inr, refl, sym, ap, ◌∙◌, ℕ, suc, ◌+◌, ◌<◌, Bool, true, false, not, ◌&&◌, ◌≤◌, if◌then◌else◌, List, map, length}
use Rattle.std.proofs.Common.{Option, Some, None, ℤ, arith, subst}
use Rattle.std.specs.Option.{option_map}
use Rattle.std.proofs.lemmas.List.{length-map}
use Rattle.std.proofs.lemmas.Bool.{cases_lt}
use Rattle.dp_base.specs.declared.RegionReport.{RegionReport}
use Rattle.dp_epoch.specs.declared.account.Account.{Account}
use Rattle.dp_tree.specs.declared.Program.{Program}
use Rattle.dp_plan.specs.declared.Plan.{Plan}
use Rattle.dp_tree.specs.Step.{Effect, clear_locals}
use Rattle.dp_tree.specs.Trace.{Run}
use Rattle.dp_tree.specs.Iteration.{iteration, is_closing, has_ended, memory_after}
use Rattle.dp_semantics.specs.Clean.{is_clean}
use Rattle.dp_semantics.specs.Recovery.{epoch, is_recovered}
use Rattle.dp_semantics.specs.Judge.{Clean}
use Rattle.dp_semantics.specs.Verdict.{CleanSince, applied, done_in, effect_in}
use Rattle.dp_semantics.specs.Reported.{report_of}
use Rattle.dp_semantics.specs.EpochKey.{EpochKey}
use Rattle.dp_semantics.specs.EpochVerdicts.{Carried, carried, JudgeState, after_judgement, goes_on, state_at, verdict_at, verdict_by}
use Rattle.dp_meaning.specs.declared.ends.IterEnd.TheVariants as iter_end
use Rattle.dp_meaning.specs.MachineState.{MachineState}
use Rattle.dp_meaning.specs.IterationRun.{IterationRun}
use Rattle.dp_meaning.specs.NextIteration.{memory_behind_stores}
use Rattle.dp_commit.specs.CommittedState.{CommittedState, CarriesNext, region_run}
use Rattle.dp_commit.proofs.Committing.{held_next}
use Rattle.dp_view.specs.Following.{KeptBefore}
use Rattle.dp_view.specs.Viewed.{Viewed}
use Rattle.dp_epoch.specs.Accounts.{CountsClean, HearsOn, Reports, after_clean, seen_clean, told_when}
use Rattle.dp_epoch.specs.Remade.{Remade}
use Rattle.dp_epoch.specs.Progress.{Watching, again_before, report_before, cause_of}
use Rattle.dp_run_plan.specs.RunPlan.{hides_nothing}
use Rattle.dp_epoch.specs.InEpoch.{InEpoch}
use Rattle.dp_epoch.proofs.Here.{memory_is, leads_here}
use Rattle.dp_epoch.proofs.Judged.{IsClean}
use Rattle.dp_epoch.proofs.Carrying.{carries_next}
use Rattle.dp_epoch.proofs.Counting.{again_clean, told_iterations}
use Rattle.dp_epoch.proofs.Rehearing.{heard_all}
use Rattle.dp_epoch.proofs.SeenLemmas.{seen_next}
use Rattle.dp_epoch.proofs.Advancing.{advanced, one_more}

-- a clean iteration has ended
pub ended_of : (a b d e : Bool) → (a && b && d && e) ≡ true → a ≡ true
ended_of true b d e h = refl
ended_of false b d e h = h

module _ (key : EpochKey) (n : ℕ) (first : MachineState) (c : CommittedState) (account : Account) (e : InEpoch key n first c account) (v : Carried)
    (q : IsClean key n first c account e v) where
  abbrev run : Run
  run = region_run first

  abbrev p : Program
  p = first.program

  abbrev plan : Plan
  plan = key.plan

  abbrev i : ℕ
  i = c.count

  pub ended_here : has_ended run plan.region i ≡ true
  ended_here = ended_of (has_ended run plan.region i) _ _ _ q.clean

  pub closing_is : v.closing ≡ is_closing run plan.region i
  closing_is = q.alike.2

  -- What is carried is the next iteration.
  pub carries : CarriesNext c v
  carries =
      let lead : (cells : List ℤ) → memory_behind_stores plan.region p.vars v.stores cells ≡ memory_behind_stores plan.region p.vars
      (carried (done_in plan run i)).stores cells = λ cells.
      subst (λ (x : Program). memory_behind_stores plan.region x.vars v.stores cells ≡ memory_behind_stores plan.region x.vars
      (carried (done_in plan run i)).stores cells) e.key_is.program (q.alike.3 cells) in
      carries_next plan first c account e.progress v q.alike.0 q.alike.1 q.alike.2 lead ended_here

  not_again : is_recovered p plan run i ≡ false
  not_again = ap not q.clean

  -- what is told of the iteration that was committed
  pub report_next : (seen : Option Viewed) (more : Account) → more ≡ after_clean (i + 1) seen account → Reports more (report_before plan first (i + 1))
  report_next seen more is =
      let next : suc i ≡ i + 1 = omega arith in
      ap (λ (a : Account). a.report) is ∙ ap (λ (x : RegionReport). record x { iterations = i + 1 }) e.progress.report_is
      ∙ told_iterations account.why (report_before plan first i) (i + 1)
      ∙ ap (λ (again : List ℕ). told_when account.why (report_of plan.region (i + 1) again (cause_of plan first))) (sym (again_clean plan first i not_again)
      ∙ ap (again_before plan first) next)
      ∙ ap (λ (w : Bool). told_when w (report_before plan first (i + 1))) (sym (ap (λ (a : Account). a.why) is))

  -- what is kept for causes then
  module _ (new : CommittedState) (made : Remade c new v.prints iter_end.Next) (going : is_closing (region_run first) key.plan.region c.count ≡ false) where
    watch_on : (why : Bool) (views seen : Option Viewed) → Watching plan first i why views → HearsOn c.machine new.machine views seen →
        Watching plan first (i + 1) why (option_map seen_clean seen)
    watch_on why None None k heard =
        let next : suc i ≡ i + 1 = omega arith in
        λ asked. (let many = k asked in let same_size = ap length (sym (ap (again_before plan first) next) ∙ again_clean plan first i not_again) in
        omega (arith, many, same_size))
    watch_on why None (Some w) k heard = absurd heard
    watch_on why (Some u) None k heard = absurd heard
    watch_on why (Some u) (Some w) k heard =
        let next : suc i ≡ i + 1 = omega arith in
        let kept = seen_next plan first c account e.progress u k.1 q.clean ended_here going w (heard_all plan first c account e.progress new v.prints None
        made u w k.1 heard) in (
          k.0,
          subst (λ (m : ℕ). KeptBefore p plan run (epoch p plan run m) m (seen_clean w)) next kept,
        )

    pub watching_on : (more : Account) (counted : CountsClean c new account more) → more ≡ after_clean (i + 1) counted.seen account →
        Watching plan first (i + 1) more.why more.views
    watching_on more counted is =
        subst (λ (a : Account). Watching plan first (i + 1) a.why a.views) (sym is)
        (watch_on account.why account.views counted.seen e.progress.views_are counted.heard)

  module _ (turns : ℕ) (before after : List ℤ) (m : MachineState) (call : IterationRun c.region turns c.machine m before after iter_end.Next)
      (open_yet : v.closing ≡ false) where
    pub going : is_closing (region_run first) key.plan.region c.count ≡ false
    going = sym closing_is ∙ open_yet

    abbrev effects : List Effect
    effects = map effect_in (iteration run plan.region i)

    events_are : iteration run plan.region i ≡ call.events
    events_are = ap (λ (r : ℕ). iteration run r i) (sym e.progress.region)
        ∙ (held_next first c e.progress.holds e.progress.is_open m turns before after call).iteration_is

    cells_next : clear_locals plan.region key.program.vars (applied effects c.machine.config.cells) ≡ m.config.cells
    cells_next =
        let lead = leads_here plan first c account e.progress ended_here going in
        let held = (held_next first c e.progress.holds e.progress.is_open m turns before after call).held in
        let next : suc i ≡ i + 1 = omega arith in
        ap (λ (x : Program). clear_locals plan.region x.vars (applied effects c.machine.config.cells)) e.key_is.program
        ∙ ap (λ (cells : List ℤ). clear_locals plan.region p.vars (applied effects cells)) (memory_is plan first c account e.progress)
        ∙ sym lead.memory ∙ ap (memory_after run plan.region) next ∙ ap (λ (r : ℕ). memory_after run r (i + 1)) (sym e.progress.region) ∙ sym held.memory

    steps_next : c.machine.steps + length effects ≡ m.steps
    steps_next = let size = length-map (iteration run plan.region i) effect_in in let events = ap length events_are in
        omega (arith, size, events, call.moved.steps)

    state_next : state_at key (n + 1) ≡ record { cells = m.config.cells; steps = m.steps }
    state_next =
        let next : n + 1 ≡ suc n = omega arith in
        ap (state_at key) next ∙ ap (after_judgement key (state_at key n)) q.judged_so
        ∙ ap (λ (s : JudgeState). after_judgement key s (Clean (done_in plan run i))) e.state
        ∙ ap (λ (cells : List ℤ). record { cells = cells; steps = c.machine.steps + length effects }) cells_next
        ∙ ap (λ (k : ℕ). record { cells = m.config.cells; steps = k }) steps_next

    gone_next : (j : ℕ) → j < n + 1 → goes_on (verdict_at key j) ≡ true
    gone_next j h = by (cases_lt j n)
      where
        by : (j < n) ⊎ (n ≤ j) → goes_on (verdict_at key j) ≡ true
        by (inl low) = e.gone j low
        by (inr high) =
            let same : j ≡ n = omega (arith, h, high) in
            ap (λ (k : ℕ). goes_on (verdict_at key k)) same ∙ ap (λ j. goes_on (verdict_by key n j)) q.judged_so ∙ ap not going

    since_next : CleanSince p plan run key.first (i + 1)
    since_next j low high = by (cases_lt j i)
      where
        by : (j < i) ⊎ (i ≤ j) → is_clean p plan run key.first j ≡ true
        by (inl less) = e.since j low less
        by (inr more) = let same : j ≡ i = omega (arith, high, more) in ap (is_clean p plan run key.first) same ∙ q.since

    begun_next : (epoch p plan run (i + 1) ≡ key.first) ⊎ (hides_nothing p plan ≡ true)
    begun_next = by e.begun
      where
        by : (epoch p plan run i ≡ key.first) ⊎ (hides_nothing p plan ≡ true) → (epoch p plan run (i + 1) ≡ key.first) ⊎ (hides_nothing p plan ≡ true)
        by (inl same) =
            let next : i + 1 ≡ suc i = omega arith in
            inl (ap (epoch p plan run) next ∙ ap (λ (b : Bool). if b then epoch p plan run i else suc i) q.clean ∙ same)
        by (inr hides) = inr hides

    -- The epoch goes on.
    pub epoch_on : (more : Account) → Reports more (report_before plan first (i + 1)) → Watching plan first (i + 1) more.why more.views →
        InEpoch key (n + 1) first (one_more plan first c account e.progress turns before after m) more
    epoch_on more told watching = record {
      progress = advanced plan first c account e.progress turns before after m call more told watching;
      key_is = e.key_is;
      base = e.base;
      own = e.own;
      at_once = e.at_once;
      place = omega (arith, e.place);
      since = since_next;
      begun = begun_next;
      state = state_next;
      gone = gone_next;
    }
