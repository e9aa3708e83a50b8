-- A region from its start to its end: where it begins, and what its end says of the machine and the report.
use Rattle.std.proofs.Common.{◌≡◌, refl, sym, ap, ◌∙◌, subst, arith, ℕ, ◌-◌, Bool, true, false, List, Option, Some, ℤ, slice_get}
use Rattle.dp_epoch.specs.declared.account.Account.{Account}
use Rattle.dp_tree.specs.declared.Program.{Program}
use Rattle.dp_tree.specs.Step.{Config}
use Rattle.dp_tree.specs.Iteration.{cells_in, memory_after, memory_from, places, stands_at_head, start}
use Rattle.dp_plan.specs.declared.Plan.{Plan}
use Rattle.dp_semantics.specs.CauseWalk.{first_watch}
use Rattle.dp_semantics.specs.Reported.{region_report}
use Rattle.dp_meaning.specs.declared.ends.Part.TheVariants.{Region}
use Rattle.dp_meaning.specs.MachineState.{MachineState, fuel_left, next_part, part_at}
use Rattle.dp_meaning.proofs.NextLemmas.{on_region}
use Rattle.dp_commit.specs.CommittedState.{CommittedState, region_run}
use Rattle.dp_commit.proofs.Parts.{run_begins}
use Rattle.dp_view.specs.Viewed.{begun}
use Rattle.dp_epoch.specs.declared.ends.RegionEnd.{RegionEnd}
use Rattle.dp_epoch.specs.RegionRun.{IsPlanned, RegionRan, RegionStart}
use Rattle.dp_epoch.specs.Accounts.{Reports, begun_account, told_when, views_when}
use Rattle.dp_epoch.specs.Progress.{RegionBegins, RegionDone, Watching, report_before}
use Rattle.dp_epoch.specs.InEpoch.{AtEpoch, ToBegin}
use Rattle.dp_epoch.proofs.Starting.{begins_there, region_starts}

-- what is told and kept where the region begins
begun_report : (p : Program) (plan : Plan) (first : MachineState) (why : Bool) → Reports (begun_account p plan first.config.cells why)
    (report_before plan first 0)
begun_report p plan first true = refl
begun_report p plan first false = refl

module _ (plan : Plan) (first : MachineState) (s : RegionBegins plan first) where
  first_cells : memory_after (region_run first) plan.region 0 ≡ first.config.cells
  first_cells =
      let begins = run_begins first.program first.input (fuel_left first) first.config in
      let there : stands_at_head plan.region first.config ≡ true = on_region plan.region first.config
      (sym (ap (λ k. part_at k first.config.to_do) s.between) ∙ s.next) in
      let starts_at : start (region_run first) plan.region 0 ≡ Some 0 = ap (λ (cs : List Config). slice_get (places (stands_at_head plan.region) 0 cs) 0)
      begins.1 ∙ (rw there) in
      ap (λ (o : Option ℕ). memory_from (region_run first) o (start (region_run first) plan.region (0 - 1))) starts_at
      ∙ ap (λ (cs : List Config). cells_in (slice_get cs 0)) begins.1

  watching_first : (why : Bool) → Watching plan first 0 why (views_when why (begun first.program plan first.config.cells))
  watching_first true = (
    refl,
    record {
      program = refl;
      plan_is = refl;
      watch = ap (first_watch plan) (sym first_cells);
      source = sym first_cells;
      before = sym first_cells;
      found = refl;
      since = omega arith;
      epoch = refl;
      clean = λ j low high. absurd (omega (arith, high));
    },
  )
  watching_first false = λ asked. absurd (cc asked)

module _ (p : Program) (plan : Plan) (input : List ℤ) (first : MachineState) (s : RegionStart p plan input first) where
  pub region_begins : (q : IsPlanned p plan) (c : CommittedState) → ((region : ℕ) → next_part first ≡ Region region →
      c ≡ record { machine = first; region = region; count = 0 }) →
      (account : Account) (why : Bool) → account ≡ begun_account p plan first.config.cells why → ToBegin p plan input first c account
  region_begins q c made account why is = let begins = begins_there p plan input first q s in record {
    at_epoch = subst (λ (x : CommittedState). AtEpoch plan first x account) (sym (made plan.region s.next))
        (subst (AtEpoch plan first (record { machine = first; region = plan.region; count = 0 })) (sym is)
        (region_starts plan first begins (begun_account p plan first.config.cells why) (begun_report p plan first why)
        (subst (λ (x : Program). Watching plan first 0 why (views_when why (begun x plan first.config.cells))) s.program_is
        (watching_first plan first begins why))));
    program_is = s.program_is;
    input_is = s.input_is;
  }

  pub region_ran : (c : CommittedState) (account : Account) (end : RegionEnd) (last : MachineState) → RegionDone plan first c account end → last ≡ c.machine →
      RegionRan p plan first last end
  region_ran c account end last d e =
      subst (λ (m : MachineState). RegionRan p plan first m end) (sym e) (subst (λ (x : Program). RegionRan x plan first c.machine end) s.program_is d.ran)

  pub region_reported : (c : CommittedState) (account : Account) (end : RegionEnd) → RegionDone plan first c account end →
      Reports account (region_report p plan (region_run first))
  region_reported c account end d = d.report_is ∙ ap (λ (x : Program). told_when account.why (region_report x plan (region_run first))) s.program_is

-- nothing is committed at the start
pub none_yet : (first : MachineState) (c : CommittedState) (r : ℕ) → next_part first ≡ Region r → ((region : ℕ) → next_part first ≡ Region region →
    c ≡ record { machine = first; region = region; count = 0 }) → c.count ≡ 0
none_yet first c r next made = ap (λ (x : CommittedState). x.count) (made r next)
