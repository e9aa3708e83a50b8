-- A region starts as the caller gives it: an inlined program, a valid plan of it, and the machine at the plan's region. Its first epoch begins there.
use Rattle.std.proofs.Common.{◌≡◌, inl, refl, sym, ap, ◌∙◌, subst, ℕ, ◌-◌, true, List, [], ℤ, Option, Some, slice_get, arith}
use Rattle.std.proofs.lemmas.List.Elements.{All-nil}
use Rattle.dp_tree.specs.declared.Program.{Program}
use Rattle.dp_tree.specs.InMain.{StandsInMain}
use Rattle.dp_tree.specs.Numbering.{regions_in_order}
use Rattle.dp_tree.specs.Step.{Config}
use Rattle.dp_tree.specs.Iteration.{start, places, stands_at_head, memory_from, cells_in}
use Rattle.dp_plan.specs.declared.Plan.{Plan}
use Rattle.dp_plan.specs.Written.{written_of}
use Rattle.dp_plan.proofs.PlanBack.{plan_back, plan_fits}
use Rattle.dp_plan.proofs.RegionFacts.{in_order}
use Rattle.dp_plan.proofs.RulesHold.{valid_unbroken}
use Rattle.dp_semantics.specs.Fits.{fits_plan}
use Rattle.dp_theorem.proofs.ValidFits.{valid_fits}
use Rattle.dp_theorem.proofs.GivenFits.{filled}
use Rattle.dp_meaning.specs.MachineState.{MachineState, fuel_left, part_at}
use Rattle.dp_meaning.proofs.NextLemmas.{on_region}
use Rattle.dp_commit.specs.CommittedState.{IsInside, region_run}
use Rattle.dp_commit.proofs.Parts.{run_begins}
use Rattle.dp_epoch.specs.RegionRun.{IsPlanned, RegionStart}
use Rattle.dp_epoch.specs.Progress.{RegionBegins, Watching, report_before}
use Rattle.dp_epoch.specs.declared.account.Account.{Account}
use Rattle.dp_epoch.specs.Accounts.{Reports}
use Rattle.dp_epoch.specs.InEpoch.{AtEpoch}

pub planned_fits : (p : Program) (plan : Plan) → IsPlanned p plan → fits_plan p plan ≡ true
planned_fits p plan q =
    let order = in_order p q.inlined plan q.counted (omega (arith, q.known)) in
    valid_fits p plan q.inlined (written_of p plan) (record {
      valid = valid_unbroken p (written_of p plan) q.is_plan.valid;
      filled = filled (written_of p plan).stages (plan_fits p plan q.is_plan order).stages;
      plan_is = sym (plan_back p plan q.is_plan order);
    })

-- So the plan fits, and the region may begin.
pub begins_there : (p : Program) (plan : Plan) (input : List ℤ) (first : MachineState) → IsPlanned p plan → RegionStart p plan input first →
    RegionBegins plan first
begins_there p plan input first q s = record {
  fits = ap (λ (x : Program). fits_plan x plan) s.program_is ∙ planned_fits p plan q;
  tops = ap (λ (x : Program). regions_in_order 1 x.main) s.program_is ∙ q.inlined.regions;
  stands = subst (λ (x : Program). StandsInMain x first.config) (sym s.program_is) s.stands;
  next = s.next;
  between = s.between;
  sound = s.sound;
}

-- nothing is committed yet
pub region_starts : (plan : Plan) (first : MachineState) → RegionBegins plan first → (account : Account) → Reports account (report_before plan first 0) →
    Watching plan first 0 account.why account.views → AtEpoch plan first (record { machine = first; region = plan.region; count = 0 }) account
region_starts plan first s account is watching =
    let begins = run_begins first.program first.input (fuel_left first) first.config in
    let there : stands_at_head plan.region first.config ≡ true = on_region plan.region first.config
    (sym (ap (λ k. part_at k first.config.to_do) s.between) ∙ s.next) in
    let starts_at : start (region_run first) plan.region 0 ≡ Some 0 = ap (λ (cs : List Config). slice_get (places (stands_at_head plan.region) 0 cs) 0)
    begins.1 ∙ (rw there) in
    record {
      progress = record {
        start = s;
        region = refl;
        is_open = record { next = s.next; between = s.between; sound = s.sound };
        holds = record {
          memory = sym (ap (λ (o : Option ℕ). memory_from (region_run first) o (start (region_run first) plan.region (0 - 1))) starts_at
              ∙ ap (λ (cs : List Config). cells_in (slice_get cs 0)) begins.1);
          steps = omega arith;
          configs = [];
          piece = record { trace = refl; configs = refl; end = refl; fuel = omega arith; paired = refl };
          inside = All-nil (IsInside plan.region);
          reached = starts_at ∙ (rw there);
          program = refl;
          input = refl;
          fuel = refl;
        };
        left = refl;
        report_is = is;
        views_are = watching;
      };
      fresh = inl refl;
    }
