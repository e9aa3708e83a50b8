-- What a call that ran the next region leaves to its caller.
use Rattle.std.proofs.Common.{◌≡◌, sym, ap, subst, ◌∙◌, ℕ, suc, ◌+◌, ◌≤◌, Bool, List, [], ℤ, length, take, nat_lt, Option, arith}
use Rattle.std.proofs.lemmas.List.Sums.{count_by-le-length}
use Rattle.dp_base.specs.declared.RegionReport.{RegionReport}
use Rattle.dp_tree.specs.declared.Program.{Program}
use Rattle.dp_tree.specs.Inlined.{IsInlined}
use Rattle.dp_tree.specs.InMain.{StandsInMain}
use Rattle.dp_tree.specs.Trace.{Run, prints}
use Rattle.dp_tree.specs.Iteration.{begun_count, starts}
use Rattle.dp_tree.specs.IterationLaws.{events_of_first}
use Rattle.dp_plan.specs.declared.Plan.{Plan}
use Rattle.dp_semantics.specs.Recovery.{recovered}
use Rattle.dp_semantics.specs.Reported.{region_report}
use Rattle.dp_report.specs.PrintsText.{prints_bytes}
use Rattle.dp_edge.specs.Sink.{appended}
use Rattle.dp_meaning.specs.declared.ends.Part.TheVariants as part
use Rattle.dp_meaning.specs.MachineState.{MachineState, part_of, rest_of_run}
use Rattle.dp_epoch.specs.declared.ends.RegionEnd.{RegionEnd}
use Rattle.dp_edge.specs.Writing.{WritesFront}
use Rattle.dp_crew.specs.Output.{Emits}
use Rattle.dp_epoch.specs.Accounts.{told_when}
use Rattle.dp_epoch.proofs.Counting.{told_begun, told_count}
use Rattle.dp_epoch.specs.RegionRun.{IsPlanned, RegionRan, region_run, region_prints}
use Rattle.dp_run.specs.RunText.{committed_count}
use Rattle.dp_run.specs.Stretches.{Between, FrontBefore, HasPassed, to_come}
use Rattle.dp_theorem.proofs.OnceInMain.{regions_once}
use Rattle.dp_crew.proofs.StreamLemmas.{front_within}
use Rattle.dp_run.proofs.Before.{before_less, before_nothing, before_on}
use Rattle.dp_run.proofs.Leading.{stands_here}
use Rattle.dp_run.proofs.RegionFirst.{prints_before}
use Rattle.dp_run.proofs.Prints.{region_emits, region_front}
use Rattle.dp_run.proofs.Regions.{comes}
use Rattle.dp_run.proofs.Reporting.{report_is, few_recovered}

-- The region's prints were written, and the rest is to come.
pub ran_emits : (p : Program) (plan : Plan) (first last : MachineState) (end : RegionEnd) (told tells : Option (List ℕ)) → RegionRan p plan first last end →
    tells ≡ appended (prints_bytes (region_prints (region_run first) plan.region)) told → Emits (to_come first) (to_come last) told tells
ran_emits p plan first last end told tells ran w = region_emits first last plan.region ran.made.configs told tells ran.made.piece w

-- No later region was reached in it ..
ran_passed : (p : Program) (plan : Plan) (first last : MachineState) (end : RegionEnd) → RegionRan p plan first last end →
    HasPassed (rest_of_run first) (rest_of_run last) (suc plan.region)
ran_passed p plan first last end ran = record {
  events = events_of_first (region_run first) plan.region (begun_count (region_run first) plan.region);
  configs = ran.made.configs;
  piece = ran.made.piece;
  ahead = λ r h. ran.made.others r (λ e. absurd (omega (arith, e, h)));
}

module _ (p : Program) (plan : Plan) (first last : MachineState) (end : RegionEnd) (told mid tells : Option (List ℕ)) (ran : RegionRan p plan first last end)
    (w : mid ≡ appended (prints_bytes (region_prints (region_run first) plan.region)) told) where
  -- .. so it stopped before each where it stopped behind it before any,
  pub ran_before : FrontBefore 0 [] last mid tells → FrontBefore (suc plan.region) [] first told tells
  ran_before f =
      before_on first last (suc plan.region) (ran_passed p plan first last end ran) [] [] told mid tells (ran_emits p plan first last end told mid ran w)
      (suc plan.region) (omega arith)
      (before_less [] last mid tells 0 (suc plan.region) (omega arith) f)

  -- or at once
  pub ran_before_nothing : tells ≡ mid → FrontBefore (suc plan.region) [] first told tells
  ran_before_nothing same = ran_before (before_nothing [] last mid tells 0 same)

module _ (p : Program) (plan : Plan) (input : List ℤ) (fuel : ℕ) (run : Run) (n : ℕ) (m : MachineState) (planned : IsPlanned p plan)
    (number : plan.region ≡ suc n) (b : Between p input fuel run n m) where
  here : part_of m.config.to_do ≡ part.Region plan.region
  here = comes p plan input fuel run n m planned number b ∙ ap part.Region (sym number)

  -- It stopped, and a front of what is to come was written.
  pub stopped_front : (told tells : Option (List ℕ)) → WritesFront (prints_bytes (region_prints (region_run m) plan.region)) told tells →
      WritesFront (prints_bytes (to_come m)) told tells
  stopped_front told tells w = region_front m plan.region here told tells w

  -- .. and of what comes before a later region
  pub stopped_before : (told tells : Option (List ℕ)) → WritesFront (prints_bytes (region_prints (region_run m) plan.region)) told tells →
      FrontBefore (suc plan.region) [] m told tells
  stopped_before told tells w =
      let inlined = subst IsInlined (sym b.behind.program_is) planned.inlined in
      let known = subst (λ (x : Program). plan.region ≤ length x.regions) (sym b.behind.program_is) planned.known in
      let stands = subst (λ (x : Program). StandsInMain x m.config) (sym b.behind.program_is) (stands_here p input fuel run n m b planned.inlined) in
      let once = regions_once m.program inlined plan.region (omega (arith, planned.counted)) known in
      let few = count_by-le-length (λ k. nat_lt k (region_run m).fuel) (starts (region_run m) plan.region) in
      record {
        front = λ q i j h e.
            front_within (region_prints (region_run m) plan.region) (prints (take j (rest_of_run m).trace)) told tells
            (prints_before m inlined plan.region once stands here q (omega (arith, h)) i j e (begun_count (region_run m) plan.region) few) w;
      }

  -- The region's report is that of the whole run.
  report_whole : region_report p plan (region_run m) ≡ region_report p plan run
  report_whole = report_is p plan input fuel run n m number b (comes p plan input fuel run n m planned number b)

  pub report_of_run : (why : Bool) (report : RegionReport) → report ≡ told_when why (region_report p plan (region_run m)) →
      report ≡ told_when why (region_report p plan run)
  report_of_run why report is = is ∙ ap (told_when why) report_whole

  -- .. and so is the count of its committed iterations
  pub tally_whole : (why : Bool) (report : RegionReport) (before now : ℕ) → report ≡ told_when why (region_report p plan (region_run m)) →
      now + report.recovered_count ≡ before + report.iterations →
      now ≡ before + committed_count p plan run
  tally_whole why report before now is balance =
      let same = is ∙ ap (told_when why) report_whole in
      let again : report.recovered_count ≡ length (recovered p plan run) = ap (λ (x : RegionReport). x.recovered_count) same
      ∙ told_count why (region_report p plan run) in
      let begun : report.iterations ≡ begun_count run plan.region = ap (λ (x : RegionReport). x.iterations) same ∙ told_begun why (region_report p plan run) in
      let few = few_recovered p plan run in
      omega (arith, balance, again, begun, few)
