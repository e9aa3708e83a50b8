-- What the laws give for an inlined program and for a plan that fits, written out.
use Rattle.std.proofs.Common.{◌≡◌, refl, ap, if◌then◌else◌, Bool, arith, true, false, ℕ, suc, ◌+◌, ◌<◌, ◌≤◌, List, ℤ, length, map, filter, Some}
use Rattle.dp_tree.specs.declared.Program.{Program}
use Rattle.dp_tree.specs.Inlined.{IsInlined}
use Rattle.dp_tree.specs.IterationLaws.{events_of_first}
use Rattle.dp_tree.specs.RegionLaws.{is_event_of}
use Rattle.dp_tree.specs.Step.{clear_locals}
use Rattle.dp_tree.specs.Trace.{Run, begin}
use Rattle.dp_tree.specs.Iteration.{begun_count, start, starts, iteration, is_closing, has_ended, memory_after}
use Rattle.dp_plan.specs.declared.Plan.{Plan}
use Rattle.dp_semantics.specs.Clean.{is_clean}
use Rattle.dp_semantics.specs.Recovery.{epoch, is_recovered, recovered}
use Rattle.dp_semantics.specs.Cause.{cause}
use Rattle.dp_semantics.specs.Reported.{reported, report_of, region_report}
use Rattle.dp_semantics.specs.Judge.{Agreed, Clean}
use Rattle.dp_semantics.specs.Words.{word_list}
use Rattle.dp_semantics.specs.Fits.{fits_plan}
use Rattle.dp_semantics.specs.Verdict.{source_run, packet_at, judgement_at, done_in, words_at_stage, effect_in, applied}
use Rattle.dp_tree.specs.Numbering.{numbers_from}
use Rattle.dp_semantics.proofs.Names.{not-true}
use Rattle.std.proofs.lemmas.List.Sums.{count_by-le-length, length-filter}
use Rattle.dp_tree.proofs.NumberLists.{length-numbers_from}
use Rattle.dp_tree.proofs.InMain.{begins_in_main}
use Rattle.dp_tree.proofs.RegionLaws.{regions_are_iterations}
use Rattle.dp_theorem.proofs.OnceInMain.{regions_once}
use Rattle.dp_theorem.proofs.Fitting.{fitting_judges, fitting_epochs, fitting_leads}

-- the events at the sites of each region are those of its iterations
events_of_regions : (p : Program) → IsInlined p → (input : List ℤ) (fuel r : ℕ) → 0 < r → r ≤ length p.regions →
    filter (is_event_of p r) (source_run p input fuel).trace ≡ events_of_first (source_run p input fuel) r (length (starts (source_run p input fuel) r))
events_of_regions p inlined input fuel r low high = regions_are_iterations p input fuel r (regions_once p inlined r low high)

module _ (p : Program) (plan : Plan) (fits : fits_plan p plan ≡ true) (input : List ℤ) (fuel : ℕ) where
  abbrev run : Run
  run = source_run p input fuel

  clean_is_judged_clean : (i k : ℕ) → start run plan.region i ≡ Some k → is_clean p plan run (epoch p plan run i) i ≡ true →
      judgement_at p plan input run (epoch p plan run i) i k ≡ Clean (done_in plan run i)
  clean_is_judged_clean i k here clean = ((fitting_epochs p plan fits input fuel (begin p) (begins_in_main p) i k here).sent clean).judged

  judged_clean_is_clean : (i k : ℕ) (v : Agreed) → start run plan.region i ≡ Some k → judgement_at p plan input run (epoch p plan run i) i k ≡ Clean v →
      is_clean p plan run (epoch p plan run i) i ≡ true
  judged_clean_is_clean i k v here = (fitting_epochs p plan fits input fuel (begin p) (begins_in_main p) i k here).back v

  clean_has_the_sources_words : (i k t : ℕ) → start run plan.region i ≡ Some k → is_clean p plan run (epoch p plan run i) i ≡ true → 0 < t →
      t ≤ length plan.stages →
      word_list (packet_at p plan input run (epoch p plan run i) i).lists t ≡ words_at_stage p plan (iteration run plan.region i) t
  clean_has_the_sources_words i k t here clean = ((fitting_epochs p plan fits input fuel (begin p) (begins_in_main p) i k here).sent clean).words t

  -- .. and in whatever epoch, where the iterations before are clean in it
  judged_in_any_epoch : (e i k : ℕ) (v : Agreed) → e ≤ i → start run plan.region i ≡ Some k → ((j : ℕ) → e ≤ j → j < i → is_clean p plan run e j ≡ true) →
      judgement_at p plan input run e i k ≡ Clean v → is_clean p plan run e i ≡ true
  judged_in_any_epoch e i k v late here before = (fitting_judges p plan fits input fuel (begin p) (begins_in_main p) e i k late here before).back v

  next_starts_behind : (i k : ℕ) → start run plan.region i ≡ Some k → has_ended run plan.region i ≡ true → is_closing run plan.region i ≡ false →
      start run plan.region (suc i) ≡ Some (k + length (iteration run plan.region i))
  next_starts_behind i k here ended open' = (fitting_leads p plan fits input fuel (begin p) (begins_in_main p) i k here ended open').next_start

  next_memory_is_stored : (i k : ℕ) → start run plan.region i ≡ Some k → has_ended run plan.region i ≡ true → is_closing run plan.region i ≡ false →
      memory_after run plan.region (suc i) ≡ clear_locals plan.region p.vars (applied (map effect_in (iteration run plan.region i))
      (memory_after run plan.region i))
  next_memory_is_stored i k here ended open' = (fitting_leads p plan fits input fuel (begin p) (begins_in_main p) i k here ended open').memory

  -- In one piece an epoch goes on where the iteration is clean, and the next one begins behind it where it isn't.
  epoch_stays : (i : ℕ) → is_clean p plan run (epoch p plan run i) i ≡ true → epoch p plan run (suc i) ≡ epoch p plan run i
  epoch_stays i c = ap (λ (b : Bool). if b then epoch p plan run i else suc i) c

  epoch_begins : (i : ℕ) → is_recovered p plan run i ≡ true → epoch p plan run (suc i) ≡ suc i
  epoch_begins i again = ap (λ (b : Bool). if b then epoch p plan run i else suc i) (not-true (is_clean p plan run (epoch p plan run i) i) again)

  -- .. and no more are executed again than are begun
  few_again : length (recovered p plan run) ≤ begun_count run plan.region
  few_again = let ns : List ℕ = numbers_from 0 (begun_count run plan.region) in
      omega (
        arith,
        length-filter (is_recovered p plan run) ns,
        count_by-le-length (is_recovered p plan
            run) ns,
        length-numbers_from 0 (begun_count run plan.region),
      )

  report_is : region_report p plan run ≡ report_of plan.region (begun_count run plan.region) (recovered p plan run) (λ i. reported (cause p plan run i))
  report_is = refl
