-- The whole log is written, or a front of it.
use Rattle.std.proofs.Common.{◌≡◌, refl, sym, ap, ◌∙◌, subst, ℕ, ◌+◌, ◌-◌, false, List, [], ◌++◌, ℤ, length, map, Option, Some, None, arith}
use Rattle.dp_base.specs.declared.End.{End}
use Rattle.dp_tree.specs.declared.Program.{Program}
use Rattle.dp_tree.specs.Trace.{Run, begin}
use Rattle.dp_plan.specs.declared.Plan.{Plan}
use Rattle.dp_prepared.specs.Planned.{Prepared, prepared_of}
use Rattle.dp_report.specs.EndText.{end_line}
use Rattle.dp_meaning.specs.MachineState.{MachineState}
use Rattle.dp_edge.specs.Sink.{appended}
use Rattle.dp_edge.specs.Writing.{WritesFront}
use Rattle.dp_edge.proofs.FrontLemmas.{front_more}
use Rattle.dp_log.specs.LogText.{first_line, log_bytes, logged_regions}
use Rattle.dp_run.specs.Given.{AreGiven}
use Rattle.dp_run.specs.Prepared.{plans_in}
use Rattle.dp_run.specs.RunText.{source_run}
use Rattle.dp_run.specs.Stretches.{ended_by}
use Rattle.dp_run.proofs.Counting.{as_many}
use Rattle.dp_run.proofs.Leading.{finished_next, over_done}
use Rattle.dp_run.proofs.PlansIn.{plans_are}
use Rattle.dp_run.proofs.WholePrepared.{start_there}
use Rattle.dp_logging.specs.Pouring.{Pours}
use Rattle.dp_logging.specs.Parts.{WentBy}
use Rattle.dp_logging.proofs.PourLemmas.{pours_ahead, pours_front, pours_on, pours_stopped, poured_all}

module _ (p : Program) (plans : List Plan) (input : List ℤ) (fuel : ℕ) (given : AreGiven p plans) where
  abbrev run : Run
  run = source_run p input fuel

  -- how the run ended
  ended_so : (m last : MachineState) (o : Option End) (end : End) → end ≡ ended_by o → WentBy p plans input m.fuel (source_run p input fuel) 0 last o →
      end ≡ (source_run p input fuel).end
  ended_so m last None end is w =
      let left : length p.regions - (0 + w.count) ≡ 0 = let many = as_many p plans given in let all = w.all refl in omega (arith, many, all) in
      is ∙ sym (over_done p input m.fuel run (0 + w.count) last w.leads.behind (finished_next p input m.fuel run (0 + w.count) last w.leads left)).end_is
  ended_so m last (Some how) end is w = is ∙ sym w.leads.end_is

  -- the machine starts with the program that is lent, and the regions are the prepared program's
  module _ (lent : Program) (same : lent ≡ p) (m : MachineState)
      (begun : m ≡ record { program = lent; input = input; config = begin lent; steps = 0; fuel = fuel; current = None; spoiled = false })
      (regions : List Prepared) (are : regions ≡ map (prepared_of p) plans) where
    program_is : m.program ≡ p
    program_is = ap (λ (s : MachineState). s.program) (start_there p plans input fuel false given lent same m begun)

    pub lines_are : logged_regions m.program (plans_in regions) (source_run p input fuel) ≡ logged_regions p plans (source_run p input fuel)
    lines_are = ap (λ (q : Program). logged_regions q (plans_in regions) run) program_is ∙ ap (λ (xs : List Plan). logged_regions p xs run)
        (plans_are p plans regions are)

    pub ends_so : (last : MachineState) (o : Option End) (end : End) → end ≡ ended_by o →
        WentBy m.program (plans_in regions) input m.fuel (source_run p input fuel) 0 last o → end ≡ (source_run p input fuel).end
    ends_so last o end is w =
        ended_so m last o end is
        (subst (λ (xs : List Plan). WentBy p xs input m.fuel run 0 last o) (plans_are p plans regions are)
        (subst (λ (q : Program). WentBy q (plans_in regions) input m.fuel run 0 last o) program_is w))

  module _ (told mid tells : Option (List ℕ)) (out : List ℕ) where
    -- the first line waited when the regions' lines came
    module _ (first : List ℕ) (first_is : first ≡ first_line) (lines : List ℕ) (lines_is : lines ≡ logged_regions p plans (source_run p input fuel)) where
      whole_is : first ++ lines ++ end_line run.end ≡ log_bytes p plans run
      whole_is = ap (λ (x : List ℕ). x ++ lines ++ end_line run.end) first_is ∙ ap (λ (x : List ℕ). first_line ++ x ++ end_line run.end) lines_is

      pub front_of_log : WritesFront (first ++ lines) told mid → WritesFront (log_bytes p plans (source_run p input fuel)) told mid
      front_of_log w = subst (λ (x : List ℕ). WritesFront x told mid) whole_is (front_more (first ++ lines) (end_line run.end) told mid w)

      whole_pours : Pours (first ++ lines) out told mid → Pours (log_bytes p plans run) (out ++ end_line run.end) told mid
      whole_pours e = subst (λ (x : List ℕ). Pours x (out ++ end_line run.end) told mid) whole_is
          (pours_ahead (first ++ lines) out (end_line run.end) told mid e)

      -- it was written up to the lines that wait
      pub front_poured : Pours (first ++ lines) out told mid → WritesFront (log_bytes p plans (source_run p input fuel)) told mid
      front_poured e = pours_stopped (log_bytes p plans run) (out ++ end_line run.end) told mid (whole_pours e)

      module _ (end : End) (end_is : end ≡ (source_run p input fuel).end) (last : List ℕ) (last_is : last ≡ out ++ end_line end)
          (e : Pours (first ++ lines) out told mid) where
        last_waits : Pours (log_bytes p plans run) last told mid
        last_waits = subst (λ (x : List ℕ). Pours (log_bytes p plans run) x told mid)
            (sym (last_is ∙ ap (λ (x : End). out ++ end_line x) end_is)) (whole_pours e)

        pub front_at_last : WritesFront last mid tells → WritesFront (log_bytes p plans (source_run p input fuel)) told tells
        front_at_last w = pours_front (log_bytes p plans run) last told mid tells last_waits w

        pub all_poured : (left : List ℕ) → left ≡ [] → Pours last left mid tells → tells ≡ appended (log_bytes p plans (source_run p input fuel)) told
        all_poured left none f =
            poured_all (log_bytes p plans run) left told tells none (pours_on (log_bytes p plans run) last left told mid tells last_waits f)
