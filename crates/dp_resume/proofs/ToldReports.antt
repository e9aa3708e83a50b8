-- Reports that are told without their causes.
use Rattle.std.proofs.Common.{◌≡◌, refl, sym, ap, ◌∙◌, Bool, true, false, List, [], ◌∷◌, ◌++◌, map, All}
use Rattle.std.proofs.lemmas.List.{map-append}
use Rattle.std.proofs.lemmas.List.Elements.{All-cons, All-head, All-nil, All-tail}
use Rattle.dp_base.specs.declared.RegionReport.{RegionReport}
use Rattle.dp_tree.specs.declared.Program.{Program}
use Rattle.dp_tree.specs.Trace.{Run}
use Rattle.dp_plan.specs.declared.Plan.{Plan}
use Rattle.dp_semantics.specs.Reported.{region_report}
use Rattle.dp_epoch.specs.Accounts.{told_when}
use Rattle.dp_run.specs.RunText.{region_reports, told_reports}
use Rattle.dp_run.proofs.Ending.{IsListed}
use Rattle.dp_resume.specs.Saved.{uncaused}

-- whether causes are asked for or not
pub no_causes : (why : Bool) (report : RegionReport) → told_when false (told_when why report) ≡ told_when false report
no_causes true report = refl
no_causes false report = refl

-- as many numbers are listed as with them
pub listed_uncaused : (reports : List RegionReport) → All IsListed (map uncaused reports) → All IsListed reports
listed_uncaused [] all = All-nil IsListed
listed_uncaused (r ∷ reports) all = All-cons IsListed r reports (All-head IsListed (uncaused r) (map uncaused reports) all)
    (listed_uncaused reports (All-tail IsListed (uncaused r) (map uncaused reports) all))

module _ (p : Program) (run : Run) where
  -- there are none to be left out
  pub told_again : (plans : List Plan) → map uncaused (told_reports false p plans run) ≡ told_reports false p plans run
  told_again [] = refl
  told_again (plan ∷ plans) = ap (λ (rs : List RegionReport). told_when false (region_report p plan run) ∷ rs) (told_again plans)

  pub told_uncaused : (plans : List Plan) → map uncaused (region_reports p plans run) ≡ told_reports false p plans run
  told_uncaused [] = refl
  told_uncaused (plan ∷ plans) = ap (λ (rs : List RegionReport). told_when false (region_report p plan run) ∷ rs) (told_uncaused plans)

  -- those of the reports with causes, and those without, are the same ones
  pub told_alike : (plans : List Plan) → map uncaused (told_reports false p plans run) ≡ map uncaused (region_reports p plans run)
  told_alike plans = told_again plans ∙ sym (told_uncaused plans)

  pub told_append : (a b : List Plan) → told_reports false p (a ++ b) run ≡ told_reports false p a run ++ told_reports false p b run
  told_append a b = map-append (λ plan. told_when false (region_report p plan run)) a b
