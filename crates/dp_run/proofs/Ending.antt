-- From the machine's end to the run's text.
use Rattle.std.proofs.Common.{◌≡◌, refl, sym, ap, ◌∙◌, ℕ, zero, suc, ◌+◌, ◌-◌, ◌==◌, Bool, true, false, ◌≤◌, if◌then◌else◌, List, [], ◌∷◌, ◌++◌, length, map}
use Rattle.std.proofs.Common.{take, drop, get_or, min, All, arith}
use Rattle.std.proofs.lemmas.List.{length-take, length-map, map-append}
use Rattle.std.proofs.lemmas.List.Elements.{All-map}
use Rattle.std.proofs.Math.Nat.{min_comm}
use Rattle.dp_base.specs.declared.RegionReport.{RegionReport}
use Rattle.dp_tree.specs.declared.Program.{Program}
use Rattle.dp_tree.specs.Numbering.{numbers_from}
use Rattle.dp_tree.specs.Trace.{Run}
use Rattle.dp_tree.specs.Iteration.{starts, begun_count}
use Rattle.dp_plan.specs.declared.Plan.{Plan}
use Rattle.dp_plan.specs.GivenPlans.{region_of}
use Rattle.dp_semantics.specs.Cause.{cause}
use Rattle.dp_semantics.specs.Recovery.{recovered}
use Rattle.dp_semantics.specs.Reported.{reported, region_report}
use Rattle.dp_report.specs.RegionText.{counts_line, causes_if, report_lines, regions_bytes}
use Rattle.dp_epoch.specs.Accounts.{told_when}
use Rattle.dp_run.specs.RunText.{region_reports, told_reports, committed_count, committed_in_all}

all_each : {X : Type 0} (P : X → Type 0) → ((x : X) → P x) → (xs : List X) → All P xs
all_each P h xs = λ k d lt. h (get_or xs k d)

abbrev pub IsListed : RegionReport → Type 0
IsListed report = length report.recovered ≡ min report.recovered_count 1000

abbrev pub IsExplained : RegionReport → Type 0
IsExplained report = length report.causes ≡ length report.recovered

module _ (p : Program) (run : Run) where
  -- a report lists no more than 1,000 numbers, each with its cause where causes are asked for
  listed_once : (why : Bool) (plan : Plan) → IsListed (told_when why (region_report p plan run))
  listed_once true plan = length-take 1000 (recovered p plan run) ∙ min_comm 1000 (length (recovered p plan run))
  listed_once false plan = length-take 1000 (recovered p plan run) ∙ min_comm 1000 (length (recovered p plan run))

  pub listed_in : (why : Bool) (plans : List Plan) → All IsListed (told_reports why p plans run)
  listed_in why plans = All-map IsListed (λ plan. told_when why (region_report p plan run)) plans
      (all_each (λ plan. IsListed (told_when why (region_report p plan run))) (listed_once why) plans)

  explained_once : (why : Bool) → why ≡ true → (plan : Plan) → IsExplained (told_when why (region_report p plan run))
  explained_once true asked plan = length-map (take 1000 (recovered p plan run)) (λ i. reported (cause p plan run i))
  explained_once false asked plan = absurd (cc asked)

  pub explained_in : (why : Bool) → why ≡ true → (plans : List Plan) → All IsExplained (told_reports why p plans run)
  explained_in why asked plans = All-map IsExplained (λ plan. told_when why (region_report p plan run)) plans
      (all_each (λ plan. IsExplained (told_when why (region_report p plan run))) (explained_once why asked) plans)

  -- where causes aren't asked for, the text doesn't look at them
  told_lines : (why : Bool) (report : RegionReport) → report_lines why (told_when why report) ≡ report_lines why report
  told_lines true report = refl
  told_lines false report = refl

  pub told_bytes : (why : Bool) (plans : List Plan) → regions_bytes why (told_reports why p plans run) ≡ regions_bytes why (region_reports p plans run)
  told_bytes why [] = refl
  told_bytes why (x ∷ plans) =
      ap (λ (line : List ℕ). line ++ regions_bytes why (told_reports why p plans run)) (told_lines why (region_report p x run))
      ∙ ap (λ (rest : List ℕ). report_lines why (region_report p x run) ++ rest) (told_bytes why plans)

  none_begun : (plan : Plan) → starts run plan.region ≡ [] → begun_count run plan.region ≡ 0
  none_begun plan e = rw e refl

  -- A region that wasn't reached has no line ..
  silent : (why : Bool) (plan : Plan) → starts run plan.region ≡ [] → report_lines why (region_report p plan run) ≡ []
  silent why plan e =
      ap (λ (n : ℕ). if◌then◌else◌ {A = List ℕ} (n == 0) [] (counts_line plan.region n (region_report p plan run).recovered_count
      (region_report p plan run).recovered ++ causes_if why (region_report p plan run)))
      (none_begun plan e)

  -- .. and no committed iteration
  none_committed : (plan : Plan) → starts run plan.region ≡ [] → committed_count p plan run ≡ 0
  none_committed plan e = let none = none_begun plan e in omega (arith, none)

  pub silent_in : (why : Bool) (k : ℕ) (plans : List Plan) → ((r : ℕ) → k ≤ r → starts run r ≡ []) → (count : ℕ) → map region_of plans ≡ numbers_from k count →
      regions_bytes why (region_reports p plans run) ≡ []
  silent_in why k [] none count numbers = refl
  silent_in why k (x ∷ plans) none zero numbers = absurd (cc numbers)
  silent_in why k (x ∷ plans) none (suc count) numbers =
      let first : x.region ≡ k = cc numbers in
      let rest : map region_of plans ≡ numbers_from (k + 1) count = cc numbers in
      ap (λ (line : List ℕ). line ++ regions_bytes why (region_reports p plans run)) (silent why x (none x.region (omega (arith, first))))
      ∙ silent_in why (k + 1) plans (λ r h. none r (omega (arith, h))) count rest

  pub none_in : (k : ℕ) (plans : List Plan) → ((r : ℕ) → k ≤ r → starts run r ≡ []) → (count : ℕ) → map region_of plans ≡ numbers_from k count →
      committed_in_all p plans run ≡ 0
  none_in k [] none count numbers = refl
  none_in k (x ∷ plans) none zero numbers = absurd (cc numbers)
  none_in k (x ∷ plans) none (suc count) numbers =
      let first : x.region ≡ k = cc numbers in
      let rest : map region_of plans ≡ numbers_from (k + 1) count = cc numbers in
      let one = none_committed x (none x.region (omega (arith, first))) in
      let go = none_in (k + 1) plans (λ r h. none r (omega (arith, h))) count rest in omega (arith, one, go)

  pub reports_append : (a b : List Plan) → region_reports p (a ++ b) run ≡ region_reports p a run ++ region_reports p b run
  reports_append a b = map-append (λ plan. region_report p plan run) a b

  pub in_all_append : (a b : List Plan) → committed_in_all p (a ++ b) run ≡ committed_in_all p a run + committed_in_all p b run
  in_all_append [] b = omega arith
  in_all_append (x ∷ a) b = let go = in_all_append a b in omega (arith, go)

-- the numbers behind the first n
pub numbers_behind : (n : ℕ) (plans : List Plan) (k count : ℕ) → n ≤ length plans → map region_of plans ≡ numbers_from k count →
    map region_of (drop n plans) ≡ numbers_from (n + k) (count - n)
numbers_behind zero plans k count h e = let a : 0 + k ≡ k = omega arith in let b : count - 0 ≡ count = omega arith in
    e ∙ ap (λ (j : ℕ). numbers_from j count) (sym a) ∙ ap (numbers_from (0 + k)) (sym b)
numbers_behind (suc n) [] k count h e = absurd (omega (arith, h))
numbers_behind (suc n) (x ∷ plans) k zero h e = absurd (cc e)
numbers_behind (suc n) (x ∷ plans) k (suc count) h e =
    let rest : map region_of plans ≡ numbers_from (k + 1) count = cc e in
    let a : n + (k + 1) ≡ suc n + k = omega arith in
    let b : count - n ≡ suc count - suc n = omega arith in
    numbers_behind n plans (k + 1) count (omega (arith, h)) rest ∙ ap (λ (j : ℕ). numbers_from j (count - n)) a ∙ ap (numbers_from (suc n + k)) b
