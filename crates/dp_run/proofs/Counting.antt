-- The plans one after the other: their regions' numbers, their reports, and how many iterations were committed.
use Rattle.std.proofs.Common.{◌≡◌, sym, ap, ◌∙◌, ℕ, zero, suc, ◌+◌, ◌*◌, ◌<◌, ◌≤◌, ◌^◌, Bool, List, [], ◌∷◌, ◌++◌, append_assoc, length, map, take, Some}
use Rattle.std.proofs.Common.{slice_get, arith}
use Rattle.std.proofs.lemmas.List.{append-nil, length-take, map-append, length-map}
use Rattle.dp_base.specs.declared.RegionReport.{RegionReport}
use Rattle.dp_tree.specs.declared.Program.{Program}
use Rattle.dp_tree.specs.Numbering.{numbers_from}
use Rattle.dp_tree.specs.Trace.{Run}
use Rattle.dp_plan.specs.declared.Plan.{Plan}
use Rattle.dp_plan.specs.Each.{Each}
use Rattle.dp_plan.specs.GivenPlans.{IsPlan, region_of}
use Rattle.dp_semantics.specs.Reported.{region_report}
use Rattle.dp_epoch.specs.RegionRun.{IsPlanned}
use Rattle.dp_epoch.specs.Accounts.{told_when}
use Rattle.dp_run.specs.Given.{AreGiven, AreNext}
use Rattle.dp_run.specs.RunText.{told_reports, committed_count, committed_in_all}
use Rattle.dp_run.specs.Stretches.{Counted}
use Rattle.dp_run.proofs.Reporting.{committed_few}
use Rattle.dp_run.proofs.Ending.{in_all_append}
use Rattle.std.proofs.Math.Seq.{take-suc}
use Rattle.std.proofs.lemmas.Option.{slice_get_within, get_or_from_slice_get}
use Rattle.dp_tree.proofs.NumberLists.{length-numbers_from}

-- the plan at a place of a list whose numbers begin with k
each_at : (p : Program) (plans : List Plan) (k n count : ℕ) (plan : Plan) → Each (IsPlan p) plans → map region_of plans ≡ numbers_from k count →
    slice_get plans n ≡ Some plan → IsPlan p plan × (plan.region ≡ k + n) × (n < count)
each_at p [] k n count plan each numbers is = absurd (cc is)
each_at p (x ∷ plans) k zero zero plan each numbers is = absurd (cc numbers)
each_at p (x ∷ plans) k zero (suc count) plan each numbers is =
    let same : x ≡ plan = cc is in
    let first : x.region ≡ k = cc numbers in
    let number : plan.region ≡ k + 0 = ap region_of (sym same) ∙ first ∙ omega arith in
    (subst_plan same each.0, number, omega arith)
  where
    subst_plan : x ≡ plan → IsPlan p x → IsPlan p plan
    subst_plan e h = rw (sym e) h
each_at p (x ∷ plans) k (suc n) zero plan each numbers is = absurd (cc numbers)
each_at p (x ∷ plans) k (suc n) (suc count) plan each numbers is =
    let rest : map region_of plans ≡ numbers_from (k + 1) count = cc numbers in
    let h = each_at p plans (k + 1) n count plan each.1 rest is in
    (h.0, omega (arith, h.1), omega (arith, h.2))

module _ (p : Program) (n : ℕ) (plans : List Plan) (given : AreNext p n plans) (k : ℕ) (plan : Plan) (is : slice_get plans k ≡ Some plan) where
  found : IsPlan p plan × (plan.region ≡ suc n + k) × (k < length plans)
  found = each_at p plans (suc n) k (length plans) plan given.each given.regions is

  pub number_is : plan.region ≡ suc (n + k)
  number_is = omega (arith, found.1)

  pub planned : IsPlanned p plan
  planned = record { inlined = given.inlined; is_plan = found.0; counted = omega (arith, found.1); known = omega (arith, found.1, found.2, given.within) }

-- plans for all regions are those behind none
pub all_next : (p : Program) (plans : List Plan) → AreGiven p plans → AreNext p 0 plans
all_next p plans given =
    let many : length plans ≡ length p.regions = sym (length-map plans region_of) ∙ ap (λ (ns : List ℕ). length ns) given.plans_are.regions
    ∙ length-numbers_from 1 (length p.regions) in
    record {
      inlined = given.inlined;
      regions = given.plans_are.regions ∙ ap (numbers_from 1) (sym many);
      within = omega (arith, many);
      each = given.plans_are.each;
    }

pub as_many : (p : Program) (plans : List Plan) → AreGiven p plans → length plans ≡ length p.regions
as_many p plans given = sym (length-map plans region_of) ∙ ap (λ (ns : List ℕ). length ns) given.plans_are.regions ∙ length-numbers_from 1 (length p.regions)

take_next : {X : Type 0} (xs : List X) (n : ℕ) (x : X) → slice_get xs n ≡ Some x → take (suc n) xs ≡ take n xs ++ x ∷ []
take_next xs n x e = take-suc xs n x (slice_get_within xs n x e) ∙ ap (λ (y : _). take n xs ++ y ∷ []) (get_or_from_slice_get xs n x x e)

in_all_few : (p : Program) (run : Run) → run.fuel ≤ 1000000000 → (xs : List Plan) → committed_in_all p xs run ≤ length xs * 1000000000
in_all_few p run h [] = omega arith
in_all_few p run h (x ∷ xs) = let go = in_all_few p run h xs in let one = committed_few p x run in omega (arith, go, one, h)

take_few : {X : Type 0} (n : ℕ) (xs : List X) → length (take n xs) ≤ n
take_few n xs = let e = length-take n xs in omega (arith, e)

module _ {why : Bool} (p : Program) (plans : List Plan) (run : Run) where
  pub counted_none : (told : List RegionReport) (before now : ℕ) → now ≡ before → Counted why p plans run 0 told told before now
  counted_none told before now same = record { reports_are = sym (append-nil told); tally_is = omega (arith, same) }

  -- one region more
  pub counted_next : (n : ℕ) (plan : Plan) → slice_get plans n ≡ Some plan → (told reports more : List RegionReport) (before mid now : ℕ) →
      Counted why p plans run n told reports before mid →
      more ≡ reports ++ told_when why (region_report p plan run) ∷ [] → now ≡ mid + committed_count p plan run →
      Counted why p plans run (suc n) told more before now
  counted_next n plan is told reports more before mid now c e f = record {
    reports_are = e ∙ ap (λ (rs : List RegionReport). rs ++ told_when why (region_report p plan run) ∷ []) c.reports_are
        ∙ append_assoc told (told_reports why p (take n plans) run) (told_when why (region_report p plan run) ∷ [])
        ∙ ap (λ (rs : List RegionReport). told ++ rs) (sym (map-append (λ x. told_when why (region_report p x run)) (take n plans) (plan ∷ []))
        ∙ ap (λ (xs : List Plan). told_reports why p xs run) (sym (take_next plans n plan is)));
    tally_is = let one = in_all_append p run (take n plans) (plan ∷ []) in
        let all = ap (λ (xs : List Plan). committed_in_all p xs run) (take_next plans n plan is) in omega (arith, f, c.tally_is, one, all);
  }

  -- there is room for a verdict for each step
  pub room : run.fuel ≤ 1000000000 → (n : ℕ) → n < 2 ^ 32 → (told reports : List RegionReport) (before now left : ℕ) → before < 2 ^ 63 → left ≤ 1000000000 →
      Counted why p plans run n told reports before now → now + left < 2 ^ 64
  room h n few told reports before now left start most c =
      let all = in_all_few p run h (take n plans) in let size = take_few n plans in omega (arith, all, size, few, start, most, h, c.tally_is)
