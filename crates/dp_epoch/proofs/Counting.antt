-- The report of one iteration more, and the count of begun iterations.
use Rattle.std.proofs.Common.{◌≡◌, refl, sym, ap, ◌∙◌, ℕ, zero, suc, ◌+◌, ◌<◌, ◌≤◌, Bool, true, false, cond, List, [], ◌∷◌, ◌++◌, length, take, filter, map}
use Rattle.std.proofs.Common.{count_by, take_all, length-append, Option, arith}
use Rattle.std.proofs.lemmas.List.{append-nil, length-take, take-append-le}
use Rattle.std.proofs.lemmas.List.Sums.{sum_by-cons}
use Rattle.dp_base.specs.declared.Cause.{Cause}
use Rattle.dp_base.specs.declared.RegionReport.{RegionReport}
use Rattle.dp_plan.specs.declared.Plan.{Plan}
use Rattle.dp_tree.specs.Numbering.{numbers_from}
use Rattle.dp_semantics.specs.Recovery.{is_recovered}
use Rattle.dp_semantics.specs.Reported.{report_of, region_report}
use Rattle.dp_tree.specs.Iteration.{begun_count}
use Rattle.dp_meaning.specs.MachineState.{MachineState}
use Rattle.dp_commit.specs.CommittedState.{region_run}
use Rattle.dp_epoch.specs.Accounts.{Explains, cause_listed, told_when}
use Rattle.dp_epoch.specs.Progress.{again_before, report_before}

count_push : (k n : ℕ) → numbers_from k (suc n) ≡ numbers_from k n ++ (k + n) ∷ []
count_push k zero = let e : k ≡ k + 0 = omega arith in ap (λ (j : ℕ). j ∷ []) e
count_push k (suc n) =
    let e : k + 1 + n ≡ k + suc n = omega arith in ap (λ (js : List ℕ). k ∷ js) (count_push (k + 1) n ∙ ap (λ (j : ℕ). numbers_from (k + 1) n ++ j ∷ []) e)

filter_join : (test : ℕ → Bool) (xs : List ℕ) (k : ℕ) → filter test (xs ++ k ∷ []) ≡ filter test xs ++ cond (test k) (k ∷ []) []
filter_join test [] k = refl
filter_join test (x ∷ xs) k = by (test x) (filter_join test xs k)
  where
    by : (t : Bool) → filter test (xs ++ k ∷ []) ≡ filter test xs ++ cond (test k) (k ∷ []) [] →
        cond t (x ∷ filter test (xs ++ k ∷ [])) (filter test (xs ++ k ∷ [])) ≡ cond t (x ∷ filter test xs) (filter test xs) ++ cond (test k) (k ∷ []) []
    by true go = ap (λ (ys : List ℕ). x ∷ ys) go
    by false go = go

-- the first 1,000 of a list that grows
kept_more : (again : List ℕ) (i : ℕ) → length again < 1000 → take 1000 (again ++ i ∷ []) ≡ take 1000 again ++ i ∷ []
kept_more again i short = take_all 1000 (again ++ i ∷ []) (omega (arith, length-append again (i ∷ []), short))
    ∙ ap (λ (ks : List ℕ). ks ++ i ∷ []) (sym (take_all 1000 again (omega (arith, short))))

map_join : (f : ℕ → Cause) (xs : List ℕ) (k : ℕ) → map f (xs ++ k ∷ []) ≡ map f xs ++ f k ∷ []
map_join f [] k = refl
map_join f (x ∷ xs) k = ap (λ (ys : List Cause). f x ∷ ys) (map_join f xs k)

-- there is room for one number more
pub list_grows : (r n : ℕ) (again : List ℕ) (f : ℕ → Cause) (report : RegionReport) (number : ℕ) (cause : Cause) → report ≡ report_of r n again f →
    cause ≡ f number → length report.recovered < 1000 →
    record report { recovered = report.recovered ++ number ∷ []; causes = report.causes ++ cause ∷ [] } ≡ record (report_of r n (again ++ number ∷ []) f)
    { recovered_count = length again }
list_grows r n again f report number cause e w room =
    let size = ap (λ (x : RegionReport). length x.recovered) e ∙ length-take 1000 again in
    let few : length again < 1000 = omega (arith, size, room) in
    let cause_listed = kept_more again number few in
    ap (λ (x : RegionReport). record x { recovered = x.recovered ++ number ∷ []; causes = x.causes ++ cause ∷ [] }) e
    ∙ ap (λ (ks : List ℕ). record {
      region = r;
      iterations = n;
      recovered_count = length again;
      recovered = ks;
      causes = map f (take 1000
          again) ++ cause ∷ [];
    }) (sym cause_listed)
    ∙ ap (λ (cs : List Cause). record { region = r; iterations = n; recovered_count = length again; recovered = take 1000 (again ++ number ∷ []); causes = cs })
    (ap (λ (x : Cause). map f (take 1000 again) ++ x ∷ []) w ∙ sym (map_join f (take 1000 again) number) ∙ ap (map f) (sym cause_listed))

-- there is none
pub list_stays : (r n : ℕ) (again : List ℕ) (f : ℕ → Cause) (report : RegionReport) (number : ℕ) → report ≡ report_of r n again f →
    1000 ≤ length report.recovered →
    report ≡ record (report_of r n (again ++ number ∷ []) f) { recovered_count = length again }
list_stays r n again f report number e full =
    let size = ap (λ (x : RegionReport). length x.recovered) e ∙ length-take 1000 again in
    let many : 1000 ≤ length again = omega (arith, size, full) in
    let cause_listed : take 1000 again ≡ take 1000 (again ++ number ∷ []) = sym (take-append-le 1000 again (number ∷ []) many) in
    e ∙ ap (λ (ks : List ℕ). record { region = r; iterations = n; recovered_count = length again; recovered = ks; causes = map f ks }) cause_listed

-- one more is counted
pub report_counts : (r n : ℕ) (again : List ℕ) (f : ℕ → Cause) (report : RegionReport) (number : ℕ) →
    report ≡ record (report_of r n (again ++ number ∷ []) f) { recovered_count = length again } →
    record report { iterations = number + 1; recovered_count = report.recovered_count + 1 } ≡ report_of r (number + 1) (again ++ number ∷ []) f
report_counts r n again f report number e =
    ap (λ (x : RegionReport). record x { iterations = number + 1; recovered_count = x.recovered_count + 1 }) e
    ∙ ap (λ (k : ℕ). record {
      region = r;
      iterations = number + 1;
      recovered_count = k;
      recovered = take 1000 (again ++ number ∷ []);
      causes = map f (take 1000
          (again ++ number ∷ []));
    }) (sym (length-append again (number ∷ [])))

-- the same of what is told, with the causes or without them
pub told_grows : (why : Bool) (r n : ℕ) (again : List ℕ) (f : ℕ → Cause) (report : RegionReport) (number : ℕ) (told : Option Cause) →
    report ≡ told_when why (report_of r n again f) → Explains why again told (f number) → length report.recovered < 1000 →
    record report { recovered = report.recovered ++ number ∷ []; causes = report.causes ++ cause_listed told } ≡ told_when why
    (record (report_of r n (again ++ number ∷ []) f) { recovered_count = length again })
told_grows true r n again f report number told e w room =
    let size = ap (λ (x : RegionReport). length x.recovered) e ∙ length-take 1000 again in
    let few : length again < 1000 = omega (arith, size, room) in
    ap (λ (o : Option Cause). record report { recovered = report.recovered ++ number ∷ []; causes = report.causes ++ cause_listed o }) (w few)
    ∙ list_grows r n again f report number (f number) e refl room
told_grows false r n again f report number told e w room =
    let size = ap (λ (x : RegionReport). length x.recovered) e ∙ length-take 1000 again in
    let few : length again < 1000 = omega (arith, size, room) in
    ap (λ (o : Option Cause). record report { recovered = report.recovered ++ number ∷ []; causes = report.causes ++ cause_listed o }) w
    ∙ ap (λ (x : RegionReport). record x { recovered = x.recovered ++ number ∷ []; causes = x.causes ++ [] }) e
    ∙ ap (λ (ks : List ℕ). record { region = r; iterations = n; recovered_count = length again; recovered = ks; causes = [] })
    (sym (kept_more again number few))

pub told_stays : (why : Bool) (r n : ℕ) (again : List ℕ) (f : ℕ → Cause) (report : RegionReport) (number : ℕ) → report ≡ told_when why (report_of r n again f) →
    1000 ≤ length report.recovered →
    report ≡ told_when why (record (report_of r n (again ++ number ∷ []) f) { recovered_count = length again })
told_stays true r n again f report number e full = list_stays r n again f report number e full
told_stays false r n again f report number e full =
    let size = ap (λ (x : RegionReport). length x.recovered) e ∙ length-take 1000 again in
    let many : 1000 ≤ length again = omega (arith, size, full) in
    e ∙ ap (λ (ks : List ℕ). record { region = r; iterations = n; recovered_count = length again; recovered = ks; causes = [] })
    (sym (take-append-le 1000 again (number ∷ []) many))

pub told_counts : (why : Bool) (r n : ℕ) (again : List ℕ) (f : ℕ → Cause) (report : RegionReport) (number : ℕ) →
    report ≡ told_when why (record (report_of r n (again ++ number ∷ []) f) { recovered_count = length again }) →
    record report { iterations = number + 1; recovered_count = report.recovered_count + 1 } ≡ told_when why (report_of r (number + 1) (again ++ number ∷ []) f)
told_counts true r n again f report number e = report_counts r n again f report number e
told_counts false r n again f report number e =
    ap (λ (x : RegionReport). record x { iterations = number + 1; recovered_count = x.recovered_count + 1 }) e
    ∙ ap (λ (k : ℕ). record { region = r; iterations = number + 1; recovered_count = k; recovered = take 1000 (again ++ number ∷ []); causes = [] })
    (sym (length-append again (number ∷ [])))

-- another number of iterations
pub told_iterations : (why : Bool) (r : RegionReport) (k : ℕ) → record (told_when why r) { iterations = k } ≡ told_when why (record r { iterations = k })
told_iterations true r k = refl
told_iterations false r k = refl

-- what is told beside the causes
pub told_count : (why : Bool) (r : RegionReport) → (told_when why r).recovered_count ≡ r.recovered_count
told_count true r = refl
told_count false r = refl

pub told_listed : (why : Bool) (r : RegionReport) → (told_when why r).recovered ≡ r.recovered
told_listed true r = refl
told_listed false r = refl

pub told_begun : (why : Bool) (r : RegionReport) → (told_when why r).iterations ≡ r.iterations
told_begun true r = refl
told_begun false r = refl

module _ (plan : Plan) (first : MachineState) (i : ℕ) where
  again_next : again_before plan first (suc i) ≡ again_before plan first i ++ cond (is_recovered first.program plan (region_run first) i) (i ∷ []) []
  again_next = ap (filter (is_recovered first.program plan (region_run first))) (count_push 0 i
      ∙ (let e : 0 + i ≡ i = omega arith in ap (λ (j : ℕ). numbers_from 0 i ++ j ∷ []) e)) ∙ filter_join (is_recovered first.program plan (region_run first))
      (numbers_from 0 i) i

  -- a clean iteration isn't listed
  pub again_clean : is_recovered first.program plan (region_run first) i ≡ false → again_before plan first (suc i) ≡ again_before plan first i
  again_clean e = again_next ∙ ap (λ (b : Bool). again_before plan first i ++ cond b (i ∷ []) []) e ∙ append-nil (again_before plan first i)

  -- one that is executed again is
  pub again_more : is_recovered first.program plan (region_run first) i ≡ true → again_before plan first (suc i) ≡ again_before plan first i ++ i ∷ []
  again_more e = again_next ∙ ap (λ (b : Bool). again_before plan first i ++ cond b (i ∷ []) []) e

  -- The report of so many iterations is the region's, where no more are begun.
  pub whole_report : begun_count (region_run first) plan.region ≡ i → report_before plan first i ≡ region_report first.program plan (region_run first)
  whole_report e = ap (report_before plan first) (sym e)

-- fewer iterations are executed again than were begun
pub again_few : (test : ℕ → Bool) (k n : ℕ) → length (filter test (numbers_from k n)) ≤ n
again_few test k zero = omega arith
again_few test k (suc n) = by (test k) (again_few test (k + 1) n)
  where
    by : (b : Bool) → length (filter test (numbers_from (k + 1) n)) ≤ n →
        length (cond b (k ∷ filter test (numbers_from (k + 1) n)) (filter test (numbers_from (k + 1) n))) ≤ suc n
    by true h = omega (arith, h)
    by false h = omega (arith, h)

pub count-cons : {X : Type 0} (test : X → Bool) (x : X) (xs : List X) → count_by test (x ∷ xs) ≡ cond (test x) 1 0 + count_by test xs
count-cons test x xs = sum_by-cons (λ y. cond (test y) 1 0) x xs
