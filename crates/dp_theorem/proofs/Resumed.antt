-- Epochs that some iterations begin in any case, and the report of a run that is made in several pieces.
use Rattle.dp_semantics.proofs.Names.{◌≡◌, refl, sym, ap, ◌∙◌, ℕ, zero, suc, ◌+◌, ◌-◌, ◌<◌, ◌≤◌, Bool, true, false, not, if◌then◌else◌, List, [], ◌∷◌, ◌++◌}
use Rattle.dp_semantics.proofs.Names.{length, map, take, filter, Some, is_some, length-append, length-map, map-append, arith, Program, Plan, Run, run_of, start}
use Rattle.dp_semantics.proofs.Names.{begun_count, is_clean, numbers_from}
use Rattle.std.proofs.Common.{ap₂}
use Rattle.std.proofs.lemmas.List.{take-map, take-take}
use Rattle.dp_base.specs.declared.Cause.{Cause as ReportedCause}
use Rattle.dp_base.specs.declared.limits.TheConstants.{LISTED}
use Rattle.dp_tree.specs.GoesOn.{GoesOnAs}
use Rattle.dp_tree.proofs.GoesOn.{goes_on_from}
use Rattle.dp_semantics.specs.Recovery.{next_epoch, epoch_with, is_recovered_with, recovered_first_with}
use Rattle.dp_semantics.specs.Cause.{cause_since, cause_with}
use Rattle.dp_semantics.specs.Reported.{reported, report_of, report_first_with, gone_on}
use Rattle.dp_semantics.specs.Shift.{from_there, SameVerdicts}
use Rattle.dp_semantics.specs.Resumed.{BeginsThere, SameUntil, LaterChangesNothing, RegionReportsAlone, ReportsGoOn}
use Rattle.dp_theorem.proofs.Shift.{same_verdicts, same_epochs}

pub begins_there : (p : Program) (plan : Plan) → BeginsThere p plan
begins_there p plan begins run zero e = refl
begins_there p plan begins run (suc m) e = ap (λ (b : Bool). if b then suc m else next_epoch p plan run m (epoch_with begins p plan run m)) e

-- Two runs whose iterations are clean alike, and for the same causes.
module _ (p : Program) (plan : Plan) (run other : Run) (begins others : ℕ → Bool) (clean : (e i : ℕ) → is_clean p plan run e i ≡ is_clean p plan other e i)
    (causes : (e i : ℕ) → cause_since p plan run e i ≡ cause_since p plan other e i)
  where
    -- .. and epochs have to begin alike before iteration n
    abbrev Alike : ℕ → Type 0
    Alike n = (i : ℕ) → i < n → begins i ≡ others i

    epochs_alike : (i : ℕ) → Alike (suc i) → epoch_with begins p plan run i ≡ epoch_with others p plan other i
    epochs_alike zero h = refl
    epochs_alike (suc i) h =
        ap (λ (b : Bool). if b then suc i else next_epoch p plan run i (epoch_with begins p plan run i)) (h (suc i) (omega arith))
        ∙ ap (λ (e : ℕ). if others (suc i) then suc i else next_epoch p plan run i e) (epochs_alike i (λ j l. h j (omega (arith, l))))
        ∙ ap (λ (b : Bool). if others (suc i) then suc i else (if b then epoch_with others p plan other i else suc i))
        (clean (epoch_with others p plan other i) i)

    again_alike : (i : ℕ) → Alike (suc i) → is_recovered_with begins p plan run i ≡ is_recovered_with others p plan other i
    again_alike i h = ap (λ (e : ℕ). not (is_clean p plan run e i)) (epochs_alike i h) ∙ ap not (clean (epoch_with others p plan other i) i)

    cause_alike : (i : ℕ) → Alike (suc i) → cause_with begins p plan run i ≡ cause_with others p plan other i
    cause_alike i h = ap (λ (e : ℕ). cause_since p plan run e i) (epochs_alike i h) ∙ causes (epoch_with others p plan other i) i

    -- what of this is listed from iteration a on, through a function on numbers that is the same there
    listed_alike : {X : Type 0} (f g : ℕ → X) (n a : ℕ) → Alike (a + n) → ((i : ℕ) → i < a + n → f i ≡ g i) →
        map f (filter (is_recovered_with begins p plan run) (numbers_from a n)) ≡ map g (filter (is_recovered_with others p plan other) (numbers_from a n))
    listed_alike f g zero a h same = refl
    listed_alike f g (suc n) a h same =
        ap (λ (b : Bool). map f (if b then a ∷ filter (is_recovered_with begins p plan run) (numbers_from (a + 1) n)
        else filter (is_recovered_with begins p plan run) (numbers_from (a + 1) n))) (again_alike a (λ i l. h i (omega (arith, l))))
        ∙ by (filter (is_recovered_with begins p plan run) (numbers_from (a + 1) n)) (filter (is_recovered_with others p plan other) (numbers_from (a + 1) n))
        (is_recovered_with others p plan other a) (same a (omega arith)) (listed_alike f g n (a + 1) (λ i l. h i (omega (arith, l)))
        (λ i l. same i (omega (arith, l))))
      where
        by : (xs ys : List ℕ) (b : Bool) → f a ≡ g a → map f xs ≡ map g ys → map f (if b then a ∷ xs else xs) ≡ map g (if b then a ∷ ys else ys)
        by xs ys true e more = ap₂ (λ x rest. x ∷ rest) e more
        by xs ys false e more = more

    map_same : (xs : List ℕ) → map (λ i. i) xs ≡ xs
    map_same [] = refl
    map_same (x ∷ xs) = ap (λ (ys : List ℕ). x ∷ ys) (map_same xs)

    again_first : (n : ℕ) → Alike n → recovered_first_with begins p plan run n ≡ recovered_first_with others p plan other n
    again_first n h = sym (map_same (recovered_first_with begins p plan run n)) ∙ listed_alike (λ i. i) (λ i. i) n 0 (λ i l. h i (omega (arith, l)))
        (λ i l. refl) ∙ map_same (recovered_first_with others p plan other n)

    -- the causes as a report has them
    abbrev one : ℕ → ReportedCause
    one i = reported (cause_with begins p plan run i)

    abbrev two : ℕ → ReportedCause
    two i = reported (cause_with others p plan other i)

    causes_first : (n : ℕ) → Alike n → map one (take LISTED (recovered_first_with begins p plan run n)) ≡ map two
        (take LISTED (recovered_first_with others p plan other n))
    causes_first n h =
        sym (take-map one LISTED (recovered_first_with begins p plan run n))
        ∙ ap (take LISTED) (listed_alike one two n 0 (λ i l. h i (omega (arith, l))) (λ i l. ap reported (cause_alike i (λ j m. h j (omega (arith, l, m))))))
        ∙ take-map two LISTED (recovered_first_with others p plan other n)

    pub same_until : (n : ℕ) → Alike n → SameUntil begins others p plan run other n
    same_until n h = record {
      epochs = λ i l. epochs_alike i (λ j m. h j (omega (arith, l, m)));
      again = λ i l. again_alike i (λ j m. h j (omega (arith, l, m)));
      cause = λ i l. cause_alike i (λ j m. h j (omega (arith, l, m)));
      report = λ i. record {
        region = plan.region;
        iterations = n;
        recovered_count = length (again_first n h i);
        recovered = take LISTED (again_first n h
            i);
        causes = causes_first n h i;
      };
    }

pub later_changes_nothing : (p : Program) (plan : Plan) → LaterChangesNothing p plan
later_changes_nothing p plan begins others run = same_until p plan run run begins others (λ e i. refl) (λ e i. refl)

pub region_reports_alone : (p : Program) (plan : Plan) → RegionReportsAlone p plan
region_reports_alone p plan begins input fuel k c d at s = record {
  until = until;
  report = ap (report_first_with begins p plan run) (g.begun_in_all ∙ sym (none_more (begun_count own plan.region)))
      ∙ (until (begun_count own plan.region)).report;
}
  where
    none_more : (i : ℕ) → i ≡ 0 + i
    none_more i = omega arith

    run : Run
    run = run_of p input fuel c

    own : Run
    own = run_of p input (fuel - k) d

    both : GoesOnAs plan.region 0 k (run_of p input fuel c) (run_of p input (fuel - k) d) × (start (run_of p input (fuel - k) d) plan.region 0 ≡ Some 0)
    both = goes_on_from p input fuel k plan.region 0 c d at s

    g : GoesOnAs plan.region 0 k (run_of p input fuel c) (run_of p input (fuel - k) d)
    g = both.0

    v : SameVerdicts p plan 0 k (run_of p input fuel c) (run_of p input (fuel - k) d)
    v = same_verdicts p plan 0 k (run_of p input fuel c) (run_of p input (fuel - k) d) both.0 (ap is_some both.1)

    until : (n : ℕ) → SameUntil begins begins p plan (run_of p input fuel c) (run_of p input (fuel - k) d) n
    until n = same_until p plan (run_of p input fuel c) (run_of p input (fuel - k) d) begins begins (λ e i. ap₂ (is_clean p plan run) (none_more e)
        (none_more i) ∙ v.clean e i)
        (λ e i. ap₂ (cause_since p plan run) (none_more e) (none_more i) ∙ v.causes e i) n (λ i l. refl)

-- the first n of two lists, of each of which enough was kept
take_parts : {X : Type 0} (n m : ℕ) (xs ys : List X) → n ≤ m → take n (take n xs ++ take m ys) ≡ take n (xs ++ ys)
take_parts zero m xs ys h = refl
take_parts (suc n) m [] ys h = take-take (suc n) m ys h
take_parts (suc n) m (x ∷ xs) ys h = ap (λ zs. x ∷ zs) (take_parts n m xs ys (omega (arith, h)))

module _ (m : ℕ) (f g : ℕ → ReportedCause) (same : (i : ℕ) → f (m + i) ≡ g i) where
  later_causes : (xs : List ℕ) → map f (map (λ i. m + i) xs) ≡ map g xs
  later_causes [] = refl
  later_causes (x ∷ xs) = ap₂ (λ (c : ReportedCause) (rest : List ReportedCause). c ∷ rest) (same x) (later_causes xs)

  numbers : (n : ℕ) (again more : List ℕ) → take n (again ++ map (λ i. m + i) more) ≡ take n (take n again ++ map (λ i. m + i) (take n more))
  numbers n again more =
      sym (ap (λ (ys : List ℕ). take n (take n again ++ ys)) (sym (take-map (λ i. m + i) n more)) ∙ take_parts n n again (map (λ i. m + i) more) (omega arith))

  whys : (n : ℕ) (again more : List ℕ) → map f (take n (again ++ map (λ i. m + i) more)) ≡ take n (map f (take n again) ++ map g (take n more))
  whys n again more =
      sym (take-map f n (again ++ map (λ i. m + i) more)) ∙ ap (take n) (map-append f again (map (λ i. m + i) more))
      ∙ ap (λ (ys : List ReportedCause). take n (map f again ++ ys)) (later_causes more)
      ∙ sym (take_parts n n (map f again) (map g more) (omega arith))
      ∙ ap₂ (λ (xs ys : List ReportedCause). take n (xs ++ ys)) (take-map f n again) (take-map g n more)

  counts : (again more : List ℕ) → length (again ++ map (λ i. m + i) more) ≡ length again + length more
  counts again more = omega (arith, length-append again (map (λ i. m + i) more), length-map more (λ i. m + i))

  pub report_parts : (region n : ℕ) (again more : List ℕ) → report_of region (m + n) (again ++ map (λ i. m + i) more) f ≡ gone_on (report_of region m again f)
      (report_of region n more g)
  report_parts region n again more =
      λ i. record {
        region = region;
        iterations = m + n;
        recovered_count = counts again more i;
        recovered = numbers LISTED again more i;
        causes = whys LISTED again more i;
      }

pub reports_go_on : (p : Program) (plan : Plan) → ReportsGoOn p plan
reports_go_on p plan begins m k run rest g reached fresh =
    record { first = first; whole = ap (report_first_with begins p plan run) g.begun_in_all ∙ first (begun_count rest plan.region) }
  where
    first : (n : ℕ) → report_first_with begins p plan run (m + n) ≡ gone_on (report_first_with begins p plan run m)
        (report_first_with (from_there m begins) p plan rest n)
    first n =
        let w = same_epochs p plan m k run rest g reached begins fresh in
        let f : ℕ → ReportedCause = λ i. reported (cause_with begins p plan run i) in
        ap (λ (again : List ℕ). report_of plan.region (m + n) again f) (w.listed_first n)
        ∙ report_parts m f (λ i. reported (cause_with (from_there m begins) p plan rest i)) (λ i. ap reported (w.cause i)) plan.region n
        (recovered_first_with begins p plan run m) (recovered_first_with (from_there m begins) p plan rest n)
