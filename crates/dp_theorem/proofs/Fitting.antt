-- From the test of a program and a plan to what the central theorem asks, and the theorem itself.
use Rattle.dp_semantics.proofs.Names.{◌≡◌, inl, inr, refl, ap, ℕ, zero, suc, ◌<◌, ◌≤◌, ◌==◌, Bool, true, false, if◌then◌else◌, List, [], ◌∷◌, length, Option}
use Rattle.dp_semantics.proofs.Names.{Some, None, nat_lt, nat_le, filter, arith, ltb-true, leb-true, eqb-true, eq-eqb, cases_eq, both_ways, not-true, list_all}
use Rattle.dp_semantics.proofs.Names.{flat_map, Stmt, out-Stmt, Stmt-F, Region, Program, Plan, cell_count, Run, Access, accesses, first_site, stage_of}
use Rattle.dp_semantics.proofs.Names.{is_region_at, region_statement, region_accesses, is_clean, well_nested, is_free, cells_in_order, has_cell, stores_known}
use Rattle.dp_semantics.proofs.Names.{access_known, is_inner_access, region_fits, one_region, region_alone, kinds_fit, fits_plan, run_of, ClosingLeaves}
use Rattle.dp_semantics.proofs.Names.{CleanSince, JudgesRightly, JudgesEpochs, StoresLead, and_parts, and_from, cases_Bool}
use Rattle.dp_semantics.proofs.Setting.{each_both, RegionIs, Split, Listed, listed_all, Sound, Accepted, Each, each_map, all_of, Roomy, all_free}
use Rattle.dp_theorem.proofs.InOrder.{laid_of}
use Rattle.dp_semantics.proofs.StageKinds.{kinds_of}
use Rattle.dp_semantics.specs.Recovery.{epoch_with, nowhere}
use Rattle.dp_semantics.specs.Resumed.{JudgesResumed}
use Rattle.dp_theorem.proofs.Central.{closing_leaves, judges_rightly, stores_lead}

module _ (p : Program) (plan : Plan) where
  -- The sites of the region.
  room_of : (o : Option ℕ) → stores_known p o ≡ true → Roomy p o
  room_of None e = tt
  room_of (Some x) e = ltb-true 0 (cell_count p (record { 0 = x })) e

  sound_of : (u : Access) → Listed (region_accesses p plan) u → access_known p plan u ≡ true → Sound p plan u
  sound_of u listed e =
      let one = and_parts (list_all (has_cell p) u.loads) _ e in
      let two = and_parts (stores_known p u.stores) _ one.1 in
      let three = and_parts (nat_lt 0 (stage_of p plan u.site)) (nat_le (stage_of p plan u.site) (length plan.stages)) two.1 in
      let high : stage_of p plan u.site ≤ length plan.stages = leb-true (stage_of p plan u.site) (length plan.stages) three.1 in
      record {
        listed = listed;
        reads = each_map (λ x. has_cell p x ≡ true) (λ x. 0 < cell_count p (record { 0 = x })) (λ x h. ltb-true 0 (cell_count p (record { 0 = x })) h) u.loads
            (all_of (has_cell p) u.loads one.0);
        room = room_of u.stores two.0;
        staged = ltb-true 0 (stage_of p plan u.site) three.0;
        early = omega (arith, high);
      }

  sounds_of : list_all (access_known p plan) (region_accesses p plan) ≡ true → Each (Sound p plan) (region_accesses p plan)
  sounds_of e = each_map _ (Sound p plan) (λ u h. sound_of u h.0 h.1) (region_accesses p plan)
      (each_both (Listed (region_accesses p plan)) (λ u. access_known p plan u ≡ true) (region_accesses p plan) (listed_all (region_accesses p plan))
      (all_of (access_known p plan) (region_accesses p plan) e))

  -- The region's statement.
  not_site : (u : Access) → is_inner_access p plan u ≡ true → u.site ≡ first_site p plan → ⊥
  not_site u e q = both_ways (u.site == first_site p plan) (not-true (u.site == first_site p plan) e) (eq-eqb u.site (first_site p plan) q)

  region_is : (h : Stmt-F Stmt) → region_fits p plan h ≡ true → RegionIs p plan h
  region_is (Region q site cond body) e =
      let one = and_parts (q == plan.region) _ e in
      let two = and_parts (first_site p plan == site.0) _ one.1 in
      let three = and_parts (stage_of p plan (first_site p plan) == 1) _ two.1 in
      let both = and_parts (list_all (well_nested p plan) body) (list_all (is_inner_access p plan) (flat_map accesses body)) three.1 in
      record {
        site = site;
        cond = cond;
        body = body;
        is = ap (λ (n : ℕ). Region n site cond body) (eqb-true q plan.region one.0);
        first = eqb-true (first_site p plan) site.0 two.0;
        staged = eqb-true (stage_of p plan (first_site p plan)) 1 three.0;
        well = both.0;
        inner = each_map (λ u. is_inner_access p plan u ≡ true) (λ u. u.site ≡ first_site p plan → ⊥) not_site (flat_map accesses body)
            (all_of (is_inner_access p plan) (flat_map accesses body) both.1);
      }
  region_is _ e = absurd (cc)

  single : (found : List Stmt) → one_region p plan found ≡ true → (s : Stmt) × (found ≡ s ∷ []) × RegionIs p plan (out-Stmt s)
  single [] e = absurd (cc)
  single (s ∷ []) e = (s, refl, region_is (out-Stmt s) e)
  single (s ∷ t ∷ rest) e = absurd (cc)

  -- The statements before and behind it.
  none_found : (main : List Stmt) → filter (is_region_at plan.region) main ≡ [] → list_all (region_alone plan.region) main ≡ true →
      all_free plan.region main ≡ true
  none_found [] e q = refl
  none_found (x ∷ rest) e q =
      let parts = and_parts (region_alone plan.region x) (list_all (region_alone plan.region) rest) q in
      elim (cases_Bool (is_region_at plan.region x)) [
        | inl is ↦ let clash : x ∷ filter (is_region_at plan.region) rest ≡ [] = rw is at e in absurd (cc clash)
        | inr is ↦ and_from (is_free plan.region x) (all_free plan.region rest) (rw is at parts.0) (none_found rest (rw is at e) parts.1)
      ]

  pub split_of : (main : List Stmt) (s : Stmt) → filter (is_region_at plan.region) main ≡ s ∷ [] → list_all (region_alone plan.region) main ≡ true →
      Split plan.region main s
  split_of [] s e q = absurd (cc)
  split_of (x ∷ rest) s e q =
      let parts = and_parts (region_alone plan.region x) (list_all (region_alone plan.region) rest) q in
      elim (cases_Bool (is_region_at plan.region x)) [
        | inl is ↦
            let found : x ∷ filter (is_region_at plan.region) rest ≡ s ∷ [] = rw is at e in
            let same : x ≡ s = cc found in
            let none : filter (is_region_at plan.region) rest ≡ [] = cc found in
            record { front = []; tail = rest; main_is = ap (λ (y : Stmt). y ∷ rest) same; front_free = refl; tail_free = none_found rest none parts.1 }
        | inr is ↦ let later = split_of rest s (rw is at e) parts.1 in record {
          front = x ∷ later.front;
          tail = later.tail;
          main_is = ap (λ (ys : List Stmt). x ∷ ys) later.main_is;
          front_free = and_from (is_free plan.region x) (all_free plan.region later.front) (rw is at parts.0) later.front_free;
          tail_free = later.tail_free;
        }
      ]

  -- What passes the test is what the theorem asks.
  pub accepted : fits_plan p plan ≡ true → Accepted p plan
  accepted e =
      let one = and_parts (cells_in_order plan.region 0 p.vars) _ e in
      let two = and_parts (list_all (access_known p plan) (region_accesses p plan)) _ one.1 in
      let three = and_parts (one_region p plan (region_statement p plan)) _ two.1 in
      let four = and_parts (list_all (region_alone plan.region) p.main) (kinds_fit plan) three.1 in
      let kinds = kinds_of plan four.1 in
      let found = single (region_statement p plan) three.0 in
      record {
        statement = found.0;
        laid = laid_of p plan one.0;
        region = found.1;
        part = found.2;
        split = split_of p.main found.0 found.1 four.0;
        sound = sounds_of two.0;
        sequential = kinds.sequential;
        apart = kinds.apart;
      }

  -- The central theorem, for each program and plan that pass the test.
  pub fitting_judges : fits_plan p plan ≡ true → JudgesRightly p plan
  fitting_judges e = judges_rightly (accepted e)

  pub fitting_leads : fits_plan p plan ≡ true → StoresLead p plan
  fitting_leads e = stores_lead (accepted e)

  pub fitting_closes : fits_plan p plan ≡ true → ClosingLeaves p plan
  fitting_closes e = closing_leaves (accepted e)

  -- the iterations of an epoch before the one under way are clean
  module _ (run : Run) where
    record Under (e i : ℕ) : Type 0 where
      pub begun : e ≤ i
      pub clean : CleanSince p plan run e i

    fresh : (i : ℕ) → Under i i
    fresh i = record { begun = omega arith; clean = λ j low high. absurd (omega (arith, low, high)) }

    next_under : (e i : ℕ) (f b : Bool) → is_clean p plan run e i ≡ b → Under e i → Under (if f then suc i else (if b then e else suc i)) (suc i)
    next_under e i true b c u = fresh (suc i)
    next_under e i false true c u =
        record { begun = omega (arith, u.begun); clean = λ j low high. elim (cases_eq j i) [ inl q ↦ rw q c | inr q ↦ u.clean j low (omega (arith, high, q)) ] }
    next_under e i false false c u = fresh (suc i)

    under : (begins : ℕ → Bool) (i : ℕ) → Under (epoch_with begins p plan run i) i
    under begins zero = fresh 0
    under begins (suc i) =
        next_under (epoch_with begins p plan run i) i (begins (suc i)) (is_clean p plan run (epoch_with begins p plan run i) i) refl (under begins i)

  pub fitting_resumed : fits_plan p plan ≡ true → JudgesResumed p plan
  fitting_resumed e begins input fuel c within i k here =
      let u = under (run_of p input fuel c) begins i in
      fitting_judges e input fuel c within (epoch_with begins p plan (run_of p input fuel c) i) i k u.begun here u.clean

  pub fitting_epochs : fits_plan p plan ≡ true → JudgesEpochs p plan
  fitting_epochs e = fitting_resumed e nowhere
