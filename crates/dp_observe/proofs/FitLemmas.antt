-- What a run shows fits the program.
use Rattle.std.proofs.Common.{◌≡◌, refl, sym, ap, ◌∙◌, ℕ, zero, suc, ◌+◌, ◌≤◌, ◌<◌, ◌==◌, ◌&&◌, ◌||◌, not, if◌then◌else◌, nat_lt, Bool, true, false, List, []}
use Rattle.std.proofs.Common.{◌∷◌, ◌++◌, ℤ, map, count_by, length, Some, slice_get, inl, inr, arith, eq-eqb}
use Rattle.std.specs.List.{flat_map}
use Rattle.std.proofs.lemmas.Bool.{cases_Bool, lt-ltb}
use Rattle.std.proofs.lemmas.List.Sums.{count_by-le-length}
use Rattle.dp_room.specs.OneIf.{one_if}
use Rattle.dp_plan.proofs.EachLemmas.{each-lists}
use Rattle.dp_tree.specs.declared.Program.{Program}
use Rattle.dp_tree.specs.Inlined.{IsInlined}
use Rattle.dp_tree.specs.Step.{Event, Config, Step, Finished, Faulted, Stepped, step}
use Rattle.dp_tree.specs.Trace.{run_of, run_by, begin}
use Rattle.dp_plan.specs.Each.{Each}
use Rattle.dp_profile.specs.declared.Flow.{Flow}
use Rattle.dp_profile.specs.declared.sites.RegionSite.{RegionSite}
use Rattle.dp_profile.specs.Sites.{regions, has_numbered_site}
use Rattle.dp_profile.specs.ProfileFits.{most_count, is_before, CountFits, CountsFit, FlowFits, Ascend, RegionFits, RegionsFit, ProfileFits}
use Rattle.dp_profile.specs.Observed.{gives_nonzero, counts_of_site, begins_iteration, last_store, is_body_cell, is_from, shown_by, shown_back, backward}
use Rattle.dp_profile.specs.Observed.{flow_of, flows_between, flows_seen, region_seen, regions_seen, observed}
use Rattle.dp_observe.specs.Loads.{loads_made}
use Rattle.dp_observe.specs.steps.Tracking.{InOrder}
use Rattle.dp_observe.proofs.ApartLemmas.{Apart, regions_apart}
use Rattle.dp_observe.proofs.CounterLemmas.{has_site_at}
use Rattle.dp_observe.proofs.HitLemmas.{count_cons}
use Rattle.dp_observe.proofs.QuietLemmas.{site_quiet}
use Rattle.std.proofs.Math.Bool.{or-true}

less_both : (b c : Bool) → one_if (b && c) ≤ one_if b
less_both true true = omega arith
less_both true false = omega arith
less_both false c = omega arith

both_less : {X : Type 0} (f g : X → Bool) (xs : List X) → count_by (λ x. f x && g x) xs ≤ count_by f xs
both_less f g [] = omega arith
both_less f g (x ∷ xs) =
    let later = both_less f g xs in let a = count_cons (λ x. f x && g x) x xs in let b = count_cons f x xs in let one = less_both (f x) (g x) in
    omega (arith, later, a, b, one)

-- ---- not more loads are shown than were made

loads_back : (acc xs : List Event) → loads_made (backward acc xs) ≡ loads_made xs + loads_made acc
loads_back acc [] = omega arith
loads_back acc (x ∷ xs) = let later = loads_back (x ∷ acc) xs in omega (arith, later)

shown_less : (p : Program) (r : ℕ) (sites : List RegionSite) (from to : ℕ) (carried : Bool) (past : List Event) →
    shown_back p r sites from to carried past ≤ loads_made past
shown_less p r sites from to carried [] = omega arith
shown_less p r sites from to carried (e ∷ before) = by (e.site == to) (shown_less p r sites from to carried before)
  where
    by : (b : Bool) → shown_back p r sites from to carried before ≤ loads_made before
        → (if b then shown_by p r sites from carried e before else 0) + shown_back p r sites from to carried before ≤ length e.loads + loads_made before
    by true later = let own = count_by-le-length (λ load. is_from (is_body_cell p r load.cell) from carried
        (last_store sites load.cell (begins_iteration sites e) before)) e.loads in omega (arith, own, later)
    by false later = omega (arith, later)

-- ---- flows in order

each_more : {X : Type 0} (P Q : X → Type 0) (xs : List X) → ((x : X) → P x → Q x) → Each P xs → Each Q xs
each_more P Q [] go h = tt
each_more P Q (x ∷ xs) go h = (go x h.0, each_more P Q xs go h.1)

ascend_cons : (f : Flow) (ys : List Flow) → Each (λ g. is_before f g ≡ true) ys → Ascend ys → Ascend (f ∷ ys)
ascend_cons f [] before up = tt
ascend_cons f (g ∷ ys) before up = (before.0, up)

-- two lists in order, of which the first comes before the second
ascend_join : (xs ys : List Flow) → Ascend xs → Ascend ys → Each (λ f. Each (λ g. is_before f g ≡ true) ys) xs → Ascend (xs ++ ys)
ascend_join [] ys up down before = down
ascend_join (f ∷ []) ys up down before = ascend_cons f ys before.0 down
ascend_join (f ∷ g ∷ xs) ys up down before = (up.0, ascend_join (g ∷ xs) ys up.1 down before.1)

lower_from : (f g : Flow) → f.from.0 < g.from.0 → is_before f g ≡ true
lower_from f g h = rw (lt-ltb f.from.0 g.from.0 h) refl

lower_to : (f g : Flow) → f.from.0 ≡ g.from.0 → f.to.0 < g.to.0 → is_before f g ≡ true
lower_to f g same h = elim (cases_Bool (nat_lt f.from.0 g.from.0)) [
  | inl t ↦ rw t refl
  | inr t ↦ rw t (rw (eq-eqb f.from.0 g.from.0 same) (rw (lt-ltb f.to.0 g.to.0 h) refl))
]

lower_kind : (f g : Flow) → f.from.0 ≡ g.from.0 → f.to.0 ≡ g.to.0 → f.carried ≡ false → g.carried ≡ true → is_before f g ≡ true
lower_kind f g from to intra carried =
    let kinds : (not f.carried && g.carried) ≡ true = ap (λ b. not b && g.carried) intra ∙ carried in
    let inner : ((f.to.0 == g.to.0) && (not f.carried && g.carried)) ≡ true = ap (λ b. b && (not f.carried && g.carried)) (eq-eqb f.to.0 g.to.0 to) ∙ kinds in
    let second : (nat_lt f.to.0 g.to.0 || ((f.to.0 == g.to.0) && (not f.carried && g.carried))) ≡ true = ap (λ b. nat_lt f.to.0 g.to.0 || b) inner
    ∙ or-true (nat_lt f.to.0 g.to.0) in
    let outer : ((f.from.0 == g.from.0) && (nat_lt f.to.0 g.to.0 || ((f.to.0 == g.to.0) && (not f.carried && g.carried)))) ≡ true =
    ap (λ b. b && (nat_lt f.to.0 g.to.0 || ((f.to.0 == g.to.0) && (not f.carried && g.carried)))) (eq-eqb f.from.0 g.from.0 from) ∙ second in
    ap (λ b. nat_lt f.from.0 g.from.0 || b) outer ∙ or-true (nat_lt f.from.0 g.from.0)

-- each of these before each of those
each_pairs : (P Q : Flow → Type 0) (xs ys : List Flow) → ((f g : Flow) → P f → Q g → is_before f g ≡ true) → Each P xs → Each Q ys →
    Each (λ f. Each (λ g. is_before f g ≡ true) ys) xs
each_pairs P Q xs ys go h k =
    each_more P (λ f. Each (λ g. is_before f g ≡ true) ys) xs (λ f at. each_more Q (λ g. is_before f g ≡ true) ys (λ g there. go f g at there) k) h

-- ---- the flows of a region

module _ (p : Program) (r : ℕ) (all : List RegionSite) (trace : List Event) (few : loads_made (backward [] trace) ≤ most_count) where
  -- a flow of this pair
  record Of (from to : ℕ) (carried : Bool) (f : Flow) : Type 0 where
    pub kind : f.carried ≡ carried
    pub from_is : f.from.0 ≡ from
    pub to_is : f.to.0 ≡ to
    pub some : 1 ≤ f.shown
    pub most : f.shown ≤ most_count

  flow_is : (n : ℕ) (d u : RegionSite) (carried : Bool) → n ≤ most_count → Each (Of d.site.0 u.site.0 carried) (flow_of n d u carried)
  flow_is n d u carried less = elim (cases_Bool (n == 0)) [
    | inl t ↦ rw t tt
    | inr t ↦ rw t (record { kind = refl; from_is = refl; to_is = refl; some = some t; most = less }, tt)
  ]
    where
      some : (n == 0) ≡ false → 1 ≤ n
      some t = by n refl
        where
          by : (m : ℕ) → n ≡ m → 1 ≤ n
          by zero is = let clash = sym (eq-eqb n 0 is) ∙ t in absurd (cc clash)
          by (suc m) is = omega (arith, is)

  single : (n : ℕ) (d u : RegionSite) (carried : Bool) → Ascend (flow_of n d u carried)
  single n d u carried = by (n == 0)
    where
      by : (b : Bool) → Ascend (if b then [] else record { from = d.site; to = u.site; carried = carried; shown = n } ∷ [])
      by true = tt
      by false = tt

  -- a flow that fits, from this site to one from this number on
  abbrev RowOf : ℕ → ℕ → Flow → Type 0
  RowOf from low f = FlowFits all f × (f.from.0 ≡ from) × (low ≤ f.to.0)

  abbrev Inside : List RegionSite → Type 0
  Inside us = (i : ℕ) (u : RegionSite) → slice_get us i ≡ Some u → has_numbered_site u.site.0 all ≡ true

  module _ (d : RegionSite) (from_inside : has_numbered_site d.site.0 all ≡ true) where
    fits_of : (u : RegionSite) (carried : Bool) (low : ℕ) → has_numbered_site u.site.0 all ≡ true → u.site.0 ≡ low → (f : Flow) →
        Of d.site.0 u.site.0 carried f → RowOf d.site.0 low f
    fits_of u carried low inside number f of = (
      record {
        from = ap (λ n. has_numbered_site n all) of.from_is ∙ from_inside;
        to = ap (λ n. has_numbered_site n
            all) of.to_is ∙ inside;
        some_shown = of.some;
        most_shown = of.most;
      },
      of.from_is,
      (let to = of.to_is in omega (arith, to, number)),
    )

    less : (u : RegionSite) (carried : Bool) → shown_back p r all d.site.0 u.site.0 carried (backward [] trace) ≤ most_count
    less u carried = let back = shown_less p r all d.site.0 u.site.0 carried (backward [] trace) in omega (arith, back, few)

    pair_of : (u : RegionSite) (low : ℕ) → has_numbered_site u.site.0 all ≡ true → u.site.0 ≡ low → Each (RowOf d.site.0 low) (flows_between p r all trace d u)
    pair_of u low inside number =
        each-lists (RowOf d.site.0 low) (flow_of _ d u false) (flow_of _ d u true)
        (each_more (Of d.site.0 u.site.0 false) (RowOf d.site.0 low) (flow_of _ d u false) (fits_of u false low inside number)
        (flow_is _ d u false (less u false)))
        (each_more (Of d.site.0 u.site.0 true) (RowOf d.site.0 low) (flow_of _ d u true) (fits_of u true low inside number) (flow_is _ d u true (less u true)))

    pair_up : (u : RegionSite) → Ascend (flows_between p r all trace d u)
    pair_up u =
        ascend_join (flow_of _ d u false) (flow_of _ d u true) (single _ d u false) (single _ d u true)
        (each_pairs (Of d.site.0 u.site.0 false) (Of d.site.0 u.site.0 true) (flow_of _ d u false) (flow_of _ d u true)
        (λ f g a b. lower_kind f g (a.from_is ∙ sym b.from_is) (a.to_is ∙ sym b.to_is) a.kind b.kind) (flow_is _ d u false (less u false))
        (flow_is _ d u true (less u true)))

    row_of : (low : ℕ) (us : List RegionSite) → InOrder low us → Inside us → Each (RowOf d.site.0 low) (flat_map (flows_between p r all trace d) us)
    row_of low [] order inside = tt
    row_of low (u ∷ us) order inside =
        each-lists (RowOf d.site.0 low) (flows_between p r all trace d u) (flat_map (flows_between p r all trace d) us)
        (pair_of u low (inside 0 u refl) order.0)
        (each_more (RowOf d.site.0 (suc low)) (RowOf d.site.0 low) (flat_map (flows_between p r all trace d) us)
        (λ f h. (h.0, h.1, (let l = h.2 in omega (arith, l))))
        (row_of (suc low) us order.1 (λ i v there. inside (suc i) v there)))

    pair_to : (u : RegionSite) → Each (λ f. (f.from.0 ≡ d.site.0) × (f.to.0 ≡ u.site.0)) (flows_between p r all trace d u)
    pair_to u =
        each-lists (λ f. (f.from.0 ≡ d.site.0) × (f.to.0 ≡ u.site.0)) (flow_of _ d u false) (flow_of _ d u true)
        (each_more (Of d.site.0 u.site.0 false) (λ f. (f.from.0 ≡ d.site.0) × (f.to.0 ≡ u.site.0)) (flow_of _ d u false) (λ f h. (h.from_is, h.to_is))
        (flow_is _ d u false (less u false)))
        (each_more (Of d.site.0 u.site.0 true) (λ f. (f.from.0 ≡ d.site.0) × (f.to.0 ≡ u.site.0)) (flow_of _ d u true) (λ f h. (h.from_is, h.to_is))
        (flow_is _ d u true (less u true)))

    row_up : (low : ℕ) (us : List RegionSite) → InOrder low us → Inside us → Ascend (flat_map (flows_between p r all trace d) us)
    row_up low [] order inside = tt
    row_up low (u ∷ us) order inside =
        let later = row_of (suc low) us order.1 (λ i v there. inside (suc i) v there) in
        ascend_join (flows_between p r all trace d u) (flat_map (flows_between p r all trace d) us) (pair_up u)
        (row_up (suc low) us order.1 (λ i v there. inside (suc i) v there))
        (each_pairs (λ f. (f.from.0 ≡ d.site.0) × (f.to.0 ≡ u.site.0)) (RowOf d.site.0 (suc low)) (flows_between p r all trace d u)
        (flat_map (flows_between p r all trace d) us)
        (λ f g a b. lower_to f g (a.0 ∙ sym b.1) (let to = a.1 in let number = order.0 in let low = b.2 in omega (arith, to, number, low))) (pair_to u) later)

  abbrev FromOf : ℕ → Flow → Type 0
  FromOf low f = FlowFits all f × (low ≤ f.from.0)

  module _ (k : ℕ) (order : InOrder k all) (inside : Inside all) where
    rows_of : (low : ℕ) (ds : List RegionSite) → InOrder low ds → Inside ds →
        Each (FromOf low) (flat_map (λ d. flat_map (flows_between p r all trace d) all) ds)
    rows_of low [] o i = tt
    rows_of low (d ∷ ds) o i =
        each-lists (FromOf low) (flat_map (flows_between p r all trace d) all) (flat_map (λ d. flat_map (flows_between p r all trace d) all) ds)
        (each_more (RowOf d.site.0 k) (FromOf low) (flat_map (flows_between p r all trace d) all) (λ f h. (
          h.0,
          (let from = h.1 in let number = o.0 in
              omega (arith, from, number)),
        )) (row_of d (i 0 d refl) k all order inside))
        (each_more (FromOf (suc low)) (FromOf low) (flat_map (λ d. flat_map (flows_between p r all trace d) all) ds)
        (λ f h. (h.0, (let l = h.1 in omega (arith, l)))) (rows_of (suc low) ds o.1 (λ j v there. i (suc j) v there)))

    rows_up : (low : ℕ) (ds : List RegionSite) → InOrder low ds → Inside ds → Ascend (flat_map (λ d. flat_map (flows_between p r all trace d) all) ds)
    rows_up low [] o i = tt
    rows_up low (d ∷ ds) o i =
        ascend_join (flat_map (flows_between p r all trace d) all) (flat_map (λ d. flat_map (flows_between p r all trace d) all) ds)
        (row_up d (i 0 d refl) k all order inside)
        (rows_up (suc low) ds o.1 (λ j v there. i (suc j) v there))
        (each_pairs (RowOf d.site.0 k) (FromOf (suc low)) (flat_map (flows_between p r all trace d) all)
        (flat_map (λ d. flat_map (flows_between p r all trace d) all) ds)
        (λ f g a b. lower_from f g (let from = a.1 in let number = o.0 in let low = b.1 in omega (arith, from, number, low)))
        (row_of d (i 0 d refl) k all order inside)
        (rows_of (suc low) ds o.1 (λ j v there. i (suc j) v there)))

-- ---- the counts of a region, and all regions

trace_within : (p : Program) (input : List ℤ) (fuel : ℕ) (c : Config) → length (run_of p input fuel c).trace ≤ fuel
unfolding run_of
trace_within p input zero c = omega arith
trace_within p input (suc fuel) c = by (step p input c) (λ next. trace_within p input fuel next)
  where
    by : (s : Step) → ((next : Config) → length (run_of p input fuel next).trace ≤ fuel) → length (run_by (run_of p input fuel) (suc fuel) c s).trace ≤ suc fuel
    by Finished later = omega arith
    by (Faulted fault) later = omega arith
    by (Stepped event next) later = let l = later next in omega (arith, l)

module _ (p : Program) (input : List ℤ) (fuel : ℕ) (inlined : IsInlined p) (steps : fuel ≤ most_count)
    (few : loads_made (run_of p input fuel (begin p)).trace ≤ most_count) where
  abbrev trace : List Event
  trace = (run_of p input fuel (begin p)).trace

  few_back : loads_made (backward [] trace) ≤ most_count
  few_back = let back = loads_back [] trace in omega (arith, back, few)

  count_fits : (place k : ℕ) (ss : List RegionSite) (s : RegionSite) → slice_get (regions p) place ≡ Some ss → slice_get ss k ≡ Some s →
      CountFits s (counts_of_site trace s)
  count_fits place k ss s there got = record {
    most_runs = let most = count_by-le-length (λ (e : Event). e.site == s.site.0) trace in let short = trace_within p input fuel (begin p) in
        omega (arith, most, short, steps);
    most_nonzero = both_less (λ (e : Event). e.site == s.site.0) (λ (e : Event). gives_nonzero e.effect) trace;
    condition = λ none. site_quiet p input fuel place k ss s inlined there got none;
  }

  counts_fit : (ss : List RegionSite) → ((k : ℕ) (s : RegionSite) → slice_get ss k ≡ Some s → CountFits s (counts_of_site trace s)) →
      CountsFit ss (map (counts_of_site trace) ss)
  counts_fit [] fit = tt
  counts_fit (s ∷ ss) fit = (fit 0 s refl, counts_fit ss (λ k u there. fit (suc k) u there))

  region_fits : (r place : ℕ) (k : ℕ) (ss : List RegionSite) → InOrder k ss → slice_get (regions p) place ≡ Some ss → RegionFits ss (region_seen p r ss trace)
  region_fits r place k ss order there = record {
    counts = counts_fit ss (λ k s got. count_fits place k ss s there got);
    flows = each_more (FromOf p r ss trace few_back k) (FlowFits ss) (flows_seen p r ss trace) (λ f h. h.0)
        (rows_of p r ss trace few_back k order (λ i u got. has_site_at ss i u got) k ss order (λ i u got. has_site_at ss i u got));
    ascend = rows_up p r ss trace few_back k order (λ i u got. has_site_at ss i u got) k ss order (λ i u got. has_site_at ss i u got);
  }

  regions_fit : (r low : ℕ) (rs : List (List RegionSite)) → Apart low rs → ((place : ℕ) (ss : List RegionSite) → slice_get rs place ≡ Some ss → (at : ℕ)
      × (slice_get (regions p) at ≡ Some ss)) → RegionsFit rs (regions_seen p r rs trace)
  regions_fit r low [] apart here = tt
  regions_fit r low (ss ∷ rs) apart here =
      let at = here 0 ss refl in
      (region_fits r at.0 apart.0 ss apart.2 at.1, regions_fit (r + 1) (apart.0 + length ss) rs apart.3 (λ place us there. here (suc place) us there))

  pub observed_fits : ProfileFits p (observed p input fuel).profile
  observed_fits = regions_fit 1 1 (regions p) (regions_apart p inlined) (λ place ss there. (place, there))
