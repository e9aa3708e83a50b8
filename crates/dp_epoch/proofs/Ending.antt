-- How the region's own run goes on from where it stands between two iterations: the next one ends, closes the region, or doesn't end.
use Rattle.std.proofs.Common.{◌≡◌, ◌≢◌, ◌⊎◌, inl, inr, refl, sym, ap, ◌∙◌, subst, ℕ, suc, ◌+◌, ◌-◌, ◌<◌, ◌≤◌, ne_eqb, Bool, true, false, not, cond}
use Rattle.std.proofs.Common.{if◌then◌else◌, List, [], ◌∷◌, ◌++◌, All, map, take, drop, count_by, length, length-append, nat_lt, lt-ltb, le-ltb, Option, Some}
use Rattle.std.proofs.Common.{None, slice_get, ℤ, arith}
use Rattle.std.proofs.lemmas.Bool.{cases_lt}
use Rattle.std.proofs.lemmas.List.Elements.{All-weaker, All-cons, All-nil}
use Rattle.std.proofs.lemmas.List.Sums.{list_all-from_AllPass}
use Rattle.std.specs.List.{list_all}
use Rattle.dp_epoch.specs.declared.account.Account.{Account}
use Rattle.dp_plan.specs.declared.Plan.{Plan}
use Rattle.dp_tree.specs.Step.{Config, Event}
use Rattle.dp_tree.specs.Trace.{Run}
use Rattle.dp_tree.specs.Iteration.{stands_at_head, places, starts, start, begun_count, stop_from, iteration, last_events, upto_leaving, closes}
use Rattle.dp_meaning.specs.declared.ends.Part.TheVariants as part
use Rattle.dp_meaning.specs.Continues.{Continues}
use Rattle.dp_meaning.specs.MachineState.{MachineState, fuel_left, rest_of_run, part_of}
use Rattle.dp_meaning.specs.Moved.{Moved}
use Rattle.dp_meaning.specs.IterationRun.{HeadsOnce, has_closed}
use Rattle.dp_commit.specs.CommittedState.{CommittedState, IsInside, region_run}
use Rattle.dp_commit.proofs.Parts.{head_part, is_off, never_plain, off_plain, run_begins}
use Rattle.dp_meaning.proofs.NextLemmas.{on_region}
use Rattle.dp_commit.proofs.Lists.{places_behind, places_from, range_past}
use Rattle.dp_commit.proofs.Heads as heads
use Rattle.dp_commit.proofs.Committing.{Headed, headed}
use Rattle.dp_epoch.specs.RegionRun.{beyond}
use Rattle.dp_epoch.specs.Progress.{Progress}
use Rattle.dp_epoch.proofs.Counting.{count-cons}
use Rattle.dp_epoch.proofs.Joins.{upto_front}
use Rattle.dp_epoch.proofs.Here.{at_head, goes_here, rest_fuel}

-- places behind so many are counted from there
places_moved : {X : Type 0} (test : X → Bool) (m k : ℕ) (a : List X) → places test (m + k) a ≡ map (beyond m) (places test k a)
places_moved test m k [] = refl
places_moved test m k (x ∷ a) = by (test x) (let e : suc (m + k) ≡ m + suc k = omega arith in ap (λ (n : ℕ). places test n a) e ∙ places_moved test m (suc k) a)
  where
    by : (t : Bool) → places test (suc (m + k)) a ≡ map (beyond m) (places test (suc k) a) →
        (if t then (m + k) ∷ places test (suc (m + k)) a else places test (suc (m + k)) a) ≡ map (beyond m) (if t then k ∷ places test (suc k) a
        else places test (suc k) a)
    by true go = ap (λ (ks : List ℕ). (m + k) ∷ ks) go
    by false go = go

-- no other region stands at the head inside
pub inside_off : (r q : ℕ) → q ≢ r → (c : Config) → IsInside r c → is_off q c ≡ true
inside_off r q other c (inl e) = ap not (head_part q c (part.Region r) e ∙ ne_eqb r q (λ f. other (sym f)))
inside_off r q other c (inr e) = ap not (off_plain q c e)

-- A piece of a run inside region r: what starts of another region starts behind it.
pub others_behind : (r : ℕ) (run rest : Run) (events : List Event) (configs : List Config) → Continues run events configs rest → All (IsInside r) configs →
    (q : ℕ) → q ≢ r → starts run q ≡ map (beyond (length events)) (starts rest q)
others_behind r run rest events configs c inside q other =
    let off : list_all (is_off q) configs ≡ true = list_all-from_AllPass (is_off q) configs (All-weaker (IsInside r) (λ d. is_off q d ≡ true)
    (λ d i. inside_off r q other d i) configs inside) in
    let e : 0 + length configs ≡ length events + 0 = omega (arith, c.paired) in
    ap (places (stands_at_head q) 0) c.configs ∙ places_behind (stands_at_head q) 0 configs rest.configs off
    ∙ ap (λ (k : ℕ). places (stands_at_head q) k rest.configs) e ∙ places_moved (stands_at_head q) (length events) 0 rest.configs

abbrev one_if : Bool → ℕ
one_if b = cond b 1 0

one_begun : (fuel : ℕ) (ks : List ℕ) → 0 < fuel → 1 ≤ count_by (λ k. nat_lt k fuel) (0 ∷ ks)
one_begun fuel ks h =
    let e : count_by (λ k. nat_lt k fuel) (0 ∷ ks) ≡ one_if (nat_lt 0 fuel) + count_by (λ k. nat_lt k fuel) ks = count-cons (λ (k : ℕ). nat_lt k fuel) 0 ks in
    let t : one_if (nat_lt 0 fuel) ≡ one_if true = ap one_if (lt-ltb 0 fuel h) in
    omega (arith, e, t)

only_begun : (fuel : ℕ) → count_by (λ k. nat_lt k fuel) (0 ∷ []) ≡ cond (nat_lt 0 fuel) 1 0
only_begun fuel = count-cons (λ (k : ℕ). nat_lt k fuel) 0 [] ∙ (let e : cond (nat_lt 0 fuel) 1 0 + 0 ≡ cond (nat_lt 0 fuel) 1 0 = omega arith in e)

no_tail : (ks : List ℕ) → slice_get (0 ∷ ks) 1 ≡ None → ks ≡ []
no_tail [] e = refl
no_tail (k ∷ ks) e = absurd (cc)

module _ (plan : Plan) (first : MachineState) (c : CommittedState) (account : Account) (g : Progress plan first c account) where
  abbrev run : Run
  run = region_run first

  abbrev rest : Run
  rest = rest_of_run c.machine

  begins : (more : List Config) × (rest.configs ≡ c.machine.config ∷ more)
  begins = run_begins c.machine.program c.machine.input (fuel_left c.machine) c.machine.config

  rest_starts : starts rest plan.region ≡ 0 ∷ places (stands_at_head plan.region) 1 begins.0
  rest_starts = ap (places (stands_at_head plan.region) 0) begins.1 ∙ (rw (on_region plan.region c.machine.config (at_head plan first c account g)))

  -- where a step is left, the next iteration is begun
  pub begun_next : 0 < rest.fuel → c.count < begun_count run plan.region
  begun_next h =
      let all = (goes_here plan first c account g).begun_in_all in
      let some = one_begun rest.fuel (places (stands_at_head plan.region) 1 begins.0) h in
      let same : begun_count rest plan.region ≡ count_by (λ k. nat_lt k rest.fuel) (0 ∷ places (stands_at_head plan.region) 1 begins.0) = ap
      (count_by (λ k. nat_lt k rest.fuel)) rest_starts in
      omega (arith, all, some, same)

  -- where the next iteration is the last one, it is begun if a step is left
  pub last_begun : start rest plan.region 1 ≡ None → begun_count run plan.region ≡ c.count + cond (nat_lt c.machine.steps c.machine.fuel) 1 0
  last_begun none =
      let tail : places (stands_at_head plan.region) 1 begins.0 ≡ [] = no_tail (places (stands_at_head plan.region) 1 begins.0)
      (ap (λ (ks : List ℕ). slice_get ks 1) (sym rest_starts) ∙ none) in
      let one : begun_count rest plan.region ≡ cond (nat_lt 0 rest.fuel) 1 0 = ap (count_by (λ k. nat_lt k rest.fuel)) (rest_starts
      ∙ ap (λ (ks : List ℕ). 0 ∷ ks) tail) ∙ only_begun rest.fuel in
      let same : nat_lt 0 rest.fuel ≡ nat_lt c.machine.steps c.machine.fuel = same_test in
      (goes_here plan first c account g).begun_in_all ∙ ap (λ (n : ℕ). c.count + n) (one ∙ ap (λ b. cond b 1 0) same)
    where
      same_test : nat_lt 0 rest.fuel ≡ nat_lt c.machine.steps c.machine.fuel
      same_test = by (cases_lt c.machine.steps c.machine.fuel)
        where
          by : (c.machine.steps < c.machine.fuel) ⊎ (c.machine.fuel ≤ c.machine.steps) → nat_lt 0 rest.fuel ≡ nat_lt c.machine.steps c.machine.fuel
          by (inl h) = lt-ltb 0 rest.fuel (omega (arith, h, rest_fuel c.machine)) ∙ sym (lt-ltb c.machine.steps c.machine.fuel h)
          by (inr h) = le-ltb 0 rest.fuel (omega (arith, h, rest_fuel c.machine)) ∙ sym (le-ltb c.machine.steps c.machine.fuel h)

  -- the steps that were made behind iteration `count`, without an end of the iteration
  module _ (m : MachineState) (before after : List ℤ) (events : List Event) (configs : List Config) (went : Moved c.machine m before after events configs)
      (heads_once : HeadsOnce c.region c.machine.current configs) where
    once_here : HeadsOnce plan.region None configs
    once_here = subst (λ (o : Option ℕ). HeadsOnce plan.region o configs) g.is_open.between (subst (λ (r : ℕ). HeadsOnce r c.machine.current configs)
        g.region heads_once)

    all_inside : (r : ℕ) (ds : List Config) → HeadsOnce r None ds → All (IsInside r) ds
    all_inside r [] h = All-nil (IsInside r)
    all_inside r (d ∷ ds) h = All-cons (IsInside r) d ds (inl h.0) (All-weaker (λ x. part_of x.to_do ≡ part.Plain) (IsInside r) (λ x e. inr e) ds h.1)

    pub inside_call : All (IsInside plan.region) configs
    inside_call = all_inside plan.region configs once_here

    module _ (some : 0 < length events) (not_closed : has_closed c.machine.current events ≡ false) where
      pub q : Headed plan.region configs
      q = headed plan.region configs (omega (arith, some, went.run.paired)) once_here

      pub piece : Continues rest events (q.first ∷ q.inner) (rest_of_run m)
      piece = subst (λ (cs : List Config). Continues rest events cs (rest_of_run m)) q.is went.run

      pub on : stands_at_head plan.region q.first ≡ true
      on = on_region plan.region q.first q.on

      pub off : list_all (is_off plan.region) q.inner ≡ true
      off = never_plain plan.region q.inner q.plain

      open_yet : closes events ≡ false
      open_yet = ap (λ (o : Option ℕ). has_closed o events) (sym g.is_open.between) ∙ not_closed

      last_front : (more : List Event) → last_events (events ++ more) ≡ events ++ upto_leaving more
      last_front more = upto_front None events more some open_yet

      stops_past : (o : Option ℕ) → start rest plan.region 1 ≡ o → length events ≤ stop_from rest 0 o
      stops_past None e =
          let size = ap (λ (es : List Event). length (last_events (drop 0 es))) went.run.trace ∙ ap length (last_front (rest_of_run m).trace)
          ∙ length-append events (upto_leaving (rest_of_run m).trace) in
          omega (arith, size)
      stops_past (Some n) e = places_from (stands_at_head plan.region) (length events) 0 n (rest_of_run m).configs
          (sym (heads.start_next plan.region rest (rest_of_run m) events q.first q.inner piece on off) ∙ e)

      -- they are a front of the iteration
      pub front_of_it : (more : List Event) × (iteration rest plan.region 0 ≡ events ++ more)
      front_of_it = (
        take (stop_from rest 0 (start rest plan.region 1) - length events) (rest_of_run m).trace,
        heads.iteration_is plan.region rest (rest_of_run m) events q.first q.inner piece on off
            ∙ range_past events (rest_of_run m).trace (stop_from rest 0 (start rest plan.region 1)) (stops_past (start rest plan.region 1) refl),
      )
