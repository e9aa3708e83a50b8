-- A site without a condition never gives another value than 0.
use Rattle.std.proofs.Common.{◌≡◌, refl, sym, ap, subst, ◌∙◌, ℕ, zero, suc, ◌+◌, ◌==◌, ◌&&◌, if◌then◌else◌, Bool, true, false, List, [], ◌∷◌, ◌++◌, ℤ, map}
use Rattle.std.proofs.Common.{filter, count_by, length, Option, Some, None, Ok, Err, slice_get, inl, inr, arith, eqb-true}
use Rattle.std.specs.List.{flat_map}
use Rattle.std.proofs.lemmas.Bool.{cases_Bool}
use Rattle.std.proofs.lemmas.List.{map-append}
use Rattle.dp_base.specs.Arithmetic.{is_zero}
use Rattle.dp_base.specs.declared.SiteId.{SiteId}
use Rattle.dp_tree.specs.declared.Program.{Program}
use Rattle.dp_tree.specs.declared.Stmt.{Stmt, out-Stmt, roll-Stmt, roll-out-Stmt}
use Rattle.dp_tree.specs.declared.Stmt.TheOpen.{Stmt-F, Assign, Store, Print, If, While, Region, Break, Call}
use Rattle.dp_tree.specs.declared.Stmt.TheViews.{rolls-If, rolls-While, rolls-Region, rolls-Break}
use Rattle.dp_base.specs.declared.VarId.{VarId}
use Rattle.dp_room.proofs.ListLemmas.{get_before}
use Rattle.dp_plan.proofs.EachLemmas.{each_split}
use Rattle.dp_tree.specs.declared.Expr.{Expr}
use Rattle.dp_tree.specs.Eval.{WithLoads, Evaluated, and_then, after_loads, just, eval, place, cell_count, first_cell}
use Rattle.dp_tree.specs.Inlined.{IsInlined}
use Rattle.dp_tree.specs.Numbering.{is_marked, site_numbers_all}
use Rattle.dp_tree.specs.Step.{Config, Effect, Stored, Event, Step, Finished, Faulted, Stepped, choose, followed, behind_region, behind_one, region_number}
use Rattle.dp_tree.specs.Step.{after_effect, site_of, evaluated, value_of, step, step_at, step_by, stored_by}
use Rattle.dp_tree.specs.Trace.{run_of, run_by, begin, start_cells}
use Rattle.dp_tree.proofs.Asked.{asked-If, asked-While, asked-Region}
use Rattle.dp_tree.proofs.Heads.{standing_to_do}
use Rattle.dp_tree.proofs.SitesOf.{opened_statement}
use Rattle.dp_plan.specs.Each.{Each}
use Rattle.dp_plan.proofs.Ascent.{Ascends, ascends-numbers_from}
use Rattle.dp_profile.specs.declared.sites.RegionSite.{RegionSite}
use Rattle.dp_profile.specs.Sites.{region_site, site_at, sites, regions}
use Rattle.dp_profile.specs.Observed.{gives_nonzero}
use Rattle.dp_profile.proofs.KnownSites.{number, numbers_are}
use Rattle.dp_observe.specs.steps.Tracking.{InOrder}
use Rattle.dp_observe.proofs.ApartLemmas.{in_order}
use Rattle.dp_observe.proofs.HitLemmas.{count_cons, in_order_at}

each_place : {X : Type 0} (P : X → Type 0) (xs : List X) → ((i : ℕ) (x : X) → slice_get xs i ≡ Some x → P x) → Each P xs
each_place P [] h = tt
each_place P (x ∷ xs) h = (h 0 x refl, each_place P xs (λ i y there. h (suc i) y there))

module _ (n : ℕ) where
  -- the site isn't this one, or has no condition
  abbrev Still : RegionSite → Type 0
  Still s = s.site.0 ≡ n → s.condition ≡ false

  abbrev Quiet : List Stmt → Type 0
  Quiet [] = Unit {0}
  Quiet (x ∷ xs) = Each Still (sites x) × Quiet xs

  quiet_flat : (xs : List Stmt) → Each Still (flat_map sites xs) → Quiet xs
  quiet_flat [] h = tt
  quiet_flat (x ∷ xs) h = let parts = each_split Still (sites x) (flat_map sites xs) h in (parts.0, quiet_flat xs parts.1)

  quiet_join : (xs ys : List Stmt) → Quiet xs → Quiet ys → Quiet (xs ++ ys)
  quiet_join [] ys h k = k
  quiet_join (x ∷ xs) ys h k = (h.0, quiet_join xs ys h.1 k)

  quiet_behind : (xs : List Stmt) → Quiet xs → Quiet (behind_region xs)
  quiet_behind [] h = tt
  quiet_behind (x ∷ xs) h = by (region_number (out-Stmt x)) (quiet_behind xs h.1)
    where
      by : (o : Option ℕ) → Quiet (behind_region xs) → Quiet (behind_one o xs (behind_region xs))
      by None later = later
      by (Some r) later = h.1

  abbrev QuietAt : Stmt-F Stmt → Type 0
  QuietAt (Assign site x e) = Unit {0}
  QuietAt (Store site x index e) = Unit {0}
  QuietAt (Print site e) = Unit {0}
  QuietAt (If site cond a b) = Still (region_site site true) × Quiet a × Quiet b
  QuietAt (While site cond a) = Still (region_site site true) × Quiet a
  QuietAt (Region r site cond a) = Still (region_site site true) × Quiet a
  QuietAt (Break site cond) = Still (region_site site true)
  QuietAt (Call f line args) = Unit {0}

  quiet_roll : (h : Stmt-F Stmt) → Each Still (sites (roll-Stmt h)) → QuietAt h
  unfolding opened_statement
  quiet_roll (Assign site x e) q = tt
  quiet_roll (Store site x index e) q = tt
  quiet_roll (Print site e) q = tt
  quiet_roll (If site cond a b) q =
      let all : Each Still (region_site site true ∷ (flat_map sites a ++ flat_map sites b)) = subst (Each Still) (ap sites (rolls-If site cond a b)
      ∙ asked-If site_at site cond a b) q in
      let parts = each_split Still (flat_map sites a) (flat_map sites b) all.1 in
      (all.0, quiet_flat a parts.0, quiet_flat b parts.1)
  quiet_roll (While site cond a) q =
      let all : Each Still (region_site site true ∷ flat_map sites a) = subst (Each Still) (ap sites (rolls-While site cond a)
      ∙ asked-While site_at site cond a) q in
      (all.0, quiet_flat a all.1)
  quiet_roll (Region r site cond a) q =
      let all : Each Still (region_site site true ∷ flat_map sites a) = subst (Each Still) (ap sites (rolls-Region r site cond a)
      ∙ asked-Region site_at r site cond a) q in
      (all.0, quiet_flat a all.1)
  quiet_roll (Break site cond) q =
      let all : Each Still (region_site site true ∷ []) = subst (Each Still) (ap sites (rolls-Break site cond)) q in all.0
  quiet_roll (Call f line args) q = tt

  quiet_out : (x : Stmt) → Each Still (sites x) → QuietAt (out-Stmt x)
  quiet_out x q = quiet_roll (out-Stmt x) (subst (λ (y : Stmt). Each Still (sites y)) (sym (roll-out-Stmt x)) q)

  -- ---- one step

  abbrev Calm : Event → Type 0
  Calm e = e.site ≡ n → gives_nonzero e.effect ≡ false

  plain_then : {X : Type 0} (v : Evaluated X) (f : X → Evaluated Effect) → ((x : X) (w : WithLoads Effect) → f x ≡ Ok w → gives_nonzero w.value ≡ false) →
      (w : WithLoads Effect) → and_then v f ≡ Ok w → gives_nonzero w.value ≡ false
  plain_then (Err fault) f plain w e = absurd (cc e)
  plain_then (Ok v) f plain w e = by (f v.value) refl e
    where
      by : (r : Evaluated Effect) → f v.value ≡ r → after_loads v.loads r ≡ Ok w → gives_nonzero w.value ≡ false
      by (Err fault) is e = absurd (cc e)
      by (Ok u) is e = let same : u.value ≡ w.value = ap (λ (x : WithLoads Effect). x.value)
          (let inner : record { value = u.value; loads = v.loads ++ u.loads } ≡ w = cc in inner) in
          ap gives_nonzero (sym same) ∙ plain v.value u is

  made_by : (p : Program) (site : SiteId) (v : Evaluated Effect) (next_of : Effect → Config) (event : Event) (next : Config) →
      step_by p site v next_of ≡ Stepped event next
      → (w : WithLoads Effect) × (v ≡ Ok w) × (event.site ≡ site.0) × (event.effect ≡ w.value) × (next ≡ next_of w.value)
  made_by p site (Err kind) next_of event next e = absurd (cc e)
  made_by p site (Ok w) next_of event next e =
      let event_is : record { site = site.0; loads = w.loads; effect = w.value } ≡ event = cc in
      let next_is : next_of w.value ≡ next = cc in
      (w, refl, sym (ap (λ (x : Event). x.site) event_is), sym (ap (λ (x : Event). x.effect) event_is), sym next_is)

  chosen : (b : Bool) (xs ys : List Stmt) → Quiet xs → Quiet ys → Quiet (if b then ys else xs)
  chosen true xs ys h k = k
  chosen false xs ys h k = h

  module _ (p : Program) (input cells : List ℤ) (x : Stmt) (rest : List Stmt) (own : Each Still (sites x)) (later : Quiet rest) where
    quiet_followed : (h : Stmt-F Stmt) (z : ℤ) → QuietAt h → Quiet (followed x rest h z)
    quiet_followed (If site cond a b) z q = quiet_join (choose z a b) rest (chosen (is_zero z) a b q.1 q.2) later
    quiet_followed (While site cond a) z q = chosen (is_zero z) (a ++ x ∷ rest) rest (quiet_join a (x ∷ rest) q.1 (own, later)) later
    quiet_followed (Region r site cond a) z q = chosen (is_zero z) (a ++ x ∷ rest) rest (quiet_join a (x ∷ rest) q.1 (own, later)) later
    quiet_followed (Break site cond) z q = chosen (is_zero z) (behind_region rest) rest (quiet_behind rest later) later
    quiet_followed (Assign site y e) z q = later
    quiet_followed (Store site y index e) z q = later
    quiet_followed (Print site e) z q = later
    quiet_followed (Call f line args) z q = later

    condition_calm : (site : SiteId) (event : Event) → Still (region_site site true) → event.site ≡ site.0 → Calm event
    condition_calm site event still at is = let clash = still (sym at ∙ is) in absurd (cc clash)

    next_quiet : (h : Stmt-F Stmt) (effect : Effect) (next : Config) → QuietAt h → next ≡ after_effect p x rest cells h effect → Quiet next.to_do
    next_quiet h effect next q is =
        subst Quiet (sym (ap (λ (c : Config). c.to_do) is ∙ standing_to_do p (followed x rest h (value_of effect)) (stored_by p rest h effect cells)))
        (quiet_followed h (value_of effect) q)

    abbrev third : VarId → ℤ → ℤ → Evaluated Effect
    third y i z = and_then (place i (cell_count p y)) (λ k. just (Stored (first_cell p y + k) z))

    abbrev second : VarId → Expr → ℤ → Evaluated Effect
    second y e i = and_then (eval p input cells e) (third y i)

    just_plain : (x : Effect) → gives_nonzero x ≡ false → (w : WithLoads Effect) → just x ≡ Ok w → gives_nonzero w.value ≡ false
    just_plain x plain w e = let same : record { value = x; loads = [] } ≡ w = cc in
        ap gives_nonzero (sym (ap (λ (u : WithLoads Effect). u.value) same)) ∙ plain

    effect_calm : (h : Stmt-F Stmt) (event : Event) (w : WithLoads Effect) → QuietAt h → evaluated p input cells h ≡ Ok w → event.site ≡ (site_of h).0 →
        event.effect ≡ w.value → Calm event
    effect_calm (If site cond a b) event w q is at does = condition_calm site event q.0 at
    effect_calm (While site cond a) event w q is at does = condition_calm site event q.0 at
    effect_calm (Region r site cond a) event w q is at does = condition_calm site event q.0 at
    effect_calm (Break site cond) event w q is at does = condition_calm site event q at
    effect_calm (Assign site y e) event w q is at does = λ _. ap gives_nonzero does ∙ plain_then _ _ (λ z u eq. just_plain _ refl u eq) w is
    effect_calm (Print site e) event w q is at does = λ _. ap gives_nonzero does ∙ plain_then _ _ (λ z u eq. just_plain _ refl u eq) w is
    effect_calm (Store site y index e) event w q is at does =
        λ _. ap gives_nonzero does ∙ plain_then (eval p input cells index) (second y e) (λ i u eq. plain_then (eval p input cells e) (third y i) (λ z v eq.
        plain_then (place i (cell_count p y)) (λ k. just (Stored (first_cell p y + k) z)) (λ k x eq. just_plain (Stored (first_cell p y + k) z) refl x eq) v eq)
        u eq) w is
    effect_calm (Call f line args) event w q is at does = absurd (cc is)

    step_quiet : (h : Stmt-F Stmt) (event : Event) (next : Config) → QuietAt h → step_at p input cells x rest h ≡ Stepped event next →
        Calm event × Quiet next.to_do
    step_quiet (Call f line args) event next q e = absurd (cc e)
    step_quiet h event next q e =
        let m = made_by p (site_of h) (evaluated p input cells h) (after_effect p x rest cells h) event next e in
        (effect_calm h event m.0 q m.1 m.2 m.3, next_quiet h m.0.value next q m.4)

  -- ---- a whole run

  quiet_step : (p : Program) (input : List ℤ) (c : Config) (xs : List Stmt) → c.to_do ≡ xs → Quiet xs → (event : Event) (next : Config) →
      step p input c ≡ Stepped event next → Calm event × Quiet next.to_do
  quiet_step p input c [] is q event next e =
      let none : Finished ≡ step p input c = sym (ap (λ (ys : List Stmt). step p input (record { to_do = ys; cells = c.cells })) is) in
      let clash = none ∙ e in absurd (cc clash)
  quiet_step p input c (x ∷ rest) is q event next e =
      step_quiet p input c.cells x rest q.0 q.1 (out-Stmt x) event next (quiet_out x q.0)
      (sym (ap (λ (ys : List Stmt). step p input (record { to_do = ys; cells = c.cells })) is) ∙ e)

  quiet_run : (p : Program) (input : List ℤ) (fuel : ℕ) (c : Config) → Quiet c.to_do → Each Calm (run_of p input fuel c).trace
  unfolding run_of
  quiet_run p input zero c q = tt
  quiet_run p input (suc fuel) c q = by (step p input c) refl (λ next q'. quiet_run p input fuel next q')
    where
      by : (s : Step) → step p input c ≡ s → ((next : Config) → Quiet next.to_do → Each Calm (run_of p input fuel next).trace) →
          Each Calm (run_by (run_of p input fuel) (suc fuel) c s).trace
      by Finished e later = tt
      by (Faulted fault) e later = tt
      by (Stepped event next) e later = let both = quiet_step p input c c.to_do refl q event next e in (both.0, later next both.1)

  no_count : (trace : List Event) → Each Calm trace → count_by (λ (e : Event). (e.site == n) && gives_nonzero e.effect) trace ≡ 0
  no_count [] q = refl
  no_count (e ∷ rest) q =
      let more = count_cons (λ (e : Event). (e.site == n) && gives_nonzero e.effect) e rest in
      let later = no_count rest q.1 in
      elim (cases_Bool (e.site == n)) [
        | inl is ↦ more ∙ rw is (rw (q.0 (eqb-true e.site n is)) (omega (arith, later)))
        | inr is ↦ more ∙ rw is (omega (arith, later))
      ]

-- ---- a region's site among all sites of `main`

get_behind : {X : Type 0} (xs ys : List X) (k : ℕ) (x : X) → slice_get ys k ≡ Some x → (i : ℕ) × (slice_get (xs ++ ys) i ≡ Some x)
get_behind [] ys k x e = (k, e)
get_behind (z ∷ xs) ys k x e = let later = get_behind xs ys k x e in (suc later.0, later.1)

located : (main : List Stmt) (place k : ℕ) (ss : List RegionSite) (s : RegionSite) → slice_get (map sites (filter is_marked main)) place ≡ Some ss →
    slice_get ss k ≡ Some s
    → (i : ℕ) × (slice_get (flat_map sites main) i ≡ Some s)
located [] place k ss s there got = absurd (cc there)
located (x ∷ rest) place k ss s there got = by (is_marked x) place there (λ place there. located rest place k ss s there got)
  where
    by : (b : Bool) (place : ℕ) → slice_get (map sites (if b then x ∷ filter is_marked rest else filter is_marked rest)) place ≡ Some ss
        → ((place : ℕ) → slice_get (map sites (filter is_marked rest)) place ≡ Some ss → (i : ℕ) × (slice_get (flat_map sites rest) i ≡ Some s)) → (i : ℕ)
        × (slice_get (flat_map sites (x ∷ rest)) i ≡ Some s)
    by true zero there go =
        let same : sites x ≡ ss = cc in (k, get_before (sites x) (flat_map sites rest) k s (ap (λ (ys : List RegionSite). slice_get ys k) same ∙ got))
    by true (suc place) there go = let later = go place there in get_behind (sites x) (flat_map sites rest) later.0 s later.1
    by false place there go = let later = go place there in get_behind (sites x) (flat_map sites rest) later.0 s later.1

all_numbers : (main : List Stmt) → site_numbers_all main ≡ map number (flat_map sites main)
all_numbers [] = refl
all_numbers (x ∷ rest) = ap (λ (ns : List ℕ). ns ++ site_numbers_all rest) (numbers_are x) ∙ ap (λ (ns : List ℕ). map number (sites x) ++ ns) (all_numbers rest)
    ∙ sym (map-append number (sites x) (flat_map sites rest))

-- a site of a region without a condition gives no other value than 0 in a run
pub site_quiet : (p : Program) (input : List ℤ) (fuel place k : ℕ) (ss : List RegionSite) (s : RegionSite) → IsInlined p →
    slice_get (regions p) place ≡ Some ss → slice_get ss k ≡ Some s → s.condition ≡ false
    → count_by (λ (e : Event). (e.site == s.site.0) && gives_nonzero e.effect) (run_of p input fuel (begin p)).trace ≡ 0
site_quiet p input fuel place k ss s inlined there got none =
    let at = located p.main place k ss s there got in
    let order : InOrder 1 (flat_map sites p.main) = in_order 1 (flat_map sites p.main) (subst (Ascends 1) (sym inlined.sites ∙ all_numbers p.main)
    (ascends-numbers_from 1 (length p.sites))) in
    let still : Each (Still s.site.0) (flat_map sites p.main) = each_place (Still s.site.0) (flat_map sites p.main) (λ i x here same.
    let first = in_order_at 1 (flat_map sites p.main) i x order here in
    let second = in_order_at 1 (flat_map sites p.main) at.0 s order at.1 in
    let equal : i ≡ at.0 = omega (arith, first, second, same) in
    let both : Some x ≡ Some s = sym here ∙ ap (slice_get (flat_map sites p.main)) equal ∙ at.1 in
    let is : x ≡ s = cc both in
    ap (λ (y : RegionSite). y.condition) is ∙ none) in
    let quiet : Quiet s.site.0 (begin p).to_do = subst (Quiet s.site.0) (sym (standing_to_do p p.main (start_cells p.vars)))
    (quiet_flat s.site.0 p.main still) in
    no_count s.site.0 (run_of p input fuel (begin p)).trace (quiet_run s.site.0 p input fuel (begin p) quiet)
