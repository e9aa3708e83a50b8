-- Each event of an iteration is at one of the region's sites, where the region stands alone.
use Rattle.dp_semantics.proofs.Names.{leaves, last_events, upto_leaving, taken, Region, is_region, stored_by, after_effect, ◌+◌, ◌≡◌, refl, sym, ap, ◌∙◌, subst}
use Rattle.dp_semantics.proofs.Names.{ℕ, zero, suc, ◌-◌, Bool, true, false, if◌then◌else◌, List, [], ◌∷◌, ◌++◌, ℤ, length, take, drop, Option, Some, None}
use Rattle.dp_semantics.proofs.Names.{slice_get, arith, drop-append_seam, Program, Stmt, out-Stmt, Stmt-F, Effect, Decided, Event, Config, Step, Finished}
use Rattle.dp_semantics.proofs.Names.{Faulted, Stepped, Run, run_of, run_by, extended, StandsInMain, inl, inr, is_zero, eval, evaluated, followed, choose}
use Rattle.dp_semantics.proofs.Names.{site_of, value_of, stored, standing, step, cleared_at, stands_at_head, places, start, iteration, decided_zero, Access}
use Rattle.dp_semantics.proofs.Names.{accesses, events_from, stop_from, followed-append}
use Rattle.dp_semantics.proofs.Setting.{size, Each, each_split, accesses_all}
use Rattle.dp_theorem.proofs.Begun.{reach}
use Rattle.dp_theorem.proofs.Placed.{all_at, never, PlaceAt, place_at, run_step, Leads, step_leads, From, run_from}
use Rattle.dp_theorem.proofs.Turns.{decided_is}
use Rattle.dp_theorem.proofs.Alone.{Lone, AtSite, Around, ahead, beyond, upto, behind, Sites, each_take, one_upto, region, body_sites, followed_sites}
use Rattle.dp_theorem.proofs.Alone.{around_next, Spotted, within, site_of_step, till}

-- a region is no break
region_stays : (r : ℕ) (h : Stmt-F Stmt) (z : ℤ) → is_region r h ≡ true → taken h z ≡ false
region_stays r (Region q site cond body) z e = refl
region_stays r _ z e = absurd (cc)

-- the last events of an iteration are a front
upto_front : (es : List Event) → take (length (upto_leaving es)) es ≡ upto_leaving es
upto_front [] = refl
upto_front (event ∷ es) = by (leaves event.effect) (upto_front es)
  where
    by : (b : Bool) → take (length (upto_leaving es)) es ≡ upto_leaving es → take (length (event ∷ (if b then [] else upto_leaving es))) (event ∷ es) ≡ event
        ∷ (if b then [] else upto_leaving es)
    by true go = refl
    by false go = ap (λ (fs : List Event). event ∷ fs) go

last_front : (es : List Event) → take (length (last_events es)) es ≡ last_events es
last_front es = by (decided_zero (slice_get es 0)) es
  where
    by : (b : Bool) (fs : List Event) → take (length (if b then take 1 fs else upto_leaving fs)) fs ≡ (if b then take 1 fs else upto_leaving fs)
    by true [] = refl
    by true (event ∷ fs) = refl
    by false fs = upto_front fs

module _ {p : Program} {r : ℕ} {Q : Access → Type 0} (l : Lone p r Q) (input : List ℤ) where
  module _ (i k : ℕ) (fuel : ℕ) (begins : Config) (begun : StandsInMain p begins) (e : start (run_of p input fuel begins) r i ≡ Some k) where
    abbrev run : Run
    run = run_of p input fuel begins

    q : PlaceAt Config (stands_at_head r) run.configs 0 i k
    q = place_at (stands_at_head r) run.configs 0 i k e

    f : From p input fuel begins q.front q.found q.behind
    f = run_from p input q.front fuel begins q.found q.behind q.is

    around : Around Q r (behind l input) (begun.inner ++ begun.behind)
    around = elim (reach r l.statement l.tail l.front l.main l.front_free l.tail_free begun) [ inl t ↦ ahead t.between t.is t.free | inr w ↦ beyond w ]

    spotted : Each (Spotted l input) run.configs
    spotted = subst (λ (c : Config). Each (Spotted l input) (run_of p input fuel c).configs) (sym begun.config_is)
        (all_at p input (size p) (Around Q r (behind l input)) (around_next l input) fuel (begun.inner ++ begun.behind) begun.cells around begun.cells_are)

    here : (inner : List Stmt) × (cells : List ℤ) × (q.found ≡ standing p (inner ++ (behind l input)) cells) × Each Q (accesses_all inner)
    here = within l input q.found (each_split (Spotted l input) q.front (q.found ∷ q.behind) (subst (λ (cs : List Config). Each (Spotted l input) cs) q.is
        spotted)).1.0 q.passes

    -- where the next start is
    abbrev next : Option ℕ
    next = slice_get (places (stands_at_head r) (suc k) q.behind) 0

    iteration_is : iteration run r i ≡ take (stop_from run k next - k) (run_of p input f.left q.found).trace
    iteration_is =
        ap (λ (o : Option ℕ). events_from run o (start run r (suc i))) e ∙ ap (events_from run (Some k)) q.next
        ∙ ap (λ (es : List Event). take (stop_from run k next - k) (drop k es)) f.trace_is
        ∙ ap (λ (n : ℕ). take (stop_from run k next - k) (drop n (f.before ++ (run_of p input f.left q.found).trace))) place
        ∙ ap (λ (es : List Event). take (stop_from run k next - k) es) (drop-append_seam f.before (run_of p input f.left q.found).trace)
      where
        place : k ≡ length f.before
        place = omega (arith, q.place_is, f.length_is)

    abbrev cut : ℕ
    cut = stop_from run k next - k

    -- the run from the start, where its first step is known
    module _ (m : ℕ) (left : f.left ≡ suc m) (event : Event) (onward : Config) (s : step p input q.found ≡ Stepped event onward) where
      whole : run_of p input f.left q.found ≡ extended (suc m) q.found event (run_of p input m onward)
      whole = ap (λ (n : ℕ). run_of p input n q.found) left ∙ run_step p input m q.found (Stepped event onward) s

      trace_is : (run_of p input f.left q.found).trace ≡ event ∷ (run_of p input m onward).trace
      trace_is = ap (λ (run : Run). run.trace) whole

      behind_is : q.behind ≡ (run_of p input m onward).configs
      behind_is = let both = f.configs_are ∙ ap (λ (run : Run). run.configs) whole in cc both

      next_is : next ≡ slice_get (places (stands_at_head r) (suc k) (run_of p input m onward).configs) 0
      next_is = ap (λ (cs : List Config). slice_get (places (stands_at_head r) (suc k) cs) 0) behind_is

      -- where no start follows, the events are the last ones
      cut_is : next ≡ None → cut ≡ length (last_events (event ∷ (run_of p input m onward).trace))
      cut_is none =
          let place : k ≡ length f.before = omega (arith, q.place_is, f.length_is) in
          let behind_it : drop k run.trace ≡ event ∷ (run_of p input m onward).trace = ap (drop k) f.trace_is
          ∙ ap (λ (n : ℕ). drop n (f.before ++ (run_of p input f.left q.found).trace)) place
          ∙ drop-append_seam f.before (run_of p input f.left q.found).trace ∙ trace_is in
          let stop : stop_from run k next ≡ k + length (last_events (event ∷ (run_of p input m onward).trace)) = ap (stop_from run k) none
          ∙ ap (λ (es : List Event). k + length (last_events es)) behind_it in
          omega (arith, stop)

      none_sites : next ≡ None → (Sites l input) (last_events (event ∷ (run_of p input m onward).trace)) →
          (Sites l input) (take cut (event ∷ (run_of p input m onward).trace))
      none_sites none h = subst (Sites l input) (sym (ap (λ (n : ℕ). take n (event ∷ (run_of p input m onward).trace)) (cut_is none)
          ∙ last_front (event ∷ (run_of p input m onward).trace))) h

      last_sites : (b : Bool) → decided_zero (Some event) ≡ b → AtSite Q event → (Sites l input) (upto_leaving (run_of p input m onward).trace) →
          (Sites l input) (last_events (event ∷ (run_of p input m onward).trace))
      last_sites true told at_site h =
          subst (λ (u : Bool). (Sites l input) (if u then take 1 (event ∷ (run_of p input m onward).trace)
          else upto_leaving (event ∷ (run_of p input m onward).trace))) (sym told) (at_site, tt)
      last_sites false told at_site h =
          subst (λ (u : Bool). (Sites l input) (if u then take 1 (event ∷ (run_of p input m onward).trace)
          else upto_leaving (event ∷ (run_of p input m onward).trace))) (sym told) (at_site, by (leaves event.effect))
        where
          by : (b : Bool) → (Sites l input) (if b then [] else upto_leaving (run_of p input m onward).trace)
          by true = tt
          by false = h

      -- up to the next start
      up_to_next : AtSite Q event → (Sites l input) (upto (suc k) (slice_get (places (stands_at_head r) (suc k) (run_of p input m onward).configs) 0)
          (run_of p input m onward).trace) → (Sites l input) (take cut (run_of p input f.left q.found).trace)
      up_to_next here later = subst (λ (es : List Event). (Sites l input) (take cut es)) (sym trace_is)
          (by next refl (subst (λ (o : Option ℕ). (Sites l input) (upto (suc k) o (run_of p input m onward).trace)) (sym next_is) later))
        where
          by : (o : Option ℕ) → next ≡ o → (Sites l input) (upto (suc k) next (run_of p input m onward).trace) →
              (Sites l input) (take cut (event ∷ (run_of p input m onward).trace))
          by None e h = none_sites e (last_sites (decided_zero (Some event)) refl here
              (subst (λ (o : Option ℕ). (Sites l input) (upto (suc k) o (run_of p input m onward).trace)) e h))
          by (Some n) e h = subst (λ (o : Option ℕ). (Sites l input) (take (stop_from run k o - k) (event ∷ (run_of p input m onward).trace))) (sym e)
              (one_upto l input k (Some n) event (run_of p input m onward).trace here
              (subst (λ (o : Option ℕ). (Sites l input) (upto (suc k) o (run_of p input m onward).trace)) e h))

      -- a condition of 0 with no start (behind l input) it
      up_to_closing : AtSite Q event → next ≡ None → decided_zero (Some event) ≡ true → (Sites l input) (take cut (run_of p input f.left q.found).trace)
      up_to_closing at_site none is_closed =
          subst (λ (es : List Event). (Sites l input) (take cut es)) (sym trace_is)
          (none_sites none (subst (λ (u : Bool). (Sites l input) (if u then take 1 (event ∷ (run_of p input m onward).trace)
          else upto_leaving (event ∷ (run_of p input m onward).trace))) (sym is_closed) (at_site, tt)))

      by_inner : (inner : List Stmt) (cells : List ℤ) → q.found ≡ standing p (inner ++ (behind l input)) cells → Each Q (accesses_all inner) →
          (Sites l input) (take cut (run_of p input f.left q.found).trace)
      by_inner (x ∷ inner) cells is sites =
          let here_cells : List ℤ = cleared_at p (out-Stmt x) cells in
          let leads : Leads p input x (inner ++ (behind l input)) here_cells (Stepped event onward) = subst
          (Leads p input x (inner ++ (behind l input)) here_cells) (sym (ap (step p input) is) ∙ s)
          (step_leads p input x (inner ++ (behind l input)) here_cells) in
          let here_region : is_region r (out-Stmt x) ≡ true = sym (ap (stands_at_head r) is) ∙ q.passes in
          let kept_cells = stored_by p (inner ++ (behind l input)) (out-Stmt x) leads.0.value here_cells in
          let there : onward ≡ standing p (followed x inner (out-Stmt x) (value_of leads.0.value) ++ (behind l input))
          (stored_by p (inner ++ (behind l input)) (out-Stmt x) leads.0.value here_cells) =
          leads.1 ∙ ap (λ (ys : List Stmt). standing p ys (stored_by p (inner ++ (behind l input)) (out-Stmt x) leads.0.value here_cells))
          (followed-append x inner (behind l input) (out-Stmt x) (value_of leads.0.value) (region_stays r (out-Stmt x) (value_of leads.0.value) here_region)) in
          up_to_next (site_of_step l input x (inner ++ (behind l input)) inner here_cells event onward leads
          (each_split Q (accesses x) (accesses_all inner) sites).0)
          (subst (λ (d : Config). (Sites l input) (upto (suc k) (slice_get (places (stands_at_head r) (suc k) (run_of p input m d).configs) 0)
          (run_of p input m d).trace)) (sym there)
          (till l input m (suc k) (followed x inner (out-Stmt x) (value_of leads.0.value)) (stored_by p (inner ++ (behind l input)) (out-Stmt x) leads.0.value
          here_cells) (followed_sites l input x inner (value_of leads.0.value) sites)))
      by_inner [] cells is sites =
          let here_cells : List ℤ = cleared_at p (out-Stmt l.statement) cells in
          let leads : Leads p input l.statement l.tail here_cells (Stepped event onward) = subst (Leads p input l.statement l.tail here_cells)
          (sym (ap (step p input) is) ∙ s) (step_leads p input l.statement l.tail here_cells) in
          let d = decided_is (eval p input here_cells (region l input).cond) leads.0 (sym (ap (evaluated p input here_cells) (region l input).is) ∙ leads.4) in
          let there : onward ≡ standing p (choose d.0 ((region l input).body ++ (behind l input)) l.tail) (stored leads.0.value here_cells) =
          leads.1 ∙ ap (λ (h : Stmt-F Stmt). after_effect p l.statement l.tail here_cells h leads.0.value) (region l input).is
          ∙ ap (λ (g : Effect). standing p (choose (value_of g) ((region l input).body ++ (behind l input)) l.tail) (stored leads.0.value here_cells)) d.1 in
          at_region here_cells leads d.0 d.1 there (is_zero d.0) refl
        where
          at_region : (here_cells : List ℤ) (leads : Leads p input l.statement l.tail here_cells (Stepped event onward)) (z : ℤ) → leads.0.value ≡ Decided z →
              onward ≡ standing p (choose z ((region l input).body ++ (behind l input)) l.tail) (stored leads.0.value here_cells) →
              (b : Bool) → is_zero z ≡ b → (Sites l input) (take cut (run_of p input f.left q.found).trace)
          at_region here_cells leads z d there true t =
              up_to_closing (site_of_step l input l.statement l.tail [] here_cells event onward leads l.sites)
              (next_is ∙ ap (λ (c : Config). slice_get (places (stands_at_head r) (suc k) (run_of p input m c).configs) 0) (there
              ∙ ap (λ (b : Bool). standing p (if b then l.tail else (region l input).body ++ (behind l input)) (stored leads.0.value here_cells)) t)
              ∙ ap (λ (ks : List ℕ). slice_get ks 0) (never p input r m (suc k) l.tail (stored leads.0.value here_cells) l.tail_free))
              (ap (λ (u : Event). decided_zero (Some u)) leads.2
              ∙ ap (λ (g : Effect). decided_zero (Some (record { site = (site_of (out-Stmt l.statement)).0; loads = leads.0.loads; effect = g }))) d ∙ t)
          at_region here_cells leads z d there false t =
              up_to_next (site_of_step l input l.statement l.tail [] here_cells event onward leads l.sites)
              (subst (λ (c : Config). (Sites l input) (upto (suc k) (slice_get (places (stands_at_head r) (suc k) (run_of p input m c).configs) 0)
              (run_of p input m c).trace))
              (sym (there ∙ ap (λ (b : Bool). standing p (if b then l.tail else (region l input).body ++ (behind l input))
              (stored leads.0.value here_cells)) t))
              (till l input m (suc k) (region l input).body (stored leads.0.value here_cells) (body_sites l input)))

    no_run : (c : Config) → (Sites l input) (take cut (run_of p input 0 c).trace)
    unfolding run_of
    no_run c = each_take l input cut [] tt

    cut_off : (m : ℕ) (s : Step) → f.left ≡ suc m → step p input q.found ≡ s → (run_by (run_of p input m) (suc m) q.found s).trace ≡ [] →
        (Sites l input) (take cut (run_of p input f.left q.found).trace)
    cut_off m s left e none = subst (λ (es : List Event). (Sites l input) (take cut es)) (sym (ap (λ (n : ℕ). (run_of p input n q.found).trace) left
        ∙ ap (λ (run : Run). run.trace) (run_step p input m q.found s e) ∙ none)) (each_take l input cut [] tt)

    by_step : (m : ℕ) → f.left ≡ suc m → (s : Step) → step p input q.found ≡ s → (Sites l input) (take cut (run_of p input f.left q.found).trace)
    by_step m left Finished s = cut_off m Finished left s refl
    by_step m left (Faulted fault) s = cut_off m (Faulted fault) left s refl
    by_step m left (Stepped event onward) s = by_inner m left event onward s here.0 here.1 here.2 here.3

    sites_here : (Sites l input) (iteration run r i)
    sites_here = subst (Sites l input) (sym iteration_is) (by f.left refl)
      where
        by : (left : ℕ) → f.left ≡ left → (Sites l input) (take cut (run_of p input f.left q.found).trace)
        by zero e = subst (λ (n : ℕ). (Sites l input) (take cut (run_of p input n q.found).trace)) (sym e) (no_run q.found)
        by (suc m) e = by_step m e (step p input q.found) refl

-- Each event of an iteration is at one of the region's sites.
pub iteration_sites : {p : Program} {r : ℕ} {Q : Access → Type 0} → Lone p r Q → (input : List ℤ) (fuel : ℕ) (c : Config) → StandsInMain p c → (i : ℕ) →
    Each (AtSite Q) (iteration (run_of p input fuel c) r i)
iteration_sites {p} {r} {Q} l input fuel c begun i = by (start (run_of p input fuel c) r i) refl
  where
    by : (o : Option ℕ) → start (run_of p input fuel c) r i ≡ o → Each (AtSite Q) (iteration (run_of p input fuel c) r i)
    by None e = subst (λ (es : List Event). Each (AtSite Q) es)
        (sym (ap (λ (o : Option ℕ). events_from (run_of p input fuel c) o (start (run_of p input fuel c) r (suc i))) e)) tt
    by (Some k) e = sites_here l input i k fuel c begun e
