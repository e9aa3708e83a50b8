-- Statements by their heads: whose sites pass a test, what follows them, and their steps.
use Rattle.std.proofs.Common.{◌≡◌, refl, sym, ap, ◌∙◌, append_assoc, ℕ, Bool, true, false, not, ◌&&◌, ◌==◌, if◌then◌else◌, List, [], ◌∷◌, ◌++◌, ℤ, pos, Ok, Err}
use Rattle.std.proofs.Common.{Option, Some, None, ◌⊎◌, inl, inr}
use Rattle.dp_base.specs.Arithmetic.{is_zero}
use Rattle.dp_base.specs.declared.SiteId.{SiteId}
use Rattle.dp_tree.specs.declared.Stmt.{Stmt, out-Stmt}
use Rattle.dp_tree.specs.declared.Stmt.TheOpen.{Stmt-F, Assign, Store, Print, If, While, Region, Break, Call}
use Rattle.dp_tree.specs.declared.Program.{Program}
use Rattle.dp_tree.specs.Eval.{Load, Evaluated, eval, and_then, after_loads, place, cell_count}
use Rattle.dp_tree.specs.Event.{Effect, Printed, Decided, Tried, Event, value_of}
use Rattle.dp_tree.specs.Step.{Config, Finished, Stepped, choose, followed, behind_region, behind_one, region_number, stored_by, after_effect, site_of, decided}
use Rattle.dp_tree.specs.Step.{tried, evaluated, standing, step_by, step_at, step_from, step}
use Rattle.dp_tree.specs.Iteration.{is_region, decides_zero, leaves}
pub use Rattle.dp_tree.proofs.SitesOf.{everywhere_hidden, and_make, and_true, keeps_all, keeps_at, keeps_behind, keeps_followed, keeps_out, no_region}
unfoldable pub use Rattle.dp_tree.proofs.SitesOf.{opened_statement}

-- a break that is taken
abbrev pub taken : Stmt-F Stmt → ℤ → Bool
taken (Break site cond) z = not (is_zero z)
taken _ z = false

back_to : (x : Stmt) (rest behind a : List Stmt) (t : Bool) → (if t then rest ++ behind else a ++ x ∷ (rest ++ behind)) ≡ (if t then rest else a
    ++ x ∷ rest) ++ behind
back_to x rest behind a true = refl
back_to x rest behind a false = sym (append_assoc a (x ∷ rest) behind)

-- what follows goes on into the statements behind, unless it is left
pub followed-append : (x : Stmt) (rest behind : List Stmt) (h : Stmt-F Stmt) (z : ℤ) → taken h z ≡ false →
    followed x (rest ++ behind) h z ≡ followed x rest h z ++ behind
followed-append x rest behind (Break site cond) z t = by (is_zero z) t
  where
    by : (t : Bool) → not t ≡ false → (if t then rest ++ behind else behind_region (rest ++ behind)) ≡ (if t then rest else behind_region rest) ++ behind
    by true t = refl
    by false t = absurd (cc)
followed-append x rest behind (If site cond a b) z t = sym (append_assoc (choose z a b) rest behind)
followed-append x rest behind (While site cond a) z t = back_to x rest behind a (is_zero z)
followed-append x rest behind (Region q site cond a) z t = back_to x rest behind a (is_zero z)
followed-append x rest behind _ z t = refl

-- what is left to do where a break is taken
pub taken_left : (x : Stmt) (rest : List Stmt) (h : Stmt-F Stmt) (z : ℤ) → taken h z ≡ true → followed x rest h z ≡ behind_region rest
taken_left x rest (Break site cond) z t = by (is_zero z) t
  where
    by : (t : Bool) → not t ≡ true → (if t then rest else behind_region rest) ≡ behind_region rest
    by true t = absurd (cc)
    by false t = refl
taken_left x rest _ z t = absurd (cc)

-- it goes on into the statements behind, or they are left
pub left-append : (rest behind : List Stmt) → (behind_region (rest ++ behind) ≡ behind_region rest ++ behind)
    ⊎ (behind_region (rest ++ behind) ≡ behind_region behind)
left-append [] behind = inr refl
left-append (x ∷ rest) behind = by (region_number (out-Stmt x)) (left-append rest behind)
  where
    by : (o : Option ℕ) → (behind_region (rest ++ behind) ≡ behind_region rest ++ behind) ⊎ (behind_region (rest ++ behind) ≡ behind_region behind) →
        (behind_one o (rest ++ behind) (behind_region (rest ++ behind)) ≡ behind_one o rest (behind_region rest) ++ behind)
        ⊎ (behind_one o (rest ++ behind) (behind_region (rest ++ behind)) ≡ behind_region behind)
    by None later = later
    by (Some q) later = inl refl

-- the step of a head gives its site's event, and what follows it
pub record StepsTo (x : Stmt) (rest : List Stmt) (h : Stmt-F Stmt) (event : Event) (next : Config) : Type 0 where
  pub site : event.site ≡ (site_of h).0
  pub to_do : next.to_do ≡ followed x rest h (value_of event.effect)
  -- a head with a site: no call
  pub tested : (test : ℕ → Bool) (r : ℕ) → keeps_at test r h ≡ true → test event.site ≡ true
  -- a region decides
  pub zero : (r : ℕ) → is_region r h ≡ true → decides_zero event.effect ≡ is_zero (value_of event.effect)
  -- a break leaves its region where it is taken
  pub left : leaves event.effect ≡ taken h (value_of event.effect)

pub standing_to_do : (p : Program) (xs : List Stmt) (cells : List ℤ) → (standing p xs cells).to_do ≡ xs
standing_to_do p [] cells = refl
standing_to_do p (x ∷ xs) cells = refl

module _ (p : Program) (input : List ℤ) where
  -- a step by an evaluation
  record StepBy (site : SiteId) (e : Evaluated Effect) (next_by : Effect → Config) (event : Event) (next : Config) : Type 0 where
    site_is : event.site ≡ site.0
    next_is : next ≡ next_by event.effect
    loads_of : List Load
    was : e ≡ Ok (record { value = event.effect; loads = loads_of })

  by_evaluated : (site : SiteId) (e : Evaluated Effect) (next_by : Effect → Config) (event : Event) (next : Config) →
      step_by p site e next_by ≡ Stepped event next → StepBy site e next_by event next
  by_evaluated site (Err kind) next_by event next e = absurd (cc)
  by_evaluated site (Ok v) next_by event next e =
      let event_is : event ≡ record { site = site.0; loads = v.loads; effect = v.value } = cc in
      let next_is : next ≡ next_by v.value = cc in let value_is : v.value ≡ event.effect = sym (ap (λ (x : Event). x.effect) event_is) in
      record {
        site_is = ap (λ (x : Event). x.site) event_is;
        next_is = next_is ∙ ap next_by value_is;
        loads_of = v.loads;
        was = ap (λ (x : Effect). Ok (record { value = x; loads = v.loads })) value_is;
      }

  abbrev effect_or : Evaluated Effect → Effect
  effect_or (Ok v) = v.value
  effect_or (Err kind) = Printed (pos 0)

  decided_zero_is : (e : Evaluated ℤ) (effect : Effect) (loads : List Load) → decided e ≡ Ok (record { value = effect; loads = loads }) →
      decides_zero effect ≡ is_zero (value_of effect)
  decided_zero_is (Err kind) effect loads e = absurd (cc)
  decided_zero_is (Ok v) effect loads e =
      let is : effect ≡ Decided v.value = sym (ap effect_or e) in
      ap decides_zero is ∙ sym (ap (λ (x : Effect). is_zero (value_of x)) is)

  decided_stays : (e : Evaluated ℤ) (effect : Effect) (loads : List Load) → decided e ≡ Ok (record { value = effect; loads = loads }) → leaves effect ≡ false
  decided_stays (Err kind) effect loads e = absurd (cc)
  decided_stays (Ok v) effect loads e = ap leaves (sym (ap effect_or e))

  tried_leaves : (e : Evaluated ℤ) (effect : Effect) (loads : List Load) → tried e ≡ Ok (record { value = effect; loads = loads }) →
      leaves effect ≡ not (is_zero (value_of effect))
  tried_leaves (Err kind) effect loads e = absurd (cc)
  tried_leaves (Ok v) effect loads e = let is : effect ≡ Tried v.value = sym (ap effect_or e) in
      ap leaves is ∙ sym (ap (λ (x : Effect). not (is_zero (value_of x))) is)

  -- an evaluation whose effect is a store or a print
  abbrev Quietly : Evaluated Effect → Type 0
  Quietly (Err kind) = Unit {0}
  Quietly (Ok v) = leaves v.value ≡ false

  quiet_after : (loads : List Load) (e : Evaluated Effect) → Quietly e → Quietly (after_loads loads e)
  quiet_after loads (Err kind) q = tt
  quiet_after loads (Ok v) q = q

  quiet_then : {X : Type 0} (e : Evaluated X) (next : X → Evaluated Effect) → ((x : X) → Quietly (next x)) → Quietly (and_then e next)
  quiet_then (Err kind) next q = tt
  quiet_then (Ok v) next q = quiet_after v.loads (next v.value) (q v.value)

  quiet_stays : (e : Evaluated Effect) (effect : Effect) (loads : List Load) → Quietly e → e ≡ Ok (record { value = effect; loads = loads }) →
      leaves effect ≡ false
  quiet_stays (Err kind) effect loads q e = absurd (cc)
  quiet_stays (Ok v) effect loads q e = ap leaves (sym (ap effect_or e)) ∙ q

  to_do_of : (x : Stmt) (rest : List Stmt) (cells : List ℤ) (h : Stmt-F Stmt) (event : Event) (next : Config) →
      next ≡ after_effect p x rest cells h event.effect → next.to_do ≡ followed x rest h (value_of event.effect)
  to_do_of x rest cells h event next e =
      ap (λ (c : Config). c.to_do) e ∙ standing_to_do p (followed x rest h (value_of event.effect)) (stored_by p rest h event.effect cells)

  head_step : (x : Stmt) (rest : List Stmt) (cells : List ℤ) (h : Stmt-F Stmt) (event : Event) (next : Config) →
      step_at p input cells x rest h ≡ Stepped event next → StepsTo x rest h event next
  head_step x rest cells (Assign site v e) event next s =
      let b = by_evaluated site (evaluated p input cells (Assign site v e)) (after_effect p x rest cells (Assign site v e)) event next s in
      record {
        site = b.site_is;
        to_do = to_do_of x rest cells (Assign site v e) event next b.next_is;
        tested = λ test r k. ap test b.site_is ∙ k;
        zero = λ r k. absurd (cc);
        left = quiet_stays (evaluated p input cells (Assign site v e)) event.effect b.loads_of (quiet_then (eval p input cells e) _ (λ z. refl)) b.was;
      }
  head_step x rest cells (Store site v index e) event next s =
      let b = by_evaluated site (evaluated p input cells (Store site v index e)) (after_effect p x rest cells (Store site v index e)) event next s in
      record {
        site = b.site_is;
        to_do = to_do_of x rest cells (Store site v index e) event next b.next_is;
        tested = λ test r k. ap test b.site_is ∙ k;
        zero = λ r k. absurd (cc);
        left = quiet_stays (evaluated p input cells (Store site v index e)) event.effect b.loads_of
            (quiet_then (eval p input cells index) _ (λ i. quiet_then (eval p input cells e) _ (λ z. quiet_then (place i (cell_count p v)) _ (λ k. refl))))
            b.was;
      }
  head_step x rest cells (Print site e) event next s =
      let b = by_evaluated site (evaluated p input cells (Print site e)) (after_effect p x rest cells (Print site e)) event next s in
      record {
        site = b.site_is;
        to_do = to_do_of x rest cells (Print site e) event next b.next_is;
        tested = λ test r k. ap test b.site_is ∙ k;
        zero = λ r k. absurd (cc);
        left = quiet_stays (evaluated p input cells (Print site e)) event.effect b.loads_of (quiet_then (eval p input cells e) _ (λ z. refl)) b.was;
      }
  head_step x rest cells (If site cond a c) event next s =
      let b = by_evaluated site (evaluated p input cells (If site cond a c)) (after_effect p x rest cells (If site cond a c)) event next s in
      record {
        site = b.site_is;
        to_do = to_do_of x rest cells (If site cond a c) event next b.next_is;
        tested = λ test r k. ap test b.site_is ∙ (and_true (test site.0) (keeps_all test r a && keeps_all test r c) k).0;
        zero = λ r k. absurd (cc);
        left = decided_stays (eval p input cells cond) event.effect b.loads_of b.was;
      }
  head_step x rest cells (While site cond a) event next s =
      let b = by_evaluated site (evaluated p input cells (While site cond a)) (after_effect p x rest cells (While site cond a)) event next s in
      record {
        site = b.site_is;
        to_do = to_do_of x rest cells (While site cond a) event next b.next_is;
        tested = λ test r k. ap test b.site_is ∙ (and_true (test site.0) (keeps_all test r a) k).0;
        zero = λ r k. absurd (cc);
        left = decided_stays (eval p input cells cond) event.effect b.loads_of b.was;
      }
  head_step x rest cells (Region q site cond a) event next s =
      let b = by_evaluated site (evaluated p input cells (Region q site cond a)) (after_effect p x rest cells (Region q site cond a)) event next s in
      record {
        site = b.site_is;
        to_do = to_do_of x rest cells (Region q site cond a) event next b.next_is;
        tested = λ test r k. ap test b.site_is ∙ (and_true (test site.0) (not (q == r)) (and_true (test site.0 && not (q == r)) (keeps_all test r a) k).0).0;
        zero = λ r k. decided_zero_is (eval p input cells cond) event.effect b.loads_of b.was;
        left = decided_stays (eval p input cells cond) event.effect b.loads_of b.was;
      }
  head_step x rest cells (Break site cond) event next s =
      let b = by_evaluated site (evaluated p input cells (Break site cond)) (after_effect p x rest cells (Break site cond)) event next s in
      record {
        site = b.site_is;
        to_do = to_do_of x rest cells (Break site cond) event next b.next_is;
        tested = λ test r k. ap test b.site_is ∙ k;
        zero = λ r k. absurd (cc);
        left = tried_leaves (eval p input cells cond) event.effect b.loads_of b.was;
      }
  head_step x rest cells (Call f line args) event next s = absurd (cc)

  -- a configuration that makes a step has a head
  pub stepped : (c : Config) (x : Stmt) (rest : List Stmt) (event : Event) (next : Config) → c.to_do ≡ x ∷ rest → step p input c ≡ Stepped event next →
      StepsTo x rest (out-Stmt x) event next
  stepped c x rest event next e s = head_step x rest c.cells (out-Stmt x) event next (sym (ap (λ (todo : List Stmt). step_from p input c.cells todo) e) ∙ s)

  pub not_stepped : {A : Type 0} (c : Config) (event : Event) (next : Config) → c.to_do ≡ [] → step p input c ≡ Stepped event next → A
  not_stepped c event next e s = let clash : Finished ≡ Stepped event next = sym (ap (λ (todo : List Stmt). step_from p input c.cells todo) e)
      ∙ s in absurd (cc clash)
