-- Runs step by step.
use Rattle.std.proofs.Common.{◌≡◌, refl, sym, ap, ◌∙◌, ◌⊎◌, inl, inr, ℕ, zero, suc, ◌-◌, ◌≤◌, List, [], ◌∷◌, ℤ, length, take, Some, slice_get, arith}
use Rattle.dp_base.specs.declared.End.{End}
use Rattle.dp_base.specs.declared.End.TheVariants.{Done, Fault, Fuel}
use Rattle.dp_tree.specs.declared.Stmt.{Stmt}
use Rattle.dp_tree.specs.declared.Program.{Program}
use Rattle.dp_tree.specs.Step.{Config, Event, Step, Finished, Faulted, Stepped, step_from, step}
use Rattle.dp_tree.specs.Trace.{Run, run_of, run_by, end_at, ended, extended}
use Rattle.dp_tree.specs.RunLaws.{IsFront, FuelExtends, is_empty, EndsAt, GoesByStep, RunsByStep}

module _ (p : Program) (input : List ℤ) where
  -- the first configuration of a run is where it starts
  by_first : (go : Config → Run) (n : ℕ) (c : Config) (s : Step) → take 1 (run_by go n c s).configs ≡ c ∷ []
  by_first go n c Finished = refl
  by_first go n c _ = refl

  first_config : (n : ℕ) (c : Config) → take 1 (run_of p input n c).configs ≡ c ∷ []
  unfolding run_of
  first_config zero c = refl
  first_config (suc n) c = by_first (run_of p input n) (suc n) c (step p input c)

  -- where nothing is left to do, each run is done
  empty_end : (n : ℕ) (c : Config) → c.to_do ≡ [] → (run_of p input n c).end ≡ Done
  unfolding run_of
  empty_end zero c e = ap end_at e
  empty_end (suc n) c e = ap (λ (to_do : List Stmt). (run_by (run_of p input n) (suc n) c (step_from p input c.cells to_do)).end) e

  spent : (n : ℕ) (c : Config) (to_do : List Stmt) → c.to_do ≡ to_do → (end_at c.to_do ≡ Fuel) ⊎ ((run_of p input n c).end ≡ end_at c.to_do)
  spent n c [] e = inr (empty_end n c e ∙ sym (ap end_at e))
  spent n c (s ∷ rest) e = inl (ap end_at e)

  front_by : (m n : ℕ) (c : Config) (go : (d : Config) → IsFront m (run_of p input m d) (run_of p input n d)) (s : Step) →
      IsFront (suc m) (run_by (run_of p input m) (suc m) c s) (run_by (run_of p input n) (suc n) c s)
  front_by m n c go (Stepped event next) =
      let h = go next in
      record { trace = ap (λ es. event ∷ es) h.trace; configs = ap (λ cs. c ∷ cs) h.configs; end = h.end }
  front_by m n c go _ = record { trace = refl; configs = refl; end = inr refl }

  front : (m n : ℕ) (c : Config) → m ≤ n → IsFront m (run_of p input m c) (run_of p input n c)
  unfolding run_of
  front zero n c h = record { trace = refl; configs = sym (first_config n c); end = spent n c c.to_do refl }
  front (suc m) zero c h = absurd (omega (arith, h))
  front (suc m) (suc n) c h =
      let less : m ≤ n = omega (arith, h) in
      front_by m n c (λ d. front m n d less) (step p input c)

  pub fuel_extends : FuelExtends p input
  fuel_extends = front

  -- a run of no step
  stays : (fuel : ℕ) (c : Config) (end : End) → EndsAt p input fuel c end → GoesByStep p input fuel c (ended fuel c end)
  stays fuel c end why = record {
    kept = refl;
    steps_within = omega arith;
    one_more = refl;
    first = refl;
    each = λ k before after event b e a. no_event k event e;
    last = λ d e. ends d e;
  }
    where
      no_event : {A : Type 0} (k : ℕ) (event : Event) → slice_get {X = Event} [] k ≡ Some event → A
      no_event k event e = absurd (cc)

      same : (d : Config) → slice_get (c ∷ []) 0 ≡ Some d → c ≡ d
      same d e = cc

      left : fuel ≡ fuel - 0
      left = omega arith

      ends : (d : Config) → slice_get (c ∷ []) 0 ≡ Some d → EndsAt p input (fuel - 0) d end
      ends d e = Rattle.std.proofs.Common.subst (λ (k : ℕ). EndsAt p input k d end) left
          (Rattle.std.proofs.Common.subst (λ (x : Config). EndsAt p input fuel x end) (same d e) why)

  -- one step more
  grows : (fuel : ℕ) (c next : Config) (event : Event) (run : Run) → step p input c ≡ Stepped event next → GoesByStep p input fuel next run →
      GoesByStep p input (suc fuel) c (extended (suc fuel) c event run)
  grows fuel c next event run e h = record {
    kept = refl;
    steps_within = omega (arith, h.steps_within);
    one_more = ap (λ (k : ℕ). suc k) h.one_more;
    first = refl;
    each = each;
    last = λ d at. Rattle.std.proofs.Common.subst (λ (k : ℕ). EndsAt p input k d run.end) left (h.last d at);
  }
    where
      left : fuel - length run.trace ≡ suc fuel - suc (length run.trace)
      left = omega arith

      each : (k : ℕ) (before after : Config) (event' : Event) → slice_get (c ∷ run.configs) k ≡ Some before → slice_get (event ∷ run.trace) k ≡ Some event' →
          slice_get (c ∷ run.configs) (suc k) ≡ Some after →
          step p input before ≡ Stepped event' after
      each zero before after event' b v a =
          let c_is : c ≡ before = cc (b) in let event_is : event ≡ event' = cc (v) in let next_is : next ≡ after = cc (a, h.first) in
          sym (ap (λ (x : Config). step p input x) c_is) ∙ e ∙ ap (λ (x : Event). Stepped x next) event_is ∙ ap (λ (x : Config). Stepped event' x) next_is
      each (suc k) before after event' b v a = h.each k before after event' b v a

  goes_by : (n : ℕ) (c : Config) (go : (d : Config) → GoesByStep p input n d (run_of p input n d)) (s : Step) → step p input c ≡ s →
      GoesByStep p input (suc n) c (run_by (run_of p input n) (suc n) c s)
  goes_by n c go Finished e = stays (suc n) c Done e
  goes_by n c go (Faulted fault) e = stays (suc n) c (Fault fault) (omega arith, e)
  goes_by n c go (Stepped event next) e = grows n c next event (run_of p input n next) e (go next)

  at_end : (c : Config) (to_do : List Stmt) → c.to_do ≡ to_do → EndsAt p input 0 c (end_at to_do)
  at_end c [] e = ap (λ (x : List Stmt). step_from p input c.cells x) e
  at_end c (s ∷ rest) e = (refl, ap is_empty e)

  pub runs_by_step : RunsByStep p input
  unfolding run_of
  runs_by_step zero c = stays 0 c (end_at c.to_do) (at_end c c.to_do refl)
  runs_by_step (suc n) c = goes_by n c (λ d. runs_by_step n d) (step p input c) refl
