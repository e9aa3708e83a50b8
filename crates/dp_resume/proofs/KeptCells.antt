-- What is so of a run's configurations from its first one on, and what is so of a memory when cells are set to 0.
use Rattle.std.proofs.Common.{◌≡◌, sym, ap, subst, ℕ, zero, suc, Bool, true, false, if◌then◌else◌, List, [], ◌∷◌, ℤ, pos, Option, Some, None, slice_get}
use Rattle.std.proofs.Common.{slice_set, Ok, Err, arith}
use Rattle.std.proofs.lemmas.Option.{slice_get_within}
use Rattle.dp_base.specs.Arithmetic.{is_zero}
use Rattle.dp_base.specs.declared.SiteId.{SiteId}
use Rattle.dp_room.proofs.ListLemmas.{at_index}
use Rattle.dp_tree.specs.declared.Stmt.{Stmt, out-Stmt}
use Rattle.dp_tree.specs.declared.Stmt.TheOpen.{Stmt-F, Region, Break, Call}
use Rattle.dp_tree.specs.declared.VarInfo.{VarInfo}
use Rattle.dp_tree.specs.declared.Program.{Program}
use Rattle.dp_tree.specs.Eval.{Evaluated}
use Rattle.dp_tree.specs.Event.{Effect, Event, value_of, stored}
use Rattle.dp_tree.specs.Step.{Config, Stepped, after_effect, clear_locals, clear_one, cleared_at, cleared_leaving, evaluated, is_local_of, region_number}
use Rattle.dp_tree.specs.Step.{site_of, standing, step, step_at, step_by, stored_by}
use Rattle.dp_tree.specs.Trace.{run_of}
use Rattle.dp_tree.specs.RunLaws.{GoesByStep}
use Rattle.dp_tree.proofs.RunLaws.{runs_by_step}
use Rattle.dp_resume.proofs.EvalFits.{Gives}

-- ---- one configuration after the other

module _ (p : Program) (input : List ℤ) (P : Config → Type 0) (next : (c d : Config) (event : Event) → P c → step p input c ≡ Stepped event d → P d) where
  -- what each step keeps is so all along the run
  pub all_along : (fuel k : ℕ) (c d : Config) → P c → slice_get (run_of p input fuel c).configs k ≡ Some d → P d
  all_along fuel k c d first at = walk k d at
    where
      steps : GoesByStep p input fuel c (run_of p input fuel c)
      steps = runs_by_step p input fuel c

      walk : (k : ℕ) (d : Config) → slice_get (run_of p input fuel c).configs k ≡ Some d → P d
      walk zero d at = let same : c ≡ d = cc (at, steps.first) in subst P same first
      walk (suc k) d at =
          let high = slice_get_within (run_of p input fuel c).configs (suc k) d at in
          let before = at_index (run_of p input fuel c).configs k (omega (arith, high)) in
          let event = at_index (run_of p input fuel c).trace k (omega (arith, high, steps.one_more)) in
          next before.0 d event.0 (walk k before.0 before.1) (steps.each k before.0 d event.0 before.1 event.1 at)

-- ---- the effect of a step

module _ (p : Program) (input : List ℤ) (P : Effect → Type 0) where
  effect_by : (site : SiteId) (e : Evaluated Effect) (next_of : Effect → Config) (event : Event) (next : Config) →
      step_by p site e next_of ≡ Stepped event next → Gives P e → P event.effect
  unfolding Gives
  effect_by site (Err kind) next_of event next e given = absurd (cc)
  effect_by site (Ok v) next_of event next e given =
      let event_is : event ≡ record { site = site.0; loads = v.loads; effect = v.value } = cc in
      subst P (sym (ap (λ (x : Event). x.effect) event_is)) given

  pub effect_at : (x : Stmt) (rest : List Stmt) (cells : List ℤ) (h : Stmt-F Stmt) (event : Event) (next : Config) →
      step_at p input cells x rest h ≡ Stepped event next → Gives P (evaluated p input cells h) → P event.effect
  effect_at x rest cells (Call f line args) event next e given = absurd (cc)
  effect_at x rest cells h event next e given = effect_by (site_of h) (evaluated p input cells h) (after_effect p x rest cells h) event next e given

-- ---- cells that are set to 0

module _ (p : Program) (P : List ℤ → Type 0) (zeroed : (cells : List ℤ) (c : ℕ) → P cells → P (slice_set cells c (pos 0))) where
  pub kept_clearing : (r : ℕ) (vars : List VarInfo) (cells : List ℤ) → P cells → P (clear_locals r vars cells)
  kept_clearing r [] cells h = h
  kept_clearing r (x ∷ xs) cells h =
      kept_clearing r xs (if is_local_of r x.scope then slice_set cells x.first.0 (pos 0) else cells) (by (is_local_of r x.scope))
    where
      by : (b : Bool) → P (if b then slice_set cells x.first.0 (pos 0) else cells)
      by true = zeroed cells x.first.0 h
      by false = h

  kept_at_head : (h : Stmt-F Stmt) (cells : List ℤ) → P cells → P (cleared_at p h cells)
  kept_at_head (Region q site cond a) cells h = kept_clearing q p.vars cells h
  kept_at_head _ cells h = h

  pub kept_standing : (xs : List Stmt) (cells : List ℤ) → P cells → P (standing p xs cells).cells
  kept_standing [] cells h = h
  kept_standing (x ∷ xs) cells h = kept_at_head (out-Stmt x) cells h

  kept_leaving : (rest : List Stmt) (cells : List ℤ) → P cells → P (cleared_leaving p rest cells)
  kept_leaving [] cells h = h
  kept_leaving (x ∷ rest) cells h = by (region_number (out-Stmt x)) (kept_leaving rest cells h)
    where
      by : (o : Option ℕ) → P (cleared_leaving p rest cells) → P (clear_one p o cells (cleared_leaving p rest cells))
      by None later = later
      by (Some r) later = kept_clearing r p.vars cells h

  pub kept_storing : (rest : List Stmt) (h : Stmt-F Stmt) (effect : Effect) (cells : List ℤ) → P (stored effect cells) → P (stored_by p rest h effect cells)
  kept_storing rest (Break site cond) effect cells h = by (is_zero (value_of effect))
    where
      by : (b : Bool) → P (if b then stored effect cells else cleared_leaving p rest (stored effect cells))
      by true = h
      by false = kept_leaving rest (stored effect cells) h
  kept_storing rest _ effect cells h = h

  -- the memory after the effect
  pub kept_after : (x : Stmt) (rest : List Stmt) (h : Stmt-F Stmt) (effect : Effect) (cells : List ℤ) → P (stored effect cells) →
      P (after_effect p x rest cells h effect).cells
  kept_after x rest h effect cells k = kept_standing _ (stored_by p rest h effect cells) (kept_storing rest h effect cells k)
