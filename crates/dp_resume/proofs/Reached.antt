-- Where an iteration of a region starts: the configuration there, and that no later region was reached by then.
use Rattle.std.proofs.Common.{◌≡◌, refl, sym, ap, ◌∙◌, inl, inr, ℕ, suc, ◌+◌, ◌-◌, ◌<◌, ◌==◌, Bool, true, false, List, [], ◌∷◌, ◌++◌, ℤ, Option, Some}
use Rattle.std.proofs.Common.{slice_get, count_by, nat_lt, arith, rules, cond}
use Rattle.std.specs.Prelude.{if◌then◌else◌}
use Rattle.std.proofs.lemmas.Bool.{and_parts, both_ways}
use Rattle.std.proofs.lemmas.List.Sums.{sum_by-cons}
use Rattle.dp_tree.specs.declared.Stmt.{Stmt, out-Stmt}
use Rattle.dp_tree.specs.declared.Program.{Program}
use Rattle.dp_tree.specs.Inlined.{IsInlined}
use Rattle.dp_tree.specs.InMain.{StandsInMain}
use Rattle.dp_tree.specs.Step.{Config, clear_locals, standing}
use Rattle.dp_tree.specs.Trace.{Run, begin, run_of}
use Rattle.dp_tree.specs.Iteration.{begins_with, cells_after, cells_in, is_region, places, stands_at_head, start}
use Rattle.dp_tree.specs.GoesOn.{GoesOnAs, starts_before}
use Rattle.dp_tree.proofs.GoesOn.{goes_on, goes_on_from}
use Rattle.dp_tree.proofs.Heads.{standing_to_do}
use Rattle.dp_tree.proofs.InMain.{begins_in_main, stays_in_main}
use Rattle.dp_tree.proofs.MovedLists.{at_drop}
use Rattle.dp_plan.specs.declared.Plan.{Plan}
use Rattle.dp_plan.specs.GivenPlans.{IsPlan}
use Rattle.dp_semantics.specs.EpochKey.{statements_from}
use Rattle.dp_semantics.specs.Nesting.{is_free}
use Rattle.dp_semantics.specs.Verdict.{source_run}
use Rattle.dp_semantics.proofs.Heads.{all_free}
use Rattle.dp_semantics.proofs.Setting.{Accepted}
use Rattle.dp_theorem.proofs.Begun.{reach}
use Rattle.dp_theorem.proofs.Fitting.{accepted}
use Rattle.dp_theorem.proofs.GivenFits.{given_fits}
use Rattle.dp_theorem.proofs.Memory.{clear-at, clear-still}
use Rattle.dp_theorem.proofs.Placed.{behind, never, not_at_head}
use Rattle.dp_theorem.proofs.Turns.{clear, standing_is}
use Rattle.dp_run.proofs.HeadPlaces.{FoundAt, found_at, no_place}
use Rattle.dp_resume.proofs.Order.{free_from, from_front}

-- ---- places

-- none of the places is below k, where nothing before passes the test
none_below : {X : Type 0} (test : X → Bool) (xs : List X) (n k : ℕ) → ((i : ℕ) (x : X) → n + i < k → slice_get xs i ≡ Some x → test x ≡ true → ⊥) →
    count_by (λ j. nat_lt j k) (places test n xs) ≡ 0
none_below test [] n k h = refl
none_below test (x ∷ xs) n k h = by (test x) refl (none_below test xs (suc n) k (λ i y lt at t. h (suc i) y (omega (arith, lt)) at t))
  where
    one : (b : Bool) → nat_lt n k ≡ b → test x ≡ true → ◌≡◌ {A = ℕ} (cond b 1 0) 0
    one true e t = let less : n < k = search rules in absurd (h 0 x (omega (arith, less)) refl t)
    one false e t = refl

    by : (b : Bool) → test x ≡ b → count_by (λ j. nat_lt j k) (places test (suc n) xs) ≡ 0 →
        count_by (λ j. nat_lt j k) (if b then n ∷ places test (suc n) xs else places test (suc n) xs) ≡ 0
    by true e later = let c = sum_by-cons (λ j. cond (nat_lt j k) 1 0) n (places test (suc n) xs) in let o = one (nat_lt n k) refl e in
        omega (arith, c, o, later)
    by false e later = later

-- ---- where a region stands at the head

module _ (p : Program) (inlined : IsInlined p) (plan : Plan) (planned : IsPlan p plan) where
  pub taken : Accepted p plan
  taken = accepted p plan (given_fits p inlined plan planned)

  -- the region's statement
  pub statement_is : is_region plan.region (out-Stmt taken.statement) ≡ true
  statement_is = ap (is_region plan.region) taken.is ∙ (let e : (plan.region == plan.region) ≡ true = search rules in e)

  pub from_is : statements_from plan.region p.main ≡ behind taken
  from_is = ap (statements_from plan.region) taken.main_is ∙ from_front plan.region taken.front taken.statement taken.tail taken.front_free statement_is

  -- nothing stands before the region, where it is at the head
  none_between : (between : List Stmt) (rest : List Stmt) → all_free plan.region between ≡ true →
      begins_with plan.region (between ++ rest) ≡ true → between ≡ []
  none_between [] rest free on = refl
  none_between (y ∷ between) rest free on =
      absurd (both_ways (is_region plan.region (out-Stmt y))
      (not_at_head plan.region y (and_parts (is_free plan.region y) (all_free plan.region between) free).0) on)

  no_head : (xs : List Stmt) → all_free plan.region xs ≡ true → begins_with plan.region xs ≡ true → ⊥
  no_head [] free on = cc on
  no_head (y ∷ xs) free on =
      both_ways (is_region plan.region (out-Stmt y)) (not_at_head plan.region y (and_parts (is_free plan.region y) (all_free plan.region xs) free).0) on

  module _ (d : Config) (stands : StandsInMain p d) (on : stands_at_head plan.region d ≡ true) where
    listed : d.to_do ≡ stands.inner ++ stands.behind
    listed = ap (λ (c : Config). c.to_do) stands.config_is ∙ standing_to_do p (stands.inner ++ stands.behind) stands.cells

    begins : begins_with plan.region (stands.inner ++ stands.behind) ≡ true
    begins = ap (begins_with plan.region) (sym listed) ∙ on

    left_is : stands.inner ++ stands.behind ≡ behind taken
    left_is = elim (reach plan.region taken.statement taken.tail taken.front taken.main_is taken.front_free taken.tail_free stands) [
      | inl a ↦ a.is ∙ ap (λ (ys : List Stmt). ys ++ behind taken)
          (none_between a.between (behind taken) a.free (ap (begins_with plan.region) (sym a.is) ∙ begins))
      | inr free ↦ absurd (no_head (stands.inner ++ stands.behind) free begins)
    ]

    -- the configuration, by a memory
    pub head_is : d ≡ standing p (statements_from plan.region p.main) stands.cells
    head_is = stands.config_is ∙ ap (λ (xs : List Stmt). standing p xs stands.cells) (left_is ∙ sym from_is)

    clear_again : clear taken [] (clear taken [] stands.cells) ≡ clear taken [] stands.cells
    clear_again = clear-still plan.region p.vars (clear_locals plan.region p.vars stands.cells)
        (λ c local. clear-at plan.region c p.vars stands.cells (inl local))

    cleared : d ≡ record { to_do = behind taken; cells = clear_locals plan.region p.vars stands.cells }
    cleared = stands.config_is ∙ ap (λ (xs : List Stmt). standing p xs stands.cells) left_is ∙ standing_is taken [] stands.cells

    -- .. and by its own, in which the region's body locals read 0 already
    pub head_again : standing p (statements_from plan.region p.main) d.cells ≡ d
    head_again =
        ap (λ (xs : List Stmt). standing p xs d.cells) from_is
        ∙ ap (λ (c : Config). standing p (behind taken) c.cells) cleared
        ∙ standing_is taken [] (clear_locals plan.region p.vars stands.cells)
        ∙ ap (λ (cells : List ℤ). record { to_do = behind taken; cells = cells }) clear_again
        ∙ sym cleared

-- ---- the source's run, where an iteration starts

module _ (p : Program) (inlined : IsInlined p) (input : List ℤ) (fuel : ℕ) where
  abbrev run : Run
  run = source_run p input fuel

  pub stands_at : (k : ℕ) (d : Config) → slice_get (source_run p input fuel).configs k ≡ Some d → StandsInMain p d
  stands_at k d at = stays_in_main p input inlined.regions fuel k (begin p) d (begins_in_main p) at

  -- A region that stands before this one isn't reached from here on.
  unreached : (plan : Plan) → IsPlan p plan → (r j : ℕ) (c : Config) → r < plan.region → slice_get (source_run p input fuel).configs j ≡ Some c →
      stands_at_head plan.region c ≡ true →
      places (stands_at_head r) 0 (run_of p input (fuel - j) c).configs ≡ []
  unreached plan planned r j c less at on =
      let s = stands_at j c at in
      ap (λ (x : Config). places (stands_at_head r) 0 (run_of p input (fuel - j) x).configs) (head_is p inlined plan planned c s on)
      ∙ never p input r (fuel - j) 0 (statements_from plan.region p.main) s.cells (free_from r plan.region 1 p.main inlined.regions less)

  module _ (plan : Plan) (planned : IsPlan p plan) (n k : ℕ) (starts_so : start (source_run p input fuel) plan.region n ≡ Some k) where
    pub there : FoundAt (stands_at_head plan.region) (source_run p input fuel).configs k
    there = found_at (stands_at_head plan.region) run.configs n k starts_so

    abbrev pub config : Config
    config = there.found

    pub config_at : slice_get (source_run p input fuel).configs k ≡ Some config
    config_at = there.at

    abbrev pub rest : Run
    rest = run_of p input (fuel - k) config

    -- a run from there begins with the same configuration
    pub begins_again : standing p (statements_from plan.region p.main) (cells_after (source_run p input fuel) k) ≡ config
    begins_again =
        ap (λ (o : Option Config). standing p (statements_from plan.region p.main) (cells_in o)) config_at
        ∙ head_again p inlined plan planned config (stands_at k config config_at) there.passes

    -- the run goes on so, with this iteration as its first
    pub goes_on_here : GoesOnAs plan.region n k (source_run p input fuel) rest
    goes_on_here = (goes_on_from p input fuel k plan.region n (begin p) config config_at starts_so).0

    pub starts_here : start rest plan.region 0 ≡ Some 0
    starts_here = (goes_on_from p input fuel k plan.region n (begin p) config config_at starts_so).1

    -- a later region wasn't reached before
    not_before : (later : Plan) → IsPlan p later → plan.region < later.region → (j : ℕ) (c : Config) → 0 + j < k →
        slice_get (source_run p input fuel).configs j ≡ Some c → stands_at_head later.region c ≡ true → ⊥
    not_before later is less j c lt at on =
        let on_as = goes_on p input fuel j plan.region (begin p) c at in
        let place : j + (k - j) ≡ k = omega (arith, lt) in
        let here : slice_get (run_of p input (fuel - j) c).configs (k - j) ≡ Some config =
        ap (λ (cs : List Config). slice_get cs (k - j)) (sym on_as.configs) ∙ sym (at_drop j (k - j) run.configs)
        ∙ ap (slice_get run.configs) place ∙ config_at in
        no_place (stands_at_head plan.region) (run_of p input (fuel - j) c).configs 0 (k - j) config
        (unreached later is plan.region j c less at on) here there.passes

    pub none_started : (later : Plan) → IsPlan p later → plan.region < later.region → starts_before (source_run p input fuel) later.region k ≡ 0
    none_started later is less = none_below (stands_at_head later.region) run.configs 0 k (not_before later is less)
