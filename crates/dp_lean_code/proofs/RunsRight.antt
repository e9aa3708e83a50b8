-- What the code finds of quiet statements and their runs is what the definitions say.
use Rattle.dp_semantics.proofs.Names.{◌≡◌, refl, sym, ap, ◌∙◌, ℕ, ◌==◌, not, ◌&&◌, if◌then◌else◌, Bool, true, false, List, [], ◌∷◌, ◌++◌, length, map, list_all}
use Rattle.dp_semantics.proofs.Names.{list_any, Option, Some, None, Stmt, Program, Plan, stage_of, first_site, region_accesses, has_cell}
use Rattle.dp_tree.specs.declared.Stmt.TheVariants as tree
use Rattle.dp_tree.specs.Numbering.{numbers_from}
use Rattle.dp_tree.specs.Statements.{everywhere}
use Rattle.dp_plan.specs.CheckedTable.{IsTabled}
use Rattle.dp_plan.specs.Access.{loaded_by}
use Rattle.dp_semantics.specs.Fits.{stores_known}
use Rattle.dp_net.specs.Quiet.{is_quiet_site, is_assumed_at, quiet_at, is_quiet}
use Rattle.dp_net.specs.BlockText.{own_stage, is_quiet_own, run, joins_run, if_pays, block_from}
use Rattle.dp_net.specs.Hidden.{is_hidden, gains, pays_off}
use Rattle.dp_lean_code.specs.steps.Needs.{private_home}
use Rattle.dp_lean_code.proofs.HidesRight.{hides_is}
use Rattle.dp_lean_code.specs.steps.Runs.{joins, quiet_site, quiet_here, pays_in, count_in}
unfoldable use Rattle.dp_lean_code.specs.steps.Runs.{quiet_in, run_in, hides_from, gains_in}

module _ (p : Program) (plan : Plan) (tabled : IsTabled p plan) where
  site_same : (t site : ℕ) → quiet_site p plan t site ≡ is_quiet_site p plan t site
  site_same t site = ap (λ c. (stage_of p plan site == t) && (not c && (not (site == first_site p plan) && not (list_any (is_assumed_at site) plan.assume))))
      (tabled site)

  quiet_same : (t : ℕ) (x : Stmt) → quiet_here p plan t x ≡ quiet_at p plan t x
  quiet_same t (tree.Assign site x e) = ap (λ c. c && (list_all (has_cell p) (loaded_by e) && stores_known p (Some x.0))) (site_same t site.0)
  quiet_same t (tree.Store site x i e) = ap (λ c. c && (list_all (has_cell p) (loaded_by i ++ loaded_by e) && stores_known p (Some x.0))) (site_same t site.0)
  quiet_same t (tree.If' site cond i a j b) = ap (λ c. c && (list_all (has_cell p) (loaded_by cond) && stores_known p None)) (site_same t site.0)
  quiet_same t (tree.While' site cond i a) = ap (λ c. c && (list_all (has_cell p) (loaded_by cond) && stores_known p None)) (site_same t site.0)
  quiet_same t (tree.Print site e) = refl
  quiet_same t (tree.Region' r site cond i a) = refl
  quiet_same t (tree.Break site cond) = refl
  quiet_same t (tree.Call f line args) = refl

  pub quiet_is : (t : ℕ) (x : Stmt) → quiet_in p plan t x ≡ is_quiet p plan t x
  unfolding quiet_in
  quiet_is t x = λ i. everywhere (λ (y : Stmt). quiet_same t y i) x

  run_is : (t : ℕ) (xs : List Stmt) → run_in p plan t xs ≡ run p plan t xs
  unfolding run_in
  run_is t [] = refl
  run_is t (x ∷ xs) = ap (λ (c : Bool). if c then x ∷ run_in p plan t xs else []) (quiet_is t x)
      ∙ ap (λ (ys : List Stmt). if is_quiet p plan t x then x ∷ ys else []) (run_is t xs)

  module _ (homes : List (Option ℕ)) (homes_are : homes ≡ map (private_home p plan (region_accesses p plan)) (numbers_from 0 (length p.vars))) where
    gains_is : (t : ℕ) (x : Stmt) → gains_in p plan homes t x ≡ gains p (is_hidden p plan t) x
    unfolding gains_in
    gains_is t x = λ i. gains p (λ c. hides_is p plan homes homes_are t c i) x

    pays_is : (x : Stmt) (rest : List Stmt) → pays_in p plan homes (own_stage p plan x) (x ∷ rest) ≡ pays_off p plan (x ∷ rest)
    pays_is x rest = λ i. list_any (λ (y : Stmt). gains_is (own_stage p plan x) y i) (x ∷ rest)

    joins_is : (t : ℕ) (before : Option ℕ) → joins t before ≡ joins_run p plan t before
    joins_is t None = refl
    joins_is t (Some u) = refl

    -- the block that begins with a quiet statement
    pub count_is : (before : Option ℕ) (x : Stmt) (rest : List Stmt) → is_quiet_own p plan x ≡ true →
        count_in p plan homes before (own_stage p plan x) (x ∷ rest) ≡ length (block_from p plan (pays_off p plan) before x rest)
    count_is before x rest q =
        let t = own_stage p plan x in
        let front : run_in p plan (own_stage p plan x) (x ∷ rest) ≡ x ∷ run p plan (own_stage p plan x) rest =
        run_is (own_stage p plan x) (x ∷ rest) ∙ ap (λ (c : Bool). if c then x ∷ run p plan (own_stage p plan x) rest else []) q in
        ap (λ c. if c then 0 else if pays_in p plan homes t (run_in p plan t (x ∷ rest)) then length (run_in p plan t (x ∷ rest)) else 0) (joins_is t before)
        ∙ ap (λ (xs : List Stmt). if joins_run p plan t before then 0 else if pays_in p plan homes t xs then length xs else 0) front
        ∙ ap (λ c. if joins_run p plan t before then 0 else if c then length (x ∷ run p plan t rest) else 0) (pays_is x (run p plan t rest))
        ∙ by (joins_run p plan t before) (pays_off p plan (x ∷ run p plan t rest))
        ∙ sym (ap (λ (c : Bool). length
        (if c then (if joins_run p plan t before then [] else if_pays p plan (pays_off p plan) (x ∷ run p plan t rest)) else [])) q)
      where
        by : (c d : Bool) → (if c then 0 else if d then length (x ∷ run p plan (own_stage p plan x) rest) else 0)
            ≡ length (if c then [] else (if d then x ∷ run p plan (own_stage p plan x) rest else []))
        by true d = refl
        by false true = refl
        by false false = refl
