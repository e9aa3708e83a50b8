-- Each stage's text has the blocks of the region whole.
use Rattle.dp_semantics.proofs.Names.{◌≡◌, inl, inr, refl, sym, ap, ◌∙◌, ℕ, ◌+◌, ◌-◌, ◌<◌, ◌≤◌, ◌==◌, Bool, true, false, ◌&&◌, if◌then◌else◌, List, [], ◌∷◌}
use Rattle.dp_semantics.proofs.Names.{◌++◌, Option, Some, None, arith, eqb-true, and_parts, cases_Bool, SiteId, Expr, Stmt, Row_of-Stmt, end_of-Stmt}
use Rattle.dp_semantics.proofs.Names.{more_of-Stmt, out-Stmt, roll-Stmt, roll-out-Stmt, rolls-If, rolls-While, Assign, Store, Print, If, While, Break, Call}
use Rattle.dp_semantics.proofs.Names.{Program, Plan, stage_of, assumed_in, branch_of, project, project_in, project_all}
use Rattle.dp_tree.specs.declared.Stmt.TheVariants as tree
use Rattle.dp_tree.specs.declared.Stmt.TheViews.{outs-If', outs-While'}
use Rattle.dp_tree.specs.Statements.{listed, everywhere_in}
use Rattle.dp_tree.proofs.InnerTexts.{shown_listed}
use Rattle.dp_tree.specs.declared.Stmt.TheBlock.{shown-the_row-Stmt-0}
use Rattle.dp_theorem.proofs.Projected.{not_reached, reached}
use Rattle.dp_net.specs.Quiet.{quiet_at, is_quiet, is_quiet_site}
use Rattle.dp_net.specs.BlockText.{run, past_run}
use Rattle.dp_net.proofs.Silent.{all_quiet, AllQuiet, quiet_out, known_quiet}
use Rattle.dp_net.proofs.Texts.{site_at}

rolled_if : (site : SiteId) (cond : Expr) (h : _) (a : Row_of-Stmt _) (k : _) (b : Row_of-Stmt _) →
    tree.If site cond (listed a) (listed b) ≡ tree.If' site cond h a k b
rolled_if site cond h a k b =
    sym (rolls-If site cond (listed a) (listed b)) ∙ ap (λ (xs : List Stmt). roll-Stmt (If site cond xs (listed b))) (sym (shown_listed h a))
    ∙ ap (λ (xs : List Stmt). roll-Stmt (If site cond (shown-the_row-Stmt-0 h a) xs)) (sym (shown_listed k b))
    ∙ ap roll-Stmt (sym (outs-If' site cond h a k b)) ∙ roll-out-Stmt (tree.If' site cond h a k b)

rolled_while : (site : SiteId) (cond : Expr) (h : _) (a : Row_of-Stmt _) → tree.While site cond (listed a) ≡ tree.While' site cond h a
rolled_while site cond h a =
    sym (rolls-While site cond (listed a)) ∙ ap (λ (xs : List Stmt). roll-Stmt (While site cond xs)) (sym (shown_listed h a))
    ∙ ap roll-Stmt (sym (outs-While' site cond h a)) ∙ roll-out-Stmt (tree.While' site cond h a)

module _ (p : Program) (plan : Plan) where
  -- a quiet site's stage
  site_stage : (t site : ℕ) (more : Bool) → (is_quiet_site p plan t site && more) ≡ true → stage_of p plan site ≡ t
  site_stage t site more e = eqb-true (stage_of p plan site) t (and_parts (stage_of p plan site == t) _ (and_parts (is_quiet_site p plan t site) more e).0).0

  -- the stage of a quiet statement is its own site's
  pub quiet_stage : (t : ℕ) (x : Stmt) → is_quiet p plan t x ≡ true → stage_of p plan (site_at x) ≡ t
  quiet_stage t x q = (known_quiet p plan t (out-Stmt x) (sym (quiet_out p plan t x) ∙ q)).stage

  -- A quiet statement stands as it is in the text of its stage and of those behind it, and in no other.
  module _ (t s : ℕ) where
    module _ (late : t ≤ s) where
      mutual
        pub kept : (x : Stmt) → is_quiet p plan t x ≡ true → project p plan s x ≡ x ∷ []
        kept (tree.Assign site x e) q = reached p plan s site.0 _ [] (let h = site_stage t site.0 _ q in omega (arith, h, late))
        kept (tree.Store site x index e) q = reached p plan s site.0 _ [] (let h = site_stage t site.0 _ q in omega (arith, h, late))
        kept (tree.Print site e) q = absurd (cc)
        kept (tree.If' site cond h a k b) q =
            let both = and_parts (quiet_at p plan t (tree.If' site cond h a k b))
            (everywhere_in (quiet_at p plan t) a && everywhere_in (quiet_at p plan t) b) q in
            let inner = and_parts (everywhere_in (quiet_at p plan t) a) (everywhere_in (quiet_at p plan t) b) both.1 in
            reached p plan s site.0 _ _ (let h = site_stage t site.0 _ both.0 in omega (arith, h, late))
            ∙ ap (λ (xs : List Stmt). tree.If site cond xs (project_in p plan s b) ∷ []) (kept_in a inner.0)
            ∙ ap (λ (xs : List Stmt). tree.If site cond (listed a) xs ∷ []) (kept_in b inner.1)
            ∙ ap (λ (y : Stmt). y ∷ []) (rolled_if site cond h a k b)
        kept (tree.While' site cond h a) q =
            let both = and_parts (quiet_at p plan t (tree.While' site cond h a)) (everywhere_in (quiet_at p plan t) a) q in
            reached p plan s site.0 _ [] (let h = site_stage t site.0 _ both.0 in omega (arith, h, late))
            ∙ ap (λ (xs : List Stmt). tree.While site cond xs ∷ []) (kept_in a both.1) ∙ ap (λ (y : Stmt). y ∷ []) (rolled_while site cond h a)
        kept (tree.Region' r site cond h a) q = absurd (cc)
        kept (tree.Break site cond) q = absurd (cc)
        kept (tree.Call f line args) q = absurd (cc)

        kept_in : {n : _} (row : Row_of-Stmt n) → everywhere_in (quiet_at p plan t) row ≡ true → project_in p plan s row ≡ listed row
        kept_in end_of-Stmt q = refl
        kept_in (more_of-Stmt x rest) q =
            let both = and_parts (is_quiet p plan t x) (everywhere_in (quiet_at p plan t) rest) q in
            ap (λ (ys : List Stmt). ys ++ project_in p plan s rest) (kept x both.0) ∙ ap (λ (ys : List Stmt). x ∷ ys) (kept_in rest both.1)

    module _ (early : s < t) where
      no_branch : (o : Option Bool) (a b : List Stmt) → a ≡ [] → b ≡ [] → branch_of o a b ≡ []
      no_branch None a b e f = refl
      no_branch (Some true) a b e f = e
      no_branch (Some false) a b e f = f

      mutual
        pub gone : (x : Stmt) → is_quiet p plan t x ≡ true → project p plan s x ≡ []
        gone (tree.Assign site x e) q = not_reached p plan s site.0 _ [] (let h = site_stage t site.0 _ q in omega (arith, h, early))
        gone (tree.Store site x index e) q = not_reached p plan s site.0 _ [] (let h = site_stage t site.0 _ q in omega (arith, h, early))
        gone (tree.Print site e) q = absurd (cc)
        gone (tree.If' site cond h a k b) q =
            let both = and_parts (quiet_at p plan t (tree.If' site cond h a k b))
            (everywhere_in (quiet_at p plan t) a && everywhere_in (quiet_at p plan t) b) q in
            let inner = and_parts (everywhere_in (quiet_at p plan t) a) (everywhere_in (quiet_at p plan t) b) both.1 in
            not_reached p plan s site.0 _ _ (let h = site_stage t site.0 _ both.0 in omega (arith, h, early))
            ∙ no_branch (assumed_in plan.assume site.0) _ _ (gone_in a inner.0) (gone_in b inner.1)
        gone (tree.While' site cond h a) q =
            let both = and_parts (quiet_at p plan t (tree.While' site cond h a)) (everywhere_in (quiet_at p plan t) a) q in
            not_reached p plan s site.0 _ [] (let h = site_stage t site.0 _ both.0 in omega (arith, h, early))
        gone (tree.Region' r site cond h a) q = absurd (cc)
        gone (tree.Break site cond) q = absurd (cc)
        gone (tree.Call f line args) q = absurd (cc)

        gone_in : {n : _} (row : Row_of-Stmt n) → everywhere_in (quiet_at p plan t) row ≡ true → project_in p plan s row ≡ []
        gone_in end_of-Stmt q = refl
        gone_in (more_of-Stmt x rest) q =
            let both = and_parts (is_quiet p plan t x) (everywhere_in (quiet_at p plan t) rest) q in
            ap (λ (ys : List Stmt). ys ++ project_in p plan s rest) (gone x both.0) ∙ gone_in rest both.1

  -- several statements
  pub project_join : (s : ℕ) (a b : List Stmt) → project_all p plan s (a ++ b) ≡ project_all p plan s a ++ project_all p plan s b
  project_join s a b = Rattle.dp_semantics.proofs.Names.flat_map-append (project p plan s) a b

  pub project_listed : {n : _} (s : ℕ) (row : Row_of-Stmt n) → project_in p plan s row ≡ project_all p plan s (listed row)
  project_listed s end_of-Stmt = refl
  project_listed s (more_of-Stmt x rest) = ap (λ (ys : List Stmt). project p plan s x ++ ys) (project_listed s rest)

  pub run_split : (t : ℕ) (xs : List Stmt) → xs ≡ run p plan t xs ++ past_run p plan t xs
  run_split t [] = refl
  run_split t (x ∷ rest) = by (is_quiet p plan t x) (run_split t rest)
    where
      by : (b : Bool) → rest ≡ run p plan t rest ++ past_run p plan t rest →
          x ∷ rest ≡ (if b then x ∷ run p plan t rest else []) ++ (if b then past_run p plan t rest else x ∷ rest)
      by true same = ap (λ (ys : List Stmt). x ∷ ys) same
      by false same = refl

  pub run_quiet : (t : ℕ) (xs : List Stmt) → AllQuiet p plan t (run p plan t xs)
  run_quiet t [] = refl
  run_quiet t (x ∷ rest) = elim (cases_Bool (is_quiet p plan t x)) [
    | inl q ↦ rw q (rw q (run_quiet t rest))
    | inr q ↦ rw q refl
  ]

  pub run_kept : (t s : ℕ) → t ≤ s → (xs : List Stmt) → AllQuiet p plan t xs → project_all p plan s xs ≡ xs
  run_kept t s late [] q = refl
  run_kept t s late (x ∷ xs) q =
      let both = and_parts (is_quiet p plan t x) (all_quiet p plan t xs) q in
      ap (λ (ys : List Stmt). ys ++ project_all p plan s xs) (kept t s late x both.0) ∙ ap (λ (ys : List Stmt). x ∷ ys) (run_kept t s late xs both.1)

  pub run_gone : (t s : ℕ) → s < t → (xs : List Stmt) → AllQuiet p plan t xs → project_all p plan s xs ≡ []
  run_gone t s early [] q = refl
  run_gone t s early (x ∷ xs) q =
      let both = and_parts (is_quiet p plan t x) (all_quiet p plan t xs) q in
      ap (λ (ys : List Stmt). ys ++ project_all p plan s xs) (gone t s early x both.0) ∙ run_gone t s early xs both.1
