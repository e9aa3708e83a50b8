-- The text of each stage has the blocks that are sought in the region whole.
use Rattle.dp_semantics.proofs.Names.{◌≡◌, inl, inr, refl, sym, ap, ◌∙◌, subst, ℕ, suc, ◌+◌, ◌<◌, ◌≤◌, ◌==◌, Bool, true, false, if◌then◌else◌, List, [], ◌∷◌}
use Rattle.dp_semantics.proofs.Names.{◌++◌, length, length-append, map, map-append, Option, Some, None, arith, nat_lt, nat_le, lt-ltb, le-ltb, eq-eqb, ne_eqb}
use Rattle.dp_semantics.proofs.Names.{cases_Bool, cases_eq, cases_lt, SiteId, Expr, Stmt, Row_of-Stmt, end_of-Stmt, more_of-Stmt, out-Stmt, outs-If, Stmt-F, If}
use Rattle.dp_semantics.proofs.Names.{While, Program, Plan, site_of, stage_of, Access, accesses, accesses_in, assumed_in, branch_of, where_reached, project}
use Rattle.dp_semantics.proofs.Names.{project_in, project_all}
use Rattle.dp_tree.specs.declared.Stmt.TheVariants as tree
use Rattle.dp_tree.specs.declared.Stmt.TheVariants.{outs-While}
use Rattle.dp_tree.specs.declared.Stmt.TheViews.{outs-Assign, outs-Store, outs-Print, outs-Break, outs-If', outs-While', outs-Region', outs-Call}
use Rattle.dp_tree.specs.Statements.{listed}
use Rattle.dp_plan.specs.Written.{access_site}
use Rattle.dp_plan.proofs.Ascent.{Ascends, ascends_split}
use Rattle.dp_net.specs.Quiet.{is_quiet}
use Rattle.dp_net.specs.NetItems.{begins, Marks}
use Rattle.dp_net.specs.BlockText.{own_site, own_stage, is_quiet_own, run, past_run, joins_run, block_from, run_behind, site_past, sought_inside, sought}
use Rattle.dp_net.proofs.Texts.{site_at, IsLeaf, Plain, Text, ends, leaf, choice, loop, block, text_join}
use Rattle.dp_net.proofs.BlockPlaces.{quiet_stage, kept, gone, project_join, project_listed, run_split, run_quiet, run_kept, run_gone}

abbrev sites_of : List Access → List ℕ
sites_of all = map access_site all

sites_split : (k : ℕ) (a b : List Access) → Ascends k (sites_of (a ++ b)) → Ascends k (sites_of a) × Ascends (k + length a) (sites_of b)
sites_split k a b h =
    let r = ascends_split k (sites_of a) (sites_of b) (subst (Ascends k) (map-append access_site a b) h) in
    (r.0, subst (λ (n : ℕ). Ascends (k + n) (sites_of b)) (length_sites a) r.1)
  where
    length_sites : (xs : List Access) → length (sites_of xs) ≡ length xs
    length_sites [] = refl
    length_sites (x ∷ xs) = ap suc (length_sites xs)

module _ (p : Program) (plan : Plan) (m : Marks) (s : ℕ) (out : (f : ℕ) → m.block_at f ≡ [] → begins m f ≡ false) where
  -- no block begins at the n sites from k on
  abbrev NoneFrom : ℕ → ℕ → Type 0
  NoneFrom k n = (f : ℕ) → k ≤ f → f < k + n → m.block_at f ≡ []

  plain_at : (x : Stmt) (h : Stmt-F Stmt) → out-Stmt x ≡ h → m.block_at (site_of h).0 ≡ [] → Plain m x
  plain_at x h is none = let at : m.block_at (site_at x) ≡ [] = ap (λ (g : Stmt-F Stmt). m.block_at (site_of g).0) is ∙ none in (at, out (site_at x) at)

  leaf_at : (x : Stmt) (h : Stmt-F Stmt) → out-Stmt x ≡ h → IsLeaf h → m.block_at (site_of h).0 ≡ [] → Text m (x ∷ [])
  leaf_at x h is l none = leaf (plain_at x h is none) (subst IsLeaf (sym is) l) ends

  reach_text : (site : ℕ) (a b : List Stmt) → Text m a → Text m b → Text m (where_reached p plan s site a b)
  reach_text site a b t u = by (nat_le (stage_of p plan site) s)
    where
      by : (c : Bool) → Text m (if c then a else b)
      by true = t
      by false = u

  branch_text : (o : Option Bool) (a b : List Stmt) → Text m a → Text m b → Text m (branch_of o a b)
  branch_text None a b t u = ends
  branch_text (Some true) a b t u = t
  branch_text (Some false) a b t u = u

  if_text : (site : SiteId) (cond : Expr) (a b : List Stmt) → m.block_at site.0 ≡ [] → Text m a → Text m b →
      Text m (where_reached p plan s site.0 (tree.If site cond a b ∷ []) (branch_of (assumed_in plan.assume site.0) a b))
  if_text site cond a b none t u = reach_text site.0 _ _ (choice (plain_at (tree.If site cond a b) (If site cond a b) (outs-If site cond a b) none)
      (outs-If site cond a b) t u ends) (branch_text (assumed_in plan.assume site.0) a b t u)

  while_text : (site : SiteId) (cond : Expr) (a : List Stmt) → m.block_at site.0 ≡ [] → Text m a →
      Text m (where_reached p plan s site.0 (tree.While site cond a ∷ []) [])
  while_text site cond a none t =
      reach_text site.0 _ _ (loop (plain_at (tree.While site cond a) (While site cond a) (outs-While site cond a) none) (outs-While site cond a) t ends) ends

  region_text : (site : SiteId) (cond : Expr) (a : List Stmt) → m.block_at site.0 ≡ [] → Text m a → Text m (tree.If site cond a [] ∷ [])
  region_text site cond a none t =
      choice (plain_at (tree.If site cond a []) (If site cond a []) (outs-If site cond a []) none) (outs-If site cond a []) t ends ends

  mutual
    -- a statement where no block begins
    plain_text : (x : Stmt) (k : ℕ) → Ascends k (sites_of (accesses x)) → NoneFrom k (length (accesses x)) → Text m (project p plan s x)
    plain_text (tree.Assign site x e) k h none =
        reach_text site.0 _ _ (leaf_at (tree.Assign site x e) _ (outs-Assign site x e) tt (none site.0 (omega (arith, h.0)) (omega (arith, h.0)))) ends
    plain_text (tree.Store site x index e) k h none =
        reach_text site.0 _ _ (leaf_at (tree.Store site x index e) _ (outs-Store site x index e) tt
        (none site.0 (omega (arith, h.0)) (omega (arith, h.0)))) ends
    plain_text (tree.Print site e) k h none =
        reach_text site.0 _ _ (leaf_at (tree.Print site e) _ (outs-Print site e) tt (none site.0 (omega (arith, h.0)) (omega (arith, h.0)))) ends
    plain_text (tree.Break site cond) k h none =
        reach_text site.0 _ _ (leaf_at (tree.Break site cond) _ (outs-Break site cond) tt (none site.0 (omega (arith, h.0)) (omega (arith, h.0)))) ends
    plain_text (tree.If' site cond _ a _ b) k h none =
        let parts = sites_split (suc k) (accesses_in a) (accesses_in b) h.1 in
        let sum = length-append (accesses_in a) (accesses_in b) in
        if_text site cond _ _ (none site.0 (omega (arith, h.0)) (omega (arith, h.0)))
        (plain_row a (suc k) parts.0 (λ f low high. none f (omega (arith, low)) (omega (arith, high, sum))))
        (plain_row b (suc k + length (accesses_in a)) parts.1 (λ f low high. none f (omega (arith, low)) (omega (arith, high, sum))))
    plain_text (tree.While' site cond _ a) k h none =
        while_text site cond _ (none site.0 (omega (arith, h.0)) (omega (arith, h.0)))
        (plain_row a (suc k) h.1 (λ f low high. none f (omega (arith, low)) (omega (arith, high))))
    plain_text (tree.Region' r site cond _ a) k h none =
        region_text site cond _ (none site.0 (omega (arith, h.0)) (omega (arith, h.0)))
        (plain_row a (suc k) h.1 (λ f low high. none f (omega (arith, low)) (omega (arith, high))))
    plain_text (tree.Call g line args) k h none = ends

    plain_row : {n : _} (row : Row_of-Stmt n) (k : ℕ) → Ascends k (sites_of (accesses_in row)) → NoneFrom k (length (accesses_in row)) →
        Text m (project_in p plan s row)
    plain_row end_of-Stmt k h none = ends
    plain_row (more_of-Stmt x rest) k h none =
        let parts = sites_split k (accesses x) (accesses_in rest) h in
        let sum = length-append (accesses x) (accesses_in rest) in
        text_join m (plain_text x k parts.0 (λ f low high. none f low (omega (arith, high, sum)))) (plain_row rest (k + length (accesses x)) parts.1
        (λ f low high. none f (omega (arith, low)) (omega (arith, high, sum))))

  -- a statement with sites has the first of them; a call has none
  data Sited (x : Stmt) (k : ℕ) : Type 0 where
    sited : own_site p plan x ≡ k → 0 < length (accesses x) → Sited x k
    siteless : accesses x ≡ [] → own_site p plan x ≡ 0 → is_quiet_own p plan x ≡ false → Sited x k

  site_is : (x : Stmt) (h : Stmt-F Stmt) → out-Stmt x ≡ h → own_site p plan x ≡ (site_of h).0
  site_is x h is = ap (λ (g : Stmt-F Stmt). (site_of g).0) is

  is_sited : (x : Stmt) (k : ℕ) → Ascends k (sites_of (accesses x)) → Sited x k
  is_sited (tree.Assign site x e) k h = sited (site_is _ _ (outs-Assign site x e) ∙ h.0) (omega arith)
  is_sited (tree.Store site x index e) k h = sited (site_is _ _ (outs-Store site x index e) ∙ h.0) (omega arith)
  is_sited (tree.Print site e) k h = sited (site_is _ _ (outs-Print site e) ∙ h.0) (omega arith)
  is_sited (tree.Break site cond) k h = sited (site_is _ _ (outs-Break site cond) ∙ h.0) (omega arith)
  is_sited (tree.If' site cond i a j b) k h = sited (site_is _ _ (outs-If' site cond i a j b) ∙ h.0) (omega arith)
  is_sited (tree.While' site cond i a) k h = sited (site_is _ _ (outs-While' site cond i a) ∙ h.0) (omega arith)
  is_sited (tree.Region' r site cond i a) k h = sited (site_is _ _ (outs-Region' r site cond i a) ∙ h.0) (omega arith)
  is_sited (tree.Call g line args) k h = siteless refl (site_is _ _ (outs-Call g line args)) refl

  module _ (pays : List Stmt → Bool) where
    -- what is sought among these statements, whose sites go up from k on, is what stands there
    abbrev Answers : {n : _} → Option ℕ → Row_of-Stmt n → ℕ → Type 0
    Answers before row k = (f : ℕ) → k ≤ f → f < k + length (accesses_in row) → m.block_at f ≡ sought p plan pays f before row

    module _ {n : _} (x : Stmt) (rest : Row_of-Stmt n) (before : Option ℕ) (k : ℕ) (h : Ascends k (sites_of (accesses x ++ accesses_in rest)))
        (answers : Answers before (more_of-Stmt x rest) k) where
      sum : length (accesses x ++ accesses_in rest) ≡ length (accesses x) + length (accesses_in rest)
      sum = length-append (accesses x) (accesses_in rest)

      parts : Ascends k (sites_of (accesses x)) × Ascends (k + length (accesses x)) (sites_of (accesses_in rest))
      parts = sites_split k (accesses x) (accesses_in rest) h

      -- behind the statement
      later : Answers (run_behind p plan x) rest (k + length (accesses x))
      later f low high = answers f (omega (arith, low)) (omega (arith, high, sum))
          ∙ ap (λ (c : Bool). if c then (if f == own_site p plan x then block_from p plan pays before x (listed rest)
          else (if is_quiet_own p plan x then [] else sought_inside p plan pays f x)) else sought p plan pays f (run_behind p plan x) rest)
          (past (is_sited x k parts.0))
        where
          past : Sited x k → nat_lt f (site_past p plan x) ≡ false
          past (sited at some) = le-ltb f (site_past p plan x) (omega (arith, at, low))
          past (siteless none at quiet) = le-ltb f (site_past p plan x) (let e = ap length none in omega (arith, at, e))

      -- the statement's own site
      first : own_site p plan x ≡ k → 0 < length (accesses x) → m.block_at k ≡ block_from p plan pays before x (listed rest)
      first at some = answers k (omega arith) (omega (arith, some, sum))
          ∙ rw (lt-ltb k (site_past p plan x) (omega (arith, at, some)), eq-eqb k (own_site p plan x) (sym at)) refl

      -- inside of it
      within : own_site p plan x ≡ k → (f : ℕ) → k < f → f < k + length (accesses x) →
          m.block_at f ≡ (if is_quiet_own p plan x then [] else sought_inside p plan pays f x)
      within at f low high = answers f (omega (arith, low)) (omega (arith, high, sum))
          ∙ rw (lt-ltb f (site_past p plan x) (omega (arith, at, high)), ne_eqb f (own_site p plan x) (λ e. omega (arith, e, at, low))) refl

      -- a quiet statement that begins no block
      no_block : is_quiet_own p plan x ≡ true → m.block_at k ≡ [] → own_site p plan x ≡ k → Text m (project p plan s x)
      no_block q none at = plain_text x k parts.0 (λ f low high. elim (cases_eq f k) [
        | inl e ↦ ap m.block_at e ∙ none
        | inr e ↦ within at f (omega (arith, low, e)) high ∙ ap (λ (c : Bool). if c then [] else sought_inside p plan pays f x) q
      ])

      -- a block that begins with it
      block_here : (t : ℕ) → own_stage p plan x ≡ t → is_quiet p plan t x ≡ true → m.block_at k ≡ x ∷ run p plan t (listed rest) →
          own_site p plan x ≡ k → Text m (project_all p plan s (past_run p plan t (listed rest))) →
          Text m (project p plan s x ++ project_in p plan s rest)
      block_here t stage q is at after = elim (cases_lt s t) [
        | inl early ↦ subst (Text m)
            (sym (rw (gone p plan t s early x q) (behind ∙ ap (λ (ys : List Stmt). ys ++ project_all p plan s (past_run p plan t (listed rest)))
            (run_gone p plan t s early (run p plan t (listed rest)) (run_quiet p plan t (listed rest)))))) after
        | inr late ↦ subst (Text m)
            (sym (rw (kept p plan t s late x q)
            (ap (λ (ys : List Stmt). x ∷ ys) (behind ∙ ap (λ (ys : List Stmt). ys ++ project_all p plan s (past_run p plan t (listed rest)))
            (run_kept p plan t s late (run p plan t (listed rest)) (run_quiet p plan t (listed rest)))))))
            (block (ap m.block_at at ∙ is) refl after)
      ]
        where
          behind : project_in p plan s rest ≡ project_all p plan s (run p plan t (listed rest)) ++ project_all p plan s (past_run p plan t (listed rest))
          behind = project_listed p plan s rest ∙ ap (project_all p plan s) (run_split p plan t (listed rest))
              ∙ project_join p plan s (run p plan t (listed rest)) (past_run p plan t (listed rest))

      -- the statement and those behind it, from what is so of each
      at_more : (is_quiet_own p plan x ≡ false → Text m (project p plan s x)) →
          ((b : Option ℕ) → Answers b rest (k + length (accesses x)) → Text m (project_in p plan s rest)) →
          ((t : ℕ) → Answers (Some t) rest (k + length (accesses x)) → Text m (project_all p plan s (past_run p plan t (listed rest)))) →
          Text m (project p plan s x ++ project_in p plan s rest)
      at_more inner rest_text after_text = elim (cases_Bool (is_quiet_own p plan x)) [
        | inr q ↦ text_join m (inner q) (rest_text (run_behind p plan x) later)
        | inl q ↦ quiet_text q (is_sited x k parts.0)
      ]
        where
          quiet_text : is_quiet_own p plan x ≡ true → Sited x k → Text m (project p plan s x ++ project_in p plan s rest)
          quiet_text q (siteless none at quiet) = let clash : true ≡ false = sym q ∙ quiet in absurd (cc clash)
          quiet_text q (sited at some) =
              by (joins_run p plan (own_stage p plan x) before) (pays (x ∷ run p plan (own_stage p plan x) (listed rest))) (first at some ∙ rw q refl)
            where
              alone_text : m.block_at k ≡ [] → Text m (project p plan s x ++ project_in p plan s rest)
              alone_text none = text_join m (no_block q none at) (rest_text (run_behind p plan x) later)

              by : (c d : Bool) → m.block_at k ≡ (if c then [] else (if d then x ∷ run p plan (own_stage p plan x) (listed rest) else [])) →
                  Text m (project p plan s x ++ project_in p plan s rest)
              by true d e = alone_text e
              by false false e = alone_text e
              by false true e = block_here (own_stage p plan x) refl q e at
                  (after_text (own_stage p plan x) (subst (λ (o : Option ℕ). Answers o rest (k + length (accesses x)))
                  (ap (λ (c : Bool). if c then Some (own_stage p plan x) else None) q) later))

      own_none : is_quiet_own p plan x ≡ false → Sited x k → 0 < length (accesses x) → m.block_at k ≡ []
      own_none q (sited at some) has = first at has ∙ rw q refl
      own_none q (siteless none at quiet) has = let e = ap length none in absurd (omega (arith, has, e))

      own_within : is_quiet_own p plan x ≡ false → Sited x k → (f : ℕ) → k < f → f < k + length (accesses x) → m.block_at f ≡ sought_inside p plan pays f x
      own_within q (sited at some) f low high = within at f low high ∙ rw q refl
      own_within q (siteless none at quiet) f low high = let e = ap length none in absurd (omega (arith, low, high, e))

    past_more : {n : _} (x : Stmt) (rest : Row_of-Stmt n) (t k : ℕ) (h : Ascends k (sites_of (accesses x ++ accesses_in rest)))
        (answers : Answers (Some t) (more_of-Stmt x rest) k) → Text m (project p plan s x ++ project_in p plan s rest) →
        (Answers (Some t) rest (k + length (accesses x)) → Text m (project_all p plan s (past_run p plan t (listed rest)))) →
        Text m (project_all p plan s (past_run p plan t (x ∷ listed rest)))
    past_more x rest t k h answers here behind = elim (cases_Bool (is_quiet p plan t x)) [
      | inl q ↦
          let stage : own_stage p plan x ≡ t = quiet_stage p plan t x q in
          let hush : is_quiet_own p plan x ≡ true = ap (λ (u : ℕ). is_quiet p plan u x) stage ∙ q in
          let same : run_behind p plan x ≡ Some t = ap (λ (c : Bool). if c then Some (own_stage p plan x) else None) hush ∙ ap (λ (u : ℕ). Some u) stage in
          rw q (behind (subst (λ (o : Option ℕ). Answers o rest (k + length (accesses x))) same (later x rest (Some t) k h answers)))
      | inr q ↦ rw q (subst (λ (ys : List Stmt). Text m (project p plan s x ++ ys)) (project_listed p plan s rest) here)
    ]

    mutual
      -- a statement that isn't quiet
      pub stmt_text : (x : Stmt) (k : ℕ) → Ascends k (sites_of (accesses x)) → (0 < length (accesses x) → m.block_at k ≡ []) →
          ((f : ℕ) → k < f → f < k + length (accesses x) → m.block_at f ≡ sought_inside p plan pays f x) → Text m (project p plan s x)
      stmt_text (tree.Assign site x e) k h none answers =
          reach_text site.0 _ _ (leaf_at (tree.Assign site x e) _ (outs-Assign site x e) tt (ap m.block_at h.0 ∙ none (omega arith))) ends
      stmt_text (tree.Store site x index e) k h none answers =
          reach_text site.0 _ _ (leaf_at (tree.Store site x index e) _ (outs-Store site x index e) tt (ap m.block_at h.0 ∙ none (omega arith))) ends
      stmt_text (tree.Print site e) k h none answers =
          reach_text site.0 _ _ (leaf_at (tree.Print site e) _ (outs-Print site e) tt (ap m.block_at h.0 ∙ none (omega arith))) ends
      stmt_text (tree.Break site cond) k h none answers =
          reach_text site.0 _ _ (leaf_at (tree.Break site cond) _ (outs-Break site cond) tt (ap m.block_at h.0 ∙ none (omega arith))) ends
      stmt_text (tree.If' site cond i a j b) k h none answers =
          let parts = sites_split (suc k) (accesses_in a) (accesses_in b) h.1 in
          let sum = length-append (accesses_in a) (accesses_in b) in
          if_text site cond _ _ (ap m.block_at h.0 ∙ none (omega arith))
          (row_text a None (suc k) parts.0 (λ f low high. answers f (omega (arith, low)) (omega (arith, high, sum))
          ∙ ap (λ (c : Bool). if c then sought p plan pays f None a else sought p plan pays f None b) (lt-ltb f (site.0 + 1 + length (accesses_in a))
          (omega (arith, high, h.0)))))
          (row_text b None (suc k + length (accesses_in a)) parts.1 (λ f low high. answers f (omega (arith, low)) (omega (arith, high, sum))
          ∙ ap (λ (c : Bool). if c then sought p plan pays f None a else sought p plan pays f None b) (le-ltb f (site.0 + 1 + length (accesses_in a))
          (omega (arith, low, h.0)))))
      stmt_text (tree.While' site cond i a) k h none answers =
          while_text site cond _ (ap m.block_at h.0
          ∙ none (omega arith)) (row_text a None (suc k) h.1 (λ f low high. answers f (omega (arith, low)) (omega (arith, high))))
      stmt_text (tree.Region' r site cond i a) k h none answers =
          region_text site cond _ (ap m.block_at h.0
          ∙ none (omega arith)) (row_text a None (suc k) h.1 (λ f low high. answers f (omega (arith, low)) (omega (arith, high))))
      stmt_text (tree.Call g line args) k h none answers = ends

      -- statements from the first on
      row_text : {n : _} (row : Row_of-Stmt n) (before : Option ℕ) (k : ℕ) → Ascends k (sites_of (accesses_in row)) → Answers before row k →
          Text m (project_in p plan s row)
      row_text end_of-Stmt before k h answers = ends
      row_text (more_of-Stmt x rest) before k h answers =
          let split = sites_split k (accesses x) (accesses_in rest) h in
          at_more x rest before k h answers (λ q. stmt_text x k split.0 (own_none x rest before k h answers q (is_sited x k split.0))
          (own_within x rest before k h answers q (is_sited x k split.0)))
          (λ b a. row_text rest b (k + length (accesses x)) split.1 a) (λ t a. past_text rest t (k + length (accesses x)) split.1 a)

      -- .. and from behind a run of stage t on
      past_text : {n : _} (row : Row_of-Stmt n) (t k : ℕ) → Ascends k (sites_of (accesses_in row)) → Answers (Some t) row k →
          Text m (project_all p plan s (past_run p plan t (listed row)))
      past_text end_of-Stmt t k h answers = ends
      past_text (more_of-Stmt x rest) t k h answers =
          let split = sites_split k (accesses x) (accesses_in rest) h in
          past_more x rest t k h answers
          (at_more x rest (Some t) k h answers (λ q. stmt_text x k split.0 (own_none x rest (Some t) k h answers q (is_sited x k split.0))
          (own_within x rest (Some t) k h answers q (is_sited x k split.0)))
          (λ b a. row_text rest b (k + length (accesses x)) split.1 a) (λ u a. past_text rest u (k + length (accesses x)) split.1 a))
          (λ a. past_text rest t (k + length (accesses x)) split.1 a)
