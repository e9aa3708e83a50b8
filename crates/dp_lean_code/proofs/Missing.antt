-- No block begins at a number that is no site of the region.
use Rattle.dp_semantics.proofs.Names.{◌≡◌, refl, sym, ap, ◌∙◌, ℕ, suc, ◌+◌, ◌<◌, ◌≤◌, ◌==◌, ◌||◌, if◌then◌else◌, Bool, true, false, List, [], ◌∷◌, ◌++◌, length}
use Rattle.dp_semantics.proofs.Names.{map, arith, nat_lt, eq-eqb, eqb-true, ne_eqb, or_parts, or_from, Option, None, flat_map, Stmt, Row_of-Stmt, end_of-Stmt}
use Rattle.dp_semantics.proofs.Names.{more_of-Stmt, out-Stmt, Stmt-F, Program, Plan, site_of, Access, accesses, accesses_in}
use Rattle.dp_tree.specs.declared.Stmt.TheVariants as tree
use Rattle.dp_tree.specs.declared.Stmt.TheViews.{outs-Assign, outs-Store, outs-If', outs-While'}
use Rattle.dp_tree.specs.Statements.{listed}
use Rattle.dp_plan.specs.Checked.{has_site}
use Rattle.dp_plan.specs.Written.{access_site}
use Rattle.dp_plan.proofs.Ascent.{Ascends}
use Rattle.dp_net.specs.BlockText.{own_site, is_quiet_own, block_from, run_behind, site_past, sought_inside, sought}
use Rattle.dp_net.specs.Hidden.{block_in}
use Rattle.dp_lean.proofs.Once.{has_join}

-- a site of these goes up from k on
pub none_below : (k f : ℕ) (all : List Access) → Ascends k (map access_site all) → f < k → has_site f all ≡ false
none_below k f [] up low = refl
none_below k f (a ∷ all) up low =
    or_from (a.site == f) (has_site f all) (ne_eqb a.site f (λ e. omega (arith, e, up.0, low))) (none_below (suc k) f all up.1 (omega (arith, low)))

pub none_past : (k f : ℕ) (all : List Access) → Ascends k (map access_site all) → k + length all ≤ f → has_site f all ≡ false
none_past k f [] up high = refl
none_past k f (a ∷ all) up high =
    or_from (a.site == f) (has_site f all) (ne_eqb a.site f (λ e. omega (arith, e, up.0, high))) (none_past (suc k) f all up.1 (omega (arith, high)))

module _ (p : Program) (plan : Plan) (pays : List Stmt → Bool) (f : ℕ) where
  either_way : (c : Bool) (a b : List Stmt) → (c ≡ true → a ≡ []) → (c ≡ false → b ≡ []) → (if c then a else b) ≡ []
  either_way true a b h k = h refl
  either_way false a b h k = k refl

  -- a quiet statement has its own site
  has_own : (x : Stmt) (h : Stmt-F Stmt) (a : Access) (rest : List Access) → out-Stmt x ≡ h → a.site ≡ (site_of h).0 → accesses x ≡ a ∷ rest →
      own_site p plan x ≡ f → has_site f (accesses x) ≡ true
  has_own x h a rest is at these own =
      ap (has_site f) these ∙ ap (λ c. c || has_site f rest) (eq-eqb a.site f (at ∙ sym (ap (λ (g : Stmt-F Stmt). (site_of g).0) is) ∙ own))

  quiet_has : (x : Stmt) → is_quiet_own p plan x ≡ true → own_site p plan x ≡ f → has_site f (accesses x) ≡ true
  quiet_has (tree.Assign site x e) q own = has_own _ _ _ _ (outs-Assign site x e) refl refl own
  quiet_has (tree.Store site x i e) q own = has_own _ _ _ _ (outs-Store site x i e) refl refl own
  quiet_has (tree.If' site cond i a j b) q own = has_own _ _ _ _ (outs-If' site cond i a j b) refl refl own
  quiet_has (tree.While' site cond i a) q own = has_own _ _ _ _ (outs-While' site cond i a) refl refl own
  quiet_has (tree.Print site e) q own = absurd (cc)
  quiet_has (tree.Region' r site cond i a) q own = absurd (cc)
  quiet_has (tree.Break site cond) q own = absurd (cc)
  quiet_has (tree.Call g line args) q own = absurd (cc)

  from_none : (before : Option ℕ) (x : Stmt) (rest : List Stmt) → has_site f (accesses x) ≡ false → own_site p plan x ≡ f →
      block_from p plan pays before x rest ≡ []
  from_none before x rest none own =
      either_way (is_quiet_own p plan x) _ [] (λ q. let clash : true ≡ false = sym (quiet_has x q own) ∙ none in absurd (cc clash)) (λ q. refl)

  mutual
    inside_none : (x : Stmt) → has_site f (accesses x) ≡ false → sought_inside p plan pays f x ≡ []
    inside_none (tree.If' site cond _ a _ b) none =
        let parts = or_parts (has_site f (accesses_in a)) (has_site f (accesses_in b)) (sym (has_join f (accesses_in a) (accesses_in b))
        ∙ (or_parts (site.0 == f) (has_site f (accesses_in a ++ accesses_in b)) none).1) in
        either_way (nat_lt f (site.0 + 1 + length (accesses_in a))) _ _ (λ e. row_none None a parts.0) (λ e. row_none None b parts.1)
    inside_none (tree.While' site cond _ a) none = row_none None a (or_parts (site.0 == f) (has_site f (accesses_in a)) none).1
    inside_none (tree.Region' r site cond _ a) none = row_none None a (or_parts (site.0 == f) (has_site f (accesses_in a)) none).1
    inside_none (tree.Assign site x e) none = refl
    inside_none (tree.Store site x i e) none = refl
    inside_none (tree.Print site e) none = refl
    inside_none (tree.Break site cond) none = refl
    inside_none (tree.Call g line args) none = refl

    row_none : {n : _} (before : Option ℕ) (row : Row_of-Stmt n) → has_site f (accesses_in row) ≡ false → sought p plan pays f before row ≡ []
    row_none before end_of-Stmt none = refl
    row_none before (more_of-Stmt x rest) none =
        let parts = or_parts (has_site f (accesses x)) (has_site f (accesses_in rest)) (sym (has_join f (accesses x) (accesses_in rest)) ∙ none) in
        either_way (nat_lt f (site_past p plan x)) _ _
        (λ e. either_way (f == own_site p plan x) _ _ (λ q. from_none before x (listed rest) parts.0 (sym (eqb-true f (own_site p plan x) q)))
        (λ q. either_way (is_quiet_own p plan x) [] _ (λ u. refl) (λ u. inside_none x parts.0)))
        (λ e. row_none (run_behind p plan x) rest parts.1)

  -- .. nor at the region's own site
  pub block_none : (xs : List Stmt) → has_site f (flat_map accesses xs) ≡ false → block_in p plan pays f xs ≡ []
  block_none [] none = refl
  block_none (x ∷ rest) none =
      let parts = or_parts (has_site f (accesses x)) (has_site f (flat_map accesses rest)) (sym (has_join f (accesses x) (flat_map accesses rest)) ∙ none) in
      either_way (f == own_site p plan x) [] _ (λ e. refl) (λ e. inside_none x parts.0)
