-- Sites that stand once: so it is in a region, in each stage's text of it, and in what is left of that.
use Rattle.dp_semantics.proofs.Names.{◌≡◌, refl, sym, ap, ◌∙◌, subst, arith, ℕ, zero, suc, ◌<◌, ◌==◌, Bool, true, false, ◌||◌, if◌then◌else◌, List, [], ◌∷◌}
use Rattle.dp_semantics.proofs.Names.{◌++◌, length, map, Option, Some, None, nat_le, append-nil, flat_map-append, or_from, or_parts, ne_eqb, list_any-append}
use Rattle.dp_semantics.proofs.Names.{hidden-the_row-Stmt-0, outs-If, SiteId, Expr, Stmt, Row_of-Stmt, end_of-Stmt, more_of-Stmt, out-Stmt, If, While, Program}
use Rattle.dp_semantics.proofs.Names.{Plan, Access, accesses, accesses_in, assumed_in, branch_of, where_reached, project, project_in, project_all, stage_of}
use Rattle.dp_tree.specs.declared.Stmt.TheVariants as tree
use Rattle.dp_tree.specs.declared.Stmt.TheVariants.{outs-While}
use Rattle.dp_plan.specs.Written.{access_site}
use Rattle.dp_plan.specs.Checked.{has_site}
use Rattle.dp_plan.proofs.Ascent.{Ascends}
use Rattle.dp_semantics.proofs.Heads.{accesses_all, accesses_at, accesses_out}
use Rattle.dp_net.specs.NetItems.{Marks}
use Rattle.dp_net.specs.BlockText.{own_site}
use Rattle.dp_lean.specs.Needed.{is_judge, is_done_to, is_kept_site, is_kept_block}
use Rattle.dp_lean.specs.LeanText.{kept_when, left_of_head, has_some, lean, lean_row, lean_list}

-- the first list is the second, but that some elements are left out
pub data Part : List Access → List Access → Type 0 where
  none : Part [] []
  skips : {a b : List Access} (y : Access) → Part a b → Part a (y ∷ b)
  takes : {a b : List Access} (y : Access) → Part a b → Part (y ∷ a) (y ∷ b)

pub part_join : {a b c d : List Access} → Part a b → Part c d → Part (a ++ c) (b ++ d)
part_join none q = q
part_join (skips y r) q = skips y (part_join r q)
part_join (takes y r) q = takes y (part_join r q)

pub part_none : (b : List Access) → Part [] b
part_none [] = none
part_none (y ∷ b) = skips y (part_none b)

pub part_self : (b : List Access) → Part b b
part_self [] = none
part_self (y ∷ b) = takes y (part_self b)

pub absent_part : {a b : List Access} (y : ℕ) → Part a b → has_site y b ≡ false → has_site y a ≡ false
absent_part y none e = refl
absent_part y (skips {a = a} {b = b} z r) e = absent_part y r (or_parts (z.site == y) (has_site y b) e).1
absent_part y (takes {a = a} {b = b} z r) e =
    let both = or_parts (z.site == y) (has_site y b) e in or_from (z.site == y) (has_site y a) both.0 (absent_part y r both.1)

-- each site stands once
abbrev pub Once : List Access → Type 0
Once [] = Unit {0}
Once (a ∷ rest) = (has_site a.site rest ≡ false) × Once rest

pub once_part : {a b : List Access} → Part a b → Once b → Once a
once_part none o = tt
once_part (skips y r) o = once_part r o.1
once_part (takes y r) o = (absent_part y.site r o.0, once_part r o.1)

pub has_join : (y : ℕ) (a b : List Access) → has_site y (a ++ b) ≡ (has_site y a || has_site y b)
has_join y a b = list_any-append (λ (c : Access). c.site == y) a b

-- of two lists joined each has its own
pub once_split : (a b : List Access) → Once (a ++ b) → Once a × Once b × ((y : ℕ) → has_site y a ≡ true → has_site y b ≡ false)
once_split [] b o = (tt, o, λ y e. absurd (cc e))
once_split (x ∷ a) b o =
    let r = once_split a b o.1 in
    let both = or_parts (has_site x.site a) (has_site x.site b) (sym (has_join x.site a b) ∙ o.0) in
    ((both.0, r.0), r.1, λ y e. by y both.1 (r.2 y) (x.site == y) refl e)
  where
    by : (y : ℕ) → has_site x.site b ≡ false → (has_site y a ≡ true → has_site y b ≡ false) → (c : Bool) → (x.site == y) ≡ c →
        (c || has_site y a) ≡ true → has_site y b ≡ false
    by y absent later true q e = subst (λ (n : ℕ). has_site n b ≡ false) (Rattle.dp_semantics.proofs.Names.eqb-true x.site y q) absent
    by y absent later false q e = later e

absent_above : (y k : ℕ) (all : List Access) → Ascends k (map access_site all) → y < k → has_site y all ≡ false
absent_above y k [] up low = refl
absent_above y k (a ∷ all) up low =
    or_from (a.site == y) (has_site y all) (ne_eqb a.site y (λ e. omega (arith, e, up.0, low))) (absent_above y (suc k) all up.1 (omega (arith, low)))

pub once_ascending : (k : ℕ) (all : List Access) → Ascends k (map access_site all) → Once all
once_ascending k [] up = tt
once_ascending k (a ∷ all) up = (absent_above a.site (suc k) all up.1 (omega (arith, up.0)), once_ascending (suc k) all up.1)

module _ (p : Program) (plan : Plan) (s : ℕ) where
  alone : (y : Stmt) → accesses_all (y ∷ []) ≡ accesses y
  alone y = append-nil (accesses y)

  reached_part : (site : ℕ) (a b : List Stmt) (all : List Access) → Part (accesses_all a) all → Part (accesses_all b) all →
      Part (accesses_all (where_reached p plan s site a b)) all
  reached_part site a b all q r = by (nat_le (stage_of p plan site) s)
    where
      by : (c : Bool) → Part (accesses_all (if c then a else b)) all
      by true = q
      by false = r

  branch_part : (o : Option Bool) (a b : List Stmt) (c d : List Access) → Part (accesses_all a) c → Part (accesses_all b) d →
      Part (accesses_all (branch_of o a b)) (c ++ d)
  branch_part None a b c d q r = part_none (c ++ d)
  branch_part (Some true) a b c d q r = subst (λ (l : List Access). Part l (c ++ d)) (append-nil (accesses_all a)) (part_join q (part_none d))
  branch_part (Some false) a b c d q r = part_join (part_none c) r

  if_part : (site : SiteId) (cond : Expr) (a b : List Stmt) (c d : List Access) → Part (accesses_all a) c → Part (accesses_all b) d →
      Part (accesses_all (tree.If site cond a b ∷ [])) (Rattle.dp_semantics.proofs.Heads.head_access (If site cond a b) ∷ (c ++ d))
  if_part site cond a b c d q r = subst (λ (l : List Access). Part l (Rattle.dp_semantics.proofs.Heads.head_access (If site cond a b) ∷ (c ++ d)))
      (sym (alone (tree.If site cond a b) ∙ accesses_out (tree.If site cond a b) ∙ ap accesses_at (outs-If site cond a b))) (takes _ (part_join q r))

  while_part : (site : SiteId) (cond : Expr) (a : List Stmt) (c : List Access) → Part (accesses_all a) c →
      Part (accesses_all (tree.While site cond a ∷ [])) (Rattle.dp_semantics.proofs.Heads.head_access (While site cond a) ∷ c)
  while_part site cond a c q = subst (λ (l : List Access). Part l (Rattle.dp_semantics.proofs.Heads.head_access (While site cond a) ∷ c))
      (sym (alone (tree.While site cond a) ∙ accesses_out (tree.While site cond a) ∙ ap accesses_at (outs-While site cond a))) (takes _ q)

  mutual
    -- a stage's text has a part of the sites
    pub project_part : (x : Stmt) → Part (accesses_all (project p plan s x)) (accesses x)
    project_part (tree.Assign site x e) = reached_part site.0 _ [] _ (part_self _) (part_none _)
    project_part (tree.Store site x index e) = reached_part site.0 _ [] _ (part_self _) (part_none _)
    project_part (tree.Print site e) = reached_part site.0 _ [] _ (part_self _) (part_none _)
    project_part (tree.Break site cond) = reached_part site.0 _ [] _ (part_self _) (part_none _)
    project_part (tree.If' site cond _ a _ b) =
        let one = project_part_in a in
        let two = project_part_in b in
        reached_part site.0 _ _ _ (if_part site cond _ _ _ _ one two) (skips _ (branch_part (assumed_in plan.assume site.0) _ _ _ _ one two))
    project_part (tree.While' site cond _ a) = let one = project_part_in a in reached_part site.0 _ [] _ (while_part site cond _ _ one) (part_none _)
    project_part (tree.Region' r site cond _ a) =
        let one = project_part_in a in
        subst (λ (l : List Access). Part (accesses_all (tree.If site cond (project_in p plan s a) [] ∷ []))
        (record { site = site.0; loads = Rattle.dp_semantics.proofs.Names.loaded_by cond; stores = None } ∷ l)) (append-nil (accesses_in a))
        (if_part site cond _ [] _ [] one none)
    project_part (tree.Call f line args) = none

    project_part_in : {n : _} (row : Row_of-Stmt n) → Part (accesses_all (project_in p plan s row)) (accesses_in row)
    project_part_in end_of-Stmt = none
    project_part_in (more_of-Stmt x rest) =
        subst (λ (l : List Access). Part l (accesses x ++ accesses_in rest)) (sym (flat_map-append accesses (project p plan s x) (project_in p plan s rest)))
        (part_join (project_part x) (project_part_in rest))

  pub project_part_all : (xs : List Stmt) → Part (accesses_all (project_all p plan s xs)) (accesses_all xs)
  project_part_all [] = none
  project_part_all (x ∷ xs) =
      subst (λ (l : List Access). Part l (accesses x ++ accesses_all xs)) (sym (flat_map-append accesses (project p plan s x) (project_all p plan s xs)))
      (part_join (project_part x) (project_part_all xs))

  module _ (m : Marks) where
    when_part : (b : Bool) (x : Stmt) (all : List Access) → Part (accesses_all (x ∷ [])) all → Part (accesses_all (kept_when b x)) all
    when_part true x all q = q
    when_part false x all q = part_none all

    self_part : (x : Stmt) → Part (accesses_all (x ∷ [])) (accesses x)
    self_part x = subst (λ (l : List Access). Part l (accesses x)) (sym (alone x)) (part_self (accesses x))

    -- one statement and those behind it
    both_part : (a b : List Stmt) (c d : List Access) → Part (accesses_all a) c → Part (accesses_all b) d → Part (accesses_all (a ++ b)) (c ++ d)
    both_part a b c d q r = subst (λ (l : List Access). Part l (c ++ d)) (sym (flat_map-append accesses a b)) (part_join q r)

    head_part : (block : List Stmt) (x : Stmt) (left : List Stmt) (onward : ℕ → Bool → List Stmt) (all : List Access) → Part (accesses_all left) (accesses x) →
        ((n : ℕ) (b : Bool) → Part (accesses_all (onward n b)) all) → Part (accesses_all (left_of_head p plan m s block x left onward)) (accesses x ++ all)
    head_part [] x left onward all q r = both_part left (onward zero false) (accesses x) all q (r zero false)
    head_part (y ∷ ys) x left onward all q r = both_part (kept_when (is_kept_block p plan s (y ∷ ys)) x) (onward (length ys) (is_kept_block p plan s (y ∷ ys)))
        (accesses x) all (when_part (is_kept_block p plan s (y ∷ ys)) x (accesses x) (self_part x)) (r (length ys) (is_kept_block p plan s (y ∷ ys)))

    leaf_part : (b : Bool) (x : Stmt) → Part (accesses_all (kept_when b x)) (accesses x)
    leaf_part b x = when_part b x (accesses x) (self_part x)

    choice_part : (site : SiteId) (cond : Expr) (a b : List Stmt) (c d : List Access) → Part (accesses_all a) c → Part (accesses_all b) d →
        Part (accesses_all (kept_when (is_kept_site p plan s site.0 || has_some p plan m s a b) (tree.If site cond a b)))
        (Rattle.dp_semantics.proofs.Heads.head_access (If site cond a b) ∷ (c ++ d))
    choice_part site cond a b c d q r = when_part (is_kept_site p plan s site.0 || has_some p plan m s a b) (tree.If site cond a b)
        (Rattle.dp_semantics.proofs.Heads.head_access (If site cond a b) ∷ (c ++ d)) (if_part site cond a b c d q r)

    loop_part : (site : SiteId) (cond : Expr) (a : List Stmt) (c : List Access) → Part (accesses_all a) c →
        Part (accesses_all (kept_when (is_kept_site p plan s site.0 || has_some p plan m s a []) (tree.While site cond a)))
        (Rattle.dp_semantics.proofs.Heads.head_access (While site cond a) ∷ c)
    loop_part site cond a c q = when_part (is_kept_site p plan s site.0 || has_some p plan m s a []) (tree.While site cond a)
        (Rattle.dp_semantics.proofs.Heads.head_access (While site cond a) ∷ c) (while_part site cond a c q)

    mutual
      -- what is left has a part of the sites
      lean_part : (x : Stmt) → Part (accesses_all (lean p plan m s x)) (accesses x)
      lean_part (tree.Assign site x e) = leaf_part (is_kept_site p plan s site.0 || is_done_to p plan s x.0) (tree.Assign site x e)
      lean_part (tree.Store site x index e) = leaf_part (is_kept_site p plan s site.0 || is_done_to p plan s x.0) (tree.Store site x index e)
      lean_part (tree.Print site e) = leaf_part (is_kept_site p plan s site.0 || is_judge p plan s) (tree.Print site e)
      lean_part (tree.If' site cond h a k b) = choice_part site cond (lean_row p plan m s zero false a) (lean_row p plan m s zero false b) (accesses_in a)
          (accesses_in b) (lean_part_in zero false a) (lean_part_in zero false b)
      lean_part (tree.While' site cond h a) = loop_part site cond (lean_row p plan m s zero false a) (accesses_in a) (lean_part_in zero false a)
      lean_part (tree.Region' r site cond h a) = self_part (tree.Region' r site cond h a)
      lean_part (tree.Break site cond) = part_self _
      lean_part (tree.Call f line args) = none

      lean_part_in : {n : _} (left : ℕ) (kept : Bool) (row : Row_of-Stmt n) → Part (accesses_all (lean_row p plan m s left kept row)) (accesses_in row)
      lean_part_in left kept end_of-Stmt = none
      lean_part_in (suc left) kept (more_of-Stmt x rest) = both_part (kept_when kept x) (lean_row p plan m s left kept rest) (accesses x) (accesses_in rest)
          (when_part kept x (accesses x) (self_part x)) (lean_part_in left kept rest)
      lean_part_in zero kept (more_of-Stmt x rest) = head_part (m.block_at (own_site p plan x)) x (lean p plan m s x) (λ n b. lean_row p plan m s n b rest)
          (accesses_in rest) (lean_part x) (λ n b. lean_part_in n b rest)

    pub lean_part_all : (left : ℕ) (kept : Bool) (xs : List Stmt) → Part (accesses_all (lean_list p plan m s left kept xs)) (accesses_all xs)
    lean_part_all left kept [] = none
    lean_part_all (suc left) kept (x ∷ rest) = both_part (kept_when kept x) (lean_list p plan m s left kept rest) (accesses x) (accesses_all rest)
        (when_part kept x (accesses x) (self_part x)) (lean_part_all left kept rest)
    lean_part_all zero kept (x ∷ rest) = head_part (m.block_at (own_site p plan x)) x (lean p plan m s x) (λ n b. lean_list p plan m s n b rest)
        (accesses_all rest) (lean_part x) (λ n b. lean_part_all n b rest)
