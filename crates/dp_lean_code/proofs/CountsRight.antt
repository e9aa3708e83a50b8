-- The numbers that the code gives to the sites of a region are those of the blocks that begin there.
use Rattle.dp_semantics.proofs.Names.{◌≡◌, refl, sym, ap, ◌∙◌, subst, ℕ, suc, ◌+◌, ◌<◌, ◌≤◌, ◌==◌, if◌then◌else◌, Bool, true, false, List, [], ◌∷◌, ◌++◌}
use Rattle.dp_semantics.proofs.Names.{length, length-append, map, map-append, arith, nat_lt, lt-ltb, le-ltb, eq-eqb, ne_eqb, Option, Some, None, Stmt}
use Rattle.dp_semantics.proofs.Names.{Row_of-Stmt, end_of-Stmt, more_of-Stmt, out-Stmt, Stmt-F, Program, Plan, site_of, Access, accesses, accesses_in}
use Rattle.std.proofs.Common.{slice_set}
use Rattle.dp_tree.specs.declared.Stmt.TheVariants as tree
use Rattle.dp_tree.specs.declared.Stmt.TheViews.{outs-Assign, outs-Store, outs-Print, outs-Break, outs-If', outs-While', outs-Region', outs-Call}
use Rattle.dp_tree.specs.Statements.{listed, asked}
use Rattle.dp_tree.proofs.Asked.{asked_both}
use Rattle.dp_plan.specs.Access.{access_at}
use Rattle.dp_plan.specs.Written.{access_site}
use Rattle.dp_plan.proofs.Ascent.{Ascends, ascends_split}
use Rattle.dp_net.specs.NetItems.{Marks}
use Rattle.dp_net.specs.Quiet.{is_quiet}
use Rattle.dp_net.specs.BlockText.{own_site, own_stage, is_quiet_own, block_from, run_behind, site_past, sought_inside, sought}
use Rattle.dp_lean_code.specs.steps.Runs.{count_in, behind_in, head_counts}
unfoldable use Rattle.dp_lean_code.specs.steps.Runs.{none_at, quiet_in, inner_counts, row_counts}

abbrev sites_of : List Access → List ℕ
sites_of all = map access_site all

sites_split : (k : ℕ) (a b : List Access) → Ascends k (sites_of (a ++ b)) → Ascends k (sites_of a) × Ascends (k + length a) (sites_of b)
sites_split k a b h =
    let r = ascends_split k (sites_of a) (sites_of b) (subst (Ascends k) (map-append access_site a b) h) in
    (r.0, subst (λ (n : ℕ). Ascends (k + n) (sites_of b)) (length_sites a) r.1)
  where
    length_sites : (xs : List Access) → length (sites_of xs) ≡ length xs
    length_sites [] = refl
    length_sites (x ∷ xs) = ap suc (length_sites xs)

-- no block begins at any of a statement's sites
zeros_are : (x : Stmt) → asked none_at x ≡ map (λ (a : Access). 0) (accesses x)
unfolding none_at
zeros_are x = asked_both (λ a c. a ≡ map (λ (b : Access). 0) c) refl
    (λ a b c d e f. ap (λ xs. xs ++ b) e ∙ ap (λ xs. map (λ (q : Access). 0) c ++ xs) f ∙ sym (map-append (λ (q : Access). 0) c d)) none_at
    access_at (λ y. refl) x

module _ (h : ℕ → ℕ) where
  abbrev by_site : List Access → List ℕ
  by_site all = map (λ (a : Access). h a.site) all

  all_zero : (all : List Access) (k : ℕ) → Ascends k (sites_of all) → ((f : ℕ) → k ≤ f → f < k + length all → h f ≡ 0) →
      map (λ (a : Access). 0) all ≡ by_site all
  all_zero [] k up none = refl
  all_zero (a ∷ all) k up none =
      ap (λ n. n ∷ map (λ (b : Access). 0) all) (sym (ap h up.0 ∙ none k (omega arith) (omega arith)))
      ∙ ap (λ ns. h a.site ∷ ns) (all_zero all (suc k) up.1 (λ f low high. none f (omega (arith, low)) (omega (arith, high))))

  first_alone : (all : List Access) (k n : ℕ) → Ascends k (sites_of all) → (0 < length all → n ≡ h k) → ((f : ℕ) → k < f → f < k + length all → h f ≡ 0) →
      slice_set (map (λ (a : Access). 0) all) 0 n ≡ by_site all
  first_alone [] k n up is none = refl
  first_alone (a ∷ all) k n up is none =
      ap (λ m. m ∷ map (λ (b : Access). 0) all) (is (omega arith) ∙ ap h (sym up.0))
      ∙ ap (λ ns. h a.site ∷ ns) (all_zero all (suc k) up.1 (λ f low high. none f (omega (arith, low)) (omega (arith, high))))

module _ (p : Program) (plan : Plan) where
  -- a statement with sites has the first of them; a call has none
  data Sited (x : Stmt) (k : ℕ) : Type 0 where
    sited : own_site p plan x ≡ k → 0 < length (accesses x) → Sited x k
    siteless : accesses x ≡ [] → own_site p plan x ≡ 0 → is_quiet_own p plan x ≡ false → Sited x k

  site_is : (x : Stmt) (h : Stmt-F Stmt) → out-Stmt x ≡ h → own_site p plan x ≡ (site_of h).0
  site_is x h is = ap (λ (g : Stmt-F Stmt). (site_of g).0) is

  is_sited : (x : Stmt) (k : ℕ) → Ascends k (sites_of (accesses x)) → Sited x k
  is_sited (tree.Assign site x e) k h = sited (site_is _ _ (outs-Assign site x e) ∙ h.0) (omega arith)
  is_sited (tree.Store site x index e) k h = sited (site_is _ _ (outs-Store site x index e) ∙ h.0) (omega arith)
  is_sited (tree.Print site e) k h = sited (site_is _ _ (outs-Print site e) ∙ h.0) (omega arith)
  is_sited (tree.Break site cond) k h = sited (site_is _ _ (outs-Break site cond) ∙ h.0) (omega arith)
  is_sited (tree.If' site cond i a j b) k h = sited (site_is _ _ (outs-If' site cond i a j b) ∙ h.0) (omega arith)
  is_sited (tree.While' site cond i a) k h = sited (site_is _ _ (outs-While' site cond i a) ∙ h.0) (omega arith)
  is_sited (tree.Region' r site cond i a) k h = sited (site_is _ _ (outs-Region' r site cond i a) ∙ h.0) (omega arith)
  is_sited (tree.Call g line args) k h = siteless refl (site_is _ _ (outs-Call g line args)) refl

  module _ (m : Marks) (pays : List Stmt → Bool) (homes : List (Option ℕ)) (quiet_is : (t : ℕ) (x : Stmt) → quiet_in p plan t x ≡ is_quiet p plan t x)
      (count_is : (before : Option ℕ) (x : Stmt) (rest : List Stmt) → is_quiet_own p plan x ≡ true → count_in p plan homes before (own_stage p plan x) (x
      ∷ rest) ≡ length (block_from p plan pays before x rest)) where
    abbrev size_at : ℕ → ℕ
    size_at f = length (m.block_at f)

    abbrev sizes : List Access → List ℕ
    sizes all = map (λ (a : Access). length (m.block_at a.site)) all

    -- what is sought among these statements, whose sites go up from k on, is what stands there
    abbrev Answers : {n : _} → Option ℕ → Row_of-Stmt n → ℕ → Type 0
    Answers before row k = (f : ℕ) → k ≤ f → f < k + length (accesses_in row) → m.block_at f ≡ sought p plan pays f before row

    module _ {n : _} (x : Stmt) (rest : Row_of-Stmt n) (before : Option ℕ) (k : ℕ) (h : Ascends k (sites_of (accesses x ++ accesses_in rest)))
        (answers : Answers before (more_of-Stmt x rest) k) where
      sum : length (accesses x ++ accesses_in rest) ≡ length (accesses x) + length (accesses_in rest)
      sum = length-append (accesses x) (accesses_in rest)

      parts : Ascends k (sites_of (accesses x)) × Ascends (k + length (accesses x)) (sites_of (accesses_in rest))
      parts = sites_split k (accesses x) (accesses_in rest) h

      later : Answers (run_behind p plan x) rest (k + length (accesses x))
      later f low high = answers f (omega (arith, low)) (omega (arith, high, sum))
          ∙ ap (λ (c : Bool). if c then (if f == own_site p plan x then block_from p plan pays before x (listed rest)
          else (if is_quiet_own p plan x then [] else sought_inside p plan pays f x)) else sought p plan pays f (run_behind p plan x) rest)
          (past (is_sited x k parts.0))
        where
          past : Sited x k → nat_lt f (site_past p plan x) ≡ false
          past (sited at some) = le-ltb f (site_past p plan x) (omega (arith, at, low))
          past (siteless none at quiet) = le-ltb f (site_past p plan x) (let e = ap length none in omega (arith, at, e))

      first : own_site p plan x ≡ k → 0 < length (accesses x) → m.block_at k ≡ block_from p plan pays before x (listed rest)
      first at some = answers k (omega arith) (omega (arith, some, sum))
          ∙ rw (lt-ltb k (site_past p plan x) (omega (arith, at, some)), eq-eqb k (own_site p plan x) (sym at)) refl

      within : own_site p plan x ≡ k → (f : ℕ) → k < f → f < k + length (accesses x) →
          m.block_at f ≡ (if is_quiet_own p plan x then [] else sought_inside p plan pays f x)
      within at f low high = answers f (omega (arith, low)) (omega (arith, high, sum))
          ∙ rw (lt-ltb f (site_past p plan x) (omega (arith, at, high)), ne_eqb f (own_site p plan x) (λ e. omega (arith, e, at, low))) refl

      own_none : is_quiet_own p plan x ≡ false → 0 < length (accesses x) → m.block_at k ≡ []
      own_none q has = by (is_sited x k parts.0)
        where
          by : Sited x k → m.block_at k ≡ []
          by (sited at some) = first at some ∙ rw q refl
          by (siteless none at quiet) = let e = ap length none in absurd (omega (arith, has, e))

      own_within : is_quiet_own p plan x ≡ false → (f : ℕ) → k < f → f < k + length (accesses x) → m.block_at f ≡ sought_inside p plan pays f x
      own_within q f low high = by (is_sited x k parts.0)
        where
          by : Sited x k → m.block_at f ≡ sought_inside p plan pays f x
          by (sited at some) = within at f low high ∙ rw q refl
          by (siteless none at quiet) = let e = ap length none in absurd (omega (arith, low, high, e))

      -- a quiet statement
      quiet_counts : is_quiet_own p plan x ≡ true → slice_set (asked none_at x) 0 (count_in p plan homes before (own_stage p plan x) (x ∷ listed rest))
          ≡ sizes (accesses x)
      quiet_counts q = ap (λ ns. slice_set ns 0 (count_in p plan homes before (own_stage p plan x) (x ∷ listed rest))) (zeros_are x)
          ∙ first_alone size_at (accesses x) k _ parts.0 (λ some. count_is before x (listed rest) q ∙ here some (is_sited x k parts.0))
          (λ f low high. inside f low high (is_sited x k parts.0))
        where
          here : 0 < length (accesses x) → Sited x k → length (block_from p plan pays before x (listed rest)) ≡ size_at k
          here some (sited at has) = ap length (sym (first at has))
          here some (siteless none at quiet) = let e = ap length none in absurd (omega (arith, some, e))

          inside : (f : ℕ) → k < f → f < k + length (accesses x) → Sited x k → size_at f ≡ 0
          inside f low high (sited at has) = ap length (within at f low high ∙ ap (λ (c : Bool). if c then [] else sought_inside p plan pays f x) q)
          inside f low high (siteless none at quiet) = let e = ap length none in absurd (omega (arith, low, high, e))

      -- the statement and those behind it
      both_counts : (is_quiet_own p plan x ≡ false → none_at x ++ inner_counts p plan homes x ≡ sizes (accesses x)) →
          row_counts p plan homes (run_behind p plan x) rest ≡ sizes (accesses_in rest) →
          head_counts p plan homes (quiet_in p plan (own_stage p plan x) x) before x (listed rest) (inner_counts p plan homes x) ++ row_counts p plan homes
          (behind_in p plan homes x) rest
          ≡ sizes (accesses x ++ accesses_in rest)
      both_counts inner behind =
          ap (λ (c : Bool). head_counts p plan homes c before x (listed rest) (inner_counts p plan homes x) ++ row_counts p plan homes
          (if c then Some (own_stage p plan x) else None) rest) (quiet_is (own_stage p plan x) x)
          ∙ by (is_quiet_own p plan x) refl ∙ sym (map-append (λ (a : Access). length (m.block_at a.site)) (accesses x) (accesses_in rest))
        where
          by : (c : Bool) → is_quiet_own p plan x ≡ c →
              head_counts p plan homes c before x (listed rest) (inner_counts p plan homes x) ++ row_counts p plan homes (if c then Some (own_stage p plan x)
              else None) rest ≡ sizes (accesses x) ++ sizes (accesses_in rest)
          by true q = ap (λ ns. ns ++ row_counts p plan homes (Some (own_stage p plan x)) rest) (quiet_counts q)
              ∙ ap (λ (o : Option ℕ). sizes (accesses x) ++ row_counts p plan homes o rest)
              (sym (ap (λ (c : Bool). if c then Some (own_stage p plan x) else None) q)) ∙ ap (λ ns. sizes (accesses x) ++ ns) behind
          by false q = ap (λ ns. ns ++ row_counts p plan homes None rest) (inner q)
              ∙ ap (λ (o : Option ℕ). sizes (accesses x) ++ row_counts p plan homes o rest)
              (sym (ap (λ (c : Bool). if c then Some (own_stage p plan x) else None) q)) ∙ ap (λ ns. sizes (accesses x) ++ ns) behind

    zero_at : (site k : ℕ) → site ≡ k → m.block_at k ≡ [] → 0 ≡ size_at site
    zero_at site k at none = sym (ap (λ n. length (m.block_at n)) at ∙ ap length none)

    mutual
      unfolding none_at inner_counts

      -- a statement that isn't quiet
      pub stmt_counts : (x : Stmt) (k : ℕ) → Ascends k (sites_of (accesses x)) → (0 < length (accesses x) → m.block_at k ≡ []) →
          ((f : ℕ) → k < f → f < k + length (accesses x) → m.block_at f ≡ sought_inside p plan pays f x) →
          none_at x ++ inner_counts p plan homes x ≡ sizes (accesses x)
      stmt_counts (tree.Assign site x e) k h none answers = ap (λ n. n ∷ []) (zero_at site.0 k h.0 (none (omega arith)))
      stmt_counts (tree.Store site x index e) k h none answers = ap (λ n. n ∷ []) (zero_at site.0 k h.0 (none (omega arith)))
      stmt_counts (tree.Print site e) k h none answers = ap (λ n. n ∷ []) (zero_at site.0 k h.0 (none (omega arith)))
      stmt_counts (tree.Break site cond) k h none answers = ap (λ n. n ∷ []) (zero_at site.0 k h.0 (none (omega arith)))
      stmt_counts (tree.If' site cond i a j b) k h none answers =
          let parts = sites_split (suc k) (accesses_in a) (accesses_in b) h.1 in
          let sum = length-append (accesses_in a) (accesses_in b) in
          ap (λ n. n ∷ (row_counts p plan homes None a ++ row_counts p plan homes None b)) (zero_at site.0 k h.0 (none (omega arith)))
          ∙ ap (λ ns. size_at site.0 ∷ (ns ++ row_counts p plan homes None b))
          (all_counts a None (suc k) parts.0 (λ f low high. answers f (omega (arith, low)) (omega (arith, high, sum))
          ∙ ap (λ (c : Bool). if c then sought p plan pays f None a else sought p plan pays f None b) (lt-ltb f (site.0 + 1 + length (accesses_in a))
          (omega (arith, high, h.0)))))
          ∙ ap (λ ns. size_at site.0 ∷ (sizes (accesses_in a) ++ ns))
          (all_counts b None (suc k + length (accesses_in a)) parts.1 (λ f low high. answers f (omega (arith, low)) (omega (arith, high, sum))
          ∙ ap (λ (c : Bool). if c then sought p plan pays f None a else sought p plan pays f None b) (le-ltb f (site.0 + 1 + length (accesses_in a))
          (omega (arith, low, h.0)))))
          ∙ ap (λ ns. size_at site.0 ∷ ns) (sym (map-append (λ (q : Access). length (m.block_at q.site)) (accesses_in a) (accesses_in b)))
      stmt_counts (tree.While' site cond i a) k h none answers =
          ap (λ n. n ∷ row_counts p plan homes None a) (zero_at site.0 k h.0 (none (omega arith)))
          ∙ ap (λ ns. size_at site.0 ∷ ns) (all_counts a None (suc k) h.1 (λ f low high. answers f (omega (arith, low)) (omega (arith, high))))
      stmt_counts (tree.Region' r site cond i a) k h none answers =
          ap (λ n. n ∷ row_counts p plan homes None a) (zero_at site.0 k h.0 (none (omega arith)))
          ∙ ap (λ ns. size_at site.0 ∷ ns) (all_counts a None (suc k) h.1 (λ f low high. answers f (omega (arith, low)) (omega (arith, high))))
      stmt_counts (tree.Call g line args) k h none answers = refl

      -- statements from the first on
      all_counts : {n : _} (row : Row_of-Stmt n) (before : Option ℕ) (k : ℕ) → Ascends k (sites_of (accesses_in row)) → Answers before row k →
          row_counts p plan homes before row ≡ sizes (accesses_in row)
      all_counts end_of-Stmt before k h answers = refl
      all_counts (more_of-Stmt x rest) before k h answers =
          let split = sites_split k (accesses x) (accesses_in rest) h in
          both_counts x rest before k h answers (λ q. stmt_counts x k split.0 (own_none x rest before k h answers q) (own_within x rest before k h answers q))
          (all_counts rest (run_behind p plan x) (k + length (accesses x)) split.1 (later x rest before k h answers))
