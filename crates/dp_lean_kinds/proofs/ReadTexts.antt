-- The sites that the walk reads are those of the lean text, where what it looks up is right and blocks stand whole: a statement at a time.
use Rattle.dp_semantics.proofs.Names.{◌≡◌, refl, sym, ap, ◌∙◌, subst, or-false, ℕ, ◌==◌, ◌&&◌, ◌||◌, nat_le, if◌then◌else◌, Bool, true, false, List, [], ◌∷◌}
use Rattle.dp_semantics.proofs.Names.{◌++◌, SiteId, Expr, Stmt, out-Stmt, Stmt-F, Program, Plan, accesses, first_site, site_of, stage_of, project}
use Rattle.dp_semantics.proofs.Names.{where_reached}
use Rattle.dp_tree.specs.declared.Stmt.TheVariants as tree
use Rattle.dp_tree.specs.declared.Stmt.TheVariants.{outs-If, outs-While}
use Rattle.dp_tree.specs.declared.Stmt.TheViews.{outs-If', outs-While', outs-Region', outs-Call}
use Rattle.dp_plan.specs.Checked.{is_checked, has_site}
use Rattle.dp_semantics.proofs.Heads.{accesses_all, accesses_at, accesses_out}
use Rattle.dp_net.specs.NetItems.{Marks}
use Rattle.dp_net.proofs.Texts.{site_at, IsLeaf}
use Rattle.dp_lean.specs.Needed.{is_judge, is_done_to, is_kept_site}
use Rattle.dp_lean.specs.LeanText.{kept_when, has_some, lean}
use Rattle.dp_lean.proofs.LeanLists.{leaned, lean_at, lean_out}
use Rattle.dp_lean.proofs.Once.{has_join}
use Rattle.dp_lean_code.specs.steps.Walked.{Known, keeps}
use Rattle.dp_lean_kinds.specs.steps.Read.{has_number, has_any, site_when, leaf_read, choice_read}
unfoldable use Rattle.dp_lean_kinds.specs.steps.Read.{read}
use Rattle.dp_lean_kinds.proofs.ReadPieces.{Piece, has_left, number_join, any_join, piece_nil, piece_as, piece_if, piece_alone, piece_has, piece_stays}

module _ (p : Program) (plan : Plan) (s : ℕ) (m : Marks) (k : Known) (checks : (f : ℕ) → k.checked f ≡ is_checked p plan f)
    (dones : (x : ℕ) → k.done x ≡ is_done_to p plan s x) where
  abbrev One : List Stmt → List ℕ → Type 0
  One zs sites = Piece p plan s m zs sites

  kept_is : (site : SiteId) → keeps p plan s k site ≡ is_kept_site p plan s site.0
  kept_is site = ap (λ c. (stage_of p plan site.0 == s) || ((site.0 == first_site p plan) || (is_judge p plan s && c))) (checks site.0)

  -- a leaf by whether it is reached and kept
  leaf_sites : (reached kept : Bool) (site : SiteId) → (if reached then (if kept then site.0 ∷ [] else []) else []) ≡ site_when (reached && kept) site
  leaf_sites true kept site = refl
  leaf_sites false kept site = refl

  module _ (x : Stmt) (site : SiteId) (also asked : Bool) (none : m.block_at (site_at x) ≡ []) where
    leaf_piece : lean p plan m s x ≡ kept_when (is_kept_site p plan s site.0 || asked) x → also ≡ asked →
        ((y : ℕ) → has_site y (accesses x) ≡ has_number y (site.0 ∷ [])) →
        One (where_reached p plan s site.0 (x ∷ []) []) (leaf_read p plan s k site also)
    leaf_piece is asks same = piece_as p plan s m
        (leaf_sites (nat_le (stage_of p plan site.0) s) (is_kept_site p plan s site.0 || asked) site
        ∙ ap (λ c. site_when (nat_le (stage_of p plan site.0) s && (c || asked)) site) (sym (kept_is site))
        ∙ ap (λ c. site_when (nat_le (stage_of p plan site.0) s && (keeps p plan s k site || c)) site) (sym asks))
        (piece_if p plan s m (nat_le (stage_of p plan site.0) s) (x ∷ []) [] _ []
        (piece_stays p plan s m x x (site.0 ∷ []) none (is_kept_site p plan s site.0 || asked) is same refl) (piece_nil p plan s m))

  -- the four forms with no statements inside
  pub leaf_one : (x : Stmt) → m.block_at (site_at x) ≡ [] → IsLeaf (out-Stmt x) → One (project p plan s x) (read p plan s k x)
  unfolding read
  leaf_one (tree.Assign site v e) none l = leaf_piece (tree.Assign site v e) site (k.done v.0) (is_done_to p plan s v.0) none refl (dones v.0) (λ y. refl)
  leaf_one (tree.Store site v i e) none l = leaf_piece (tree.Store site v i e) site (k.done v.0) (is_done_to p plan s v.0) none refl (dones v.0) (λ y. refl)
  leaf_one (tree.Print site e) none l = leaf_piece (tree.Print site e) site (is_judge p plan s) (is_judge p plan s) none refl refl (λ y. refl)
  leaf_one (tree.Break site cond) none l =
      piece_if p plan s m (nat_le (stage_of p plan site.0) s) (tree.Break site cond ∷ []) [] (site.0 ∷ []) []
      (piece_stays p plan s m (tree.Break site cond) (tree.Break site cond) (site.0 ∷ []) none true refl (λ y. refl) refl) (piece_nil p plan s m)
  leaf_one (tree.If' site cond i a j b) none l = absurd (subst IsLeaf (outs-If' site cond i a j b) l)
  leaf_one (tree.While' site cond i a) none l = absurd (subst IsLeaf (outs-While' site cond i a) l)
  leaf_one (tree.Region' r site cond i a) none l = absurd (subst IsLeaf (outs-Region' r site cond i a) l)
  leaf_one (tree.Call f line args) none l = absurd (subst IsLeaf (outs-Call f line args) l)

  -- a choice or a loop whose inner sites are known
  or_swap : (a b : Bool) → (a || b) ≡ (b || (a || false))
  or_swap true true = refl
  or_swap true false = refl
  or_swap false true = refl
  or_swap false false = refl

  closed_same : (site : SiteId) (inner : List ℕ) (own : Bool) → (if own || has_any inner then inner ++ site.0 ∷ [] else []) ≡ inner
      ++ site_when (own || has_any inner) site
  closed_same site [] true = refl
  closed_same site [] false = refl
  closed_same site (n ∷ inner) true = refl
  closed_same site (n ∷ inner) false = refl

  some_last : (inner : List ℕ) (n : ℕ) → has_any (inner ++ n ∷ []) ≡ true
  some_last [] n = refl
  some_last (i ∷ inner) n = refl

  sites_last : (y : ℕ) (site : SiteId) (inner : List ℕ) (has : Bool) → has ≡ has_number y inner → ((site.0 == y) || has) ≡ has_number y (inner ++ site.0 ∷ [])
  sites_last y site inner has e = ap (λ c. (site.0 == y) || c) e ∙ or_swap (site.0 == y) (has_number y inner) ∙ sym (number_join y inner (site.0 ∷ []))

  pub choice_one : (site : SiteId) (cond : Expr) (a b : List Stmt) (f g : List ℕ) → m.block_at site.0 ≡ [] → One a f → One b g →
      One (tree.If site cond a b ∷ []) (choice_read p plan s k site (f ++ g))
  choice_one site cond a b f g none one two =
      piece_as p plan s m (ap (λ c. if c then (f ++ g) ++ site.0 ∷ [] else []) test ∙ closed_same site (f ++ g) (keeps p plan s k site))
      (piece_stays p plan s m x z ((f ++ g) ++ site.0 ∷ []) (ap (λ (h : Stmt-F Stmt). m.block_at (site_of h).0) (outs-If site cond a b) ∙ none) kept
      (lean_out p plan m s x ∙ ap (lean_at p plan m s) (outs-If site cond a b)) same (some_last (f ++ g) site.0))
    where
      x : Stmt
      x = tree.If site cond a b

      z : Stmt
      z = tree.If site cond (leaned p plan m s a) (leaned p plan m s b)

      kept : Bool
      kept = is_kept_site p plan s site.0 || has_some p plan m s (leaned p plan m s a) (leaned p plan m s b)

      test : kept ≡ (keeps p plan s k site || has_any (f ++ g))
      test = ap (λ c. c || has_some p plan m s (leaned p plan m s a) (leaned p plan m s b)) (sym (kept_is site))
          ∙ ap (λ c. keeps p plan s k site || (c || has_left p plan s m b)) (piece_has p plan s m one) ∙ ap (λ c. keeps p plan s k site || (has_any f || c))
          (piece_has p plan s m two)
          ∙ ap (λ c. keeps p plan s k site || c) (sym (any_join f g))

      same : (y : ℕ) → has_site y (accesses z) ≡ has_number y ((f ++ g) ++ site.0 ∷ [])
      same y = ap (has_site y) (accesses_out z ∙ ap accesses_at (outs-If site cond (leaned p plan m s a) (leaned p plan m s b)))
          ∙ sites_last y site (f ++ g) _ (has_join y (accesses_all (leaned p plan m s a)) (accesses_all (leaned p plan m s b))
          ∙ ap (λ c. c || has_site y (accesses_all (leaned p plan m s b))) (piece_alone p plan s m one y)
          ∙ ap (λ c. has_number y f || c) (piece_alone p plan s m two y) ∙ sym (number_join y f g))

  pub loop_one : (site : SiteId) (cond : Expr) (a : List Stmt) (f : List ℕ) → m.block_at site.0 ≡ [] → One a f →
      One (tree.While site cond a ∷ []) (choice_read p plan s k site f)
  loop_one site cond a f none one =
      piece_as p plan s m (ap (λ c. if c then f ++ site.0 ∷ [] else []) test ∙ closed_same site f (keeps p plan s k site))
      (piece_stays p plan s m x z (f ++ site.0 ∷ []) (ap (λ (h : Stmt-F Stmt). m.block_at (site_of h).0) (outs-While site cond a) ∙ none) kept
      (lean_out p plan m s x ∙ ap (lean_at p plan m s) (outs-While site cond a)) same (some_last f site.0))
    where
      x : Stmt
      x = tree.While site cond a

      z : Stmt
      z = tree.While site cond (leaned p plan m s a)

      kept : Bool
      kept = is_kept_site p plan s site.0 || has_some p plan m s (leaned p plan m s a) []

      test : kept ≡ (keeps p plan s k site || has_any f)
      test = ap (λ c. c || has_some p plan m s (leaned p plan m s a) []) (sym (kept_is site))
          ∙ ap (λ c. keeps p plan s k site || c) (or-false (has_left p plan s m a) ∙ piece_has p plan s m one)

      same : (y : ℕ) → has_site y (accesses z) ≡ has_number y (f ++ site.0 ∷ [])
      same y = ap (has_site y) (accesses_out z ∙ ap accesses_at (outs-While site cond (leaned p plan m s a)))
          ∙ sites_last y site f _ (piece_alone p plan s m one y)
