-- What the walk makes of statements is the code of their lean text, where what it looks up is right and their blocks stand whole.
use Rattle.dp_semantics.proofs.Names.{◌≡◌, refl, sym, ap, ◌∙◌, subst, arith, or-false, ℕ, ◌+◌, ◌==◌, ◌&&◌, ◌||◌, nat_le, if◌then◌else◌, Bool, true, false, List}
use Rattle.dp_semantics.proofs.Names.{[], ◌∷◌, ◌++◌, length, Option, Some, None, list_any, flat_map, SiteId, Expr, Stmt, out-Stmt, Stmt-F, If, While, Region}
use Rattle.dp_semantics.proofs.Names.{Program, Plan, Access, accesses, site_of, stage_of, project}
use Rattle.dp_tree.specs.declared.Stmt.TheVariants as tree
use Rattle.dp_tree.specs.declared.Stmt.TheVariants.{outs-If, outs-While}
use Rattle.dp_tree.specs.declared.Stmt.TheViews.{outs-If', outs-While', outs-Region', outs-Call}
use Rattle.dp_plan.specs.Checked.{is_checked}
use Rattle.dp_net.specs.NetItems.{Marks}
use Rattle.dp_net.proofs.Texts.{site_at, IsLeaf}
use Rattle.dp_lean.specs.Needed.{is_judge, is_done_to, is_kept_site, does_store, store_inside}
use Rattle.dp_lean.specs.LeanText.{has_some}
use Rattle.dp_lean.proofs.LeanLists.{leaned, lean_at, lean_out}
use Rattle.dp_code.specs.declared.Op.TheVariants as op
use Rattle.dp_lean_code.specs.declared.LeanOp.{LeanOp}
use Rattle.dp_lean_code.specs.declared.LeanOp.TheVariants.{Plain}
use Rattle.dp_lean_code.specs.LeanCode.{block_code, by_stage, choice, repetition, branch, either, value_code, test_code}
unfoldable use Rattle.dp_lean_code.specs.LeanCode.{stmt_code}
use Rattle.dp_lean_code.specs.steps.Walked.{Known, keeps, does, has_ops, tested, where_kept, choice_part, loop_part}
unfoldable use Rattle.dp_lean_code.specs.steps.Walked.{part, stored_inside}
use Rattle.dp_lean_code.proofs.LeanStanding.{head_code, stmt_of, code_out}
use Rattle.dp_lean_code.proofs.Leaving.{some_block}
use Rattle.dp_lean_code.proofs.WalkedPieces.{Piece, has_left, has_behind, piece_nil, piece_as, piece_if, piece_alone, piece_has, piece_stays}

module _ (p : Program) (plan : Plan) (s : ℕ) (m : Marks) (k : Known) (checks : (f : ℕ) → k.checked f ≡ is_checked p plan f)
    (dones : (x : ℕ) → k.done x ≡ is_done_to p plan s x) where
  abbrev One : List Stmt → (ℕ → List LeanOp) → Type 0
  One zs ops = Piece p plan s m zs ops

  -- what is looked up is what the definitions say
  kept_is : (site : SiteId) → keeps p plan s k site ≡ is_kept_site p plan s site.0
  kept_is site = ap (λ c. (stage_of p plan site.0 == s) || ((site.0 == Rattle.dp_semantics.proofs.Names.first_site p plan) || (is_judge p plan s && c)))
      (checks site.0)

  does_is : (o : Option ℕ) → does p plan s k o ≡ does_store p plan s o
  does_is None = refl
  does_is (Some x) = dones x

  any_same : (all : List Access) → list_any (λ (a : Access). does p plan s k a.stores) all ≡ list_any (λ (a : Access). does_store p plan s a.stores) all
  any_same [] = refl
  any_same (a ∷ all) =
      ap (λ c. c || list_any (λ (a : Access). does p plan s k a.stores) all) (does_is a.stores) ∙ ap (λ c. does_store p plan s a.stores || c) (any_same all)

  pub stored_is : (block : List Stmt) → stored_inside p plan s k block ≡ store_inside p plan s block
  unfolding stored_inside
  stored_is block = any_same (flat_map accesses block)

  -- a leaf by whether it is reached and kept
  leaf_code : (reached own also : Bool) (ops : ℕ → List LeanOp) (at : ℕ) → (if reached then (if own || also then ops at else []) else [])
      ≡ (if reached && (own || also) then ops at else [])
  leaf_code true own also ops at = refl
  leaf_code false own also ops at = refl

  has_either : (site : SiteId) (own other : List LeanOp) → has_ops own ≡ true → has_ops other ≡ true → has_ops (by_stage p plan s site own other) ≡ true
  has_either site own other e f = by (stage_of p plan site.0 == s)
    where
      by : (c : Bool) → has_ops (if c then own else other) ≡ true
      by true = e
      by false = f

  module _ (x : Stmt) (site : SiteId) (also asked : Bool) (ops : ℕ → List LeanOp) (none : m.block_at (site_at x) ≡ []) where
    leaf_piece : Rattle.dp_lean.specs.LeanText.lean p plan m s x ≡ Rattle.dp_lean.specs.LeanText.kept_when
        (is_kept_site p plan s site.0 || asked) x → also ≡ asked →
        ((at : ℕ) → stmt_of p plan s m (block_code p plan s) (some_block p plan s m) x at ≡ ops at) → ((at : ℕ) → has_ops (ops at) ≡ true) →
        One (Rattle.dp_semantics.proofs.Names.where_reached p plan s site.0 (x ∷ []) []) (λ at. where_kept p plan s k site also (ops at))
    leaf_piece is asks same has = piece_as p plan s m (λ at.
        leaf_code (nat_le (stage_of p plan site.0) s) (is_kept_site p plan s site.0) asked ops at
        ∙ ap (λ c. if nat_le (stage_of p plan site.0) s && (c || asked) then ops at else []) (sym (kept_is site))
        ∙ ap (λ c. if nat_le (stage_of p plan site.0) s && (keeps p plan s k site || c) then ops at else []) (sym asks))
        (piece_if p plan s m (nat_le (stage_of p plan site.0) s) (x ∷ []) [] _ (λ at. [])
        (piece_stays p plan s m x x ops none none (is_kept_site p plan s site.0 || asked) is same has) (piece_nil p plan s m))

  -- the four forms with no statements inside
  pub leaf_one : (x : Stmt) → m.block_at (site_at x) ≡ [] → IsLeaf (out-Stmt x) → One (project p plan s x) (part p plan s k x)
  unfolding part stmt_code
  leaf_one (tree.Assign site v e) none l =
      leaf_piece (tree.Assign site v e) site (k.done v.0) (is_done_to p plan s v.0) _ none refl (dones v.0) (λ at. refl)
      (λ at. has_either site _ _ (has_behind (value_code p e at) (Plain (op.Store site _) ∷ []) refl) refl)
  leaf_one (tree.Store site v i e) none l =
      leaf_piece (tree.Store site v i e) site (k.done v.0) (is_done_to p plan s v.0) _ none refl (dones v.0) (λ at. refl)
      (λ at. has_either site _ _ (has_behind (value_code p i at) _ (has_behind (value_code p e (at + length (value_code p i at)))
      (Plain (op.StoreAt site _ _) ∷ []) refl)) refl)
  leaf_one (tree.Print site e) none l =
      leaf_piece (tree.Print site e) site (is_judge p plan s) (is_judge p plan s) _ none refl refl (λ at. refl)
      (λ at. has_either site _ _ (has_behind (value_code p e at) (Plain (op.Print site) ∷ []) refl) refl)
  leaf_one (tree.Break site cond) none l =
      piece_if p plan s m (nat_le (stage_of p plan site.0) s) (tree.Break site cond ∷ []) [] _ (λ at. [])
      (piece_stays p plan s m (tree.Break site cond) (tree.Break site cond) _ none none true refl (λ at. refl)
      (λ at. has_behind (test_code p plan s site cond at) _ refl)) (piece_nil p plan s m)
  leaf_one (tree.If' site cond i a j b) none l = absurd (subst IsLeaf (outs-If' site cond i a j b) l)
  leaf_one (tree.While' site cond i a) none l = absurd (subst IsLeaf (outs-While' site cond i a) l)
  leaf_one (tree.Region' r site cond i a) none l = absurd (subst IsLeaf (outs-Region' r site cond i a) l)
  leaf_one (tree.Call f line args) none l = absurd (subst IsLeaf (outs-Call f line args) l)

  -- a choice whose branches are known
  has_choice : (at : ℕ) (site : SiteId) (a b : List LeanOp) → has_ops (either at (branch p plan s site) a b) ≡ true
  has_choice at site a [] = refl
  has_choice at site a (o ∷ b) = refl

  pub choice_one : (site : SiteId) (cond : Expr) (a b : List Stmt) (f g : ℕ → List LeanOp) → m.block_at site.0 ≡ [] → One a f → One b g →
      One (tree.If site cond a b ∷ []) (choice_part p plan s k site cond f g)
  choice_one site cond a b f g none one two =
      piece_as p plan s m same (piece_stays p plan s m x y ops (at_site x a b (outs-If site cond a b)) (at_site y la lb (outs-If site cond la lb)) kept
      (lean_out p plan m s x ∙ ap (lean_at p plan m s) (outs-If site cond a b)) code_is (λ at. has_behind (test_code p plan s site cond at) _
      (has_choice _ site _ _)))
    where
      la : List Stmt
      la = leaned p plan m s a

      lb : List Stmt
      lb = leaned p plan m s b

      x : Stmt
      x = tree.If site cond a b

      y : Stmt
      y = tree.If site cond (leaned p plan m s a) (leaned p plan m s b)

      kept : Bool
      kept = is_kept_site p plan s site.0 || has_some p plan m s (leaned p plan m s a) (leaned p plan m s b)

      ops : ℕ → List LeanOp
      ops at = tested p plan s site cond (choice (branch p plan s site) f g) at

      at_site : (z : Stmt) (c d : List Stmt) → out-Stmt z ≡ If site cond c d → m.block_at (site_at z) ≡ []
      at_site z c d is = ap (λ (h : Stmt-F Stmt). m.block_at (site_of h).0) is ∙ none

      code_is : (at : ℕ) → stmt_of p plan s m (block_code p plan s) (some_block p plan s m) y at ≡ ops at
      code_is at = code_out p plan s m (block_code p plan s) (some_block p plan s m) y at
          ∙ ap (λ (h : Stmt-F Stmt). head_code p plan s m (block_code p plan s) (some_block p plan s m) h at) (outs-If site cond la lb)
          ∙ (λ i. tested p plan s site cond (choice (branch p plan s site) (λ j. piece_alone p plan s m one j i) (λ j. piece_alone p plan s m two j i)) at)

      same : (at : ℕ) → (if kept then ops at else []) ≡ choice_part p plan s k site cond f g at
      same at =
          let n = at + length (test_code p plan s site cond at) + 1 in
          let test : kept ≡ (keeps p plan s k site || (has_ops (f n) || has_ops (g (n + length (f n) + 1)))) =
          ap (λ c. c || has_some p plan m s la lb) (sym (kept_is site)) ∙ ap (λ c. keeps p plan s k site || (c || has_left p plan s m b))
          (piece_has p plan s m one n)
          ∙ ap (λ c. keeps p plan s k site || (has_ops (f n) || c)) (piece_has p plan s m two (n + length (f n) + 1)) in
          ap (λ c. if c then ops at else []) test

  pub loop_one : (site : SiteId) (cond : Expr) (a : List Stmt) (f : ℕ → List LeanOp) → m.block_at site.0 ≡ [] → One a f →
      One (tree.While site cond a ∷ []) (loop_part p plan s k site cond f)
  loop_one site cond a f none one =
      piece_as p plan s m same (piece_stays p plan s m x y ops (at_site x a (outs-While site cond a)) (at_site y la (outs-While site cond la)) kept
      (lean_out p plan m s x ∙ ap (lean_at p plan m s) (outs-While site cond a)) code_is (λ at. has_behind (test_code p plan s site cond at) _ refl))
    where
      la : List Stmt
      la = leaned p plan m s a

      x : Stmt
      x = tree.While site cond a

      y : Stmt
      y = tree.While site cond (leaned p plan m s a)

      kept : Bool
      kept = is_kept_site p plan s site.0 || has_some p plan m s (leaned p plan m s a) []

      ops : ℕ → List LeanOp
      ops at = tested p plan s site cond (repetition at (branch p plan s site) f) at

      at_site : (z : Stmt) (c : List Stmt) → out-Stmt z ≡ While site cond c → m.block_at (site_at z) ≡ []
      at_site z c is = ap (λ (h : Stmt-F Stmt). m.block_at (site_of h).0) is ∙ none

      code_is : (at : ℕ) → stmt_of p plan s m (block_code p plan s) (some_block p plan s m) y at ≡ ops at
      code_is at = code_out p plan s m (block_code p plan s) (some_block p plan s m) y at
          ∙ ap (λ (h : Stmt-F Stmt). head_code p plan s m (block_code p plan s) (some_block p plan s m) h at) (outs-While site cond la)
          ∙ (λ i. tested p plan s site cond (repetition at (branch p plan s site) (λ j. piece_alone p plan s m one j i)) at)

      same : (at : ℕ) → (if kept then ops at else []) ≡ loop_part p plan s k site cond f at
      same at =
          let n = at + length (test_code p plan s site cond at) + 1 in
          let test : kept ≡ (keeps p plan s k site || has_ops (f n)) =
          ap (λ c. c || has_some p plan m s la []) (sym (kept_is site)) ∙ ap (λ c. keeps p plan s k site || c) (or-false (has_left p plan s m a)
          ∙ piece_has p plan s m one n) in
          ap (λ c. if c then ops at else []) test
