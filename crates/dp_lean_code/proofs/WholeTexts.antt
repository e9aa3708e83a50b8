-- The judge's text has all statements of the region's body as they are, so that the body has its blocks whole.
use Rattle.dp_semantics.proofs.Names.{◌≡◌, refl, sym, ap, ◌∙◌, subst, ◌≤◌, ℕ, true, ◌&&◌, List, [], ◌∷◌, ◌++◌, and_parts, SiteId, Expr, Stmt, Row_of-Stmt}
use Rattle.dp_semantics.proofs.Names.{end_of-Stmt, more_of-Stmt, out-Stmt, roll-Stmt, roll-out-Stmt, rolls-If, rolls-While, If, While, Program, Plan, Access}
use Rattle.dp_semantics.proofs.Names.{accesses, accesses_in, stage_of, project, project_in, project_all}
use Rattle.dp_tree.specs.declared.Stmt.TheVariants as tree
use Rattle.dp_tree.specs.declared.Stmt.TheViews.{outs-If', outs-While'}
use Rattle.dp_tree.specs.declared.Stmt.TheBlock.{shown-the_row-Stmt-0}
use Rattle.dp_tree.specs.Statements.{listed}
use Rattle.dp_tree.proofs.InnerTexts.{shown_listed}
use Rattle.dp_semantics.specs.Nesting.{well_nested, well_nested_in, nests_at}
use Rattle.dp_semantics.proofs.Each.{Each, each_split}
use Rattle.dp_semantics.proofs.Heads.{accesses_all, all_well}
use Rattle.dp_theorem.proofs.Projected.{reached}
use Rattle.dp_net.specs.NetItems.{Marks}
use Rattle.dp_net.proofs.Texts as texts
use Rattle.dp_net.proofs.Texts.{site_at, IsLeaf, Text}

rolled_if : (site : SiteId) (cond : Expr) (h : _) (a : Row_of-Stmt _) (k : _) (b : Row_of-Stmt _) →
    tree.If site cond (listed a) (listed b) ≡ tree.If' site cond h a k b
rolled_if site cond h a k b =
    sym (rolls-If site cond (listed a) (listed b)) ∙ ap (λ (xs : List Stmt). roll-Stmt (If site cond xs (listed b))) (sym (shown_listed h a))
    ∙ ap (λ (xs : List Stmt). roll-Stmt (If site cond (shown-the_row-Stmt-0 h a) xs)) (sym (shown_listed k b))
    ∙ ap roll-Stmt (sym (outs-If' site cond h a k b)) ∙ roll-out-Stmt (tree.If' site cond h a k b)

rolled_while : (site : SiteId) (cond : Expr) (h : _) (a : Row_of-Stmt _) → tree.While site cond (listed a) ≡ tree.While' site cond h a
rolled_while site cond h a =
    sym (rolls-While site cond (listed a)) ∙ ap (λ (xs : List Stmt). roll-Stmt (While site cond xs)) (sym (shown_listed h a))
    ∙ ap roll-Stmt (sym (outs-While' site cond h a)) ∙ roll-out-Stmt (tree.While' site cond h a)

module _ (p : Program) (plan : Plan) (s : ℕ) where
  -- all of these sites are of stages up to s
  abbrev pub Reached : List Access → Type 0
  Reached all = Each (λ a. stage_of p plan a.site ≤ s) all

  mutual
    whole : (x : Stmt) → well_nested p plan x ≡ true → Reached (accesses x) → project p plan s x ≡ x ∷ []
    whole (tree.Assign site x e) w h = reached p plan s site.0 _ [] h.0
    whole (tree.Store site x index e) w h = reached p plan s site.0 _ [] h.0
    whole (tree.Print site e) w h = reached p plan s site.0 _ [] h.0
    whole (tree.Break site cond) w h = reached p plan s site.0 _ [] h.0
    whole (tree.If' site cond i a j b) w h =
        let both = and_parts (nests_at p plan (tree.If' site cond i a j b)) (well_nested_in p plan a && well_nested_in p plan b) w in
        let inner = and_parts (well_nested_in p plan a) (well_nested_in p plan b) both.1 in
        let sites = each_split (λ c. stage_of p plan c.site ≤ s) (accesses_in a) (accesses_in b) h.1 in
        reached p plan s site.0 _ _ h.0
        ∙ ap (λ (xs : List Stmt). tree.If site cond xs (project_in p plan s b) ∷ []) (whole_in a inner.0 sites.0)
        ∙ ap (λ (xs : List Stmt). tree.If site cond (listed a) xs ∷ []) (whole_in b inner.1 sites.1)
        ∙ ap (λ (y : Stmt). y ∷ []) (rolled_if site cond i a j b)
    whole (tree.While' site cond i a) w h =
        let both = and_parts (nests_at p plan (tree.While' site cond i a)) (well_nested_in p plan a) w in
        reached p plan s site.0 _ [] h.0
        ∙ ap (λ (xs : List Stmt). tree.While site cond xs ∷ []) (whole_in a both.1 h.1) ∙ ap (λ (y : Stmt). y ∷ []) (rolled_while site cond i a)
    whole (tree.Region' r site cond i a) w h = absurd (cc)
    whole (tree.Call f line args) w h = absurd (cc)

    whole_in : {n : _} (row : Row_of-Stmt n) → well_nested_in p plan row ≡ true → Reached (accesses_in row) → project_in p plan s row ≡ listed row
    whole_in end_of-Stmt w h = refl
    whole_in (more_of-Stmt x rest) w h =
        let both = and_parts (well_nested p plan x) (well_nested_in p plan rest) w in
        let sites = each_split (λ c. stage_of p plan c.site ≤ s) (accesses x) (accesses_in rest) h in
        ap (λ (ys : List Stmt). ys ++ project_in p plan s rest) (whole x both.0 sites.0) ∙ ap (λ (ys : List Stmt). x ∷ ys) (whole_in rest both.1 sites.1)

  pub whole_all : (xs : List Stmt) → all_well p plan xs ≡ true → Reached (accesses_all xs) → project_all p plan s xs ≡ xs
  whole_all [] w h = refl
  whole_all (x ∷ xs) w h =
      let both = and_parts (well_nested p plan x) (all_well p plan xs) w in
      let sites = each_split (λ c. stage_of p plan c.site ≤ s) (accesses x) (accesses_all xs) h in
      ap (λ (ys : List Stmt). ys ++ project_all p plan s xs) (whole x both.0 sites.0) ∙ ap (λ (ys : List Stmt). x ∷ ys) (whole_all xs both.1 sites.1)

-- the first branch of a choice in a text
pub first_text : (m : Marks) (x : Stmt) (rest : List Stmt) (site : SiteId) (cond : Expr) (a b : List Stmt) → out-Stmt x ≡ If site cond a b →
    m.block_at (site_at x) ≡ [] → Text m (x ∷ rest) → Text m a
first_text m x rest site cond a b is none (texts.leaf plain l t) = absurd (subst IsLeaf is l)
first_text m x rest site cond a b is none (texts.choice {a = c} {b = d} plain at u v t) =
    let same : If _ _ c d ≡ If site cond a b = sym at ∙ is in
    let first : c ≡ a = cc same in subst (Text m) first u
first_text m x rest site cond a b is none (texts.loop plain at u t) = let clash = sym at ∙ is in absurd (cc clash)
first_text m x rest site cond a b is none (texts.block at e t) = let clash = sym at ∙ none in absurd (cc clash)
