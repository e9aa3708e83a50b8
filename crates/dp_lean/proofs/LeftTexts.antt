-- A text with its blocks, whose sites are read where their statements are left: what stands at its head, and what is left of that.
use Rattle.dp_semantics.proofs.Names.{◌≡◌, refl, sym, ap, ◌∙◌, subst, append_assoc, ℕ, Bool, true, false, not, List, [], ◌∷◌, ◌++◌, outs-If, SiteId, Expr, Stmt}
use Rattle.dp_semantics.proofs.Names.{out-Stmt, Stmt-F, Assign, Store, Print, If, While, Break, Program, Plan, site_of}
use Rattle.dp_tree.specs.declared.Stmt.TheVariants as tree
use Rattle.dp_tree.specs.declared.Stmt.TheVariants.{outs-While}
use Rattle.dp_tree.specs.declared.Stmt.TheViews.{outs-Assign, outs-Store, outs-Print, outs-Break}
use Rattle.dp_net.specs.NetItems.{Marks, is_nil}
use Rattle.dp_net.proofs.Texts as texts
use Rattle.dp_net.proofs.Texts.{site_at, IsLeaf, Plain, Text, text_join, text_left}
use Rattle.dp_lean.specs.Needed.{is_kept_block}
use Rattle.dp_lean.specs.LeanText.{kept_when, lean}
use Rattle.dp_lean.proofs.LeanLists.{leaned, lean_at, lean_out, lean_alone, lean_block, if_kept}

module _ (p : Program) (plan : Plan) (m : Marks) (s : ℕ) where
  -- a site is read where its statement is left
  abbrev pub ReadAt : (ℕ → Bool) → Stmt → Type 0
  ReadAt read x = read (site_at x) ≡ not (is_nil (lean p plan m s x))

  -- .. and the first one of a block where the block is
  abbrev pub ReadBlock : (ℕ → Bool) → Stmt → List Stmt → Type 0
  ReadBlock read x b = read (site_at x) ≡ is_kept_block p plan s (x ∷ b)

  -- statements one by one, each whole block standing together
  pub data Left (read : ℕ → Bool) : List Stmt → Type 0 where
    ends : Left read []
    leaf : {x : Stmt} {rest : List Stmt} → Plain m x → IsLeaf (out-Stmt x) → ReadAt read x → Left read rest → Left read (x ∷ rest)
    choice : {x : Stmt} {rest a b : List Stmt} {site : SiteId} {cond : Expr} → Plain m x → out-Stmt x ≡ If site cond a b → ReadAt read x →
        Left read a → Left read b → Left read rest → Left read (x ∷ rest)
    loop : {x : Stmt} {rest a : List Stmt} {site : SiteId} {cond : Expr} → Plain m x → out-Stmt x ≡ While site cond a → ReadAt read x →
        Left read a → Left read rest → Left read (x ∷ rest)
    block : {x : Stmt} {b rest behind : List Stmt} → m.block_at (site_at x) ≡ x ∷ b → behind ≡ b ++ rest → ReadBlock read x b →
        Left read rest → Left read (x ∷ behind)

  plain_as : (x y : Stmt) → site_at y ≡ site_at x → Plain m x → Plain m y
  plain_as x y same plain = (ap m.block_at same ∙ plain.0, ap (Rattle.dp_net.specs.NetItems.begins m) same ∙ plain.1)

  when_text : (b : Bool) (y : Stmt) (ys : List Stmt) → Text m (y ∷ ys) → Text m ys → Text m (kept_when b y ++ ys)
  when_text true y ys t u = t
  when_text false y ys t u = u

  as_text : (x : Stmt) (h : Stmt-F Stmt) → out-Stmt x ≡ h → Plain m x → (ys : List Stmt) → Text m (lean_at p plan m s h ++ ys) →
      (rest : List Stmt) → leaned p plan m s rest ≡ ys → Text m (leaned p plan m s (x ∷ rest))
  as_text x h is plain ys t rest same =
      subst (Text m) (sym (lean_alone p plan m s x rest plain.0 ∙ ap (λ zs. zs ++ leaned p plan m s rest) (lean_out p plan m s x ∙ ap (lean_at p plan m s) is)
      ∙ ap (λ zs. lean_at p plan m s h ++ zs) same)) t

  module _ (x : Stmt) (rest : List Stmt) (plain : Plain m x) (up : Text m (leaned p plan m s rest)) where
    one_text : (h : Stmt-F Stmt) (y : Stmt) → out-Stmt x ≡ h → out-Stmt y ≡ h → IsLeaf h → Text m (y ∷ leaned p plan m s rest)
    one_text h y is same l = texts.leaf (plain_as x y (ap (λ (g : Stmt-F Stmt). (site_of g).0) (same ∙ sym is)) plain) (subst IsLeaf (sym same) l) up

    leaf_text : (h : Stmt-F Stmt) → out-Stmt x ≡ h → IsLeaf h → Text m (leaned p plan m s (x ∷ rest))
    leaf_text (Assign site v e) is l = as_text x _ is plain _ (when_text _ _ _ (one_text _ (tree.Assign site v e) is (outs-Assign site v e) tt) up) rest refl
    leaf_text (Store site v i e) is l = as_text x _ is plain _ (when_text _ _ _ (one_text _ (tree.Store site v i e) is (outs-Store site v i e) tt) up) rest refl
    leaf_text (Print site e) is l = as_text x _ is plain _ (when_text _ _ _ (one_text _ (tree.Print site e) is (outs-Print site e) tt) up) rest refl
    leaf_text (Break site cond) is l = as_text x _ is plain _ (one_text _ (tree.Break site cond) is (outs-Break site cond) tt) rest refl
    leaf_text _ is l = absurd l

  kept_text : (x : Stmt) (b ys : List Stmt) → m.block_at (site_at x) ≡ x ∷ b → Text m ys → (k : Bool) → Text m (if_kept p plan m s k (x ∷ b) ++ ys)
  kept_text x b ys at t true = texts.block at refl t
  kept_text x b ys at t false = t

  module _ {read : ℕ → Bool} where
    pub left_join : {a b : List Stmt} → Left read a → Left read b → Left read (a ++ b)
    left_join ends t = t
    left_join (leaf plain is u s) t = leaf plain is u (left_join s t)
    left_join (choice plain is u c d s) t = choice plain is u c d (left_join s t)
    left_join (loop plain is u c s) t = loop plain is u c (left_join s t)
    left_join {b = c} (block {x = x} {b = b} {rest = rest} at is u s) t =
        block at (ap (λ (ys : List Stmt). ys ++ c) is ∙ append_assoc b rest c) u (left_join s t)

    -- What is left of statements, one list behind the other.
    pub lean_join : {a : List Stmt} → Left read a → (b : List Stmt) → leaned p plan m s (a ++ b) ≡ leaned p plan m s a ++ leaned p plan m s b
    lean_join ends b = refl
    lean_join (leaf {x = x} {rest = rest} plain is u t) b = one x rest plain.0 b (lean_join t b)
      where
        one : (x : Stmt) (rest : List Stmt) → m.block_at (site_at x) ≡ [] → (b : List Stmt) →
            leaned p plan m s (rest ++ b) ≡ leaned p plan m s rest ++ leaned p plan m s b →
            leaned p plan m s (x ∷ (rest ++ b)) ≡ leaned p plan m s (x ∷ rest) ++ leaned p plan m s b
        one x rest none b same =
            lean_alone p plan m s x (rest ++ b) none ∙ ap (λ ys. lean p plan m s x ++ ys) same
            ∙ sym (append_assoc (lean p plan m s x) (leaned p plan m s rest) (leaned p plan m s b))
            ∙ ap (λ ys. ys ++ leaned p plan m s b) (sym (lean_alone p plan m s x rest none))
    lean_join (choice {x = x} {rest = rest} plain is u c d t) b =
        lean_alone p plan m s x (rest ++ b) plain.0 ∙ ap (λ ys. lean p plan m s x ++ ys) (lean_join t b)
        ∙ sym (append_assoc (lean p plan m s x) (leaned p plan m s rest) (leaned p plan m s b))
        ∙ ap (λ ys. ys ++ leaned p plan m s b) (sym (lean_alone p plan m s x rest plain.0))
    lean_join (loop {x = x} {rest = rest} plain is u c t) b =
        lean_alone p plan m s x (rest ++ b) plain.0 ∙ ap (λ ys. lean p plan m s x ++ ys) (lean_join t b)
        ∙ sym (append_assoc (lean p plan m s x) (leaned p plan m s rest) (leaned p plan m s b))
        ∙ ap (λ ys. ys ++ leaned p plan m s b) (sym (lean_alone p plan m s x rest plain.0))
    lean_join (block {x = x} {b = c} {rest = rest} at is u t) b =
        ap (λ (ys : List Stmt). leaned p plan m s (x ∷ (ys ++ b))) is ∙ ap (λ (ys : List Stmt). leaned p plan m s (x ∷ ys)) (append_assoc c rest b)
        ∙ lean_block p plan m s x c (rest ++ b) at ∙ ap (λ ys. if_kept p plan m s k (x ∷ c) ++ ys) (lean_join t b)
        ∙ sym (append_assoc (if_kept p plan m s k (x ∷ c)) (leaned p plan m s rest) (leaned p plan m s b))
        ∙ ap (λ ys. ys ++ leaned p plan m s b) (sym (lean_block p plan m s x c rest at))
        ∙ ap (λ (ys : List Stmt). leaned p plan m s (x ∷ ys) ++ leaned p plan m s b) (sym is)
      where
        k : Bool
        k = is_kept_block p plan s (x ∷ c)

    pub left_text : {xs : List Stmt} → Left read xs → Text m xs
    left_text ends = texts.ends
    left_text (leaf plain is u t) = texts.leaf plain is (left_text t)
    left_text (choice plain is u c d t) = texts.choice plain is (left_text c) (left_text d) (left_text t)
    left_text (loop plain is u c t) = texts.loop plain is (left_text c) (left_text t)
    left_text (block at is u t) = texts.block at is (left_text t)

    -- What is left has its blocks whole.
    pub lean_texts : {xs : List Stmt} → Left read xs → Text m (leaned p plan m s xs)
    lean_texts ends = texts.ends
    lean_texts (leaf {x = x} {rest = rest} plain is u t) = leaf_text x rest plain (lean_texts t) (out-Stmt x) refl is
    lean_texts (choice {x = x} {rest = rest} {a = a} {b = b} {site = site} {cond = cond} plain is u c d t) =
        as_text x _ is plain _
        (when_text _ _ _ (texts.choice (plain_as x y (ap (λ (g : Stmt-F Stmt). (site_of g).0) same ∙ sym (ap (λ (g : Stmt-F Stmt). (site_of g).0) is)) plain)
        same (lean_texts c) (lean_texts d) (lean_texts t)) (lean_texts t)) rest refl
      where
        y : Stmt
        y = tree.If site cond (leaned p plan m s a) (leaned p plan m s b)

        same : out-Stmt y ≡ If site cond (leaned p plan m s a) (leaned p plan m s b)
        same = outs-If site cond (leaned p plan m s a) (leaned p plan m s b)
    lean_texts (loop {x = x} {rest = rest} {a = a} {site = site} {cond = cond} plain is u c t) =
        as_text x _ is plain _
        (when_text _ _ _ (texts.loop (plain_as x y (ap (λ (g : Stmt-F Stmt). (site_of g).0) same ∙ sym (ap (λ (g : Stmt-F Stmt). (site_of g).0) is)) plain) same
        (lean_texts c) (lean_texts t)) (lean_texts t)) rest refl
      where
        y : Stmt
        y = tree.While site cond (leaned p plan m s a)

        same : out-Stmt y ≡ While site cond (leaned p plan m s a)
        same = outs-While site cond (leaned p plan m s a)
    lean_texts (block {x = x} {b = b} {rest = rest} at is u t) =
        subst (Text m) (sym (ap (λ (ys : List Stmt). leaned p plan m s (x ∷ ys)) is ∙ lean_block p plan m s x b rest at))
        (kept_text x b (leaned p plan m s rest) at (lean_texts t) (is_kept_block p plan s (x ∷ b)))
