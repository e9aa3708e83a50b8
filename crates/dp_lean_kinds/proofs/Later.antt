-- Behind the judge's number nothing changes: the lean text stays the judge's.
use Rattle.dp_semantics.proofs.Names.{◌≡◌, refl, sym, ap, ◌∙◌, subst, arith, lt-ltb, ne_eqb, and_parts, not, ℕ, suc, ◌<◌, ◌≤◌, ◌==◌, ◌&&◌, ◌||◌, if◌then◌else◌}
use Rattle.dp_semantics.proofs.Names.{Bool, true, List, [], ◌∷◌, ◌++◌, ℤ, Option, Some, None, length, list_any, flat_map, flat_map-append, SiteId, Expr, Stmt}
use Rattle.dp_semantics.proofs.Names.{out-Stmt, Stmt-F, Assign, Store, Print, If, While, Region, Break, Call, Program, Plan, Access, accesses, site_of}
use Rattle.dp_semantics.proofs.Names.{stage_of, first_site, is_body_local, is_replicated, last, region_accesses}
use Rattle.dp_tree.specs.declared.Stmt.TheVariants as tree
use Rattle.dp_plan.specs.Checked.{is_checked}
use Rattle.dp_semantics.proofs.Each.{Each, each_split}
use Rattle.dp_semantics.proofs.Heads.{accesses_all, accesses_at, accesses_out}
use Rattle.dp_net.specs.NetItems.{Marks}
use Rattle.dp_net.specs.Quiet.{is_quiet}
use Rattle.dp_net.proofs.Silent.{all_quiet, quiet_head, quiet_out}
use Rattle.dp_net.proofs.Groups.{Marked}
use Rattle.dp_net.proofs.Texts as texts
use Rattle.dp_net.proofs.Texts.{site_at, IsLeaf, Text}
use Rattle.dp_lean.specs.Needed.{is_judge, compares, wanted, is_loaded_in, is_done_to, does_store, store_inside, is_kept_site, is_kept_block}
use Rattle.dp_lean.specs.LeanText.{kept_when, has_some, lean}
use Rattle.dp_lean.proofs.LeanLists.{leaned, lean_at, lean_out, lean_alone, lean_block, if_kept}

module _ (p : Program) (plan : Plan) (m : Marks) (s : ℕ) (high : last plan ≤ s) where
  abbrev j : ℕ
  j = last plan

  -- the sites are of the plan's stages
  abbrev pub Low : List Access → Type 0
  Low all = Each (λ a. stage_of p plan a.site < last plan) all

  judging : (v : ℕ) → last plan ≤ v → is_judge p plan v ≡ true
  judging v from = lt-ltb (length plan.stages) v (omega (arith, from))

  judge_same : is_judge p plan s ≡ is_judge p plan j
  judge_same = judging s high ∙ sym (judging j (omega arith))

  wanted_all : (v x : ℕ) → is_judge p plan v ≡ true → wanted p plan v x ≡ list_any (compares p plan x) (region_accesses p plan)
  wanted_all v x e = ap (λ c. if c then list_any (compares p plan x) (region_accesses p plan)
      else is_loaded_in p plan v x || (is_replicated plan (suc v) && is_loaded_in p plan (suc v) x)) e

  done_same : (x : ℕ) → is_done_to p plan s x ≡ is_done_to p plan j x
  done_same x = ap (λ c. c || (is_judge p plan s && not (is_body_local p plan x))) (wanted_all s x (judging s high)
      ∙ sym (wanted_all j x (judging j (omega arith))))
      ∙ ap (λ c. wanted p plan j x || (c && not (is_body_local p plan x))) judge_same

  own_same : (f : ℕ) → stage_of p plan f < last plan → (stage_of p plan f == s) ≡ (stage_of p plan f == j)
  own_same f low = ne_eqb (stage_of p plan f) s (λ e. omega (arith, e, low, high)) ∙ sym (ne_eqb (stage_of p plan f) j (λ e. omega (arith, e, low)))

  kept_same : (f : ℕ) → stage_of p plan f < last plan → is_kept_site p plan s f ≡ is_kept_site p plan j f
  kept_same f low = ap (λ c. c || ((f == first_site p plan) || (is_judge p plan s && is_checked p plan f))) (own_same f low)
      ∙ ap (λ c. (stage_of p plan f == j) || ((f == first_site p plan) || (c && is_checked p plan f))) judge_same

  store_same : (all : List Access) → list_any (λ (a : Access). does_store p plan s a.stores) all ≡ list_any (λ (a : Access). does_store p plan j a.stores) all
  store_same [] = refl
  store_same (a ∷ all) =
      ap (λ c. c || list_any (λ (a : Access). does_store p plan s a.stores) all) (by a.stores) ∙ ap (λ c. does_store p plan j a.stores || c) (store_same all)
    where
      by : (o : Option ℕ) → does_store p plan s o ≡ does_store p plan j o
      by None = refl
      by (Some x) = done_same x

  -- ---- a statement by its head

  pub choice_same : (site : SiteId) (cond : Expr) (a b : List Stmt) → stage_of p plan site.0 < last plan → leaned p plan m s a ≡ leaned p plan m j a →
      leaned p plan m s b ≡ leaned p plan m j b →
      lean_at p plan m s (If site cond a b) ≡ lean_at p plan m j (If site cond a b)
  choice_same site cond a b low e f = λ i. kept_when (kept_same site.0 low i || has_some p plan m s (e i) (f i)) (tree.If site cond (e i) (f i))

  loop_same : (site : SiteId) (cond : Expr) (a : List Stmt) → stage_of p plan site.0 < last plan → leaned p plan m s a ≡ leaned p plan m j a →
      lean_at p plan m s (While site cond a) ≡ lean_at p plan m j (While site cond a)
  loop_same site cond a low e = λ i. kept_when (kept_same site.0 low i || has_some p plan m s (e i) []) (tree.While site cond (e i))

  leaf_same : (h : Stmt-F Stmt) → IsLeaf h → Low (accesses_at h) → lean_at p plan m s h ≡ lean_at p plan m j h
  leaf_same (Assign site x e) l low = λ i. kept_when (kept_same site.0 low.0 i || done_same x.0 i) (tree.Assign site x e)
  leaf_same (Store site x k e) l low = λ i. kept_when (kept_same site.0 low.0 i || done_same x.0 i) (tree.Store site x k e)
  leaf_same (Print site e) l low = λ i. kept_when (kept_same site.0 low.0 i || judge_same i) (tree.Print site e)
  leaf_same (Break site cond) l low = refl
  leaf_same _ l low = absurd l

  by_head : (x : Stmt) (h : Stmt-F Stmt) → out-Stmt x ≡ h → lean_at p plan m s h ≡ lean_at p plan m j h → lean p plan m s x ≡ lean p plan m j x
  by_head x h is e = lean_out p plan m s x ∙ ap (lean_at p plan m s) is ∙ e ∙ sym (ap (lean_at p plan m j) is) ∙ sym (lean_out p plan m j x)

  low_head : (x : Stmt) (h : Stmt-F Stmt) → out-Stmt x ≡ h → Low (accesses x) → Low (accesses_at h)
  low_head x h is low = subst Low (accesses_out x ∙ ap accesses_at is) low

  -- ---- a block

  module _ (input : List ℤ) (marked : Marked p plan m input) where
    quiet_low : (x : Stmt) (t : ℕ) → is_quiet p plan t x ≡ true → Low (accesses x) → stage_of p plan (site_at x) < last plan
    quiet_low x t q low = by (out-Stmt x) refl (sym (quiet_out p plan t x) ∙ q)
      where
        own : (h : Stmt-F Stmt) → out-Stmt x ≡ h → stage_of p plan (site_of h).0 < last plan → stage_of p plan (site_at x) < last plan
        own h is here = subst (λ (g : Stmt-F Stmt). stage_of p plan (site_of g).0 < last plan) (sym is) here

        by : (h : Stmt-F Stmt) → out-Stmt x ≡ h → quiet_head p plan t h ≡ true → stage_of p plan (site_at x) < last plan
        by (Assign site v e) is k = own _ is (low_head x _ is low).0
        by (Store site v i e) is k = own _ is (low_head x _ is low).0
        by (If site cond a b) is k = own _ is (low_head x _ is low).0
        by (While site cond a) is k = own _ is (low_head x _ is low).0
        by (Print site e) is k = absurd (cc k)
        by (Break site cond) is k = absurd (cc k)
        by (Region r site cond a) is k = absurd (cc k)
        by (Call f line args) is k = absurd (cc k)

    block_same : (x : Stmt) (b : List Stmt) → m.block_at (site_at x) ≡ x ∷ b → Low (accesses x) →
        is_kept_block p plan s (x ∷ b) ≡ is_kept_block p plan j (x ∷ b)
    block_same x b is low =
        let t = stage_of p plan (site_at x) in
        let q = (and_parts (is_quiet p plan t x) (all_quiet p plan t b) (marked.quiet (site_at x) x b is)).0 in
        ap (λ c. c || store_inside p plan s (x ∷ b)) (own_same (site_at x) (quiet_low x t q low))
        ∙ ap (λ c. (stage_of p plan (site_at x) == j) || c) (store_same (flat_map accesses (x ∷ b)))

    -- ---- a text with its blocks

    stands_alone : (x : Stmt) (rest : List Stmt) → m.block_at (site_at x) ≡ [] → lean p plan m s x ≡ lean p plan m j x →
        leaned p plan m s rest ≡ leaned p plan m j rest →
        leaned p plan m s (x ∷ rest) ≡ leaned p plan m j (x ∷ rest)
    stands_alone x rest none e f = lean_alone p plan m s x rest none ∙ (λ i. e i ++ f i) ∙ sym (lean_alone p plan m j x rest none)

    pub text_same : {xs : List Stmt} → Text m xs → Low (accesses_all xs) → leaned p plan m s xs ≡ leaned p plan m j xs
    text_same texts.ends low = refl
    text_same (texts.leaf {x = x} {rest = rest} plain l t) low =
        let both = each_split (λ a. stage_of p plan a.site < last plan) (accesses x) (accesses_all rest) low in
        stands_alone x rest plain.0 (by_head x (out-Stmt x) refl (leaf_same (out-Stmt x) l (low_head x _ refl both.0))) (text_same t both.1)
    text_same (texts.choice {x = x} {rest = rest} {a = a} {b = b} {site = site} {cond = cond} plain is u v t) low =
        let both = each_split (λ a. stage_of p plan a.site < last plan) (accesses x) (accesses_all rest) low in
        let here = low_head x (If site cond a b) is both.0 in
        let parts = each_split (λ a. stage_of p plan a.site < last plan) (accesses_all a) (accesses_all b) here.1 in
        stands_alone x rest plain.0 (by_head x (If site cond a b) is (choice_same site cond a b here.0 (text_same u parts.0) (text_same v parts.1)))
        (text_same t both.1)
    text_same (texts.loop {x = x} {rest = rest} {a = a} {site = site} {cond = cond} plain is u t) low =
        let both = each_split (λ a. stage_of p plan a.site < last plan) (accesses x) (accesses_all rest) low in
        let here = low_head x (While site cond a) is both.0 in
        stands_alone x rest plain.0 (by_head x (While site cond a) is (loop_same site cond a here.0 (text_same u here.1))) (text_same t both.1)
    text_same (texts.block {x = x} {b = b} {rest = rest} {behind = behind} at is t) low =
        let both = each_split (λ a. stage_of p plan a.site < last plan) (accesses x) (accesses_all behind) low in
        let more : accesses_all behind ≡ accesses_all b ++ accesses_all rest = ap accesses_all is ∙ flat_map-append accesses b rest in
        let left = each_split (λ a. stage_of p plan a.site < last plan) (accesses_all b) (accesses_all rest) (subst Low more both.1) in
        ap (λ (ys : List Stmt). leaned p plan m s (x ∷ ys)) is ∙ lean_block p plan m s x b rest at
        ∙ ap (λ (c : Bool). if_kept p plan m s c (x ∷ b) ++ leaned p plan m s rest) (block_same x b at both.0)
        ∙ ap (λ ys. if_kept p plan m s (is_kept_block p plan j (x ∷ b)) (x ∷ b) ++ ys) (text_same t left.1)
        ∙ sym (lean_block p plan m j x b rest at) ∙ sym (ap (λ (ys : List Stmt). leaned p plan m j (x ∷ ys)) is)
