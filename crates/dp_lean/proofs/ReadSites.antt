-- Where each site stands once, the sites that are read are those whose statements are left.
use Rattle.dp_semantics.proofs.Names.{◌≡◌, inl, inr, refl, sym, ap, ◌∙◌, subst, append-nil, ℕ, ◌==◌, Bool, true, false, not, ◌||◌, if◌then◌else◌, List, [], ◌∷◌}
use Rattle.dp_semantics.proofs.Names.{◌++◌, eq-eqb, or-false, or-true, or_parts, and_parts, cases_Bool, flat_map-append, outs-If, SiteId, Expr, Stmt, out-Stmt}
use Rattle.dp_semantics.proofs.Names.{Stmt-F, Assign, Store, Print, If, While, Region, Break, Call, Program, Plan, Access, accesses, site_of, stage_of}
use Rattle.dp_tree.specs.declared.Stmt.TheVariants as tree
use Rattle.dp_tree.specs.declared.Stmt.TheVariants.{outs-While}
use Rattle.dp_plan.specs.Checked.{has_site}
use Rattle.dp_semantics.proofs.Heads.{accesses_all, accesses_at, accesses_out, head_access, inside}
use Rattle.dp_net.specs.NetItems.{Marks, is_nil}
use Rattle.dp_net.specs.Quiet.{is_quiet}
use Rattle.dp_net.proofs.Groups.{Marked}
use Rattle.dp_net.proofs.Silent.{all_quiet, quiet_head, quiet_out}
use Rattle.dp_net.proofs.Texts as texts
use Rattle.dp_net.proofs.Texts.{site_at, IsLeaf, Plain, Text}
use Rattle.dp_lean.specs.Needed.{is_kept_site, is_kept_block}
use Rattle.dp_lean.specs.LeanText.{kept_when, has_some, lean}
use Rattle.dp_lean.proofs.LeanLists.{leaned, lean_at, lean_out, lean_alone, lean_block, if_kept}
use Rattle.dp_lean.proofs.LeftTexts.{Left, ends, leaf, choice, loop, block}
use Rattle.dp_lean.proofs.LeanHeads.{leaf_test, leaf_is}
use Rattle.dp_lean.proofs.Either.{true_or, true_left, false_or, or_none, clash, not_true}
use Rattle.dp_lean.proofs.Once.{Part, Once, once_split, has_join, absent_part, lean_part_all}

module _ (p : Program) (plan : Plan) (m : Marks) (input : List Rattle.dp_semantics.proofs.Names.ℤ) (marked : Marked p plan m input) (s : ℕ) where
  abbrev sites : List Stmt → List Access
  sites xs = accesses_all xs

  left_part : (xs : List Stmt) → Part (sites (leaned p plan m s xs)) (sites xs)
  left_part xs = lean_part_all p plan s m Rattle.dp_semantics.proofs.Names.zero false xs

  one_more : (y : ℕ) (x : Stmt) (xs : List Stmt) → has_site y (sites (x ∷ xs)) ≡ (has_site y (accesses x) || has_site y (sites xs))
  one_more y x xs = has_join y (accesses x) (sites xs)

  -- a statement that isn't a call has its site
  at_head : (h : Stmt-F Stmt) → accesses_at h ≡ head_access h ∷ inside h → has_site (site_of h).0 (accesses_at h) ≡ true
  at_head h is = ap (has_site (site_of h).0) is ∙ ap (λ (b : Bool). b || has_site (site_of h).0 (inside h)) (eq-eqb (site_of h).0 (site_of h).0 refl)

  has_own : (x : Stmt) (h : Stmt-F Stmt) → out-Stmt x ≡ h → accesses_at h ≡ head_access h ∷ inside h → has_site (site_at x) (accesses x) ≡ true
  has_own x h is more =
      ap (λ (g : Stmt-F Stmt). has_site (site_of g).0 (accesses x)) is ∙ ap (has_site (site_of h).0) (accesses_out x ∙ ap accesses_at is) ∙ at_head h more

  -- what is read agrees with what is left of these statements
  abbrev pub Agree : (ℕ → Bool) → List Stmt → Type 0
  Agree read xs = (y : ℕ) → has_site y (sites xs) ≡ true → read y ≡ has_site y (sites (leaned p plan m s xs))

  module _ (read : ℕ → Bool) (x : Stmt) (rest : List Stmt) (none : m.block_at (site_at x) ≡ []) (agree : Agree read (x ∷ rest))
      (once : Once (sites (x ∷ rest))) where
    parts : Once (accesses x) × Once (sites rest) × ((y : ℕ) → has_site y (accesses x) ≡ true → has_site y (sites rest) ≡ false)
    parts = once_split (accesses x) (sites rest) once

    left_is : (y : ℕ) → has_site y (sites (leaned p plan m s (x ∷ rest))) ≡ (has_site y (sites (lean p plan m s x)) || has_site y
        (sites (leaned p plan m s rest)))
    left_is y = ap (λ (xs : List Stmt). has_site y (sites xs)) (lean_alone p plan m s x rest none)
        ∙ ap (has_site y) (flat_map-append accesses (lean p plan m s x) (leaned p plan m s rest))
        ∙ has_join y (sites (lean p plan m s x)) (sites (leaned p plan m s rest))

    -- a site of the head's is read where it is left of the head
    here : (y : ℕ) → has_site y (accesses x) ≡ true → read y ≡ has_site y (sites (lean p plan m s x))
    here y e = agree y (one_more y x rest ∙ true_left (has_site y (accesses x)) (has_site y (sites rest)) e) ∙ left_is y
        ∙ or_none (has_site y (sites (lean p plan m s x))) _ (absent_part y (left_part rest) (parts.2 y e))

    -- .. and behind it what is read agrees with what is left there
    behind : Part (sites (lean p plan m s x)) (accesses x) → Agree read rest
    behind q y e = agree y (one_more y x rest ∙ true_or (has_site y (accesses x)) (has_site y (sites rest)) e) ∙ left_is y
        ∙ false_or (has_site y (sites (lean p plan m s x))) _ (absent_part y q (not_true (has_site y (accesses x)) (λ f. clash e (parts.2 y f))))

  nothing_left : (y : ℕ) (x : Stmt) → lean p plan m s x ≡ [] → has_site y (sites (lean p plan m s x)) ≡ false
  nothing_left y x e = ap (λ (xs : List Stmt). has_site y (sites xs)) e

  -- the site of what is left of a statement
  site_left : (x y : Stmt) (b : Bool) → lean p plan m s x ≡ kept_when b y → has_site (site_at x) (accesses y) ≡ true →
      has_site (site_at x) (sites (lean p plan m s x)) ≡ not (is_nil (lean p plan m s x))
  site_left x y true is has =
      ap (λ (xs : List Stmt). has_site (site_at x) (sites xs)) is ∙ one_more (site_at x) y [] ∙ true_left (has_site (site_at x) (accesses y)) false has
      ∙ ap (λ (xs : List Stmt). not (is_nil xs)) (sym is)
  site_left x y false is has = nothing_left (site_at x) x is ∙ ap (λ (xs : List Stmt). not (is_nil xs)) (sym is)

  leaf_own : (x : Stmt) → IsLeaf (out-Stmt x) → has_site (site_at x) (accesses x) ≡ true
  leaf_own x l = by (out-Stmt x) refl l
    where
      by : (h : Stmt-F Stmt) → out-Stmt x ≡ h → IsLeaf h → has_site (site_at x) (accesses x) ≡ true
      by (Assign site v e) is k = has_own x _ is refl
      by (Store site v i e) is k = has_own x _ is refl
      by (Print site e) is k = has_own x _ is refl
      by (Break site cond) is k = has_own x _ is refl
      by _ is k = absurd k

  quiet_own : (x : Stmt) (t : ℕ) → is_quiet p plan t x ≡ true → has_site (site_at x) (accesses x) ≡ true
  quiet_own x t q = by (out-Stmt x) refl (sym (quiet_out p plan t x) ∙ q)
    where
      by : (h : Stmt-F Stmt) → out-Stmt x ≡ h → quiet_head p plan t h ≡ true → has_site (site_at x) (accesses x) ≡ true
      by (Assign site v e) is k = has_own x _ is refl
      by (Store site v i e) is k = has_own x _ is refl
      by (If site cond a b) is k = has_own x _ is refl
      by (While site cond a) is k = has_own x _ is refl
      by (Print site e) is k = absurd (cc k)
      by (Break site cond) is k = absurd (cc k)
      by (Region r site cond a) is k = absurd (cc k)
      by (Call f line args) is k = absurd (cc k)

  nil_is : (xs : List Stmt) → not (is_nil xs) ≡ false → xs ≡ []
  nil_is [] e = refl
  nil_is (x ∷ xs) e = absurd (cc e)

  part_of : (x : Stmt) → m.block_at (site_at x) ≡ [] → Part (sites (lean p plan m s x)) (accesses x)
  part_of x none = subst (λ (l : List Access). Part (sites (lean p plan m s x)) l) (append-nil (accesses x))
      (subst (λ (l : List Stmt). Part (sites l) (sites (x ∷ []))) (lean_alone p plan m s x [] none ∙ append-nil (lean p plan m s x)) (left_part (x ∷ [])))

  -- the sites of what is left of a choice, other than its own, are those of what is left of its parts
  of_parts : (y : ℕ) (x z : Stmt) (h : Stmt-F Stmt) (b : Bool) (inner : List Access) → lean p plan m s x ≡ kept_when b z → accesses z ≡ head_access h ∷ inner →
      (b ≡ false → has_site y inner ≡ false) → ((site_of h).0 == y) ≡ false → has_site y (sites (lean p plan m s x)) ≡ has_site y inner
  of_parts y x z h true inner is all gone apart = ap (λ (xs : List Stmt). has_site y (sites xs)) is ∙ one_more y z [] ∙ or-false (has_site y (accesses z))
      ∙ ap (has_site y) all
      ∙ false_or ((site_of h).0 == y) (has_site y inner) apart
  of_parts y x z h false inner is all gone apart = nothing_left y x is ∙ sym (gone refl)

  module _ (x : Stmt) (rest : List Stmt) (site : SiteId) (cond : Expr) (plain : Plain m x) (read : ℕ → Bool) (agree : Agree read (x ∷ rest))
      (once : Once (sites (x ∷ rest))) where
    module _ (a b : List Stmt) (is : out-Stmt x ≡ If site cond a b) where
      abbrev z : Stmt
      z = tree.If site cond (leaned p plan m s a) (leaned p plan m s b)

      abbrev test : Bool
      test = is_kept_site p plan s site.0 || has_some p plan m s (leaned p plan m s a) (leaned p plan m s b)

      abbrev inner : List Access
      inner = sites (leaned p plan m s a) ++ sites (leaned p plan m s b)

      all_is : accesses x ≡ head_access (If site cond a b) ∷ (sites a ++ sites b)
      all_is = accesses_out x ∙ ap accesses_at is

      left_all : accesses z ≡ head_access (If site cond a b) ∷ inner
      left_all = accesses_out z ∙ ap accesses_at (outs-If site cond (leaned p plan m s a) (leaned p plan m s b))

      lean_is : lean p plan m s x ≡ kept_when test z
      lean_is = lean_out p plan m s x ∙ ap (lean_at p plan m s) is

      site_is : site_at x ≡ site.0
      site_is = ap (λ (h : Stmt-F Stmt). (site_of h).0) is

      one : Once (head_access (If site cond a b) ∷ (sites a ++ sites b))
      one = subst Once all_is (parts read x rest plain.0 agree once).0

      two : Once (sites a) × Once (sites b) × ((y : ℕ) → has_site y (sites a) ≡ true → has_site y (sites b) ≡ false)
      two = once_split (sites a) (sites b) one.1

      has_head : has_site (site_at x) (accesses z) ≡ true
      has_head = ap (has_site (site_at x)) left_all ∙ ap (λ (c : Bool). c || has_site (site_at x) inner) (eq-eqb site.0 (site_at x) (sym site_is))

      within : (y : ℕ) → has_site y (sites a ++ sites b) ≡ true → read y ≡ has_site y inner
      within y e = here read x rest plain.0 agree once y (ap (has_site y) all_is ∙ true_or (site.0 == y) (has_site y (sites a ++ sites b)) e)
          ∙ of_parts y x z (If site cond a b) test inner lean_is left_all gone (Rattle.dp_semantics.proofs.Names.ne_eqb site.0 y
          (λ same. clash (subst (λ (n : ℕ). has_site n (sites a ++ sites b) ≡ true) (sym same) e) one.0))
        where
          gone : test ≡ false → has_site y inner ≡ false
          gone q =
              let both = or_parts (is_kept_site p plan s site.0) (has_some p plan m s (leaned p plan m s a) (leaned p plan m s b)) q in
              let none = or_parts (not (is_nil (leaned p plan m s a))) (not (is_nil (leaned p plan m s b))) both.1 in
              ap (λ (xs : List Stmt). has_site y (sites xs ++ sites (leaned p plan m s b))) (nil_is _ none.0)
              ∙ ap (λ (xs : List Stmt). has_site y (sites xs)) (nil_is _ none.1)

      choice_sites : (read (site_at x) ≡ not (is_nil (lean p plan m s x))) × Agree read a × (Once (sites a) × Agree read b × Once (sites b))
      choice_sites = (
        here read x rest plain.0 agree once (site_at x) (has_own x _ is refl) ∙ site_left x z test lean_is has_head,
        λ y e. within y (has_join y (sites a) (sites b) ∙ true_left (has_site y (sites a)) (has_site y (sites b)) e)
            ∙ has_join y (sites (leaned p plan m s a)) (sites (leaned p plan m s b))
            ∙ or_none (has_site y (sites (leaned p plan m s a))) _ (absent_part y (left_part b) (two.2 y e)),
        (
          two.0,
          λ y e. within y (has_join y (sites a) (sites b) ∙ true_or (has_site y (sites a)) (has_site y (sites b)) e)
              ∙ has_join y (sites (leaned p plan m s a)) (sites (leaned p plan m s b))
              ∙ false_or (has_site y (sites (leaned p plan m s a))) _
              (absent_part y (left_part a) (not_true (has_site y (sites a)) (λ f. clash e (two.2 y f)))),
          two.1,
        ),
      )

    module _ (a : List Stmt) (is : out-Stmt x ≡ While site cond a) where
      abbrev zw : Stmt
      zw = tree.While site cond (leaned p plan m s a)

      abbrev test_loop : Bool
      test_loop = is_kept_site p plan s site.0 || has_some p plan m s (leaned p plan m s a) []

      loop_all : accesses x ≡ head_access (While site cond a) ∷ sites a
      loop_all = accesses_out x ∙ ap accesses_at is

      loop_left : accesses zw ≡ head_access (While site cond a) ∷ sites (leaned p plan m s a)
      loop_left = accesses_out zw ∙ ap accesses_at (outs-While site cond (leaned p plan m s a))

      loop_lean : lean p plan m s x ≡ kept_when test_loop zw
      loop_lean = lean_out p plan m s x ∙ ap (lean_at p plan m s) is

      loop_one : Once (head_access (While site cond a) ∷ sites a)
      loop_one = subst Once loop_all (parts read x rest plain.0 agree once).0

      loop_head : has_site (site_at x) (accesses zw) ≡ true
      loop_head = ap (has_site (site_at x)) loop_left
          ∙ ap (λ (c : Bool). c || has_site (site_at x) (sites (leaned p plan m s a)))
          (eq-eqb site.0 (site_at x) (sym (ap (λ (h : Stmt-F Stmt). (site_of h).0) is)))

      loop_sites : (read (site_at x) ≡ not (is_nil (lean p plan m s x))) × Agree read a × Once (sites a)
      loop_sites = (
        here read x rest plain.0 agree once (site_at x) (has_own x _ is refl) ∙ site_left x zw test_loop loop_lean loop_head,
        λ y e. here read x rest plain.0 agree once y (ap (has_site y) loop_all ∙ true_or (site.0 == y) (has_site y (sites a)) e)
            ∙ of_parts y x zw (While site cond a) test_loop (sites (leaned p plan m s a)) loop_lean loop_left
            (λ q. ap (λ (xs : List Stmt). has_site y (sites xs))
            (nil_is (leaned p plan m s a) (or_parts (not (is_nil (leaned p plan m s a))) false (or_parts (is_kept_site p plan s site.0) _ q).1).0))
            (Rattle.dp_semantics.proofs.Names.ne_eqb site.0 y (λ same. clash (subst (λ (n : ℕ). has_site n (sites a) ≡ true) (sym same) e) loop_one.0)),
        loop_one.1,
      )

  block_sites : (x : Stmt) (b rest : List Stmt) → m.block_at (site_at x) ≡ x ∷ b → (read : ℕ → Bool) → Agree read (x ∷ (b ++ rest)) →
      Once (sites (x ∷ (b ++ rest))) →
      (read (site_at x) ≡ is_kept_block p plan s (x ∷ b)) × Agree read rest × Once (sites rest)
  block_sites x b rest at read agree once = (
    agree (site_at x) (ap (has_site (site_at x)) join ∙ has_join (site_at x) (sites (x ∷ b)) (sites rest) ∙ true_left (has_site (site_at x) (sites (x ∷ b)))
        (has_site (site_at x) (sites rest)) own)
        ∙ left_is_block (site_at x) ∙ or_none (has_site (site_at x) (sites (if_kept p plan m s k (x ∷ b)))) _
        (absent_part (site_at x) (left_part rest) (two.2 (site_at x) own))
        ∙ kept_own k,
    λ y e. agree y (ap (has_site y) join ∙ has_join y (sites (x ∷ b)) (sites rest) ∙ true_or (has_site y (sites (x ∷ b))) (has_site y (sites rest)) e)
        ∙ left_is_block y ∙ false_or (has_site y (sites (if_kept p plan m s k (x ∷ b)))) _
        (kept_none y (not_true (has_site y (sites (x ∷ b))) (λ f. clash e (two.2 y f))) k),
    two.1,
  )
    where
      k : Bool
      k = is_kept_block p plan s (x ∷ b)

      join : sites (x ∷ (b ++ rest)) ≡ sites (x ∷ b) ++ sites rest
      join = flat_map-append accesses (x ∷ b) rest

      two : Once (sites (x ∷ b)) × Once (sites rest) × ((y : ℕ) → has_site y (sites (x ∷ b)) ≡ true → has_site y (sites rest) ≡ false)
      two = once_split (sites (x ∷ b)) (sites rest) (subst Once (flat_map-append accesses (x ∷ b) rest) once)

      own : has_site (site_at x) (sites (x ∷ b)) ≡ true
      own = one_more (site_at x) x b ∙ true_left (has_site (site_at x) (accesses x)) (has_site (site_at x) (sites b))
          (quiet_own x (stage_of p plan (site_at x)) (and_parts (is_quiet p plan (stage_of p plan (site_at x)) x)
          (all_quiet p plan (stage_of p plan (site_at x)) b) (marked.quiet (site_at x) x b at)).0)

      left_is_block : (y : ℕ) →
          has_site y (sites (leaned p plan m s (x ∷ (b ++ rest)))) ≡ (has_site y (sites (if_kept p plan m s (is_kept_block p plan s (x ∷ b)) (x ∷ b)))
          || has_site y (sites (leaned p plan m s rest)))
      left_is_block y = ap (λ (xs : List Stmt). has_site y (sites xs)) (lean_block p plan m s x b rest at)
          ∙ ap (has_site y) (flat_map-append accesses (if_kept p plan m s (is_kept_block p plan s (x ∷ b)) (x ∷ b)) (leaned p plan m s rest))
          ∙ has_join y (sites (if_kept p plan m s (is_kept_block p plan s (x ∷ b)) (x ∷ b))) (sites (leaned p plan m s rest))

      kept_own : (c : Bool) → has_site (site_at x) (sites (if_kept p plan m s c (x ∷ b))) ≡ c
      kept_own true = own
      kept_own false = refl

      kept_none : (y : ℕ) → has_site y (sites (x ∷ b)) ≡ false → (c : Bool) → has_site y (sites (if_kept p plan m s c (x ∷ b))) ≡ false
      kept_none y e true = e
      kept_none y e false = refl

  -- So it is with a text that has its blocks whole.
  pub left_of : {xs : List Stmt} → Text m xs → (read : ℕ → Bool) → Agree read xs → Once (sites xs) → Left p plan m s read xs
  left_of texts.ends read agree once = ends
  left_of (texts.leaf {x = x} {rest = rest} plain l t) read agree once =
      leaf plain l (here read x rest plain.0 agree once (site_at x) (leaf_own x l) ∙ site_left x x (leaf_test p plan m s read input (out-Stmt x))
      (leaf_is p plan m s read input x (out-Stmt x) refl l) (leaf_own x l))
      (left_of t read (behind read x rest plain.0 agree once (part_of x plain.0)) (parts read x rest plain.0 agree once).1)
  left_of (texts.choice {x = x} {rest = rest} {a = a} {b = b} {site = site} {cond = cond} plain is t u v) read agree once =
      let now = choice_sites x rest site cond plain read agree once a b is in
      choice plain is now.0 (left_of t read now.1 now.2.0) (left_of u read now.2.1 now.2.2)
      (left_of v read (behind read x rest plain.0 agree once (part_of x plain.0)) (parts read x rest plain.0 agree once).1)
  left_of (texts.loop {x = x} {rest = rest} {a = a} {site = site} {cond = cond} plain is t v) read agree once =
      let now = loop_sites x rest site cond plain read agree once a is in
      loop plain is now.0 (left_of t read now.1 now.2) (left_of v read (behind read x rest plain.0 agree once (part_of x plain.0))
      (parts read x rest plain.0 agree once).1)
  left_of (texts.block {x = x} {b = b} {rest = rest} at is t) read agree once =
      let now = block_sites x b rest at read (subst (λ (ys : List Stmt). Agree read (x ∷ ys)) is agree)
      (subst (λ (ys : List Stmt). Once (sites (x ∷ ys))) is once) in
      block at is now.0 (left_of t read now.1 now.2)
