-- What the walk appends, a choice, a block or a statement at a time, are the sites that it reads.
use Rattle.std.proofs.Common.{add-one, drop-cons}
use Rattle.dp_semantics.proofs.Names.{◌≡◌, refl, sym, ap, ◌∙◌, append_assoc, append-nil, length-append, arith, lt-ltb, le-ltb, ℕ, zero, suc, ◌+◌, ◌<◌, ◌||◌}
use Rattle.dp_semantics.proofs.Names.{if◌then◌else◌, Bool, true, false, List, [], ◌∷◌, ◌++◌, length, nat_lt, drop, take, map, flat_map, ◌-◌, get_or, filter}
use Rattle.dp_semantics.proofs.Names.{Some, None, SiteId, Expr, Stmt, out-Stmt, Program, Plan, accesses, is_region_at, site_of, assumed_in}
use Rattle.dp_room.proofs.ListLemmas.{next_of}
use Rattle.dp_tree.specs.Numbering.{numbers_from}
use Rattle.dp_plan.specs.Walks.{is_region_of}
use Rattle.dp_plan.specs.Written.{access_site}
unfoldable use Rattle.dp_sites.specs.Lists.{site_lists}
use Rattle.dp_tree.specs.declared.Stmt.TheVariants as tree
use Rattle.dp_lean_code.specs.steps.Walked.{Known, reaches, keeps}
use Rattle.dp_lean_kinds.specs.steps.Read.{has_any, site_when, choice_read, keeps_block, block_read, head_read}
unfoldable use Rattle.dp_lean_kinds.specs.steps.Read.{read, list_read}
use Rattle.dp_lean_kinds.proofs.ReadForms.{all_read, read-If, read-While}

longer : (old inner : List ℕ) → nat_lt (length old) (length (old ++ inner)) ≡ has_any inner
longer old [] = let e = length-append old [] in le-ltb (length old) (length (old ++ [])) (omega (arith, e))
longer old (n ∷ inner) = let e = length-append old (n ∷ inner) in lt-ltb (length old) (length (old ++ n ∷ inner)) (omega (arith, e))

module _ (p : Program) (plan : Plan) (s : ℕ) (k : Known) where
  -- a choice or a loop behind what is inside it
  pub closed : (site : SiteId) (old inner two : List ℕ) (start : ℕ) → start ≡ length old → two ≡ old ++ inner →
      two ++ site_when (keeps p plan s k site || nat_lt start (length two)) site ≡ old ++ choice_read p plan s k site inner
  closed site old inner two start at is =
      ap (λ n. two ++ site_when (keeps p plan s k site || nat_lt n (length two)) site) at
      ∙ ap (λ xs. xs ++ site_when (keeps p plan s k site || nat_lt (length old) (length xs)) site) is
      ∙ ap (λ c. (old ++ inner) ++ site_when (keeps p plan s k site || c) site) (longer old inner)
      ∙ append_assoc old inner (site_when (keeps p plan s k site || has_any inner) site)

  -- a block
  pub block_put : (site : SiteId) (block : List Stmt) (old new : List ℕ) → keeps_block p plan s k site block ≡ true → new ≡ old ++ site_lists block →
      new ≡ old ++ block_read p plan s k site block
  unfolding site_lists
  block_put site block old new kept put = put ∙ ap (λ c. old ++ (if c then map access_site (flat_map accesses block) else [])) (sym kept)

  -- an `if` by whether the stage reaches it, and by what is assumed; and a loop
  module _ (site : SiteId) (cond : Expr) (a b : List Stmt) where
    pub if_reached : reaches p plan s k site ≡ true → read p plan s k (tree.If site cond a b) ≡ choice_read p plan s k site
        (all_read p plan s k a ++ all_read p plan s k b)
    if_reached h = read-If p plan s k site cond a b ∙ rw h refl

    pub if_taken : reaches p plan s k site ≡ false → assumed_in plan.assume site.0 ≡ Some true → read p plan s k (tree.If site cond a b) ≡ all_read p plan s k a
    if_taken h e = read-If p plan s k site cond a b ∙ rw h (rw e refl)

    pub if_passed : reaches p plan s k site ≡ false → assumed_in plan.assume site.0 ≡ Some false →
        read p plan s k (tree.If site cond a b) ≡ all_read p plan s k b
    if_passed h e = read-If p plan s k site cond a b ∙ rw h (rw e refl)

    pub if_dropped : reaches p plan s k site ≡ false → assumed_in plan.assume site.0 ≡ None → read p plan s k (tree.If site cond a b) ≡ []
    if_dropped h e = read-If p plan s k site cond a b ∙ rw h (rw e refl)

    pub loop_reached : reaches p plan s k site ≡ true → read p plan s k (tree.While site cond a) ≡ choice_read p plan s k site (all_read p plan s k a)
    loop_reached h = read-While p plan s k site cond a ∙ rw h refl

    pub loop_dropped : reaches p plan s k site ≡ false → read p plan s k (tree.While site cond a) ≡ []
    loop_dropped h = read-While p plan s k site cond a ∙ rw h refl

  -- nothing is appended
  pub nothing_more : (old : List ℕ) (x y : Stmt) → x ≡ y → read p plan s k y ≡ [] → old ≡ old ++ read p plan s k x
  nothing_more old x y e none = sym (append-nil old) ∙ ap (λ xs. old ++ xs) (sym none) ∙ ap (λ z. old ++ read p plan s k z) (sym e)

  -- ---- lists, item by item

  module _ (all : List Stmt) (i : ℕ) (x : Stmt) (h : i < length all) (is : x ≡ get_or all i x) (out whole : List ℕ) where
    cons : drop i all ≡ x ∷ drop (i + 1) all
    cons = rw add-one (drop-cons all i x h ∙ ap (λ (y : Stmt). y ∷ drop (suc i) all) (sym is))

    -- one of a block whose sites are there already
    pub one_passed : (left less : ℕ) → left ≡ suc less → out ++ list_read p plan s k left (drop i all) ≡ whole →
        out ++ list_read p plan s k less (drop (i + 1) all) ≡ whole
    unfolding list_read
    one_passed left less e kept =
        ap (λ xs. out ++ list_read p plan s k (suc less) xs) (sym cons) ∙ ap (λ n. out ++ list_read p plan s k n (drop i all)) (sym e) ∙ kept

    headed : (new here : List ℕ) (n : ℕ) → new ≡ out ++ here → out ++ (here ++ list_read p plan s k n (drop (i + 1) all)) ≡ whole →
        new ++ list_read p plan s k n (drop (i + 1) all) ≡ whole
    headed new here n new_is kept =
        ap (λ ys. ys ++ list_read p plan s k n (drop (i + 1) all)) new_is ∙ append_assoc out here (list_read p plan s k n (drop (i + 1) all)) ∙ kept

    module _ (kept : out ++ list_read p plan s k zero (drop i all) ≡ whole) where
      at_head : (n : ℕ) → k.count (site_of (out-Stmt x)).0 ≡ n →
          out ++ head_read p plan s k n x (drop (i + 1) all) (read p plan s k x) (λ n. list_read p plan s k n (drop (i + 1) all)) ≡ whole
      unfolding list_read
      at_head n e =
          ap (λ c. out ++ head_read p plan s k c x (drop (i + 1) all) (read p plan s k x) (λ n. list_read p plan s k n (drop (i + 1) all))) (sym e)
          ∙ ap (λ xs. out ++ list_read p plan s k zero xs) (sym cons) ∙ kept

      -- a statement outside of blocks
      pub one_more : (new : List ℕ) → k.count (site_of (out-Stmt x)).0 ≡ 0 → new ≡ out ++ read p plan s k x →
          new ++ list_read p plan s k zero (drop (i + 1) all) ≡ whole
      one_more new none new_is = headed new (read p plan s k x) zero new_is (at_head zero none)

      -- a block
      pub block_more : (new : List ℕ) (count less : ℕ) → k.count (site_of (out-Stmt x)).0 ≡ count → count ≡ suc less →
          new ≡ out ++ block_read p plan s k (site_of (out-Stmt x)) (take count (drop i all)) → new ++ list_read p plan s k less (drop (i + 1) all) ≡ whole
      block_more new count less is_count e new_is =
          headed new (block_read p plan s k (site_of (out-Stmt x)) (x ∷ take less (drop (i + 1) all))) less
          (new_is ∙ ap (λ n. out ++ block_read p plan s k (site_of (out-Stmt x)) (take n (drop i all))) e
          ∙ ap (λ xs. out ++ block_read p plan s k (site_of (out-Stmt x)) (take (suc less) xs)) cons)
          (at_head (suc less) (is_count ∙ e))

  pub all_done : (left : ℕ) (xs : List Stmt) (out whole : List ℕ) → out ++ list_read p plan s k left xs ≡ whole → xs ≡ [] → out ≡ whole
  unfolding list_read
  all_done left xs out whole kept none =
      sym (append-nil out) ∙ ap (λ ys. out ++ ys) (sym (nothing left)) ∙ ap (λ ys. out ++ list_read p plan s k left ys) (sym none) ∙ kept
    where
      nothing : (left : ℕ) → list_read p plan s k left [] ≡ []
      nothing zero = refl
      nothing (suc n) = refl

  -- ---- the plan's region among the program's statements

  abbrev pub in_region : List Stmt → List ℕ
  in_region xs = flat_map (read p plan s k) (filter (is_region_at plan.region) xs)

  region_case : (x : Stmt) (xs : List Stmt) (b : Bool) → is_region_at plan.region x ≡ b →
      in_region (x ∷ xs) ≡ (if b then read p plan s k x ++ in_region xs else in_region xs)
  region_case x xs true e = rw e refl
  region_case x xs false e = rw e refl

  module _ (xs : List Stmt) (i : ℕ) (x : Stmt) (out whole : List ℕ) (kept : out ++ in_region (drop i xs) ≡ whole) (h : i < length xs)
      (is : x ≡ get_or xs i x) where
    pub region_more : (new : List ℕ) → is_region_of plan.region x ≡ true → new ≡ out ++ read p plan s k x → new ++ in_region (drop (i + 1) xs) ≡ whole
    unfolding is_region_of
    region_more new e new_is =
        ap (λ ys. ys ++ in_region (drop (i + 1) xs)) new_is ∙ append_assoc out (read p plan s k x) (in_region (drop (i + 1) xs))
        ∙ ap (λ ys. out ++ ys) (sym (ap in_region (next_of xs i x h is) ∙ region_case x (drop (i + 1) xs) true e)) ∙ kept

    pub region_skip : is_region_of plan.region x ≡ false → out ++ in_region (drop (i + 1) xs) ≡ whole
    unfolding is_region_of
    region_skip e = ap (λ ys. out ++ ys) (sym (ap in_region (next_of xs i x h is) ∙ region_case x (drop (i + 1) xs) false e)) ∙ kept

-- the sites that one stage more reads
pub stage_next : (f : ℕ → List ℕ) (out new whole : List ℕ) (place n : ℕ) → place < n → new ≡ out ++ f (place + 1) →
    out ++ flat_map f (numbers_from (place + 1) (n - place)) ≡ whole → new ++ flat_map f (numbers_from (place + 1 + 1) (n - (place + 1))) ≡ whole
stage_next f out new whole place n low new_is kept =
    let left : n - place ≡ suc (n - (place + 1)) = omega (arith, low) in
    let more = flat_map f (numbers_from (place + 1 + 1) (n - (place + 1))) in
    ap (λ xs. xs ++ more) new_is ∙ append_assoc out (f (place + 1)) more
    ∙ ap (λ j. out ++ flat_map f (numbers_from (place + 1) j)) (sym left) ∙ kept

pub stages_over : (f : ℕ → List ℕ) (out whole : List ℕ) (place n : ℕ) → n - place ≡ 0 →
    out ++ flat_map f (numbers_from (place + 1) (n - place)) ≡ whole → out ≡ whole
stages_over f out whole place n over kept = sym (append-nil out) ∙ ap (λ j. out ++ flat_map f (numbers_from (place + 1) j)) (sym over) ∙ kept
