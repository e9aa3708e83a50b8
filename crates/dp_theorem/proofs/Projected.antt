-- A stage's part of the text against the source's: a statement that stays, and one that the stage doesn't have.
use Rattle.dp_semantics.proofs.Names.{Break, Tried, rolls-Break, behind_region, behind_one, region_number, leaves, stays_late, not, ◌||◌, ◌&&◌, ◌≡◌, refl, sym}
use Rattle.dp_semantics.proofs.Names.{ap, ◌∙◌, ℕ, ◌<◌, ◌≤◌, ◌==◌, Bool, true, false, if◌then◌else◌, List, [], ◌∷◌, ◌++◌, ℤ, Option, Some, None, nat_le, arith}
use Rattle.dp_semantics.proofs.Names.{leb-true, le-leb, lt-leb, list_all, is_zero, Stmt, Row_of-Stmt, end_of-Stmt, more_of-Stmt, out-Stmt, roll-Stmt}
use Rattle.dp_semantics.proofs.Names.{rolls-Assign, rolls-Store, rolls-Print, rolls-If, rolls-While, Stmt-F, Assign, Store, Print, If, While, Region, Call}
use Rattle.dp_semantics.proofs.Names.{Program, Assume, Plan, Effect, Decided, choose, followed, site_of, value_of, Access, accesses, accesses_in, stage_of}
use Rattle.dp_semantics.proofs.Names.{went, goes_as, as_assumed, assumed_in, branch_of, where_reached, project, project_in, project_all, none_earlier}
use Rattle.dp_semantics.proofs.Names.{well_nested, well_nested_in, and_parts, flat_map-append, inl, inr, cases_Bool}
use Rattle.dp_tree.specs.declared.Stmt.TheVariants as tree
use Rattle.dp_semantics.proofs.Setting.{Each, each_join, well_out, each_split, each_map, all_of, Form, accesses_all, all_well, well_at, project_at, project_out}
use Rattle.dp_semantics.proofs.Setting.{if_rule}

-- the outcome that the plan assumes is the effect's
abbrev pub AsAssumed : Program → Plan → ℕ → Effect → Type 0
AsAssumed p plan site effect = ((taken : Bool) → assumed_in plan.assume site ≡ Some taken → went taken effect ≡ true) × (stays_late p plan site effect ≡ true)

-- what a later stage does doesn't leave the region
pub late_stays : (p : Program) (plan : Plan) (site : ℕ) (effect : Effect) → 1 < stage_of p plan site → stays_late p plan site effect ≡ true →
    leaves effect ≡ false
late_stays p plan site effect late told = by (leaves effect) (sym (ap (λ (b : Bool). not (leaves effect) || b) (lt-leb (stage_of p plan site) 1 late)) ∙ told)
  where
    by : (b : Bool) → (not b || false) ≡ true → b ≡ false
    by false e = refl
    by true e = absurd (cc)

-- from the test of an event to what a projection asks
pub assumed_of : (p : Program) (plan : Plan) (site : ℕ) (effect : Effect) → as_assumed p plan site effect ≡ true → AsAssumed p plan site effect
assumed_of p plan site effect told = let both = and_parts (list_all (goes_as site effect) plan.assume) (stays_late p plan site effect) told in
    (all plan.assume both.0, both.1)
  where
    all : (assumed : List Assume) → list_all (goes_as site effect) assumed ≡ true → (taken : Bool) → assumed_in assumed site ≡ Some taken →
        went taken effect ≡ true
    all [] h taken e = absurd (cc)
    all (a ∷ rest) h taken e =
        let parts = and_parts (goes_as site effect a) (list_all (goes_as site effect) rest) h in elim (cases_Bool (a.site.0 == site)) [
          | inl q ↦ let told : Some a.taken ≡ Some taken = rw q at e in let same : a.taken ≡ taken = cc told in rw (← same) (rw q at parts.0)
          | inr q ↦ all rest parts.1 taken (rw q at e)
        ]

-- a well-nested statement is no region
pub well_number : (p : Program) (plan : Plan) (h : Stmt-F Stmt) → well_at p plan h ≡ true → region_number h ≡ None
well_number p plan (Region q site cond a) w = absurd (cc)
well_number p plan _ w = refl

-- so a break leaves nothing of well-nested statements, and goes on behind them
pub well_left_to : (p : Program) (plan : Plan) (xs behind : List Stmt) → all_well p plan xs ≡ true → behind_region (xs ++ behind) ≡ behind_region behind
well_left_to p plan [] behind w = refl
well_left_to p plan (x ∷ xs) behind w =
    let both = and_parts (well_nested p plan x) (all_well p plan xs) w in
    ap (λ (o : Option ℕ). behind_one o (xs ++ behind) (behind_region (xs ++ behind))) (well_number p plan (out-Stmt x) (sym (well_out p plan x) ∙ both.0))
    ∙ well_left_to p plan xs behind both.1

pub well_left : (p : Program) (plan : Plan) (xs : List Stmt) → all_well p plan xs ≡ true → behind_region xs ≡ []
well_left p plan [] w = refl
well_left p plan (x ∷ xs) w =
    let both = and_parts (well_nested p plan x) (all_well p plan xs) w in
    ap (λ (o : Option ℕ). behind_one o xs (behind_region xs)) (well_number p plan (out-Stmt x) (sym (well_out p plan x) ∙ both.0)) ∙ well_left p plan xs both.1

module _ (p : Program) (plan : Plan) (s : ℕ) where
  -- all of these sites are of later stages
  abbrev pub Later : List Access → Type 0
  Later inside = Each (λ a. s < stage_of p plan a.site) inside

  pub not_reached : (site : ℕ) (kept other : List Stmt) → s < stage_of p plan site → where_reached p plan s site kept other ≡ other
  not_reached site kept other h = ap (λ (b : Bool). if b then kept else other) (lt-leb (stage_of p plan site) s h)

  pub reached : (site : ℕ) (kept other : List Stmt) → stage_of p plan site ≤ s → where_reached p plan s site kept other ≡ kept
  reached site kept other h = ap (λ (b : Bool). if b then kept else other) (le-leb (stage_of p plan site) s h)

  no_branch : (o : Option Bool) (a b : List Stmt) → a ≡ [] → b ≡ [] → branch_of o a b ≡ []
  no_branch None a b e f = refl
  no_branch (Some true) a b e f = e
  no_branch (Some false) a b e f = f

  mutual
    -- nothing is left of a statement whose sites are all of later stages
    dropped : (x : Stmt) → well_nested p plan x ≡ true → Later (accesses x) → project p plan s x ≡ []
    dropped (tree.Assign site x e) well later = not_reached site.0 _ [] later.0
    dropped (tree.Store site x index e) well later = not_reached site.0 _ [] later.0
    dropped (tree.Print site e) well later = not_reached site.0 _ [] later.0
    dropped (tree.If' site cond _ a _ b) well later =
        let both = and_parts _ _ (and_parts _ _ well).1 in
        let inner = each_split (λ (i : Access). s < stage_of p plan i.site) (accesses_in a) (accesses_in b) later.1 in
        not_reached site.0 _ _ later.0 ∙ no_branch (assumed_in plan.assume site.0) _ _ (dropped_in a both.0 inner.0) (dropped_in b both.1 inner.1)
    dropped (tree.While' site cond _ a) well later = not_reached site.0 _ [] later.0
    dropped (tree.Region' r site cond _ a) well later = absurd (cc)
    dropped (tree.Break site cond) well later = not_reached site.0 _ [] later.0
    dropped (tree.Call f line args) well later = refl

    dropped_in : {n : _} (row : Row_of-Stmt n) → well_nested_in p plan row ≡ true → Later (accesses_in row) → project_in p plan s row ≡ []
    dropped_in end_of-Stmt well later = refl
    dropped_in (more_of-Stmt x rest) well later =
        let both = and_parts _ _ well in
        let parts = each_split (λ (i : Access). s < stage_of p plan i.site) (accesses x) (accesses_in rest) later in
        ap (λ ys. ys ++ project_in p plan s rest) (dropped x both.0 parts.0) ∙ dropped_in rest both.1 parts.1

  dropped_all : (xs : List Stmt) → all_well p plan xs ≡ true → Later (accesses_all xs) → project_all p plan s xs ≡ []
  dropped_all [] well later = refl
  dropped_all (x ∷ xs) well later =
      let both = and_parts (well_nested p plan x) (all_well p plan xs) well in
      let parts = each_split (λ (i : Access). s < stage_of p plan i.site) (accesses x) (accesses_all xs) later in
      ap (λ ys. ys ++ project_all p plan s xs) (dropped x both.0 parts.0) ∙ dropped_all xs both.1 parts.1

  project_append : (a b : List Stmt) → project_all p plan s (a ++ b) ≡ project_all p plan s a ++ project_all p plan s b
  project_append a b = flat_map-append (project p plan s) a b

  project_choose : (z : ℤ) (a b : List Stmt) → project_all p plan s (choose z a b) ≡ choose z (project_all p plan s a) (project_all p plan s b)
  project_choose z a b = elim (cases_Bool (is_zero z)) [ inl q ↦ rw q | inr q ↦ rw q ]

  -- a break that isn't taken
  not_taken : (z : ℤ) (rest : List Stmt) → not (is_zero z) ≡ false → choose z (behind_region rest) rest ≡ rest
  not_taken z rest e = by (is_zero z) e
    where
      by : (b : Bool) → not b ≡ false → (if b then rest else behind_region rest) ≡ rest
      by true e = refl
      by false e = absurd (cc)

  -- No region is in a stage's text.
  abbrev Unmarked : List Stmt → Type 0
  Unmarked xs = Each (λ y. region_number (out-Stmt y) ≡ None) xs

  reached_unmarked : (site : ℕ) (y : Stmt) (other : List Stmt) → region_number (out-Stmt y) ≡ None → Unmarked other →
      Unmarked (where_reached p plan s site (y ∷ []) other)
  reached_unmarked site y other e h = by (nat_le (stage_of p plan site) s)
    where
      by : (b : Bool) → Unmarked (if b then y ∷ [] else other)
      by true = (e, tt)
      by false = h

  branch_unmarked : (o : Option Bool) (a b : List Stmt) → Unmarked a → Unmarked b → Unmarked (branch_of o a b)
  branch_unmarked None a b h k = tt
  branch_unmarked (Some true) a b h k = h
  branch_unmarked (Some false) a b h k = k

  mutual
    project_unmarked : (x : Stmt) → Unmarked (project p plan s x)
    project_unmarked (tree.Assign site x e) = reached_unmarked site.0 (tree.Assign site x e) [] (ap region_number (tree.outs-Assign site x e)) tt
    project_unmarked (tree.Store site x index e) = reached_unmarked site.0 (tree.Store site x index e) [] (ap region_number (tree.outs-Store site x index e)) tt
    project_unmarked (tree.Print site e) = reached_unmarked site.0 (tree.Print site e) [] (ap region_number (tree.outs-Print site e)) tt
    project_unmarked (tree.If' site cond _ a _ b) =
        reached_unmarked site.0 (tree.If site cond (project_in p plan s a) (project_in p plan s b)) _
        (ap region_number (tree.outs-If site cond (project_in p plan s a) (project_in p plan s b)))
        (branch_unmarked (assumed_in plan.assume site.0) _ _ (project_unmarked_in a) (project_unmarked_in b))
    project_unmarked (tree.While' site cond _ a) =
        reached_unmarked site.0 (tree.While site cond (project_in p plan s a)) [] (ap region_number (tree.outs-While site cond (project_in p plan s a))) tt
    project_unmarked (tree.Region' r site cond _ a) = (ap region_number (tree.outs-If site cond (project_in p plan s a) []), tt)
    project_unmarked (tree.Break site cond) = reached_unmarked site.0 (tree.Break site cond) [] (ap region_number (tree.outs-Break site cond)) tt
    project_unmarked (tree.Call f line args) = tt

    project_unmarked_in : {n : _} (row : Row_of-Stmt n) → Unmarked (project_in p plan s row)
    project_unmarked_in end_of-Stmt = tt
    project_unmarked_in (more_of-Stmt x rest) =
        each_join (λ y. region_number (out-Stmt y) ≡ None) (project p plan s x) (project_in p plan s rest) (project_unmarked x) (project_unmarked_in rest)

  project_unmarked_all : (xs : List Stmt) → Unmarked (project_all p plan s xs)
  project_unmarked_all [] = tt
  project_unmarked_all (x ∷ xs) =
      each_join (λ y. region_number (out-Stmt y) ≡ None) (project p plan s x) (project_all p plan s xs) (project_unmarked x) (project_unmarked_all xs)

  unmarked_left : (xs : List Stmt) → Unmarked xs → behind_region xs ≡ []
  unmarked_left [] h = refl
  unmarked_left (x ∷ xs) h = ap (λ (o : Option ℕ). behind_one o xs (behind_region xs)) h.0 ∙ unmarked_left xs h.1

  -- the head as the stage has it
  abbrev pub proj_head : Stmt-F Stmt → Stmt-F Stmt
  proj_head (If site cond a b) = If site cond (project_all p plan s a) (project_all p plan s b)
  proj_head (While site cond a) = While site cond (project_all p plan s a)
  proj_head h = h

  -- A statement of stage s or an earlier one stays, with its parts projected ..
  kept : (h : Stmt-F Stmt) → well_at p plan h ≡ true → stage_of p plan (site_of h).0 ≤ s → project_at p plan s h ≡ roll-Stmt (proj_head h) ∷ []
  kept (Assign site x e) well early = reached site.0 _ [] early ∙ ap (λ y. y ∷ []) (sym (rolls-Assign site x e))
  kept (Store site x index e) well early = reached site.0 _ [] early ∙ ap (λ y. y ∷ []) (sym (rolls-Store site x index e))
  kept (Print site e) well early = reached site.0 _ [] early ∙ ap (λ y. y ∷ []) (sym (rolls-Print site e))
  kept (If site cond a b) well early = reached site.0 _ _ early ∙ ap (λ y. y ∷ []) (sym (rolls-If site cond (project_all p plan s a) (project_all p plan s b)))
  kept (While site cond a) well early = reached site.0 _ [] early ∙ ap (λ y. y ∷ []) (sym (rolls-While site cond (project_all p plan s a)))
  kept (Break site cond) well early = reached site.0 _ [] early ∙ ap (λ y. y ∷ []) (sym (rolls-Break site cond))
  kept _ well early = absurd (cc)

  pub stays_there : (x : Stmt) → well_at p plan (out-Stmt x) ≡ true → stage_of p plan (site_of (out-Stmt x)).0 ≤ s →
      project p plan s x ≡ roll-Stmt (proj_head (out-Stmt x)) ∷ []
  stays_there x well early = project_out p plan s x ∙ kept (out-Stmt x) well early

  -- .. and what follows it is the projection of what follows in the source.
  pub kept_followed : (x y : Stmt) (rest : List Stmt) (h : Stmt-F Stmt) (z : ℤ) → well_at p plan h ≡ true → all_well p plan rest ≡ true →
      project p plan s x ≡ y ∷ [] →
      followed y (project_all p plan s rest) (proj_head h) z ≡ project_all p plan s (followed x rest h z)
  kept_followed x y rest (If site cond a b) z well behind made =
      ap (λ ys. ys ++ project_all p plan s rest) (sym (project_choose z a b)) ∙ sym (project_append (choose z a b) rest)
  kept_followed x y rest (While site cond a) z well behind made =
      elim (cases_Bool (is_zero z)) [ inl q ↦ rw q | inr q ↦ rw (q, project_append a (x ∷ rest), made) ]
  kept_followed x y rest (Region r site cond a) z well behind made = absurd (cc)
  kept_followed x y rest (Break site cond) z well behind made =
      ap (λ (ys : List Stmt). choose z ys (project_all p plan s rest)) (unmarked_left (project_all p plan s rest) (project_unmarked_all rest)
      ∙ sym (ap (project_all p plan s) (well_left p plan rest behind))) ∙ sym (project_choose z (behind_region rest) rest)
  kept_followed x y rest _ z well behind made = refl

  later_inside : (site : ℕ) (inner : List Access) → s < stage_of p plan site → none_earlier p plan site inner ≡ true → Later inner
  later_inside site inner h e =
      each_map (λ a. nat_le (stage_of p plan site) (stage_of p plan a.site) ≡ true) (λ a. s < stage_of p plan a.site)
      (λ a k. let le : stage_of p plan site ≤ stage_of p plan a.site = leb-true _ _ k in omega (arith, le, h)) inner
      (all_of (λ a. nat_le (stage_of p plan site) (stage_of p plan a.site)) inner e)

  -- an assumed branch is the one that is taken
  branch_taken : (o : Option Bool) (z : ℤ) (a b : List Stmt) → ((taken : Bool) → o ≡ Some taken → went taken (Decided z) ≡ true) →
      (o ≡ None → (a ≡ []) × (b ≡ [])) → branch_of o a b ≡ choose z a b
  branch_taken None z a b told none = let empty = none refl in elim (cases_Bool (is_zero z)) [ inl q ↦ rw q (sym empty.1) | inr q ↦ rw q (sym empty.0) ]
  branch_taken (Some true) z a b told none =
      elim (cases_Bool (is_zero z)) [ inl q ↦ let clash : false ≡ true = rw q at (told true refl) in absurd (cc clash) | inr q ↦ rw q ]
  branch_taken (Some false) z a b told none =
      elim (cases_Bool (is_zero z)) [ inl q ↦ rw q | inr q ↦ let clash : false ≡ true = rw q at (told false refl) in absurd (cc clash) ]

  -- A statement of a later stage goes on unseen.
  pub unseen : (x : Stmt) (rest : List Stmt) (h : Stmt-F Stmt) (effect : Effect) → well_at p plan h ≡ true → project p plan s x ≡ project_at p plan s h →
      s < stage_of p plan (site_of h).0 →
      Form p h effect → AsAssumed p plan (site_of h).0 effect → 0 < s →
      project p plan s x ++ project_all p plan s rest ≡ project_all p plan s (followed x rest h (value_of effect))
  unseen x rest (Assign site v e) effect well made late form told real = ap (λ ys. ys ++ project_all p plan s rest) (made ∙ not_reached site.0 _ [] late)
  unseen x rest (Store site v index e) effect well made late form told real = ap (λ ys. ys ++ project_all p plan s rest) (made ∙ not_reached site.0 _ [] late)
  unseen x rest (Print site e) effect well made late form told real = ap (λ ys. ys ++ project_all p plan s rest) (made ∙ not_reached site.0 _ [] late)
  unseen x rest (If site cond a b) (Decided z) well made late form told real =
      let parts = and_parts (if_rule p plan site.0 (accesses_all a ++ accesses_all b)) (all_well p plan a && all_well p plan b) well in
      let both = and_parts _ _ parts.1 in
      ap (λ ys. ys ++ project_all p plan s rest)
      (made ∙ not_reached site.0 _ _ late ∙ branch_taken (assumed_in plan.assume site.0) z (project_all p plan s a) (project_all p plan s b) told.0
      (λ none. let inner = each_split (λ (i : Access). s < stage_of p plan i.site) (accesses_all a) (accesses_all b)
      (later_inside site.0 _ late (rw none at parts.0)) in
      (dropped_all a both.0 inner.0, dropped_all b both.1 inner.1))
      ∙ sym (project_choose z a b)) ∙ sym (project_append (choose z a b) rest)
  unseen x rest (While site cond a) (Decided z) well made late form told real =
      let parts = and_parts _ _ well in
      let gone : project p plan s x ≡ [] = made ∙ not_reached site.0 _ [] late in
      let inner : project_all p plan s a ≡ [] = dropped_all a parts.1 (later_inside site.0 _ late parts.0) in
      elim (cases_Bool (is_zero z)) [ inl q ↦ rw (q, gone) | inr q ↦ rw (q, project_append a (x ∷ rest), inner, gone) ]
  unseen x rest (Break site cond) (Tried z) well made late form told real = ap (λ ys. ys ++ project_all p plan s rest) (made ∙ not_reached site.0 _ [] late)
      ∙ ap (project_all p plan s) (sym (not_taken z rest (late_stays p plan site.0 (Tried z) (omega (arith, late, real)) told.1)))
  unseen x rest (Region r site cond a) effect well made late form told real = absurd (cc)
  unseen x rest (Call f line args) effect well made late form told real = absurd (cc)
  unseen x rest _ effect well made late form told real = absurd form
