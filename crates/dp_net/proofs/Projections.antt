-- The text of a stage: its sites are those of the text up to the stage, it is well nested, and an earlier stage has the same part of it as of the whole text.
use Rattle.dp_semantics.proofs.Names.{◌≡◌, refl, sym, ap, ◌∙◌, subst, append-nil, ℕ, ◌<◌, ◌≤◌, Bool, true, false, ◌&&◌, ◌||◌, if◌then◌else◌, List, [], ◌∷◌}
use Rattle.dp_semantics.proofs.Names.{◌++◌, Option, Some, None, is_some, nat_le, arith, leb-true, list_all-append, flat_map-append, and_parts, and_from}
use Rattle.dp_semantics.proofs.Names.{cases_Bool, cases_lt, inl, inr, SiteId, Expr, Stmt, Row_of-Stmt, end_of-Stmt, more_of-Stmt, outs-If, If, While, Program}
use Rattle.dp_semantics.proofs.Names.{Plan, stage_of, Access, accesses, accesses_in, assumed_in, branch_of, where_reached, project, project_in, project_all}
use Rattle.dp_semantics.proofs.Names.{region_statement, none_earlier, well_nested, well_nested_in}
use Rattle.dp_tree.specs.declared.Stmt.TheVariants as tree
use Rattle.dp_tree.specs.declared.Stmt.TheVariants.{outs-While}
use Rattle.dp_semantics.proofs.Each.{Each, each_map, each_split, each_join, all_of, all_make}
use Rattle.dp_semantics.proofs.Heads.{accesses_all, accesses_at, accesses_out, all_well, well_at, well_out, if_rule, project_at, project_out}
use Rattle.dp_semantics.proofs.Setting.{Accepted, Sound, turn_of}
use Rattle.dp_theorem.proofs.Projected.{not_reached, reached}
use Rattle.dp_theorem.proofs.Whole.{turn_well, turn_sound}

module _ (p : Program) (plan : Plan) where
  -- either way, by whether the stage has the site
  abbrev by_reach : (s site : ℕ) (F : List Stmt → Type 0) (kept other : List Stmt) → (stage_of p plan site ≤ s → F kept) → F other →
      F (where_reached p plan s site kept other)
  by_reach s site F kept other h k = elim (cases_Bool (nat_le (stage_of p plan site) s)) [
    | inl q ↦ subst F (sym (reached p plan s site kept other (leb-true (stage_of p plan site) s q))) (h (leb-true (stage_of p plan site) s q))
    | inr q ↦ subst F (sym (ap (λ (b : Bool). if b then kept else other) q)) k
  ]

  branch_has : (F : List Stmt → Type 0) (o : Option Bool) (a b : List Stmt) → F [] → F a → F b → F (branch_of o a b)
  branch_has F None a b n h k = n
  branch_has F (Some true) a b n h k = h
  branch_has F (Some false) a b n h k = k

  module _ (s : ℕ) where
    module _ (Q : Access → Type 0) where
      -- of a site that has Q, and that the stage has
      abbrev pub Kept : Access → Type 0
      Kept a = Q a × (stage_of p plan a.site ≤ s)

      abbrev pub AllKept : List Stmt → Type 0
      AllKept xs = Each Kept (accesses_all xs)

      kept_one : (y : Stmt) → Each Kept (accesses y) → AllKept (y ∷ [])
      kept_one y h = each_join Kept (accesses y) [] h tt

      kept_if : (site : SiteId) (cond : Expr) (a b : List Stmt) → Kept (Rattle.dp_semantics.proofs.Heads.head_access (If site cond a b)) →
          AllKept a → AllKept b → AllKept (tree.If site cond a b ∷ [])
      kept_if site cond a b own h k = kept_one (tree.If site cond a b)
          (subst (λ (l : List Access). Each Kept l) (sym (accesses_out (tree.If site cond a b) ∙ ap accesses_at (outs-If site cond a b)))
          (own, each_join Kept (accesses_all a) (accesses_all b) h k))

      kept_while : (site : SiteId) (cond : Expr) (a : List Stmt) → Kept (Rattle.dp_semantics.proofs.Heads.head_access (While site cond a)) →
          AllKept a → AllKept (tree.While site cond a ∷ [])
      kept_while site cond a own h = kept_one (tree.While site cond a)
          (subst (λ (l : List Access). Each Kept l) (sym (accesses_out (tree.While site cond a) ∙ ap accesses_at (outs-While site cond a))) (own, h))

      mutual
        pub kept_sites : (x : Stmt) → well_nested p plan x ≡ true → Each Q (accesses x) → AllKept (project p plan s x)
        kept_sites (tree.Assign site x e) well h = by_reach s site.0 AllKept _ [] (λ low. kept_one (tree.Assign site x e) ((h.0, low), tt)) tt
        kept_sites (tree.Store site x index e) well h = by_reach s site.0 AllKept _ [] (λ low. kept_one (tree.Store site x index e) ((h.0, low), tt)) tt
        kept_sites (tree.Print site e) well h = by_reach s site.0 AllKept _ [] (λ low. kept_one (tree.Print site e) ((h.0, low), tt)) tt
        kept_sites (tree.Break site cond) well h = by_reach s site.0 AllKept _ [] (λ low. kept_one (tree.Break site cond) ((h.0, low), tt)) tt
        kept_sites (tree.If' site cond _ a _ b) well h =
            let both = and_parts _ _ (and_parts _ _ well).1 in
            let parts = each_split Q (accesses_in a) (accesses_in b) h.1 in
            let one = kept_row a both.0 parts.0 in
            let two = kept_row b both.1 parts.1 in
            by_reach s site.0 AllKept _ _ (λ low. kept_if site cond (project_in p plan s a) (project_in p plan s b) (h.0, low) one two)
            (branch_has AllKept (assumed_in plan.assume site.0) _ _ tt one two)
        kept_sites (tree.While' site cond _ a) well h =
            let one = kept_row a (and_parts _ _ well).1 h.1 in
            by_reach s site.0 AllKept _ [] (λ low. kept_while site cond (project_in p plan s a) (h.0, low) one) tt
        kept_sites (tree.Region' r site cond _ a) well h = absurd (cc)
        kept_sites (tree.Call f line args) well h = tt

        pub kept_row : {n : _} (row : Row_of-Stmt n) → well_nested_in p plan row ≡ true → Each Q (accesses_in row) → AllKept (project_in p plan s row)
        kept_row end_of-Stmt well h = tt
        kept_row (more_of-Stmt x rest) well h =
            let both = and_parts _ _ well in
            let parts = each_split Q (accesses x) (accesses_in rest) h in
            subst (λ (l : List Access). Each Kept l) (sym (flat_map-append accesses (project p plan s x) (project_in p plan s rest)))
            (each_join Kept (accesses_all (project p plan s x)) (accesses_all (project_in p plan s rest)) (kept_sites x both.0 parts.0)
            (kept_row rest both.1 parts.1))

    -- no site of these is in an earlier stage than this one
    abbrev NotBefore : ℕ → Access → Type 0
    NotBefore site a = nat_le (stage_of p plan site) (stage_of p plan a.site) ≡ true

    still_later : (site : ℕ) (xs : List Stmt) → Each (Kept (NotBefore site)) (accesses_all xs) → none_earlier p plan site (accesses_all xs) ≡ true
    still_later site xs h = all_make (λ a. nat_le (stage_of p plan site) (stage_of p plan a.site)) (accesses_all xs)
        (each_map (Kept (NotBefore site)) (NotBefore site) (λ a k. k.0) (accesses_all xs) h)

    abbrev WellAll : List Stmt → Type 0
    WellAll xs = all_well p plan xs ≡ true

    one_well : (b : Bool) → b ≡ true → (b && true) ≡ true
    one_well b e = rw e refl

    well_if : (site : SiteId) (cond : Expr) (a b : List Stmt) → if_rule p plan site.0 (accesses_all a ++ accesses_all b) ≡ true → WellAll a →
        WellAll b → WellAll (tree.If site cond a b ∷ [])
    well_if site cond a b rule h k = one_well _ (well_out p plan (tree.If site cond a b) ∙ ap (well_at p plan) (outs-If site cond a b)
        ∙ and_from (if_rule p plan site.0 (accesses_all a ++ accesses_all b)) (all_well p plan a && all_well p plan b) rule
        (and_from (all_well p plan a) (all_well p plan b) h k))

    well_while : (site : SiteId) (cond : Expr) (a : List Stmt) → none_earlier p plan site.0 (accesses_all a) ≡ true → WellAll a →
        WellAll (tree.While site cond a ∷ [])
    well_while site cond a rule h = one_well _ (well_out p plan (tree.While site cond a) ∙ ap (well_at p plan) (outs-While site cond a)
        ∙ and_from (none_earlier p plan site.0 (accesses_all a)) (all_well p plan a) rule h)

    ruled : {n k : _} (site : ℕ) (a : Row_of-Stmt n) (b : Row_of-Stmt k) → well_nested_in p plan a ≡ true → well_nested_in p plan b ≡ true →
        (is_some (assumed_in plan.assume site) || none_earlier p plan site (accesses_in a ++ accesses_in b)) ≡ true →
        if_rule p plan site (accesses_all (project_in p plan s a) ++ accesses_all (project_in p plan s b)) ≡ true
    ruled site a b one two h = by (is_some (assumed_in plan.assume site)) h
      where
        none : none_earlier p plan site (accesses_in a ++ accesses_in b) ≡ true →
            none_earlier p plan site (accesses_all (project_in p plan s a) ++ accesses_all (project_in p plan s b)) ≡ true
        none e =
            let parts = each_split (NotBefore site) (accesses_in a) (accesses_in b)
            (all_of (λ (i : Access). nat_le (stage_of p plan site) (stage_of p plan i.site)) (accesses_in a ++ accesses_in b) e) in
            list_all-append (λ (i : Access). nat_le (stage_of p plan site) (stage_of p plan i.site)) (accesses_all (project_in p plan s a))
            (accesses_all (project_in p plan s b))
            ∙ and_from _ _ (still_later site (project_in p plan s a) (kept_row (NotBefore site) a one parts.0))
            (still_later site (project_in p plan s b) (kept_row (NotBefore site) b two parts.1))

        by : (t : Bool) → (t || none_earlier p plan site (accesses_in a ++ accesses_in b)) ≡ true →
            (t || none_earlier p plan site (accesses_all (project_in p plan s a) ++ accesses_all (project_in p plan s b))) ≡ true
        by true e = refl
        by false e = none e

    mutual
      -- a stage's part of a well-nested statement is well nested
      kept_well : (x : Stmt) → well_nested p plan x ≡ true → WellAll (project p plan s x)
      kept_well (tree.Assign site x e) well = by_reach s site.0 WellAll _ [] (λ low. refl) refl
      kept_well (tree.Store site x index e) well = by_reach s site.0 WellAll _ [] (λ low. refl) refl
      kept_well (tree.Print site e) well = by_reach s site.0 WellAll _ [] (λ low. refl) refl
      kept_well (tree.Break site cond) well = by_reach s site.0 WellAll _ [] (λ low. refl) refl
      kept_well (tree.If' site cond _ a _ b) well =
          let rule = and_parts _ _ well in
          let both = and_parts _ _ rule.1 in
          let one = kept_well_row a both.0 in
          let two = kept_well_row b both.1 in
          by_reach s site.0 WellAll _ _ (λ low. well_if site cond (project_in p plan s a) (project_in p plan s b) (ruled site.0 a b both.0 both.1 rule.0) one
          two) (branch_has WellAll (assumed_in plan.assume site.0) _ _ refl one two)
      kept_well (tree.While' site cond _ a) well =
          let rule = and_parts _ _ well in
          by_reach s site.0 WellAll _ [] (λ low. well_while site cond (project_in p plan s a)
          (still_later site.0 (project_in p plan s a)
          (kept_row (NotBefore site.0) a rule.1 (all_of (λ (i : Access). nat_le (stage_of p plan site.0) (stage_of p plan i.site)) (accesses_in a) rule.0)))
          (kept_well_row a rule.1)) refl
      kept_well (tree.Region' r site cond _ a) well = absurd (cc)
      kept_well (tree.Call f line args) well = absurd (cc)

      kept_well_row : {n : _} (row : Row_of-Stmt n) → well_nested_in p plan row ≡ true → WellAll (project_in p plan s row)
      kept_well_row end_of-Stmt well = refl
      kept_well_row (more_of-Stmt x rest) well =
          let both = and_parts _ _ well in
          list_all-append (well_nested p plan) (project p plan s x) (project_in p plan s rest) ∙ and_from _ _ (kept_well x both.0) (kept_well_row rest both.1)

    pub kept_well_all : (xs : List Stmt) → all_well p plan xs ≡ true → WellAll (project_all p plan s xs)
    kept_well_all [] well = refl
    kept_well_all (x ∷ xs) well =
        let both = and_parts (well_nested p plan x) (all_well p plan xs) well in
        list_all-append (well_nested p plan) (project p plan s x) (project_all p plan s xs) ∙ and_from _ _ (kept_well x both.0) (kept_well_all xs both.1)

    pub kept_sites_all : (Q : Access → Type 0) (xs : List Stmt) → all_well p plan xs ≡ true → Each Q (accesses_all xs) → AllKept Q (project_all p plan s xs)
    kept_sites_all Q [] well h = tt
    kept_sites_all Q (x ∷ xs) well h =
        let both = and_parts (well_nested p plan x) (all_well p plan xs) well in
        let parts = each_split Q (accesses x) (accesses_all xs) h in
        subst (λ (l : List Access). Each (Kept Q) l) (sym (flat_map-append accesses (project p plan s x) (project_all p plan s xs)))
        (each_join (Kept Q) (accesses_all (project p plan s x)) (accesses_all (project_all p plan s xs)) (kept_sites Q x both.0 parts.0)
        (kept_sites_all Q xs both.1 parts.1))

  -- An earlier stage has the same part of a later one's text as of the whole.
  module _ (s t : ℕ) (early : s ≤ t) where
    alone : (y : Stmt) (ys : List Stmt) → project p plan s y ≡ ys → project_all p plan s (y ∷ []) ≡ ys
    alone y ys e = append-nil (project p plan s y) ∙ e

    -- what stage t hasn't, stage s hasn't
    twice_reach : (site : ℕ) (y other kept none : List Stmt) → project_all p plan s y ≡ where_reached p plan s site kept none →
        project_all p plan s other ≡ none →
        project_all p plan s (where_reached p plan t site y other) ≡ where_reached p plan s site kept none
    twice_reach site y other kept none h k = elim (cases_lt t (stage_of p plan site)) [
      | inl late ↦ ap (project_all p plan s) (not_reached p plan t site y other late) ∙ k
          ∙ sym (not_reached p plan s site kept none (omega (arith, early, late)))
      | inr soon ↦ ap (project_all p plan s) (reached p plan t site y other soon) ∙ h
    ]

    twice_branch : (o : Option Bool) (a b c d : List Stmt) → project_all p plan s a ≡ c → project_all p plan s b ≡ d →
        project_all p plan s (branch_of o a b) ≡ branch_of o c d
    twice_branch None a b c d h k = refl
    twice_branch (Some true) a b c d h k = h
    twice_branch (Some false) a b c d h k = k

    mutual
      twice : (x : Stmt) → well_nested p plan x ≡ true → project_all p plan s (project p plan t x) ≡ project p plan s x
      twice (tree.Assign site x e) well = twice_reach site.0 _ [] _ [] (append-nil (project p plan s (tree.Assign site x e))) refl
      twice (tree.Store site x index e) well = twice_reach site.0 _ [] _ [] (append-nil (project p plan s (tree.Store site x index e))) refl
      twice (tree.Print site e) well = twice_reach site.0 _ [] _ [] (append-nil (project p plan s (tree.Print site e))) refl
      twice (tree.Break site cond) well = twice_reach site.0 _ [] _ [] (append-nil (project p plan s (tree.Break site cond))) refl
      twice (tree.If' site cond _ a _ b) well =
          let both = and_parts _ _ (and_parts _ _ well).1 in
          let one = twice_in a both.0 in
          let two = twice_in b both.1 in
          twice_reach site.0 _ _ _ _
          (alone (tree.If site cond (project_in p plan t a) (project_in p plan t b)) _
          (project_out p plan s (tree.If site cond (project_in p plan t a) (project_in p plan t b))
          ∙ ap (project_at p plan s) (outs-If site cond (project_in p plan t a) (project_in p plan t b))
          ∙ ap (λ (ys : List Stmt). project_if ys (project_all p plan s (project_in p plan t b))) one
          ∙ ap (λ (ys : List Stmt). project_if (project_in p plan s a) ys) two))
          (twice_branch (assumed_in plan.assume site.0) _ _ _ _ one two)
        where
          project_if : List Stmt → List Stmt → List Stmt
          project_if c d = where_reached p plan s site.0 (tree.If site cond c d ∷ []) (branch_of (assumed_in plan.assume site.0) c d)
      twice (tree.While' site cond _ a) well =
          let one = twice_in a (and_parts _ _ well).1 in
          twice_reach site.0 _ [] _ []
          (alone (tree.While site cond (project_in p plan t a)) _ (project_out p plan s (tree.While site cond (project_in p plan t a))
          ∙ ap (project_at p plan s) (outs-While site cond (project_in p plan t a))
          ∙ ap (λ (ys : List Stmt). where_reached p plan s site.0 (tree.While site cond ys ∷ []) []) one)) refl
      twice (tree.Region' r site cond _ a) well = absurd (cc)
      twice (tree.Call f line args) well = absurd (cc)

      twice_in : {n : _} (row : Row_of-Stmt n) → well_nested_in p plan row ≡ true → project_all p plan s (project_in p plan t row) ≡ project_in p plan s row
      twice_in end_of-Stmt well = refl
      twice_in (more_of-Stmt x rest) well =
          let both = and_parts _ _ well in
          flat_map-append (project p plan s) (project p plan t x) (project_in p plan t rest)
          ∙ ap (λ (ys : List Stmt). ys ++ project_all p plan s (project_in p plan t rest)) (twice x both.0)
          ∙ ap (λ (ys : List Stmt). project p plan s x ++ ys) (twice_in rest both.1)

    pub twice_all : (xs : List Stmt) → all_well p plan xs ≡ true → project_all p plan s (project_all p plan t xs) ≡ project_all p plan s xs
    twice_all [] well = refl
    twice_all (x ∷ xs) well =
        let both = and_parts (well_nested p plan x) (all_well p plan xs) well in
        flat_map-append (project p plan s) (project p plan t x) (project_all p plan t xs)
        ∙ ap (λ (ys : List Stmt). ys ++ project_all p plan s (project_all p plan t xs)) (twice x both.0)
        ∙ ap (λ (ys : List Stmt). project p plan s x ++ ys) (twice_all xs both.1)

module _ {p : Program} {plan : Plan} (a : Accepted p plan) where
  region_stage : stage_of p plan a.site.0 ≡ 1
  region_stage = ap (stage_of p plan) (sym a.first) ∙ a.staged

  -- a stage's text of the region is its part of one iteration
  pub turn_text : (s : ℕ) → 0 < s → project_all p plan s (region_statement p plan) ≡ project_all p plan s (turn_of a)
  turn_text s real =
      ap (project_all p plan s) a.region
      ∙ ap (λ (ys : List Stmt). ys ++ []) (project_out p plan s a.statement ∙ ap (project_at p plan s) a.is
      ∙ sym (project_out p plan s (tree.If a.site a.cond a.body []) ∙ ap (project_at p plan s) (outs-If a.site a.cond a.body [])
      ∙ reached p plan s a.site.0 (tree.If a.site a.cond (project_all p plan s a.body) [] ∷ []) _ (omega (arith, region_stage, real))))

  -- .. it is well nested
  pub text_well : (s : ℕ) → 0 < s → all_well p plan (project_all p plan s (region_statement p plan)) ≡ true
  text_well s real = subst (λ (xs : List Stmt). all_well p plan xs ≡ true) (sym (turn_text s real)) (kept_well_all p plan s (turn_of a) (turn_well a))

  -- .. its sites are known, and of stages up to it
  pub text_sites : (s : ℕ) → 0 < s → AllKept p plan s (Sound p plan) (project_all p plan s (region_statement p plan))
  text_sites s real = subst (λ (xs : List Stmt). AllKept p plan s (Sound p plan) xs) (sym (turn_text s real))
      (kept_sites_all p plan s (Sound p plan) (turn_of a) (turn_well a) (turn_sound a))

  -- .. and an earlier stage has the same part of it as of the region
  pub earlier_part : (s t : ℕ) → 0 < s → s ≤ t →
      project_all p plan s (project_all p plan t (region_statement p plan)) ≡ project_all p plan s (region_statement p plan)
  earlier_part s t real early = ap (project_all p plan s) (turn_text t (omega (arith, real, early)))
      ∙ twice_all p plan s t early (turn_of a) (turn_well a) ∙ sym (turn_text s real)
