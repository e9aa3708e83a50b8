-- Each entry of the table leads to what follows its statement.
use Rattle.dp_meaning.proofs.Names.{and_make, and_true, ◌≡◌, refl, sym, ap, ◌∙◌, subst, ℕ, Bool, true, false, if◌then◌else◌, List, [], ◌∷◌, ◌++◌, ℤ, Option}
use Rattle.dp_meaning.proofs.Names.{Some, None, ◌==◌, ◌⊎◌, inl, inr, slice_get, zero, suc, list_any, is_zero, Stmt, out-Stmt, Row_of-Stmt, end_of-Stmt}
use Rattle.dp_meaning.proofs.Names.{more_of-Stmt, outs-Assign, outs-Store, outs-Print, outs-If', outs-While', outs-Region', outs-Break, Program, Stmt-F, choose}
use Rattle.dp_meaning.proofs.Names.{followed, behind_region, behind_one, region_number, is_plain, is_plain_in, is_inner, is_inner_in, inner_all, inner_left}
use Rattle.dp_meaning.proofs.Names.{top_fits, next_region, regions_in_order, has_call, has_call_in, Leaves, listed, entry, rests, NodeAt, node, table}
use Rattle.dp_meaning.proofs.Names.{first_given, first_region}
use Rattle.std.proofs.lemmas.Bool.{or_parts}
use Rattle.dp_tree.specs.declared.Stmt.TheOpen as layer
unfoldable use Rattle.dp_meaning.proofs.Names.{rests_of, rests_in, table_of, table_in}
use Rattle.dp_tree.specs.declared.Stmt.TheBlock.{shown-the_row-Stmt-0}
use Rattle.dp_tree.specs.declared.Stmt.TheVariants.{Assign, Store, Print, If', While', Region', Break, Call}
use Rattle.dp_meaning.specs.Places.{statement_place}
use Rattle.dp_tree.proofs.InnerTexts.{shown_listed}
use Rattle.dp_meaning.proofs.FollowedLemmas.{no_region_at}

-- the entry of two lists
pub entry-append : (xs behind : List Stmt) (end : ℕ) → entry (xs ++ behind) end ≡ entry xs (entry behind end)
entry-append [] behind end = refl
entry-append (x ∷ xs) behind end = refl

choose-append : (z : ℤ) (a b rest : List Stmt) → choose z a b ++ rest ≡ choose z (a ++ rest) (b ++ rest)
choose-append z a b rest = by (is_zero z)
  where
    by : (t : Bool) → (if t then b else a) ++ rest ≡ (if t then b ++ rest else a ++ rest)
    by true = refl
    by false = refl

first-inside : (xs behind : List Stmt) → inner_all xs ≡ true → first_region (xs ++ behind) ≡ first_region behind
first-inside [] behind h = refl
first-inside (x ∷ xs) behind h =
    let r = and_true (is_inner x) (inner_all xs) h in
    ap (λ (o : Option ℕ). first_given o (first_region (xs ++ behind))) (no_region_at x r.0).1 ∙ first-inside xs behind r.1

inner_listed : {n : _} (rows : Row_of-Stmt n) → is_inner_in rows ≡ true → inner_all (listed rows) ≡ true
inner_listed end_of-Stmt h = refl
inner_listed (more_of-Stmt s rest) h = let r = and_true (is_inner s) (is_inner_in rest) h in
    and_make (is_inner s) (inner_all (listed rest)) r.0 (inner_listed rest r.1)

module _ (p : Program) (P : List Stmt → Type 0) (end : ℕ) where
  abbrev pub Each : List (List Stmt) → Type 0
  Each [] = Unit {0}
  Each (x ∷ xs) = P x × Each xs

  each_front : (xs ys : List (List Stmt)) → Each (xs ++ ys) → Each xs
  each_front [] ys h = tt
  each_front (x ∷ xs) ys h = (h.0, each_front xs ys h.1)

  pub each_back : (xs ys : List (List Stmt)) → Each (xs ++ ys) → Each ys
  each_back [] ys h = h
  each_back (x ∷ xs) ys h = each_back xs ys h.1

  -- where an entry goes by a value
  abbrev pub Goes : NodeAt → Bool → List Stmt → Type 0
  Goes n b xs = P xs × ((if b then n.zero else n.next) ≡ entry xs end)

  -- the entry is right for what is left to do at its place
  pub record Leads (n : NodeAt) (xs : List Stmt) : Type 0 where
    pub program : n.program ≡ p
    pub after : List Stmt
    pub is : xs ≡ n.statement ∷ after
    pub to : (z : ℤ) → Goes n (is_zero z) (followed n.statement after (out-Stmt n.statement) z)
    pub left : Leaves (out-Stmt n.statement) after n.region

  abbrev pub Fit : List NodeAt → List (List Stmt) → Type 0
  Fit [] [] = Unit {0}
  Fit (n ∷ ns) (x ∷ xs) = Leads n x × Fit ns xs
  Fit [] (x ∷ xs) = ⊥
  Fit (n ∷ ns) [] = ⊥

  -- what is left to do at an entry's place
  abbrev pub Finds : Option NodeAt → Option (List Stmt) → Type 0
  Finds None o = o ≡ None
  Finds (Some n) o = (x : List Stmt) × (o ≡ Some x) × Leads n x

  pub fit_at : (ns : List NodeAt) (xs : List (List Stmt)) (k : ℕ) → Fit ns xs → Finds (slice_get ns k) (slice_get xs k)
  fit_at [] [] k f = refl
  fit_at (m ∷ ns) (x ∷ xs) zero f = (x, refl, f.0)
  fit_at (m ∷ ns) (x ∷ xs) (suc k) f = fit_at ns xs k f.1
  fit_at [] (x ∷ xs) k f = absurd f
  fit_at (m ∷ ns) [] k f = absurd f

  fit-append : (ms ns : List NodeAt) (xs ys : List (List Stmt)) → Fit ms xs → Fit ns ys → Fit (ms ++ ns) (xs ++ ys)
  fit-append [] ns [] ys f g = g
  fit-append (m ∷ ms) ns (x ∷ xs) ys f g = (f.0, fit-append ms ns xs ys f.1 g)
  fit-append [] ns (x ∷ xs) ys f g = absurd f
  fit-append (m ∷ ms) ns [] ys f g = absurd f

  leads : (s : Stmt) (after : List Stmt) (r : ℕ) (h : Stmt-F Stmt) (next other : ℕ) → out-Stmt s ≡ h →
      ((z : ℤ) → Goes (node p s next other r) (is_zero z) (followed s after h z))
      → Leaves h after r → Leads (node p s next other r) (s ∷ after)
  leads s after r h next other is to left = record {
    program = refl;
    after = after;
    is = refl;
    to = λ z. subst (λ (f : Stmt-F Stmt). Goes (node p s next other r) (is_zero z) (followed s after f z)) (sym is) (to z);
    left = subst (λ (f : Stmt-F Stmt). Leaves f after r) (sym is) left;
  }

  -- an entry that has two ways
  forked : (s : Stmt) (after one two : List Stmt) (r : ℕ) (h : Stmt-F Stmt) (next other : ℕ) → out-Stmt s ≡ h →
      ((z : ℤ) → followed s after h z ≡ choose z one two) → Leaves h after r
      → P one → P two → next ≡ entry one end → other ≡ entry two end → Leads (node p s next other r) (s ∷ after)
  forked s after one two r h next other is same left here there e f =
      leads s after r h next other is (λ z. subst (Goes (node p s next other r) (is_zero z)) (sym (same z)) (by (is_zero z))) left
    where
      by : (b : Bool) → Goes (node p s next other r) b (if b then two else one)
      by true = (there, f)
      by false = (here, e)

  first_of_rests : (s : Stmt) (behind : List Stmt) → has_call s ≡ false → Each (rests_of s behind) → P (s ∷ behind)
  unfolding rests_of rests_in
  first_of_rests (Call f line args) behind none each = absurd (cc none)
  first_of_rests _ behind none each = each.0

  -- what is entered first is one of them, or what stands behind
  entered : {n : _} (rows : Row_of-Stmt n) (behind : List Stmt) → has_call_in rows ≡ false → P behind → Each (rests_in rows behind) → P (listed rows ++ behind)
  unfolding rests_in
  entered end_of-Stmt behind none here each = here
  entered (more_of-Stmt s rest) behind none here each =
      first_of_rests s (listed rest ++ behind) (or_parts (has_call s) (has_call_in rest) none).0 (each_front (rests_of s (listed rest ++ behind))
      (rests_in rest behind) each)

  -- one that goes the same way by each value
  one_way : (s : Stmt) (after : List Stmt) (r : ℕ) (h : Stmt-F Stmt) → out-Stmt s ≡ h → ((z : ℤ) → followed s after h z ≡ after) → Leaves h after r → P after
      → Fit (node p s (entry after end) (entry after end) r ∷ []) ((s ∷ after) ∷ [])
  one_way s after r h is same left here = (
    leads s after r h (entry after end) (entry after end) is (λ z. subst (Goes (node p s (entry after end) (entry after end) r) (is_zero z)) (sym (same z))
        (here, by (is_zero z))) left,
    tt,
  )
    where
      by : (b : Bool) → (if b then entry after end else entry after end) ≡ entry after end
      by true = refl
      by false = refl

  loop_leads : (s : Stmt) (after body : List Stmt) (r : ℕ) (h : Stmt-F Stmt) → out-Stmt s ≡ h →
      ((z : ℤ) → followed s after h z ≡ choose z (body ++ s ∷ after) after) → Leaves h after r
      → P (body ++ s ∷ after) → P after → Leads (node p s (entry body (statement_place s)) (entry after end) r) (s ∷ after)
  loop_leads s after body r h is same left here there =
      forked s after (body ++ s ∷ after) after r h (entry body (statement_place s)) (entry after end) is same left here there
      (sym (entry-append body (s ∷ after) end)) refl

  -- a break goes on behind the next region, which it leaves
  record Breaks (after : List Stmt) (exit r : ℕ) : Type 0 where
    behind : P (behind_region after)
    goes : exit ≡ entry (behind_region after) end
    region : first_region after ≡ Some r

  -- no break is among them, or they are those of a body
  abbrev Body : {n : _} → Row_of-Stmt n → List Stmt → ℕ → ℕ → Type 0
  Body rows after exit r = (is_plain_in rows ≡ true) ⊎ ((is_inner_in rows ≡ true) × Breaks after exit r)

  abbrev OfBody : Stmt → List Stmt → ℕ → ℕ → Type 0
  OfBody s after exit r = (is_plain s ≡ true) ⊎ ((is_inner s ≡ true) × Breaks after exit r)

  plain_by : (s : Stmt) (after : List Stmt) (exit r : ℕ) → is_inner s ≡ is_plain s → OfBody s after exit r → is_plain s ≡ true
  plain_by s after exit r same (inl k) = k
  plain_by s after exit r same (inr b) = sym same ∙ b.0

  parted : {n : _} (s : Stmt) (rest : Row_of-Stmt n) (behind : List Stmt) (exit r : ℕ) → Body (more_of-Stmt s rest) behind exit r →
      OfBody s (listed rest ++ behind) exit r × Body rest behind exit r
  parted s rest behind exit r (inl k) = let both = and_true (is_plain s) (is_plain_in rest) k in (inl both.0, inl both.1)
  parted s rest behind exit r (inr b) =
      let both = and_true (is_inner s) (is_inner_in rest) b.0 in
      let inner = inner_listed rest both.1 in
      let left : behind_region (listed rest ++ behind) ≡ behind_region behind = inner_left (listed rest) behind inner in (
        inr (
          both.0,
          record {
            behind = subst P (sym left) b.1.behind;
            goes = b.1.goes ∙ ap (λ (xs : List Stmt). entry xs end) (sym
                left);
            region = first-inside (listed rest) behind inner ∙ b.1.region;
          },
        ),
        inr (both.1, b.1),
      )

  mutual
    unfolding rests_of rests_in table_of table_in

    link_of : (s : Stmt) (after : List Stmt) (exit r : ℕ) → OfBody s after exit r → has_call s ≡ false → P after → Each (rests_of s after) →
        Fit (table_of p s (entry after end) exit r) (rests_of s after)
    link_of (Assign site x e) after exit r h none here each =
        one_way (Assign site x e) after r (layer.Assign site x e) (outs-Assign site x e) (λ z. refl) tt here
    link_of (Store site x index e) after exit r h none here each =
        one_way (Store site x index e) after r (layer.Store site x index e) (outs-Store site x index e) (λ z. refl) tt here
    link_of (Print site e) after exit r h none here each = one_way (Print site e) after r (layer.Print site e) (outs-Print site e) (λ z. refl) tt here
    link_of (If' site cond i a j b) after exit r h none here each =
        let s = If' site cond i a j b in
        let plain = and_true (is_plain_in a) (is_plain_in b) (plain_by s after exit r refl h) in
        let free = or_parts (has_call_in a) (has_call_in b) none in
        let first = each_front (rests_in a after) (rests_in b after) each.1 in
        let second = each_back (rests_in a after) (rests_in b after) each.1 in
        let x = shown-the_row-Stmt-0 i a in let y = shown-the_row-Stmt-0 j b in (
          forked s after (listed a ++ after) (listed b ++ after) r (layer.If site cond x y) (entry (listed a) (entry after end))
              (entry (listed b) (entry after end)) (outs-If' site cond i a j b)
              (λ z. ap (λ u. choose z u y ++ after) (shown_listed i a) ∙ ap (λ u. choose z (listed a) u ++ after) (shown_listed j b)
              ∙ choose-append z (listed a) (listed b) after) tt
              (entered a after free.0 here first) (entered b after free.1 here second) (sym (entry-append (listed a) after end))
              (sym (entry-append (listed b) after end)),
          fit-append (table_in p a (entry after end) exit r) (table_in p b (entry after end) exit r) (rests_in a after) (rests_in b after)
              (link_in a after exit r (inl plain.0) free.0 here first) (link_in b after exit r (inl plain.1) free.1 here second),
        )
    link_of (While' site cond i a) after exit r h none here each =
        let s = While' site cond i a in (
          loop_leads s after (listed a) r (layer.While site cond (shown-the_row-Stmt-0 i a)) (outs-While' site cond i a)
              (λ z. ap (λ u. choose z (u ++ s ∷ after) after) (shown_listed i a)) tt
              (entered a (s ∷ after) none each.0 each.1) here,
          link_in a (s ∷ after) exit r (inl (plain_by s after exit r refl h)) none each.0 each.1,
        )
    link_of (Region' q site cond i a) after exit r h none here each = absurd (cc (plain_by (Region' q site cond i a) after exit r refl h))
    link_of (Break site cond) after exit r (inl k) none here each = absurd (cc k)
    link_of (Break site cond) after exit r (inr b) none here each = (
      forked (Break site cond) after (behind_region after) after r (layer.Break site cond) exit (entry after end) (outs-Break site cond) (λ z.
          refl) b.1.region b.1.behind here b.1.goes refl,
      tt,
    )
    link_of (Call f line args) after exit r h none here each = absurd (cc none)

    link_in : {n : _} (rows : Row_of-Stmt n) (behind : List Stmt) (exit r : ℕ) → Body rows behind exit r → has_call_in rows ≡ false → P behind →
        Each (rests_in rows behind) → Fit (table_in p rows (entry behind end) exit r) (rests_in rows behind)
    link_in end_of-Stmt behind exit r h none here each = tt
    link_in (more_of-Stmt s rest) behind exit r h none here each =
        let parts = parted s rest behind exit r h in
        let free = or_parts (has_call s) (has_call_in rest) none in
        let later = each_back (rests_of s (listed rest ++ behind)) (rests_in rest behind) each in
        let first = link_of s (listed rest ++ behind) exit r parts.0 free.0 (entered rest behind free.1 here later)
        (each_front (rests_of s (listed rest ++ behind)) (rests_in rest behind) each) in
        fit-append (table_of p s (entry (listed rest) (entry behind end)) exit r) (table_in p rest (entry behind end) exit r)
        (rests_of s (listed rest ++ behind)) (rests_in rest behind)
        (subst (λ (k : ℕ). Fit (table_of p s k exit r) (rests_of s (listed rest ++ behind))) (entry-append (listed rest) behind end) first)
        (link_in rest behind exit r parts.1 free.1 here later)

  link_top : (k : ℕ) (s : Stmt) (after : List Stmt) → top_fits k s ≡ true → has_call s ≡ false → P after → Each (rests_of s after) →
      Fit (table_of p s (entry after end) 0 0) (rests_of s after)
  unfolding rests_of rests_in table_of table_in
  link_top k (Region' q site cond i a) after h none here each =
      let s = Region' q site cond i a in
      let x = shown-the_row-Stmt-0 i a in
      let is : out-Stmt s ≡ layer.Region q site cond x = outs-Region' q site cond i a in
      let left : behind_region (s ∷ after) ≡ after = ap (λ (f : Stmt-F Stmt). behind_one (region_number f) after (behind_region after)) is in
      let region : first_region (s ∷ after) ≡ Some q = ap (λ (f : Stmt-F Stmt). first_given (region_number f) (first_region after)) is in
      let breaks : Breaks (s ∷ after) (entry after end) q =
      record { behind = subst P (sym left) here; goes = ap (λ (xs : List Stmt). entry xs end) (sym left); region = region } in (
        loop_leads s after (listed a) 0 (layer.Region q site cond x) is (λ z. ap (λ u. choose z (u ++ s ∷ after) after) (shown_listed i a)) tt
            (entered a (s ∷ after) none each.0 each.1) here,
        link_in a (s ∷ after) (entry after end) q (inr ((and_true (q == k) (is_inner_in a) h).1, breaks)) none each.0 each.1,
      )
  link_top k s after h none here each = link_of s after 0 0 (inl h) none here each

  pub link_main : (k : ℕ) (xs : List Stmt) → regions_in_order k xs ≡ true → list_any has_call xs ≡ false → P [] → Each (rests xs []) → P (xs ++ [])
      × Fit (table p xs end 0 0) (rests xs [])
  link_main k [] h none here each = (here, tt)
  link_main k (s ∷ rest) h none here each =
      let both = and_true (top_fits k s) (regions_in_order (next_region k s) rest) h in
      let free = or_parts (has_call s) (list_any has_call rest) none in
      let first = each_front (rests_of s (rest ++ [])) (rests rest []) each in
      let later = link_main (next_region k s) rest both.1 free.1 here (each_back (rests_of s (rest ++ [])) (rests rest []) each) in (
        first_of_rests s (rest ++ []) free.0 first,
        fit-append (table_of p s (entry rest end) 0 0) (table p rest end 0 0) (rests_of s (rest ++ [])) (rests rest [])
            (subst (λ (k : ℕ). Fit (table_of p s k 0 0) (rests_of s (rest ++ []))) (entry-append rest [] end)
            (link_top k s (rest ++ []) both.0 free.0 later.0 first)) later.1,
      )
