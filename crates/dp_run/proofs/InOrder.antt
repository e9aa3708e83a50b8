-- A region of `main` stands there once, and behind it come those with greater numbers.
use Rattle.std.proofs.Common.{◌≡◌, sym, ap, ◌∙◌, ℕ, suc, zero, ◌+◌, ◌<◌, ◌≤◌, true, false, List, [], ◌∷◌, ◌++◌, Option, Some, None, eqb-true, arith}
use Rattle.std.proofs.lemmas.Bool.{and_parts, both_ways}
use Rattle.std.proofs.lemmas.List.Elements.{filter_map-append}
use Rattle.std.specs.List.{cons_option, list_all}
use Rattle.dp_tree.specs.declared.Stmt.{Stmt, out-Stmt}
use Rattle.dp_tree.specs.declared.Stmt.TheOpen.{Stmt-F, Region}
use Rattle.dp_tree.specs.declared.Program.{Program}
use Rattle.dp_tree.specs.InMain.{StandsInMain}
use Rattle.dp_tree.specs.Iteration.{begins_with, is_region, stands_at_head}
use Rattle.dp_tree.specs.Numbering.{is_inner, numbers_from}
use Rattle.dp_tree.specs.RegionLaws.{is_other_site, keeps}
use Rattle.dp_tree.specs.Step.{Config, region_number}
use Rattle.dp_tree.proofs.Heads.{and_true, keeps_all, keeps_out, no_region, standing_to_do}
use Rattle.dp_theorem.proofs.Placed.{not_at_head}
use Rattle.dp_theorem.proofs.Regions.{inner_free}
use Rattle.dp_run.specs.Regions.{number_of_region, regions_left}
use Rattle.dp_run.proofs.RegionsLeft.{left_cons}

-- ---- numbers

pub number_at : (r : ℕ) (h : Stmt-F Stmt) → is_region r h ≡ true → region_number h ≡ Some r
number_at r (Region q site cond body) e = ap Some (eqb-true q r e)
number_at r h e = absurd (cc e)

pub within_numbers : (xs ys : List ℕ) (first count r : ℕ) → numbers_from first count ≡ xs ++ r ∷ ys → (first ≤ r) × (r < first + count)
within_numbers [] ys first zero r e = absurd (cc e)
within_numbers (x ∷ xs) ys first zero r e = absurd (cc e)
within_numbers [] ys first (suc count) r e = let same : first ≡ r = cc e in (omega (arith, same), omega (arith, same))
within_numbers (x ∷ xs) ys first (suc count) r e =
    let more : numbers_from (first + 1) count ≡ xs ++ r ∷ ys = cc e in let w = within_numbers xs ys (first + 1) count r more in
    (omega (arith, w.0), omega (arith, w.1))

-- a later number is a greater one
ascending : (q r : ℕ) (xs ys : List ℕ) (first count : ℕ) → numbers_from first count ≡ q ∷ (xs ++ r ∷ ys) → q < r
ascending q r xs ys first zero e = absurd (cc e)
ascending q r xs ys first (suc count) e =
    let same : first ≡ q = cc e in let more : numbers_from (first + 1) count ≡ xs ++ r ∷ ys = cc e in let w = within_numbers xs ys (first + 1) count r more in
    omega (arith, same, w.0)

numbers_on : (o : Option ℕ) (ns : List ℕ) (first count : ℕ) → cons_option o ns ≡ numbers_from first count → (k : ℕ) × (more : ℕ) × (ns ≡ numbers_from k more)
numbers_on None ns first count e = (first, count, e)
numbers_on (Some q) ns first zero e = absurd (cc e)
numbers_on (Some q) ns first (suc count) e = let rest : ns ≡ numbers_from (first + 1) count = cc e in (first + 1, count, rest)

pub left_join : (a b : List Stmt) → regions_left (a ++ b) ≡ regions_left a ++ regions_left b
left_join a b = filter_map-append number_of_region a b

-- ---- where a region is at the head

-- what is left to do is `main` from the region's statement on
pub record StandsAt (p : Program) (r : ℕ) (c : Config) : Type 0 where
  pub before : List Stmt
  pub statement : Stmt
  pub rest : List Stmt
  pub main_is : p.main ≡ before ++ statement ∷ rest
  pub at : is_region r (out-Stmt statement) ≡ true
  pub left : c.to_do ≡ statement ∷ rest

pub stands_at_region : (p : Program) (r : ℕ) (c : Config) → StandsInMain p c → stands_at_head r c ≡ true → StandsAt p r c
stands_at_region p r c s on = by s.inner s.behind s.plain s.main_is (ap (λ (d : Config). d.to_do) s.config_is ∙ standing_to_do p (s.inner ++ s.behind) s.cells)
  where
    by : (inner behind : List Stmt) → list_all is_inner inner ≡ true → p.main ≡ s.before ++ behind → c.to_do ≡ inner ++ behind → StandsAt p r c
    by [] [] plain main left = let none : false ≡ true = sym (ap (begins_with r) left) ∙ on in absurd (cc none)
    by [] (x ∷ rest) plain main left =
        record { before = s.before; statement = x; rest = rest; main_is = main; at = sym (ap (begins_with r) left) ∙ on; left = left }
    by (y ∷ inner) behind plain main left =
        absurd (both_ways (is_region r (out-Stmt y)) (not_at_head r y (inner_free r y (and_parts (is_inner y) (list_all is_inner inner) plain).0))
        (sym (ap (begins_with r) left) ∙ on))

module _ (p : Program) (r : ℕ) where
  other : (y : Stmt) → keeps (is_other_site p r) r y ≡ true → is_region r (out-Stmt y) ≡ true → ⊥
  other y k e = let clash : true ≡ false = sym e ∙ no_region (is_other_site p r) r (out-Stmt y) (sym (keeps_out (is_other_site p r) r y) ∙ k) in cc clash

  kept_behind : (before xs : List Stmt) → keeps_all (is_other_site p r) r (before ++ xs) ≡ true → keeps_all (is_other_site p r) r xs ≡ true
  kept_behind [] xs h = h
  kept_behind (y ∷ before) xs h = kept_behind before xs (and_true (keeps (is_other_site p r) r y) (keeps_all (is_other_site p r) r (before ++ xs)) h).1

  module _ (region : Stmt) (here : is_region r (out-Stmt region) ≡ true) (behind : List Stmt) (kept : keeps_all (is_other_site p r) r behind ≡ true) (x : Stmt)
      (rest : List Stmt) where
    -- it stands at one place
    pub one_place : is_region r (out-Stmt x) ≡ true → (before front : List Stmt) → keeps_all (is_other_site p r) r front ≡ true → before ++ x ∷ rest ≡ front
        ++ region ∷ behind → x ∷ rest ≡ region ∷ behind
    one_place at [] [] k e = e
    one_place at [] (y ∷ front) k e =
        let same : x ≡ y = cc e in
        absurd (other y (and_true (keeps (is_other_site p r) r y) (keeps_all (is_other_site p r) r front) k).0
        (ap (λ (s : Stmt). is_region r (out-Stmt s)) (sym same) ∙ at))
    one_place at (z ∷ before) [] k e =
        let same : before ++ x ∷ rest ≡ behind = cc e in
        absurd (other x (and_true (keeps (is_other_site p r) r x) (keeps_all (is_other_site p r) r rest)
        (kept_behind before (x ∷ rest) (ap (keeps_all (is_other_site p r) r) same ∙ kept))).0 at)
    one_place at (z ∷ before) (y ∷ front) k e =
        let same : before ++ x ∷ rest ≡ front ++ region ∷ behind = cc e in
        one_place at before front (and_true (keeps (is_other_site p r) r y) (keeps_all (is_other_site p r) r front) k).1 same

    -- from a later region on it doesn't stand
    pub none_later : (q : ℕ) → r < q → is_region q (out-Stmt x) ≡ true → (before front : List Stmt) (first count : ℕ) →
        regions_left (front ++ region ∷ behind) ≡ numbers_from first count →
        before ++ x ∷ rest ≡ front ++ region ∷ behind → keeps_all (is_other_site p r) r (x ∷ rest) ≡ true
    none_later q less at [] [] first count numbers e =
        let same : x ≡ region = cc e in
        let both : Some q ≡ Some r = sym (number_at q (out-Stmt x) at) ∙ ap number_of_region same ∙ number_at r (out-Stmt region) here in
        let one : q ≡ r = cc both in absurd (omega (arith, less, one))
    none_later q less at [] (y ∷ front) first count numbers e =
        let same : x ≡ y = cc e in
        let number : number_of_region y ≡ Some q = ap number_of_region (sym same) ∙ number_at q (out-Stmt x) at in
        let listed : numbers_from first count ≡ q ∷ (regions_left front ++ r ∷ regions_left behind) =
        sym numbers ∙ left_cons y (front ++ region ∷ behind) (Some q) number
        ∙ ap (λ (ns : List ℕ). q ∷ ns) (left_join front (region ∷ behind)
        ∙ ap (λ (ns : List ℕ). regions_left front ++ ns) (left_cons region behind (Some r) (number_at r (out-Stmt region) here))) in
        absurd (omega (arith, less, ascending q r (regions_left front) (regions_left behind) first count listed))
    none_later q less at (z ∷ before) [] first count numbers e =
        let same : before ++ x ∷ rest ≡ behind = cc e in kept_behind before (x ∷ rest) (ap (keeps_all (is_other_site p r) r) same ∙ kept)
    none_later q less at (z ∷ before) (y ∷ front) first count numbers e =
        let same : before ++ x ∷ rest ≡ front ++ region ∷ behind = cc e in
        let on = numbers_on (number_of_region y) (regions_left (front ++ region ∷ behind)) first count numbers in
        none_later q less at before front on.0 on.1 on.2 same
