-- What is refused, from the counts.
use Rattle.std.proofs.Common.{◌≡◌, refl, sym, ap, ◌∙◌, ℕ, ◌≤◌, ◌<◌, Bool, true, false, if◌then◌else◌, List, [], ◌∷◌, length, Option, Some, None, Result, nat_lt}
use Rattle.std.proofs.Common.{arith}
use Rattle.std.proofs.lemmas.Bool.{lt-ltb, le-ltb}
use Rattle.std.proofs.lemmas.Bool.Decides.{nat_tests}
use Rattle.dp_base.specs.declared.Quantity.TheVariants.{InlinedSize, RegionSites}
use Rattle.dp_base.specs.Counts.{reported_count}
use Rattle.dp_tree.specs.declared.Stmt.{Stmt}
use Rattle.dp_tree.specs.declared.Program.{Program}
use Rattle.dp_tree.specs.Numbering.{is_marked}
use Rattle.dp_tree.specs.Scoping.{in_scope, all_in_scope, seen_behind, global_numbers}
use Rattle.dp_tree.specs.Checked.{IsChecked}
use Rattle.dp_tree.proofs.Heads.{and_true}
use Rattle.dp_calls.proofs.CheckedTexts.{scoped_both}
use Rattle.dp_inline.specs.declared.fail.InlineFail.{InlineFail}
use Rattle.dp_inline.specs.declared.fail.InlineFail.TheVariants.{Limit}
use Rattle.dp_inline.specs.Size.{size_one, size_within, counts_if, inlined_size, region_size}
use Rattle.dp_inline.specs.InlineAnswer.{unless_refused, too_large, first_large_region}
use Rattle.dp_inline.specs.steps.Counted.{counted, counted_one, counted_list, counted_region, first_large}
use Rattle.dp_inline.proofs.SizeForms.{all_sizes, sizes_agree, main_size, agree_one}

-- both are above a limit or neither is, if they are reported alike
same_test : (m n : ℕ) → reported_count m ≡ reported_count n → nat_lt 1024 m ≡ nat_lt 1024 n
same_test m n e = grind (arith, nat_tests)

abbrev pub limit_of : Option ℕ → Option InlineFail
limit_of None = None
limit_of (Some count) = Some (Limit RegionSites count)

module _ (p : Program) (checked : IsChecked p) where
  pub is_large : (count : ℕ) → count ≡ reported_count (counted_list 1 (all_sizes 1 p) p.main) → 8192 < count → too_large p ≡ Some (Limit InlinedSize count)
  is_large count is above =
      let same = main_size 1 p checked in let e : count ≡ reported_count (inlined_size p) = is ∙ same in
      let over : 8192 < inlined_size p = omega (arith, e) in
      ap (λ (b : Bool). if b then Some (Limit InlinedSize (reported_count (inlined_size p))) else None) (lt-ltb 8192 (inlined_size p) over)
      ∙ ap (λ n. Some (Limit InlinedSize n)) (sym e)

  pub is_small : (count : ℕ) → count ≡ reported_count (counted_list 1 (all_sizes 1 p) p.main) → count ≤ 8192 → too_large p ≡ None
  is_small count is within =
      let same = main_size 1 p checked in let e : count ≡ reported_count (inlined_size p) = is ∙ same in
      let under : inlined_size p ≤ 8192 = omega (arith, e) in
      ap (λ (b : Bool). if b then Some (Limit InlinedSize (reported_count (inlined_size p))) else None) (le-ltb 8192 (inlined_size p) under)

  region_alike : (visible : List ℕ) (s : Stmt) → in_scope p 0 (length p.functions) visible s ≡ true →
      reported_count (counted_region (all_sizes 0 p) s) ≡ reported_count (region_size p s)
  unfolding counted_one
  region_alike visible s h = by (is_marked s)
    where
      by : (b : Bool) → reported_count (counts_if b (size_one 0 (counted (all_sizes 0 p)) s)) ≡ reported_count
          (counts_if b (size_one 0 (size_within p 0 (length p.functions)) s))
      by true = agree_one 0 p (length p.functions) (counted (all_sizes 0 p)) (size_within p 0 (length p.functions)) (sizes_agree 0 p checked) 0 visible s h
      by false = refl

  regions_alike : (visible : List ℕ) (all : List Stmt) → all_in_scope p 0 (length p.functions) visible all ≡ true →
      first_large_region p all ≡ limit_of (first_large (all_sizes 0 p) all)
  regions_alike visible [] h = refl
  regions_alike visible (s ∷ rest) h =
      let both = and_true (in_scope p 0 (length p.functions) visible s) (all_in_scope p 0 (length p.functions) (seen_behind visible s) rest) h in
      let m = counted_region (all_sizes 0 p) s in let e = region_alike visible s both.0 in
      let next = regions_alike (seen_behind visible s) rest both.1 in
      (λ i. if same_test (region_size p s) m (sym e) i then Some (Limit RegionSites (sym e i)) else next i)
      ∙ out (nat_lt 1024 m) (reported_count m) (first_large (all_sizes 0 p) rest)
    where
      out : (b : Bool) (n : ℕ) (o : Option ℕ) → (if b then Some (Limit RegionSites n) else limit_of o) ≡ limit_of (if b then Some n else o)
      out true n o = refl
      out false n o = refl

  pub large_regions : first_large_region p p.main ≡ limit_of (first_large (all_sizes 0 p) p.main)
  large_regions = regions_alike (global_numbers p) p.main (scoped_both p checked).1

-- what is answered without a region that is too large
pub answers : {X : Type 0} (first second : Option InlineFail) (x : Result X InlineFail) → first ≡ None →
    unless_refused first (unless_refused second x) ≡ unless_refused second x
answers first second x e = ap (λ (o : Option InlineFail). unless_refused o (unless_refused second x)) e
