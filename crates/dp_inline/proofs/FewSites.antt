-- A program that isn't too large has few sites with its calls expanded, and few in each region.
use Rattle.std.proofs.Common.{◌≡◌, refl, sym, ap, ◌∙◌, ℕ, zero, suc, ◌+◌, ◌≤◌, ◌==◌, Bool, true, false, if◌then◌else◌, List, [], ◌∷◌, ◌++◌, length}
use Rattle.std.proofs.Common.{append_assoc, append-nil, Option, Some, None, Ok, slice_get, nat_lt, arith}
use Rattle.std.specs.List.{list_all}
use Rattle.std.proofs.lemmas.Bool.{ltb-false, lt-ltb}
use Rattle.dp_base.specs.declared.Quantity.TheVariants.{InlinedSize, RegionSites}
use Rattle.dp_base.specs.Counts.{reported_count}
use Rattle.dp_tree.specs.declared.RegionInfo.{RegionInfo}
use Rattle.dp_tree.specs.declared.Stmt.{Stmt, Row_of-Stmt, end_of-Stmt, more_of-Stmt}
use Rattle.dp_tree.specs.declared.Stmt.TheVariants as stmt
use Rattle.dp_tree.specs.declared.Program.{Program}
use Rattle.dp_tree.specs.Step.{line_of}
use Rattle.dp_tree.specs.Functions.{body_in}
use Rattle.dp_tree.specs.Numbering.{site_numbers, site_numbers_in, site_numbers_all, is_plain, is_inner_in, top_fits, next_region, regions_in_order}
use Rattle.dp_tree.specs.Numbering.{is_small_region}
use Rattle.dp_tree.specs.Scoping.{knows, in_scope, rows_in_scope, all_in_scope, seen_behind, global_numbers}
use Rattle.dp_tree.specs.Checked.{IsChecked}
use Rattle.dp_tree.specs.Inlined.{IsInlined}
use Rattle.dp_tree.proofs.Heads.{and_true, and_make}
use Rattle.dp_calls.specs.Renaming.{Renamed}
use Rattle.dp_calls.specs.Tables.{Tables, first_tables, with_source_site, new_site}
use Rattle.dp_calls.specs.Expand.{Piece, expand, expand_one, expand_rows, expand_list, calls_within}
use Rattle.dp_calls.proofs.InlinedLaws.{expanded_is_inlined}
use Rattle.dp_calls.proofs.SiteLaws.{is_site, Listed, listed_parts, grows, all_listed}
use Rattle.dp_calls.proofs.PlainLaws.{inner_rows, plain_one, plain_within}
use Rattle.dp_calls.proofs.CheckedTexts.{scoped_both}
use Rattle.dp_inline.specs.declared.fail.InlineFail.{InlineFail}
use Rattle.dp_inline.specs.declared.fail.InlineFail.TheVariants.{Limit}
use Rattle.dp_inline.specs.Size.{size_one, size_rows, size_list, size_within, inlined_size, region_size}
use Rattle.dp_inline.specs.InlineAnswer.{unless_refused, too_large, first_large_region, inline_answer}
use Rattle.dp_inline.proofs.SiteCount.{count_rows, count_within, sites_counted}

-- a count in which a call itself counts nothing is the smaller one
module _ (a b : ℕ → ℕ) (fewer : (f : ℕ) → a f ≤ b f) where
  mutual
    fewer_one : (s : Stmt) → size_one 0 a s ≤ size_one 1 b s
    fewer_one (stmt.Assign site x e) = omega arith
    fewer_one (stmt.Store site x index e) = omega arith
    fewer_one (stmt.Print site e) = omega arith
    fewer_one (stmt.If' site c _ t _ u) = let k = fewer_rows t in let l = fewer_rows u in omega (arith, k, l)
    fewer_one (stmt.While' site c _ t) = let k = fewer_rows t in omega (arith, k)
    fewer_one (stmt.Region' r site c _ t) = let k = fewer_rows t in omega (arith, k)
    fewer_one (stmt.Break site c) = omega arith
    fewer_one (stmt.Call f line args) = let k = fewer f in omega (arith, k)

    fewer_rows : {n : _} (rows : Row_of-Stmt n) → size_rows 0 a rows ≤ size_rows 1 b rows
    fewer_rows end_of-Stmt = omega arith
    fewer_rows (more_of-Stmt s rest) = let k = fewer_one s in let l = fewer_rows rest in omega (arith, k, l)

  fewer_list : (xs : List Stmt) → size_list 0 a xs ≤ size_list 1 b xs
  fewer_list [] = omega arith
  fewer_list (s ∷ rest) = let k = fewer_one s in let l = fewer_list rest in omega (arith, k, l)

fewer_within : (p : Program) (depth f : ℕ) → size_within p 0 depth f ≤ size_within p 1 depth f
fewer_within p zero f = omega arith
fewer_within p (suc depth) f = fewer_list (size_within p 0 depth) (size_within p 1 depth) (fewer_within p depth) (body_in (slice_get p.functions f))

-- what is answered where a program is given
nothing_large : (a b : Option InlineFail) (x q : Program) → unless_refused a (unless_refused b (Ok x)) ≡ Ok q → (a ≡ None) × (b ≡ None)
nothing_large None None x q e = (refl, refl)
nothing_large _ _ x q e = absurd (cc)

-- a limit that isn't passed, and what is asked behind it
not_passed : (b : Bool) (fail : InlineFail) (rest : Option InlineFail) → (if b then Some fail else rest) ≡ None → (b ≡ false) × (rest ≡ None)
not_passed true fail rest e = absurd (cc)
not_passed false fail rest e = (refl, e)

module _ (p : Program) (checked : IsChecked p) where
  abbrev depth : ℕ
  depth = length p.functions

  few_sites : too_large p ≡ None → length (expand p).sites ≤ 8192
  few_sites none =
      let small = ltb-false 8192 (inlined_size p)
      (not_passed (nat_lt 8192 (inlined_size p)) (Limit InlinedSize (reported_count (inlined_size p))) None none).0 in
      let fewer = fewer_list (size_within p 0 depth) (size_within p 1 depth) (fewer_within p depth) p.main in
      omega (arith, small, fewer, sites_counted p checked)

  -- these entries are added for the regions of the piece, and none has too many sites
  abbrev Small : Tables → Piece → Type 0
  Small t a = (more : List RegionInfo) × ((a.tables.regions ≡ t.regions ++ more) × (list_all is_small_region more ≡ true))

  abbrev KeepsSmall : List Stmt → Type 0
  KeepsSmall all = (r : ℕ) (visible : List ℕ) (names : List Renamed) (t : Tables) → regions_in_order r all ≡ true → Listed p (site_numbers_all all) →
      all_in_scope p 0 depth visible all ≡ true
      → first_large_region p all ≡ None → Small t (expand_list p (calls_within p depth) 0 all names t)

  small_plain : (s : Stmt) (rest : List Stmt) → KeepsSmall rest → (r : ℕ) (visible : List ℕ) (names : List Renamed) (t : Tables) → is_plain s ≡ true →
      regions_in_order r rest ≡ true → Listed p (site_numbers_all rest)
      → all_in_scope p 0 depth visible rest ≡ true → first_large_region p rest ≡ None → Small t (expand_list p (calls_within p depth) 0 (s ∷ rest) names t)
  small_plain s rest go r visible names t h k l scoped none =
      let one = expand_one p (calls_within p depth) 0 s names t in
      let own = plain_one p (calls_within p depth) (plain_within p checked depth) 0 s names t h in
      let next = go r visible one.names one.tables k l scoped none in
      (next.0, (next.1.0 ∙ ap (λ (xs : List RegionInfo). xs ++ next.0) own.1, next.1.1))

  small_top : (s : Stmt) (rest : List Stmt) → KeepsSmall rest → (r : ℕ) (visible : List ℕ) (names : List Renamed) (t : Tables) → top_fits r s ≡ true →
      regions_in_order (next_region r s) rest ≡ true
      → Listed p (site_numbers s) → Listed p (site_numbers_all rest) → in_scope p 0 depth visible s ≡ true →
      all_in_scope p 0 depth (seen_behind visible s) rest ≡ true
      → nat_lt 1024 (region_size p s) ≡ false → first_large_region p rest ≡ None → Small t (expand_list p (calls_within p depth) 0 (s ∷ rest) names t)
  small_top (stmt.Assign site x e) rest go r visible names t h k own l scope scoped small none =
      small_plain (stmt.Assign site x e) rest go r (seen_behind visible (stmt.Assign site x e)) names t h k l scoped none
  small_top (stmt.Region' q site cond c a) rest go r visible names t h k own l scope scoped small none =
      let u = with_source_site p q site t in let body = expand_rows p (calls_within p depth) q a names u in
      let listed = and_true (is_site p site.0) (list_all (is_site p) (site_numbers_in a)) own in
      let inner = inner_rows p (calls_within p depth) (plain_within p checked depth) q a names u (and_true (q == r) (is_inner_in a) h).1 in
      let grown : length u.sites ≡ suc (length t.sites) = grows p q site t listed.0 in
      let counted = count_rows p (calls_within p depth) (size_within p 0 depth) (count_within p checked depth) q a names u listed.1 q depth visible
      (and_true (knows visible cond) (rows_in_scope p q depth visible a) scope).1 in
      let few = ltb-false 1024 (1 + size_rows 0 (size_within p 0 depth) a) small in
      let info : RegionInfo = record { line = line_of p site; first = new_site t; last = record { 0 = length body.tables.sites } } in
      let fits : is_small_region info ≡ true = lt-ltb info.last.0 (info.first.0 + 1024) (omega (arith, grown, counted, few)) in
      let one = expand_one p (calls_within p depth) 0 (stmt.Region' q site cond c a) names t in
      let next = go (r + 1) visible one.names one.tables k l scoped none in (
        info ∷ next.0,
        (
          next.1.0 ∙ append_assoc body.tables.regions (info ∷ []) next.0 ∙ ap (λ (xs : List RegionInfo). xs ++ (info ∷ next.0)) inner.1,
          and_make (is_small_region info) (list_all is_small_region next.0) fits next.1.1,
        ),
      )
  small_top (stmt.Break site cond) rest go r visible names t h k own l scope scoped small none = absurd (cc)
  small_top s rest go r visible names t h k own l scope scoped small none = small_plain s rest go r visible names t h k l scoped none

  small_list : (all : List Stmt) → KeepsSmall all
  small_list [] r visible names t h l scoped none = ([], (sym (append-nil t.regions), refl))
  small_list (s ∷ rest) r visible names t h l scoped none =
      let both = and_true (top_fits r s) (regions_in_order (next_region r s) rest) h in
      let parts = listed_parts p (site_numbers s) (site_numbers_all rest) l in
      let scope = and_true (in_scope p 0 depth visible s) (all_in_scope p 0 depth (seen_behind visible s) rest) scoped in
      let small = not_passed (nat_lt 1024 (region_size p s)) (Limit RegionSites (reported_count (region_size p s))) (first_large_region p rest) none in
      small_top s rest (small_list rest) r visible names t both.0 both.1 parts.0 parts.1 scope.0 scope.1 small.0 small.1

  few_in_regions : first_large_region p p.main ≡ None → list_all is_small_region (expand p).regions ≡ true
  few_in_regions none =
      let whole = small_list p.main 1 (global_numbers p) [] (first_tables p) checked.regions (all_listed p checked).0 (scoped_both p checked).1 none in
      ap (list_all is_small_region) whole.1.0 ∙ whole.1.1

  -- the expansion is as later parts ask for it
  pub given_is_inlined : (q : Program) → inline_answer p ≡ Ok q → IsInlined (expand p)
  unfolding inline_answer
  given_is_inlined q given =
      let small = nothing_large (too_large p) (first_large_region p p.main) (expand p) q given in
      expanded_is_inlined p checked (few_sites small.0) (few_in_regions small.1)
