-- Each region of an expanded program has its entry in the table, with the numbers of its sites.
use Rattle.std.proofs.Common.{◌≡◌, refl, sym, ap, ◌∙◌, ℕ, suc, ◌+◌, ◌==◌, Bool, true, false, List, [], ◌∷◌, ◌++◌, length, append_assoc, append-nil, arith}
use Rattle.std.specs.List.{list_all}
use Rattle.std.proofs.lemmas.Bool.{eq-eqb}
use Rattle.dp_base.specs.declared.SiteId.{SiteId}
use Rattle.dp_tree.specs.declared.Expr.{Expr}
use Rattle.dp_tree.specs.declared.Stmt.{Stmt}
use Rattle.dp_tree.specs.declared.Stmt.TheVariants as stmt
use Rattle.dp_tree.specs.declared.RegionInfo.{RegionInfo}
use Rattle.dp_tree.specs.declared.Program.{Program}
use Rattle.dp_tree.specs.Step.{line_of}
use Rattle.dp_tree.specs.Numbering.{site_numbers, site_numbers_in, site_numbers_all, numbers_from, is_plain, is_inner_in, top_fits, next_region}
use Rattle.dp_tree.specs.Numbering.{regions_in_order, is_marked, has_numbers, listed_first, regions_listed}
use Rattle.dp_tree.specs.Checked.{IsChecked}
use Rattle.dp_tree.proofs.Heads.{opened_statement, and_true, and_make}
use Rattle.dp_calls.specs.Renaming.{Renamed, renamed}
use Rattle.dp_calls.specs.Tables.{Tables, first_tables, with_source_site, new_site}
use Rattle.dp_calls.specs.Expand.{Piece, Calls, expand, expand_one, expand_rows, expand_list, calls_within}
use Rattle.dp_calls.proofs.SiteLaws.{Numbered, is_site, Listed, listed_parts, grows, numbered_rows, numbered_within, all_listed}
use Rattle.dp_calls.proofs.PlainLaws.{Plain, inner_rows, plain_one, plain_within}
use Rattle.dp_tree.proofs.NumberLists.{length-numbers_from}
use Rattle.dp_tree.proofs.SiteForms.{numbers-Region}

unmarked : (s : Stmt) → is_plain s ≡ true → is_marked s ≡ false
unmarked (stmt.Region' q site cond _ a) h = absurd (cc)
unmarked (stmt.Break site cond) h = absurd (cc)
unmarked _ h = refl

marked : (q : ℕ) (site : SiteId) (cond : Expr) (a : List Stmt) → is_marked (stmt.Region q site cond a) ≡ true
unfolding opened_statement
marked q site cond a = refl

plain_listed : (a b : List Stmt) (regions : List RegionInfo) → list_all is_plain a ≡ true → regions_listed (a ++ b) regions ≡ regions_listed b regions
plain_listed [] b regions h = refl
plain_listed (s ∷ a) b regions h =
    let both = and_true (is_plain s) (list_all is_plain a) h in
    ap (λ (m : Bool). listed_first m s (regions_listed (a ++ b)) regions) (unmarked s both.0) ∙ plain_listed a b regions both.1

-- the entry of a region whose sites are numbered from this one on
entry_fits : (info : RegionInfo) (numbers : List ℕ) (first n : ℕ) → numbers ≡ first ∷ numbers_from (first + 1) n → info.first.0 ≡ first →
    info.last.0 ≡ first + n → has_numbers info numbers ≡ true
entry_fits info numbers first n e f l =
    ap (has_numbers info) e
    ∙ and_make (info.first.0 == first) (info.last.0 == first + length (numbers_from (first + 1) n)) (eq-eqb info.first.0 first f)
    (eq-eqb info.last.0 (first + length (numbers_from (first + 1) n)) (l ∙ ap (λ k. first + k) (sym (length-numbers_from (first + 1) n))))

module _ (p : Program) (calls : Calls) (plain : (f r : ℕ) (names : List Renamed) (t : Tables) → Plain t (calls f r names t))
    (numbered : (f r : ℕ) (names : List Renamed) (t : Tables) → Numbered t (calls f r names t)) where
  -- these entries are added for the regions of the piece
  abbrev Entries : Tables → Piece → Type 0
  Entries t a = (more : List RegionInfo) × ((a.tables.regions ≡ t.regions ++ more) × (regions_listed a.code more ≡ true))

  abbrev Lists : List Stmt → Type 0
  Lists all = (r : ℕ) (names : List Renamed) (t : Tables) → regions_in_order r all ≡ true → Listed p (site_numbers_all all) →
      Entries t (expand_list p calls 0 all names t)

  entries_plain : (s : Stmt) (rest : List Stmt) → Lists rest → (r : ℕ) (names : List Renamed) (t : Tables) → is_plain s ≡ true →
      regions_in_order r rest ≡ true → Listed p (site_numbers_all rest)
      → Entries t (expand_list p calls 0 (s ∷ rest) names t)
  entries_plain s rest go r names t h k l =
      let one = expand_one p calls 0 s names t in let own = plain_one p calls plain 0 s names t h in
      let next = go r one.names one.tables k l in let after = (expand_list p calls 0 rest one.names one.tables).code in
      (next.0, (next.1.0 ∙ ap (λ (xs : List RegionInfo). xs ++ next.0) own.1, plain_listed one.code after next.0 own.0 ∙ next.1.1))

  entries_top : (s : Stmt) (rest : List Stmt) → Lists rest → (r : ℕ) (names : List Renamed) (t : Tables) → top_fits r s ≡ true →
      regions_in_order (next_region r s) rest ≡ true
      → Listed p (site_numbers s) → Listed p (site_numbers_all rest) → Entries t (expand_list p calls 0 (s ∷ rest) names t)
  entries_top (stmt.Region' q site cond c a) rest go r names t h k own l =
      let both = and_true (q == r) (is_inner_in a) h in
      let listed = and_true (is_site p site.0) (list_all (is_site p) (site_numbers_in a)) own in
      let u = with_source_site p q site t in let body = expand_rows p calls q a names u in
      let inner = inner_rows p calls plain q a names u both.1 in let counted = numbered_rows p calls numbered q a names u listed.1 in
      let grown : length u.sites ≡ suc (length t.sites) = grows p q site t listed.0 in
      let one = expand_one p calls 0 (stmt.Region' q site cond c a) names t in
      let s = stmt.Region q (new_site t) (renamed names cond) body.code in
      let info : RegionInfo = record { line = line_of p site; first = new_site t; last = record { 0 = length body.tables.sites } } in
      let next = go (r + 1) one.names one.tables k l in
      let after = (expand_list p calls 0 rest one.names one.tables).code in let n = counted.0 in
      let from : suc (length u.sites) ≡ suc (length t.sites) + 1 = omega (arith, grown) in
      let last : length body.tables.sites ≡ suc (length t.sites) + n = let e = counted.1.1 in omega (arith, e, grown) in
      let numbers : site_numbers s ≡ suc (length t.sites) ∷ numbers_from (suc (length t.sites) + 1) n =
      numbers-Region q (new_site t) (renamed names cond) body.code ∙ ap (λ (xs : List ℕ). suc (length t.sites) ∷ xs) (counted.1.0
      ∙ ap (λ j. numbers_from j n) from) in
      let fits = entry_fits info (site_numbers s) (suc (length t.sites)) n numbers refl last in (
        info ∷ next.0,
        (
          next.1.0 ∙ append_assoc body.tables.regions (info ∷ []) next.0 ∙ ap (λ (xs : List RegionInfo). xs ++ (info ∷ next.0)) inner.1,
          ap (λ (m : Bool). listed_first m s (regions_listed after) (info ∷ next.0)) (marked q (new_site t) (renamed names cond) body.code)
              ∙ and_make (has_numbers info (site_numbers s)) (regions_listed after next.0) fits next.1.1,
        ),
      )
  entries_top (stmt.Break site cond) rest go r names t h k own l = absurd (cc)
  entries_top s rest go r names t h k own l = entries_plain s rest go r names t h k l

  entries_list : (all : List Stmt) → Lists all
  entries_list [] r names t h l = ([], (sym (append-nil t.regions), refl))
  entries_list (s ∷ rest) r names t h l =
      let both = and_true (top_fits r s) (regions_in_order (next_region r s) rest) h in
      let parts = listed_parts p (site_numbers s) (site_numbers_all rest) l in
      entries_top s rest (entries_list rest) r names t both.0 both.1 parts.0 parts.1

pub regions_in_table : (p : Program) → IsChecked p → regions_listed (expand p).main (expand p).regions ≡ true
regions_in_table p checked =
    let depth = length p.functions in
    let whole = entries_list p (calls_within p depth) (plain_within p checked depth) (numbered_within p checked depth) p.main 1 [] (first_tables p)
    checked.regions (all_listed p checked).0 in
    ap (regions_listed (expand p).main) whole.1.0 ∙ whole.1.1
