-- The regions of an inlined program are numbered from 1 in the order in which they stand.
use Rattle.std.proofs.Common.{◌≡◌, refl, sym, ap, ◌∙◌, ℕ, ◌+◌, ◌==◌, eq-eqb, Bool, true, false, List, [], ◌∷◌, length, Some, None, eqb-true}
use Rattle.std.proofs.lemmas.Bool.{and_parts}
use Rattle.dp_tree.specs.declared.Stmt.{Stmt, out-Stmt}
use Rattle.dp_tree.specs.declared.Stmt.TheBlock.{hidden-the_row-Stmt-0}
use Rattle.dp_tree.specs.declared.Stmt.TheOpen.{Stmt-F, Region}
use Rattle.dp_tree.specs.declared.RegionInfo.{RegionInfo}
use Rattle.dp_tree.specs.declared.Program.{Program}
use Rattle.dp_tree.specs.Iteration.{is_region}
use Rattle.dp_tree.specs.Numbering.{is_marked, is_inner_in, listed_first, has_numbers, site_numbers, top_fits, next_region, regions_in_order, regions_listed}
use Rattle.dp_tree.specs.Numbering.{numbers_from}
use Rattle.dp_tree.specs.Inlined.{IsInlined}
use Rattle.dp_tree.specs.Step.{region_number}
use Rattle.dp_plan.proofs.TopStatements.{Top, marked, unmarked, top}
use Rattle.dp_run.specs.Regions.{number_of_region, regions_left}
use Rattle.dp_run.proofs.RegionsLeft.{left_cons}

-- a statement that is no region has no number
unnumbered : (h : Stmt-F Stmt) → ((r : ℕ) → is_region r h ≡ false) → region_number h ≡ None
unnumbered (Region q site cond body) none = let clash : true ≡ false = sym (eq-eqb q q refl) ∙ none q in absurd (cc clash)
unnumbered _ none = refl

module _ (s : Stmt) (rest : List Stmt)
    (go : (k : ℕ) (entries : List RegionInfo) → regions_in_order k rest ≡ true → regions_listed rest entries ≡ true → regions_left rest ≡ numbers_from k (length
    entries)) where
  at_region : (q k : ℕ) (entries : List RegionInfo) → number_of_region s ≡ Some q → next_region k s ≡ k + 1 → q ≡ k →
      regions_in_order (next_region k s) rest ≡ true → listed_first true s (regions_listed rest) entries ≡ true →
      regions_left (s ∷ rest) ≡ numbers_from k (length entries)
  at_region q k [] is next number order listed = absurd (cc listed)
  at_region q k (entry ∷ entries) is next number order listed =
      let both = and_parts (has_numbers entry (site_numbers s)) (regions_listed rest entries) listed in
      left_cons s rest (Some k) (is ∙ ap Some number)
      ∙ ap (λ (ns : List ℕ). k ∷ ns) (go (k + 1) entries (ap (λ (n : ℕ). regions_in_order n rest) (sym next) ∙ order) both.1)

  at_top : Top s → (k : ℕ) (entries : List RegionInfo) → top_fits k s ≡ true → regions_in_order (next_region k s) rest ≡ true →
      listed_first (is_marked s) s (regions_listed rest) entries ≡ true → regions_left (s ∷ rest) ≡ numbers_from k (length entries)
  at_top (unmarked none off next fit) k entries fits order listed =
      left_cons s rest None (unnumbered (out-Stmt s) none) ∙ go k entries (ap (λ (n : ℕ). regions_in_order n rest) (sym (next k)) ∙ order)
      (ap (λ (b : Bool). listed_first b s (regions_listed rest) entries) (sym off) ∙ listed)
  at_top (marked q site cond body shows is on next fit) k entries fits order listed =
      let both = and_parts (q == k) (is_inner_in (hidden-the_row-Stmt-0 body)) (sym (fit k) ∙ fits) in
      at_region q k entries (ap region_number shows) (next k) (eqb-true q k both.0) order
      (ap (λ (b : Bool). listed_first b s (regions_listed rest) entries) (sym on) ∙ listed)

all_numbered : (main : List Stmt) (k : ℕ) (entries : List RegionInfo) → regions_in_order k main ≡ true → regions_listed main entries ≡ true →
    regions_left main ≡ numbers_from k (length entries)
all_numbered [] k [] order listed = refl
all_numbered [] k (entry ∷ entries) order listed = absurd (cc listed)
all_numbered (s ∷ rest) k entries order listed =
    let both = and_parts (top_fits k s) (regions_in_order (next_region k s) rest) order in
    at_top s rest (all_numbered rest) (top s) k entries both.0 both.1 listed

pub regions_numbered : (p : Program) → IsInlined p → regions_left p.main ≡ numbers_from 1 (length p.regions)
regions_numbered p h = all_numbered p.main 1 p.regions h.regions h.table
