-- The regions that are left to do, in order.
use Rattle.std.proofs.Common.{◌≡◌, ◌≢◌, refl, sym, ap, ◌∙◌, eq-eqb, eqb-true, ℕ, ◌+◌, ◌==◌, Bool, true, false, if◌then◌else◌, List, [], ◌∷◌, drop, length}
use Rattle.std.proofs.Common.{Option, Some, None}
use Rattle.std.specs.List.{cons_option}
use Rattle.std.proofs.lemmas.Bool.{and_parts}
use Rattle.dp_tree.specs.declared.Stmt.{Stmt, out-Stmt}
use Rattle.dp_tree.specs.declared.Stmt.TheBlock.{hidden-the_row-Stmt-0}
use Rattle.dp_tree.specs.declared.Stmt.TheOpen.{Stmt-F, Region}
use Rattle.dp_tree.specs.declared.RegionInfo.{RegionInfo}
use Rattle.dp_tree.specs.declared.Program.{Program}
use Rattle.dp_tree.specs.Inlined.{IsInlined}
use Rattle.dp_tree.specs.Iteration.{is_region}
use Rattle.dp_tree.specs.Numbering.{has_numbers, is_inner_in, is_marked, listed_first, next_region, numbers_from, regions_in_order, regions_listed}
use Rattle.dp_tree.specs.Numbering.{site_numbers, top_fits}
use Rattle.dp_tree.specs.Step.{region_number}
use Rattle.dp_plan.proofs.TopStatements.{Top, marked, top, unmarked}
use Rattle.dp_meaning.specs.declared.ends.Part.{Part}
use Rattle.dp_meaning.specs.declared.ends.Part.TheVariants as part
use Rattle.dp_meaning.specs.MachineState.{from_region, is_any_region, part_from, part_of}
use Rattle.dp_meaning.proofs.WatchedLemmas.{part_finished}
use Rattle.dp_auditor.specs.Regions.{number_of_region, regions_left}

-- the numbers behind a statement that has this one
left_behind : (s : Stmt) (rest : List Stmt) (o : Option ℕ) → number_of_region s ≡ o → regions_left (s ∷ rest) ≡ cons_option o (regions_left rest)
left_behind s rest o e = ap (λ (x : Option ℕ). cons_option x (regions_left rest)) e

no_number : (h : Stmt-F Stmt) → is_any_region h ≡ false → region_number h ≡ None
no_number (Region q site cond body) e = absurd (cc)
no_number _ e = refl

-- No region stands before the first one.
pub left_from_region : (xs : List Stmt) → regions_left (from_region xs) ≡ regions_left xs
left_from_region [] = refl
left_from_region (s ∷ rest) = by (is_any_region (out-Stmt s)) refl (left_from_region rest)
  where
    by : (b : Bool) → is_any_region (out-Stmt s) ≡ b → regions_left (from_region rest) ≡ regions_left rest →
        regions_left (if b then s ∷ rest else from_region rest) ≡ regions_left (s ∷ rest)
    by true e later = refl
    by false e later = later ∙ sym (left_behind s rest None (no_number (out-Stmt s) e))

number_here : (h : Stmt-F Stmt) (q : ℕ) → part_from h ≡ part.Region q → region_number h ≡ Some q
number_here (Region n site cond body) q e = let same : n ≡ q = cc in ap Some same
number_here _ q e = absurd (cc)

-- the first of them, where a region is at the head
pub left_at : (q : ℕ) (xs : List Stmt) → part_of xs ≡ part.Region q → regions_left xs ≡ q ∷ regions_left (drop 1 xs)
left_at q [] e = absurd (cc)
left_at q (s ∷ rest) e = left_behind s rest (Some q) (number_here (out-Stmt s) q e)

-- Where no plain statement is at the head, the next region is.
pub head_next : (xs : List Stmt) (q : ℕ) (ns : List ℕ) → part_of xs ≢ part.Plain → regions_left xs ≡ q ∷ ns → part_of xs ≡ part.Region q
head_next xs q ns off is = by (part_of xs) refl
  where
    by : (h : Part) → part_of xs ≡ h → part_of xs ≡ part.Region q
    by (part.Region n) e = let same : n ≡ q = cc (sym (left_at n xs e) ∙ is) in e ∙ ap part.Region same
    by part.Plain e = absurd (off e)
    by part.Finished e = let none : [] ≡ q ∷ ns = sym (ap regions_left (part_finished xs e)) ∙ is in absurd (cc none)

-- .. or nothing is left
pub none_next : (xs : List Stmt) → part_of xs ≢ part.Plain → regions_left xs ≡ [] → part_of xs ≡ part.Finished
none_next xs off is = by (part_of xs) refl
  where
    by : (h : Part) → part_of xs ≡ h → part_of xs ≡ part.Finished
    by (part.Region n) e = let some : n ∷ regions_left (drop 1 xs) ≡ [] = sym (left_at n xs e) ∙ is in absurd (cc some)
    by part.Plain e = absurd (off e)
    by part.Finished e = e

-- ---- all of them

unnumbered : (h : Stmt-F Stmt) → ((r : ℕ) → is_region r h ≡ false) → region_number h ≡ None
unnumbered (Region q site cond body) none = let clash : true ≡ false = sym (eq-eqb q q refl) ∙ none q in absurd (cc clash)
unnumbered _ none = refl

-- Those of these statements have the numbers from k on, as many as there are entries.
abbrev Numbered : List Stmt → Type 0
Numbered xs = (k : ℕ) (entries : List RegionInfo) → regions_in_order k xs ≡ true → regions_listed xs entries ≡ true →
    regions_left xs ≡ numbers_from k (length entries)

module _ (s : Stmt) (rest : List Stmt) (later : Numbered rest) where
  numbered_region : (k : ℕ) (entries : List RegionInfo) → number_of_region s ≡ Some k → next_region k s ≡ k + 1 →
      regions_in_order (next_region k s) rest ≡ true → listed_first true s (regions_listed rest) entries ≡ true →
      regions_left (s ∷ rest) ≡ numbers_from k (length entries)
  numbered_region k [] is next order listed = absurd (cc listed)
  numbered_region k (entry ∷ entries) is next order listed =
      let both = and_parts (has_numbers entry (site_numbers s)) (regions_listed rest entries) listed in
      left_behind s rest (Some k) is ∙ ap (λ (ns : List ℕ). k ∷ ns) (later (k + 1) entries (ap (λ (n : ℕ). regions_in_order n rest) (sym next) ∙ order) both.1)

  numbered_by : Top s → (k : ℕ) (entries : List RegionInfo) → top_fits k s ≡ true → regions_in_order (next_region k s) rest ≡ true →
      listed_first (is_marked s) s (regions_listed rest) entries ≡ true → regions_left (s ∷ rest) ≡ numbers_from k (length entries)
  numbered_by (unmarked none off next fit) k entries fits order listed =
      left_behind s rest None (unnumbered (out-Stmt s) none)
      ∙ later k entries (ap (λ (n : ℕ). regions_in_order n rest) (sym (next k)) ∙ order)
      (ap (λ (b : Bool). listed_first b s (regions_listed rest) entries) (sym off) ∙ listed)
  numbered_by (marked q site cond body shows is on next fit) k entries fits order listed =
      let both = and_parts (q == k) (is_inner_in (hidden-the_row-Stmt-0 body)) (sym (fit k) ∙ fits) in
      numbered_region k entries (ap region_number shows ∙ ap Some (eqb-true q k both.0)) (next k) order
      (ap (λ (b : Bool). listed_first b s (regions_listed rest) entries) (sym on) ∙ listed)

all_numbered : (xs : List Stmt) → Numbered xs
all_numbered [] k [] order listed = refl
all_numbered [] k (entry ∷ entries) order listed = absurd (cc listed)
all_numbered (s ∷ rest) k entries order listed =
    let both = and_parts (top_fits k s) (regions_in_order (next_region k s) rest) order in
    numbered_by s rest (all_numbered rest) (top s) k entries both.0 both.1 listed

-- The regions of an inlined program stand in the order of their numbers.
pub regions_numbered : (p : Program) → IsInlined p → regions_left p.main ≡ numbers_from 1 (length p.regions)
regions_numbered p h = all_numbered p.main 1 p.regions h.regions h.table
