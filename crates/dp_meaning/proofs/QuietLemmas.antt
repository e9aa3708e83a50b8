-- Behind a region of `main` it doesn't come again.
use Rattle.dp_meaning.proofs.Names.{if◌then◌else◌, ◌≡◌, refl, sym, ap, ◌∙◌, ℕ, ◌-◌, Bool, true, false, List, [], ◌∷◌, ◌++◌, ℤ, arith, keeps_all, keeps_out}
use Rattle.dp_meaning.proofs.Names.{no_region, and_true, Program, Stmt, out-Stmt, Config, IsInlined, is_region, places, stands_at_head}
unfoldable use Rattle.dp_meaning.proofs.Names.{run_of}
use Rattle.std.proofs.Common.{filter, eq-eqb}
use Rattle.std.proofs.lemmas.Option.{slice_get_within}
use Rattle.std.proofs.lemmas.List.Elements.{filter-append}
use Rattle.dp_tree.specs.RegionLaws.{StandsOnce, is_other_site, keeps}
use Rattle.dp_tree.specs.declared.Stmt.TheVariants as tree
use Rattle.dp_tree.proofs.InsideRegion.{quiet, region_out}
use Rattle.dp_plan.specs.Access.{is_region_at}
use Rattle.dp_plan.proofs.RegionOrder.{Sought, absent, present}
use Rattle.dp_theorem.proofs.ValidFits.{sought}
use Rattle.dp_theorem.proofs.OnceInMain.{regions_once}

module _ (p : Program) (inlined : IsInlined p) (r : ℕ) (before : List Stmt) (x : Stmt) (behind : List Stmt) (main_is : p.main ≡ before ++ x ∷ behind)
    (at : is_region r (out-Stmt x) ≡ true) where
  -- a region that stands in `main` is in the table
  stands_once : StandsOnce p r
  stands_once = by (sought inlined r)
    where
      found : filter (is_region_at r) (before ++ x ∷ behind) ≡ filter (is_region_at r) before ++ x ∷ filter (is_region_at r) behind
      found = filter-append (is_region_at r) before (x ∷ behind)
          ∙ ap (λ (b : Bool). filter (is_region_at r) before ++ (if b then x ∷ filter (is_region_at r) behind else filter (is_region_at r) behind)) at

      some : (xs ys : List Stmt) → xs ++ x ∷ ys ≡ [] → ⊥
      some [] ys e = cc
      some (y ∷ xs) ys e = cc

      by : Sought r 1 1 p.main p.regions → StandsOnce p r
      by (absent none out) =
          absurd (some (filter (is_region_at r) before) (filter (is_region_at r) behind) (sym found ∙ ap (filter (is_region_at r)) (sym main_is) ∙ none))
      by (present entry from at q least most) = let within = slice_get_within p.regions (r - 1) entry at in
          regions_once p inlined r (omega (arith, from)) (omega (arith, from, within))

  abbrev others : ℕ → Bool
  others = is_other_site p r

  other : (y : Stmt) → keeps others r y ≡ true → is_region r (out-Stmt y) ≡ true → ⊥
  other y k e = let clash : true ≡ false = sym e ∙ no_region others r (out-Stmt y) (sym (keeps_out others r y) ∙ k) in cc clash

  -- what stands behind the region doesn't have it
  rest_keeps : (front again rest later : List Stmt) (region : Stmt) → is_region r (out-Stmt region) ≡ true → keeps_all others r again ≡ true →
      keeps_all others r later ≡ true → front ++ x ∷ rest ≡ again ++ region ∷ later → keeps_all others r rest ≡ true
  rest_keeps [] [] rest later region is h k e = let same : rest ≡ later = cc in ap (keeps_all others r) same ∙ k
  rest_keeps [] (y ∷ again) rest later region is h k e = let same : x ≡ y = cc in
      absurd (other y (and_true (keeps others r y) (keeps_all others r again) h).0 (ap (λ (s : Stmt). is_region r (out-Stmt s)) (sym same) ∙ at))
  rest_keeps (y ∷ front) [] rest later region is h k e = let same : front ++ x ∷ rest ≡ later = cc in absurd (within front (ap (keeps_all others r) same ∙ k))
    where
      within : (ys : List Stmt) → keeps_all others r (ys ++ x ∷ rest) ≡ true → ⊥
      within [] h = other x (and_true (keeps others r x) (keeps_all others r rest) h).0 at
      within (z ∷ ys) h = within ys (and_true (keeps others r z) (keeps_all others r (ys ++ x ∷ rest)) h).1
  rest_keeps (y ∷ front) (z ∷ again) rest later region is h k e = let same : front ++ x ∷ rest ≡ again ++ region ∷ later = cc in
      rest_keeps front again rest later region is (and_true (keeps others r z) (keeps_all others r again) h).1 k same

  -- the region isn't at the head again
  pub never_again : (input : List ℤ) (n : ℕ) (c : Config) → c.to_do ≡ behind → (k : ℕ) → places (stands_at_head r) k (run_of p input n c).configs ≡ []
  never_again input n c is =
      let once = stands_once in
      let region = tree.Region r once.site once.cond once.body in
      let here : is_region r (out-Stmt region) ≡ true = ap (is_region r) (region_out p input r once) ∙ eq-eqb r r refl in
      (quiet p input r once n c (ap (keeps_all others r) is ∙ rest_keeps before once.before behind once.behind region here once.earlier once.later (sym main_is
      ∙ once.main_is))).no_start
