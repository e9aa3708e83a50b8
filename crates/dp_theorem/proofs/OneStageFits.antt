-- The one-stage plan of each region fits an inlined program, and its table, which says no of each site, is right.
use Rattle.dp_semantics.proofs.Names.{◌≡◌, refl, sym, ap, ◌∙◌, subst, ℕ, zero, suc, ◌-◌, true, false, List, [], ◌∷◌, ◌++◌, map, lies_between, replicate, Some}
use Rattle.dp_semantics.proofs.Names.{slice_get, nat_le, arith, le-leb, eq-eqb, list_all, Stmt, Program, Plan, RegionInfo, Access, accesses, first_site}
use Rattle.dp_semantics.proofs.Names.{fits_plan, stage_of, one_stage_plan, sites_between, and_from}
use Rattle.dp_tree.specs.declared.Stmt.{Row_of-Stmt, end_of-Stmt, more_of-Stmt}
use Rattle.dp_tree.specs.declared.Stmt.TheVariants as tree
use Rattle.dp_plan.specs.Access.{accesses_in}
use Rattle.dp_tree.specs.Inlined.{IsInlined}
use Rattle.dp_plan.specs.Enclosing.{ifs, ifs_in, inner_whiles, inner_whiles_in}
use Rattle.dp_plan.specs.Written.{access_site}
use Rattle.dp_plan.specs.CheckedTable.{says_yes}
use Rattle.dp_plan.proofs.RegionOrder.{RegionAt, Sought, absent, present}
use Rattle.dp_semantics.specs.ValidPlan.{OneStageFits, OneStageTabled}
use Rattle.dp_theorem.proofs.OneStage.{numbered_first, unchecked}
use Rattle.dp_theorem.proofs.ValidFits.{Staged, between, first_here, fits_so, parts, regions_alone, sought}
use Rattle.dp_theorem.proofs.WellNested.{InTime, Ruled}
use Rattle.dp_semantics.proofs.Setting.{Each, each_join, each_split, each_map}
use Rattle.std.proofs.lemmas.Bool.{or_right, and_right}

-- where all sites are of stage 1, each condition comes in time
module _ (p : Program) (plan : Plan) where
  abbrev First : Access → Type 0
  First a = stage_of p plan a.site ≡ 1

  none_less : (site : ℕ) → stage_of p plan site ≡ 1 → (inside : List Access) → Each First inside →
      list_all (λ n. nat_le (stage_of p plan site) (stage_of p plan n)) (map access_site inside) ≡ true
  none_less site one [] h = refl
  none_less site one (a ∷ rest) h =
      and_from _ _ (le-leb (stage_of p plan site) (stage_of p plan a.site) (omega (arith, one, h.0))) (none_less site one rest h.1)

  mutual
    whiles_first : (x : Stmt) → Each First (accesses x) → Each (InTime p plan) (inner_whiles x)
    whiles_first (tree.If' site cond _ a _ b) h = let both = each_split First (accesses_in a) (accesses_in b) h.1 in
        each_join (InTime p plan) (inner_whiles_in a) (inner_whiles_in b) (whiles_first_in a both.0) (whiles_first_in b both.1)
    whiles_first (tree.While' site cond _ a) h = (none_less site.0 h.0 (accesses_in a) h.1, whiles_first_in a h.1)
    whiles_first (tree.Region' r site cond _ a) h = whiles_first_in a h.1
    whiles_first _ h = tt

    whiles_first_in : {n : _} (row : Row_of-Stmt n) → Each First (accesses_in row) → Each (InTime p plan) (inner_whiles_in row)
    whiles_first_in end_of-Stmt h = tt
    whiles_first_in (more_of-Stmt x rest) h = let both = each_split First (accesses x) (accesses_in rest) h in
        each_join (InTime p plan) (inner_whiles x) (inner_whiles_in rest) (whiles_first x both.0) (whiles_first_in rest both.1)

  both_less : (site : ℕ) → stage_of p plan site ≡ 1 → (a b : List Access) → Each First a → Each First b →
      list_all (λ n. nat_le (stage_of p plan site) (stage_of p plan n)) (map access_site a ++ map access_site b) ≡ true
  both_less site one [] b h k = none_less site one b k
  both_less site one (x ∷ rest) b h k =
      and_from _ _ (le-leb (stage_of p plan site) (stage_of p plan x.site) (omega (arith, one, h.0))) (both_less site one rest b h.1 k)

  mutual
    ifs_first : (x : Stmt) → Each First (accesses x) → Each (Ruled p plan) (ifs x)
    ifs_first (tree.If' site cond _ a _ b) h =
        let both = each_split First (accesses_in a) (accesses_in b) h.1 in (
          or_right _ _ (both_less site.0 h.0 (accesses_in a) (accesses_in b) both.0 both.1),
          each_join (Ruled p plan) (ifs_in a) (ifs_in b) (ifs_first_in a
              both.0) (ifs_first_in b both.1),
        )
    ifs_first (tree.While' site cond _ a) h = ifs_first_in a h.1
    ifs_first (tree.Region' r site cond _ a) h = ifs_first_in a h.1
    ifs_first _ h = tt

    ifs_first_in : {n : _} (row : Row_of-Stmt n) → Each First (accesses_in row) → Each (Ruled p plan) (ifs_in row)
    ifs_first_in end_of-Stmt h = tt
    ifs_first_in (more_of-Stmt x rest) h = let both = each_split First (accesses x) (accesses_in rest) h in
        each_join (Ruled p plan) (ifs x) (ifs_in rest) (ifs_first x both.0) (ifs_first_in rest both.1)

module _ {p : Program} (inlined : IsInlined p) (r : ℕ) (entry : RegionInfo) (at : slice_get p.regions (r - 1) ≡ Some entry) (q : RegionAt r p.main entry) where
  abbrev plan : Plan
  plan = one_stage_plan p r

  all_first : Each (First p plan) (accesses q.statement)
  all_first = each_map _ (First p plan) (λ a b. numbered_first p r a.site (slice_get p.regions (r - 1)) refl (ap (lies_between a.site) at
      ∙ and_from _ _ (le-leb _ _ b.0) (le-leb _ _ (omega (arith, b.1, q.last))))) (accesses q.statement) (between inlined r entry at q)

  first_stage : stage_of p plan (first_site p plan) ≡ 1
  first_stage = ap (stage_of p plan) (first_here inlined plan entry at q)
      ∙ (subst (λ (xs : List Access). Each (First p plan) xs) (parts inlined plan entry at q) all_first).0

  fits : fits_plan p plan ≡ true
  fits = fits_so inlined plan entry at q (each_map (First p plan) (Staged inlined plan entry at q) (λ a is. (omega (arith, is), omega (arith, is)))
      (accesses q.statement) all_first)
      (eq-eqb _ _ first_stage) (whiles_first p plan q.statement all_first) (ifs_first p plan q.statement all_first) refl

pub one_fits : (p : Program) → IsInlined p → OneStageFits p
one_fits p inlined r low high = by (sought inlined r)
  where
    by : Sought r 1 1 p.main p.regions → fits_plan p (one_stage_plan p r) ≡ true
    by (absent none out) = absurd (out (omega (arith, low)) (omega (arith, high)))
    by (present entry from at q least most) = fits inlined r entry at q

-- an entry of a table that says no says no
says_no : (n k : ℕ) → says_yes (slice_get (replicate n false) k) ≡ false
says_no zero k = refl
says_no (suc n) zero = refl
says_no (suc n) (suc k) = says_no n k

pub one_tabled : (p : Program) → IsInlined p → OneStageTabled p
one_tabled p inlined r low high site =
    and_right (nat_le (first_site p (one_stage_plan p r)) site) _ (says_no (sites_between (slice_get p.regions (r - 1)))
    (site - first_site p (one_stage_plan p r)))
    ∙ sym (unchecked p r (regions_alone p inlined r low high) site)
