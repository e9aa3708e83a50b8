-- The sites of a plan's region in an inlined program.
use Rattle.std.proofs.Common.{◌≡◌, sym, ap, subst, ◌∙◌, ℕ, ◌+◌, ◌<◌, ◌≤◌, ◌^◌, List, map, length, append-nil, arith}
use Rattle.std.specs.List.{flat_map}
use Rattle.std.proofs.lemmas.List.{length-map}
use Rattle.dp_tree.specs.declared.Program.{Program}
use Rattle.dp_tree.specs.declared.Stmt.{Stmt}
use Rattle.dp_tree.specs.Inlined.{IsInlined}
use Rattle.dp_tree.specs.Numbering.{site_numbers_all}
use Rattle.dp_plan.specs.declared.Plan.{Plan}
use Rattle.dp_plan.specs.Stage.{first_site, first_site_of}
use Rattle.dp_plan.specs.Access.{accesses}
use Rattle.dp_plan.specs.Written.{region_sites, access_site}
use Rattle.dp_plan.proofs.Ascent.{Ascends, ascends-numbers_from}
use Rattle.dp_plan.proofs.RegionOrder.{Sought, absent, present, find_region}
use Rattle.dp_plan.proofs.TopStatements.{fewer_regions}
use Rattle.dp_tree.proofs.NumberLists.{length-numbers_from}

-- they go up one by one from the first site, and have 32 bits
pub record InOrder (p : Program) (plan : Plan) : Type 0 where
  pub order : Ascends (first_site p plan) (region_sites p plan.region)
  pub low : 1 ≤ first_site p plan
  pub high : first_site p plan + length (region_sites p plan.region) ≤ 2 ^ 32

module _ (p : Program) (inlined : IsInlined p) where
  pub many : length (site_numbers_all p.main) ≡ length p.sites
  many = ap length inlined.sites ∙ length-numbers_from 1 (length p.sites)

  pub few_regions : length p.regions < 2 ^ 32
  few_regions = omega (arith, inlined.few, many, fewer_regions p.main p.regions inlined.table)

  pub in_order : (plan : Plan) → 1 ≤ plan.region → plan.region < 1 + length p.regions → InOrder p plan
  in_order plan low high =
      by (find_region p.main 1 1 p.regions inlined.regions inlined.table (subst (λ (ns : List ℕ). Ascends 1 ns) (sym inlined.sites)
      (ascends-numbers_from 1 (length p.sites))) plan.region)
    where
      by : Sought plan.region 1 1 p.main p.regions → InOrder p plan
      by (absent none out) = absurd (out low high)
      by (present entry from at region least most) =
          let same : region_sites p plan.region ≡ map access_site (accesses region.statement) = ap (λ (xs : List Stmt). map access_site (flat_map accesses xs))
          region.only ∙ ap (map access_site) (append-nil (accesses region.statement)) in
          let long : length (region_sites p plan.region) ≡ length (accesses region.statement) = ap length same
          ∙ length-map (accesses region.statement) access_site in
          let first : first_site p plan ≡ entry.first.0 = ap first_site_of at in
          record {
            order = subst (λ (ns : List ℕ). Ascends (first_site p plan) ns) (sym same)
                (subst (λ (i : ℕ). Ascends i (map access_site (accesses region.statement))) (sym first) region.sites);
            low = omega (arith, first, least);
            high = omega (arith, first, most, many, inlined.few, long);
          }
