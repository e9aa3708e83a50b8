-- The tables that are made of a region say what the definitions say.
use Rattle.dp_semantics.proofs.Names.{◌≡◌, refl, sym, ap, ◌∙◌, subst, append-nil, arith, eq-eqb, ne_eqb, ℕ, ◌==◌, if◌then◌else◌, Bool, true, List, [], ◌∷◌}
use Rattle.dp_semantics.proofs.Names.{length, map, flat_map, Option, Stmt, Stmt-F, Program, Plan, site_of, Access, accesses, region_statement, region_accesses}
use Rattle.dp_semantics.proofs.Names.{fits_plan, last}
use Rattle.dp_tree.specs.Inlined.{IsInlined}
use Rattle.dp_tree.specs.Numbering.{numbers_from}
use Rattle.dp_plan.specs.CheckedTable.{IsTabled}
use Rattle.dp_plan.specs.Written.{access_site}
use Rattle.dp_plan.proofs.Ascent.{Ascends}
use Rattle.dp_semantics.proofs.Heads.{accesses_at, accesses_out}
use Rattle.dp_semantics.proofs.Setting.{Accepted}
use Rattle.dp_theorem.proofs.Fitting.{accepted}
use Rattle.dp_net.specs.NetItems.{Marks}
use Rattle.dp_net.specs.BlockText.{own_site, sought_inside}
use Rattle.dp_net.specs.Hidden.{pays_off, block_in}
use Rattle.dp_lean.proofs.Placed.{numbered}
use Rattle.dp_lean_code.specs.Known.{AreTablesOf, paying_marks}
use Rattle.dp_lean_code.specs.declared.tables.LeanTables.{LeanTables}
use Rattle.dp_lean_code.specs.steps.Accesses.{SiteAccess, row_of, region_rows}
use Rattle.dp_lean_code.specs.steps.Needs.{accesses_in, done_among, private_home}
unfoldable use Rattle.dp_lean_code.specs.steps.Runs.{region_counts}
use Rattle.dp_lean_code.proofs.CountsRight.{stmt_counts}
use Rattle.dp_lean_code.proofs.RunsRight.{quiet_is, count_is}

back_again : (all : List Access) → accesses_in (map row_of all) ≡ all
back_again [] = refl
back_again (a ∷ all) = ap (λ xs. a ∷ xs) (back_again all)

module _ (p : Program) (plan : Plan) (inlined : IsInlined p) (fits : fits_plan p plan ≡ true) (tabled : IsTabled p plan) where
  abbrev m : Marks
  m = paying_marks p plan

  ok : Accepted p plan
  ok = accepted p plan fits

  up : (k : ℕ) × Ascends k (map access_site (region_accesses p plan))
  up = numbered p plan inlined ok

  these : region_accesses p plan ≡ accesses ok.statement
  these = ap (λ (xs : List Stmt). flat_map accesses xs) ok.region ∙ append-nil (accesses ok.statement)

  up_there : Ascends up.0 (map access_site (accesses ok.statement))
  up_there = subst (λ (all : List Access). Ascends up.0 (map access_site all)) these up.1

  first_is : own_site p plan ok.statement ≡ up.0
  first_is = ap (λ (h : Stmt-F Stmt). (site_of h).0) ok.is
      ∙ (subst (λ (all : List Access). Ascends up.0 (map access_site all)) (accesses_out ok.statement ∙ ap accesses_at ok.is) up_there).0

  at_region : (f : ℕ) → m.block_at f ≡ (if f == own_site p plan ok.statement then [] else sought_inside p plan (pays_off p plan) f ok.statement)
  at_region f = ap (block_in p plan (pays_off p plan) f) ok.region

  counts_are : (homes : List (Option ℕ)) → homes ≡ map (private_home p plan (region_accesses p plan)) (numbers_from 0 (length p.vars)) →
      flat_map (region_counts p plan homes) (region_statement p plan) ≡ map (λ (a : Access). length (m.block_at a.site)) (region_accesses p plan)
  unfolding region_counts
  counts_are homes homes_are =
      ap (λ (xs : List Stmt). flat_map (region_counts p plan homes) xs) ok.region ∙ append-nil (region_counts p plan homes ok.statement)
      ∙ stmt_counts p plan m (pays_off p plan) homes (quiet_is p plan tabled) (count_is p plan tabled homes homes_are) ok.statement up.0 up_there
      (λ some. at_region up.0 ∙ ap (λ (c : Bool). if c then [] else sought_inside p plan (pays_off p plan) up.0 ok.statement)
      (eq-eqb up.0 (own_site p plan ok.statement) (sym first_is)))
      (λ f low high. at_region f ∙ ap (λ (c : Bool). if c then [] else sought_inside p plan (pays_off p plan) f ok.statement)
      (ne_eqb f (own_site p plan ok.statement) (λ e. omega (arith, e, first_is, low))))
      ∙ ap (λ (all : List Access). map (λ (a : Access). length (m.block_at a.site)) all) (sym these)

  pub tables_made : (rows : List SiteAccess) (homes : List (Option ℕ)) (tables : LeanTables) → rows ≡ region_rows p plan.region →
      tables.done ≡ map (λ (s : ℕ). map (done_among p plan (accesses_in rows) s) (numbers_from 0 (length p.vars))) (numbers_from 1 (last plan)) →
      homes ≡ map (private_home p plan (accesses_in rows)) (numbers_from 0 (length p.vars)) →
      tables.blocks ≡ flat_map (region_counts p plan homes) (region_statement p plan) → tables.homes ≡ homes → AreTablesOf p plan tables
  tables_made rows homes tables rows_are done_is homes_are blocks_are kept =
      let all : accesses_in rows ≡ region_accesses p plan = ap accesses_in rows_are ∙ back_again (region_accesses p plan) in
      let homes_right : homes ≡ map (private_home p plan (region_accesses p plan)) (numbers_from 0 (length p.vars)) =
      homes_are ∙ ap (λ (found : List Access). map (private_home p plan found) (numbers_from 0 (length p.vars))) all in
      record {
        blocks = blocks_are ∙ counts_are homes homes_right;
        homes = kept ∙ homes_right;
        done = done_is ∙ ap (λ (found : List Access). map (λ (s : ℕ). map (done_among p plan found s) (numbers_from 0 (length p.vars)))
            (numbers_from 1 (last plan))) all;
      }
