-- A stage feeds itself where one of the region's stores is its own, of a variable that it does stores to, and that outlives the iteration.
use Rattle.dp_semantics.proofs.Names.{◌≡◌, refl, sym, ap, ◌∙◌, arith, or-false, list_any-append, le-ltb, ℕ, suc, ◌<◌, ◌≤◌, ◌&&◌, ◌||◌, ◌==◌, if◌then◌else◌, not}
use Rattle.dp_semantics.proofs.Names.{Bool, true, false, List, [], ◌∷◌, length, list_any, flat_map, Some, None, Stmt, Program, Plan, accesses, stage_of}
use Rattle.dp_semantics.proofs.Names.{is_replicated, is_body_local, region_statement, region_accesses, fits_plan}
use Rattle.dp_tree.specs.declared.Stmt.TheVariants as tree
use Rattle.dp_tree.specs.Inlined.{IsInlined}
use Rattle.dp_tree.specs.Statements.{asked}
use Rattle.dp_tree.proofs.Asked.{asked_both}
use Rattle.dp_plan.specs.Access.{access_at}
use Rattle.dp_lean.specs.Needed.{is_judge, is_loaded_in, is_done_to, wanted}
use Rattle.dp_lean_code.specs.declared.tables.LeanTables.{LeanTables}
use Rattle.dp_lean_code.specs.Known.{AreTablesOf}
use Rattle.dp_lean_code.specs.steps.Looked.{known_of}
use Rattle.dp_lean_code.proofs.ProgramRight.{ok}
use Rattle.dp_lean_code.proofs.TablesRight.{done_right}
use Rattle.dp_lean_epoch.specs.Steps.{feeds, feeds_itself, keeps_memory}
use Rattle.dp_lean_region.specs.declared.feeding.SiteStore.{SiteStore}
use Rattle.dp_lean_region.specs.steps.Fed.{feeds_among, keeps_among, region_stores}
unfoldable use Rattle.dp_lean_region.specs.steps.Fed.{stored_at}
use Rattle.dp_lean_region.proofs.Lawful.{neighbours}

module _ (p : Program) (plan : Plan) (s : ℕ) (known : ℕ → Bool) (knows : (x : ℕ) → known x ≡ is_loaded_in p plan s x) where
  -- the store is the stage's own, of such a variable
  abbrev test : SiteStore → Bool
  test a = (stage_of p plan a.site.0 == s) && (known a.var.0 && not (is_body_local p plan a.var.0))

  no_store : (site : ℕ) (loads : List ℕ) → false ≡ list_any (feeds p plan s) (record { site = site; loads = loads; stores = None } ∷ [])
  no_store site loads = sym (ap (λ b. b || false) (none (stage_of p plan site == s)))
    where
      none : (b : Bool) → (b && false) ≡ false
      none true = refl
      none false = refl

  a_store : (site x : ℕ) (loads : List ℕ) →
      (((stage_of p plan site == s) && (known x && not (is_body_local p plan x))) || false) ≡ list_any (feeds p plan s)
      (record { site = site; loads = loads; stores = Some x } ∷ [])
  a_store site x loads = ap (λ b. ((stage_of p plan site == s) && (b && not (is_body_local p plan x))) || false) (knows x)

  each : (x : Stmt) → list_any test (stored_at x) ≡ list_any (feeds p plan s) (access_at x)
  unfolding stored_at
  each (tree.Assign site x e) = a_store site.0 x.0 []
  each (tree.Store site x i e) = a_store site.0 x.0 []
  each (tree.Print site e) = no_store site.0 []
  each (tree.If' site e h a k b) = no_store site.0 []
  each (tree.While' site e h a) = no_store site.0 []
  each (tree.Region' r site e h a) = no_store site.0 []
  each (tree.Break site e) = no_store site.0 []
  each (tree.Call f line args) = refl

  one : (x : Stmt) → list_any test (asked stored_at x) ≡ list_any (feeds p plan s) (accesses x)
  one x = asked_both (λ a c. list_any test a ≡ list_any (feeds p plan s) c) refl
      (λ a b c d e f. list_any-append test a b ∙ (λ i. e i || f i) ∙ sym (list_any-append (feeds p plan s) c d)) stored_at access_at each x

  all : (xs : List Stmt) → list_any test (flat_map (asked stored_at) xs) ≡ list_any (feeds p plan s) (flat_map accesses xs)
  all [] = refl
  all (x ∷ xs) =
      list_any-append test (asked stored_at x) (flat_map (asked stored_at) xs)
      ∙ (λ i. one x i || all xs i)
      ∙ sym (list_any-append (feeds p plan s) (accesses x) (flat_map accesses xs))

module _ (p : Program) (plan : Plan) (inlined : IsInlined p) (fits : fits_plan p plan ≡ true) (tables : LeanTables) (known : AreTablesOf p plan tables) where
  -- a replicated stage does stores to what it loads
  done_loaded : (s : ℕ) → 0 < s → s ≤ length plan.stages → is_replicated plan s ≡ true → (x : ℕ) → (known_of p plan tables s).done x ≡ is_loaded_in p plan s x
  done_loaded s low high par x =
      done_right p plan (ok p plan inlined fits).sound s low (omega (arith, high)) tables.done known.done x
      ∙ by (is_judge p plan s) (le-ltb (length plan.stages) s high) (is_replicated plan (suc s)) (neighbours p plan fits s par)
    where
      by : (judge : Bool) → judge ≡ false → (next : Bool) → next ≡ false →
          ((if judge then list_any (Rattle.dp_lean.specs.Needed.compares p plan x) (region_accesses p plan)
          else (is_loaded_in p plan s x || (next && is_loaded_in p plan (suc s) x))) || (judge && not (is_body_local p plan x))) ≡ is_loaded_in p plan s x
      by false e false f = or-false (is_loaded_in p plan s x || false) ∙ or-false (is_loaded_in p plan s x)
      by false e true f = absurd (cc f)
      by true e next f = absurd (cc e)

  pub keeps_is : (s : ℕ) → 0 < s → s ≤ length plan.stages → keeps_among p plan tables s (region_stores p plan.region) ≡ keeps_memory p plan s
  keeps_is s low high = by (is_replicated plan s) refl
    where
      by : (par : Bool) → is_replicated plan s ≡ par → not (par && feeds_among p plan tables s (region_stores p plan.region))
          ≡ (not par || not (feeds_itself p plan s))
      by false e = refl
      by true e = ap not (all p plan s (λ x. (known_of p plan tables s).done x) (done_loaded s low high e) (region_statement p plan))
