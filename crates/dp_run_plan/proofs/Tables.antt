-- A plan's table says yes of no site exactly where no site of the region is checked.
use Rattle.dp_semantics.proofs.Names.{◌≡◌, refl, sym, ap, ◌∙◌, ℕ, suc, ◌+◌, Bool, not, ◌||◌, List, [], ◌∷◌, map, length, arith, list_any, Program, Plan, Access}
use Rattle.dp_semantics.proofs.Names.{first_site, is_checked, region_accesses}
use Rattle.dp_tree.specs.Inlined.{IsInlined}
use Rattle.dp_tree.specs.Numbering.{numbers_from}
use Rattle.dp_plan.specs.GivenPlans.{IsPlan}
use Rattle.dp_plan.specs.Written.{region_sites, access_site}
use Rattle.dp_plan.proofs.Ascent.{Ascends}
use Rattle.dp_run_plan.specs.RunPlan.{hides_nothing}
use Rattle.dp_run_plan.specs.Others.{checks_nothing}
use Rattle.dp_run_plan.proofs.OneStage.{in_text}

any_made : (f : ℕ → Bool) (ns : List ℕ) → list_any (λ (b : Bool). b) (map f ns) ≡ list_any f ns
any_made f [] = refl
any_made f (n ∷ ns) = ap (λ (b : Bool). f n || b) (any_made f ns)

any_site : (f : ℕ → Bool) (all : List Access) → list_any f (map access_site all) ≡ list_any (λ (a : Access). f a.site) all
any_site f [] = refl
any_site f (a ∷ all) = ap (λ (b : Bool). f a.site || b) (any_site f all)

numbers_are : (k : ℕ) (ns : List ℕ) → Ascends k ns → numbers_from k (length ns) ≡ ns
numbers_are k [] up = refl
numbers_are k (n ∷ ns) up =
    let next : k + 1 ≡ suc k = omega arith in
    ap (λ (i : ℕ). k ∷ numbers_from i (length ns)) next ∙ ap (λ (l : List ℕ). k ∷ l) (numbers_are (suc k) ns up.1) ∙ ap (λ (i : ℕ). i ∷ ns) (sym up.0)

pub table_tells : (p : Program) → IsInlined p → (plan : Plan) → IsPlan p plan → checks_nothing plan ≡ hides_nothing p plan
table_tells p inlined plan is =
    let sites : List ℕ = region_sites p plan.region in
    let all : numbers_from (first_site p plan) (length plan.stage_of) ≡ sites = ap (numbers_from (first_site p plan)) is.staged
    ∙ numbers_are (first_site p plan) sites (in_text p inlined plan is).order in
    let table : plan.checked_at ≡ map (is_checked p plan) sites = is.table ∙ ap (map (is_checked p plan)) all in
    ap (λ (l : List Bool). not (list_any (λ (b : Bool). b) l)) table
    ∙ ap not (any_made (is_checked p plan) sites ∙ any_site (is_checked p plan) (region_accesses p plan))
