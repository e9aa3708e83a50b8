-- The sites that a plan has checked: those whose loads may differ from the source's. A plan of version 2 leaves out what is known to lie apart.
use Rattle.std.specs.Prelude.{ℕ, if◌then◌else◌, ◌==◌, Bool, not, ◌&&◌, ◌||◌, List, [], ◌∷◌}
use Rattle.std.specs.List.{list_any, flat_map}
use Rattle.dp_tree.specs.declared.Stmt.{Stmt, Row_of-Stmt}
use Rattle.dp_tree.specs.declared.Stmt.TheVariants.{While'}
use Rattle.dp_tree.specs.declared.Program.{Program}
use Rattle.dp_plan.specs.declared.Plan.{Plan}
use Rattle.dp_tree.specs.Statements.{asked, asked_in}
use Rattle.dp_plan.specs.Access.{Access, accesses, region_in, region_accesses, stage_of, is_stored_after, is_stored_beside}
use Rattle.dp_plan.specs.IsFar.{is_far, is_far_within}

-- one of these is the site
abbrev pub has_site : ℕ → List Access → Bool
has_site site all = list_any (λ (a : Access). a.site == site) all

-- both are sites
abbrev pub has_both : ℕ → ℕ → List Access → Bool
has_both u d all = has_site u all && has_site d all

-- the sites of the statement, where it is an inner `while`, its condition's included
abbrev pub loop_at : Stmt → List (List Access)
loop_at (While' site cond h body) = accesses (While' site cond h body) ∷ []
loop_at _ = []

-- the sites of each inner `while`
abbrev pub loops : Stmt → List (List Access)
loops s = asked loop_at s

-- those of several statements
abbrev pub loops_in : {n : _} → Row_of-Stmt n → List (List Access)
loops_in rows = asked_in loop_at rows

-- an inner `while` of the region has both as sites
abbrev pub share_a_loop : Program → ℕ → ℕ → ℕ → Bool
share_a_loop p r u d = list_any (has_both u d) (flat_map loops (region_in p r))

-- what stands behind site d
abbrev pub behind_site : ℕ → List Access → List Access
behind_site d [] = []
behind_site d (a ∷ rest) = if a.site == d then rest else behind_site d rest

-- u stands before d in the text, and no inner `while` has both
abbrev pub comes_before : Program → ℕ → ℕ → ℕ → Bool
comes_before p r u d = not (u == d) && (not (has_site u (behind_site d (flat_map accesses (region_in p r)))) && not (share_a_loop p r u d))

-- no earlier iteration's store at d is to what u loads
abbrev pub is_apart_between : Program → Plan → ℕ → ℕ → Bool
is_apart_between p plan u d = plan.proved && is_far p plan.region d u

-- .. and none of the same iteration that came before it
abbrev pub is_apart : Program → Plan → ℕ → ℕ → Bool
is_apart p plan u d = is_apart_between p plan u d && (is_far_within p plan.region d u || comes_before p plan.region u d)

-- what site u of stage s sees of x may differ from what the source has
abbrev pub may_differ : Program → Plan → ℕ → ℕ → ℕ → Bool
may_differ p plan s u x =
    list_any (λ (d : Access). is_stored_after p plan s x d && not (is_apart p plan u d.site)) (region_accesses p plan)
    || list_any (λ (d : Access). is_stored_beside p plan s x d && not (is_apart_between p plan u d.site)) (region_accesses p plan)

-- this is the site, and it loads such a variable
abbrev pub is_checked_access : Program → Plan → ℕ → Access → Bool
is_checked_access p plan site u = (u.site == site) && list_any (may_differ p plan (stage_of p plan site) site) u.loads

-- the site is checked: each of its loads is compared with the source's
abbrev pub is_checked : Program → Plan → ℕ → Bool
is_checked p plan site = list_any (is_checked_access p plan site) (region_accesses p plan)
