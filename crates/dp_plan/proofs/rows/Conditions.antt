-- The `if` and `while` statements of a region, wherever they stand.
use Rattle.std.proofs.Common.{◌≡◌, refl, ℕ, List, [], ◌∷◌, pos}
use Rattle.dp_tree.specs.declared.VarScope.TheVariants.{Global}
use Rattle.dp_tree.specs.declared.Stmt.{Stmt}
use Rattle.dp_tree.specs.declared.Stmt.TheVariants as stmt
use Rattle.dp_tree.specs.declared.Program.{Program}
use Rattle.dp_tree.proofs.Build.{tree_opened, num, set, loop, region, one_region, scalar, program}
use Rattle.dp_plan.specs.Enclosing.{Enclosing, region_ifs, region_inner_whiles}

abbrev choice : ℕ → List Stmt → List Stmt → Stmt
choice site then_part else_part = stmt.If (record { 0 = site }) (num 1) then_part else_part

abbrev again : ℕ → List Stmt → Stmt
again site body = loop site (num 1) body

abbrev keep : ℕ → Stmt
keep site = set site 0 (num 1)

-- while (1) {
--   if (1) { if (1) { x = 1; } else { while (1) { if (1) { x = 1; } } } }
--   else { if (1) { x = 1; } else { x = 1; } while (1) { while (1) { x = 1; } } }
-- }, whose sites are 1 to 13
abbrev forked : Program
forked = program (scalar 0 (pos 0) Global ∷ []) [] (one_region 1 1 13)
    (region 1 1 (num 1) (choice 2 (choice 3 (keep 4 ∷ []) (again 5 (choice 6 (keep 7 ∷ []) [] ∷ []) ∷ []) ∷ [])
    (choice 8 (keep 9 ∷ []) (keep 10 ∷ []) ∷ again 11 (again 12 (keep 13 ∷ []) ∷ []) ∷ []) ∷ []) ∷ [])

abbrev enclosing : ℕ → List ℕ → Enclosing
enclosing site inside = record { site = site; inside = inside }

ifs_everywhere : region_ifs forked 1
    ≡ enclosing 2 (3 ∷ 4 ∷ 5 ∷ 6 ∷ 7 ∷ 8 ∷ 9 ∷ 10 ∷ 11 ∷ 12 ∷ 13 ∷ []) ∷ enclosing 3 (4 ∷ 5 ∷ 6 ∷ 7 ∷ []) ∷ enclosing 6 (7 ∷ [])
    ∷ enclosing 8 (9 ∷ 10 ∷ []) ∷ []
unfolding tree_opened
ifs_everywhere = refl

-- the region itself is none of them
whiles_everywhere : region_inner_whiles forked 1 ≡ enclosing 5 (6 ∷ 7 ∷ []) ∷ enclosing 11 (12 ∷ 13 ∷ []) ∷ enclosing 12 (13 ∷ []) ∷ []
unfolding tree_opened
whiles_everywhere = refl
