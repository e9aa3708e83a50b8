-- Tables, numbers and texts that no checked or inlined program has.
use Rattle.std.proofs.Common.{◌≡◌, refl, true, false, List, [], ◌∷◌, pos, map}
use Rattle.std.specs.List.{list_any}
use Rattle.dp_tree.specs.declared.Stmt.{Stmt}
use Rattle.dp_tree.specs.declared.Stmt.TheVariants as stmt
use Rattle.dp_tree.specs.declared.VarScope.TheVariants.{Global, Outer}
use Rattle.dp_tree.specs.Layout.{globals_first, lies_in_order}
use Rattle.dp_tree.specs.Numbering.{site_numbers_all, regions_in_order, regions_listed, is_small_region}
use Rattle.dp_tree.specs.SiteTable.{site_roles_all}
use Rattle.dp_tree.specs.declared.SiteKind.TheVariants as kind
use Rattle.dp_tree.specs.Inlined.{has_call}
use Rattle.dp_tree.proofs.Build.{num, set, set_at, say, loop, region, call, scalar, array, one_region, tree_opened}

skipped_cell : lies_in_order 0 (scalar 0 (pos 0) Global ∷ scalar 2 (pos 0) Outer ∷ []) ≡ false
skipped_cell = refl

shared_cell : lies_in_order 0 (array 0 2 ∷ scalar 1 (pos 0) Outer ∷ []) ≡ false
shared_cell = refl

variable_without_a_cell : lies_in_order 0 (array 0 0 ∷ []) ≡ false
variable_without_a_cell = refl

local_of_two_cells : lies_in_order 0 (record (array 0 2) { scope = Outer } ∷ []) ≡ false
local_of_two_cells = refl

global_behind_a_local : globals_first (scalar 0 (pos 0) Outer ∷ scalar 1 (pos 0) Global ∷ []) ≡ false
global_behind_a_local = refl

-- the sites of an `if` with both branches, in text order
numbers_in_text_order : site_numbers_all (stmt.If (record { 0 = 1 }) (num 0) (say 2 (num 0) ∷ []) (say 3 (num 0) ∷ []) ∷ loop 4 (num 0) (say 5 (num 0) ∷ [])
    ∷ []) ≡ 1 ∷ 2 ∷ 3 ∷ 4 ∷ 5 ∷ []
unfolding tree_opened
numbers_in_text_order = refl

-- a statement of each form, first outside all regions and then in region 2
abbrev of_each_form : List Stmt
of_each_form = set 1 0 (num 0) ∷ set_at 2 0 (num 0) (num 0) ∷ say 3 (num 0) ∷ stmt.If (record { 0 = 4 }) (num 0) (say 5 (num 0) ∷ []) (set 6 0 (num 0) ∷ [])
    ∷ call 0 1 [] ∷ loop 7 (num 0) (say 8 (num 0) ∷ []) ∷ []

roles_outside : site_roles_all 0 of_each_form ≡ (kind.Assign, 0) ∷ (kind.Assign, 0) ∷ (kind.Print, 0) ∷ (kind.If, 0) ∷ (kind.Print, 0) ∷ (kind.Assign, 0)
    ∷ (kind.While, 0) ∷ (kind.Print, 0) ∷ []
unfolding tree_opened
roles_outside = refl

roles_inside : site_roles_all 0 (region 2 1 (num 0) (stmt.Break (record { 0 = 2 }) (num 0) ∷ of_each_form) ∷ say 3 (num 0) ∷ []) ≡
    (kind.While, 2) ∷ (kind.Break, 2) ∷ (kind.Assign, 2) ∷ (kind.Assign, 2) ∷ (kind.Print, 2) ∷ (kind.If, 2) ∷ (kind.Print, 2) ∷ (kind.Assign, 2)
    ∷ (kind.While, 2) ∷ (kind.Print, 2) ∷ (kind.Print, 0) ∷ []
unfolding tree_opened
roles_inside = refl

-- regions of one site, of 1,024 and of 1,025
sizes_of_regions : map (map is_small_region) (one_region 1 7 7 ∷ one_region 1 7 1030 ∷ one_region 1 7 1031 ∷ []) ≡ (true ∷ []) ∷ (true ∷ []) ∷ (false ∷ []) ∷ []
sizes_of_regions = refl

two_regions_in_order : regions_in_order 1 (region 1 1 (num 0) [] ∷ say 2 (num 0) ∷ region 2 3 (num 0) [] ∷ []) ≡ true
unfolding tree_opened
two_regions_in_order = refl

region_left_out : regions_in_order 1 (region 2 1 (num 0) [] ∷ []) ≡ false
unfolding tree_opened
region_left_out = refl

region_in_a_region : regions_in_order 1 (region 1 1 (num 0) (region 2 2 (num 0) [] ∷ []) ∷ []) ≡ false
unfolding tree_opened
region_in_a_region = refl

region_in_a_loop : regions_in_order 1 (loop 1 (num 0) (region 1 2 (num 0) [] ∷ []) ∷ []) ≡ false
unfolding tree_opened
region_in_a_loop = refl

-- a region with the sites 2 and 3, behind site 1
abbrev one_in_main : List Stmt
one_in_main = say 1 (num 0) ∷ region 1 2 (num 0) (say 3 (num 0) ∷ []) ∷ []

listed : regions_listed one_in_main (one_region 1 2 3) ≡ true
unfolding tree_opened
listed = refl

first_site_too_low : regions_listed one_in_main (one_region 1 1 3) ≡ false
unfolding tree_opened
first_site_too_low = refl

last_site_too_high : regions_listed one_in_main (one_region 1 2 4) ≡ false
unfolding tree_opened
last_site_too_high = refl

region_without_an_entry : regions_listed one_in_main [] ≡ false
unfolding tree_opened
region_without_an_entry = refl

entry_without_a_region : regions_listed (say 1 (num 0) ∷ []) (one_region 1 1 1) ≡ false
unfolding tree_opened
entry_without_a_region = refl

call_in_a_loop : list_any has_call (say 1 (num 0) ∷ loop 2 (num 0) (call 0 1 [] ∷ []) ∷ []) ≡ true
unfolding tree_opened
call_in_a_loop = refl
