-- The variables, sites and regions of a program, in the order of their numbers.
use Rattle.std.specs.Prelude.{ℕ, ◌+◌, ◌-◌, List, [], ◌∷◌, ◌++◌, map, ℤ, pos, negsuc, true, false, if◌then◌else◌}
use Rattle.std.specs.List.{flat_map}
use Rattle.dp_tree.specs.declared.VarInfo.{VarInfo}
use Rattle.dp_tree.specs.declared.VarScope.{VarScope}
use Rattle.dp_tree.specs.declared.VarScope.TheVariants.{Global, Outer, Body}
use Rattle.dp_tree.specs.declared.SiteInfo.{SiteInfo}
use Rattle.dp_tree.specs.declared.SiteKind.TheVariants as kind
use Rattle.dp_tree.specs.declared.RegionInfo.{RegionInfo}
use Rattle.dp_tree.specs.declared.raw.Name.{Name}
use Rattle.dp_tree.specs.declared.raw.RawStmt.{RawStmt, out-RawStmt}
use Rattle.dp_tree.specs.declared.raw.RawStmt.TheOpen.{RawStmt-F, While, For}
use Rattle.dp_tree.specs.declared.raw.RawItem.{RawItem}
use Rattle.dp_tree.specs.declared.raw.RawItem.TheVariants.{Scalar, Array, Function}
use Rattle.dp_tree.specs.declared.raw.RawProgram.{RawProgram}
use Rattle.dp_check.specs.Place.{TextPart, Site, Local, parts, parts_all, sites_among}
use Rattle.dp_check.specs.Resolved.{is_marked_loop}

-- a length as a number of cells
abbrev pub cells_in_length : ℤ → ℕ
cells_in_length (pos n) = n
cells_in_length (negsuc n) = 0

-- a scalar without a place in memory yet
abbrev pub scalar_info : Name → ℤ → VarScope → VarInfo
scalar_info name start scope = record { name = name.text; first = record { 0 = 0 }; length = 1; array = false; start = start; scope = scope }

-- an array without a place in memory yet
abbrev pub array_info : Name → ℤ → VarInfo
array_info name size = record { name = name.text; first = record { 0 = 0 }; length = cells_in_length size; array = true; start = pos 0; scope = Global }

-- the sites among the parts of a text in region r, or outside all regions where r is 0
abbrev pub sites_made : ℕ → List TextPart → List SiteInfo
sites_made r [] = []
sites_made r (Site line kind ∷ rest) = record { line = line; kind = kind; region = r } ∷ sites_made r rest
sites_made r (Local name ∷ rest) = sites_made r rest

-- the variables that are declared there
abbrev pub locals_of : VarScope → List TextPart → List VarInfo
locals_of scope [] = []
locals_of scope (Site line kind ∷ rest) = locals_of scope rest
locals_of scope (Local name ∷ rest) = scalar_info name (pos 0) scope ∷ locals_of scope rest

-- a function's parameters, and then the parts of its body
abbrev pub function_parts : List Name → List RawStmt → List TextPart
function_parts params body = map Local params ++ parts_all body

-- the parts of an item
abbrev pub item_parts : RawItem → List TextPart
item_parts (Scalar name start) = []
item_parts (Array name size) = []
item_parts (Function name params body) = function_parts params body

-- the file-scope variables that an item declares
abbrev pub global_of : RawItem → List VarInfo
global_of (Scalar name start) = scalar_info name start Global ∷ []
global_of (Array name size) = array_info name size ∷ []
global_of (Function name params body) = []

-- the file-scope variables of items
abbrev pub globals : List RawItem → List VarInfo
globals = flat_map global_of

-- the parts of a loop with a step, behind its initialiser
abbrev pub loop_parts : ℕ → List RawStmt → List RawStmt → List TextPart
loop_parts line step body = Site line kind.While ∷ (parts_all body ++ parts_all step)

-- the parts of a statement at the top of `main` that stand outside of its region, in which an initialiser does
abbrev pub outside_at : RawStmt-F RawStmt → List TextPart → List TextPart
outside_at (While line true cond body) all = []
outside_at (For line true first cond step body) all = parts_all first
outside_at _ all = all

-- the parts of a statement at the top of `main` that stand in its region, if it is one
abbrev pub within_at : RawStmt-F RawStmt → List TextPart → List TextPart
within_at (While line true cond body) all = all
within_at (For line true first cond step body) all = loop_parts line step body
within_at _ all = []

abbrev pub outside : RawStmt → List TextPart
outside s = outside_at (out-RawStmt s) (parts s)

abbrev pub within : RawStmt → List TextPart
within s = within_at (out-RawStmt s) (parts s)

-- the locals of a statement at the top of `main`, where region r is the next one
abbrev pub top_locals : ℕ → RawStmt → List VarInfo
top_locals r s = locals_of Outer (outside s) ++ locals_of (Body r) (within s)

-- the sites of a statement at the top of `main`, where region r is the next one
abbrev pub top_sites : ℕ → RawStmt → List SiteInfo
top_sites r s = sites_made 0 (outside s) ++ sites_made r (within s)

-- the number of the next region after a statement at the top of `main`
abbrev pub after_top : ℕ → RawStmt → ℕ
after_top r s = if is_marked_loop s then r + 1 else r

-- the locals of `main`, where region r is the next one
abbrev pub main_locals : ℕ → List RawStmt → List VarInfo
main_locals r [] = []
main_locals r (s ∷ rest) = top_locals r s ++ main_locals (after_top r s) rest

-- the sites of `main`, where region r is the next one
abbrev pub main_sites : ℕ → List RawStmt → List SiteInfo
main_sites r [] = []
main_sites r (s ∷ rest) = top_sites r s ++ main_sites (after_top r s) rest

-- the entry of a region with these parts, whose first site has this number
abbrev pub region_info : ℕ → ℕ → List TextPart → RegionInfo
region_info line first inside = record { line = line; first = record { 0 = first }; last = record { 0 = first + sites_among inside - 1 } }

-- the region that a statement is, whose first site has this number
abbrev pub region_made : ℕ → RawStmt-F RawStmt → List TextPart → List RegionInfo
region_made first (While line true cond body) all = region_info line first all ∷ []
region_made first (For line true initialiser cond step body) all =
    region_info line (first + sites_among (parts_all initialiser)) (loop_parts line step body) ∷ []
region_made first _ all = []

-- the regions of `main`, whose first site has this number
abbrev pub regions_from : ℕ → List RawStmt → List RegionInfo
regions_from first [] = []
regions_from first (s ∷ rest) = region_made first (out-RawStmt s) (parts s) ++ regions_from (first + sites_among (parts s)) rest

-- the variables with their cells one after the other, from this cell on
abbrev pub laid : ℕ → List VarInfo → List VarInfo
laid cell [] = []
laid cell (x ∷ rest) = record x { first = record { 0 = cell } } ∷ laid (cell + x.length) rest

-- the variables of a program: the file-scope ones, those of `main`, those of the functions
abbrev pub variables : RawProgram → List VarInfo
variables raw = laid 0 (globals raw.items ++ main_locals 1 raw.main ++ flat_map (λ item. locals_of Outer (item_parts item)) raw.items)

-- the sites of a program: those of `main`, those of the functions
abbrev pub program_sites : RawProgram → List SiteInfo
program_sites raw = main_sites 1 raw.main ++ flat_map (λ item. sites_made 0 (item_parts item)) raw.items
