-- How sites and regions are numbered: in text order, the regions at the top of `main`.
use Rattle.std.specs.Prelude.{ℕ, zero, suc, ◌+◌, ◌==◌, Bool, true, false, ◌&&◌, List, [], ◌∷◌, ◌++◌, length, nat_lt, ◌≡◌}
use Rattle.std.specs.List.{flat_map}
use Rattle.dp_base.specs.declared.limits.TheConstants.{REGION_SITES}
use Rattle.dp_tree.specs.declared.RegionInfo.{RegionInfo}
use Rattle.dp_tree.specs.declared.Program.{Program}
use Rattle.dp_tree.specs.declared.Stmt.{Stmt, Row_of-Stmt, end_of-Stmt, more_of-Stmt}
use Rattle.dp_tree.specs.declared.Stmt.TheVariants.{Assign, Store, Print, If', While', Region', Break, Call}
use Rattle.dp_tree.specs.Statements.{asked, asked_in, everywhere, everywhere_in}

-- the number of the statement's own site
abbrev pub number_at : Stmt → List ℕ
number_at (Assign site x e) = site.0 ∷ []
number_at (Store site x index e) = site.0 ∷ []
number_at (Print site e) = site.0 ∷ []
number_at (If' site cond _ then_part _ else_part) = site.0 ∷ []
number_at (While' site cond _ body) = site.0 ∷ []
number_at (Region' r site cond _ body) = site.0 ∷ []
number_at (Break site cond) = site.0 ∷ []
number_at (Call f line args) = []

-- the numbers of the sites of a statement, in text order
abbrev pub site_numbers : Stmt → List ℕ
site_numbers s = asked number_at s

-- those of several statements
abbrev pub site_numbers_in : {n : _} → Row_of-Stmt n → List ℕ
site_numbers_in rows = asked_in number_at rows

abbrev pub site_numbers_all : List Stmt → List ℕ
site_numbers_all all = flat_map site_numbers all

-- so many numbers from this one on
abbrev pub numbers_from : ℕ → ℕ → List ℕ
numbers_from first zero = []
numbers_from first (suc n) = first ∷ numbers_from (first + 1) n

-- The sites are numbered from 1 on in text order, those of `main` first, as they stand in the table.
abbrev pub SitesInOrder : Program → Type 0
SitesInOrder p = site_numbers_all p.main ++ flat_map (λ f. site_numbers_all f.body) p.functions ≡ numbers_from 1 (length p.sites)

-- the statement is no region and no break
abbrev pub is_plain_at : Stmt → Bool
is_plain_at (Region' r site cond _ body) = false
is_plain_at (Break site cond) = false
is_plain_at _ = true

-- no region and no break stands in the statement
abbrev pub is_plain : Stmt → Bool
is_plain s = everywhere is_plain_at s

-- none stands in one of them
abbrev pub is_plain_in : {n : _} → Row_of-Stmt n → Bool
is_plain_in rows = everywhere_in is_plain_at rows

-- a statement at the top of a region's body: a break, or a plain one
abbrev pub is_inner : Stmt → Bool
is_inner (Break site cond) = true
is_inner s = is_plain s

abbrev pub is_inner_in : {n : _} → Row_of-Stmt n → Bool
is_inner_in end_of-Stmt = true
is_inner_in (more_of-Stmt s rest) = is_inner s && is_inner_in rest

-- a statement at the top of `main`: region r with no region inside and breaks at the top of its body alone, or a plain one
abbrev pub top_fits : ℕ → Stmt → Bool
top_fits r (Region' q site cond _ body) = (q == r) && is_inner_in body
top_fits r s = is_plain s

abbrev pub next_region : ℕ → Stmt → ℕ
next_region r (Region' q site cond _ body) = r + 1
next_region r s = r

-- the regions stand at the top alone, and are numbered from r on in text order
abbrev pub regions_in_order : ℕ → List Stmt → Bool
regions_in_order r [] = true
regions_in_order r (s ∷ rest) = top_fits r s && regions_in_order (next_region r s) rest

-- the statement is a region
abbrev pub is_marked : Stmt → Bool
is_marked (Region' q site cond _ body) = true
is_marked s = false

-- the entry has these numbers, one after the other: those of a region's sites
abbrev pub has_numbers : RegionInfo → List ℕ → Bool
has_numbers info [] = false
has_numbers info (first ∷ rest) = (info.first.0 == first) && (info.last.0 == first + length rest)

-- a statement that is a region has the first entry, and `behind` tests the others
abbrev pub listed_first : Bool → Stmt → (List RegionInfo → Bool) → List RegionInfo → Bool
listed_first false s behind regions = behind regions
listed_first true s behind [] = false
listed_first true s behind (info ∷ rest) = has_numbers info (site_numbers s) && behind rest

-- each region among the statements has its entry, in order, and there is no other
abbrev pub regions_listed : List Stmt → List RegionInfo → Bool
regions_listed [] [] = true
regions_listed [] (info ∷ rest) = false
regions_listed (s ∷ rest) regions = listed_first (is_marked s) s (regions_listed rest) regions

-- the entry's region has no more sites than a region may have
abbrev pub is_small_region : RegionInfo → Bool
is_small_region info = nat_lt info.last.0 (info.first.0 + REGION_SITES)
