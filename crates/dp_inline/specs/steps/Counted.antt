-- The sizes of functions as the code counts them: each once, in order, none above what is reported.
use Rattle.std.specs.Prelude.{ℕ, List, [], ◌∷◌, ◌++◌, Option, Some, None, slice_get, nat_lt, if◌then◌else◌}
use Rattle.dp_base.specs.declared.limits.TheConstants.{REGION_SITES}
use Rattle.dp_base.specs.Counts.{reported_count}
use Rattle.dp_tree.specs.declared.Function.{Function}
use Rattle.dp_tree.specs.declared.Stmt.{Stmt}
use Rattle.dp_tree.specs.Numbering.{is_marked}
use Rattle.dp_inline.specs.Size.{size_one, size_list, counts_if}

-- the number, if there is one
abbrev pub number_in : Option ℕ → ℕ
number_in None = 0
number_in (Some n) = n

-- the size of a function that was counted
abbrev pub counted : List ℕ → ℕ → ℕ
counted sizes f = reported_count (number_in (slice_get sizes f))

-- a statement's size from these sizes of functions
unfoldable pub counted_one : ℕ → List ℕ → Stmt → ℕ
counted_one each sizes s = size_one each (counted sizes) s

-- the same of statements
unfoldable pub counted_list : ℕ → List ℕ → List Stmt → ℕ
counted_list each sizes all = size_list each (counted sizes) all

-- the sizes with those of these functions, one after the other
abbrev pub counted_more : ℕ → List ℕ → List Function → List ℕ
counted_more each sizes [] = sizes
counted_more each sizes (f ∷ rest) = counted_more each (sizes ++ reported_count (counted_list each sizes f.body) ∷ []) rest

-- the sites of a region from these sizes of functions
abbrev pub counted_region : List ℕ → Stmt → ℕ
counted_region sizes s = counts_if (is_marked s) (counted_one 0 sizes s)

-- the first of these regions with too many sites
abbrev pub first_large : List ℕ → List Stmt → Option ℕ
first_large sizes [] = None
first_large sizes (s ∷ rest) = if nat_lt REGION_SITES (counted_region sizes s) then Some (reported_count (counted_region sizes s)) else first_large sizes rest
