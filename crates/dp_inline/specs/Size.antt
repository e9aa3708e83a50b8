-- How large the expanded program is, as read off the program with its calls.
use Rattle.std.specs.Prelude.{ℕ, zero, suc, ◌+◌, Bool, true, false, List, [], ◌∷◌, length, slice_get}
use Rattle.dp_tree.specs.declared.Stmt.{Stmt, Row_of-Stmt, end_of-Stmt, more_of-Stmt}
use Rattle.dp_tree.specs.declared.Stmt.TheVariants.{Assign, Store, Print, If', While', Region', Break, Call}
use Rattle.dp_tree.specs.declared.Program.{Program}
use Rattle.dp_tree.specs.Functions.{body_in}
use Rattle.dp_tree.specs.Numbering.{is_marked}

abbrev mutual
  -- The sites of a statement once its calls are expanded, where each call counts so many on top of its bindings and its
  -- function's body, whose size `calls` gives.
  pub size_one : ℕ → (ℕ → ℕ) → Stmt → ℕ
  size_one each calls (Assign site x e) = 1
  size_one each calls (Store site x index e) = 1
  size_one each calls (Print site e) = 1
  size_one each calls (If' site cond _ then_part _ else_part) = 1 + (size_rows each calls then_part + size_rows each calls else_part)
  size_one each calls (While' site cond _ body) = 1 + size_rows each calls body
  size_one each calls (Region' r site cond _ body) = 1 + size_rows each calls body
  size_one each calls (Break site cond) = 1
  size_one each calls (Call f line args) = each + (length args + calls f)

  -- the same of several statements
  pub size_rows : {n : _} → ℕ → (ℕ → ℕ) → Row_of-Stmt n → ℕ
  size_rows each calls end_of-Stmt = 0
  size_rows each calls (more_of-Stmt s rest) = size_one each calls s + size_rows each calls rest

-- the same of a list
abbrev pub size_list : ℕ → (ℕ → ℕ) → List Stmt → ℕ
size_list each calls [] = 0
size_list each calls (s ∷ rest) = size_one each calls s + size_list each calls rest

-- The size of a function's body. A call leads to an earlier function, so calls nest at most `depth` deep.
abbrev pub size_within : Program → ℕ → ℕ → ℕ → ℕ
size_within p each zero f = 0
size_within p each (suc depth) f = size_list each (size_within p each depth) (body_in (slice_get p.functions f))

-- the number, where the condition holds
abbrev pub counts_if : Bool → ℕ → ℕ
counts_if true n = n
counts_if false n = 0

-- the sites of a region of `main`; a statement that is no region has none
abbrev pub region_size : Program → Stmt → ℕ
region_size p s = counts_if (is_marked s) (size_one 0 (size_within p 0 (length p.functions)) s)

-- the sites of the expanded program and the calls that were expanded
abbrev pub inlined_size : Program → ℕ
inlined_size p = size_list 1 (size_within p 1 (length p.functions)) p.main

-- the sites of the expanded program
abbrev pub site_total : Program → ℕ
site_total p = size_list 0 (size_within p 0 (length p.functions)) p.main
