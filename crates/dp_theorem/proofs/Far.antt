-- Accesses that no iteration carries to a later one: offsets that no number of strides brings together.
use Rattle.std.specs.Prelude.{◌≡◌, ℕ, zero, suc, ◌<◌, ◌≤◌, Bool, true, ℤ, pos, ◌+ℤ◌, Option, Some}
use Rattle.std.specs.List.{list_all}
use Rattle.dp_tree.specs.declared.Expr.{Expr}
use Rattle.dp_tree.specs.declared.Stmt.{Stmt}
use Rattle.dp_tree.specs.declared.Stmt.TheOpen.{Stmt-F}
use Rattle.dp_tree.specs.declared.Program.{Program}
use Rattle.dp_tree.specs.Eval.{cell_count}
use Rattle.dp_tree.specs.Step.{site_of}
use Rattle.dp_plan.specs.Touch.{Touch, head_reads, head_store, offset}

-- k, n times
abbrev pub times : ℕ → ℤ → ℤ
times zero k = pos 0
times (suc n) k = times n k +ℤ k

module _ (p : Program) (v d u array : ℕ) (stored : ℤ) (Loads : ℤ → Type 0) where
  -- the array's element at the index that is this far from v, with what v is moved by before it
  pub record Lies (shift : ℤ) (index : Option Expr) (place : ℤ) : Type 0 where
    pub text : Expr
    pub plain : ℤ
    pub index_is : index ≡ Some text
    pub offset_is : offset v text ≡ Some plain
    pub place_is : plain +ℤ shift ≡ place

  -- site d stores the element at that place
  abbrev pub StoresAt : ℤ → Stmt-F Stmt → Type 0
  StoresAt shift h = (site_of h).0 ≡ d → (index : Option Expr) × (head_store h ≡ Some (record { variable = array; index = index })) × Lies shift index stored

  -- what site u reads of the array it reads at places of these
  pub record LoadsThere (shift : ℤ) (h : Stmt-F Stmt) : Type 0 where
    pub test : Touch → Bool
    pub all : list_all test (head_reads h) ≡ true
    pub cells : (t : Touch) → test t ≡ true → 0 < cell_count p (record { 0 = t.variable })
    pub places : (t : Touch) → test t ≡ true → t.variable ≡ array → (place : ℤ) × Lies shift t.index place × Loads place

  abbrev pub LoadsAt : ℤ → Stmt-F Stmt → Type 0
  LoadsAt shift h = (site_of h).0 ≡ u → LoadsThere shift h

  abbrev pub Both : ℤ → Stmt-F Stmt → Type 0
  Both shift h = StoresAt shift h × LoadsAt shift h

  -- no number of strides, at least one, lies between the place that is stored and one that is loaded
  abbrev pub Far : ℤ → Type 0
  Far stride = (place : ℤ) (q : ℕ) → Loads place → 1 ≤ q → stored ≡ place +ℤ times q stride → ⊥

  -- the place that is stored is none that is loaded
  abbrev pub FarWithin : Type 0
  FarWithin = (place : ℤ) → Loads place → stored ≡ place → ⊥
