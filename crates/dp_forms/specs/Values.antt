-- Expressions, and the code that gives their values.
use Rattle.std.specs.Prelude.{◌≡◌, ◌<◌, ◌≤◌, ◌+◌, ℕ, true, List, ℤ, Ok, length}
use Rattle.dp_base.specs.declared.BinOp.{BinOp}
use Rattle.dp_base.specs.declared.UnOp.{UnOp}
use Rattle.dp_base.specs.declared.VarId.{VarId}
use Rattle.dp_tree.specs.declared.Expr.{Expr}
use Rattle.dp_tree.specs.declared.Expr.TheVariants as tree
use Rattle.dp_tree.specs.declared.Program.{Program}
use Rattle.dp_tree.specs.Eval.{Load, eval, first_cell, cell_count}
use Rattle.dp_forms.specs.Registers.{is_register_home, homes_apart, merged}

-- the expression has this value in this memory
pub record GivesValue (p : Program) (input cells : List ℤ) (e : Expr) (value : ℤ) : Type 0 where
  pub loads : List Load
  pub is : eval p input cells e ≡ Ok (record { value = value; loads = loads })

-- the variable's cell is the home of this register
pub record IsRegister (p : Program) (homes : List ℕ) (size register : ℕ) (x : VarId) : Type 0 where
  pub home : is_register_home homes register (first_cell p x) ≡ true
  pub below : first_cell p x < size

-- the variable has so many cells from this one on, and no register is at home there
pub record IsArray (p : Program) (homes : List ℕ) (size first count : ℕ) (x : VarId) : Type 0 where
  pub first_is : first_cell p x ≡ first
  pub count_is : cell_count p x ≡ count
  pub apart : homes_apart homes first count ≡ true
  pub within : first + count ≤ size

pub record IsScalar (p : Program) (homes : List ℕ) (size register : ℕ) (e : Expr) : Type 0 where
  pub variable : VarId
  pub is : e ≡ tree.Scalar variable
  pub register_is : IsRegister p homes size register variable

pub record IsElementOf (p : Program) (homes : List ℕ) (size first count : ℕ) (Index : Expr → Type 0) (e : Expr) : Type 0 where
  pub variable : VarId
  pub index : Expr
  pub is : e ≡ tree.Element variable index
  pub array : IsArray p homes size first count variable
  pub index_is : Index index

pub record IsWord (Index : Expr → Type 0) (e : Expr) : Type 0 where
  pub index : Expr
  pub is : e ≡ tree.Input index
  pub index_is : Index index

pub record IsUnary (op : UnOp) (Operand : Expr → Type 0) (e : Expr) : Type 0 where
  pub operand : Expr
  pub is : e ≡ tree.Unary op operand
  pub operand_is : Operand operand

pub record IsBinary (op : BinOp) (Left Right : Expr → Type 0) (e : Expr) : Type 0 where
  pub left : Expr
  pub right : Expr
  pub is : e ≡ tree.Binary op left right
  pub left_is : Left left
  pub right_is : Right right

pub record IsAnd (Left Right : Expr → Type 0) (e : Expr) : Type 0 where
  pub left : Expr
  pub right : Expr
  pub is : e ≡ tree.And left right
  pub left_is : Left left
  pub right_is : Right right

pub record IsOr (Left Right : Expr → Type 0) (e : Expr) : Type 0 where
  pub left : Expr
  pub right : Expr
  pub is : e ≡ tree.Or left right
  pub left_is : Left left
  pub right_is : Right right

-- Code that this relation says to be an expression's has found this value of it.
pub record HasEvaluated (Is : Program → List ℕ → ℕ → Expr → Type 0) (input memory registers : List ℤ) (value : ℤ) : Type 0 where
  pub gives : (p : Program) (homes : List ℕ) (e : Expr) → Is p homes (length memory) e → GivesValue p input (merged homes registers memory) e value

-- what makes of code that of an expression: by the program, the registers' homes and the memory's size
abbrev pub ValueRelation : Type 1
ValueRelation = Program → List ℕ → ℕ → Expr → Type 0

abbrev pub OfNumber : ℤ → ValueRelation
OfNumber z = λ p homes size e. e ≡ tree.Number z

abbrev pub OfLength : ValueRelation
OfLength = λ p homes size e. e ≡ tree.InputLen

abbrev pub OfScalar : ℕ → ValueRelation
OfScalar register = λ p homes size e. IsScalar p homes size register e

abbrev pub OfWord : ValueRelation → ValueRelation
OfWord Index = λ p homes size e. IsWord (Index p homes size) e

abbrev pub OfElement : ℕ → ℕ → ValueRelation → ValueRelation
OfElement first count Index = λ p homes size e. IsElementOf p homes size first count (Index p homes size) e

abbrev pub OfUnary : UnOp → ValueRelation → ValueRelation
OfUnary op Operand = λ p homes size e. IsUnary op (Operand p homes size) e

abbrev pub OfBinary : BinOp → ValueRelation → ValueRelation → ValueRelation
OfBinary op Left Right = λ p homes size e. IsBinary op (Left p homes size) (Right p homes size) e

abbrev pub OfAnd : ValueRelation → ValueRelation → ValueRelation
OfAnd Left Right = λ p homes size e. IsAnd (Left p homes size) (Right p homes size) e

abbrev pub OfOr : ValueRelation → ValueRelation → ValueRelation
OfOr Left Right = λ p homes size e. IsOr (Left p homes size) (Right p homes size) e
