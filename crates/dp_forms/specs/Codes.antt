-- Statements, and the code that executes them.
use Rattle.std.specs.Prelude.{◌≡◌, ◌≢◌, ℕ, List, [], ◌∷◌, ◌++◌, ℤ, length}
use Rattle.dp_base.specs.declared.VarId.{VarId}
use Rattle.dp_tree.specs.declared.Expr.{Expr}
use Rattle.dp_tree.specs.declared.Stmt.{Stmt}
use Rattle.dp_tree.specs.declared.Stmt.TheVariants as stmt
use Rattle.dp_tree.specs.declared.Program.{Program}
use Rattle.dp_tree.specs.Step.{standing}
use Rattle.dp_meaning.specs.Places.{rests, site_number}
use Rattle.dp_native.specs.Reaches.{Reaches}
use Rattle.dp_forms.specs.Registers.{merged, IsPut as IsPutAt}
use Rattle.dp_forms.specs.Values.{IsRegister, IsArray, HasEvaluated, ValueRelation}

-- the site of the first statement, or 0 where there is none
abbrev pub first_number : List Stmt → ℕ
first_number [] = 0
first_number (s ∷ rest) = site_number s

-- one of these lists
pub data Among (x : List Stmt) : List (List Stmt) → Type 0 where
  here : {xs : List (List Stmt)} → Among x (x ∷ xs)
  later : {y : List Stmt} {xs : List (List Stmt)} → Among x xs → Among x (y ∷ xs)

-- this is what is left to do at this site of the statements
pub record IsLeft (stmts behind : List Stmt) (site : ℕ) (to_do : List Stmt) : Type 0 where
  pub among : Among to_do (rests stmts behind)
  pub site_is : first_number to_do ≡ site

-- what is left to do behind the statements, which is 0, or at this site of them
pub record StandsAtSite (stmts behind : List Stmt) (at : ℕ) (to_do : List Stmt) : Type 0 where
  pub done : at ≡ 0 → to_do ≡ behind
  pub left : at ≢ 0 → IsLeft stmts behind at to_do

-- Code has gone from here, with these statements to do, through some of them.
pub record Goes (p : Program) (homes : List ℕ) (stmts behind here : List Stmt) (input : List ℤ) (fuel : ℕ) (registers cells out : List ℤ) (at fuel' : ℕ)
    (registers' cells' out' : List ℤ) : Type 0 where
  pub to_do : List Stmt
  pub stands : StandsAtSite stmts behind at to_do
  pub reaches : Reaches p input fuel out (standing p here (merged homes registers cells)) fuel' out' (standing p to_do (merged homes registers' cells'))

pub record IsSet (p : Program) (homes : List ℕ) (size site register : ℕ) (Value : Expr → Type 0) (stmts : List Stmt) : Type 0 where
  pub numbered : site ≢ 0
  pub variable : VarId
  pub value : Expr
  pub is : stmts ≡ stmt.Assign (record { 0 = site }) variable value ∷ []
  pub register_is : IsRegister p homes size register variable
  pub value_is : Value value

pub record IsPut (p : Program) (homes : List ℕ) (size site first count : ℕ) (Index Value : Expr → Type 0) (stmts : List Stmt) : Type 0 where
  pub numbered : site ≢ 0
  pub variable : VarId
  pub index : Expr
  pub value : Expr
  pub is : stmts ≡ stmt.Store (record { 0 = site }) variable index value ∷ []
  pub array : IsArray p homes size first count variable
  pub index_is : Index index
  pub value_is : Value value

pub record IsSay (site : ℕ) (Value : Expr → Type 0) (stmts : List Stmt) : Type 0 where
  pub numbered : site ≢ 0
  pub value : Expr
  pub is : stmts ≡ stmt.Print (record { 0 = site }) value ∷ []
  pub value_is : Value value

pub record IsIf (site : ℕ) (Condition : Expr → Type 0) (Then Else : List Stmt → Type 0) (stmts : List Stmt) : Type 0 where
  pub numbered : site ≢ 0
  pub condition : Expr
  pub then_part : List Stmt
  pub else_part : List Stmt
  pub is : stmts ≡ stmt.If (record { 0 = site }) condition then_part else_part ∷ []
  pub condition_is : Condition condition
  pub then_is : Then then_part
  pub else_is : Else else_part

pub record IsWhile (site : ℕ) (Condition : Expr → Type 0) (Body : List Stmt → Type 0) (stmts : List Stmt) : Type 0 where
  pub numbered : site ≢ 0
  pub condition : Expr
  pub body : List Stmt
  pub is : stmts ≡ stmt.While (record { 0 = site }) condition body ∷ []
  pub condition_is : Condition condition
  pub body_is : Body body

pub record IsThen (First Second : List Stmt → Type 0) (stmts : List Stmt) : Type 0 where
  pub front : List Stmt
  pub back : List Stmt
  pub is : stmts ≡ front ++ back
  pub first_is : First front
  pub second_is : Second back

-- any one statement that has this site
pub record IsOther (site : ℕ) (stmts : List Stmt) : Type 0 where
  pub statement : Stmt
  pub is : stmts ≡ statement ∷ []
  pub numbered : site ≢ 0
  pub site_is : site_number statement ≡ site

-- what makes of code that of statements: by the program, the registers' homes and the memory's size
abbrev pub CodeRelation : Type 1
CodeRelation = Program → List ℕ → ℕ → List Stmt → Type 0

abbrev pub OfSet : ℕ → ℕ → ValueRelation → CodeRelation
OfSet site register Value = λ p homes size stmts. IsSet p homes size site register (Value p homes size) stmts

abbrev pub OfPut : ℕ → ℕ → ℕ → ValueRelation → ValueRelation → CodeRelation
OfPut site first count Index Value = λ p homes size stmts. IsPut p homes size site first count (Index p homes size) (Value p homes size) stmts

abbrev pub OfSay : ℕ → ValueRelation → CodeRelation
OfSay site Value = λ p homes size stmts. IsSay site (Value p homes size) stmts

abbrev pub OfIf : ℕ → ValueRelation → CodeRelation → CodeRelation → CodeRelation
OfIf site Condition Then Else = λ p homes size stmts. IsIf site (Condition p homes size) (Then p homes size) (Else p homes size) stmts

abbrev pub OfWhile : ℕ → ValueRelation → CodeRelation → CodeRelation
OfWhile site Condition Body = λ p homes size stmts. IsWhile site (Condition p homes size) (Body p homes size) stmts

abbrev pub OfThen : CodeRelation → CodeRelation → CodeRelation
OfThen First Second = λ p homes size stmts. IsThen (First p homes size) (Second p homes size) stmts

abbrev pub OfNothing : CodeRelation
OfNothing = λ p homes size stmts. stmts ≡ []

abbrev pub OfOther : ℕ → CodeRelation
OfOther site = λ p homes size stmts. IsOther site stmts

-- Code that this relation says to be some statements' has gone through them, as far as it has.
abbrev pub Runs : CodeRelation → List ℤ → ℕ → List ℤ → List ℤ → List ℤ → ℕ → ℕ → List ℤ → List ℤ → List ℤ → Type 0
Runs Is input fuel registers memory out at fuel' registers' memory' out' =
    (p : Program) (homes : List ℕ) (stmts behind : List Stmt) → Is p homes (length memory) stmts →
    Goes p homes stmts behind (stmts ++ behind) input fuel registers memory out at fuel' registers' memory' out'

-- Code that was entered at a site of some statements has gone on from there.
pub record Entered (p : Program) (homes : List ℕ) (stmts behind : List Stmt) (site : ℕ) (input : List ℤ) (fuel : ℕ) (registers memory out : List ℤ)
    (at fuel' : ℕ) (registers' memory' out' : List ℤ) : Type 0 where
  pub here : List Stmt
  pub is_here : IsLeft stmts behind site here
  pub plain : (xs : List ℤ) → standing p here xs ≡ record { to_do = here; cells = xs }
  pub goes : Goes p homes stmts behind here input fuel registers memory out at fuel' registers' memory' out'

abbrev pub Enters : CodeRelation → ℕ → List ℤ → ℕ → List ℤ → List ℤ → List ℤ → ℕ → ℕ → List ℤ → List ℤ → List ℤ → Type 0
Enters Is site input fuel registers memory out at fuel' registers' memory' out' =
    (p : Program) (homes : List ℕ) (stmts behind : List Stmt) → Is p homes (length memory) stmts →
    Entered p homes stmts behind site input fuel registers memory out at fuel' registers' memory' out'

-- Code of an element's index and of a value has stored the value there.
abbrev pub StoresElement : ValueRelation → ValueRelation → ℕ → ℕ → List ℤ → List ℤ → List ℤ → List ℤ → Type 0
StoresElement Index Value first count input registers memory memory' =
    (at value : ℤ) × HasEvaluated Index input memory registers at × HasEvaluated Value input memory registers value
    × IsPutAt memory first count at value memory'

-- The loop that this relation says the code to be has come from its head to its head again.
pub record LoopRound (Is : CodeRelation) (input : List ℤ) (fuel : ℕ) (registers memory out : List ℤ) (fuel' : ℕ)
    (registers' memory' out' : List ℤ) : Type 0 where
  pub reaches : (p : Program) (homes : List ℕ) (stmts behind : List Stmt) → Is p homes (length memory) stmts →
      Reaches p input fuel out (standing p (stmts ++ behind) (merged homes registers memory)) fuel' out'
      (standing p (stmts ++ behind) (merged homes registers' memory'))

-- The code is that of the whole program.
pub record IsWhole (Main : CodeRelation) (homes : List ℕ) (size sites : ℕ) (p : Program) : Type 0 where
  pub main_is : Main p homes size p.main
  pub sites_are : length p.sites ≡ sites
