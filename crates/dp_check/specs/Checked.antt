-- The law of checked programs needs an array to have an element, and breaks to stand where the grammar has them.
use Rattle.std.specs.Prelude.{Bool, true, false, ◌&&◌, nat_lt}
use Rattle.std.specs.List.{list_all}
use Rattle.dp_tree.specs.declared.raw.RawItem.{RawItem}
use Rattle.dp_tree.specs.declared.raw.RawItem.TheVariants.{Scalar, Array, Function as Callee}
use Rattle.dp_tree.specs.declared.raw.RawProgram.{RawProgram}
use Rattle.dp_tree.specs.declared.raw.RawStmt.{RawStmt, Row_of-RawStmt, end_of-RawStmt, more_of-RawStmt, out-RawStmt}
use Rattle.dp_tree.specs.declared.raw.RawStmt.TheVariants.{Declare, Assign, Store, Call, Print, If', While', For', Break}
use Rattle.dp_tree.specs.declared.raw.RawStmt.TheOpen as open_form
use Rattle.dp_check.specs.Tables.{cells_in_length}

-- an array has an element at least; the grammar has no other
abbrev pub has_length : RawItem → Bool
has_length (Scalar name start) = true
has_length (Array name size) = nat_lt 0 (cells_in_length size)
has_length (Callee name params body) = true

abbrev mutual
  -- no break stands in the statement
  pub is_unbroken : RawStmt → Bool
  is_unbroken (Declare line name value) = true
  is_unbroken (Assign name value) = true
  is_unbroken (Store name index value) = true
  is_unbroken (Call name args) = true
  is_unbroken (Print line value) = true
  is_unbroken (If' line cond _ then_part _ else_part) = is_unbroken_in then_part && is_unbroken_in else_part
  is_unbroken (While' line marked cond _ body) = is_unbroken_in body
  is_unbroken (For' line marked _ first cond _ step _ body) = is_unbroken_in first && (is_unbroken_in body && is_unbroken_in step)
  is_unbroken (Break line cond) = false

  -- the same of the statements of a block
  pub is_unbroken_in : {n : _} → Row_of-RawStmt n → Bool
  is_unbroken_in end_of-RawStmt = true
  is_unbroken_in (more_of-RawStmt s rest) = is_unbroken s && is_unbroken_in rest

-- a statement of a marked loop's body: a break, or one in which none stands
abbrev pub may_leave : RawStmt → Bool
may_leave (Break line cond) = true
may_leave s = is_unbroken s

-- a marked loop whose breaks stand at the top of its body, or else what is said of other statements
abbrev pub fits_at : open_form.RawStmt-F RawStmt → Bool → Bool
fits_at (open_form.While line true cond body) other = list_all may_leave body
fits_at (open_form.For line true first cond step body) other = list_all is_unbroken first && (list_all may_leave body && list_all is_unbroken step)
fits_at _ other = other

-- a statement at the top of `main`
abbrev pub breaks_fit_at_top : RawStmt → Bool
breaks_fit_at_top s = fits_at (out-RawStmt s) (is_unbroken s)

-- no break stands in a function
abbrev pub is_unbroken_item : RawItem → Bool
is_unbroken_item (Scalar name start) = true
is_unbroken_item (Array name size) = true
is_unbroken_item (Callee name params body) = list_all is_unbroken body

-- breaks stand at the top of regions' bodies alone; the grammar has no others
abbrev pub breaks_fit : RawProgram → Bool
breaks_fit raw = list_all breaks_fit_at_top raw.main && list_all is_unbroken_item raw.items
