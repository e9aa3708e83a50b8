-- The place of an index, and the step of a right side, by its form.
use Rattle.std.proofs.Common.{◌≡◌, refl, ℤ, pos, false, Some, None}
use Rattle.dp_base.specs.declared.VarId.{VarId}
use Rattle.dp_base.specs.declared.UnOp.{UnOp}
use Rattle.dp_base.specs.declared.BinOp.{BinOp}
use Rattle.dp_tree.specs.declared.Expr.{Expr}
use Rattle.dp_tree.specs.declared.Expr.TheVariants as expr
use Rattle.dp_sites.specs.Place.{scalar_at, literal_at, index_place, stride_at, added_place, added_step}
use Rattle.dp_plan.proofs.LoadLemmas.{opened}

pub scalar-Number : (n : ℤ) → scalar_at (expr.Number n) ≡ None
unfolding scalar_at opened
scalar-Number n = refl

pub scalar-InputLen : scalar_at (expr.InputLen) ≡ None
unfolding scalar_at opened
scalar-InputLen = refl

pub scalar-Scalar : (x : VarId) → scalar_at (expr.Scalar x) ≡ Some x
unfolding scalar_at opened
scalar-Scalar x = refl

pub scalar-Input : (e : Expr) → scalar_at (expr.Input e) ≡ None
unfolding scalar_at opened
scalar-Input e = refl

pub scalar-Element : (x : VarId) (e : Expr) → scalar_at (expr.Element x e) ≡ None
unfolding scalar_at opened
scalar-Element x e = refl

pub scalar-Unary : (op : UnOp) (e : Expr) → scalar_at (expr.Unary op e) ≡ None
unfolding scalar_at opened
scalar-Unary op e = refl

pub scalar-Binary : (op : BinOp) (a b : Expr) → scalar_at (expr.Binary op a b) ≡ None
unfolding scalar_at opened
scalar-Binary op a b = refl

pub scalar-And : (a b : Expr) → scalar_at (expr.And a b) ≡ None
unfolding scalar_at opened
scalar-And a b = refl

pub scalar-Or : (a b : Expr) → scalar_at (expr.Or a b) ≡ None
unfolding scalar_at opened
scalar-Or a b = refl

pub ruleset scalar_forms = (scalar-Number, scalar-InputLen, scalar-Scalar, scalar-Input, scalar-Element, scalar-Unary, scalar-Binary, scalar-And, scalar-Or)

pub number-Number : (n : ℤ) → literal_at (expr.Number n) ≡ Some n
unfolding literal_at opened
number-Number n = refl

pub number-InputLen : literal_at (expr.InputLen) ≡ None
unfolding literal_at opened
number-InputLen = refl

pub number-Scalar : (x : VarId) → literal_at (expr.Scalar x) ≡ None
unfolding literal_at opened
number-Scalar x = refl

pub number-Input : (e : Expr) → literal_at (expr.Input e) ≡ None
unfolding literal_at opened
number-Input e = refl

pub number-Element : (x : VarId) (e : Expr) → literal_at (expr.Element x e) ≡ None
unfolding literal_at opened
number-Element x e = refl

pub number-Unary : (op : UnOp) (e : Expr) → literal_at (expr.Unary op e) ≡ None
unfolding literal_at opened
number-Unary op e = refl

pub number-Binary : (op : BinOp) (a b : Expr) → literal_at (expr.Binary op a b) ≡ None
unfolding literal_at opened
number-Binary op a b = refl

pub number-And : (a b : Expr) → literal_at (expr.And a b) ≡ None
unfolding literal_at opened
number-And a b = refl

pub number-Or : (a b : Expr) → literal_at (expr.Or a b) ≡ None
unfolding literal_at opened
number-Or a b = refl

pub ruleset number_forms = (number-Number, number-InputLen, number-Scalar, number-Input, number-Element, number-Unary, number-Binary, number-And, number-Or)

pub place-Number : (n : ℤ) → index_place (expr.Number n) ≡ None
unfolding index_place opened
place-Number n = refl

pub place-InputLen : index_place (expr.InputLen) ≡ None
unfolding index_place opened
place-InputLen = refl

pub place-Scalar : (x : VarId) → index_place (expr.Scalar x) ≡ Some (record { by = x; less = false; number = pos 0 })
unfolding index_place opened
place-Scalar x = refl

pub place-Input : (e : Expr) → index_place (expr.Input e) ≡ None
unfolding index_place opened
place-Input e = refl

pub place-Element : (x : VarId) (e : Expr) → index_place (expr.Element x e) ≡ None
unfolding index_place opened
place-Element x e = refl

pub place-Unary : (op : UnOp) (e : Expr) → index_place (expr.Unary op e) ≡ None
unfolding index_place opened
place-Unary op e = refl

pub place-Binary : (op : BinOp) (a b : Expr) → index_place (expr.Binary op a b) ≡ added_place op a b
unfolding index_place opened
place-Binary op a b = refl

pub place-And : (a b : Expr) → index_place (expr.And a b) ≡ None
unfolding index_place opened
place-And a b = refl

pub place-Or : (a b : Expr) → index_place (expr.Or a b) ≡ None
unfolding index_place opened
place-Or a b = refl

pub ruleset place_forms = (place-Number, place-InputLen, place-Scalar, place-Input, place-Element, place-Unary, place-Binary, place-And, place-Or)

pub step-Number : (v : VarId) (n : ℤ) → stride_at v (expr.Number n) ≡ None
unfolding stride_at opened
step-Number v n = refl

pub step-InputLen : (v : VarId) → stride_at v (expr.InputLen) ≡ None
unfolding stride_at opened
step-InputLen v = refl

pub step-Scalar : (v : VarId) (x : VarId) → stride_at v (expr.Scalar x) ≡ None
unfolding stride_at opened
step-Scalar v x = refl

pub step-Input : (v : VarId) (e : Expr) → stride_at v (expr.Input e) ≡ None
unfolding stride_at opened
step-Input v e = refl

pub step-Element : (v : VarId) (x : VarId) (e : Expr) → stride_at v (expr.Element x e) ≡ None
unfolding stride_at opened
step-Element v x e = refl

pub step-Unary : (v : VarId) (op : UnOp) (e : Expr) → stride_at v (expr.Unary op e) ≡ None
unfolding stride_at opened
step-Unary v op e = refl

pub step-Binary : (v : VarId) (op : BinOp) (a b : Expr) → stride_at v (expr.Binary op a b) ≡ added_step v op a b
unfolding stride_at opened
step-Binary v op a b = refl

pub step-And : (v : VarId) (a b : Expr) → stride_at v (expr.And a b) ≡ None
unfolding stride_at opened
step-And v a b = refl

pub step-Or : (v : VarId) (a b : Expr) → stride_at v (expr.Or a b) ≡ None
unfolding stride_at opened
step-Or v a b = refl

pub ruleset step_forms = (step-Number, step-InputLen, step-Scalar, step-Input, step-Element, step-Unary, step-Binary, step-And, step-Or)
