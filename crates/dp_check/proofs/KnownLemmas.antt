-- Names that mean visible variables and known functions, and the expressions in which they stand.
use Rattle.std.proofs.Common.{◌≡◌, refl, ap, ◌∙◌, ℕ, suc, ◌==◌, Bool, true, false, ◌&&◌, ◌||◌, if◌then◌else◌, List, [], ◌∷◌, ◌++◌, map, length, Option, Some}
use Rattle.std.proofs.Common.{None, slice_get, nat_lt, arith}
use Rattle.std.proofs.lemmas.Bool.Decides.{nat_tests}
use Rattle.std.specs.List.{list_all}
use Rattle.dp_base.specs.declared.BinOp.{BinOp}
use Rattle.dp_base.specs.declared.UnOp.{UnOp}
use Rattle.dp_base.specs.declared.VarId.{VarId}
use Rattle.dp_tree.specs.declared.Expr.{Expr}
use Rattle.dp_tree.specs.declared.Expr.TheVariants as tree
use Rattle.dp_tree.specs.declared.Program.{Program}
use Rattle.dp_tree.specs.declared.raw.RawExpr.{RawExpr, end_of-RawExpr, more_of-RawExpr}
use Rattle.dp_tree.specs.declared.raw.RawExpr.TheVariants as raw
use Rattle.dp_tree.specs.Functions.{params_in}
use Rattle.dp_tree.specs.declared.Stmt.{Stmt}
use Rattle.dp_tree.specs.declared.Stmt.TheVariants as code
use Rattle.dp_tree.specs.Scoping.{sees, knows, seen_behind}
use Rattle.dp_tree.proofs.EvalLemmas.{opened}
use Rattle.dp_check.specs.declared.names.Meaning.{Meaning}
use Rattle.dp_check.specs.declared.names.Meaning.TheVariants.{Scalar, Array, Input, InputLen, Function}
use Rattle.dp_check.specs.Names.{Named, named, same_name}
use Rattle.dp_check.specs.Resolved.{scalar_expr, array_of, element_expr, resolved_expr}
use Rattle.dp_check.proofs.BoolLemmas.{both_true, halves, same_number, all_of_both, all_weaker}

-- a variable among these, or one of the first n functions with so many parameters
abbrev pub is_known : Program → ℕ → List ℕ → Meaning → Bool
is_known p n visible (Scalar x) = sees visible x
is_known p n visible (Array x) = sees visible x
is_known p n visible (Function f k) = nat_lt f n && (k == length (params_in (slice_get p.functions f)))
is_known p n visible _ = true

abbrev pub is_known_if : Program → ℕ → List ℕ → Option Meaning → Bool
is_known_if p n visible None = true
is_known_if p n visible (Some m) = is_known p n visible m

abbrev pub all_known : Program → ℕ → List ℕ → List Named → Bool
all_known p n visible names = list_all (λ (e : Named). is_known p n visible e.meaning) names

-- what a name means is known
pub found : (p : Program) (n : ℕ) (visible : List ℕ) (names : List Named) (x : List ℕ) → all_known p n visible names ≡ true →
    is_known_if p n visible (named names x) ≡ true
found p n visible [] x h = refl
found p n visible (e ∷ names) x h =
    let k = halves (is_known p n visible e.meaning) (all_known p n visible names) h in by (same_name x e.name) k.0 (found p n visible names x k.1)
  where
    by : (b : Bool) → is_known p n visible e.meaning ≡ true → is_known_if p n visible (named names x) ≡ true →
        is_known_if p n visible (if b then Some e.meaning else named names x) ≡ true
    by true here later = here
    by false here later = later

pub sees_more : (visible : List ℕ) (y : ℕ) (x : VarId) → sees visible x ≡ true → sees (y ∷ visible) x ≡ true
sees_more visible y x h = by (y == x.0)
  where
    by : (b : Bool) → (b || sees visible x) ≡ true
    by true = refl
    by false = h

pub sees_first : (visible : List ℕ) (x : VarId) → sees (x.0 ∷ visible) x ≡ true
sees_first visible x = ap (λ b. b || sees visible x) (same_number x.0)

-- more variables are visible
pub known_more : (p : Program) (n : ℕ) (visible : List ℕ) (y : ℕ) (m : Meaning) → is_known p n visible m ≡ true → is_known p n (y ∷ visible) m ≡ true
known_more p n visible y (Scalar x) h = sees_more visible y x h
known_more p n visible y (Array x) h = sees_more visible y x h
known_more p n visible y (Function f k) h = h
known_more p n visible y _ h = refl

-- what is visible behind statements
abbrev pub seen_behind_all : List ℕ → List Stmt → List ℕ
seen_behind_all visible [] = visible
seen_behind_all visible (s ∷ rest) = seen_behind_all (seen_behind visible s) rest

known_behind_one : (p : Program) (n : ℕ) (visible : List ℕ) (names : List Named) (s : Stmt) → all_known p n visible names ≡ true →
    all_known p n (seen_behind visible s) names ≡ true
known_behind_one p n visible names (code.Assign site x e) h = by (sees visible x)
  where
    by : (b : Bool) → all_known p n (if b then visible else x.0 ∷ visible) names ≡ true
    by true = h
    by false = all_weaker _ _ (λ (e : Named). known_more p n visible x.0 e.meaning) names h
known_behind_one p n visible names (code.Store site x index e) h = h
known_behind_one p n visible names _ h = h

-- what is known stays so behind statements
pub known_behind : (p : Program) (n : ℕ) (visible : List ℕ) (names : List Named) (all : List Stmt) → all_known p n visible names ≡ true →
    all_known p n (seen_behind_all visible all) names ≡ true
known_behind p n visible names [] h = h
known_behind p n visible names (s ∷ rest) h = known_behind p n (seen_behind visible s) names rest (known_behind_one p n visible names s h)

pub less_more : (f n : ℕ) → nat_lt f n ≡ true → nat_lt f (suc n) ≡ true
less_more f n h = grind (arith, nat_tests)

-- one more function is known
pub known_later : (p : Program) (n : ℕ) (visible : List ℕ) (m : Meaning) → is_known p n visible m ≡ true → is_known p (suc n) visible m ≡ true
known_later p n visible Input h = refl
known_later p n visible InputLen h = refl
known_later p n visible (Function f k) h =
    let same = halves (nat_lt f n) (k == length (params_in (slice_get p.functions f))) h in both_true (less_more f n same.0) same.1
known_later p n visible _ h = h

pub known_append : (p : Program) (n : ℕ) (visible : List ℕ) (names : List Named) (text : List ℕ) (m : Meaning) → all_known p n visible names ≡ true →
    is_known p n visible m ≡ true
    → all_known p n visible (names ++ record { name = text; meaning = m } ∷ []) ≡ true
known_append p n visible names text m h here =
    all_of_both (λ (e : Named). is_known p n visible e.meaning) names (record { name = text; meaning = m } ∷ []) h (both_true here refl)

module _ (visible : List ℕ) where
  knows-Element : (x : VarId) (e : Expr) → knows visible (tree.Element x e) ≡ (sees visible x && knows visible e)
  unfolding opened
  knows-Element x e = refl

  knows-Input : (e : Expr) → knows visible (tree.Input e) ≡ knows visible e
  unfolding opened
  knows-Input e = refl

  knows-Unary : (op : UnOp) (a : Expr) → knows visible (tree.Unary op a) ≡ knows visible a
  unfolding opened
  knows-Unary op a = refl

  knows-Binary : (op : BinOp) (a b : Expr) → knows visible (tree.Binary op a b) ≡ (knows visible a && knows visible b)
  unfolding opened
  knows-Binary op a b = refl

  knows-And : (a b : Expr) → knows visible (tree.And a b) ≡ (knows visible a && knows visible b)
  unfolding opened
  knows-And a b = refl

  knows-Or : (a b : Expr) → knows visible (tree.Or a b) ≡ (knows visible a && knows visible b)
  unfolding opened
  knows-Or a b = refl

module _ (p : Program) (n : ℕ) (visible : List ℕ) where
  knows_scalar : (m : Option Meaning) → is_known_if p n visible m ≡ true → knows visible (scalar_expr m) ≡ true
  knows_scalar (Some (Scalar x)) h = h
  knows_scalar _ h = refl

  knows_element : (m : Option Meaning) (e : Expr) → is_known_if p n visible m ≡ true → knows visible e ≡ true →
      knows visible (element_expr (array_of m) e) ≡ true
  knows_element (Some (Array x)) e h k = knows-Element visible x e ∙ both_true h k
  knows_element _ e h k = knows-Input visible e ∙ k

  module _ (names : List Named) (known : all_known p n visible names ≡ true) where
    -- an expression names visible variables alone
    pub knows_expr : (e : RawExpr) → knows visible (resolved_expr names e) ≡ true
    knows_expr (raw.Number k) = refl
    knows_expr (raw.Scalar name) = knows_scalar (named names name.text) (found p n visible names name.text known)
    knows_expr (raw.Element' name _ (more_of-RawExpr e end_of-RawExpr)) =
        knows_element (named names name.text) (resolved_expr names e) (found p n visible names name.text known) (knows_expr e)
    knows_expr (raw.Unary' op _ (more_of-RawExpr a end_of-RawExpr)) = knows-Unary visible op (resolved_expr names a) ∙ knows_expr a
    knows_expr (raw.Binary' op _ (more_of-RawExpr a end_of-RawExpr) _ (more_of-RawExpr b end_of-RawExpr)) =
        knows-Binary visible op (resolved_expr names a) (resolved_expr names b) ∙ both_true (knows_expr a) (knows_expr b)
    knows_expr (raw.And' _ (more_of-RawExpr a end_of-RawExpr) _ (more_of-RawExpr b end_of-RawExpr)) =
        knows-And visible (resolved_expr names a) (resolved_expr names b) ∙ both_true (knows_expr a) (knows_expr b)
    knows_expr (raw.Or' _ (more_of-RawExpr a end_of-RawExpr) _ (more_of-RawExpr b end_of-RawExpr)) =
        knows-Or visible (resolved_expr names a) (resolved_expr names b) ∙ both_true (knows_expr a) (knows_expr b)

    pub knows_args : (args : List RawExpr) → list_all (knows visible) (map (resolved_expr names) args) ≡ true
    knows_args [] = refl
    knows_args (e ∷ rest) = both_true (knows_expr e) (knows_args rest)
