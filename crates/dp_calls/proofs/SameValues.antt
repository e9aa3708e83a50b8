-- An expression has the same value under the names of a call, where its visible variables have.
use Rattle.std.proofs.Common.{◌≡◌, ◌⊎◌, inl, inr, refl, sym, ap, ap₂, ◌∙◌, ℕ, zero, suc, ◌+◌, ◌<◌, ◌==◌, Bool, true, false, ◌||◌, if◌then◌else◌, List, ◌∷◌, ℤ}
use Rattle.std.proofs.Common.{pos, negsuc, get_or, Result, Ok, Err, nat_lt, arith, eqb-true, eq-eqb, ltb-true}
use Rattle.dp_base.specs.declared.FaultKind.{FaultKind}
use Rattle.dp_base.specs.declared.VarId.{VarId}
use Rattle.dp_base.specs.Arithmetic.{binary_result, unary_result}
use Rattle.dp_tree.specs.declared.Expr.{Expr, end_of-Expr, more_of-Expr}
use Rattle.dp_tree.specs.declared.Expr.TheVariants as tree
use Rattle.dp_tree.specs.declared.Program.{Program}
use Rattle.dp_tree.specs.Eval.{eval, first_cell, cell_count, result_of, bind, just}
use Rattle.dp_tree.specs.Numbering.{numbers_from}
use Rattle.dp_tree.specs.Scoping.{sees, knows}
use Rattle.dp_calls.specs.Renaming.{Renamed, target_of, renamed}
use Rattle.dp_tree.proofs.EvalLemmas.{opened, word, element, and_also, or_also, result-Number, result-InputLen, result-Scalar, result-Input, result-Element}
use Rattle.dp_tree.proofs.EvalLemmas.{result-Unary, result-Binary, result-And, result-Or}
use Rattle.dp_tree.proofs.Heads.{and_true}
use Rattle.dp_base.specs.declared.FaultKind.TheVariants.{Index}
use Rattle.dp_base.specs.declared.UnOp.{UnOp}
use Rattle.dp_base.specs.declared.BinOp.{BinOp}
use Rattle.std.proofs.lemmas.Bool.{or_right, or_cases}

pub or_left : (a b : Bool) → a ≡ true → (a || b) ≡ true
or_left true b e = refl
or_left false b e = absurd (cc)

-- behind one variable more
pub sees_one : (y : ℕ) (visible : List ℕ) (x : VarId) → sees (y ∷ visible) x ≡ true → (y ≡ x.0) ⊎ (sees visible x ≡ true)
sees_one y visible x e = elim (or_cases (y == x.0) (sees visible x) e) [ inl h ↦ inl (eqb-true y x.0 h) | inr h ↦ inr h ]

pub sees_new : (y : ℕ) (visible : List ℕ) (x : VarId) → y ≡ x.0 → sees (y ∷ visible) x ≡ true
sees_new y visible x e = or_left (y == x.0) (sees visible x) (eq-eqb y x.0 e)

pub sees_more : (y : ℕ) (visible : List ℕ) (x : VarId) → sees visible x ≡ true → sees (y ∷ visible) x ≡ true
sees_more y visible x e = or_right (y == x.0) (sees visible x) e

-- the numbers from one on are below its end
pub numbers_below : (first n : ℕ) (x : VarId) → sees (numbers_from first n) x ≡ true → x.0 < first + n
numbers_below first zero x seen = absurd (cc)
numbers_below first (suc n) x seen = elim (sees_one first (numbers_from (first + 1) n) x seen) [
  | inl is ↦ omega (arith, is)
  | inr later ↦ (let less : x.0 < first + 1 + n = numbers_below (first + 1) n x later in omega (arith, less))
]

-- a variable has as many cells in both programs, and they hold the same
pub record ReadsSame (p q : Program) (a b : List ℤ) (x y : VarId) : Type 0 where
  pub count : cell_count p x ≡ cell_count q y
  pub some : 0 < cell_count p x
  pub cells : (k : ℕ) → k < cell_count p x → get_or a (first_cell p x + k) (pos 0) ≡ get_or b (first_cell q y + k) (pos 0)

module _ (a b : List ℤ) (f g n : ℕ) (cells : (k : ℕ) → k < n → get_or a (f + k) (pos 0) ≡ get_or b (g + k) (pos 0)) where
  element_by : (i : ℕ) (t : Bool) → nat_lt i n ≡ t →
      bind (result_of (if t then just i else Err Index)) (λ k. Ok (get_or a (f + k) (pos 0)))
      ≡ bind (result_of (if t then just i else Err Index)) (λ k. Ok (get_or b (g + k) (pos 0)))
  element_by i true e = ap Ok (cells i (ltb-true i n e))
  element_by i false e = refl

  same_element : (i : ℤ) → element a f n i ≡ element b g n i
  same_element (pos i) = element_by i (nat_lt i n) refl
  same_element (negsuc i) = refl

-- the same next result after the same one
bind_same : {X Y : Type 0} (r : Result X FaultKind) (f g : X → Result Y FaultKind) → ((x : X) → f x ≡ g x) → bind r f ≡ bind r g
bind_same (Ok x) f g h = h x
bind_same (Err kind) f g h = refl

module _ (p q : Program) (input a b : List ℤ) (names : List Renamed) (visible : List ℕ)
    (reads : (x : VarId) → sees visible x ≡ true → ReadsSame p q a b x (target_of names x)) where
  abbrev Same : Expr → Type 0
  Same e = result_of (eval p input a e) ≡ result_of (eval q input b (renamed names e))

  same-Scalar : (x : VarId) → ReadsSame p q a b x (target_of names x) → Same (tree.Scalar x)
  same-Scalar x r =
      let y : VarId = target_of names x in let here : first_cell p x ≡ first_cell p x + 0 = omega arith in
      let there : first_cell q y + 0 ≡ first_cell q y = omega arith in
      let first : get_or a (first_cell p x) (pos 0) ≡ get_or b (first_cell q y) (pos 0) =
      ap (λ (k : ℕ). get_or a k (pos 0)) here ∙ r.cells 0 r.some ∙ ap (λ (k : ℕ). get_or b k (pos 0)) there in
      result-Scalar p input a x ∙ ap Ok first ∙ sym (result-Scalar q input b (target_of names x))

  same-Element : (x : VarId) (e : Expr) → ReadsSame p q a b x (target_of names x) → Same e →
      result_of (eval p input a (tree.Element x e)) ≡ result_of (eval q input b (tree.Element (target_of names x) (renamed names e)))
  same-Element x e r h =
      let y : VarId = target_of names x in
      result-Element p input a x e
      ∙ ap (λ (v : Result ℤ FaultKind). bind v (element a (first_cell p x) (cell_count p x))) h
      ∙ bind_same (result_of (eval q input b (renamed names e))) (element a (first_cell p x) (cell_count p x)) (element b (first_cell q y) (cell_count p x))
      (same_element a b (first_cell p x) (first_cell q y) (cell_count p x) r.cells)
      ∙ ap (λ (n : ℕ). bind (result_of (eval q input b (renamed names e))) (element b (first_cell q y) n)) r.count
      ∙ sym (result-Element q input b y (renamed names e))

  same-Input : (e : Expr) → Same e → result_of (eval p input a (tree.Input e)) ≡ result_of (eval q input b (tree.Input (renamed names e)))
  same-Input e h = result-Input p input a e ∙ ap (λ (v : Result ℤ FaultKind). bind v (word input)) h ∙ sym (result-Input q input b (renamed names e))

  same-Unary : (op : UnOp) (e : Expr) → Same e → result_of (eval p input a (tree.Unary op e)) ≡ result_of (eval q input b (tree.Unary op (renamed names e)))
  same-Unary op e h = result-Unary p input a op e ∙ ap (λ (v : Result ℤ FaultKind). bind v (unary_result op)) h
      ∙ sym (result-Unary q input b op (renamed names e))

  same-Binary : (op : BinOp) (c d : Expr) → Same c → Same d →
      result_of (eval p input a (tree.Binary op c d)) ≡ result_of (eval q input b (tree.Binary op (renamed names c) (renamed names d)))
  same-Binary op c d h k =
      result-Binary p input a op c d
      ∙ ap₂ (λ (v w : Result ℤ FaultKind). bind v (λ x. bind w (binary_result op x))) h k
      ∙ sym (result-Binary q input b op (renamed names c) (renamed names d))

  same-And : (c d : Expr) → Same c → Same d → result_of (eval p input a (tree.And c d)) ≡ result_of
      (eval q input b (tree.And (renamed names c) (renamed names d)))
  same-And c d h k = result-And p input a c d ∙ ap₂ (λ (v w : Result ℤ FaultKind). bind v (and_also w)) h k
      ∙ sym (result-And q input b (renamed names c) (renamed names d))

  same-Or : (c d : Expr) → Same c → Same d → result_of (eval p input a (tree.Or c d)) ≡ result_of (eval q input b (tree.Or (renamed names c) (renamed names d)))
  same-Or c d h k = result-Or p input a c d ∙ ap₂ (λ (v w : Result ℤ FaultKind). bind v (or_also w)) h k
      ∙ sym (result-Or q input b (renamed names c) (renamed names d))

  pub same_value : (e : Expr) → knows visible e ≡ true → Same e
  unfolding opened
  same_value (tree.Number n) k = result-Number p input a n ∙ sym (result-Number q input b n)
  same_value (tree.Input' _ (more_of-Expr e end_of-Expr)) k = same-Input e (same_value e k)
  same_value tree.InputLen k = result-InputLen p input a ∙ sym (result-InputLen q input b)
  same_value (tree.Scalar x) k = same-Scalar x (reads x k)
  same_value (tree.Element' x _ (more_of-Expr e end_of-Expr)) k =
      let both = and_true (sees visible x) (knows visible e) k in
      same-Element x e (reads x both.0) (same_value e both.1)
  same_value (tree.Unary' op _ (more_of-Expr e end_of-Expr)) k = same-Unary op e (same_value e k)
  same_value (tree.Binary' op _ (more_of-Expr c end_of-Expr) _ (more_of-Expr d end_of-Expr)) k =
      let both = and_true (knows visible c) (knows visible d) k in same-Binary op c d (same_value c both.0) (same_value d both.1)
  same_value (tree.And' _ (more_of-Expr c end_of-Expr) _ (more_of-Expr d end_of-Expr)) k =
      let both = and_true (knows visible c) (knows visible d) k in same-And c d (same_value c both.0) (same_value d both.1)
  same_value (tree.Or' _ (more_of-Expr c end_of-Expr) _ (more_of-Expr d end_of-Expr)) k =
      let both = and_true (knows visible c) (knows visible d) k in same-Or c d (same_value c both.0) (same_value d both.1)
