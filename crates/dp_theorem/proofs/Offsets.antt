-- What an index amounts to, and how an assignment moves a variable.
use Rattle.dp_semantics.proofs.Names.{◌≡◌, ◌⊎◌, inl, inr, refl, sym, ap, ◌∙◌, ℕ, zero, suc, ◌+◌, ◌<◌, ◌≤◌, ◌==◌, Bool, true, false, if◌then◌else◌, List, []}
use Rattle.dp_semantics.proofs.Names.{◌∷◌, ℤ, pos, negsuc, get_or, Option, Some, None, Result, Ok, Err, arith, eqb-true, FaultKind, Expr, end_of-Expr}
use Rattle.dp_semantics.proofs.Names.{more_of-Expr, Program, Stmt, Stmt-F, Assign, Store, WithLoads, just, and_then, without_loads, place, load, first_cell}
use Rattle.dp_semantics.proofs.Names.{cell_count, eval, Effect, Stored, evaluated}
use Rattle.std.specs.Prelude.{◌+ℤ◌, ◌-ℤ◌, neg_ℤ}
use Rattle.std.proofs.Common.{ap₂}
use Rattle.std.proofs.lemmas.Int.{ints}
use Rattle.dp_base.specs.Arithmetic.{fits, unless_overflow, binary_result}
use Rattle.dp_base.specs.declared.FaultKind.TheVariants.{Overflow}
use Rattle.dp_base.specs.declared.BinOp.{BinOp}
use Rattle.dp_base.specs.declared.BinOp.TheVariants as op
use Rattle.std.specs.Option.{option_or}
use Rattle.dp_tree.specs.declared.Expr.TheVariants as tree
use Rattle.dp_plan.specs.Touch.{Touch, is_var, literal_in, when_so, opposite, added, offset, positive, moved_by, moves, stride_of, head_store}
use Rattle.dp_theorem.proofs.Reading.{then_parts, place_is, Loaded}

abbrev index_in : Option Touch → Option Expr
index_in None = None
index_in (Some t) = t.index

abbrev variable_in : Option Touch → ℕ
variable_in None = 0
variable_in (Some t) = t.variable

pub when_parts : (b : Bool) (n : Option ℤ) (o : ℤ) → when_so b n ≡ Some o → (b ≡ true) × (n ≡ Some o)
when_parts true n o e = (refl, e)
when_parts false n o e = absurd (cc)

pub or_parts : (a b : Option ℤ) (o : ℤ) → option_or a b ≡ Some o → (a ≡ Some o) ⊎ (b ≡ Some o)
or_parts (Some n) b o e = inl e
or_parts None b o e = inr e

pub negated_is : (a : Option ℤ) (o : ℤ) → opposite a ≡ Some o → (n : ℤ) × (a ≡ Some n) × (o ≡ neg_ℤ n)
negated_is (Some n) o e = let same : neg_ℤ n ≡ o = cc e in (n, refl, sym same)
negated_is None o e = absurd (cc)

positive_is : (a : Option ℤ) (k : ℤ) → positive a ≡ Some k → a ≡ Some k
positive_is (Some (pos (suc n))) k e = e
positive_is (Some (pos zero)) k e = absurd (cc)
positive_is (Some (negsuc n)) k e = absurd (cc)
positive_is None k e = absurd (cc)

result_of : (r : Result ℤ FaultKind) (w : WithLoads ℤ) → without_loads r ≡ Ok w → r ≡ Ok w.value
result_of (Ok x) w e = let same : record { value = x; loads = [] } ≡ w = cc e in ap (λ (u : WithLoads ℤ). Ok u.value) same
result_of (Err kind) w e = absurd (cc)

within_range : (z y x : ℤ) → unless_overflow z y ≡ Ok x → z ≡ x
within_range z y x e = by (fits y) e
  where
    by : (b : Bool) → (if b then Ok z else Err Overflow) ≡ Ok x → z ≡ x
    by true e = cc e
    by false e = absurd (cc)

sum_is : (x y z : ℤ) → binary_result op.Add x y ≡ Ok z → x +ℤ y ≡ z
unfolding binary_result
sum_is x y z e = within_range (x +ℤ y) (x +ℤ y) z e

difference_is : (x y z : ℤ) → binary_result op.Sub x y ≡ Ok z → x -ℤ y ≡ z
unfolding binary_result
difference_is x y z e = within_range (x -ℤ y) (x -ℤ y) z e

module _ (p : Program) (input cells : List ℤ) (v : ℕ) where
  -- what v holds
  abbrev pub held : ℤ
  held = get_or cells (first_cell p (record { 0 = v })) (pos 0)

  loaded_is : (x : ℕ) (w : WithLoads ℤ) → load cells (first_cell p (record { 0 = x })) ≡ Ok w → x ≡ v → w.value ≡ held
  loaded_is x w e same =
      let read : record {
        value = get_or cells (first_cell p (record { 0 = x })) (pos
            0);
        loads = record { cell = first_cell p (record { 0 = x }); value = get_or cells (first_cell p (record { 0 = x })) (pos 0) } ∷ [];
      } ≡ w = cc e in
      sym (ap (λ (u : WithLoads ℤ). u.value) read) ∙ ap (λ (y : ℕ). get_or cells (first_cell p (record { 0 = y })) (pos 0)) same

  var_value : (e : Expr) (w : WithLoads ℤ) → is_var v e ≡ true → eval p input cells e ≡ Ok w → w.value ≡ held
  unfolding eval
  var_value (tree.Scalar x) w t e = loaded_is x.0 w e (eqb-true x.0 v t)
  var_value _ w t e = absurd (cc)

  number_value : (e : Expr) (n : ℤ) (w : WithLoads ℤ) → literal_in e ≡ Some n → eval p input cells e ≡ Ok w → w.value ≡ n
  unfolding eval
  number_value (tree.Number m) n w t e =
      let read : record { value = m; loads = [] } ≡ w = cc e in
      let same : m ≡ n = cc t in
      sym (ap (λ (u : WithLoads ℤ). u.value) read) ∙ same
  number_value _ n w t e = absurd (cc)

  -- the parts of an operation that gave a value
  pub record Operands (o : BinOp) (a b : Expr) (w : WithLoads ℤ) : Type 0 where
    pub left : WithLoads ℤ
    pub right : WithLoads ℤ
    pub left_is : eval p input cells a ≡ Ok left
    pub right_is : eval p input cells b ≡ Ok right
    pub result : binary_result o left.value right.value ≡ Ok w.value

  operands : (o : BinOp) (a b : Expr) (w : WithLoads ℤ) →
      and_then (eval p input cells a) (λ x. and_then (eval p input cells b) (λ y. without_loads (binary_result o x y))) ≡ Ok w → Operands o a b w
  operands o a b w e =
      let q = then_parts (eval p input cells a) (λ x. and_then (eval p input cells b) (λ y. without_loads (binary_result o x y))) w e in
      let r = then_parts (eval p input cells b) (λ y. without_loads (binary_result o q.first.value y)) q.second q.next in
      record {
        left = q.first;
        right = r.first;
        left_is = q.was;
        right_is = r.was;
        result = result_of (binary_result o q.first.value r.first.value) r.second r.next ∙ sym (ap (λ (u : WithLoads ℤ). Ok u.value) q.is
            ∙ ap (λ (u : WithLoads ℤ). Ok u.value) r.is);
      }

  added_value : (o : BinOp) (a b : Expr) (n : ℤ) (w : WithLoads ℤ) → added v o a b ≡ Some n → Operands o a b w → w.value ≡ held +ℤ n
  added_value op.Add a b n w t q =
      let sum = sum_is q.left.value q.right.value w.value q.result in
      elim (or_parts (when_so (is_var v a) (literal_in b)) (when_so (is_var v b) (literal_in a)) n t) [
        | inl h ↦ let both = when_parts (is_var v a) (literal_in b) n h in
            omega (arith, ints, sum, var_value a q.left both.0 q.left_is, number_value b n q.right both.1 q.right_is)
        | inr h ↦ let both = when_parts (is_var v b) (literal_in a) n h in
            omega (arith, ints, sum, var_value b q.right both.0 q.right_is, number_value a n q.left both.1 q.left_is)
      ]
  added_value op.Sub a b n w t q =
      let minus = negated_is (when_so (is_var v a) (literal_in b)) n t in
      let both = when_parts (is_var v a) (literal_in b) minus.0 minus.1 in
      omega (
        arith,
        ints,
        difference_is q.left.value q.right.value w.value q.result,
        var_value a q.left both.0 q.left_is,
        number_value b minus.0 q.right both.1 q.right_is,
        minus.2,
      )
  added_value _ a b n w t q = absurd (cc)

  -- an index by its offset
  pub offset_value : (e : Expr) (n : ℤ) (w : WithLoads ℤ) → offset v e ≡ Some n → eval p input cells e ≡ Ok w → w.value ≡ held +ℤ n
  unfolding eval
  offset_value (tree.Scalar x) n w t e =
      let both = when_parts (x.0 == v) (Some (pos 0)) n t in
      let none : pos 0 ≡ n = cc both.1 in
      omega (arith, ints, loaded_is x.0 w e (eqb-true x.0 v both.0), none)
  offset_value (tree.Binary' o _ (more_of-Expr a end_of-Expr) _ (more_of-Expr b end_of-Expr)) n w t e = added_value o a b n w t (operands o a b w e)
  offset_value _ n w t e = absurd (cc)

  moved_value : (o : BinOp) (a b : Expr) (k : ℤ) (w : WithLoads ℤ) → moved_by v o a b ≡ Some k → Operands o a b w → w.value ≡ held +ℤ k
  moved_value op.Add a b k w t q =
      let both = when_parts (is_var v a) (positive (literal_in b)) k t in
      omega (
        arith,
        ints,
        sum_is q.left.value q.right.value w.value q.result,
        var_value a q.left both.0 q.left_is,
        number_value b k q.right (positive_is
            (literal_in b) k both.1) q.right_is,
      )
  moved_value op.Sub a b k w t q =
      let minus = negated_is (when_so (is_var v a) (positive (literal_in b))) k t in
      let both = when_parts (is_var v a) (positive (literal_in b)) minus.0 minus.1 in
      omega (
        arith,
        ints,
        difference_is q.left.value q.right.value w.value q.result,
        var_value a q.left both.0 q.left_is,
        number_value b minus.0 q.right (positive_is (literal_in b) minus.0 both.1) q.right_is,
        minus.2,
      )
  moved_value _ a b k w t q = absurd (cc)

  moves_value : (e : Expr) (k : ℤ) (w : WithLoads ℤ) → moves v e ≡ Some k → eval p input cells e ≡ Ok w → w.value ≡ held +ℤ k
  unfolding eval
  moves_value (tree.Binary' o _ (more_of-Expr a end_of-Expr) _ (more_of-Expr b end_of-Expr)) k w t e = moved_value o a b k w t (operands o a b w e)
  moves_value _ k w t e = absurd (cc)

  -- the assignment stores v with its stride added
  pub stride_value : (h : Stmt-F Stmt) (k : ℤ) (w : WithLoads Effect) → stride_of v h ≡ Some k → evaluated p input cells h ≡ Ok w →
      w.value ≡ Stored (first_cell p (record { 0 = v })) (held +ℤ k)
  stride_value (Assign site x e) k w t gave =
      let both = when_parts (x.0 == v) (moves v e) k t in
      let q = then_parts (eval p input cells e) (λ z. just (Stored (first_cell p x) z)) w gave in
      let read : record { value = Stored (first_cell p x) q.first.value; loads = [] } ≡ q.second = cc q.next in
      ap (λ (u : WithLoads Effect). u.value) q.is ∙ sym (ap (λ (u : WithLoads Effect). u.value) read)
      ∙ ap₂ (λ (y : ℕ) (z : ℤ). Stored (first_cell p (record { 0 = y })) z) (eqb-true x.0 v both.0) (moves_value e k q.first both.1 q.was)
  stride_value _ k w t gave = absurd (cc)

  -- a load of an element by its index's offset
  pub load_lands : (x : ℕ) (index : Expr) (n : ℤ) (c : ℕ) → offset v index ≡ Some n → Loaded p input cells x (Some index) c →
      pos c ≡ pos (first_cell p (record { 0 = x })) +ℤ (held +ℤ n)
  load_lands x index n c t l = omega (arith, ints, offset_value index n l.0 t l.2, l.3, l.4)

  -- a store of an element by its index's offset
  pub store_lands : (h : Stmt-F Stmt) (x : ℕ) (index : Expr) (n : ℤ) (w : WithLoads Effect) → head_store h ≡ Some (record { variable = x; index = Some index })
      → offset v index ≡ Some n → evaluated p input cells h ≡ Ok w →
      (c : ℕ) × (z : ℤ) × (w.value ≡ Stored c z) × (pos c ≡ pos (first_cell p (record { 0 = x })) +ℤ (held +ℤ n)) × (first_cell p (record { 0 = x }) ≤ c)
      × (c < first_cell p (record { 0 = x }) + cell_count p (record { 0 = x }))
  store_lands (Store site y i e) x index n w s t gave =
      let here : y.0 ≡ x = ap variable_in s in
      let found : Some i ≡ Some index = ap index_in s in
      let same : i ≡ index = cc found in
      let q = then_parts (eval p input cells i)
      (λ j. and_then (eval p input cells e) (λ z. and_then (place j (cell_count p y)) (λ k. just (Stored (first_cell p y + k) z)))) w gave in
      let r = then_parts (eval p input cells e) (λ z. and_then (place q.first.value (cell_count p y))
      (λ k. just (Stored (first_cell p y + k) z))) q.second q.next in
      let f = then_parts (place q.first.value (cell_count p y)) (λ k. just (Stored (first_cell p y + k) r.first.value)) r.second r.next in
      let read : record { value = Stored (first_cell p y + f.first.value) r.first.value; loads = [] } ≡ f.second = cc f.next in
      let at = place_is q.first.value (cell_count p y) f.first f.was in
      let value = offset_value i n q.first (ap (offset v) same ∙ t) q.was in (
        first_cell p y + f.first.value,
        r.first.value,
        ap (λ (u : WithLoads Effect). u.value) q.is ∙ ap (λ (u : WithLoads Effect). u.value) r.is ∙ ap (λ (u : WithLoads Effect). u.value) f.is
            ∙ sym (ap (λ (u : WithLoads Effect). u.value) read),
        omega (arith, ints, at_first here, at.0, value),
        omega (arith, at_first here),
        omega (arith, at_first here, at_count here, at.2),
      )
    where
      at_first : y.0 ≡ x → first_cell p y ≡ first_cell p (record { 0 = x })
      at_first e = ap (λ (m : ℕ). first_cell p (record { 0 = m })) e

      at_count : y.0 ≡ x → cell_count p y ≡ cell_count p (record { 0 = x })
      at_count e = ap (λ (m : ℕ). cell_count p (record { 0 = m })) e
  store_lands (Assign site y e) x index n w s t gave = let clash : None ≡ Some index = ap index_in s in absurd (cc clash)
  store_lands _ x index n w s t gave = absurd (cc s)
