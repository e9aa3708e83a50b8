-- The value that code finds of each form of expression.
use Rattle.std.proofs.Common.{◌≡◌, sym, ap, ◌∙◌, subst, ℕ, ◌+◌, ◌<◌, not, true, false, List, ℤ, pos, Ok, Option, Some, None, IfSome, length, get_or}
use Rattle.dp_base.specs.declared.BinOp.{BinOp}
use Rattle.dp_base.specs.declared.UnOp.{UnOp}
use Rattle.dp_base.specs.Arithmetic.{binary_result, unary_result, number_of, is_zero}
use Rattle.dp_tree.specs.declared.Expr.{Expr}
use Rattle.dp_tree.specs.declared.Expr.TheVariants as tree
use Rattle.dp_tree.specs.Eval.{place, just, cell_count, first_cell}
use Rattle.dp_native.specs.Element.{IsElement, index_of}
use Rattle.dp_forms.specs.Registers.{merged, IsCell}
use Rattle.dp_forms.specs.Values.{GivesValue, HasEvaluated, ValueRelation, OfNumber, OfLength, OfScalar, OfWord, OfElement, OfUnary, OfBinary, OfAnd, OfOr}
use Rattle.dp_forms.proofs.RegisterLemmas.{get_register, get_apart}
use Rattle.dp_forms.proofs.EvalLemmas.{gives_number, gives_length, gives_scalar, gives_word, gives_element, gives_unary, gives_binary, gives_and}
use Rattle.dp_forms.proofs.EvalLemmas.{gives_and_short, gives_or, gives_or_short}

found_word : {input : List ℤ} {i j v : ℤ} → j ≡ i → IsElement input j v → IsElement input i v
found_word {input} {i} {j} {v} e found = subst (λ (k : ℤ). IsElement input k v) e found

found_cell : {memory : List ℤ} {F C : ℕ} {i j v : ℤ} → j ≡ i → IsCell memory F C j v → IsCell memory F C i v
found_cell {memory} {F} {C} {i} {j} {v} e found = subst (λ (k : ℤ). IsCell memory F C k v) e found

module _ {input memory registers : List ℤ} where
  pub number_value : (z : ℤ) → HasEvaluated (OfNumber z) input memory registers z
  number_value z = record {
    gives = λ p homes e is. subst (λ (x : Expr). GivesValue p input (merged homes registers memory) x z) (sym is)
        (gives_number p input (merged homes registers memory) z);
  }

  pub length_value : {v : ℤ} → v ≡ pos (length input) → HasEvaluated OfLength input memory registers v
  length_value {v} same = record {
    gives = λ p homes e is.
        subst (λ (x : Expr). GivesValue p input (merged homes registers memory) x v) (sym is)
        (subst (λ (w : ℤ). GivesValue p input (merged homes registers memory) tree.InputLen w) (sym same)
        (gives_length p input (merged homes registers memory)));
  }

  pub scalar_value : (K : ℕ) {v : ℤ} → K < length registers → get_or registers K (pos 0) ≡ v → HasEvaluated (OfScalar K) input memory registers v
  scalar_value K {v} within same = record {
    gives = λ p homes e is.
        let cells = merged homes registers memory in
        subst (λ (x : Expr). GivesValue p input cells x v) (sym is.is)
        (gives_scalar p input cells is.variable v (get_register homes registers memory K (first_cell p is.variable) is.register_is.home
        is.register_is.below within ∙ same));
  }

  pub word_value : {Index : ValueRelation} {i j : ℤ} (r : Option ℤ) → j ≡ i → HasEvaluated Index input memory registers i →
      IfSome r (λ v. IsElement input j v) → IfSome r (λ v. HasEvaluated (OfWord Index) input memory registers v)
  word_value None same index found = found
  word_value {Index} {i} (Some v) same index there = record {
    gives = λ p homes e is.
        let cells = merged homes registers memory in
        subst (λ (x : Expr). GivesValue p input cells x v) (sym is.is) (gives_word p input cells is.index i v (index_of i)
        (index.gives p homes is.index is.index_is) (found_word same there).place.placed (found_word same there).value);
  }

  pub element_value : {Index : ValueRelation} (F C : ℕ) {i j : ℤ} (r : Option ℤ) → j ≡ i → HasEvaluated Index input memory registers i →
      IfSome r (λ v. IsCell memory F C j v) → IfSome r (λ v. HasEvaluated (OfElement F C Index) input memory registers v)
  element_value F C None equal index found = found
  element_value {Index} F C {i} (Some v) equal index there_is = record {
    gives = λ p homes e is.
        let cells = merged homes registers memory in
        let found : IsCell memory F C i v = found_cell equal there_is in
        let k = index_of i in
        let placed : place i (cell_count p is.variable) ≡ just k = subst (λ (n : ℕ). place i n ≡ just k) (sym is.array.count_is) found.placed in
        let there : get_or cells (first_cell p is.variable + k) (pos 0) ≡ v = ap (λ (n : ℕ). get_or cells (n + k) (pos 0)) is.array.first_is
        ∙ get_apart homes registers memory F C k is.array.apart found.below ∙ found.is in
        subst (λ (x : Expr). GivesValue p input cells x v) (sym is.is) (gives_element p input cells is.variable is.index i v k
        (index.gives p homes is.index is.index_is) placed there);
  }

  pub unary_value : {A : ValueRelation} (op : UnOp) {a x : ℤ} (r : Option ℤ) → x ≡ a → HasEvaluated A input memory registers a →
      IfSome r (λ v. unary_result op x ≡ Ok v) → IfSome r (λ v. HasEvaluated (OfUnary op A) input memory registers v)
  unary_value op None same first found = found
  unary_value {A} op {a} {x = w} (Some v) same first found = record {
    gives = λ p homes e is.
        let cells = merged homes registers memory in
        subst (λ (x : Expr). GivesValue p input cells x v) (sym is.is)
        (gives_unary p input cells op is.operand a v (first.gives p homes is.operand is.operand_is) (subst (λ (y : ℤ). unary_result op y ≡ Ok v) same found));
  }

  pub binary_value : {A B : ValueRelation} (op : BinOp) {a b x y : ℤ} (r : Option ℤ) → x ≡ a → y ≡ b → HasEvaluated A input memory registers a →
      HasEvaluated B input memory registers b → IfSome r (λ v. binary_result op x y ≡ Ok v) →
      IfSome r (λ v. HasEvaluated (OfBinary op A B) input memory registers v)
  binary_value op None same equal first second found = found
  binary_value {A} {B} op {a} {b} {x = w} {y = u} (Some v) same equal first second found = record {
    gives = λ p homes e is.
        let cells = merged homes registers memory in
        subst (λ (x : Expr). GivesValue p input cells x v) (sym is.is) (gives_binary p input cells op is.left is.right a b v
        (first.gives p homes is.left is.left_is) (second.gives p homes is.right is.right_is) (subst (λ (z : ℤ). binary_result op z b ≡ Ok v) same
        (subst (λ (z : ℤ). binary_result op w z ≡ Ok v) equal found)));
  }

  pub and_short : {A B : ValueRelation} {a : ℤ} → HasEvaluated A input memory registers a → is_zero a ≡ true →
      HasEvaluated (OfAnd A B) input memory registers (pos 0)
  and_short {A} {B} {a} first zero = record {
    gives = λ p homes e is.
        let cells = merged homes registers memory in
        subst (λ (x : Expr). GivesValue p input cells x (pos 0)) (sym is.is) (gives_and_short p input cells is.left is.right a
        (first.gives p homes is.left is.left_is) zero);
  }

  pub and_value : {A B : ValueRelation} {a b v : ℤ} → HasEvaluated A input memory registers a → is_zero a ≡ false → HasEvaluated B input memory registers b →
      v ≡ number_of (not (is_zero b)) → HasEvaluated (OfAnd A B) input memory registers v
  and_value {A} {B} {a} {b} {v} first some second same = record {
    gives = λ p homes e is.
        let cells = merged homes registers memory in
        subst (λ (x : Expr). GivesValue p input cells x v) (sym is.is)
        (subst (λ (w : ℤ). GivesValue p input cells (tree.And is.left is.right) w) (sym same)
        (gives_and p input cells is.left is.right a b (first.gives p homes is.left is.left_is) some (second.gives p homes is.right is.right_is)));
  }

  pub or_short : {A B : ValueRelation} {a : ℤ} → HasEvaluated A input memory registers a → is_zero a ≡ false →
      HasEvaluated (OfOr A B) input memory registers (pos 1)
  or_short {A} {B} {a} first some = record {
    gives = λ p homes e is.
        let cells = merged homes registers memory in
        subst (λ (x : Expr). GivesValue p input cells x (pos 1)) (sym is.is) (gives_or_short p input cells is.left is.right a
        (first.gives p homes is.left is.left_is) some);
  }

  pub or_value : {A B : ValueRelation} {a b v : ℤ} → HasEvaluated A input memory registers a → is_zero a ≡ true → HasEvaluated B input memory registers b →
      v ≡ number_of (not (is_zero b)) → HasEvaluated (OfOr A B) input memory registers v
  or_value {A} {B} {a} {b} {v} first zero second same = record {
    gives = λ p homes e is.
        let cells = merged homes registers memory in
        subst (λ (x : Expr). GivesValue p input cells x v) (sym is.is)
        (subst (λ (w : ℤ). GivesValue p input cells (tree.Or is.left is.right) w) (sym same)
        (gives_or p input cells is.left is.right a b (first.gives p homes is.left is.left_is) zero (second.gives p homes is.right is.right_is)));
  }
