-- The value of each form of expression, from those of its operands.
use Rattle.std.proofs.Common.{◌≡◌, refl, subst, ℕ, ◌+◌, not, true, false, List, [], ◌∷◌, ◌++◌, ℤ, pos, Ok, length, get_or}
use Rattle.dp_base.specs.declared.BinOp.{BinOp}
use Rattle.dp_base.specs.declared.UnOp.{UnOp}
use Rattle.dp_base.specs.declared.VarId.{VarId}
use Rattle.dp_base.specs.Arithmetic.{binary_result, unary_result, number_of, is_zero}
use Rattle.dp_tree.specs.declared.Expr.{Expr}
use Rattle.dp_tree.specs.declared.Expr.TheVariants as tree
use Rattle.dp_tree.specs.declared.Program.{Program}
use Rattle.dp_tree.specs.Eval.{Load, place, just, first_cell, cell_count}
unfoldable use Rattle.dp_tree.specs.Eval.{eval}
use Rattle.dp_forms.specs.Values.{GivesValue}

-- what opens where the value of a form is computed
unfoldable pub expression_opened : Unit {0}
unfolding Rattle.dp_tree.specs.Eval.eval denote.Hole.Carrier.out denote.Hole.Carrier.hidden denote.Hole.Carrier.shown
    Rattle.dp_tree.specs.declared.Expr.TheBlock.shape-the_row-Expr-0 Rattle.dp_tree.specs.declared.Expr.TheBlock.hidden-the_row-Expr-0
expression_opened = tt

module _ (p : Program) (input cells : List ℤ) where
  pub gives_number : (z : ℤ) → GivesValue p input cells (tree.Number z) z
  unfolding expression_opened
  gives_number z = record { loads = []; is = refl }

  pub gives_length : GivesValue p input cells tree.InputLen (pos (length input))
  unfolding expression_opened
  gives_length = record { loads = []; is = refl }

  pub gives_scalar : (x : VarId) (v : ℤ) → get_or cells (first_cell p x) (pos 0) ≡ v → GivesValue p input cells (tree.Scalar x) v
  unfolding expression_opened
  gives_scalar x v e = subst (λ (w : ℤ). GivesValue p input cells (tree.Scalar x) w) e
      (record { loads = record { cell = first_cell p x; value = get_or cells (first_cell p x) (pos 0) } ∷ []; is = refl })

  pub gives_word : (e : Expr) (i v : ℤ) (k : ℕ) → GivesValue p input cells e i → place i (length input) ≡ just k → get_or input k (pos 0) ≡ v →
      GivesValue p input cells (tree.Input e) v
  unfolding expression_opened
  gives_word e i v k g placed is = record { loads = g.loads ++ ([] ++ []); is = simp (g.is, placed, is) }

  pub gives_element : (x : VarId) (e : Expr) (i v : ℤ) (k : ℕ) → GivesValue p input cells e i → place i (cell_count p x) ≡ just k →
      get_or cells (first_cell p x + k) (pos 0) ≡ v → GivesValue p input cells (tree.Element x e) v
  unfolding expression_opened
  gives_element x e i v k g placed is =
      record { loads = g.loads ++ ([] ++ (record { cell = first_cell p x + k; value = v } ∷ [])); is = simp (g.is, placed, is) }

  pub gives_unary : (op : UnOp) (a : Expr) (x v : ℤ) → GivesValue p input cells a x → unary_result op x ≡ Ok v → GivesValue p input cells (tree.Unary op a) v
  unfolding expression_opened
  gives_unary op a x v g is = record { loads = g.loads ++ []; is = simp (g.is, is) }

  pub gives_binary : (op : BinOp) (a b : Expr) (x y v : ℤ) → GivesValue p input cells a x → GivesValue p input cells b y → binary_result op x y ≡ Ok v →
      GivesValue p input cells (tree.Binary op a b) v
  unfolding expression_opened
  gives_binary op a b x y v g h is = record { loads = g.loads ++ (h.loads ++ []); is = simp (g.is, h.is, is) }

  pub gives_and_short : (a b : Expr) (x : ℤ) → GivesValue p input cells a x → is_zero x ≡ true → GivesValue p input cells (tree.And a b) (pos 0)
  unfolding expression_opened
  gives_and_short a b x g zero = record { loads = g.loads ++ []; is = simp (g.is, zero) }

  pub gives_and : (a b : Expr) (x y : ℤ) → GivesValue p input cells a x → is_zero x ≡ false → GivesValue p input cells b y →
      GivesValue p input cells (tree.And a b) (number_of (not (is_zero y)))
  unfolding expression_opened
  gives_and a b x y g zero h = record { loads = g.loads ++ (h.loads ++ []); is = simp (g.is, zero, h.is) }

  pub gives_or_short : (a b : Expr) (x : ℤ) → GivesValue p input cells a x → is_zero x ≡ false → GivesValue p input cells (tree.Or a b) (pos 1)
  unfolding expression_opened
  gives_or_short a b x g zero = record { loads = g.loads ++ []; is = simp (g.is, zero) }

  pub gives_or : (a b : Expr) (x y : ℤ) → GivesValue p input cells a x → is_zero x ≡ true → GivesValue p input cells b y →
      GivesValue p input cells (tree.Or a b) (number_of (not (is_zero y)))
  unfolding expression_opened
  gives_or a b x y g zero h = record { loads = g.loads ++ (h.loads ++ []); is = simp (g.is, zero, h.is) }
