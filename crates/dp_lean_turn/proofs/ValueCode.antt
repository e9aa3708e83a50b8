-- The ops of an expression's code all give values, so that they are their own value parts; and skips in them end among them.
use Rattle.std.proofs.Common.{◌≡◌, refl, ap, ◌∙◌, ℕ, zero, suc, ◌+◌, ◌-◌, if◌then◌else◌, Bool, true, false, nat_lt, List, [], ◌∷◌, ◌++◌, map}
use Rattle.std.specs.List.{list_all}
use Rattle.std.proofs.lemmas.Bool.{and_from, and_parts}
use Rattle.std.proofs.lemmas.List.Folds.{list_all-append}
use Rattle.dp_tree.specs.declared.Expr.{Expr, end_of-Expr, more_of-Expr}
use Rattle.dp_tree.specs.declared.Expr.TheVariants as expr
use Rattle.dp_tree.specs.declared.Program.{Program}
use Rattle.dp_code.specs.declared.Op.{Op}
use Rattle.dp_code.specs.declared.Op.TheVariants as op
use Rattle.dp_code.specs.Code.{guarded}
unfoldable use Rattle.dp_code.specs.Code.{expr_code}
use Rattle.dp_code.specs.Order.{gives_value, passes, leads_on}
unfoldable use Rattle.dp_code.specs.Order.{in_order}
use Rattle.dp_code.proofs.CodeOrder.{IsOrdered, site_ordered}
use Rattle.dp_lean_code.specs.declared.LeanOp.TheVariants.{Plain}
use Rattle.dp_lean_code.specs.LeanCode.{value_code}
use Rattle.dp_lean_turn.specs.Notes.{value_part}

abbrev Gives : List Op → Type 0
Gives ops = list_all gives_value ops ≡ true

gives_join : (a b : List Op) → Gives a → Gives b → Gives (a ++ b)
gives_join a b h k = list_all-append gives_value a b ∙ and_from _ _ h k

guarded_gives : (skip : ℕ → Op) (at : ℕ) (right : ℕ → List Op) → ((to : ℕ) → gives_value (skip to) ≡ true) → Gives (right (at + 1)) →
    Gives (guarded skip at right)
guarded_gives skip at right is h = and_from _ _ (is _) (gives_join (right (at + 1)) (op.Truth ∷ []) h refl)

-- the ops that give values are their own value parts
same_values : (ops : List Op) → Gives ops → map value_part (map Plain ops) ≡ ops
same_values [] h = refl
same_values (o ∷ ops) h =
    let both = and_parts (gives_value o) (list_all gives_value ops) h in
    ap (λ (b : Bool). (if b then o else op.End) ∷ map value_part (map Plain ops)) both.0 ∙ ap (λ (xs : List Op). o ∷ xs) (same_values ops both.1)

-- ---- a front of code in order, behind which an op gives no value

passes_front : (n : ℕ) (a : List Op) → passes n (a ++ op.End ∷ []) ≡ true → passes n a ≡ true
passes_front zero a h = refl
passes_front (suc n) [] h = let clash : false ≡ true = h in absurd (cc clash)
passes_front (suc n) (o ∷ a) h = let both = and_parts (gives_value o) (passes n (a ++ op.End ∷ [])) h in and_from _ _ both.0 (passes_front n a both.1)

leads_front : (o : Op) (at : ℕ) (a : List Op) → leads_on o at (a ++ op.End ∷ []) ≡ true → leads_on o at a ≡ true
leads_front (op.SkipIfZero to) at a h =
    let both = and_parts (nat_lt at to) (passes (to - (at + 1)) (a ++ op.End ∷ [])) h in
    and_from (nat_lt at to) _ both.0 (passes_front (to - (at + 1)) a both.1)
leads_front (op.SkipIfNotZero to) at a h =
    let both = and_parts (nat_lt at to) (passes (to - (at + 1)) (a ++ op.End ∷ [])) h in
    and_from (nat_lt at to) _ both.0 (passes_front (to - (at + 1)) a both.1)
leads_front _ at a h = refl

order_front : (at : ℕ) (a : List Op) → IsOrdered at (a ++ op.End ∷ []) → IsOrdered at a
unfolding in_order
order_front at [] h = refl
order_front at (o ∷ a) h =
    let both = and_parts (leads_on o at (a ++ op.End ∷ [])) (in_order (at + 1) (a ++ op.End ∷ [])) h in
    and_from (leads_on o at a) _ (leads_front o at a both.0) (order_front (at + 1) a both.1)

module _ (p : Program) where
  gives : (e : Expr) (at : ℕ) → Gives (expr_code p e at)
  unfolding expr_code
  gives (expr.Number n) at = refl
  gives (expr.Input' _ (more_of-Expr e end_of-Expr)) at = gives_join (expr_code p e at) _ (gives e at) refl
  gives (expr.Element' x _ (more_of-Expr e end_of-Expr)) at = gives_join (expr_code p e at) _ (gives e at) refl
  gives (expr.Unary' o _ (more_of-Expr e end_of-Expr)) at = gives_join (expr_code p e at) _ (gives e at) refl
  gives (expr.Binary' o _ (more_of-Expr a end_of-Expr) _ (more_of-Expr b end_of-Expr)) at =
      gives_join (expr_code p a at) _ (gives a at) (gives_join (expr_code p b _) (op.Binary o ∷ []) (gives b _) refl)
  gives (expr.And' _ (more_of-Expr a end_of-Expr) _ (more_of-Expr b end_of-Expr)) at =
      gives_join (expr_code p a at) _ (gives a at) (guarded_gives op.SkipIfZero _ (expr_code p b) (λ to. refl) (gives b _))
  gives (expr.Or' _ (more_of-Expr a end_of-Expr) _ (more_of-Expr b end_of-Expr)) at =
      gives_join (expr_code p a at) _ (gives a at) (guarded_gives op.SkipIfNotZero _ (expr_code p b) (λ to. refl) (gives b _))
  gives _ at = refl

  -- an expression's code is in order
  pub value_ordered : (e : Expr) (at : ℕ) → in_order at (map value_part (value_code p e at)) ≡ true
  value_ordered e at =
      ap (in_order at) (same_values (expr_code p e at) (gives e at)) ∙ order_front at (expr_code p e at) (site_ordered p e at op.End (λ k rest. refl))
