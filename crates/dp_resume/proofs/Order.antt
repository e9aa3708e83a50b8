-- The regions of `main` stand in the order of their numbers: from a region on no earlier one stands.
use Rattle.std.proofs.Common.{◌≡◌, refl, sym, ap, ◌∙◌, ℕ, ◌<◌, ◌==◌, Bool, true, false, ◌||◌, List, [], ◌∷◌, ◌++◌, arith, rules, tests, eqb-true}
use Rattle.std.specs.Prelude.{if◌then◌else◌}
use Rattle.std.proofs.lemmas.Bool.{and_parts, and_from, both_ways}
use Rattle.std.specs.List.{list_all}
use Rattle.dp_tree.specs.declared.Stmt.{Stmt, out-Stmt}
use Rattle.dp_tree.specs.declared.Stmt.TheBlock.{hidden-the_row-Stmt-0}
use Rattle.dp_tree.specs.Iteration.{is_region}
use Rattle.dp_tree.specs.Numbering.{is_inner_in, next_region, regions_in_order, top_fits}
use Rattle.dp_plan.specs.Access.{is_region_at}
use Rattle.dp_plan.proofs.TopStatements.{Top, marked, unmarked, top}
use Rattle.dp_semantics.specs.EpochKey.{statements_from}
use Rattle.dp_semantics.specs.Fits.{region_alone}
use Rattle.dp_semantics.specs.Nesting.{is_free}
use Rattle.dp_semantics.proofs.Heads.{all_free}
use Rattle.dp_theorem.proofs.Placed.{not_at_head}
use Rattle.dp_theorem.proofs.Regions.{all_alone}

-- the statements from region r on, where none is before them
pub from_front : (r : ℕ) (front : List Stmt) (s : Stmt) (tail : List Stmt) → all_free r front ≡ true → is_region r (out-Stmt s) ≡ true →
    statements_from r (front ++ s ∷ tail) ≡ s ∷ tail
from_front r [] s tail free here = ap (λ (b : Bool). if b then s ∷ tail else statements_from r tail) here
from_front r (x ∷ xs) s tail free here =
    let both = and_parts (is_free r x) (all_free r xs) free in
    ap (λ (b : Bool). if b then x ∷ (xs ++ s ∷ tail) else statements_from r (xs ++ s ∷ tail)) (not_at_head r x both.0) ∙ from_front r xs s tail both.1 here

alone_other : (b c : Bool) → b ≡ false → (b || c) ≡ true → c ≡ true
alone_other true c e h = absurd (cc e)
alone_other false c e h = h

other_number : (q r : ℕ) → r < q → (q == r) ≡ false
other_number q r lt = search (rules, tests)

-- a statement at the top of `main`, where the next region has a number above r
module _ (r k : ℕ) (less : r < k) (x : Stmt) (fits : top_fits k x ≡ true) where
  no_head : Top x → is_region r (out-Stmt x) ≡ false
  no_head (unmarked none off next fit) = none r
  no_head (marked q site cond body shows is on next fit) =
      let both = and_parts (q == k) (is_inner_in (hidden-the_row-Stmt-0 body)) (sym (fit k) ∙ fits) in
      let number : q ≡ k = eqb-true q k both.0 in
      ap (is_region r) shows ∙ other_number q r (omega (arith, number, less))

  more : Top x → r < next_region k x
  more (unmarked none off next fit) = omega (arith, next k, less)
  more (marked q site cond body shows is on next fit) = omega (arith, next k, less)

order_free : (r k : ℕ) (xs : List Stmt) → regions_in_order k xs ≡ true → list_all (region_alone r) xs ≡ true → r < k → all_free r xs ≡ true
order_free r k [] e h less = refl
order_free r k (x ∷ rest) e h less =
    let parts = and_parts (top_fits k x) (regions_in_order (next_region k x) rest) e in
    let both = and_parts (region_alone r x) (list_all (region_alone r) rest) h in
    and_from (is_free r x) (all_free r rest) (alone_other (is_region_at r x) (is_free r x) (no_head r k less x parts.0 (top x)) both.0)
    (order_free r (next_region k x) rest parts.1 both.1 (more r k less x parts.0 (top x)))

-- region q is the next one, where it stands here
number_here : (q k : ℕ) (x : Stmt) → Top x → top_fits k x ≡ true → is_region q (out-Stmt x) ≡ true → k ≡ q
number_here q k x (unmarked none off next fit) fits here = absurd (both_ways (is_region q (out-Stmt x)) (none q) here)
number_here q k x (marked m site cond body shows is on next fit) fits here =
    let both = and_parts (m == k) (is_inner_in (hidden-the_row-Stmt-0 body)) (sym (fit k) ∙ fits) in
    let one : m ≡ k = eqb-true m k both.0 in let two : m ≡ q = eqb-true m q (sym (ap (is_region q) shows) ∙ here) in
    sym one ∙ two

-- from region q on no earlier region stands
pub free_from : (r q k : ℕ) (xs : List Stmt) → regions_in_order k xs ≡ true → r < q → all_free r (statements_from q xs) ≡ true
free_from r q k [] e less = refl
free_from r q k (x ∷ rest) e less = by (is_region q (out-Stmt x)) refl (free_from r q (next_region k x) rest parts.1 less)
  where
    parts : (top_fits k x ≡ true) × (regions_in_order (next_region k x) rest ≡ true)
    parts = and_parts (top_fits k x) (regions_in_order (next_region k x) rest) e

    by : (b : Bool) → is_region q (out-Stmt x) ≡ b → all_free r (statements_from q rest) ≡ true →
        all_free r (if b then x ∷ rest else statements_from q rest) ≡ true
    by true here later = order_free r k (x ∷ rest) e (all_alone r k (x ∷ rest) e) (let same = number_here q k x (top x) parts.0 here in
        omega (arith, same, less))
    by false here later = later
