-- Statements whose sites pass a test, and what is left of them.
use Rattle.std.proofs.Common.{◌≡◌, refl, sym, ap, ◌∙◌, ℕ, Bool, true, false, not, ◌&&◌, ◌==◌, if◌then◌else◌, List, [], ◌∷◌, ◌++◌, ℤ, Option, Some, None}
use Rattle.std.specs.List.{list_all}
pub use Rattle.std.proofs.lemmas.Bool.{and_from as and_make, and_parts as and_true}
use Rattle.dp_base.specs.Arithmetic.{is_zero}
use Rattle.dp_tree.specs.declared.Stmt.{Stmt, out-Stmt, roll-Stmt, roll-out-Stmt}
use Rattle.dp_tree.specs.declared.Stmt.TheViews.{rolls-Assign, rolls-Store, rolls-Print, rolls-If, rolls-While, rolls-Region, rolls-Break, rolls-Call}
use Rattle.dp_tree.specs.declared.Stmt.TheOpen.{Stmt-F, Assign, Store, Print, If, While, Region, Break, Call}
use Rattle.dp_tree.specs.Step.{choose, followed, behind_region, behind_one, region_number}
use Rattle.dp_tree.specs.Iteration.{is_region}
use Rattle.dp_tree.specs.RegionLaws.{keeps, keeps_own}
use Rattle.dp_tree.specs.Statements.{everywhere, everywhere_in}
use Rattle.std.proofs.lemmas.Bool.{not-true}

-- what opens where a statement is made
unfoldable pub opened_statement : Unit {0}
unfolding Rattle.dp_tree.specs.declared.Stmt.TheBlock.shape-the_row-Stmt-0 Rattle.dp_tree.specs.declared.Stmt.TheBlock.hidden-the_row-Stmt-0
    denote.Hole.Carrier.hidden
opened_statement = tt

-- a test of all that stands in a row
pub everywhere_hidden : (test : Stmt → Bool) (xs : List Stmt) → everywhere_in test (Rattle.dp_tree.specs.declared.Stmt.TheBlock.hidden-the_row-Stmt-0 xs)
    ≡ list_all (everywhere test) xs
unfolding opened_statement
everywhere_hidden test [] = refl
everywhere_hidden test (x ∷ xs) = ap (λ (b : Bool). everywhere test x && b) (everywhere_hidden test xs)

abbrev hidden_keeps : (ℕ → Bool) → ℕ → List Stmt → Bool
hidden_keeps test r xs = everywhere_in (keeps_own test r) (Rattle.dp_tree.specs.declared.Stmt.TheBlock.hidden-the_row-Stmt-0 xs)

module _ (test : ℕ → Bool) (r : ℕ) where
  abbrev pub keeps_all : List Stmt → Bool
  keeps_all statements = list_all (keeps test r) statements

  keeps_hidden : (xs : List Stmt) → hidden_keeps test r xs ≡ keeps_all xs
  keeps_hidden xs = everywhere_hidden (keeps_own test r) xs

  abbrev pub keeps_at : Stmt-F Stmt → Bool
  keeps_at (Assign site x e) = test site.0
  keeps_at (Store site x index e) = test site.0
  keeps_at (Print site e) = test site.0
  keeps_at (If site cond a b) = test site.0 && (keeps_all a && keeps_all b)
  keeps_at (While site cond a) = test site.0 && keeps_all a
  keeps_at (Region q site cond a) = (test site.0 && not (q == r)) && keeps_all a
  keeps_at (Break site cond) = test site.0
  keeps_at (Call f line args) = true

  keeps_roll : (h : Stmt-F Stmt) → keeps test r (roll-Stmt h) ≡ keeps_at h
  unfolding opened_statement
  keeps_roll (Assign site x e) = ap (keeps test r) (rolls-Assign site x e)
  keeps_roll (Store site x index e) = ap (keeps test r) (rolls-Store site x index e)
  keeps_roll (Print site e) = ap (keeps test r) (rolls-Print site e)
  keeps_roll (If site cond a b) = ap (keeps test r) (rolls-If site cond a b) ∙ ap (λ (u : Bool). test site.0 && (u && hidden_keeps test r b)) (keeps_hidden a)
      ∙ ap (λ (u : Bool). test site.0 && (keeps_all a && u)) (keeps_hidden b)
  keeps_roll (While site cond a) = ap (keeps test r) (rolls-While site cond a) ∙ ap (λ (u : Bool). test site.0 && u) (keeps_hidden a)
  keeps_roll (Region q site cond a) = ap (keeps test r) (rolls-Region q site cond a) ∙ ap (λ (u : Bool). (test site.0 && not (q == r)) && u) (keeps_hidden a)
  keeps_roll (Break site cond) = ap (keeps test r) (rolls-Break site cond)
  keeps_roll (Call f line args) = ap (keeps test r) (rolls-Call f line args)

  pub keeps_out : (x : Stmt) → keeps test r x ≡ keeps_at (out-Stmt x)
  keeps_out x = ap (keeps test r) (sym (roll-out-Stmt x)) ∙ keeps_roll (out-Stmt x)

  pub keeps-append : (a b : List Stmt) → keeps_all a ≡ true → keeps_all b ≡ true → keeps_all (a ++ b) ≡ true
  keeps-append [] b h k = k
  keeps-append (x ∷ a) b h k = let both = and_true (keeps test r x) (keeps_all a) h in
      and_make (keeps test r x) (keeps_all (a ++ b)) both.0 (keeps-append a b both.1 k)

  keeps_choose : (z : ℤ) (a b : List Stmt) → keeps_all a ≡ true → keeps_all b ≡ true → keeps_all (choose z a b) ≡ true
  keeps_choose z a b h k = by (is_zero z)
    where
      by : (t : Bool) → keeps_all (if t then b else a) ≡ true
      by true = k
      by false = h

  -- what is behind a region among them has no other sites
  pub keeps_behind : (rest : List Stmt) → keeps_all rest ≡ true → keeps_all (behind_region rest) ≡ true
  keeps_behind [] k = refl
  keeps_behind (x ∷ rest) k = by (region_number (out-Stmt x)) (keeps_behind rest (and_true (keeps test r x) (keeps_all rest) k).1)
    where
      by : (o : Option ℕ) → keeps_all (behind_region rest) ≡ true → keeps_all (behind_one o rest (behind_region rest)) ≡ true
      by None later = later
      by (Some q) later = (and_true (keeps test r x) (keeps_all rest) k).1

  -- what follows a statement has no other sites
  pub keeps_followed : (x : Stmt) (rest : List Stmt) (h : Stmt-F Stmt) (z : ℤ) → keeps test r x ≡ true → keeps_at h ≡ true → keeps_all rest ≡ true →
      keeps_all (followed x rest h z) ≡ true
  keeps_followed x rest (If site cond a b) z w h k =
      let both = and_true (keeps_all a) (keeps_all b) (and_true (test site.0) (keeps_all a && keeps_all b) h).1 in
      keeps-append (choose z a b) rest (keeps_choose z a b both.0 both.1) k
  keeps_followed x rest (While site cond a) z w h k =
      keeps_choose z (a ++ x ∷ rest) rest (keeps-append a (x ∷ rest) (and_true (test site.0) (keeps_all a) h).1
      (and_make (keeps test r x) (keeps_all rest) w k)) k
  keeps_followed x rest (Region q site cond a) z w h k =
      keeps_choose z (a ++ x ∷ rest) rest (keeps-append a (x ∷ rest) (and_true (test site.0 && not (q == r)) (keeps_all a) h).1
      (and_make (keeps test r x) (keeps_all rest) w k)) k
  keeps_followed x rest (Break site cond) z w h k = keeps_choose z (behind_region rest) rest (keeps_behind rest k) k
  keeps_followed x rest _ z w h k = k

  pub no_region : (h : Stmt-F Stmt) → keeps_at h ≡ true → is_region r h ≡ false
  no_region (Region q site cond a) w = not-true (q == r) (and_true (test site.0) (not (q == r)) (and_true (test site.0 && not (q == r)) (keeps_all a) w).0).1
  no_region _ w = refl
