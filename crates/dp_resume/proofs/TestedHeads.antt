-- Statements that pass a test everywhere: the statement itself, what is inside it, and what follows it.
use Rattle.std.proofs.Common.{◌≡◌, refl, sym, ap, ◌∙◌, ℕ, Bool, true, false, ◌&&◌, if◌then◌else◌, List, [], ◌∷◌, ◌++◌, ℤ, Option, Some, None}
use Rattle.std.specs.List.{list_all}
use Rattle.std.proofs.lemmas.List.Folds.{list_all-append}
use Rattle.dp_base.specs.Arithmetic.{is_zero}
use Rattle.dp_tree.specs.declared.Stmt.{Stmt, out-Stmt, roll-Stmt, roll-out-Stmt}
use Rattle.dp_tree.specs.declared.Stmt.TheVariants as tree
use Rattle.dp_tree.specs.declared.Stmt.TheViews.{rolls-If, rolls-While, rolls-Region}
use Rattle.dp_tree.specs.declared.Stmt.TheOpen.{Stmt-F, If, While, Region, Break}
use Rattle.dp_tree.specs.Statements.{everywhere, everywhere_in}
use Rattle.dp_tree.specs.Step.{choose, followed, behind_region, behind_one, region_number}
use Rattle.dp_tree.proofs.Heads.{everywhere_hidden, and_make, and_true}
unfoldable use Rattle.dp_tree.proofs.Heads.{opened_statement}

module _ (test : Stmt → Bool) where
  abbrev pub all_pass : List Stmt → Bool
  all_pass xs = list_all (everywhere test) xs

  -- the statement itself
  pub own_passes : (x : Stmt) → everywhere test x ≡ true → test x ≡ true
  own_passes (tree.If' site cond h a k b) e = (and_true (test (tree.If' site cond h a k b)) (everywhere_in test a && everywhere_in test b) e).0
  own_passes (tree.While' site cond h a) e = (and_true (test (tree.While' site cond h a)) (everywhere_in test a) e).0
  own_passes (tree.Region' r site cond h a) e = (and_true (test (tree.Region' r site cond h a)) (everywhere_in test a) e).0
  own_passes (tree.Assign site x v) e = e
  own_passes (tree.Store site x index v) e = e
  own_passes (tree.Print site v) e = e
  own_passes (tree.Break site cond) e = e
  own_passes (tree.Call f line args) e = e

  -- what stands in it
  abbrev pub inside_passes : Stmt-F Stmt → Bool
  inside_passes (If site cond a b) = all_pass a && all_pass b
  inside_passes (While site cond a) = all_pass a
  inside_passes (Region q site cond a) = all_pass a
  inside_passes _ = true

  abbrev hidden_passes : List Stmt → Bool
  hidden_passes xs = everywhere_in test (Rattle.dp_tree.specs.declared.Stmt.TheBlock.hidden-the_row-Stmt-0 xs)

  inside_roll : (h : Stmt-F Stmt) → everywhere test (roll-Stmt h) ≡ true → inside_passes h ≡ true
  unfolding opened_statement
  inside_roll (If site cond a b) e =
      let both = and_true (hidden_passes a) (hidden_passes b) (and_true _ (hidden_passes a && hidden_passes b)
      (sym (ap (everywhere test) (rolls-If site cond a b)) ∙ e)).1 in
      and_make (all_pass a) (all_pass b) (sym (everywhere_hidden test a) ∙ both.0) (sym (everywhere_hidden test b) ∙ both.1)
  inside_roll (While site cond a) e =
      sym (everywhere_hidden test a) ∙ (and_true _ (hidden_passes a) (sym (ap (everywhere test) (rolls-While site cond a)) ∙ e)).1
  inside_roll (Region q site cond a) e =
      sym (everywhere_hidden test a) ∙ (and_true _ (hidden_passes a) (sym (ap (everywhere test) (rolls-Region q site cond a)) ∙ e)).1
  inside_roll _ e = refl

  pub inside_out : (x : Stmt) → everywhere test x ≡ true → inside_passes (out-Stmt x) ≡ true
  inside_out x e = inside_roll (out-Stmt x) (ap (everywhere test) (roll-out-Stmt x) ∙ e)

  pass-append : (a b : List Stmt) → all_pass a ≡ true → all_pass b ≡ true → all_pass (a ++ b) ≡ true
  pass-append a b h k = list_all-append (everywhere test) a b ∙ and_make (all_pass a) (all_pass b) h k

  pub pass_choose : (z : ℤ) (a b : List Stmt) → all_pass a ≡ true → all_pass b ≡ true → all_pass (choose z a b) ≡ true
  pass_choose z a b h k = by (is_zero z)
    where
      by : (t : Bool) → all_pass (if t then b else a) ≡ true
      by true = k
      by false = h

  -- what is behind a region among them
  pass_behind : (rest : List Stmt) → all_pass rest ≡ true → all_pass (behind_region rest) ≡ true
  pass_behind [] k = refl
  pass_behind (x ∷ rest) k = by (region_number (out-Stmt x)) (pass_behind rest (and_true (everywhere test x) (all_pass rest) k).1)
    where
      by : (o : Option ℕ) → all_pass (behind_region rest) ≡ true → all_pass (behind_one o rest (behind_region rest)) ≡ true
      by None later = later
      by (Some q) later = (and_true (everywhere test x) (all_pass rest) k).1

  pass_by : (x : Stmt) (rest : List Stmt) (h : Stmt-F Stmt) (z : ℤ) → everywhere test x ≡ true → inside_passes h ≡ true → all_pass rest ≡ true →
      all_pass (followed x rest h z) ≡ true
  pass_by x rest (If site cond a b) z w h k = let both = and_true (all_pass a) (all_pass b) h in
      pass-append (choose z a b) rest (pass_choose z a b both.0 both.1) k
  pass_by x rest (While site cond a) z w h k =
      pass_choose z (a ++ x ∷ rest) rest (pass-append a (x ∷ rest) h (and_make (everywhere test x) (all_pass rest) w k)) k
  pass_by x rest (Region q site cond a) z w h k =
      pass_choose z (a ++ x ∷ rest) rest (pass-append a (x ∷ rest) h (and_make (everywhere test x) (all_pass rest) w k)) k
  pass_by x rest (Break site cond) z w h k = pass_choose z (behind_region rest) rest (pass_behind rest k) k
  pass_by x rest _ z w h k = k

  -- what follows a statement
  pub pass_followed : (x : Stmt) (rest : List Stmt) (z : ℤ) → all_pass (x ∷ rest) ≡ true → all_pass (followed x rest (out-Stmt x) z) ≡ true
  pass_followed x rest z e = let both = and_true (everywhere test x) (all_pass rest) e in pass_by x rest (out-Stmt x) z both.0 (inside_out x both.0) both.1
