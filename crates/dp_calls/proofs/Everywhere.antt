-- A test of every statement of a text, by the text's form.
use Rattle.std.proofs.Common.{◌≡◌, ap, ◌∙◌, sym, Bool, true, ◌&&◌, ℕ, List, ◌++◌}
use Rattle.std.specs.List.{list_all}
use Rattle.std.proofs.lemmas.List.Folds.{list_all-append}
use Rattle.dp_base.specs.declared.SiteId.{SiteId}
use Rattle.dp_base.specs.declared.VarId.{VarId}
use Rattle.dp_tree.specs.declared.Expr.{Expr}
use Rattle.dp_tree.specs.declared.Stmt.{Stmt, out-Stmt, roll-Stmt, roll-out-Stmt}
use Rattle.dp_tree.specs.declared.Stmt.TheBlock.{hidden-the_row-Stmt-0}
use Rattle.dp_tree.specs.declared.Stmt.TheOpen.{Stmt-F}
use Rattle.dp_tree.specs.declared.Stmt.TheOpen as open_form
use Rattle.dp_tree.specs.declared.Stmt.TheVariants as tree
use Rattle.dp_tree.specs.declared.Stmt.TheViews.{rolls-Assign}
use Rattle.dp_tree.specs.Statements.{everywhere, everywhere_in}
use Rattle.dp_tree.proofs.SitesOf.{everywhere_hidden, opened_statement, and_make}

module _ (test : Stmt → Bool) where
  -- all statements of the text pass
  abbrev pub all_pass : List Stmt → Bool
  all_pass statements = list_all (everywhere test) statements

  abbrev hidden_pass : List Stmt → Bool
  hidden_pass xs = everywhere_in test (hidden-the_row-Stmt-0 xs)

  pub pass_join : (a b : List Stmt) → all_pass a ≡ true → all_pass b ≡ true → all_pass (a ++ b) ≡ true
  pass_join a b h k = list_all-append (everywhere test) a b ∙ and_make (all_pass a) (all_pass b) h k

  pub pass-If : (site : SiteId) (e : Expr) (a b : List Stmt) → test (tree.If site e a b) ≡ true → all_pass a ≡ true → all_pass b ≡ true →
      everywhere test (tree.If site e a b) ≡ true
  unfolding opened_statement
  pass-If site e a b own h k =
      and_make (test (tree.If site e a b)) (hidden_pass a && hidden_pass b) own (and_make (hidden_pass a) (hidden_pass b) (everywhere_hidden test a ∙ h)
      (everywhere_hidden test b ∙ k))

  pub pass-While : (site : SiteId) (e : Expr) (a : List Stmt) → test (tree.While site e a) ≡ true → all_pass a ≡ true →
      everywhere test (tree.While site e a) ≡ true
  unfolding opened_statement
  pass-While site e a own h = and_make (test (tree.While site e a)) (hidden_pass a) own (everywhere_hidden test a ∙ h)

  pub pass-Region : (r : ℕ) (site : SiteId) (e : Expr) (a : List Stmt) → test (tree.Region r site e a) ≡ true → all_pass a ≡ true →
      everywhere test (tree.Region r site e a) ≡ true
  unfolding opened_statement
  pass-Region r site e a own h = and_make (test (tree.Region r site e a)) (hidden_pass a) own (everywhere_hidden test a ∙ h)

  -- a statement that shows as an assignment
  pub pass_assigned : (s : Stmt) (site : SiteId) (x : VarId) (e : Expr) → out-Stmt s ≡ open_form.Assign site x e → test (tree.Assign site x e) ≡ true →
      everywhere test s ≡ true
  pass_assigned s site x e is own = ap (everywhere test) (sym (roll-out-Stmt s) ∙ ap (λ (h : Stmt-F Stmt). roll-Stmt h) is ∙ rolls-Assign site x e) ∙ own
