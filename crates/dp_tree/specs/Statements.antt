-- What is asked of each statement of a text: the two walks that such questions share, one that finds and one that tests.
use Rattle.std.specs.Prelude.{Bool, true, ◌&&◌, List, [], ◌∷◌, ◌++◌}
use Rattle.dp_tree.specs.declared.Stmt.{Stmt, Row_of-Stmt, end_of-Stmt, more_of-Stmt}
use Rattle.dp_tree.specs.declared.Stmt.TheVariants.{If', While', Region'}

abbrev mutual
  -- what the question gives of the statement itself, and then of those inside it, in text order
  pub asked : {X : Type 0} → (Stmt → List X) → Stmt → List X
  asked ask (If' site cond h then_part k else_part) = ask (If' site cond h then_part k else_part) ++ (asked_in ask then_part ++ asked_in ask else_part)
  asked ask (While' site cond h body) = ask (While' site cond h body) ++ asked_in ask body
  asked ask (Region' r site cond h body) = ask (Region' r site cond h body) ++ asked_in ask body
  asked ask s = ask s

  -- the same of several statements
  pub asked_in : {X : Type 0} {n : _} → (Stmt → List X) → Row_of-Stmt n → List X
  asked_in ask end_of-Stmt = []
  asked_in ask (more_of-Stmt s rest) = asked ask s ++ asked_in ask rest

abbrev mutual
  -- the statement itself passes the test, and so do those inside it
  pub everywhere : (Stmt → Bool) → Stmt → Bool
  everywhere test (If' site cond h then_part k else_part) =
      test (If' site cond h then_part k else_part) && (everywhere_in test then_part && everywhere_in test else_part)
  everywhere test (While' site cond h body) = test (While' site cond h body) && everywhere_in test body
  everywhere test (Region' r site cond h body) = test (Region' r site cond h body) && everywhere_in test body
  everywhere test s = test s

  -- the same of several statements
  pub everywhere_in : {n : _} → (Stmt → Bool) → Row_of-Stmt n → Bool
  everywhere_in test end_of-Stmt = true
  everywhere_in test (more_of-Stmt s rest) = everywhere test s && everywhere_in test rest

-- the statements of a row
abbrev pub listed : {n : _} → Row_of-Stmt n → List Stmt
listed end_of-Stmt = []
listed (more_of-Stmt s rest) = s ∷ listed rest
