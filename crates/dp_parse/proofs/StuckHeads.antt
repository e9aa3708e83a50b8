-- Where an assignment, a declaration or the head of a `for` is stuck, the tokens before that place begin one.
use Rattle.std.proofs.Common.{◌≡◌, ap, ◌∙◌, sym, Bool, true, false, List, [], ◌∷◌, Err}
use Rattle.dp_lex.specs.Token.{Lexeme}
use Rattle.dp_tree.specs.declared.raw.Name.{Name as TreeName}
use Rattle.dp_tree.specs.declared.raw.RawExpr.{RawExpr}
use Rattle.dp_tree.specs.declared.raw.RawStmt.{RawStmt}
use Rattle.dp_tree.specs.declared.raw.RawStmt.TheVariants as tree
use Rattle.dp_tokens.specs.declared.symbol.Symbol.TheVariants.{Name, Int, Assign, OpenParen, CloseParen, OpenBracket, CloseBracket, Semicolon}
use Rattle.dp_parse.specs.declared.level.Level.TheVariants.{Or}
use Rattle.dp_tokens.specs.Symbols.{Is}
use Rattle.dp_tokens.specs.Leaves.{name_of}
use Rattle.dp_parse.specs.Rules.{Part, Word, Of, Expression, Simple, First, Head}
use Rattle.dp_parse.specs.Begins.{Begins, BeginsParts, nothing, by, within, token}
use Rattle.dp_parse.specs.Rules as rule
use Rattle.dp_tokens.specs.Steps.{Parser, ◌>>=◌, pure, expect, sees_symbol}
use Rattle.dp_tokens.specs.Steps as step
use Rattle.dp_parse.specs.steps.Expressions as expr
use Rattle.dp_parse.specs.steps.Heads as read
use Rattle.dp_parse.proofs.LeafLemmas.{read_name}
use Rattle.dp_parse.proofs.HeadSound.{sound_simple, sound_first, read_head}
use Rattle.dp_parse.proofs.Stuck.{Fails, Reader, seq, done, word, called, name_stuck, reader, cases, regroup, alone_by, alone}
use Rattle.dp_parse.proofs.StuckExpressions as stuck

-- before other parts
module _ {B : Type 0} (rest : List Part) where
  value_then : (f : RawExpr → Parser B) → ((e : RawExpr) → Fails (f e) rest) → Fails (read.value >>= f) (Word Assign ∷ Of (Expression Or) ∷ rest)
  unfolding read.value
  value_then f goes = regroup (expect Assign) (λ _. expr.whole) f (seq (word Assign) _ (λ _. seq stuck.expr _ goes))

  pub declare_then : (f : RawStmt → Parser B) → ((s : RawStmt) → Fails (f s) rest) →
      Fails (read.declare >>= f) (Word Int ∷ Word Name ∷ Word Assign ∷ Of (Expression Or) ∷ rest)
  unfolding read.declare
  declare_then f goes =
      regroup (expect Int) _ f
      (seq (word Int) _ (λ int. regroup step.name _ f
      (seq called _ (λ name. regroup read.value _ f (value_then _ (λ e. goes (tree.Declare int.line name e)))))))

  store_then : (name : TreeName) (f : RawStmt → Parser B) → ((s : RawStmt) → Fails (f s) rest) →
      Fails (read.store name >>= f) (Word OpenBracket ∷ Of (Expression Or) ∷ Word CloseBracket ∷ Word Assign ∷ Of (Expression Or) ∷ rest)
  unfolding read.store
  store_then name f goes =
      regroup (expect OpenBracket) _ f
      (seq (word OpenBracket) _
      (λ _. regroup expr.whole _ f
      (seq stuck.expr _ (λ index. regroup (expect CloseBracket) _ f
      (seq (word CloseBracket) _ (λ _. regroup read.value _ f (value_then _ (λ e. goes (tree.Store name index e)))))))))

  scalar_then : (name : TreeName) (f : RawStmt → Parser B) → ((s : RawStmt) → Fails (f s) rest) →
      Fails ((read.value >>= (λ e. pure (tree.Assign name e))) >>= f) (Word Assign ∷ Of (Expression Or) ∷ rest)
  scalar_then name f goes = regroup read.value _ f (value_then _ (λ e. goes (tree.Assign name e)))

-- an assignment, behind its name
pub data Assigned (rest : List Part) (from to : List Lexeme) : Type 0 where
  scalar : BeginsParts (Word Assign ∷ Of (Expression Or) ∷ rest) from to → Assigned rest from to
  element : BeginsParts (Word OpenBracket ∷ Of (Expression Or) ∷ Word CloseBracket ∷ Word Assign ∷ Of (Expression Or) ∷ rest) from to → Assigned rest from to

module _ {B : Type 0} (rest : List Part) (name : TreeName) (f : RawStmt → Parser B) (goes : (s : RawStmt) → Fails (f s) rest) where
  assign_at : (b : Bool) (from to : List Lexeme) → (read.assign_by name b >>= f) from ≡ Err to → Assigned rest from to
  assign_at true from to h = element (store_then rest name f goes from to h)
  assign_at false from to h = scalar (scalar_then rest name f goes from to h)

  pub assign_then : (from to : List Lexeme) → (read.assign name >>= f) from ≡ Err to → Assigned rest from to
  unfolding read.assign
  assign_then from to h = assign_at (sees_symbol OpenBracket from) from to h

assigned : (name : Lexeme) (from to : List Lexeme) → Is Name name → Assigned [] from to → Begins Simple (name ∷ from) to
assigned name from to is (scalar b) = by rule.scalar_assigned (token is b)
assigned name from to is (element b) = by rule.element_assigned (token is b)

simple_stuck : (from to : List Lexeme) → read.simple from ≡ Err to → Begins Simple from to
unfolding read.simple
simple_stuck from to h =
    cases step.name read.assign (Begins Simple) (λ from to e. rw (name_stuck from to e) nothing)
    (λ from middle to name e f.
    let n = read_name from middle name e in
    rw n.splits (assigned n.token middle to n.is (assign_then [] (name_of n.token) (λ s. pure s) (λ s. done) middle to
    (alone_by (read.assign (name_of n.token) middle) ∙ ap (λ (name : TreeName). read.assign name middle) (sym n.called) ∙ f)))) from to h

first_at : (b : Bool) (from to : List Lexeme) → read.first_by b from ≡ Err to → Begins First from to
first_at true from to h = by rule.declared (alone read.declare (declare_then [] _ (λ s. done)) from to h)
first_at false from to h = by rule.simple (within (simple_stuck from to h))

first_stuck : (from to : List Lexeme) → read.first from ≡ Err to → Begins First from to
unfolding read.first
first_stuck from to h = first_at (sees_symbol Int from) from to h

simple : Reader read.simple (Of Simple)
simple = reader Simple read.simple (λ from to a e. (a, sound_simple from to a e)) simple_stuck

first : Reader read.first (Of First)
first = reader First read.first (λ from to a e. (a, sound_first from to a e)) first_stuck

pub head_stuck : (from to : List Lexeme) → read.head from ≡ Err to → Begins Head from to
unfolding read.head
head_stuck from to h =
    by rule.head (seq (word OpenParen) _
    (λ _. seq first _ (λ first. seq (word Semicolon) _
    (λ _. seq stuck.expr _ (λ cond. seq (word Semicolon) _ (λ _. seq simple _ (λ step. seq (word CloseParen) _ (λ _. done))))))) from to h)

pub head : Reader read.head (Of Head)
head = reader Head read.head (λ from to a e. let k = read_head from to a e in (k.first, k.cond, k.step, k.derives)) head_stuck
