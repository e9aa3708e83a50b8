-- An assignment, a declaration and the head of a `for` are read at least to the end of what begins them.
use Rattle.std.proofs.Common.{◌≡◌, refl, ap, ◌∙◌, sym, ℕ, ◌≤◌, Bool, true, false, List, [], ◌∷◌, length, None}
use Rattle.dp_lex.specs.Token.{Lexeme}
use Rattle.dp_tree.specs.declared.raw.Name.{Name as TreeName}
use Rattle.dp_tree.specs.declared.raw.RawExpr.{RawExpr}
use Rattle.dp_tree.specs.declared.raw.RawStmt.{RawStmt}
use Rattle.dp_tree.specs.declared.raw.RawStmt.TheVariants as tree
use Rattle.dp_tokens.specs.declared.symbol.Symbol.{Symbol}
use Rattle.dp_tokens.specs.declared.symbol.Symbol.TheVariants.{Name, Int, Assign, OpenParen, CloseParen, OpenBracket, CloseBracket, Semicolon}
use Rattle.dp_parse.specs.declared.level.Level.TheVariants.{Or}
use Rattle.dp_parse.specs.Levels.{joining}
use Rattle.dp_parse.specs.Rules.{Part, Word, Of, Expression, Simple, First, Head}
use Rattle.dp_parse.specs.Rules as rule
use Rattle.dp_tokens.specs.Steps.{Outcome, Parser, ◌>>=◌, pure, parse_then, expect, sees_symbol}
use Rattle.dp_tokens.specs.Steps as step
use Rattle.dp_parse.specs.steps.Expressions as expr
use Rattle.dp_parse.specs.steps.Heads as read
use Rattle.dp_parse.proofs.HeadReads.{ends_at, assign_bracket, assign_other, simple_first, first_int, first_other, reads_simple, reads_first, reads_head}
use Rattle.dp_parse.proofs.Stuck.{grouped, alone_by}
use Rattle.dp_parse.proofs.Going.{Goes, by, within, no_goes, word_first}
use Rattle.dp_parse.proofs.Beyond.{Beyond, Shrinks, same_beyond, Reading, Inner, part_and, word_and, name_and, ends, same_reading}
use Rattle.dp_parse.proofs.BeyondExpressions.{whole_shrinks, whole_goes, expr_before}

-- an expression that nothing follows
expr_last : (n : ℕ) → Inner expr.whole (Expression Or) n []
expr_last n = record { shrinks = whole_shrinks; goes = λ from to fits g. whole_goes from to g; reads = λ from middle to fits d g. absurd (no_goes g) }

alone : {A : Type 0} (p : Parser A) {n : ℕ} {parts : List Part} → Reading (p >>= (λ x. pure x)) n parts → Reading p n parts
alone p r = same_reading (λ ts. sym (alone_by (p ts))) r

-- ---- before other parts

module _ {B : Type 0} (n : ℕ) (rest : List Part) (next : Inner expr.whole (Expression Or) n rest) where
  value_then : (f : RawExpr → Parser B) → ((e : RawExpr) → Reading (f e) n rest) → Reading (read.value >>= f) n (Word Assign ∷ Of (Expression Or) ∷ rest)
  unfolding read.value
  value_then f goes = same_reading (grouped (λ _. expr.whole) f (expect Assign))
      (word_and Assign n _ _ (λ _. part_and expr.whole (Expression Or) n _ next _ goes))

  pub declare_then : (f : RawStmt → Parser B) → ((s : RawStmt) → Reading (f s) n rest) →
      Reading (read.declare >>= f) n (Word Int ∷ Word Name ∷ Word Assign ∷ Of (Expression Or) ∷ rest)
  unfolding read.declare
  declare_then f goes =
      same_reading (grouped (λ (int : Lexeme). step.name >>= (λ name. read.value >>= (λ value. pure (tree.Declare int.line name value)))) f (expect Int))
      (word_and Int n _ _ (λ int.
      same_reading (grouped (λ name. read.value >>= (λ value. pure (tree.Declare int.line name value))) f step.name) (name_and n _ _ (λ name.
      same_reading (grouped (λ value. pure (tree.Declare int.line name value)) f read.value) (value_then _ (λ e. goes (tree.Declare int.line name e)))))))

  module _ (name : TreeName) (f : RawStmt → Parser B) (goes : (s : RawStmt) → Reading (f s) n rest) where
    valued : (g : RawExpr → RawStmt) → Reading ((read.value >>= (λ e. pure (g e))) >>= f) n (Word Assign ∷ Of (Expression Or) ∷ rest)
    valued g = same_reading (grouped (λ e. pure (g e)) f read.value) (value_then _ (λ e. goes (g e)))

    store_then : Reading (read.store name >>= f) n (Word OpenBracket ∷ Of (Expression Or) ∷ Word CloseBracket ∷ Word Assign ∷ Of (Expression Or) ∷ rest)
    unfolding read.store
    store_then =
        same_reading (grouped (λ _. expr.whole >>= (λ index. expect CloseBracket >>= (λ _. read.value >>= (λ value. pure (tree.Store name index value))))) f
        (expect OpenBracket)) (word_and OpenBracket n _ _ (λ _.
        same_reading (grouped (λ index. expect CloseBracket >>= (λ _. read.value >>= (λ value. pure (tree.Store name index value)))) f expr.whole)
        (part_and expr.whole (Expression Or) n _ (expr_before CloseBracket n _ refl (λ e. cc e)) _ (λ index.
        same_reading (grouped (λ _. read.value >>= (λ value. pure (tree.Store name index value))) f (expect CloseBracket))
        (word_and CloseBracket n _ _ (λ _. valued (tree.Store name index)))))))

    assign_by : (b : Bool) → Shrinks (read.assign_by name b >>= f)
    assign_by true from = store_then.shrinks from
    assign_by false from = (valued (tree.Assign name)).shrinks from

    assign_shrinks : Shrinks (read.assign name >>= f)
    unfolding read.assign
    assign_shrinks from = assign_by (sees_symbol OpenBracket from) from

    pub scalar_then : Reading (read.assign name >>= f) n (Word Assign ∷ Of (Expression Or) ∷ rest)
    scalar_then = record {
      shrinks = assign_shrinks;
      goes = λ from to fits g.
          same_beyond to (ap (λ (o : Outcome RawStmt). parse_then o f)
          (assign_other name from (λ k. let clash : Assign ≡ OpenBracket = sym (word_first g) ∙ k in cc clash)))
          ((valued (tree.Assign name)).goes from to fits g);
    }

    pub element_then : Reading (read.assign name >>= f) n (Word OpenBracket ∷ Of (Expression Or) ∷ Word CloseBracket ∷ Word Assign ∷ Of (Expression Or) ∷ rest)
    element_then = record {
      shrinks = assign_shrinks;
      goes = λ from to fits g. same_beyond to (ap (λ (o : Outcome RawStmt). parse_then o f) (assign_bracket name from (word_first g)))
          (store_then.goes from to fits g);
    }

-- ---- what stands in the parentheses of a `for`

declare_read : (n : ℕ) → Reading read.declare n (Word Int ∷ Word Name ∷ Word Assign ∷ Of (Expression Or) ∷ [])
declare_read n = alone read.declare (declare_then n [] (expr_last n) _ (λ s. ends))

scalar_read : (n : ℕ) → Reading read.simple n (Word Name ∷ Word Assign ∷ Of (Expression Or) ∷ [])
unfolding read.simple
scalar_read n = name_and n _ _ (λ name. alone (read.assign name) (scalar_then n [] (expr_last n) name _ (λ s. ends)))

element_read : (n : ℕ) → Reading read.simple n (Word Name ∷ Word OpenBracket ∷ Of (Expression Or) ∷ Word CloseBracket ∷ Word Assign ∷ Of (Expression Or) ∷ [])
unfolding read.simple
element_read n = name_and n _ _ (λ name. alone (read.assign name) (element_then n [] (expr_last n) name _ (λ s. ends)))

simple_goes : (n : ℕ) (from to : List Lexeme) → length from ≤ n → Goes Simple from to → Beyond (read.simple from) to
simple_goes n from to fits (by rule.scalar_assigned g) = (scalar_read n).goes from to fits g
simple_goes n from to fits (by rule.element_assigned g) = (element_read n).goes from to fits g

-- before a symbol that ends an expression
simple : (s : Symbol) (n : ℕ) (parts : List Part) → joining s ≡ None → (s ≡ OpenBracket → ⊥) → Inner read.simple Simple n (Word s ∷ parts)
simple s n parts none other = record {
  shrinks = (scalar_read n).shrinks;
  goes = simple_goes n;
  reads = λ from middle to fits d g. (d.0, reads_simple d.1 (ends_at s middle (word_first g) none other));
}

first_by : (b : Bool) → Shrinks (read.first_by b)
first_by true from = (declare_read 0).shrinks from
first_by false from = (scalar_read 0).shrinks from

first_shrinks : Shrinks read.first
unfolding read.first
first_shrinks from = first_by (sees_symbol Int from) from

first_goes : (n : ℕ) (from to : List Lexeme) → length from ≤ n → Goes First from to → Beyond (read.first from) to
first_goes n from to fits (by rule.declared g) = same_beyond to (first_int from (word_first g)) ((declare_read n).goes from to fits g)
first_goes n from to fits (by rule.simple (within g)) =
    same_beyond to (first_other from (λ e. let clash : Name ≡ Int = sym (simple_first g) ∙ e in cc clash)) (simple_goes n from to fits g)

first : (s : Symbol) (n : ℕ) (parts : List Part) → joining s ≡ None → (s ≡ OpenBracket → ⊥) → Inner read.first First n (Word s ∷ parts)
first s n parts none other = record {
  shrinks = first_shrinks;
  goes = first_goes n;
  reads = λ from middle to fits d g. (d.0, reads_first d.1 (ends_at s middle (word_first g) none other));
}

head_read : (n : ℕ) → Reading read.head n (Word OpenParen ∷ Of First ∷ Word Semicolon ∷ Of (Expression Or) ∷ Word Semicolon ∷ Of Simple ∷ Word CloseParen ∷ [])
unfolding read.head
head_read n =
    word_and OpenParen n _ _ (λ _. part_and read.first First n _ (first Semicolon n _ refl (λ e. cc e)) _ (λ first. word_and Semicolon n _ _ (λ _.
    part_and expr.whole (Expression Or) n _ (expr_before Semicolon n _ refl (λ e. cc e)) _ (λ cond. word_and Semicolon n _ _ (λ _.
    part_and read.simple Simple n _ (simple CloseParen n _ refl (λ e. cc e)) _ (λ step. word_and CloseParen n [] _ (λ _. ends)))))))

head_goes : (n : ℕ) (from to : List Lexeme) → length from ≤ n → Goes Head from to → Beyond (read.head from) to
head_goes n from to fits (by rule.head g) = (head_read n).goes from to fits g

pub head : (n : ℕ) (parts : List Part) → Inner read.head Head n parts
head n parts = record { shrinks = (head_read n).shrinks; goes = head_goes n; reads = λ from middle to fits d g. (_, reads_head d.3) }
