-- A statement without a block is read at least to the end of what begins it.
use Rattle.std.proofs.Common.{◌≡◌, refl, ap, ◌∙◌, sym, ℕ, ◌≤◌, ◌-◌, Bool, true, false, List, [], ◌∷◌, ◌++◌, length, arith}
use Rattle.dp_lex.specs.Token.{Lexeme}
use Rattle.dp_tree.specs.declared.raw.Name.{Name as TreeName}
use Rattle.dp_tree.specs.declared.raw.RawExpr.{RawExpr}
use Rattle.dp_tree.specs.declared.raw.RawStmt.{RawStmt}
use Rattle.dp_tokens.specs.declared.symbol.Symbol.{Symbol}
use Rattle.dp_tokens.specs.declared.symbol.Symbol.TheVariants.{Name, Int, Print, Assign, OpenParen, CloseParen, OpenBracket, CloseBracket, Semicolon, Comma}
use Rattle.dp_parse.specs.declared.level.Level.TheVariants.{Or}
use Rattle.dp_tokens.specs.Symbols.{symbol_at, Is}
use Rattle.dp_parse.specs.Levels.{prefixing}
use Rattle.dp_parse.specs.Rules.{Part, Word, Of, Expression, Expressions, Arguments, Condition}
use Rattle.dp_parse.specs.Rules as rule
use Rattle.dp_tokens.specs.Steps.{◌>>=◌, pure, expect, sees_symbol, separated}
use Rattle.dp_parse.specs.steps.Expressions as expr
use Rattle.dp_parse.specs.steps.Statements as read
use Rattle.dp_parse.proofs.StepLemmas.{is_same, sees_other, after_is, sees_is}
use Rattle.dp_parse.proofs.StatementReads.{reads_condition, reads_arguments, no_paren, before}
use Rattle.dp_parse.proofs.StatementForms.{sound_arguments}
use Rattle.dp_parse.proofs.Spans.{shorter}
use Rattle.dp_parse.proofs.Lists.{separated_on}
use Rattle.dp_parse.proofs.StuckStatements.{arguments_stuck}
use Rattle.dp_parse.proofs.Going.{Goes, GoesParts, by, last, token, last_number, within, past, word_first}
use Rattle.dp_parse.proofs.Beyond.{Beyond, Shrinks, shrinks_as, same_beyond, Reading, Inner, part_and, word_and, name_and, ends, separated_shrinks}
use Rattle.dp_parse.proofs.Beyond.{separated_first}
use Rattle.dp_parse.proofs.BeyondExpressions.{expr_before, whole_shrinks, whole_goes}
use Rattle.dp_parse.proofs.BeyondHeads.{declare_then, scalar_then, element_then}

condition_read : (n : ℕ) → Reading read.condition n (Word OpenParen ∷ Of (Expression Or) ∷ Word CloseParen ∷ [])
unfolding read.condition
condition_read n = word_and OpenParen n _ _ (λ _. part_and expr.whole (Expression Or) n _ (expr_before CloseParen n [] refl (λ e. cc e)) _
    (λ inside. word_and CloseParen n [] _ (λ _. ends)))

pub condition_goes : (n : ℕ) (from to : List Lexeme) → length from ≤ n → Goes Condition from to → Beyond (read.condition from) to
condition_goes n from to fits (by rule.condition g) = (condition_read n).goes from to fits g

pub test : (n : ℕ) (parts : List Part) → Inner read.condition Condition n parts
test n parts = record { shrinks = (condition_read n).shrinks; goes = condition_goes n; reads = λ from middle to fits d g. (d.0, reads_condition d.1) }

finish : (n : ℕ) (s : RawStmt) → Reading (expect Semicolon >>= (λ _. pure s)) n (Word Semicolon ∷ [])
finish n s = word_and Semicolon n [] _ (λ _. ends)

pub declaration_read : (n : ℕ) → Reading read.declaration n (Word Int ∷ Word Name ∷ Word Assign ∷ Of (Expression Or) ∷ Word Semicolon ∷ [])
unfolding read.declaration
declaration_read n = declare_then n _ (expr_before Semicolon n [] refl (λ e. cc e)) _ (finish n)

pub print_read : (n : ℕ) → Reading read.print n (Word Print ∷ Of Condition ∷ Word Semicolon ∷ [])
unfolding read.print
print_read n = word_and Print n _ _ (λ word_. part_and read.condition Condition n _ (test n _) _ (λ value. word_and Semicolon n [] _ (λ _. ends)))

-- ---- arguments

-- a word that comes next
pub word_splits : (s : Symbol) (parts : List Part) (from to : List Lexeme) → GoesParts (Word s ∷ parts) from to → (t : Lexeme) × (left : List Lexeme)
    × (from ≡ t ∷ left) × Is s t
word_splits s parts from to (last {t} {to = left} a) = (t, left, refl, a)
word_splits s parts from to (token {t} {from = left} a g) = (t, left, refl, a)

no_expr : {l : _} {from to : List Lexeme} → Goes (Expression l) from to → symbol_at from ≡ CloseParen → ⊥
unfolding symbol_at
no_expr (by (rule.operand o) (within g)) at = no_expr g at
no_expr (by (rule.chain j o) (within g)) at = no_expr g at
no_expr (by (rule.chain j o) (past d g)) at = no_paren d.1 at
no_expr (by (rule.prefix p) g) at = let clash = sym (ap prefixing (sym (word_first g) ∙ at)) ∙ p in absurd (cc clash)
no_expr (by rule.number (last_number a)) at = let clash = sym a.1.number ∙ at in absurd (cc clash)
no_expr (by rule.scalar g) at = let clash = sym (word_first g) ∙ at in absurd (cc clash)
no_expr (by rule.element g) at = let clash = sym (word_first g) ∙ at in absurd (cc clash)
no_expr (by rule.parenthesized g) at = let clash = sym (word_first g) ∙ at in absurd (cc clash)

no_list : {from to : List Lexeme} → Goes Expressions from to → symbol_at from ≡ CloseParen → ⊥
no_list (by rule.last_expression (within g)) at = no_expr g at
no_list (by rule.more_expressions (within g)) at = no_expr g at
no_list (by rule.more_expressions (past d g)) at = no_paren d.1 at

list_goes : {from to : List Lexeme} → Goes Expressions from to → (k : ℕ) (found : List RawExpr) → length from ≤ k →
    Beyond (separated expr.whole k found from) to
list_goes (by {from} {to} rule.last_expression (within g)) k found fits = separated_first expr.whole whole_shrinks k found from to fits (whole_goes from to g)
list_goes (by {from} {to} rule.more_expressions (within g)) k found fits = separated_first expr.whole whole_shrinks k found from to fits (whole_goes from to g)
list_goes (by {from} rule.more_expressions (past d (last {t = comma} {to} c))) k found fits =
    same_beyond to (separated_on expr.whole k found from (comma ∷ to) d.0 (before Comma refl (λ e. cc e) d.1 c) (shorter (Expression _) _ _ refl d) fits
    (sees_is Comma comma to c) ∙ ap (separated expr.whole (k - 1) (found ++ d.0 ∷ [])) (after_is Comma comma to c))
    (separated_shrinks expr.whole whole_shrinks (k - 1) (found ++ d.0 ∷ []) to)
list_goes (by {from} {to} rule.more_expressions (past d (token {t = comma} {from = middle} c (within g)))) k found fits =
    let less = shorter (Expression _) _ _ refl d in
    same_beyond to (separated_on expr.whole k found from (comma ∷ middle) d.0 (before Comma refl (λ e. cc e) d.1 c) less fits (sees_is Comma comma middle c)
    ∙ ap (separated expr.whole (k - 1) (found ++ d.0 ∷ [])) (after_is Comma comma middle c))
    (list_goes g (k - 1) (found ++ d.0 ∷ []) (omega arith))

arguments_goes : (from to : List Lexeme) → Goes Arguments from to → Beyond (read.arguments from) to
unfolding read.arguments expr.list
arguments_goes from to (by rule.arguments (within g)) =
    same_beyond to (ap (λ (b : Bool). read.arguments_by b from) (sees_other CloseParen from (no_list g))) (list_goes g (length from) [] (omega arith))

given : (n : ℕ) (parts : List Part) → Inner read.arguments Arguments n (Word CloseParen ∷ parts)
given n parts = record {
  shrinks = shrinks_as Arguments read.arguments (λ from to a e. (a, sound_arguments from to a e)) arguments_stuck;
  goes = λ from to fits g. arguments_goes from to g;
  reads = λ from middle to fits d g. let w = word_splits CloseParen parts middle to g in (d.0, reads_arguments d.1 w.0 w.1 w.2 w.3);
}

pub call_read : (n : ℕ) (name : TreeName) → Reading (read.call name) n (Word OpenParen ∷ Of Arguments ∷ Word CloseParen ∷ Word Semicolon ∷ [])
unfolding read.call
call_read n name = word_and OpenParen n _ _ (λ _. part_and read.arguments Arguments n _ (given n _) _
    (λ args. word_and CloseParen n _ _ (λ _. word_and Semicolon n [] _ (λ _. ends))))

-- ---- statements that begin with a name

pub scalar_read : (n : ℕ) (name : TreeName) → Reading (read.named_by name false) n (Word Assign ∷ Of (Expression Or) ∷ Word Semicolon ∷ [])
scalar_read n name = scalar_then n _ (expr_before Semicolon n [] refl (λ e. cc e)) name _ (finish n)

pub element_read : (n : ℕ) (name : TreeName) → Reading (read.named_by name false) n (Word OpenBracket ∷ Of (Expression Or) ∷ Word CloseBracket ∷ Word Assign
    ∷ Of (Expression Or) ∷ Word Semicolon ∷ [])
element_read n name = element_then n _ (expr_before Semicolon n [] refl (λ e. cc e)) name _ (finish n)

named_shrinks : (name : TreeName) (b : Bool) → Shrinks (read.named_by name b)
named_shrinks name true from = (call_read (length from) name).shrinks from
named_shrinks name false from = (scalar_read (length from) name).shrinks from

-- by the symbol behind the name
pub named_read : (n : ℕ) (s : Symbol) (parts : List Part) (b : Bool) → ((from : List Lexeme) → symbol_at from ≡ s → sees_symbol OpenParen from ≡ b) →
    ((name : TreeName) → Reading (read.named_by name b) n (Word s ∷ parts)) → Reading read.named n (Word Name ∷ Word s ∷ parts)
unfolding read.named
named_read n s parts b seen r = name_and n _ _ (λ name. record {
  shrinks = λ from. named_shrinks name (sees_symbol OpenParen from) from;
  goes = λ from to fits g. same_beyond to (ap (λ (c : Bool). read.named_by name c from) (seen from (word_first g))) ((r name).goes from to fits g);
})

pub sees_paren : (from : List Lexeme) → symbol_at from ≡ OpenParen → sees_symbol OpenParen from ≡ true
unfolding sees_symbol
sees_paren from at = is_same (symbol_at from) OpenParen at

pub sees_no_paren : (s : Symbol) → (s ≡ OpenParen → ⊥) → (from : List Lexeme) → symbol_at from ≡ s → sees_symbol OpenParen from ≡ false
sees_no_paren s other from at = sees_other OpenParen from (λ k. other (sym at ∙ k))
