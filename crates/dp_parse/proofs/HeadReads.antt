-- What the grammar derives as an assignment, a declaration or the head of a `for`, the descent reads.
use Rattle.std.proofs.Common.{◌≡◌, refl, ap, ◌∙◌, sym, Bool, List, ◌∷◌, None, Ok}
use Rattle.dp_lex.specs.Token.{Lexeme}
use Rattle.dp_tree.specs.declared.raw.Name.{Name as TreeName}
use Rattle.dp_tree.specs.declared.raw.RawExpr.{RawExpr}
use Rattle.dp_tree.specs.declared.raw.RawStmt.{RawStmt}
use Rattle.dp_tree.specs.declared.raw.RawStmt.TheVariants as tree
use Rattle.dp_tokens.specs.declared.symbol.Symbol.{Symbol}
use Rattle.dp_tokens.specs.declared.symbol.Symbol.TheVariants.{Name, Int, Assign, OpenParen, CloseParen, OpenBracket, CloseBracket, Semicolon}
use Rattle.dp_parse.specs.declared.level.Level.TheVariants.{Or}
use Rattle.dp_tokens.specs.Symbols.{symbol_at, Is}
use Rattle.dp_parse.specs.Levels.{joining}
use Rattle.dp_tokens.specs.Leaves.{name_of}
use Rattle.dp_parse.specs.Expressions.{DerivesExpr}
use Rattle.dp_parse.specs.Heads.{DerivesSimple, scalar, element, DerivesFirst, declared, simple, DerivesHead, head}
use Rattle.dp_tokens.specs.Steps.{sees_symbol, Parser, ◌>>=◌, pure, expect}
use Rattle.dp_parse.specs.steps.Expressions as expr
use Rattle.dp_parse.specs.steps.Heads as read
use Rattle.dp_parse.specs.steps.Statements as statements
use Rattle.dp_parse.proofs.StepLemmas.{is_same, expects, sees_other}
use Rattle.dp_parse.proofs.LeafLemmas.{reads_name}
use Rattle.dp_parse.proofs.HeadSound.{as_head}
use Rattle.dp_parse.proofs.ExpressionComplete.{whole_read}
use Rattle.dp_parse.specs.Rules as rule
use Rattle.dp_parse.proofs.Going.{Goes, by, word_first, goes_whole}
use Rattle.dp_parse.proofs.StatementReads.{goes, before}

-- a statement up to its semicolon
pub reads_ended : (p : Parser RawStmt) (from : List Lexeme) (end : Lexeme) (to : List Lexeme) (s : RawStmt) → p from ≡ Ok (s, end ∷ to) → Is Semicolon end →
    statements.ended p from ≡ Ok (s, to)
reads_ended p from end to s h e = goes (λ s. expect Semicolon >>= (λ _. pure s)) h ∙ goes (λ _. pure s) (expects Semicolon end to e)

-- an expression isn't continued there
pub record Ends (ts : List Lexeme) : Type 0 where
  pub joins : joining (symbol_at ts) ≡ None
  pub opens : symbol_at ts ≡ OpenBracket → ⊥

pub ends_at : (k : Symbol) (ts : List Lexeme) → symbol_at ts ≡ k → joining k ≡ None → (k ≡ OpenBracket → ⊥) → Ends ts
ends_at k ts at none other = record { joins = ap joining at ∙ none; opens = λ e. other (sym at ∙ e) }

pub reads_value : (equals : Lexeme) (from to : List Lexeme) (e : RawExpr) → Is Assign equals → DerivesExpr Or from to e → Ends to →
    read.value (equals ∷ from) ≡ Ok (e, to)
unfolding read.value
reads_value equals from to e q d h = goes (λ _. expr.whole) (expects Assign equals from q) ∙ whole_read from to e d h.joins h.opens

pub reads_declare : (int name equals : Lexeme) (from to : List Lexeme) (e : RawExpr) → Is Int int → Is Name name → Is Assign equals →
    DerivesExpr Or from to e → Ends to →
    read.declare (int ∷ name ∷ equals ∷ from) ≡ Ok (tree.Declare int.line (name_of name) e, to)
unfolding read.declare
reads_declare int name equals from to e i n q d h =
    rw (expects Int int (name ∷ equals ∷ from) i) (rw (reads_name name (equals ∷ from) n) (rw (reads_value equals from to e q d h)))

reads_store : (name opening closing equals : Lexeme) (from middle to : List Lexeme) (index e : RawExpr) → Is OpenBracket opening →
    DerivesExpr Or from (closing ∷ equals ∷ middle) index → Is CloseBracket closing →
    Is Assign equals → DerivesExpr Or middle to e → Ends to → read.store (name_of name) (opening ∷ from) ≡ Ok (tree.Store (name_of name) index e, to)
unfolding read.store
reads_store name opening closing equals from middle to index e o d c q f h =
    rw (expects OpenBracket opening from o) (rw (before CloseBracket refl (λ e. cc e) d c) (rw (expects CloseBracket closing (equals ∷ middle) c)
    (rw (reads_value equals middle to e q f h))))

pub assign_bracket : (name : TreeName) (ts : List Lexeme) → symbol_at ts ≡ OpenBracket → read.assign name ts ≡ read.store name ts
unfolding read.assign sees_symbol
assign_bracket name ts at = ap (λ (b : Bool). read.assign_by name b ts) (is_same (symbol_at ts) OpenBracket at)

pub assign_other : (name : TreeName) (ts : List Lexeme) → (symbol_at ts ≡ OpenBracket → ⊥) →
    read.assign name ts ≡ (read.value >>= (λ x. pure (tree.Assign name x))) ts
unfolding read.assign
assign_other name ts other = ap (λ (b : Bool). read.assign_by name b ts) (sees_other OpenBracket ts other)

pub reads_scalar : (name equals : Lexeme) (from to : List Lexeme) (e : RawExpr) → Is Assign equals → DerivesExpr Or from to e → Ends to →
    read.assign (name_of name) (equals ∷ from) ≡ Ok (tree.Assign (name_of name) e, to)
unfolding symbol_at
reads_scalar name equals from to e q d h =
    assign_other (name_of name) (equals ∷ from) (λ k. let clash : Assign ≡ OpenBracket = sym q ∙ k in cc clash)
    ∙ goes (λ x. pure (tree.Assign (name_of name) x)) (reads_value equals from to e q d h)

pub reads_element : (name opening closing equals : Lexeme) (from middle to : List Lexeme) (index e : RawExpr) → Is OpenBracket opening →
    DerivesExpr Or from (closing ∷ equals ∷ middle) index → Is CloseBracket closing →
    Is Assign equals → DerivesExpr Or middle to e → Ends to → read.assign (name_of name) (opening ∷ from) ≡ Ok (tree.Store (name_of name) index e, to)
unfolding symbol_at
reads_element name opening closing equals from middle to index e o d c q f h =
    assign_bracket (name_of name) (opening ∷ from) o ∙ reads_store name opening closing equals from middle to index e o d c q f h

pub reads_simple : {from to : List Lexeme} {s : RawStmt} → DerivesSimple from to s → Ends to → read.simple from ≡ Ok (s, to)
unfolding read.simple
reads_simple (scalar {name} {equals} {from} {to} {e} n q d) h = goes read.assign (reads_name name (equals ∷ from) n) ∙ reads_scalar name equals from to e q d h
reads_simple (element {name} {opening} {closing} {equals} {from} {middle} {to} {index} {e} n o d c q f) h =
    goes read.assign (reads_name name (opening ∷ from) n) ∙ reads_element name opening closing equals from middle to index e o d c q f h

pub simple_first : {from to : List Lexeme} → Goes rule.Simple from to → symbol_at from ≡ Name
simple_first (by rule.scalar_assigned g) = word_first g
simple_first (by rule.element_assigned g) = word_first g

pub first_other : (ts : List Lexeme) → (symbol_at ts ≡ Int → ⊥) → read.first ts ≡ read.simple ts
unfolding read.first
first_other ts other = ap (λ (b : Bool). read.first_by b ts) (sees_other Int ts other)

pub first_int : (ts : List Lexeme) → symbol_at ts ≡ Int → read.first ts ≡ read.declare ts
unfolding read.first sees_symbol
first_int ts at = ap (λ (b : Bool). read.first_by b ts) (is_same (symbol_at ts) Int at)

pub reads_first : {from to : List Lexeme} {s : RawStmt} → DerivesFirst from to s → Ends to → read.first from ≡ Ok (s, to)
unfolding symbol_at
reads_first (declared {int} {name} {equals} {from} {to} {e} i n q d) h =
    first_int (int ∷ name ∷ equals ∷ from) i ∙ reads_declare int name equals from to e i n q d h
reads_first (simple {from} d) h =
    first_other from (λ e. let clash : Name ≡ Int = sym (simple_first (goes_whole rule.Simple refl (_, d))) ∙ e in cc clash) ∙ reads_simple d h

pub reads_head : {from to : List Lexeme} {first step : RawStmt} {e : RawExpr} → DerivesHead from to first e step →
    read.head from ≡ Ok (as_head first e step, to)
unfolding read.head symbol_at
reads_head (head {opening} {end} {behind} {closing} {from} {middle} {after} {to} {first} {step} {e} o d h c k s p) =
    rw (expects OpenParen opening from o) (rw (reads_first d (ends_at Semicolon (end ∷ middle) h refl (λ e. cc e)))
    (rw (expects Semicolon end middle h) (rw (before Semicolon refl (λ e. cc e) c k)
    (rw (expects Semicolon behind after k) (rw (reads_simple s (ends_at CloseParen (closing ∷ to) p refl (λ e. cc e)))
    (rw (expects CloseParen closing to p)))))))
