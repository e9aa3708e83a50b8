-- What the descent reads as a statement without a block, the grammar derives.
use Rattle.std.proofs.Common.{◌≡◌, refl, ap, ◌∙◌, sym, Bool, true, false, List, [], ◌∷◌, length, Ok}
use Rattle.dp_lex.specs.Token.{Lexeme}
use Rattle.dp_tree.specs.declared.raw.Name.{Name as TreeName}
use Rattle.dp_tree.specs.declared.raw.RawExpr.{RawExpr}
use Rattle.dp_tree.specs.declared.raw.RawStmt.{RawStmt}
use Rattle.dp_tree.specs.declared.raw.RawStmt.TheVariants as tree
use Rattle.dp_tokens.specs.declared.symbol.Symbol.TheVariants.{Name, Print, OpenParen, CloseParen, Semicolon}
use Rattle.dp_tokens.specs.Symbols.{Is}
use Rattle.dp_tokens.specs.Leaves.{name_of}
use Rattle.dp_parse.specs.Expressions.{DerivesList}
use Rattle.dp_parse.specs.Expressions as expression
use Rattle.dp_parse.specs.Heads.{DerivesFirst, declared, simple, scalar, element}
use Rattle.dp_parse.specs.Statements.{DerivesArguments, DerivesCondition, condition, DerivesStatement, declare, assign, store, call, print}
use Rattle.dp_parse.specs.Statements as statements
use Rattle.dp_tokens.specs.Steps.{Parser, ◌>>=◌, pure, expect, sees_symbol}
use Rattle.dp_tokens.specs.Steps as step
use Rattle.dp_parse.specs.steps.Expressions as expr
use Rattle.dp_parse.specs.steps.Heads as declares
use Rattle.dp_parse.specs.steps.Statements as read
use Rattle.dp_parse.proofs.StepLemmas.{Sound, then_of, same_pair, takes, closed, moved, taken}
use Rattle.dp_parse.proofs.Lists.{separated_sound}
use Rattle.dp_parse.proofs.LeafLemmas.{read_name}
use Rattle.dp_parse.proofs.ExpressionSound.{sound_whole}
use Rattle.dp_parse.proofs.HeadSound.{sound_declare, sound_assign}

pub sound_condition : Sound read.condition DerivesCondition
unfolding read.condition
sound_condition from to e h =
    let o = takes OpenParen from (λ _. expr.whole >>= (λ x. expect CloseParen >>= (λ _. pure x))) e to h in
    let c = closed expr.whole CloseParen (λ x. x) e o.middle to o.second in
    moved DerivesCondition o.splits refl c.made (condition o.is (sound_whole o.middle (c.closing ∷ to) c.value c.first) c.is)

-- a declaration or an assignment with its semicolon
with_end : {end : Lexeme} {from to : List Lexeme} {s : RawStmt} → DerivesFirst from (end ∷ to) s → Is Semicolon end → DerivesStatement from to s
with_end (declared i n q d) e = declare i n q d e
with_end (simple (scalar n q d)) e = assign n q d e
with_end (simple (element n o d c q f)) e = store n o d c q f e

pub sound_declaration : Sound read.declaration DerivesStatement
unfolding read.declaration
sound_declaration from to s h =
    let c = closed declares.declare Semicolon (λ s. s) s from to h in
    moved DerivesStatement refl refl c.made (with_end (sound_declare from (c.closing ∷ to) c.value c.first) c.is)

sound_list : Sound expr.list DerivesList
unfolding expr.list
sound_list from to es h =
    let r = separated_sound expr.whole DerivesList (λ from to x e. expression.last (sound_whole from to x e))
    (λ from left to t x rest e is ds. expression.more (sound_whole from (t ∷ left) x e) is ds) (length from) from to [] es h in
    moved DerivesList refl refl r.1 r.2

arguments_by : (b : Bool) (from to : List Lexeme) (es : List RawExpr) → read.arguments_by b from ≡ Ok (es, to) → DerivesArguments from to es
arguments_by true from to es h = let parts = same_pair {a = []} {b = es} {x = from} {y = to} h in
    moved DerivesArguments parts.1 refl (sym parts.0) statements.none
arguments_by false from to es h = statements.some (sound_list from to es h)

pub sound_arguments : Sound read.arguments DerivesArguments
unfolding read.arguments
sound_arguments from to es h = arguments_by (sees_symbol CloseParen from) from to es h

sound_call : (name : Lexeme) (from to : List Lexeme) (s : RawStmt) → Is Name name → read.call (name_of name) from ≡ Ok (s, to) →
    DerivesStatement (name ∷ from) to s
unfolding read.call
sound_call name from to s is h =
    let o = takes OpenParen from
    (λ _. read.arguments >>= (λ args. expect CloseParen >>= (λ _. expect Semicolon >>= (λ _. pure (tree.Call (name_of name) args))))) s to h in
    let p = then_of (read.arguments o.middle)
    (λ args. expect CloseParen >>= (λ _. expect Semicolon >>= (λ _. pure (tree.Call (name_of name) args)))) s to o.second in
    let q = takes CloseParen p.middle (λ _. expect Semicolon >>= (λ _. pure (tree.Call (name_of name) p.value))) s to p.second in
    let v = takes Semicolon q.middle (λ _. pure (tree.Call (name_of name) p.value)) s to q.second in
    let parts = same_pair {a = tree.Call (name_of name) p.value} {b = s} {x = v.middle} {y = to} v.second in
    let args = moved DerivesArguments refl (sym (q.splits ∙ taken q.value v.splits)) refl (sound_arguments o.middle p.middle p.value p.first) in
    moved DerivesStatement (taken name o.splits) (sym parts.1) (sym parts.0) (call is o.is args q.is v.is)

named_at : (name : Lexeme) (b : Bool) (from to : List Lexeme) (s : RawStmt) → Is Name name → read.named_by (name_of name) b from ≡ Ok (s, to) →
    DerivesStatement (name ∷ from) to s
named_at name true from to s is h = sound_call name from to s is h
named_at name false from to s is h =
    let c = closed (declares.assign (name_of name)) Semicolon (λ s. s) s from to h in
    moved DerivesStatement refl refl c.made (with_end (simple (sound_assign name from (c.closing ∷ to) c.value is c.first)) c.is)

abbrev pub behind_name : TreeName → Parser RawStmt
behind_name name = λ ts. read.named_by name (sees_symbol OpenParen ts) ts

pub sound_named : Sound read.named DerivesStatement
unfolding read.named
sound_named from to s h =
    let o = then_of (step.name from) behind_name s to h in let n = read_name from o.middle o.value o.first in
    moved DerivesStatement n.splits refl refl (named_at n.token (sees_symbol OpenParen o.middle) o.middle to s n.is
    (ap (λ (name : TreeName). behind_name name o.middle) (sym n.called) ∙ o.second))

pub sound_print : Sound read.print DerivesStatement
unfolding read.print
sound_print from to s h =
    let o = takes Print from (λ word. read.condition >>= (λ value. expect Semicolon >>= (λ _. pure (tree.Print word.line value)))) s to h in
    let c = closed read.condition Semicolon (λ value. tree.Print o.value.line value) s o.middle to o.second in
    moved DerivesStatement o.splits refl c.made (print o.is (sound_condition o.middle (c.closing ∷ to) c.value c.first) c.is)
