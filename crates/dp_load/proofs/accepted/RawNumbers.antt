-- Each number in the tree of a text fits 64 bits.
use Rattle.std.proofs.Common.{◌≡◌, refl, sym, ap, ◌∙◌, ℕ, zero, suc, ◌<◌, ◌≤◌, Bool, true, false, ◌&&◌, List, [], ◌∷◌, pos, neg_ℤ, arith, lt-ltb}
use Rattle.std.proofs.lemmas.Bool.{and_from}
use Rattle.std.specs.List.{list_all}
use Rattle.dp_base.specs.Arithmetic.{fits}
use Rattle.dp_base.specs.declared.UnOp.{UnOp}
use Rattle.dp_lex.specs.Token.{Lexeme}
use Rattle.dp_tree.specs.declared.raw.Name.{Name}
use Rattle.dp_tree.specs.declared.raw.RawExpr.{RawExpr, end_of-RawExpr, more_of-RawExpr}
use Rattle.dp_tree.specs.declared.raw.RawExpr.TheVariants as raw
use Rattle.dp_tree.specs.declared.raw.RawStmt.{RawStmt, Row_of-RawStmt, end_of-RawStmt, more_of-RawStmt, out-RawStmt, roll-RawStmt, roll-out-RawStmt}
use Rattle.dp_tree.specs.declared.raw.RawStmt.TheBlock.{hidden-the_row-RawStmt-0}
use Rattle.dp_tree.specs.declared.raw.RawStmt.TheOpen.{RawStmt-F}
use Rattle.dp_tree.specs.declared.raw.RawStmt.TheOpen as open_form
use Rattle.dp_tree.specs.declared.raw.RawStmt.TheVariants as tree
use Rattle.dp_tree.specs.declared.raw.RawStmt.TheViews.{rolls-While, rolls-For}
use Rattle.dp_tree.specs.declared.raw.RawItem.{RawItem}
use Rattle.dp_tree.specs.declared.raw.RawItem.TheVariants as item
use Rattle.dp_tree.specs.declared.raw.RawProgram.{RawProgram}
use Rattle.dp_parse.specs.declared.level.Level.{Level}
use Rattle.dp_parse.specs.declared.level.Join.{Join}
use Rattle.dp_parse.specs.declared.level.Join.TheVariants as join
use Rattle.dp_parse.specs.Levels.{joined_trees}
use Rattle.dp_parse.specs.Expressions.{DerivesExpr, DerivesList}
use Rattle.dp_parse.specs.Expressions as expr
use Rattle.dp_parse.specs.Statements.{DerivesArguments, DerivesCondition, DerivesStatement, DerivesChoice, DerivesBlock, DerivesStatements}
use Rattle.dp_parse.specs.Statements as form
use Rattle.dp_parse.specs.Heads.{DerivesHead, DerivesFirst, DerivesSimple}
use Rattle.dp_parse.specs.Heads as heads
use Rattle.dp_parse.specs.Regions.{DerivesExit, DerivesInside, DerivesLoop}
use Rattle.dp_parse.specs.Regions as inner
use Rattle.dp_parse.specs.Programs.{DerivesItem, DerivesItems, DerivesTops, DerivesMain}
use Rattle.dp_parse.specs.Programs as grammar
use Rattle.dp_parse.specs.Parses.{ParsesAs}
use Rattle.dp_check.proofs.PlaceLemmas.{opened}

-- what opens where an expression with names is made
unfoldable opened_expression : Unit {0}
unfolding
    Rattle.dp_tree.specs.declared.raw.RawExpr.TheBlock.shape-the_row-RawExpr-0 Rattle.dp_tree.specs.declared.raw.RawExpr.TheBlock.hidden-the_row-RawExpr-0
    denote.Hole.Carrier.hidden
opened_expression = tt

-- the numbers of the expression fit
abbrev pub expr_small : RawExpr → Bool
expr_small (raw.Number z) = fits z
expr_small (raw.Scalar name) = true
expr_small (raw.Element' name _ (more_of-RawExpr e end_of-RawExpr)) = expr_small e
expr_small (raw.Unary' op _ (more_of-RawExpr a end_of-RawExpr)) = expr_small a
expr_small (raw.Binary' op _ (more_of-RawExpr a end_of-RawExpr) _ (more_of-RawExpr b end_of-RawExpr)) = expr_small a && expr_small b
expr_small (raw.And' _ (more_of-RawExpr a end_of-RawExpr) _ (more_of-RawExpr b end_of-RawExpr)) = expr_small a && expr_small b
expr_small (raw.Or' _ (more_of-RawExpr a end_of-RawExpr) _ (more_of-RawExpr b end_of-RawExpr)) = expr_small a && expr_small b

abbrev mutual
  -- those of the statement
  pub small : RawStmt → Bool
  small (tree.Declare line name value) = expr_small value
  small (tree.Assign name value) = expr_small value
  small (tree.Store name index value) = expr_small index && expr_small value
  small (tree.Call name args) = list_all expr_small args
  small (tree.Print line value) = expr_small value
  small (tree.If' line cond _ a _ b) = expr_small cond && (small_in a && small_in b)
  small (tree.While' line marked cond _ body) = expr_small cond && small_in body
  small (tree.For' line marked _ first cond _ step _ body) = expr_small cond && (small_in first && (small_in body && small_in step))
  small (tree.Break line cond) = expr_small cond

  -- those of several statements
  pub small_in : {n : _} → Row_of-RawStmt n → Bool
  small_in end_of-RawStmt = true
  small_in (more_of-RawStmt s rest) = small s && small_in rest

-- those of an item
abbrev pub item_small : RawItem → Bool
item_small (item.Scalar name start) = fits start
item_small (item.Array name size) = true
item_small (item.Function name params body) = list_all small body

-- ---- the statements of a list

small_hidden : (xs : List RawStmt) → small_in (hidden-the_row-RawStmt-0 xs) ≡ list_all small xs
unfolding opened
small_hidden [] = refl
small_hidden (x ∷ xs) = ap (λ b. small x && b) (small_hidden xs)

abbrev small_all : List RawStmt → Bool
small_all xs = list_all small xs

abbrev hidden_small : List RawStmt → Bool
hidden_small xs = small_in (hidden-the_row-RawStmt-0 xs)

small-If : (line : ℕ) (e : RawExpr) (a b : List RawStmt) → small (tree.If line e a b) ≡ (expr_small e && (small_all a && small_all b))
unfolding opened
small-If line e a b = ap (λ u. expr_small e && (u && hidden_small b)) (small_hidden a) ∙ ap (λ u. expr_small e && (small_all a && u)) (small_hidden b)

small-While : (line : ℕ) (marked : Bool) (e : RawExpr) (a : List RawStmt) → small (tree.While line marked e a) ≡ (expr_small e && small_all a)
unfolding opened
small-While line marked e a = ap (λ u. expr_small e && u) (small_hidden a)

small-For : (line : ℕ) (marked : Bool) (first : List RawStmt) (e : RawExpr) (step a : List RawStmt) →
    small (tree.For line marked first e step a) ≡ (expr_small e && (small_all first && (small_all a && small_all step)))
unfolding opened
small-For line marked first e step a =
    ap (λ u. expr_small e && (u && (hidden_small a && hidden_small step))) (small_hidden first)
    ∙ ap (λ u. expr_small e && (small_all first && (u && hidden_small step))) (small_hidden a)
    ∙ ap (λ u. expr_small e && (small_all first && (small_all a && u))) (small_hidden step)

-- those of a loop by its form
abbrev pub small_at : RawStmt-F RawStmt → Bool
small_at (open_form.While line marked e a) = expr_small e && small_all a
small_at (open_form.For line marked first e step a) = expr_small e && (small_all first && (small_all a && small_all step))
small_at _ = true

small_roll : (h : RawStmt-F RawStmt) → small (roll-RawStmt h) ≡ true → small_at h ≡ true
small_roll (open_form.While line marked e a) w = sym (ap small (rolls-While line marked e a) ∙ small-While line marked e a) ∙ w
small_roll (open_form.For line marked first e step a) w = sym (ap small (rolls-For line marked first e step a) ∙ small-For line marked first e step a) ∙ w
small_roll _ w = refl

pub small_out : (s : RawStmt) → small s ≡ true → small_at (out-RawStmt s) ≡ true
small_out s w = small_roll (out-RawStmt s) (ap small (roll-out-RawStmt s) ∙ w)

-- ---- what the grammar derives

positive : (n : ℕ) → n ≤ 9223372036854775807 → fits (pos n) ≡ true
positive n few = let less : n < 9223372036854775808 = omega (arith, few) in lt-ltb n 9223372036854775808 less

negative : (n : ℕ) → n ≤ 9223372036854775807 → fits (neg_ℤ (pos n)) ≡ true
negative zero few = refl
negative (suc n) few = let less : n < 9223372036854775808 = omega (arith, few) in lt-ltb n 9223372036854775808 less

joined_small : (j : Join) (a b : RawExpr) → expr_small a ≡ true → expr_small b ≡ true → expr_small (joined_trees j a b) ≡ true
unfolding opened_expression
joined_small join.Or a b h k = and_from (expr_small a) (expr_small b) h k
joined_small join.And a b h k = and_from (expr_small a) (expr_small b) h k
joined_small (join.Binary op) a b h k = and_from (expr_small a) (expr_small b) h k

unary_small : (op : UnOp) (a : RawExpr) → expr_small a ≡ true → expr_small (raw.Unary op a) ≡ true
unfolding opened_expression
unary_small op a h = h

element_small : (name : Name) (a : RawExpr) → expr_small a ≡ true → expr_small (raw.Element name a) ≡ true
unfolding opened_expression
element_small name a h = h

expression : {l : Level} {from to : List Lexeme} {e : RawExpr} → DerivesExpr l from to e → expr_small e ≡ true
expression (expr.operand a d) = expression d
expression (expr.chain {join = j} {a = a} {b = b} c d first second) = joined_small j a b (expression first) (expression second)
expression (expr.prefix {is = op} {e = e} a d) = unary_small op e (expression d)
expression (expr.number {n = n} is) = positive n is.fits
expression (expr.scalar a) = refl
expression (expr.element {name = name} {e = e} a b d c) = element_small (record { text = name.text; line = name.line }) e (expression d)
expression (expr.parenthesized a d b) = expression d

expressions : {from to : List Lexeme} {es : List RawExpr} → DerivesList from to es → list_all expr_small es ≡ true
expressions (expr.last {e = e} d) = and_from (expr_small e) true (expression d) refl
expressions (expr.more {e = e} {es = es} d a later) = and_from (expr_small e) (list_all expr_small es) (expression d) (expressions later)

arguments : {from to : List Lexeme} {es : List RawExpr} → DerivesArguments from to es → list_all expr_small es ≡ true
arguments form.none = refl
arguments (form.some d) = expressions d

condition : {from to : List Lexeme} {e : RawExpr} → DerivesCondition from to e → expr_small e ≡ true
condition (form.condition a d b) = expression d

simple : {from to : List Lexeme} {s : RawStmt} → DerivesSimple from to s → small s ≡ true
simple (heads.scalar a b d) = expression d
simple (heads.element {index = i} {e = e} a b d c f k) = and_from (expr_small i) (expr_small e) (expression d) (expression k)

first : {from to : List Lexeme} {s : RawStmt} → DerivesFirst from to s → small s ≡ true
first (heads.declared a b c d) = expression d
first (heads.simple s) = simple s

one : (s : RawStmt) → small s ≡ true → small_all (s ∷ []) ≡ true
one s h = and_from (small s) true h refl

-- a loop with a head, by the numbers of its body
headed : {from to : List Lexeme} {f step : RawStmt} {e : RawExpr} → DerivesHead from to f e step → (line : ℕ) (marked : Bool) (body : List RawStmt) →
    small_all body ≡ true → small (tree.For line marked (f ∷ []) e (step ∷ []) body) ≡ true
headed (heads.head {first = f} {step = step} {e = e} a x b d c y g) line marked body h =
    small-For line marked (f ∷ []) e (step ∷ []) body ∙ and_from (expr_small e) (small_all (f ∷ []) && (small_all body && small_all (step ∷ []))) (expression d)
    (and_from (small_all (f ∷ [])) (small_all body && small_all (step ∷ [])) (one f (first x)) (and_from (small_all body) (small_all (step ∷ [])) h
    (one step (simple y))))

looped : (line : ℕ) (marked : Bool) (e : RawExpr) (body : List RawStmt) → expr_small e ≡ true → small_all body ≡ true →
    small (tree.While line marked e body) ≡ true
looped line marked e body h k = small-While line marked e body ∙ and_from (expr_small e) (small_all body) h k

chosen : (line : ℕ) (e : RawExpr) (a b : List RawStmt) → expr_small e ≡ true → small_all a ≡ true → small_all b ≡ true → small (tree.If line e a b) ≡ true
chosen line e a b h k l = small-If line e a b ∙ and_from (expr_small e) (small_all a && small_all b) h (and_from (small_all a) (small_all b) k l)

mutual
  statement : {from to : List Lexeme} {s : RawStmt} → DerivesStatement from to s → small s ≡ true
  statement (form.declare a b c d e) = expression d
  statement (form.assign a b d c) = expression d
  statement (form.store {index = i} {e = e} a b d c f k g) = and_from (expr_small i) (expr_small e) (expression d) (expression k)
  statement (form.call a b d c e) = arguments d
  statement (form.print a c b) = condition c
  statement (form.loop {word = word} {e = e} {body = body} a c b) = looped word.line false e body (condition c) (block b)
  statement (form.for_loop {word = word} {body = body} a h b) = headed h word.line false body (block b)
  statement (form.choice c) = choice c

  choice : {from to : List Lexeme} {s : RawStmt} → DerivesChoice from to s → small s ≡ true
  choice (form.alone {word = word} {e = e} {body = body} a c b) = chosen word.line e body [] (condition c) (block b) refl
  choice (form.otherwise {word = word} {e = e} {body = body} {else_part = part} a c b d x) = chosen word.line e body part (condition c) (block b) (block x)
  choice (form.else_if {word = word} {e = e} {body = body} {s = s} a c b d x) = chosen word.line e body (s ∷ []) (condition c) (block b) (one s (choice x))

  block : {from to : List Lexeme} {body : List RawStmt} → DerivesBlock from to body → small_all body ≡ true
  block (form.block a b c) = statements b

  statements : {from to : List Lexeme} {body : List RawStmt} → DerivesStatements from to body → small_all body ≡ true
  statements form.none = refl
  statements (form.more {s = s} {body = body} a b) = and_from (small s) (small_all body) (statement a) (statements b)

exit : {from to : List Lexeme} {s : RawStmt} → DerivesExit from to s → small s ≡ true
exit (inner.bare a c b d) = condition c
exit (inner.braced a c b d e f) = condition c

inside : {from to : List Lexeme} {body : List RawStmt} → DerivesInside from to body → small_all body ≡ true
inside inner.none = refl
inside (inner.statement {s = s} {rest = rest} a b) = and_from (small s) (small_all rest) (statement a) (inside b)
inside (inner.exit {s = s} {rest = rest} a b) = and_from (small s) (small_all rest) (exit a) (inside b)

loop_body : {from to : List Lexeme} {body : List RawStmt} → DerivesLoop from to body → small_all body ≡ true
loop_body (inner.loop a b c) = inside b

tops : {from to : List Lexeme} {body : List RawStmt} → DerivesTops from to body → small_all body ≡ true
tops grammar.none = refl
tops (grammar.statement {s = s} {rest = rest} a b) = and_from (small s) (small_all rest) (statement a) (tops b)
tops (grammar.region {word = word} {e = e} {body = body} {rest = rest} a b c d x) =
    and_from (small (tree.While word.line true e body)) (small_all rest) (looped word.line true e body (condition c) (loop_body d)) (tops x)
tops (grammar.for_region {word = word} {first = f} {step = g} {e = e} {body = body} {rest = rest} a b c d x) =
    and_from (small (tree.For word.line true (f ∷ []) e (g ∷ []) body)) (small_all rest) (headed c word.line true body (loop_body d)) (tops x)

main : {from to : List Lexeme} {body : List RawStmt} → DerivesMain from to body → small_all body ≡ true
main (grammar.main a b c d e t r f) = tops t
main (grammar.main_void a b c v d e t r f) = tops t

one_item : {from to : List Lexeme} {i : RawItem} → DerivesItem from to i → item_small i ≡ true
one_item (grammar.scalar a b c) = refl
one_item (grammar.started {n = n} a b c is d) = positive n is.fits
one_item (grammar.below_zero {n = n} a b c d is e) = negative n is.fits
one_item (grammar.array a b c d least e f) = refl
one_item (grammar.function a b c d e f) = block f

items : {from to : List Lexeme} {is : List RawItem} → DerivesItems from to is → list_all item_small is ≡ true
items grammar.none = refl
items (grammar.more {i = i} {rest = rest} a b) = and_from (item_small i) (list_all item_small rest) (one_item a) (items b)

pub small_texts : (text : List ℕ) (program : RawProgram) → ParsesAs text program → (list_all small program.main ≡ true)
    × (list_all item_small program.items ≡ true)
small_texts text program h = (main h.derives.main, items h.derives.items)
