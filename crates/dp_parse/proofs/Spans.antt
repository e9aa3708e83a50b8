-- What is derived, by the parts of its rule; and that it takes tokens, where its rule has any.
use Rattle.std.proofs.Common.{◌≡◌, refl, ap, sym, ◌∙◌, ℕ, zero, suc, ◌≤◌, ◌<◌, Bool, true, false, ◌||◌, List, [], ◌∷◌, length, drop, arith, inl, inr}
use Rattle.std.proofs.lemmas.Bool.{cases_Bool}
use Rattle.dp_lex.specs.Token.{Lexeme}
use Rattle.dp_tree.specs.declared.raw.Name.{Name as TreeName}
use Rattle.dp_tree.specs.declared.raw.RawExpr.{RawExpr}
use Rattle.dp_tree.specs.declared.raw.RawStmt.{RawStmt}
use Rattle.dp_tree.specs.declared.raw.RawItem.{RawItem}
use Rattle.dp_parse.specs.declared.level.Level.{Level}
use Rattle.dp_tokens.specs.Symbols.{symbol}
use Rattle.dp_parse.specs.Expressions.{DerivesExpr, DerivesList}
use Rattle.dp_parse.specs.Expressions as expression
use Rattle.dp_parse.specs.Heads.{DerivesSimple, DerivesFirst, DerivesHead}
use Rattle.dp_parse.specs.Heads as heads
use Rattle.dp_parse.specs.Statements.{DerivesArguments, DerivesCondition, DerivesStatement, DerivesChoice, DerivesBlock, DerivesStatements}
use Rattle.dp_parse.specs.Statements as statement
use Rattle.dp_parse.specs.Regions.{DerivesExit, DerivesInside, DerivesLoop}
use Rattle.dp_parse.specs.Regions as region
use Rattle.dp_parse.specs.Programs.{DerivesNames, DerivesParams, DerivesItem, DerivesItems, DerivesTops, DerivesReturn, DerivesMain}
use Rattle.dp_parse.specs.Programs as program
use Rattle.dp_parse.specs.Rules.{Nonterminal, Expression, Expressions, Arguments, Condition, Simple, First, Head, Statement, Choice, Block, Statements, Exit}
use Rattle.dp_parse.specs.Rules.{Inside, Loop, Names, Params, Item, Items, Tops, Ending, Body, Program, Part, Number, Length, Zero, Of, Rule}
use Rattle.dp_parse.specs.Begins.{Allows, Derived}
use Rattle.dp_parse.specs.Rules as rule

-- ---- places of a list

pub data Back : List Lexeme → List Lexeme → Type 0 where
  here : {ts : List Lexeme} → Back ts ts
  further : {t : Lexeme} {ts x : List Lexeme} → Back ts x → Back (t ∷ ts) x

pub back_le : {from x : List Lexeme} → Back from x → length x ≤ length from
back_le here = omega arith
back_le (further b) = let h = back_le b in omega arith

back_join : {from middle to : List Lexeme} → Back from middle → Back middle to → Back from to
back_join here c = c
back_join (further b) c = further (back_join b c)

-- the place with fewer tokens left is behind
pub back_order : {from x y : List Lexeme} → Back from x → Back from y → length y ≤ length x → Back x y
back_order here c le = c
back_order (further b) here le = let h = back_le b in absurd (omega arith)
back_order (further b) (further c) le = back_order b c le

pub back_same : {from x : List Lexeme} → Back from x → length from ≤ length x → from ≡ x
back_same here le = refl
back_same (further b) le = let h = back_le b in absurd (omega arith)

pub back_drop : (k : ℕ) (ts : List Lexeme) → Back ts (drop k ts)
back_drop (suc k) (t ∷ ts) = further (back_drop k ts)
back_drop _ _ = here

-- ---- what is derived, by the parts of its rule

mutual
  pub data Spans : Nonterminal → List Lexeme → List Lexeme → Type 0 where
    by : {n : Nonterminal} {parts : List Part} {from to : List Lexeme} → Rule n parts → SpansParts parts from to → Spans n from to

  pub data SpansParts : List Part → List Lexeme → List Lexeme → Type 0 where
    end : {to : List Lexeme} → SpansParts [] to to
    token : {p : Part} {parts : List Part} {t : Lexeme} {from to : List Lexeme} → Allows p t → SpansParts parts from to → SpansParts (p ∷ parts) (t ∷ from) to
    part : {n : Nonterminal} {parts : List Part} {from middle to : List Lexeme} → Derived n from middle → Spans n from middle → SpansParts parts middle to →
        SpansParts (Of n ∷ parts) from to

expr : {l : Level} {from to : List Lexeme} {e : RawExpr} → DerivesExpr l from to e → Spans (Expression l) from to
expr (expression.operand {m} o d) = by (rule.operand o) (part {n = Expression m} (_, d) (expr d) end)
expr (expression.chain {l} {m} {op} j o d f) =
    by (rule.chain {s = symbol op} j o) (part {n = Expression l} (_, d) (expr d) (token refl (part {n = Expression m} (_, f) (expr f) end)))
expr (expression.prefix {l} {op} p d) = by (rule.prefix {s = symbol op} p) (token refl (part {n = Expression l} (_, d) (expr d) end))
expr (expression.number n) = by rule.number (token {p = Number} (_, n) end)
expr (expression.scalar n) = by rule.scalar (token n end)
expr (expression.element n o d c) = by rule.element (token n (token o (part (_, d) (expr d) (token c end))))
expr (expression.parenthesized o d c) = by rule.parenthesized (token o (part (_, d) (expr d) (token c end)))

list : {from to : List Lexeme} {es : List RawExpr} → DerivesList from to es → Spans Expressions from to
list (expression.last d) = by rule.last_expression (part (_, d) (expr d) end)
list (expression.more d c ds) = by rule.more_expressions (part (_, d) (expr d) (token c (part (_, ds) (list ds) end)))

arguments : {from to : List Lexeme} {es : List RawExpr} → DerivesArguments from to es → Spans Arguments from to
arguments statement.none = by rule.no_arguments end
arguments (statement.some ds) = by rule.arguments (part (_, ds) (list ds) end)

condition : {from to : List Lexeme} {e : RawExpr} → DerivesCondition from to e → Spans Condition from to
condition (statement.condition o d c) = by rule.condition (token o (part (_, d) (expr d) (token c end)))

of_simple : {from to : List Lexeme} {s : RawStmt} → DerivesSimple from to s → Spans Simple from to
of_simple (heads.scalar n q d) = by rule.scalar_assigned (token n (token q (part (_, d) (expr d) end)))
of_simple (heads.element n o d c q f) = by rule.element_assigned (token n (token o (part (_, d) (expr d) (token c (token q (part (_, f) (expr f) end))))))

of_first : {from to : List Lexeme} {s : RawStmt} → DerivesFirst from to s → Spans First from to
of_first (heads.declared i n q d) = by rule.declared (token i (token n (token q (part (_, d) (expr d) end))))
of_first (heads.simple d) = by rule.simple (part (_, d) (of_simple d) end)

of_head : {from to : List Lexeme} {first step : RawStmt} {e : RawExpr} → DerivesHead from to first e step → Spans Head from to
of_head (heads.head o d e c f s k) =
    by rule.head (token o (part (_, d) (of_first d) (token e (part (_, c) (expr c) (token f (part (_, s) (of_simple s) (token k end)))))))

mutual
  of_statement : {from to : List Lexeme} {s : RawStmt} → DerivesStatement from to s → Spans Statement from to
  of_statement (statement.declare i n q d e) = by rule.declare (token i (token n (token q (part (_, d) (expr d) (token e end)))))
  of_statement (statement.assign n q d e) = by rule.assign (token n (token q (part (_, d) (expr d) (token e end))))
  of_statement (statement.store n o d c q f e) =
      by rule.store (token n (token o (part (_, d) (expr d) (token c (token q (part (_, f) (expr f) (token e end)))))))
  of_statement (statement.call n o d c e) = by rule.call (token n (token o (part (_, d) (arguments d) (token c (token e end)))))
  of_statement (statement.print w d e) = by rule.print (token w (part (_, d) (condition d) (token e end)))
  of_statement (statement.loop w d b) = by rule.loop (token w (part (_, d) (condition d) (part (_, b) (block b) end)))
  of_statement (statement.for_loop w d b) = by rule.for_loop (token w (part (_, _, _, d) (of_head d) (part (_, b) (block b) end)))
  of_statement (statement.choice d) = by rule.choice (part (_, d) (choice d) end)

  choice : {from to : List Lexeme} {s : RawStmt} → DerivesChoice from to s → Spans Choice from to
  choice (statement.alone w d b) = by rule.alone (token w (part (_, d) (condition d) (part (_, b) (block b) end)))
  choice (statement.otherwise w d b o e) = by rule.otherwise (token w (part (_, d) (condition d) (part (_, b) (block b) (token o (part (_, e) (block e) end)))))
  choice (statement.else_if w d b o e) = by rule.else_if (token w (part (_, d) (condition d) (part (_, b) (block b) (token o (part (_, e) (choice e) end)))))

  block : {from to : List Lexeme} {body : List RawStmt} → DerivesBlock from to body → Spans Block from to
  block (statement.block o d c) = by rule.block (token o (part (_, d) (statements d) (token c end)))

  statements : {from to : List Lexeme} {body : List RawStmt} → DerivesStatements from to body → Spans Statements from to
  statements statement.none = by rule.no_statement end
  statements (statement.more d ds) = by rule.more_statements (part (_, d) (of_statement d) (part (_, ds) (statements ds) end))

exit : {from to : List Lexeme} {s : RawStmt} → DerivesExit from to s → Spans Exit from to
exit (region.bare w d l e) = by rule.bare (token w (part (_, d) (condition d) (token l (token e end))))
exit (region.braced w d o l e c) = by rule.braced (token w (part (_, d) (condition d) (token o (token l (token e (token c end))))))

inside : {from to : List Lexeme} {body : List RawStmt} → DerivesInside from to body → Spans Inside from to
inside region.none = by rule.nothing_inside end
inside (region.statement d ds) = by rule.statement_inside (part (_, d) (of_statement d) (part (_, ds) (inside ds) end))
inside (region.exit d ds) = by rule.exit_inside (part (_, d) (exit d) (part (_, ds) (inside ds) end))

loop : {from to : List Lexeme} {body : List RawStmt} → DerivesLoop from to body → Spans Loop from to
loop (region.loop o d c) = by rule.body (token o (part (_, d) (inside d) (token c end)))

names : {from to : List Lexeme} {names : List TreeName} → DerivesNames from to names → Spans Names from to
names (program.last i n) = by rule.last_name (token i (token n end))
names (program.more i n c ds) = by rule.more_names (token i (token n (token c (part (_, ds) (names ds) end))))

params : {from to : List Lexeme} {names : List TreeName} → DerivesParams from to names → Spans Params from to
params program.none = by rule.no_params end
params (program.void w) = by rule.void (token w end)
params (program.some ds) = by rule.params (part (_, ds) (names ds) end)

of_item : {from to : List Lexeme} {i : RawItem} → DerivesItem from to i → Spans Item from to
of_item (program.scalar i n e) = by rule.variable (token i (token n (token e end)))
of_item (program.started i n q h e) = by rule.started (token i (token n (token q (token {p = Number} (_, h) (token e end)))))
of_item (program.below_zero i n q m h e) = by rule.below_zero (token i (token n (token q (token m (token {p = Number} (_, h) (token e end))))))
of_item (program.array i n o h k c e) = by rule.array (token i (token n (token o (token {p = Length} (_, h, k) (token c (token e end))))))
of_item (program.function w n o d c b) = by rule.function (token w (token n (token o (part (_, d) (params d) (token c (part (_, b) (block b) end))))))

items : {from to : List Lexeme} {items : List RawItem} → DerivesItems from to items → Spans Items from to
items program.none = by rule.no_item end
items (program.more d ds) = by rule.more_items (part (_, d) (of_item d) (part (_, ds) (items ds) end))

tops : {from to : List Lexeme} {body : List RawStmt} → DerivesTops from to body → Spans Tops from to
tops program.none = by rule.no_top end
tops (program.statement d ds) = by rule.statement (part (_, d) (of_statement d) (part (_, ds) (tops ds) end))
tops (program.for_region m w c b ds) =
    by rule.for_region (token m (token w (part (_, _, _, c) (of_head c) (part (_, b) (loop b) (part (_, ds) (tops ds) end)))))
tops (program.region m w c b ds) = by rule.region (token m (token w (part (_, c) (condition c) (part (_, b) (loop b) (part (_, ds) (tops ds) end)))))

ending : {from to : List Lexeme} → DerivesReturn from to → Spans Ending from to
ending program.none = by rule.no_return end
ending (program.zero w v e) = by rule.return (token w (token {p = Zero} v (token e end)))

body_of : {from to : List Lexeme} {body : List RawStmt} → DerivesMain from to body → Spans Body from to
body_of (program.main i m o p b d r c) = by rule.main (token i (token m (token o (token p (token b (part (_, d) (tops d) (part r (ending r) (token c end))))))))
body_of (program.main_void i m o v p b d r c) =
    by rule.main_void (token i (token m (token o (token v (token p (token b (part (_, d) (tops d) (part r (ending r) (token c end)))))))))

pub derived_spans : (n : Nonterminal) {from to : List Lexeme} → Derived n from to → Spans n from to
derived_spans (Expression l) d = expr d.1
derived_spans Expressions d = list d.1
derived_spans Arguments d = arguments d.1
derived_spans Condition d = condition d.1
derived_spans Simple d = of_simple d.1
derived_spans First d = of_first d.1
derived_spans Head d = of_head d.3
derived_spans Statement d = of_statement d.1
derived_spans Choice d = choice d.1
derived_spans Block d = block d.1
derived_spans Statements d = statements d.1
derived_spans Exit d = exit d.1
derived_spans Inside d = inside d.1
derived_spans Loop d = loop d.1
derived_spans Names d = names d.1
derived_spans Params d = params d.1
derived_spans Item d = of_item d.1
derived_spans Items d = items d.1
derived_spans Tops d = tops d.1
derived_spans Ending d = ending d
derived_spans Body d = body_of d.1
derived_spans Program d = by rule.program (part (_, d.3) (items d.3) (part (_, d.4) (body_of d.4) end))

mutual
  pub spans_back : {n : Nonterminal} {from to : List Lexeme} → Spans n from to → Back from to
  spans_back (by r s) = parts_back s

  pub parts_back : {parts : List Part} {from to : List Lexeme} → SpansParts parts from to → Back from to
  parts_back end = here
  parts_back (token a s) = further (parts_back s)
  parts_back (part d s rest) = back_join (spans_back s) (parts_back rest)

-- what is derived from it has a token
abbrev pub solid : Nonterminal → Bool
solid Arguments = false
solid Statements = false
solid Inside = false
solid Params = false
solid Items = false
solid Tops = false
solid Ending = false
solid _ = true

abbrev solid_parts : List Part → Bool
solid_parts [] = false
solid_parts (Of n ∷ parts) = solid n || solid_parts parts
solid_parts (p ∷ parts) = true

solid_rule : {n : Nonterminal} {parts : List Part} → Rule n parts → solid n ≡ true → solid_parts parts ≡ true
solid_rule rule.no_arguments h = absurd (cc h)
solid_rule rule.no_statement h = absurd (cc h)
solid_rule rule.nothing_inside h = absurd (cc h)
solid_rule rule.no_params h = absurd (cc h)
solid_rule rule.no_item h = absurd (cc h)
solid_rule rule.no_top h = absurd (cc h)
solid_rule rule.no_return h = absurd (cc h)
solid_rule _ h = refl

mutual
  spans_less : {n : Nonterminal} {from to : List Lexeme} → Spans n from to → solid n ≡ true → length to < length from
  spans_less (by r s) h = parts_less s (solid_rule r h)

  parts_less : {parts : List Part} {from to : List Lexeme} → SpansParts parts from to → solid_parts parts ≡ true → length to < length from
  parts_less end h = absurd (cc h)
  parts_less (token a s) h = let k = back_le (parts_back s) in omega arith
  parts_less (part {n} {parts} d s rest) h =
      let k = back_le (spans_back s) in let m = back_le (parts_back rest) in
      elim (cases_Bool (solid n)) [
        | inl e ↦ (let less = spans_less s e in omega arith)
        | inr e ↦ (let less = parts_less rest (sym (ap (λ (b : Bool). b || solid_parts parts) e) ∙ h) in omega arith)
      ]

pub shorter : (n : Nonterminal) (from to : List Lexeme) → solid n ≡ true → Derived n from to → length to < length from
shorter n from to h d = spans_less (derived_spans n {from = from} {to = to} d) h

pub no_longer : (n : Nonterminal) (from to : List Lexeme) → Derived n from to → length to ≤ length from
no_longer n from to d = back_le (spans_back (derived_spans n {from = from} {to = to} d))
