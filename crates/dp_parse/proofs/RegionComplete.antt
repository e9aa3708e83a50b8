-- What the grammar derives as a region, the descent reads.
use Rattle.std.proofs.Common.{◌≡◌, refl, ap, ◌∙◌, sym, ℕ, ◌-◌, ◌≤◌, Bool, true, false, ◌&&◌, List, [], ◌∷◌, ◌++◌, length, Ok, arith}
use Rattle.dp_lex.specs.Token.{Lexeme}
use Rattle.dp_tree.specs.declared.raw.RawExpr.{RawExpr}
use Rattle.dp_tree.specs.declared.raw.RawStmt.{RawStmt}
use Rattle.dp_tree.specs.declared.raw.RawStmt.TheVariants as tree
use Rattle.dp_tokens.specs.declared.symbol.Symbol.{Symbol}
use Rattle.dp_tokens.specs.declared.symbol.Symbol.TheVariants.{Int, Name, Print, While, For, If, Else, Break, OpenBrace, CloseBrace, Semicolon}
use Rattle.dp_tokens.specs.Symbols.{symbol_at, Is}
use Rattle.dp_parse.specs.Heads.{DerivesHead}
use Rattle.dp_parse.specs.Statements.{DerivesCondition, DerivesStatement, declare, assign, store, call, print, loop, for_loop, choice, DerivesChoice, alone}
use Rattle.dp_parse.specs.Statements.{otherwise, else_if, DerivesBlock, block}
use Rattle.dp_parse.specs.Regions.{DerivesExit, bare, braced, DerivesInside, DerivesLoop}
use Rattle.dp_parse.specs.Regions as regions
use Rattle.dp_tokens.specs.Steps.{Parser, rest, sees_symbol, many}
use Rattle.dp_parse.specs.steps.Statements as step
use Rattle.dp_parse.specs.steps.Regions as read
use Rattle.dp_parse.proofs.StepLemmas.{is_same, expects, sees_is, sees_other, unlike}
use Rattle.dp_parse.proofs.Lists.{many_more, many_closed}
use Rattle.dp_parse.specs.Rules as rule
use Rattle.dp_parse.proofs.Spans.{shorter}
use Rattle.dp_parse.proofs.StatementReads.{reads_condition, begins_not, statements_not}
use Rattle.dp_parse.proofs.Going.{Goes, by, word_first, goes_whole}
use Rattle.dp_parse.proofs.HeadReads.{reads_head}
use Rattle.dp_parse.proofs.StatementComplete.{reads_statement, reads_choice}

reads_bare : (line : ℕ) (cond : RawExpr) (leave end : Lexeme) (to : List Lexeme) → Is Break leave → Is Semicolon end →
    read.bare line cond (leave ∷ end ∷ to) ≡ Ok (tree.Break line cond, to)
unfolding read.bare
reads_bare line cond leave end to l e =
    rw (expects Break leave (end ∷ to) l) (rw (expects Semicolon end to e))

reads_braced : (line : ℕ) (cond : RawExpr) (opening leave end closing : Lexeme) (to : List Lexeme) → Is OpenBrace opening → Is Break leave → Is Semicolon end →
    Is CloseBrace closing →
    read.braced line cond (opening ∷ leave ∷ end ∷ closing ∷ to) ≡ Ok (tree.Break line cond, to)
unfolding read.braced
reads_braced line cond opening leave end closing to o l e c =
    rw (expects OpenBrace opening (leave ∷ end ∷ closing ∷ to) o) (rw (reads_bare line cond leave end (closing ∷ to) l e)
    (rw (expects CloseBrace closing to c)))

leads : (opening leave : Lexeme) (to : List Lexeme) → Is OpenBrace opening → Is Break leave → read.leads_out (opening ∷ leave ∷ to) ≡ true
unfolding read.leads_out rest
leads opening leave to o l = ap (λ (b : Bool). b && sees_symbol Break (leave ∷ to)) (sees_is OpenBrace opening (leave ∷ to) o) ∙ sees_is Break leave to l

module _ (statement : Parser RawStmt) where
  to_tested : (word : Lexeme) (from middle : List Lexeme) (cond : RawExpr) → Is If word → DerivesCondition from middle cond →
      read.inside statement (word ∷ from) ≡ read.tested statement word.line cond middle
  unfolding read.inside read.branch
  to_tested word from middle cond is d =
      ap (λ (b : Bool). read.inside_by statement b (word ∷ from)) (sees_is If word from is) ∙ rw (expects If word from is) (rw (reads_condition d))

  pub inside_if : (from : List Lexeme) → symbol_at from ≡ If → read.inside statement from ≡ read.branch statement from
  unfolding read.inside sees_symbol
  inside_if from at = ap (λ (b : Bool). read.inside_by statement b from) (is_same (symbol_at from) If at)

  pub tested_as : (line : ℕ) (cond : RawExpr) (ts : List Lexeme) (a b : Bool) → sees_symbol Break ts ≡ a → read.leads_out ts ≡ b →
      read.tested statement line cond ts ≡ read.tested_by statement line cond a b ts
  unfolding read.tested
  tested_as line cond ts a b e f =
      ap (λ (u : Bool). read.tested_by statement line cond u (read.leads_out ts) ts) e ∙ ap (λ (u : Bool). read.tested_by statement line cond a u ts) f

  pub reads_exit : {from to : List Lexeme} {s : RawStmt} → DerivesExit from to s → read.inside statement from ≡ Ok (s, to)
  reads_exit (bare {word} {leave} {end} {from} {to} {e} i d l h) =
      to_tested word from (leave ∷ end ∷ to) e i d
      ∙ tested_as word.line e (leave ∷ end ∷ to) true (read.leads_out (leave ∷ end ∷ to)) (sees_is Break leave (end ∷ to) l) refl
      ∙ reads_bare word.line e leave end to l h
  reads_exit (braced {word} {opening} {leave} {end} {closing} {from} {to} {e} i d o l h c) =
      to_tested word from (opening ∷ leave ∷ end ∷ closing ∷ to) e i d
      ∙ tested_as word.line e (opening ∷ leave ∷ end ∷ closing ∷ to) false true
      (sees_other Break (opening ∷ leave ∷ end ∷ closing ∷ to) (unlike opening (leave ∷ end ∷ closing ∷ to) OpenBrace Break o (λ e. cc)))
      (leads opening leave (end ∷ closing ∷ to) o l)
      ∙ reads_braced word.line e opening leave end closing to o l h c

  -- an `if` of a block is read as elsewhere
  chooses : (word : Lexeme) (from middle : List Lexeme) (cond : RawExpr) → Is If word → DerivesCondition from middle cond →
      step.choice statement (word ∷ from) ≡ read.branches statement word.line cond middle
  unfolding step.choice read.branches
  chooses word from middle cond is d =
      rw (expects If word from is) (rw (reads_condition d))

pub stays_in : {middle to : List Lexeme} {body : List RawStmt} → DerivesBlock middle to body → (sees_symbol Break middle ≡ false)
    × (read.leads_out middle ≡ false)
unfolding read.leads_out rest
stays_in (block {opening} {closing} {from} {to} o d c) = (
  sees_other Break (opening ∷ from) (unlike opening from OpenBrace Break o (λ e. cc)),
  ap (λ (b : Bool). b && sees_symbol Break from) (sees_is OpenBrace opening from o)
      ∙ sees_other Break from (statements_not d Break refl (unlike closing to CloseBrace Break c (λ e. cc))),
)

pub record Opens (from : List Lexeme) : Type 0 where
  pub word : Lexeme
  pub inside : List Lexeme
  pub middle : List Lexeme
  pub cond : RawExpr
  pub is : Is If word
  pub splits : from ≡ word ∷ inside
  pub tests : DerivesCondition inside middle cond
  pub bare : sees_symbol Break middle ≡ false
  pub braced : read.leads_out middle ≡ false

opens : {from to : List Lexeme} {s : RawStmt} → DerivesChoice from to s → Opens from
opens (alone {word} {from} {middle} {to} {e} w d b) =
    let k = stays_in b in record { word = word; inside = from; middle = middle; cond = e; is = w; splits = refl; tests = d; bare = k.0; braced = k.1 }
opens (otherwise {word} {other} {from} {middle} {after} {to} {e} w d b o f) =
    let k = stays_in b in record { word = word; inside = from; middle = middle; cond = e; is = w; splits = refl; tests = d; bare = k.0; braced = k.1 }
opens (else_if {word} {other} {from} {middle} {after} {to} {e} w d b o f) =
    let k = stays_in b in record { word = word; inside = from; middle = middle; cond = e; is = w; splits = refl; tests = d; bare = k.0; braced = k.1 }

pub inside_choice : (statement : Parser RawStmt) (from : List Lexeme) → Opens from → read.inside statement from ≡ step.choice statement from
inside_choice statement from o =
    ap (read.inside statement) o.splits ∙ to_tested statement o.word o.inside o.middle o.cond o.is o.tests
    ∙ tested_as statement o.word.line o.cond o.middle false false o.bare o.braced
    ∙ sym (chooses statement o.word o.inside o.middle o.cond o.is o.tests) ∙ sym (ap (step.choice statement) o.splits)

pub inside_other : (statement : Parser RawStmt) (from : List Lexeme) → (symbol_at from ≡ If → ⊥) → read.inside statement from ≡ statement from
unfolding read.inside
inside_other statement from other = ap (λ (b : Bool). read.inside_by statement b from) (sees_other If from other)

pub reads_inside : {from to : List Lexeme} {s : RawStmt} → DerivesStatement from to s → (n : ℕ) → length from ≤ n → (symbol_at to ≡ Else → ⊥) →
    read.inside (step.statement n) from ≡ Ok (s, to)
reads_inside (declare {int} {name} {equals} {end} {from} i n q d h) depth fits other =
    inside_other (step.statement depth) (int ∷ name ∷ equals ∷ from) (unlike int (name ∷ equals ∷ from) Int If i (λ e. cc))
    ∙ reads_statement (declare i n q d h) depth fits other
reads_inside (assign {name} {equals} {end} {from} n q d h) depth fits other =
    inside_other (step.statement depth) (name ∷ equals ∷ from) (unlike name (equals ∷ from) Name If n (λ e. cc))
    ∙ reads_statement (assign n q d h) depth fits other
reads_inside (store {name} {opening} {closing} {equals} {end} {from} n o d c q f h) depth fits other =
    inside_other (step.statement depth) (name ∷ opening ∷ from) (unlike name (opening ∷ from) Name If n (λ e. cc))
    ∙ reads_statement (store n o d c q f h) depth fits other
reads_inside (call {name} {opening} {closing} {end} {from} n o d c h) depth fits other =
    inside_other (step.statement depth) (name ∷ opening ∷ from) (unlike name (opening ∷ from) Name If n (λ e. cc))
    ∙ reads_statement (call n o d c h) depth fits other
reads_inside (print {word} {end} {from} w d h) depth fits other =
    inside_other (step.statement depth) (word ∷ from) (unlike word from Print If w (λ e. cc)) ∙ reads_statement (print w d h) depth fits other
reads_inside (loop {word} {from} w d b) depth fits other =
    inside_other (step.statement depth) (word ∷ from) (unlike word from While If w (λ e. cc)) ∙ reads_statement (loop w d b) depth fits other
reads_inside (for_loop {word} {from} w d b) depth fits other =
    inside_other (step.statement depth) (word ∷ from) (unlike word from For If w (λ e. cc)) ∙ reads_statement (for_loop w d b) depth fits other
reads_inside (choice {from} d) depth fits other = inside_choice (step.statement depth) from (opens d) ∙ reads_choice d depth (omega arith) other

pub exit_not : {from to : List Lexeme} → Goes rule.Exit from to → (k : Symbol) → (If ≡ k → ⊥) → symbol_at from ≡ k → ⊥
exit_not (by rule.bare g) k other at = other (sym (word_first g) ∙ at)
exit_not (by rule.braced g) k other at = other (sym (word_first g) ∙ at)

pub insides_no_else : {from to : List Lexeme} {body : List RawStmt} → DerivesInside from to body → (symbol_at to ≡ Else → ⊥) → symbol_at from ≡ Else → ⊥
insides_no_else regions.none other at = other at
insides_no_else (regions.statement d ds) other at = begins_not d Else refl at
insides_no_else (regions.exit d ds) other at = exit_not (goes_whole rule.Exit refl (_, d)) Else (λ e. cc) at

module _ (n : ℕ) where
  abbrev one : Parser RawStmt
  one = read.inside (step.statement n)

  pub reads_insides : {from to : List Lexeme} {body : List RawStmt} → DerivesInside from to body → length from ≤ n → symbol_at to ≡ CloseBrace →
      (found : List RawStmt) (k : ℕ) → length from ≤ k → many (sees_symbol CloseBrace) one k found from ≡ Ok (found ++ body, to)
  reads_insides (regions.none {to}) fits ends found k enough = many_closed one k found to ends enough
  reads_insides (regions.statement {from} {middle} {to} {s} {rest = body} d ds) fits ends found k enough =
      let less = shorter rule.Statement _ _ refl (_, d) in
      many_more one (sees_symbol CloseBrace) k found from middle to s body (sees_other CloseBrace from (begins_not d CloseBrace refl))
      (reads_inside d n fits (insides_no_else ds (λ at. let clash : CloseBrace ≡ Else = sym ends ∙ at in cc clash))) less enough
      (reads_insides ds (omega arith) ends (found ++ s ∷ []) (k - 1) (omega arith))
  reads_insides (regions.exit {from} {middle} {to} {s} {rest = body} d ds) fits ends found k enough =
      let less = shorter rule.Exit _ _ refl (_, d) in
      many_more one (sees_symbol CloseBrace) k found from middle to s body
      (sees_other CloseBrace from (exit_not (goes_whole rule.Exit refl (_, d)) CloseBrace (λ e. cc)))
      (reads_exit (step.statement n) d) less enough (reads_insides ds (omega arith) ends (found ++ s ∷ []) (k - 1) (omega arith))

  pub reads_loop : {from to : List Lexeme} {body : List RawStmt} → DerivesLoop from to body → length from ≤ n →
      read.body (step.statement n) from ≡ Ok (body, to)
  unfolding read.body symbol_at
  reads_loop (regions.loop {opening} {closing} {from} {to} {body} o d c) fits =
      rw (expects OpenBrace opening from o) (rw (reads_insides d (omega arith) c [] (length from) (omega arith)) (rw (expects CloseBrace closing to c)))

  reads_repeated : (word : Lexeme) (from middle to : List Lexeme) (e : RawExpr) (body : List RawStmt) → Is While word → DerivesCondition from middle e →
      DerivesLoop middle to body → length middle ≤ n →
      read.repeated (step.statement n) (word ∷ from) ≡ Ok (tree.While word.line true e body, to)
  unfolding read.repeated
  reads_repeated word from middle to e body w d b fits =
      rw (expects While word from w) (rw (reads_condition d) (rw (reads_loop b fits)))

  reads_counted : (word : Lexeme) (from middle to : List Lexeme) (first next : RawStmt) (e : RawExpr) (body : List RawStmt) → Is For word →
      DerivesHead from middle first e next → DerivesLoop middle to body → length middle ≤ n →
      read.counted (step.statement n) (word ∷ from) ≡ Ok (tree.For word.line true (first ∷ []) e (next ∷ []) body, to)
  unfolding read.counted
  reads_counted word from middle to first next e body w d b fits =
      rw (expects For word from w) (rw (reads_head d) (rw (reads_loop b fits)))

  pub region_while : (from : List Lexeme) → symbol_at from ≡ While → read.region (step.statement n) from ≡ read.repeated (step.statement n) from
  unfolding read.region
  region_while from at =
      ap (λ (b : Bool). read.region_by (step.statement n) b from) (sees_other For from (λ k. let clash : While ≡ For = sym at ∙ k in cc clash))

  pub region_for : (from : List Lexeme) → symbol_at from ≡ For → read.region (step.statement n) from ≡ read.counted (step.statement n) from
  unfolding read.region sees_symbol
  region_for from at = ap (λ (b : Bool). read.region_by (step.statement n) b from) (is_same (symbol_at from) For at)

  pub reads_marked : (word : Lexeme) (from middle to : List Lexeme) (e : RawExpr) (body : List RawStmt) → Is While word → DerivesCondition from middle e →
      DerivesLoop middle to body → length middle ≤ n →
      read.region (step.statement n) (word ∷ from) ≡ Ok (tree.While word.line true e body, to)
  unfolding symbol_at
  reads_marked word from middle to e body w d b fits = region_while (word ∷ from) w ∙ reads_repeated word from middle to e body w d b fits

  pub reads_marked_for : (word : Lexeme) (from middle to : List Lexeme) (first next : RawStmt) (e : RawExpr) (body : List RawStmt) → Is For word →
      DerivesHead from middle first e next → DerivesLoop middle to body → length middle ≤ n →
      read.region (step.statement n) (word ∷ from) ≡ Ok (tree.For word.line true (first ∷ []) e (next ∷ []) body, to)
  unfolding symbol_at
  reads_marked_for word from middle to first next e body w d b fits =
      region_for (word ∷ from) w ∙ reads_counted word from middle to first next e body w d b fits
