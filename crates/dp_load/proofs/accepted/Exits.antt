-- In the tree of a text early exits stand at the top of regions' bodies alone.
use Rattle.std.proofs.Common.{◌≡◌, refl, sym, ap, ◌∙◌, ℕ, Bool, true, false, ◌&&◌, List, [], ◌∷◌}
use Rattle.std.proofs.lemmas.Bool.{and_from}
use Rattle.std.specs.List.{list_all}
use Rattle.dp_lex.specs.Token.{Lexeme}
use Rattle.dp_tree.specs.declared.raw.RawExpr.{RawExpr}
use Rattle.dp_tree.specs.declared.raw.RawStmt.{RawStmt, out-RawStmt, roll-RawStmt, out-roll-RawStmt}
use Rattle.dp_tree.specs.declared.raw.RawStmt.TheOpen.{RawStmt-F}
use Rattle.dp_tree.specs.declared.raw.RawStmt.TheBlock.{hidden-the_row-RawStmt-0}
use Rattle.dp_tree.specs.declared.raw.RawStmt.TheVariants as tree
use Rattle.dp_tree.specs.declared.raw.RawStmt.TheViews.{rolls-Declare, rolls-Assign, rolls-Store, rolls-Call, rolls-Print, rolls-If, rolls-While, rolls-For}
use Rattle.dp_tree.specs.declared.raw.RawItem.{RawItem}
use Rattle.dp_tree.specs.declared.raw.RawProgram.{RawProgram}
use Rattle.dp_parse.specs.Statements.{DerivesStatement, DerivesChoice, DerivesBlock, DerivesStatements}
use Rattle.dp_parse.specs.Statements as form
use Rattle.dp_parse.specs.Heads.{DerivesHead, DerivesFirst, DerivesSimple}
use Rattle.dp_parse.specs.Heads as heads
use Rattle.dp_parse.specs.Regions.{DerivesExit, DerivesInside, DerivesLoop}
use Rattle.dp_parse.specs.Regions as inner
use Rattle.dp_parse.specs.Programs.{DerivesItem, DerivesItems, DerivesTops, DerivesMain}
use Rattle.dp_parse.specs.Programs as grammar
use Rattle.dp_parse.specs.Parses.{ParsesAs}
use Rattle.dp_check.specs.Checked.{is_unbroken, is_unbroken_in, may_leave, fits_at, breaks_fit_at_top, is_unbroken_item, breaks_fit}
use Rattle.dp_check.proofs.PlaceLemmas.{opened}

unbroken_hidden : (xs : List RawStmt) → is_unbroken_in (hidden-the_row-RawStmt-0 xs) ≡ list_all is_unbroken xs
unfolding opened
unbroken_hidden [] = refl
unbroken_hidden (x ∷ xs) = ap (λ b. is_unbroken x && b) (unbroken_hidden xs)

unbroken-If : (line : ℕ) (e : RawExpr) (a b : List RawStmt) → list_all is_unbroken a ≡ true → list_all is_unbroken b ≡ true →
    is_unbroken (tree.If line e a b) ≡ true
unfolding opened
unbroken-If line e a b h k = and_from _ _ (unbroken_hidden a ∙ h) (unbroken_hidden b ∙ k)

unbroken-While : (line : ℕ) (marked : Bool) (e : RawExpr) (a : List RawStmt) → list_all is_unbroken a ≡ true → is_unbroken (tree.While line marked e a) ≡ true
unfolding opened
unbroken-While line marked e a h = unbroken_hidden a ∙ h

unbroken-For : (line : ℕ) (marked : Bool) (first : List RawStmt) (e : RawExpr) (step a : List RawStmt) → list_all is_unbroken first ≡ true →
    list_all is_unbroken a ≡ true → list_all is_unbroken step ≡ true → is_unbroken (tree.For line marked first e step a) ≡ true
unfolding opened
unbroken-For line marked first e step a h k l = and_from _ _ (unbroken_hidden first ∙ h) (and_from _ _ (unbroken_hidden a ∙ k) (unbroken_hidden step ∙ l))

simple : {from to : List Lexeme} {s : RawStmt} → DerivesSimple from to s → is_unbroken s ≡ true
simple (heads.scalar a b c) = refl
simple (heads.element a b c d e f) = refl

first : {from to : List Lexeme} {s : RawStmt} → DerivesFirst from to s → is_unbroken s ≡ true
first (heads.declared a b c d) = refl
first (heads.simple s) = simple s

one : (s : RawStmt) → is_unbroken s ≡ true → list_all is_unbroken (s ∷ []) ≡ true
one s h = and_from (is_unbroken s) true h refl

-- the parts of a head
head_first : {from to : List Lexeme} {f step : RawStmt} {e : RawExpr} → DerivesHead from to f e step → is_unbroken f ≡ true
head_first (heads.head a f b c d s g) = first f

head_step : {from to : List Lexeme} {f step : RawStmt} {e : RawExpr} → DerivesHead from to f e step → is_unbroken step ≡ true
head_step (heads.head a f b c d s g) = simple s

mutual
  statement : {from to : List Lexeme} {s : RawStmt} → DerivesStatement from to s → is_unbroken s ≡ true
  statement (form.declare a b c d e) = refl
  statement (form.assign a b c d) = refl
  statement (form.store a b c d e f g) = refl
  statement (form.call a b c d e) = refl
  statement (form.print a b c) = refl
  statement (form.loop {word = word} {e = e} {body = body} a c b) = unbroken-While word.line false e body (block b)
  statement (form.for_loop {word = word} {first = f} {step = g} {e = e} {body = body} a h b) =
      unbroken-For word.line false (f ∷ []) e (g ∷ []) body (one f (head_first h)) (block b) (one g (head_step h))
  statement (form.choice c) = choice c

  choice : {from to : List Lexeme} {s : RawStmt} → DerivesChoice from to s → is_unbroken s ≡ true
  choice (form.alone {word = word} {e = e} {body = body} a c b) = unbroken-If word.line e body [] (block b) refl
  choice (form.otherwise {word = word} {e = e} {body = body} {else_part = part} a c b d x) = unbroken-If word.line e body part (block b) (block x)
  choice (form.else_if {word = word} {e = e} {body = body} {s = s} a c b d x) = unbroken-If word.line e body (s ∷ []) (block b) (one s (choice x))

  block : {from to : List Lexeme} {body : List RawStmt} → DerivesBlock from to body → list_all is_unbroken body ≡ true
  block (form.block a b c) = statements b

  statements : {from to : List Lexeme} {body : List RawStmt} → DerivesStatements from to body → list_all is_unbroken body ≡ true
  statements form.none = refl
  statements (form.more {s = s} {body = body} a b) = and_from (is_unbroken s) (list_all is_unbroken body) (statement a) (statements b)

-- a statement at the top, by its form
at_top : (h : RawStmt-F RawStmt) (s : RawStmt) → roll-RawStmt h ≡ s → fits_at h (is_unbroken s) ≡ true → breaks_fit_at_top s ≡ true
at_top h s is e = ap (λ (k : RawStmt-F RawStmt). fits_at k (is_unbroken s)) (ap out-RawStmt (sym is) ∙ out-roll-RawStmt h) ∙ e

top_choice : {from to : List Lexeme} {s : RawStmt} → DerivesChoice from to s → is_unbroken s ≡ true → breaks_fit_at_top s ≡ true
top_choice (form.alone {word = word} {e = e} {body = body} a c b) h = at_top _ _ (rolls-If word.line e body []) h
top_choice (form.otherwise {word = word} {e = e} {body = body} {else_part = part} a c b d x) h = at_top _ _ (rolls-If word.line e body part) h
top_choice (form.else_if {word = word} {e = e} {body = body} {s = s} a c b d x) h = at_top _ _ (rolls-If word.line e body (s ∷ [])) h

top_statement : {from to : List Lexeme} {s : RawStmt} → DerivesStatement from to s → is_unbroken s ≡ true → breaks_fit_at_top s ≡ true
top_statement (form.declare a b c d e) h = at_top _ _ (rolls-Declare _ _ _) h
top_statement (form.assign a b c d) h = at_top _ _ (rolls-Assign _ _) h
top_statement (form.store a b c d e f g) h = at_top _ _ (rolls-Store _ _ _) h
top_statement (form.call a b c d e) h = at_top _ _ (rolls-Call _ _) h
top_statement (form.print a b c) h = at_top _ _ (rolls-Print _ _) h
top_statement (form.loop {word = word} {e = e} {body = body} a c b) h = at_top _ _ (rolls-While word.line false e body) h
top_statement (form.for_loop {word = word} {first = f} {step = g} {e = e} {body = body} a k b) h =
    at_top _ _ (rolls-For word.line false (f ∷ []) e (g ∷ []) body) h
top_statement (form.choice c) h = top_choice c h

-- in a region's body
may : (s : RawStmt) → is_unbroken s ≡ true → may_leave s ≡ true
may (tree.Break line e) h = refl
may (tree.Declare line name e) h = h
may (tree.Assign name e) h = h
may (tree.Store name i e) h = h
may (tree.Call name args) h = h
may (tree.Print line e) h = h
may (tree.If' line e _ a _ b) h = h
may (tree.While' line marked e _ a) h = h
may (tree.For' line marked _ f e _ step _ a) h = h

exit : {from to : List Lexeme} {s : RawStmt} → DerivesExit from to s → may_leave s ≡ true
exit (inner.bare a b c d) = refl
exit (inner.braced a b c d e f) = refl

inside : {from to : List Lexeme} {body : List RawStmt} → DerivesInside from to body → list_all may_leave body ≡ true
inside inner.none = refl
inside (inner.statement {s = s} {rest = rest} a b) = and_from (may_leave s) (list_all may_leave rest) (may s (statement a)) (inside b)
inside (inner.exit {s = s} {rest = rest} a b) = and_from (may_leave s) (list_all may_leave rest) (exit a) (inside b)

loop_body : {from to : List Lexeme} {body : List RawStmt} → DerivesLoop from to body → list_all may_leave body ≡ true
loop_body (inner.loop a b c) = inside b

tops : {from to : List Lexeme} {body : List RawStmt} → DerivesTops from to body → list_all breaks_fit_at_top body ≡ true
tops grammar.none = refl
tops (grammar.statement {s = s} {rest = rest} a b) = and_from (breaks_fit_at_top s) (list_all breaks_fit_at_top rest) (top_statement a (statement a)) (tops b)
tops (grammar.region {word = word} {e = e} {body = body} {rest = rest} a b c d x) = and_from (breaks_fit_at_top (tree.While word.line true e body))
    (list_all breaks_fit_at_top rest) (at_top _ _ (rolls-While word.line true e body) (loop_body d)) (tops x)
tops (grammar.for_region {word = word} {first = f} {step = g} {e = e} {body = body} {rest = rest} a b c d x) =
    and_from (breaks_fit_at_top (tree.For word.line true (f ∷ []) e (g ∷ []) body)) (list_all breaks_fit_at_top rest)
    (at_top _ _ (rolls-For word.line true (f ∷ []) e (g ∷ []) body)
    (and_from (list_all is_unbroken (f ∷ [])) (list_all may_leave body && list_all is_unbroken (g ∷ [])) (one f (head_first c))
    (and_from (list_all may_leave body) (list_all is_unbroken (g ∷ [])) (loop_body d) (one g (head_step c))))) (tops x)

main_tops : {from to : List Lexeme} {body : List RawStmt} → DerivesMain from to body → list_all breaks_fit_at_top body ≡ true
main_tops (grammar.main a b c d e t r f) = tops t
main_tops (grammar.main_void a b c v d e t r f) = tops t

item : {from to : List Lexeme} {i : RawItem} → DerivesItem from to i → is_unbroken_item i ≡ true
item (grammar.scalar a b c) = refl
item (grammar.started a b c d e) = refl
item (grammar.below_zero a b c d e f) = refl
item (grammar.array a b c d e f g) = refl
item (grammar.function a b c d e f) = block f

items : {from to : List Lexeme} {is : List RawItem} → DerivesItems from to is → list_all is_unbroken_item is ≡ true
items grammar.none = refl
items (grammar.more {i = i} {rest = rest} a b) = and_from (is_unbroken_item i) (list_all is_unbroken_item rest) (item a) (items b)

pub exits : (text : List ℕ) (raw : RawProgram) → ParsesAs text raw → breaks_fit raw ≡ true
exits text raw h = and_from (list_all breaks_fit_at_top raw.main) (list_all is_unbroken_item raw.items) (main_tops h.derives.main) (items h.derives.items)
