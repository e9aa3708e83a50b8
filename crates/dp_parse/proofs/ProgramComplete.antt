-- What the grammar derives as a program, the descent reads; so no tokens derive two programs.
use Rattle.std.proofs.Common.{◌≡◌, refl, ap, ap₂, ◌∙◌, sym, ℕ, ◌-◌, ◌<◌, ◌≤◌, pos, neg_ℤ, Bool, true, false, ◌||◌, List, [], ◌∷◌, ◌++◌, length, append_assoc}
use Rattle.std.proofs.Common.{arith, Ok}
use Rattle.std.proofs.lemmas.List.{append-nil}
use Rattle.dp_base.specs.Arithmetic.{is_zero}
use Rattle.dp_lex.specs.Token.{Lexeme}
use Rattle.dp_tree.specs.declared.raw.RawExpr.{RawExpr}
use Rattle.dp_tree.specs.declared.raw.RawStmt.{RawStmt}
use Rattle.dp_tree.specs.declared.raw.RawStmt.TheVariants as stmt
use Rattle.dp_tree.specs.declared.raw.RawItem.{RawItem}
use Rattle.dp_tree.specs.declared.raw.RawItem.TheVariants as item
use Rattle.dp_tree.specs.declared.raw.RawProgram.{RawProgram}
use Rattle.dp_parse.specs.declared.item.Part.TheVariants.{Item, Main as Body}
use Rattle.dp_tokens.specs.declared.symbol.Symbol.{Symbol}
use Rattle.dp_tokens.specs.declared.symbol.Symbol.TheVariants.{Name, Mark, Int, Void, Main, Return, While, For, Else, Assign, OpenParen, CloseParen}
use Rattle.dp_tokens.specs.declared.symbol.Symbol.TheVariants.{OpenBracket, OpenBrace, CloseBrace, Semicolon}
use Rattle.dp_tokens.specs.Symbols.{symbol_at, Is}
use Rattle.dp_tokens.specs.Leaves.{name_of}
use Rattle.dp_parse.specs.Statements.{DerivesStatement, DerivesCondition}
use Rattle.dp_parse.specs.Heads.{DerivesHead}
use Rattle.dp_parse.specs.Programs.{more, void, DerivesItem, scalar, started, below_zero, array, function, DerivesTops, region, for_region, DerivesReturn}
use Rattle.dp_parse.specs.Programs.{DerivesMain, main, main_void, DerivesItems, Derives}
use Rattle.dp_parse.specs.Programs as programs
use Rattle.dp_tokens.specs.Steps.{◌>>=◌, pure, expect, eat, rest, sees_symbol, after, many}
use Rattle.dp_tokens.specs.Steps as step
use Rattle.dp_parse.specs.steps.Programs as read
use Rattle.dp_parse.proofs.StepLemmas.{pair, is_same, expects, eats, stays, sees_other, same_pair, unlike}
use Rattle.dp_parse.proofs.LeafLemmas.{reads_number, sees_of}
use Rattle.dp_parse.proofs.Lists.{many_turn, many_more, many_over}
use Rattle.dp_parse.specs.Rules as rule
use Rattle.dp_parse.proofs.Spans.{shorter}
use Rattle.dp_parse.proofs.StatementReads.{goes, begins_not}
use Rattle.dp_parse.specs.Regions.{DerivesLoop}
use Rattle.dp_parse.proofs.StatementComplete.{reads_statement}
use Rattle.dp_parse.proofs.RegionComplete.{reads_marked, reads_marked_for}
use Rattle.dp_parse.proofs.ItemSteps.{ends_some}
use Rattle.dp_parse.proofs.ProgramSound.{inside, whole}
use Rattle.dp_parse.proofs.ProgramSteps.{program_item, program_main}
use Rattle.dp_parse.proofs.ItemComplete.{reads_plain, reads_below, reads_variable, reads_array, reads_function}
use Rattle.std.proofs.Math.Bool.{or-true}

-- a token that is a symbol stands for it
at_head : (t : Lexeme) (ts : List Lexeme) (s : Symbol) → Is s t → symbol_at (t ∷ ts) ≡ s
unfolding symbol_at
at_head t ts s h = h

-- ---- `main`

-- what may stand behind the statements of `main`
abbrev pub Closes : List Lexeme → Type 0
Closes ts = read.ends ts ≡ true

pub ends_return : (ts : List Lexeme) → symbol_at ts ≡ Return → Closes ts
unfolding read.ends sees_symbol
ends_return ts at = ap (λ (b : Bool). b || step.same_symbol (symbol_at ts) CloseBrace) (is_same (symbol_at ts) Return at)

ends_brace : (ts : List Lexeme) → symbol_at ts ≡ CloseBrace → Closes ts
unfolding read.ends sees_symbol
ends_brace ts at = ap (λ (b : Bool). step.same_symbol (symbol_at ts) Return || b) (is_same (symbol_at ts) CloseBrace at)
    ∙ or-true (step.same_symbol (symbol_at ts) Return)

pub ends_not : (ts : List Lexeme) → (symbol_at ts ≡ Return → ⊥) → (symbol_at ts ≡ CloseBrace → ⊥) → read.ends ts ≡ false
unfolding read.ends
ends_not ts f g = ap₂ (λ (a b : Bool). a || b) (sees_other Return ts f) (sees_other CloseBrace ts g)

closes_no_else : (ts : List Lexeme) → Closes ts → symbol_at ts ≡ Else → ⊥
closes_no_else ts h at =
    let off = ends_not ts (λ e. let clash : Else ≡ Return = sym at ∙ e in cc clash) (λ e. let clash : Else ≡ CloseBrace = sym at ∙ e in cc clash) in
    let clash : true ≡ false = sym h ∙ off in cc clash

tops_no_else : {from to : List Lexeme} {body : List RawStmt} → DerivesTops from to body → Closes to → symbol_at from ≡ Else → ⊥
unfolding symbol_at
tops_no_else (programs.none {to}) h at = closes_no_else to h at
tops_no_else (programs.statement d ds) h at = begins_not d Else refl at
tops_no_else (for_region m w c b ds) h at = let clash : Mark ≡ Else = sym m ∙ at in cc clash
tops_no_else (region m w c b ds) h at = let clash : Mark ≡ Else = sym m ∙ at in cc clash

pub reads_top_statement : (from to : List Lexeme) (s : RawStmt) → DerivesStatement from to s → (symbol_at to ≡ Else → ⊥) → read.top from ≡ Ok (s, to)
unfolding read.top
reads_top_statement from to s d other =
    stays Mark (read.top_by (length from)) from (begins_not d Mark refl) ∙ reads_statement d (length from) (omega arith) other

pub reads_region : (mark word : Lexeme) (from inside to : List Lexeme) (e : RawExpr) (body : List RawStmt) → Is Mark mark → Is While word →
    DerivesCondition from inside e → DerivesLoop inside to body →
    read.top (mark ∷ word ∷ from) ≡ Ok (stmt.While word.line true e body, to)
unfolding read.top
reads_region mark word from inside to e body m w c b =
    let less = shorter rule.Condition _ _ refl (_, c) in
    eats Mark (read.top_by (length (mark ∷ word ∷ from))) mark (word ∷ from) m
    ∙ reads_marked (length (mark ∷ word ∷ from)) word from inside to e body w c b (omega arith)

pub reads_for_region : (mark word : Lexeme) (from inside to : List Lexeme) (first step : RawStmt) (e : RawExpr) (body : List RawStmt) → Is Mark mark →
    Is For word → DerivesHead from inside first e step → DerivesLoop inside to body →
    read.top (mark ∷ word ∷ from) ≡ Ok (stmt.For word.line true (first ∷ []) e (step ∷ []) body, to)
unfolding read.top
reads_for_region mark word from inside to first next e body m w c b =
    let less = shorter rule.Head _ _ refl (_, _, _, c) in
    eats Mark (read.top_by (length (mark ∷ word ∷ from))) mark (word ∷ from) m
    ∙ reads_marked_for (length (mark ∷ word ∷ from)) word from inside to first next e body w c b (omega arith)

-- a region and what follows it
pub region_turn : (mark : Lexeme) (from middle : List Lexeme) (s : RawStmt) → Is Mark mark → read.top (mark ∷ from) ≡ Ok (s, middle) →
    length middle < length (mark ∷ from) → (found : List RawStmt) (k : ℕ) → length (mark ∷ from) ≤ k →
    many read.ends read.top k found (mark ∷ from) ≡ many read.ends read.top (k - 1) (found ++ s ∷ []) middle
region_turn mark from middle s m h less found k enough =
    many_turn read.top read.ends k found (mark ∷ from) middle s (ends_not (mark ∷ from) (unlike mark from Mark Return m (λ e. cc))
    (unlike mark from Mark CloseBrace m (λ e. cc))) h less enough

pub reads_tops : {from to : List Lexeme} {body : List RawStmt} → DerivesTops from to body → Closes to → (found : List RawStmt) (k : ℕ) → length from ≤ k →
    many read.ends read.top k found from ≡ Ok (found ++ body, to)
reads_tops (programs.none {to}) h found k enough = many_over read.top read.ends k found to h (ends_some to h) enough
reads_tops (programs.statement {from} {middle} {to} {s} {rest = body} d ds) h found k enough =
    let less = shorter rule.Statement _ _ refl (_, d) in
    many_more read.top read.ends k found from middle to s body (ends_not from (begins_not d Return refl) (begins_not d CloseBrace refl))
    (reads_top_statement from middle s d (tops_no_else ds h)) less enough
    (reads_tops ds h (found ++ s ∷ []) (k - 1) (omega arith))
reads_tops (region {mark} {word} {from} {inside} {middle} {to} {e} {body} {rest = others} m w c b ds) h found k enough =
    let less = shorter rule.Condition _ _ refl (_, c) in let loop_less = shorter rule.Loop _ _ refl (_, b) in
    let s = stmt.While word.line true e body in
    region_turn mark (word ∷ from) middle s m (reads_region mark word from inside middle e body m w c b) (omega arith) found k enough
    ∙ reads_tops ds h (found ++ s ∷ []) (k - 1) (omega arith)
    ∙ ap (λ (all : List RawStmt). Ok (pair all to)) (append_assoc found (s ∷ []) others)
reads_tops (for_region {mark} {word} {from} {inside} {middle} {to} {first} {step} {e} {body} {rest = others} m w c b ds) h found k enough =
    let less = shorter rule.Head _ _ refl (_, _, _, c) in let loop_less = shorter rule.Loop _ _ refl (_, b) in
    let s = stmt.For word.line true (first ∷ []) e (step ∷ []) body in
    region_turn mark (word ∷ from) middle s m (reads_for_region mark word from inside middle first step e body m w c b) (omega arith) found k enough
    ∙ reads_tops ds h (found ++ s ∷ []) (k - 1) (omega arith)
    ∙ ap (λ (all : List RawStmt). Ok (pair all to)) (append_assoc found (s ∷ []) others)

pub return_closes : {from to : List Lexeme} → DerivesReturn from to → (closing : Lexeme) (left : List Lexeme) → to ≡ closing ∷ left →
    Is CloseBrace closing → Closes from
return_closes (programs.none {to}) closing left splits c = rw splits (ends_brace (closing ∷ left) (at_head closing left CloseBrace c))
return_closes (programs.zero {word} {value} {end} {to} w v e) closing left splits c =
    ends_return (word ∷ value ∷ end ∷ to) (at_head word (value ∷ end ∷ to) Return w)

pub reads_returned : {from to : List Lexeme} → DerivesReturn from to → (closing : Lexeme) (left : List Lexeme) → to ≡ closing ∷ left → Is CloseBrace closing →
    (eat Return >>= read.returned_by) from ≡ Ok (tt, to)
unfolding is_zero
reads_returned (programs.none {to}) closing left splits c =
    stays Return read.returned_by to (λ at. unlike closing left CloseBrace Return c (λ e. cc) (ap symbol_at (sym splits) ∙ at))
reads_returned (programs.zero {word} {value} {end} {to} w v e) closing left splits c =
    eats Return read.returned_by word (value ∷ end ∷ to) w ∙ ap (λ (b : Bool). read.zero_by b (value ∷ end ∷ to)) (sees_of value 0 (end ∷ to) v)
    ∙ rw (reads_number value 0 (end ∷ to) v)
    (rw (expects Semicolon end to e))

reads_end : (from left : List Lexeme) (closing : Lexeme) → DerivesReturn from (closing ∷ left) → Is CloseBrace closing → read.end from ≡ Ok (tt, left)
unfolding read.end read.returned
reads_end from left closing d c =
    goes (λ _. expect CloseBrace >>= (λ _. pure tt)) (reads_returned d closing left refl c) ∙ goes (λ _. pure tt) (expects CloseBrace closing left c)

reads_inside : (paren brace closing : Lexeme) (from behind to : List Lexeme) (body : List RawStmt) → Is CloseParen paren → Is OpenBrace brace →
    DerivesTops from behind body → DerivesReturn behind (closing ∷ to) → Is CloseBrace closing →
    inside (paren ∷ brace ∷ from) ≡ Ok (body, to)
reads_inside paren brace closing from behind to body p b d r c =
    rw (expects CloseParen paren (brace ∷ from) p)
    (rw (expects OpenBrace brace from b) (rw (reads_tops d (return_closes r closing to refl c) [] (length from) (omega arith))
    (rw (reads_end behind to closing r c))))

reads_main_plain : (opening : Lexeme) (from to : List Lexeme) (body : List RawStmt) → Is OpenParen opening → (symbol_at from ≡ Void → ⊥) →
    inside from ≡ Ok (body, to) → read.main_part (opening ∷ from) ≡ Ok (body, to)
unfolding read.main_part
reads_main_plain opening from to body o other h =
    goes (λ _. eat Void >>= (λ _. inside)) (expects OpenParen opening from o) ∙ stays Void (λ _. inside) from other ∙ h

reads_main_void : (opening word : Lexeme) (from to : List Lexeme) (body : List RawStmt) → Is OpenParen opening → Is Void word → inside from ≡ Ok (body, to) →
    read.main_part (opening ∷ word ∷ from) ≡ Ok (body, to)
unfolding read.main_part
reads_main_void opening word from to body o v h =
    goes (λ _. eat Void >>= (λ _. inside)) (expects OpenParen opening (word ∷ from) o) ∙ eats Void (λ _. inside) word from v ∙ h

-- ---- parts of a program

pub part_int : (int : Lexeme) (from : List Lexeme) → Is Int int → read.part (int ∷ from) ≡ (eat Main >>= read.global_by) from
unfolding read.part
part_int int from i =
    stays Void read.part_by (int ∷ from) (unlike int from Int Void i (λ e. cc e)) ∙ goes (λ _. eat Main >>= read.global_by) (expects Int int from i)

pub part_void : (word : Lexeme) (from : List Lexeme) → Is Void word → read.part (word ∷ from) ≡ (read.function >>= (λ f. pure (Item f))) from
unfolding read.part
part_void word from v = eats Void read.part_by word from v

part_variable : (int name : Lexeme) (from to : List Lexeme) (i : RawItem) → Is Int int → Is Name name → read.variable (name ∷ from) ≡ Ok (i, to) →
    read.part (int ∷ name ∷ from) ≡ Ok (Item i, to)
part_variable int name from to i is_int n h =
    part_int int (name ∷ from) is_int ∙ stays Main read.global_by (name ∷ from) (unlike name from Name Main n (λ e. cc)) ∙ goes (λ v. pure (Item v)) h

part_main : (int name : Lexeme) (from to : List Lexeme) (body : List RawStmt) → Is Int int → Is Main name → read.main_part from ≡ Ok (body, to) →
    read.part (int ∷ name ∷ from) ≡ Ok (Body body, to)
part_main int name from to body i m h = part_int int (name ∷ from) i ∙ eats Main read.global_by name from m ∙ goes (λ body. pure (Body body)) h

pub reads_item : {from to : List Lexeme} {i : RawItem} → DerivesItem from to i → read.part from ≡ Ok (Item i, to)
unfolding rest
reads_item (scalar {int} {name} {end} {to} i n e) =
    part_variable int name (end ∷ to) to (item.Scalar (name_of name) (pos 0)) i n (reads_variable name end (end ∷ to) to Semicolon
    (item.Scalar (name_of name) (pos 0)) n (at_head end to Semicolon e) refl e)
reads_item (started {int} {name} {equals} {start} {end} {n = v} {to} i n q h e) =
    part_variable int name (equals ∷ start ∷ end ∷ to) to (item.Scalar (name_of name) (pos v)) i n
    (reads_variable name end (equals ∷ start ∷ end ∷ to) to Assign (item.Scalar (name_of name) (pos v)) n (at_head equals (start ∷ end ∷ to) Assign q)
    (goes (λ z. pure (item.Scalar (name_of name) z)) (reads_plain start v (end ∷ to) h)) e)
reads_item (below_zero {int} {name} {equals} {minus} {start} {end} {n = v} {to} i n q m h e) =
    part_variable int name (equals ∷ minus ∷ start ∷ end ∷ to) to (item.Scalar (name_of name) (neg_ℤ (pos v))) i n
    (reads_variable name end (equals ∷ minus ∷ start ∷ end ∷ to) to Assign (item.Scalar (name_of name) (neg_ℤ (pos v))) n
    (at_head equals (minus ∷ start ∷ end ∷ to) Assign q)
    (goes (λ z. pure (item.Scalar (name_of name) z)) (reads_below minus start v (end ∷ to) m h)) e)
reads_item (array {int} {name} {opening} {length} {closing} {end} {n = v} {to} i n o h least c e) =
    part_variable int name (opening ∷ length ∷ closing ∷ end ∷ to) to (item.Array (name_of name) (pos v)) i n
    (reads_variable name end (opening ∷ length ∷ closing ∷ end ∷ to) to OpenBracket (item.Array (name_of name) (pos v)) n
    (at_head opening (length ∷ closing ∷ end ∷ to) OpenBracket o)
    (reads_array name opening length closing v (end ∷ to) o h least c) e)
reads_item (function {void = word} {name} {opening} {closing} {from} {middle} {to} {params} {body} w n o d c b) =
    part_void word (name ∷ opening ∷ from) w ∙ goes (λ f. pure (Item f)) (reads_function name opening closing from middle to params body n o d c b)

reads_main : {from to : List Lexeme} {body : List RawStmt} → DerivesMain from to body → read.part from ≡ Ok (Body body, to)
reads_main (main {int} {name} {opening} {paren} {brace} {closing} {from} {after = behind} {to} {body} i m o p b d r c) =
    part_main int name (opening ∷ paren ∷ brace ∷ from) to body i m
    (reads_main_plain opening (paren ∷ brace ∷ from) to body o (unlike paren (brace ∷ from) CloseParen Void p (λ e. cc))
    (reads_inside paren brace closing from behind to body p b d r c))
reads_main (main_void {int} {name} {opening} {void = word} {paren} {brace} {closing} {from} {after = behind} {to} {body} i m o v p b d r c) =
    part_main int name (opening ∷ word ∷ paren ∷ brace ∷ from) to body i m
    (reads_main_void opening word (paren ∷ brace ∷ from) to body o v (reads_inside paren brace closing from behind to body p b d r c))

-- ---- whole programs

reads_items : {from middle : List Lexeme} {items : List RawItem} → DerivesItems from middle items → (body : List RawStmt) → DerivesMain middle [] body →
    (found : List RawItem) (k : ℕ) → length from ≤ k →
    read.program_from k found from ≡ Ok (whole (found ++ items) body, [])
reads_items (programs.none {to}) body m found k enough =
    program_main k found to [] body (reads_main m) (shorter rule.Body _ _ refl (_, m)) enough ∙ ap (λ (all : List RawItem). Ok (pair (whole all body) []))
    (sym (append-nil found))
reads_items (programs.more {from} {middle} {to} {i} {rest = others} d ds) body m found k enough =
    let less = shorter rule.Item _ _ refl (_, d) in
    program_item k found from middle i (reads_item d) less enough
    ∙ reads_items ds body m (found ++ i ∷ []) (k - 1) (omega arith)
    ∙ ap (λ (all : List RawItem). Ok (pair (whole all body) [])) (append_assoc found (i ∷ []) others)

pub reads_program : (tokens : List Lexeme) (p : RawProgram) → Derives tokens p → read.program tokens ≡ Ok (p, [])
unfolding read.program
reads_program tokens p d = reads_items d.items p.main d.main [] (length tokens) (omega arith)

pub one_program : (tokens : List Lexeme) (p q : RawProgram) → Derives tokens p → Derives tokens q → p ≡ q
one_program tokens p q d e = (same_pair {a = p} {b = q} {x = []} {y = []} (sym (reads_program tokens p d) ∙ reads_program tokens q e)).0
