-- What the grammar derives as a declaration, the descent reads.
use Rattle.std.proofs.Common.{◌≡◌, refl, ap, ◌∙◌, sym, ℕ, zero, suc, ◌-◌, ◌≤◌, ℤ, pos, neg_ℤ, Bool, true, false, if◌then◌else◌, List, [], ◌∷◌, ◌++◌, length}
use Rattle.std.proofs.Common.{Option, Some, None, append_assoc, arith, Ok}
use Rattle.std.proofs.lemmas.Bool.{lt-ltb, le-ltb}
use Rattle.dp_base.specs.Arithmetic.{is_zero, fits}
use Rattle.dp_lex.specs.Token.{Lexeme}
use Rattle.dp_tree.specs.declared.raw.Name.{Name as TreeName}
use Rattle.dp_tree.specs.declared.raw.RawStmt.{RawStmt}
use Rattle.dp_tree.specs.declared.raw.RawItem.{RawItem}
use Rattle.dp_tree.specs.declared.raw.RawItem.TheVariants as item
use Rattle.dp_tokens.specs.declared.symbol.Symbol.{Symbol}
use Rattle.dp_tokens.specs.declared.symbol.Symbol.TheVariants.{Name, Number, Int, Void, Minus, OpenParen, CloseParen, OpenBracket, CloseBracket, Comma}
use Rattle.dp_tokens.specs.declared.symbol.Symbol.TheVariants.{Semicolon}
use Rattle.dp_tokens.specs.Symbols.{symbol_at, Is}
use Rattle.dp_tokens.specs.Leaves.{name_of, IsNumber}
use Rattle.dp_parse.specs.Statements.{DerivesBlock}
use Rattle.dp_parse.specs.Programs.{DerivesNames, last, more, DerivesParams, void, some, array, function}
use Rattle.dp_parse.specs.Programs as programs
use Rattle.dp_tokens.specs.Steps.{◌>>=◌, pure, parse_then, expect, sees_symbol, given, separated}
use Rattle.dp_tokens.specs.Steps as step
use Rattle.dp_tokens.specs.Numbers as numbers
use Rattle.dp_parse.specs.steps.Programs as read
use Rattle.dp_parse.specs.Rules.{Names}
use Rattle.dp_parse.specs.Rules as rule
use Rattle.dp_parse.proofs.Going.{Goes, by, word_first, goes_whole}
use Rattle.dp_parse.proofs.StepLemmas.{pair, expects, eats, stays, sees_is, sees_other, after_is, after_other, unlike}
use Rattle.dp_parse.proofs.LeafLemmas.{reads_name, reads_number, sees_of}
use Rattle.dp_parse.proofs.Lists.{separated_on, separated_off}
use Rattle.dp_parse.proofs.StatementReads.{goes}
use Rattle.dp_parse.proofs.StatementComplete.{reads_block}

-- ---- numbers that are 0, or turned

pub not_zero : (n : ℕ) → 1 ≤ n → is_zero (pos n) ≡ false
unfolding is_zero
not_zero n h = le-ltb n 1 h

pub turns : (n : ℕ) → n ≤ 9223372036854775807 → numbers.negated (pos n) ≡ Some (neg_ℤ (pos n))
unfolding numbers.negated
turns zero h = refl
turns (suc n) h = ap (λ (b : Bool). if b then Some (neg_ℤ (pos (suc n))) else None) (lt-ltb n 9223372036854775808 (omega arith))

pub reads_plain : (t : Lexeme) (n : ℕ) (to : List Lexeme) → IsNumber t n → read.start (t ∷ to) ≡ Ok (pos n, to)
unfolding read.start
reads_plain t n to h = stays Minus read.start_by (t ∷ to) (unlike t to Number Minus h.number (λ k. cc)) ∙ reads_number t n to h

pub reads_below : (minus t : Lexeme) (n : ℕ) (to : List Lexeme) → Is Minus minus → IsNumber t n → read.start (minus ∷ t ∷ to) ≡ Ok (neg_ℤ (pos n), to)
unfolding read.start
reads_below minus t n to m h =
    eats Minus read.start_by minus (t ∷ to) m ∙ goes (λ z. given (numbers.negated z)) (reads_number t n to h)
    ∙ ap (λ (o : Option ℤ). given o to) (turns n h.fits)

-- ---- declarations, behind their first token

pub reads_variable : (name end : Lexeme) (from to : List Lexeme) (k : Symbol) (i : RawItem) → Is Name name → symbol_at from ≡ k →
    read.variable_by (name_of name) k from ≡ Ok (i, end ∷ to) → Is Semicolon end → read.variable (name ∷ from) ≡ Ok (i, to)
unfolding read.variable
reads_variable name end from to k i n at h e =
    goes (λ name. step.peek >>= (λ s. read.variable_by name s >>= (λ found. expect Semicolon >>= (λ _. pure found)))) (reads_name name from n)
    ∙ ap (λ (k : Symbol). parse_then (read.variable_by (name_of name) k from) (λ found. expect Semicolon >>= (λ _. pure found))) at
    ∙ rw h (rw (expects Semicolon end to e))

pub reads_array : (name opening length closing : Lexeme) (n : ℕ) (to : List Lexeme) → Is OpenBracket opening → IsNumber length n → 1 ≤ n →
    Is CloseBracket closing →
    read.array (name_of name) (opening ∷ length ∷ closing ∷ to) ≡ Ok (item.Array (name_of name) (pos n), to)
unfolding read.array
reads_array name opening length closing n to o h least c =
    let called = name_of name in
    goes (λ _. λ ts. read.array_by called (numbers.sees_zero ts) ts) (expects OpenBracket opening (length ∷ closing ∷ to) o)
    ∙ ap (λ (b : Bool). read.array_by called b (length ∷ closing ∷ to)) (sees_of length n (closing ∷ to) h ∙ not_zero n least)
    ∙ goes (λ length. expect CloseBracket >>= (λ _. pure (item.Array called length))) (reads_number length n (closing ∷ to) h)
    ∙ goes (λ _. pure (item.Array called (pos n))) (expects CloseBracket closing to c)

pub reads_param : (int name : Lexeme) (to : List Lexeme) → Is Int int → Is Name name → read.param (int ∷ name ∷ to) ≡ Ok (name_of name, to)
unfolding read.param
reads_param int name to i n = goes (λ _. step.name) (expects Int int (name ∷ to) i) ∙ reads_name name to n

reads_names : {from to : List Lexeme} {names : List TreeName} → DerivesNames from to names → (closing : Lexeme) (left : List Lexeme) → to ≡ closing ∷ left →
    Is CloseParen closing →
    (k : ℕ) (found : List TreeName) → length from ≤ k → separated read.param k found from ≡ Ok (found ++ names, to)
reads_names (last {int} {name} {to} i n) closing left splits h k found fits =
    let stop : sees_symbol Comma to ≡ false = rw splits (sees_other Comma (closing ∷ left) (unlike closing left CloseParen Comma h (λ e. cc))) in
    separated_off read.param k found (int ∷ name ∷ to) to (name_of name) (reads_param int name to i n) (omega arith) fits stop
    ∙ ap (λ (ts : List Lexeme). Ok (pair (found ++ name_of name ∷ []) ts)) (after_other Comma to stop)
reads_names (more {int} {name} {comma} {from} {to} {names} i n c ds) closing left splits h k found fits =
    separated_on read.param k found (int ∷ name ∷ comma ∷ from) (comma ∷ from) (name_of name) (reads_param int name (comma ∷ from) i n) (omega arith) fits
    (sees_is Comma comma from c)
    ∙ ap (separated read.param (k - 1) (found ++ name_of name ∷ [])) (after_is Comma comma from c)
    ∙ reads_names ds closing left splits h (k - 1) (found ++ name_of name ∷ []) (omega arith)
    ∙ ap (λ (all : List TreeName). Ok (pair all to)) (append_assoc found (name_of name ∷ []) names)

pub names_first : {from to : List Lexeme} → Goes Names from to → symbol_at from ≡ Int
names_first (by rule.last_name g) = word_first g
names_first (by rule.more_names g) = word_first g

pub reads_params : {from to : List Lexeme} {names : List TreeName} → DerivesParams from to names → (closing : Lexeme) (left : List Lexeme) →
    to ≡ closing ∷ left → Is CloseParen closing → read.params from ≡ Ok (names, to)
unfolding read.params
reads_params (programs.none {to}) closing left splits h =
    let seen : sees_symbol CloseParen to ≡ true = rw splits (sees_is CloseParen closing left h) in ap (λ (b : Bool). read.params_by b to) seen
reads_params (void {word} {to} w) closing left splits h =
    ap (λ (b : Bool). read.params_by b (word ∷ to)) (sees_other CloseParen (word ∷ to) (unlike word to Void CloseParen w (λ e. cc)))
    ∙ eats Void read.named_params_by word to w
reads_params (some {from} {to} {names} d) closing left splits h =
    let at = names_first (goes_whole Names refl (_, d)) in
    ap (λ (b : Bool). read.params_by b from) (sees_other CloseParen from (λ e. let clash : Int ≡ CloseParen = sym at ∙ e in cc clash))
    ∙ stays Void read.named_params_by from (λ e. let clash : Int ≡ Void = sym at ∙ e in cc clash)
    ∙ reads_names d closing left splits h (length from) [] (omega arith)

pub reads_function : (name opening closing : Lexeme) (from middle to : List Lexeme) (params : List TreeName) (body : List RawStmt) → Is Name name →
    Is OpenParen opening → DerivesParams from (closing ∷ middle) params → Is CloseParen closing →
    DerivesBlock middle to body → read.function (name ∷ opening ∷ from) ≡ Ok (item.Function (name_of name) params body, to)
unfolding read.function
reads_function name opening closing from middle to params body n o d c b =
    rw (reads_name name (opening ∷ from) n)
    (rw (expects OpenParen opening from o) (rw (reads_params d closing middle refl c) (rw (expects CloseParen closing middle c)
    (rw (reads_block b (length middle) (omega arith))))))
