-- What the descent reads as a declaration, the grammar derives.
use Rattle.std.proofs.Common.{◌≡◌, refl, ap, ◌∙◌, sym, ℕ, zero, ◌≤◌, ℤ, pos, neg_ℤ, nat_lt, Bool, true, false, if◌then◌else◌, List, [], ◌∷◌, ◌++◌, length, Some}
use Rattle.std.proofs.Common.{None, Ok, arith}
use Rattle.std.proofs.lemmas.Bool.{ltb-true, ltb-false}
use Rattle.dp_base.specs.Arithmetic.{is_zero, fits}
use Rattle.dp_lex.specs.Token.{Lexeme}
use Rattle.dp_tree.specs.declared.raw.Name.{Name as TreeName}
use Rattle.dp_tree.specs.declared.raw.RawStmt.{RawStmt}
use Rattle.dp_tree.specs.declared.raw.RawItem.{RawItem}
use Rattle.dp_tree.specs.declared.raw.RawItem.TheVariants as item
use Rattle.dp_tokens.specs.declared.symbol.Symbol.{Symbol}
use Rattle.dp_tokens.specs.declared.symbol.Symbol.TheVariants.{Name, Int, Void, Minus, Assign, OpenParen, CloseParen, OpenBracket, CloseBracket, Semicolon}
use Rattle.dp_tokens.specs.Symbols.{symbol_at, Is}
use Rattle.dp_tokens.specs.Leaves.{name_of, IsNumber}
use Rattle.dp_parse.specs.Statements.{DerivesBlock}
use Rattle.dp_parse.specs.Programs.{DerivesNames, DerivesParams, DerivesItem}
use Rattle.dp_parse.specs.Programs as programs
use Rattle.dp_tokens.specs.Steps.{◌>>=◌, pure, expect, rest, sees_symbol, given, separated}
use Rattle.dp_tokens.specs.Steps as step
use Rattle.dp_tokens.specs.Numbers as numbers
use Rattle.dp_parse.specs.steps.Statements as statements
use Rattle.dp_parse.specs.steps.Programs as read
use Rattle.dp_parse.proofs.StepLemmas.{pair, Sound, then_of, same_pair, takes, Ate, passed, stayed, ate, closed, moved, taken, gave}
use Rattle.dp_parse.proofs.Lists.{separated_sound}
use Rattle.dp_parse.proofs.LeafLemmas.{read_name, read_number, sees_of}
use Rattle.dp_parse.proofs.StatementSound.{sound_block, sound_statement}
use Rattle.dp_parse.proofs.ItemSteps.{read_param}

-- ---- numbers that are 0, or turned

pub zero_is : (z : ℤ) (n : ℕ) → z ≡ pos n → is_zero z ≡ true → n ≡ 0
unfolding is_zero
zero_is z n same e = let h : nat_lt n 1 ≡ true = sym (ap is_zero same) ∙ e in let less = ltb-true n 1 h in omega arith

pub nonzero_is : (z : ℤ) (n : ℕ) → z ≡ pos n → is_zero z ≡ false → 1 ≤ n
unfolding is_zero
nonzero_is z n same e = let h : nat_lt n 1 ≡ false = sym (ap is_zero same) ∙ e in ltb-false n 1 h

turned_by : (z w : ℤ) (b : Bool) → (if b then Some (neg_ℤ z) else None) ≡ Some w → w ≡ neg_ℤ z
turned_by z w true e = sym (cc)
turned_by z w false e = absurd (cc)

turned : (z w : ℤ) → numbers.negated z ≡ Some w → w ≡ neg_ℤ z
unfolding numbers.negated
turned z w e = turned_by z w (fits (neg_ℤ z)) e

-- the start value that was read
pub data Start (from to : List Lexeme) (z : ℤ) : Type 0 where
  plain : (t : Lexeme) (n : ℕ) → IsNumber t n → from ≡ t ∷ to → z ≡ pos n → Start from to z
  below : (minus t : Lexeme) (n : ℕ) → Is Minus minus → IsNumber t n → from ≡ minus ∷ t ∷ to → z ≡ neg_ℤ (pos n) → Start from to z

start_ate : (from to : List Lexeme) (z : ℤ) → Ate Minus read.start_by from z to → Start from to z
start_ate from to z (passed t middle is splits e) =
    let o = then_of (numbers.number middle) (λ v. given (numbers.negated v)) z to e in
    let n = read_number middle o.middle o.value o.first in
    let g = gave (numbers.negated o.value) z o.middle to o.second in
    below t n.token n.value is n.is (splits ∙ taken t (n.splits ∙ taken n.token g.1)) (turned o.value z g.0 ∙ ap neg_ℤ n.reads)
start_ate from to z (stayed other e) = let n = read_number from to z e in plain n.token n.value n.is n.splits n.reads

pub read_start : (from to : List Lexeme) (z : ℤ) → read.start from ≡ Ok (z, to) → Start from to z
unfolding read.start
read_start from to z e = start_ate from to z (ate Minus read.start_by z to from (λ k. cc) e)

-- ---- variables at file scope, behind their `int`

started : (int name equals end : Lexeme) (from to : List Lexeme) (z : ℤ) → Is Int int → Is Name name → Is Assign equals →
    Start from (end ∷ to) z → Is Semicolon end →
    DerivesItem (int ∷ name ∷ equals ∷ from) to (item.Scalar (name_of name) z)
started int name equals end from to z i n q (plain t v h splits same) e =
    moved DerivesItem (taken int (taken name (taken equals splits))) refl (ap (item.Scalar (name_of name)) same) (programs.started i n q h e)
started int name equals end from to z i n q (below minus t v m h splits same) e =
    moved DerivesItem (taken int (taken name (taken equals splits))) refl (ap (item.Scalar (name_of name)) same) (programs.below_zero i n q m h e)

sound_length : (int name opening end : Lexeme) (from to : List Lexeme) (i : RawItem) (b : Bool) → Is Int int → Is Name name → Is OpenBracket opening →
    numbers.sees_zero from ≡ b →
    read.array_by (name_of name) b from ≡ Ok (i, end ∷ to) → Is Semicolon end → DerivesItem (int ∷ name ∷ opening ∷ from) to i
sound_length int name opening end from to i true is_int is_name is_opening seen h is_end = absurd (cc)
sound_length int name opening end from to i false is_int is_name is_opening seen h is_end =
    let called = name_of name in
    let p = then_of (numbers.number from) (λ length. expect CloseBracket >>= (λ _. pure (item.Array called length))) i (end ∷ to) h in
    let n = read_number from p.middle p.value p.first in
    let q = takes CloseBracket p.middle (λ _. pure (item.Array called p.value)) i (end ∷ to) p.second in
    let parts = same_pair {a = item.Array called p.value} {b = i} {x = q.middle} {y = end ∷ to} q.second in
    let zero : is_zero (pos n.value) ≡ false = sym (sees_of n.token n.value p.middle n.is) ∙ ap numbers.sees_zero (sym n.splits) ∙ seen in
    moved DerivesItem (taken int (taken name (taken opening (n.splits ∙ taken n.token (q.splits ∙ taken q.value parts.1))))) refl (sym parts.0
    ∙ ap (item.Array called) n.reads)
    (programs.array is_int is_name is_opening n.is (nonzero_is (pos n.value) n.value refl zero) q.is is_end)

sound_array : (int name end : Lexeme) (from to : List Lexeme) (i : RawItem) → Is Int int → Is Name name → read.array (name_of name) from ≡ Ok (i, end ∷ to) →
    Is Semicolon end → DerivesItem (int ∷ name ∷ from) to i
unfolding read.array
sound_array int name end from to i is_int is_name h is_end =
    let o = takes OpenBracket from (λ _. λ ts. read.array_by (name_of name) (numbers.sees_zero ts) ts) i (end ∷ to) h in
    moved DerivesItem (taken int (taken name o.splits)) refl refl
    (sound_length int name o.value end o.middle to i (numbers.sees_zero o.middle) is_int is_name o.is refl o.second is_end)

variable_started : (int name end : Lexeme) (from to : List Lexeme) (i : RawItem) → symbol_at from ≡ Assign → Is Int int → Is Name name →
    (read.start >>= (λ z. pure (item.Scalar (name_of name) z))) (rest from) ≡ Ok (i, end ∷ to) → Is Semicolon end → DerivesItem (int ∷ name ∷ from) to i
unfolding symbol_at rest
variable_started int name end [] to i at is_int is_name h is_end = absurd (cc)
variable_started int name end (t ∷ from) to i at is_int is_name h is_end =
    let o = then_of (read.start from) (λ z. pure (item.Scalar (name_of name) z)) i (end ∷ to) h in
    let parts = same_pair {a = item.Scalar (name_of name) o.value} {b = i} {x = o.middle} {y = end ∷ to} o.second in
    let start = read_start from (end ∷ to) o.value (o.first ∙ ap (λ (ts : List Lexeme). Ok (pair o.value ts)) parts.1) in
    moved DerivesItem refl refl (sym parts.0) (started int name t end from to o.value is_int is_name at start is_end)

variable_plain : (int name end : Lexeme) (from to : List Lexeme) (i : RawItem) → Is Int int → Is Name name → pure (item.Scalar (name_of name) (pos 0)) from ≡ Ok
    (i, end ∷ to) → Is Semicolon end → DerivesItem (int ∷ name ∷ from) to i
variable_plain int name end from to i is_int is_name h is_end =
    let parts = same_pair {a = item.Scalar (name_of name) (pos 0)} {b = i} {x = from} {y = end ∷ to} h in
    moved DerivesItem (taken int (taken name parts.1)) refl (sym parts.0) (programs.scalar is_int is_name is_end)

variable_at : (int name end : Lexeme) (k : Symbol) (from to : List Lexeme) (i : RawItem) → symbol_at from ≡ k → Is Int int → Is Name name →
    read.variable_by (name_of name) k from ≡ Ok (i, end ∷ to) → Is Semicolon end → DerivesItem (int ∷ name ∷ from) to i
variable_at int name end OpenBracket from to i at is_int is_name h is_end = sound_array int name end from to i is_int is_name h is_end
variable_at int name end Assign from to i at is_int is_name h is_end = variable_started int name end from to i at is_int is_name h is_end
variable_at int name end _ from to i at is_int is_name h is_end = variable_plain int name end from to i is_int is_name h is_end

pub sound_variable : (int : Lexeme) (from to : List Lexeme) (i : RawItem) → Is Int int → read.variable from ≡ Ok (i, to) → DerivesItem (int ∷ from) to i
unfolding read.variable
sound_variable int from to i is_int h =
    let o = then_of (step.name from) (λ name. step.peek >>= (λ s. read.variable_by name s >>= (λ found. expect Semicolon >>= (λ _. pure found)))) i to h in
    let n = read_name from o.middle o.value o.first in
    let c = closed (read.variable_by o.value (symbol_at o.middle)) Semicolon (λ x. x) i o.middle to o.second in
    moved DerivesItem (taken int n.splits) refl c.made
    (variable_at int n.token c.closing (symbol_at o.middle) o.middle to c.value refl is_int n.is
    (ap (λ (name : TreeName). read.variable_by name (symbol_at o.middle) o.middle) (sym n.called) ∙ c.first) c.is)

-- ---- functions, behind their `void`

separated_names : (n : ℕ) (from to : List Lexeme) (found out : List TreeName) → separated read.param n found from ≡ Ok (out, to) →
    (names : List TreeName) × (out ≡ found ++ names) × DerivesNames from to names
separated_names =
    separated_sound read.param DerivesNames (λ from to x e. let p = read_param from to x e in
    moved DerivesNames p.splits refl (ap (λ (n : TreeName). n ∷ []) p.called) (programs.last p.is_int p.is))
    (λ from left to t x rest e is ds. let p = read_param from (t ∷ left) x e in
    moved DerivesNames p.splits refl (ap (λ (n : TreeName). n ∷ rest) p.called) (programs.more p.is_int p.is is ds))

named_params : (from to : List Lexeme) (names : List TreeName) → Ate Void read.named_params_by from names to → DerivesParams from to names
named_params from to names (passed t left is splits e) =
    let parts = same_pair {a = []} {b = names} {x = left} {y = to} e in
    moved DerivesParams (splits ∙ taken t parts.1) refl (sym parts.0) (programs.void is)
named_params from to names (stayed other e) = let r = separated_names (length from) from to [] names e in moved DerivesParams refl refl r.1 (programs.some r.2)

params_at : (b : Bool) (from to : List Lexeme) (names : List TreeName) → read.params_by b from ≡ Ok (names, to) → DerivesParams from to names
params_at true from to names h = let parts = same_pair {a = []} {b = names} {x = from} {y = to} h in
    moved DerivesParams parts.1 refl (sym parts.0) programs.none
params_at false from to names h = named_params from to names (ate Void read.named_params_by names to from (λ k. cc) h)

pub sound_params : Sound read.params DerivesParams
unfolding read.params
sound_params from to names h = params_at (sees_symbol CloseParen from) from to names h

pub sound_function : (void : Lexeme) (from to : List Lexeme) (i : RawItem) → Is Void void → read.function from ≡ Ok (i, to) → DerivesItem (void ∷ from) to i
unfolding read.function
sound_function void from to i is_void h =
    let last = λ (name : TreeName) (params : List TreeName) (body : List RawStmt). item.Function name params body in
    let o = then_of (step.name from)
    (λ name. expect OpenParen >>=
    (λ _. read.params >>= (λ params. expect CloseParen >>= (λ _. (λ ts. statements.block (statements.statement (length ts)) ts) >>=
    (λ body. pure (last name params body)))))) i to h in
    let n = read_name from o.middle o.value o.first in
    let p = takes OpenParen o.middle
    (λ _. read.params >>= (λ params. expect CloseParen >>= (λ _. (λ ts. statements.block (statements.statement (length ts)) ts) >>=
    (λ body. pure (last o.value params body))))) i to o.second in
    let q = then_of (read.params p.middle) (λ params. expect CloseParen >>= (λ _. (λ ts. statements.block (statements.statement (length ts)) ts) >>=
    (λ body. pure (last o.value params body)))) i to p.second in
    let u = takes CloseParen q.middle (λ _. (λ ts. statements.block (statements.statement (length ts)) ts) >>=
    (λ body. pure (last o.value q.value body))) i to q.second in
    let v = then_of (statements.block (statements.statement (length u.middle)) u.middle) (λ body. pure (last o.value q.value body)) i to u.second in
    let parts = same_pair {a = last o.value q.value v.value} {b = i} {x = v.middle} {y = to} v.second in
    let body = moved DerivesBlock refl (sym parts.1) refl (sound_block (statements.statement (length u.middle)) (sound_statement (length u.middle)) u.middle
    v.middle v.value v.first) in
    let params = moved DerivesParams refl (sym u.splits) refl (sound_params p.middle q.middle q.value q.first) in
    moved DerivesItem (taken void (n.splits ∙ taken n.token p.splits)) refl (sym parts.0
    ∙ ap (λ (name : TreeName). item.Function name q.value v.value) n.called)
    (programs.function is_void n.is p.is params u.is body)
