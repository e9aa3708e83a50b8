-- The counts over tokens, from a place on.
use Rattle.std.proofs.Common.{◌≡◌, refl, ap, ap₂, ◌∙◌, sym, ℕ, ◌+◌, ◌-◌, ◌≤◌, ◌<◌, max, Bool, true, false, ◌&&◌, List, [], ◌∷◌, map, length, drop, get_or}
use Rattle.std.proofs.Common.{count_by, if◌then◌else◌, drop-cons, add-one, arith}
use Rattle.std.proofs.lemmas.List.Sums.{sum_by-cons}
use mir.Val.{bool_byte}
use Rattle.std.proofs.lemmas.List.{drop_all}
use Rattle.dp_lex.specs.declared.Token.{Token}
use Rattle.dp_lex.specs.Tokens.{lexeme}
use Rattle.dp_tokens.specs.declared.symbol.Symbol.{Symbol}
use Rattle.dp_tokens.specs.Symbols.{symbol}
use Rattle.dp_parse.specs.Depth.{opens, closes_brace, operates, separates, is_if, is_else, else_if, largest, fronts, before_first, symbol_pieces, open_after}
use Rattle.dp_parse.specs.Depth.{begins_if, nesting, operators, operators_after, else_ifs}

abbrev pub symbols : List Token → List Symbol
symbols ts = map symbol (map lexeme ts)

abbrev pub one : Bool → ℕ
one b = if b then 1 else 0

pub symbols_next : (ts : List Token) (i : ℕ) (d : Token) → i < length ts → symbols (drop i ts) ≡ symbol (lexeme (get_or ts i d)) ∷ symbols (drop (i + 1) ts)
symbols_next ts i d within = let e : drop i ts ≡ get_or ts i d ∷ drop (i + 1) ts = rw add-one (drop-cons ts i d within) in ap symbols e

count_next : (p : Symbol → Bool) (s : Symbol) (ss : List Symbol) → count_by p (s ∷ ss) ≡ one (p s) + count_by p ss
count_next p s ss = sum_by-cons (λ x. one (p x)) s ss

-- numbers that are the same one by one have the same largest
largest_same : {A : Type 0} (f g : A → ℕ) → ((x : A) → f x ≡ g x) → (xs : List A) → largest (map f xs) ≡ largest (map g xs)
largest_same f g same [] = refl
largest_same f g same (x ∷ xs) = ap₂ max (same x) (largest_same f g same xs)

largest_map : {A B : Type 0} (f : B → ℕ) (h : A → B) (xs : List A) → largest (map f (map h xs)) ≡ largest (map (λ x. f (h x)) xs)
largest_map f h [] = refl
largest_map f h (x ∷ xs) = ap (max (f (h x))) (largest_map f h xs)

-- ---- open braces

abbrev open_with : ℕ → ℕ → List Symbol → ℕ
open_with opened closed front = (opened + count_by opens front) - (closed + count_by closes_brace front)

-- the most that is open, where so many braces were opened and closed before
abbrev pub nesting_from : ℕ → ℕ → ℕ → List Symbol → ℕ
nesting_from opened closed most ss = max most (largest (map (open_with opened closed) (fronts ss)))

pub nesting_at : (ts : List Token) → nesting (map lexeme ts) ≡ nesting_from 0 0 0 (symbols ts)
unfolding nesting
nesting_at ts = let same = largest_same open_after (open_with 0 0) (λ front. omega arith) (fronts (symbols ts)) in omega arith

open_now : (opened closed : ℕ) (ss : List Symbol) → opened - closed ≤ largest (map (open_with opened closed) (fronts ss))
open_now opened closed [] = omega arith
open_now opened closed (s ∷ ss) = omega arith

pub nesting_next : (opened closed most : ℕ) (s : Symbol) (ss : List Symbol) → opened - closed ≤ most →
    nesting_from opened closed most (s ∷ ss) ≡ nesting_from (opened + one (opens s)) (closed + one (closes_brace s))
    (max most ((opened + one (opens s)) - (closed + one (closes_brace s)))) ss
nesting_next opened closed most s ss le =
    let f = open_with opened closed in let g = open_with (opened + one (opens s)) (closed + one (closes_brace s)) in
    let step : (front : List Symbol) → f (s ∷ front) ≡ g front = λ front. let a = count_next opens s front in
    let b = count_next closes_brace s front in omega arith in
    let moved = largest_map f (λ (front : List Symbol). s ∷ front) (fronts ss) ∙ largest_same (λ front. f (s ∷ front)) g step (fronts ss) in
    let now = open_now (opened + one (opens s)) (closed + one (closes_brace s)) ss in
    omega arith

-- ---- operators

abbrev with_first : ℕ → List ℕ → List ℕ
with_first here [] = here ∷ []
with_first here (n ∷ ns) = (here + n) ∷ ns

-- the most operators, where so many stand before the first piece
abbrev pub operators_from : ℕ → ℕ → List Symbol → ℕ
operators_from here most ss = max most (largest (with_first here (map (count_by operates) (symbol_pieces ss))))

first_zero : (ns : List ℕ) → largest (with_first 0 ns) ≡ largest ns
first_zero [] = omega arith
first_zero (n ∷ ns) = omega arith

pub operators_at : (ts : List Token) → operators (map lexeme ts) ≡ operators_from 0 0 (symbols ts)
unfolding operators
operators_at ts = let h = first_zero (map (count_by operates) (symbol_pieces (symbols ts))) in omega arith

first_by : (here most : ℕ) (s : Symbol) (ps : List (List Symbol)) (b c : Bool) → separates s ≡ b → operates s ≡ c → here ≤ most →
    max most (largest (with_first here (map (count_by operates) (before_first b s ps))))
    ≡ max (max most (if b then 0 else (if c then here + 1 else here)))
    (largest (with_first (if b then 0 else (if c then here + 1 else here)) (map (count_by operates) ps)))
first_by here most s ps true c p q le = let h = first_zero (map (count_by operates) ps) in omega arith
first_by here most s [] false true p q le = let h = count_next operates s [] in let e = ap one q in omega arith
first_by here most s [] false false p q le = let h = count_next operates s [] in let e = ap one q in omega arith
first_by here most s (piece ∷ ps) false true p q le = let h = count_next operates s piece in let e = ap one q in omega arith
first_by here most s (piece ∷ ps) false false p q le = let h = count_next operates s piece in let e = ap one q in omega arith

pub operators_next : (here most : ℕ) (s : Symbol) (ss : List Symbol) → here ≤ most →
    operators_from here most (s ∷ ss) ≡ operators_from (operators_after here s) (max most (operators_after here s)) ss
operators_next here most s ss le = first_by here most s (symbol_pieces ss) (separates s) (operates s) refl refl le

-- ---- `else` before `if`

-- the `else if`s from a place on, after an `else` or not
abbrev pub else_from : Bool → List Symbol → ℕ
else_from after_else ss = one (after_else && begins_if ss) + else_ifs ss

pub else_at : (ts : List Token) → else_if (map lexeme ts) ≡ else_from false (symbols ts)
unfolding else_if
else_at ts = omega arith

pub else_next : (after_else : Bool) (s : Symbol) (ss : List Symbol) → else_from after_else (s ∷ ss) ≡ one (after_else && is_if s) + else_from (is_else s) ss
else_next after_else s ss = refl

pub else_end : (after_else : Bool) → else_from after_else [] ≡ 0
else_end true = refl
else_end false = refl

-- ---- a truth value as a number

pub byte_one : (b : Bool) → bool_byte b ≡ one b
byte_one true = refl
byte_one false = refl

pub one-le : (b : Bool) → one b ≤ 1
one-le true = omega arith
one-le false = omega arith

pub operators_after-le : (here : ℕ) (s : Symbol) → operators_after here s ≤ here + 1
operators_after-le here s = by_tests (separates s) (operates s)
  where
    by_tests : (a b : Bool) → (if a then 0 else (if b then here + 1 else here)) ≤ here + 1
    by_tests true b = omega arith
    by_tests false true = omega arith
    by_tests false false = omega arith

pub symbols_step : (ts : List Token) (i : ℕ) (s : Symbol) (d : Token) → i < length ts → s ≡ symbol (lexeme (get_or ts i d)) →
    symbols (drop i ts) ≡ s ∷ symbols (drop (i + 1) ts)
symbols_step ts i s d within e = symbols_next ts i d within ∙ ap (λ (k : Symbol). k ∷ symbols (drop (i + 1) ts)) (sym e)

pub symbols_over : (ts : List Token) (i : ℕ) → length ts ≤ i → symbols (drop i ts) ≡ []
symbols_over ts i over = ap symbols (drop_all i ts over)
