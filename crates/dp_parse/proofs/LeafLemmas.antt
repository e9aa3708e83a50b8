-- Names and numbers: what the descent reads, and that it reads them.
use Rattle.std.proofs.Common.{◌≡◌, refl, ap, ◌∙◌, sym, ℕ, ◌≤◌, [], ℤ, pos, Bool, true, false, ◌&&◌, nat_le, if◌then◌else◌, List, ◌∷◌, Option, Some, None, Ok}
use Rattle.dp_base.specs.Arithmetic.{is_zero}
use Rattle.std.specs.Char.{is_ascii_digit}
use Rattle.std.specs.List.{list_all, AllPass}
use Rattle.std.specs.Str.Parse.{digits_value}
use Rattle.std.proofs.lemmas.Bool.{leb-true, le-leb}
use Rattle.std.proofs.lemmas.List.Sums.{AllPass-from_list_all, list_all-from_AllPass}
use Rattle.dp_lex.specs.Token.{Lexeme}
use Rattle.dp_tree.specs.declared.raw.Name.{Name as TreeName}
use Rattle.dp_tokens.specs.declared.symbol.Symbol.TheVariants.{Name, Number}
use Rattle.dp_tokens.specs.Symbols.{symbol, Is}
use Rattle.dp_tokens.specs.Leaves.{name_of, IsNumber}
use Rattle.dp_tokens.specs.Steps.{name, rest, same_symbol}
use Rattle.dp_tokens.specs.Numbers.{number, number_by, number_value, number_in_front, value_by, zero_by, sees_zero}
use Rattle.dp_parse.proofs.StepLemmas.{same_pair, takes, same_is, is_same, expects}

-- the name that was read
pub record Named (from to : List Lexeme) (n : TreeName) : Type 0 where
  pub token : Lexeme
  pub is : Is Name token
  pub splits : from ≡ token ∷ to
  pub called : n ≡ name_of token

pub read_name : (from to : List Lexeme) (n : TreeName) → name from ≡ Ok (n, to) → Named from to n
unfolding name
read_name from to n e =
    let h = takes Name from _ n to e in let parts = same_pair h.second in
    record { token = h.value; is = h.is; splits = h.splits ∙ ap (λ ts. h.value ∷ ts) parts.1; called = sym parts.0 }

pub reads_name : (t : Lexeme) (to : List Lexeme) → Is Name t → name (t ∷ to) ≡ Ok (name_of t, to)
unfolding name
reads_name t to h = rw (expects Name t to h) refl

-- the number that was read
pub record Numbered (from to : List Lexeme) (z : ℤ) : Type 0 where
  pub token : Lexeme
  pub value : ℕ
  pub is : IsNumber token value
  pub splits : from ≡ token ∷ to
  pub reads : z ≡ pos value

-- the digits are a token's, with this value
record Valued (digits : List ℕ) (z : ℤ) : Type 0 where
  digits_only : AllPass is_ascii_digit digits
  fits : digits_value 10 digits ≤ 9223372036854775807
  is : z ≡ pos (digits_value 10 digits)

valued_by : (digits : List ℕ) (z : ℤ) (a b : Bool) → list_all is_ascii_digit digits ≡ a → nat_le (digits_value 10 digits) 9223372036854775807 ≡ b →
    (if a && b then Some (pos (digits_value 10 digits)) else None) ≡ Some z → Valued digits z
valued_by digits z true true all fits e = record { digits_only = AllPass-from_list_all is_ascii_digit digits all; fits = leb-true _ _ fits; is = sym (cc) }
valued_by digits z _ _ all fits e = absurd (cc)

valued : (digits : List ℕ) (z : ℤ) → number_value digits ≡ Some z → Valued digits z
unfolding number_value
valued digits z e = valued_by digits z (list_all is_ascii_digit digits) (nat_le (digits_value 10 digits) 9223372036854775807) refl refl e

next_is : (t : Lexeme) (ts : List Lexeme) (z : ℤ) (b : Bool) → same_symbol (symbol t) Number ≡ b → value_by b t.text ≡ Some z → Numbered (t ∷ ts) ts z
next_is t ts z true same e =
    let v = valued t.text z e in
    record {
      token = t;
      value = digits_value 10 t.text;
      is = record { number = same_is (symbol t) Number same; digits = v.digits_only; value = refl; fits = v.fits };
      splits = refl;
      reads = v.is;
    }
next_is t ts z false same e = absurd (cc)

-- the number that comes next is a token's
pub next_number_is : (ts : List Lexeme) (z : ℤ) → number_in_front ts ≡ Some z → Numbered ts (rest ts) z
unfolding number_in_front rest
next_number_is [] z e = absurd (cc)
next_number_is (t ∷ ts) z e = next_is t ts z (same_symbol (symbol t) Number) refl e

numbered_by : (from to : List Lexeme) (z : ℤ) (o : Option ℤ) → number_in_front from ≡ o → number_by o from ≡ Ok (z, to) → Numbered from to z
numbered_by from to z None is e = absurd (cc)
numbered_by from to z (Some y) is e =
    let parts = same_pair {a = y} {b = z} {x = rest from} {y = to} e in
    rw (← parts.0, ← parts.1) (next_number_is from y is)

pub read_number : (from to : List Lexeme) (z : ℤ) → number from ≡ Ok (z, to) → Numbered from to z
unfolding number
read_number from to z e =
    numbered_by from to z (number_in_front from) refl e

values : (digits : List ℕ) (n : ℕ) → AllPass is_ascii_digit digits → digits_value 10 digits ≡ n → n ≤ 9223372036854775807 → number_value digits ≡ Some (pos n)
unfolding number_value
values digits n all e fits =
    rw (list_all-from_AllPass is_ascii_digit digits all, e, le-leb n 9223372036854775807 fits) refl

pub next_number_of : (t : Lexeme) (n : ℕ) (to : List Lexeme) → IsNumber t n → number_in_front (t ∷ to) ≡ Some (pos n)
unfolding number_in_front
next_number_of t n to h =
    ap (λ (b : Bool). value_by b t.text) (is_same (symbol t) Number h.number) ∙ values t.text n h.digits h.value h.fits

pub sees_of : (t : Lexeme) (n : ℕ) (to : List Lexeme) → IsNumber t n → sees_zero (t ∷ to) ≡ is_zero (pos n)
unfolding sees_zero
sees_of t n to h = ap zero_by (next_number_of t n to h)

pub reads_number : (t : Lexeme) (n : ℕ) (to : List Lexeme) → IsNumber t n → number (t ∷ to) ≡ Ok (pos n, to)
unfolding number rest
reads_number t n to h = ap (λ (o : Option ℤ). number_by o (t ∷ to)) (next_number_of t n to h)
