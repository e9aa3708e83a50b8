-- What is run for an accepted text stores at home, and its numbers and those of an input fit 64 bits.
use Rattle.std.proofs.Common.{◌≡◌, refl, sym, ap, ◌∙◌, subst, ℕ, ◌+◌, ◌==◌, Bool, true, false, ◌&&◌, if◌then◌else◌, nat_lt, nat_le, min, List, [], ◌∷◌, length}
use Rattle.std.proofs.Common.{ℤ, pos, neg_ℤ, Option, Some, None, Result, Ok, Err}
use Rattle.dp_base.specs.Arithmetic.{fits}
use Rattle.dp_base.specs.declared.Quantity.TheVariants.{InputBytes}
use Rattle.dp_text.specs.Each.{Each}
use Rattle.dp_edge.specs.Digits.{are_digits, digits_worth}
use Rattle.dp_edge.specs.declared.input.InputFail.{InputFail}
use Rattle.dp_edge.specs.declared.input.InputFail.TheVariants.{TooMany}
use Rattle.dp_edge.specs.Input.{signed_number, number_written, number_before, numbers_at, numbers_of, input_words}
use Rattle.dp_tree.specs.declared.Program.{Program}
use Rattle.dp_tree.specs.declared.raw.RawProgram.{RawProgram}
use Rattle.dp_parse.specs.Parses.{ParsesAs}
use Rattle.dp_check.specs.declared.fail.CheckFail.{CheckFail}
use Rattle.dp_check.specs.Answer.{unless}
use Rattle.dp_check.specs.Offence.{first_offence}
use Rattle.dp_check.specs.CheckAnswer.{names_of, too_many_functions, too_many_cells, resolved, check_answer}
use Rattle.dp_calls.specs.AtHome.{stores_at_home, numbers_fit, all_numbers_fit}
use Rattle.dp_calls.specs.Expand.{expand}
use Rattle.dp_calls.proofs.HomeLaws.{expanded_at_home}
use Rattle.dp_calls.proofs.SmallNumbers.{keeps_numbers_small}
use Rattle.dp_inline.specs.InlineAnswer.{inline_answer}
use Rattle.dp_refusal.specs.declared.refusal.Refusal.{Refusal}
use Rattle.dp_refusal.specs.declared.refusal.Refusal.TheVariants.{Limit}
use Rattle.dp_load.specs.AtHome.{ReadProgramsAreAtHome, ReadNumbersFit}
use Rattle.dp_load.specs.Inputs.{or_refused}
use Rattle.dp_load.specs.Program.{Reads, TooLong, NoToken, TooDeep, NoTree, Checked, checked_read}
use Rattle.dp_load.specs.Roles.{Contents, Input, Unnamed, Named}
use Rattle.dp_load.proofs.TextsLemmas.{source_of}
use Rattle.dp_load.proofs.accepted.Accepted.{kept, read_checked}
use Rattle.dp_load.proofs.accepted.RawNumbers.{small_texts}
use Rattle.dp_load.proofs.accepted.ResolvedNumbers.{resolved_fits}

-- ---- a program's text

given_is : (raw : RawProgram) (p : Program) → check_answer raw ≡ Ok p → resolved raw ≡ p
unfolding check_answer
given_is raw p given = by (first_offence (names_of raw)) (too_many_functions raw) (too_many_cells raw) given
  where
    by : (a b c : Option CheckFail) → unless a (unless b (unless c (Ok (resolved raw)))) ≡ Ok p → resolved raw ≡ p
    by None None None h = cc h
    by _ _ _ h = absurd (cc h)

tree_fits : (text : List ℕ) (raw : RawProgram) (p : Program) (v : Result Program CheckFail) → ParsesAs text raw → check_answer raw ≡ v → checked_read v ≡ Ok p →
    all_numbers_fit p ≡ true
tree_fits text raw p (Ok q) parses is e =
    let small = small_texts text raw parses in
    ap all_numbers_fit (sym (given_is raw q is ∙ kept q p (inline_answer q) e)) ∙ resolved_fits raw small.0 small.1
tree_fits text raw p (Err fail) parses is e = absurd (cc e)

read_fits : {text : List ℕ} {o : Result Program Refusal} (p : Program) → Reads text o → o ≡ Ok p → all_numbers_fit p ≡ true
read_fits p (TooLong h) e = absurd (cc e)
read_fits p (NoToken place h refused) e = absurd (cc e)
read_fits p (TooDeep quantity count h deep) e = absurd (cc e)
read_fits p (NoTree token h none) e = absurd (cc e)
read_fits {text = text} p (Checked raw h parses) e = tree_fits text raw p (check_answer raw) parses refl e

-- an accepted program's expansion
expansion_at_home : (text : List ℕ) (p : Program) → Reads text (Ok p) → (stores_at_home (expand p) ≡ true) × (numbers_fit (expand p) ≡ true)
expansion_at_home text p reads = (expanded_at_home p (read_checked text p reads), keeps_numbers_small p (read_fits p reads refl))

abbrev AtHome : Program → Type 0
AtHome q = (stores_at_home q ≡ true) × (numbers_fit q ≡ true)

pub programs_at_home : (text : List ℕ) → ReadProgramsAreAtHome text
programs_at_home text q h =
    let s = source_of (Reads text) q h in
    subst AtHome (sym s.is) (expansion_at_home text s.source s.reads)

-- ---- an input's text

abbrev AllFit : List ℤ → Type 0
AllFit numbers = Each (λ (z : ℤ). fits z ≡ true) numbers

signed_fits : (sign : ℕ → ℤ) (digits : List ℕ) (z : ℤ) → signed_number sign digits ≡ Some z → fits z ≡ true
signed_fits sign digits z e = by (are_digits digits) (fits (sign (digits_worth digits))) refl e
  where
    by : (a b : Bool) → fits (sign (digits_worth digits)) ≡ b → (if a && b then Some (sign (digits_worth digits)) else None) ≡ Some z → fits z ≡ true
    by true true is e = (let same : sign (digits_worth digits) ≡ z = cc e in ap fits (sym same) ∙ is)
    by true false is e = absurd (cc e)
    by false b is e = absurd (cc e)

number_fits : (word : List ℕ) (z : ℤ) → number_written word ≡ Some z → fits z ≡ true
number_fits [] z e = absurd (cc e)
number_fits (byte ∷ rest) z e = by (byte == 45) e
  where
    by : (b : Bool) → (if b then signed_number (λ n. neg_ℤ (pos n)) rest else signed_number pos (byte ∷ rest)) ≡ Some z → fits z ≡ true
    by true e = signed_fits (λ n. neg_ℤ (pos n)) rest z e
    by false e = signed_fits pos (byte ∷ rest) z e

-- a number for each word
each_fits : (input_words : List (List ℕ)) (place : ℕ) (numbers : List ℤ) → numbers_at place input_words ≡ Ok numbers → AllFit numbers
each_fits [] place numbers e = let none : [] ≡ numbers = cc e in subst AllFit none tt
each_fits (word ∷ input_words) place numbers e = by (number_written word) refl (numbers_at (place + 1) input_words) refl e (each_fits input_words (place + 1))
  where
    by : (n : Option ℤ) → number_written word ≡ n → (later : Result (List ℤ) InputFail) → numbers_at (place + 1) input_words ≡ later →
        number_before n place later ≡ Ok numbers →
        ((rest : List ℤ) → numbers_at (place + 1) input_words ≡ Ok rest → AllFit rest) → AllFit numbers
    by None one later is e next = absurd (cc e)
    by (Some z) one (Ok rest) is e next = (let same : z ∷ rest ≡ numbers = cc e in subst AllFit same (number_fits word z one, next rest is))
    by (Some z) one (Err fail) is e next = absurd (cc e)

all_fit : (text : List ℕ) (numbers : List ℤ) → numbers_of text ≡ Ok numbers → AllFit numbers
all_fit text numbers e = by (nat_le (length (input_words text)) 65536) e
  where
    by : (b : Bool) → (if b then numbers_at 1 (input_words text) else Err (TooMany (min (length (input_words text)) 1000000))) ≡ Ok numbers → AllFit numbers
    by true e = each_fits (input_words text) 1 numbers e
    by false e = absurd (cc e)

pub numbers_fit_in : (text : List ℕ) → ReadNumbersFit text
numbers_fit_in text numbers e = by (nat_lt 2097152 (length text)) e
  where
    read : (t : Result (List ℤ) InputFail) → numbers_of text ≡ t → or_refused t ≡ Ok numbers → AllFit numbers
    read (Ok zs) is e = (let same : zs ≡ numbers = cc e in subst AllFit same (all_fit text zs is))
    read (Err fail) is e = absurd (cc e)

    by : (b : Bool) → (if b then Err (Limit InputBytes 2097153) else or_refused (numbers_of text)) ≡ Ok numbers → AllFit numbers
    by true e = absurd (cc e)
    by false e = read (numbers_of text) refl e

read_input : {contents : Contents} {name : Option (List ℕ)} {o : Result (List ℤ) Refusal} (numbers : List ℤ) → Input contents name o →
    o ≡ Ok numbers → AllFit numbers
read_input numbers Unnamed e = let none : [] ≡ numbers = cc e in subst AllFit none tt
read_input numbers (Named name read r) e = numbers_fit_in r.text numbers (sym r.reads ∙ e)

pub input_fits : (contents : Contents) (name : Option (List ℕ)) (numbers : List ℤ) → Input contents name (Ok numbers) → Each (λ z. fits z ≡ true) numbers
input_fits contents name numbers h = read_input numbers h refl
