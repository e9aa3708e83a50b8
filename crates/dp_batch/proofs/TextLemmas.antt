-- The texts of runs beside their inputs.
use Rattle.std.proofs.Common.{◌≡◌, refl, sym, ap, ◌∙◌, ℕ, zero, suc, ◌+◌, ◌<◌, ◌≤◌, List, [], ◌∷◌, ◌++◌, ℤ, length, drop, take, take_all, get_or, Result, Ok}
use Rattle.std.proofs.Common.{Err, IfOk, IsOkAnd, append_assoc, append-nil, arith}
use Rattle.std.specs.List.{AllZip}
use Rattle.std.proofs.lemmas.List.{drop_all}
use Rattle.dp_room.specs.declared.NoMemory.{NoMemory}
use Rattle.dp_batch.specs.BatchText.{AreTexts, input_line, texts_from}

-- lists that are so at each place
pub each_beside : {A B : Type 0} (R : A → B → Type 0) (xs : List A) (ys : List B) → length ys ≡ length xs →
    ((i : ℕ) (d : A) (e : B) → i < length xs → R (get_or xs i d) (get_or ys i e)) → AllZip R xs ys
each_beside R [] [] same each = tt
each_beside R [] (y ∷ ys) same each = absurd (cc same)
each_beside R (x ∷ xs) [] same each = absurd (cc same)
each_beside R (x ∷ xs) (y ∷ ys) same each =
    (each zero x y (omega arith), each_beside R xs ys (cc same) (λ i d e lt. each (suc i) d e (omega (arith, lt))))

-- the input at a place, and its text
pub record Beside (text : List ℤ → List ℕ) (inputs : List (List ℤ)) (place : ℕ) (made : Result (List ℕ) NoMemory) : Type 0 where
  pub input : List ℤ
  pub cut : drop place inputs ≡ input ∷ drop (suc place) inputs
  pub is : IfOk made (λ bytes. bytes ≡ text input)

pub beside : (text : List ℤ → List ℕ) (inputs : List (List ℤ)) (texts : List (Result (List ℕ) NoMemory)) (place : ℕ) (d : Result (List ℕ) NoMemory) →
    AreTexts text inputs texts → place < length texts
    → Beside text inputs place (get_or texts place d)
beside text [] [] place d are lt = absurd (omega (arith, lt))
beside text [] (made ∷ texts) place d are lt = absurd are
beside text (input ∷ inputs) [] place d are lt = absurd are
beside text (input ∷ inputs) (made ∷ texts) zero d are lt = record { input = input; cut = refl; is = are.0 }
beside text (input ∷ inputs) (made ∷ texts) (suc place) d are lt =
    let rest = beside text inputs texts place d are.1 (omega (arith, lt)) in record { input = rest.input; cut = rest.cut; is = rest.is }

pub are_many : (text : List ℤ → List ℕ) (inputs : List (List ℤ)) (texts : List (Result (List ℕ) NoMemory)) → AreTexts text inputs texts →
    length inputs ≡ length texts
are_many text [] [] are = refl
are_many text [] (made ∷ texts) are = absurd are
are_many text (input ∷ inputs) [] are = absurd are
are_many text (input ∷ inputs) (made ∷ texts) are = ap suc (are_many text inputs texts are.1)

-- the text that is put behind others is that of its input
pub grew : (text : List ℤ → List ℕ) (inputs : List (List ℤ)) (place : ℕ) (made : Result (List ℕ) NoMemory) (out next whole : List ℕ) →
    Beside text inputs place made
    → IsOkAnd made (λ bytes. next ≡ out ++ (input_line (place + 1) ++ bytes)) → out ++ texts_from text (place + 1) (drop place inputs) ≡ whole →
    next ++ texts_from text (place + 1 + 1) (drop (place + 1) inputs) ≡ whole
grew text inputs place (Ok bytes) out next whole b put same =
    let later = texts_from text (place + 1 + 1) (drop (place + 1) inputs) in
    let one_more : suc place ≡ place + 1 = omega arith in
    let cut : drop place inputs ≡ b.input ∷ drop (place + 1) inputs = b.cut ∙ ap (λ (k : ℕ). b.input ∷ drop k inputs) one_more in
    let text_is : next ≡ out ++ (input_line (place + 1) ++ text b.input) = put ∙ ap (λ (t : List ℕ). out ++ (input_line (place + 1) ++ t)) b.is in
    ap (λ (t : List ℕ). t ++ later) text_is ∙ append_assoc out (input_line (place + 1) ++ text b.input) later
    ∙ ap (λ (rest : List (List ℤ)). out ++ texts_from text (place + 1) rest) (sym cut) ∙ same
grew text inputs place (Err e) out next whole b put same = absurd put

-- behind the last input
pub whole_text : (text : List ℤ → List ℕ) (inputs : List (List ℤ)) (texts : List (Result (List ℕ) NoMemory)) (place : ℕ) (out whole : List ℕ) →
    AreTexts text inputs texts → length texts ≤ place
    → out ++ texts_from text (place + 1) (drop place inputs) ≡ whole → out ≡ whole
whole_text text inputs texts place out whole are over same =
    let all : drop place inputs ≡ [] = drop_all place inputs (omega (arith, over, are_many text inputs texts are)) in
    sym (append-nil out) ∙ ap (λ (rest : List (List ℤ)). out ++ texts_from text (place + 1) rest) (sym all) ∙ same

-- what is written through a borrow of a whole list
pub written_back : {A : Type 0} (n : ℕ) (new old : List A) → length new ≡ length old → length old ≡ n → take n (new ++ drop (length new) old) ≡ new
written_back {A = A} n new old kept all =
    ap (λ (rest : List A). take n (new ++ rest)) (drop_all (length new) old (omega (arith, kept))) ∙ ap (take n) (append-nil new)
    ∙ take_all n new (omega (arith, kept, all))
