-- Answers of parts, one after the other; and a loop that answers for a list, item by item.
use Rattle.std.proofs.Common.{◌≡◌, append_assoc, append-nil, refl, ap, ◌∙◌, List, [], ◌∷◌, ◌++◌, Option, Some, None, Result, Ok, Err, sym, ℕ, ◌+◌, ◌<◌, ◌≤◌}
use Rattle.std.proofs.Common.{length, get_or, drop}
use Rattle.dp_check.specs.declared.fail.CheckFail.{CheckFail}
use Rattle.dp_check.specs.Offence.{Token, offence, first_offence}
use Rattle.dp_tree.specs.declared.Stmt.{Stmt}
use Rattle.dp_check.specs.Answer.{answer, onto, with_last, GivesChecked}
use Rattle.std.proofs.lemmas.List.{at_drop_more, at_drop_all}
use Rattle.std.specs.Option.{option_or}

-- the next answer, unless this one is a refusal
abbrev pub and_then : {X Y : Type 0} → Result X CheckFail → (X → Result Y CheckFail) → Result Y CheckFail
and_then (Ok x) next = next x
and_then (Err e) next = Err e

pub option_or-None : (o : Option CheckFail) → option_or o None ≡ o
option_or-None None = refl
option_or-None (Some e) = refl

pub option_or-option_or : (a b c : Option CheckFail) → option_or (option_or a b) c ≡ option_or a (option_or b c)
option_or-option_or None b c = refl
option_or-option_or (Some e) b c = refl

pub first_offence-append : (a b : List Token) → first_offence (a ++ b) ≡ option_or (first_offence a) (first_offence b)
first_offence-append [] b = refl
first_offence-append (t ∷ a) b =
    ap (option_or (offence t)) (first_offence-append a b) ∙ Rattle.std.proofs.Common.sym (option_or-option_or (offence t) (first_offence a) (first_offence b))

-- an answer of one part
pub answer-one : {X Z : Type 0} (o : Option CheckFail) (x : X) (f : X → Z) → answer o (f x) ≡ and_then (answer o x) (λ u. Ok (f u))
answer-one None x f = refl
answer-one (Some e) x f = refl

-- an answer of two parts
pub answer-two : {X Y Z : Type 0} (o p : Option CheckFail) (x : X) (y : Y) (f : X → Y → Z)
    → answer (option_or o p) (f x y) ≡ and_then (answer o x) (λ u. and_then (answer p y) (λ v. Ok (f u v)))
answer-two None p x y f = answer-one p y (f x)
answer-two (Some e) p x y f = refl

-- an answer of three parts
pub answer-three : {X Y Z W : Type 0} (o p q : Option CheckFail) (x : X) (y : Y) (z : Z) (f : X → Y → Z → W)
    → answer (option_or o (option_or p q)) (f x y z) ≡ and_then (answer o x) (λ u. and_then (answer p y) (λ v. and_then (answer q z) (λ w. Ok (f u v w))))
answer-three None p q x y z f = answer-two p q y z (f x)
answer-three (Some e) p q x y z f = refl

pub onto-all : {X : Type 0} (r : Result (List X) CheckFail) → onto [] r ≡ r
unfolding onto
onto-all (Ok xs) = refl
onto-all (Err e) = refl

pub onto-none : {X : Type 0} (done : List X) → onto done (Ok []) ≡ Ok done
unfolding onto
onto-none done = ap Ok (append-nil done)

-- the first of the rest is done
pub onto-more : {X : Type 0} (done : List X) (one : Result X CheckFail) (rest : Result (List X) CheckFail)
    → onto done (and_then one (λ x. and_then rest (λ xs. Ok (x ∷ xs)))) ≡ and_then one (λ x. onto (done ++ x ∷ []) rest)
unfolding onto
onto-more done (Ok x) (Ok xs) = ap Ok (Rattle.std.proofs.Common.sym (append_assoc done (x ∷ []) xs))
onto-more done _ _ = refl

-- some of the rest are done
pub onto-further : {X : Type 0} (done : List X) (some rest : Result (List X) CheckFail)
    → onto done (and_then some (λ xs. and_then rest (λ ys. Ok (xs ++ ys)))) ≡ and_then (onto done some) (λ all. onto all rest)
unfolding onto
onto-further done (Ok xs) (Ok ys) = ap Ok (Rattle.std.proofs.Common.sym (append_assoc done xs ys))
onto-further done _ _ = refl

-- several are done, and one more
pub onto-one : {X : Type 0} (done : List X) (some : Result (List X) CheckFail) (one : Result X CheckFail)
    → onto done (and_then some (λ xs. and_then one (λ x. Ok (xs ++ x ∷ [])))) ≡ and_then (onto done some) (λ all. and_then one (λ x. Ok (all ++ x ∷ [])))
unfolding onto
onto-one done (Ok xs) (Ok x) = ap Ok (Rattle.std.proofs.Common.sym (append_assoc done xs (x ∷ [])))
onto-one done _ _ = refl

-- an answer of one statement behind those that are done
pub gives_behind : (r : Result (List Stmt) CheckFail) (done : List Stmt) (one : Result Stmt CheckFail) → GivesChecked r (with_last [] one) →
    GivesChecked (onto done r) (with_last done one)
unfolding onto
gives_behind r done (Ok x) h = ap (onto done) h
gives_behind r done (Err e) h = λ other. ap (onto done) (h other)

-- what an answer tells of the offence
pub answer-Ok : {X : Type 0} (o : Option CheckFail) (x y : X) → answer o x ≡ Ok y → (o ≡ None) × (x ≡ y)
answer-Ok None x y e = (refl, cc)
answer-Ok (Some f) x y e = absurd (cc)

pub answer-Err : {X Y : Type 0} (o : Option CheckFail) (x : X) (y : Y) (e : CheckFail) → answer o x ≡ Err e → answer o y ≡ Err e
answer-Err None x y e h = absurd (cc)
answer-Err (Some f) x y e h = ap Err (cc)

-- F answers for a list from a state: the first item by `one`, the rest from the state after it
module _ {P A X : Type 0} (F : P → List A → Result (List X) CheckFail) (one : P → A → Result X CheckFail) (step : P → A → P)
    (more : (p : P) (a : A) (rest : List A) → F p (a ∷ rest) ≡ and_then (one p a) (λ x. and_then (F (step p a) rest) (λ xs. Ok (x ∷ xs))))
    (xs : List A) (i : ℕ) (p : P) (done : List X) (whole : Result (List X) CheckFail) (so_far : whole ≡ onto done (F p (drop i xs))) where
  turn : (a : A) → i < length xs → a ≡ get_or xs i a → whole ≡ and_then (one p a) (λ x. onto (done ++ x ∷ []) (F (step p a) (drop (i + 1) xs)))
  turn a below is =
      so_far ∙ ap (onto done) (at_drop_more (F p) xs i a below ∙ ap (λ y. F p (y ∷ drop (i + 1) xs)) (sym is) ∙ more p a (drop (i + 1) xs))
      ∙ onto-more done (one p a) (F (step p a) (drop (i + 1) xs))

  -- one more item is done
  pub loop_more : (a : A) → i < length xs → a ≡ get_or xs i a → (x : X) → one p a ≡ Ok x → (q : P) → q ≡ step p a →
      whole ≡ onto (done ++ x ∷ []) (F q (drop (i + 1) xs))
  loop_more a below is x ok q moved =
      turn a below is ∙ ap (λ r. and_then r (λ y. onto (done ++ y ∷ []) (F (step p a) (drop (i + 1) xs)))) ok
      ∙ ap (λ r. onto (done ++ x ∷ []) (F r (drop (i + 1) xs))) (sym moved)

  -- an item is refused
  pub loop_refused : (a : A) → i < length xs → a ≡ get_or xs i a → (e : CheckFail) → one p a ≡ Err e → whole ≡ Err e
  loop_refused a below is e err = turn a below is ∙ ap (λ r. and_then r (λ y. onto (done ++ y ∷ []) (F (step p a) (drop (i + 1) xs)))) err

-- the same where one item answers with several
module _ {P A X : Type 0} (F : P → List A → Result (List X) CheckFail) (one : P → A → Result (List X) CheckFail) (step : P → A → P)
    (more : (p : P) (a : A) (rest : List A) → F p (a ∷ rest) ≡ and_then (one p a) (λ x. and_then (F (step p a) rest) (λ xs. Ok (x ++ xs))))
    (xs : List A) (i : ℕ) (p : P) (done : List X) (whole : Result (List X) CheckFail) (so_far : whole ≡ onto done (F p (drop i xs))) where
  turns : (a : A) → i < length xs → a ≡ get_or xs i a → whole ≡ and_then (onto done (one p a)) (λ all. onto all (F (step p a) (drop (i + 1) xs)))
  turns a below is =
      so_far ∙ ap (onto done) (at_drop_more (F p) xs i a below ∙ ap (λ y. F p (y ∷ drop (i + 1) xs)) (sym is) ∙ more p a (drop (i + 1) xs))
      ∙ onto-further done (one p a) (F (step p a) (drop (i + 1) xs))

  pub further : (a : A) → i < length xs → a ≡ get_or xs i a → (all : List X) → onto done (one p a) ≡ Ok all → (q : P) → q ≡ step p a →
      whole ≡ onto all (F q (drop (i + 1) xs))
  further a below is all ok q moved =
      turns a below is ∙ ap (λ r. and_then r (λ y. onto y (F (step p a) (drop (i + 1) xs)))) ok
      ∙ ap (λ r. onto all (F r (drop (i + 1) xs))) (sym moved)

  pub further_refused : (a : A) → i < length xs → a ≡ get_or xs i a → (e : CheckFail) → onto done (one p a) ≡ Err e → whole ≡ Err e
  further_refused a below is e err = turns a below is ∙ ap (λ r. and_then r (λ y. onto y (F (step p a) (drop (i + 1) xs)))) err

-- all items are done
pub loop_end : {P A X : Type 0} (F : P → List A → Result (List X) CheckFail) (xs : List A) (i : ℕ) (p : P) (done : List X) {whole : Result (List X) CheckFail} →
    whole ≡ onto done (F p (drop i xs)) → length xs ≤ i → F p [] ≡ Ok [] → whole ≡ Ok done
loop_end F xs i p done so_far over none = so_far ∙ ap (onto done) (at_drop_all (F p) xs i over ∙ none) ∙ onto-none done
