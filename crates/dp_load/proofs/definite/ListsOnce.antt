-- A list's text is read in one way only, and so are its inputs.
use Rattle.std.proofs.Common.{◌≡◌, refl, sym, ap, ap₂, ◌∙◌, ℕ, suc, ◌≤◌, ◌<◌, List, [], ◌∷◌, ◌++◌, map, length, Result, Ok, Err, arith}
use Rattle.std.proofs.lemmas.List.{same_from_push}
use Rattle.dp_base.specs.declared.Quantity.TheVariants.{ListBytes}
use Rattle.dp_text.specs.Lines.{lines_of}
use Rattle.dp_text.specs.Refused.{IsRefusedAt}
use Rattle.dp_text.proofs.RefusedOnce.{one_line, unrefused}
use Rattle.dp_list.specs.ListText.{IsList, ListLines}
use Rattle.dp_refusal.specs.declared.refusal.Refusal.{Refusal}
use Rattle.dp_refusal.specs.declared.refusal.Refusal.TheVariants.{Limit, ListLine}
use Rattle.dp_load.specs.Lists.{ReadsList, NoList, Taken, TooLong}
use Rattle.dp_load.specs.Then.{EachInTurn, LaterRefused, NoneLeft, OneMore, OneRefused}
use Rattle.dp_load.proofs.definite.ThenOnce.{Once}

-- lines that end so are those of one list of names
same_names : (names others : List (List ℕ)) → map (λ (name : List ℕ). name ++ 10 ∷ []) names ≡ map (λ (name : List ℕ). name ++ 10 ∷ []) others → names ≡ others
same_names [] [] e = refl
same_names [] (other ∷ others) e = absurd (cc e)
same_names (name ∷ names) [] e = absurd (cc e)
same_names (name ∷ names) (other ∷ others) e =
    let first : name ++ 10 ∷ [] ≡ other ++ 10 ∷ [] = cc e in
    let rest : map (λ (n : List ℕ). n ++ 10 ∷ []) names ≡ map (λ (n : List ℕ). n ++ 10 ∷ []) others = cc e in
    ap₂ (λ (n : List ℕ) (ns : List (List ℕ)). n ∷ ns) (same_from_push name other 10 10 first).0 (same_names names others rest)

module _ (text : List ℕ) where
  one_list : (names others : List (List ℕ)) → ListLines (lines_of text) names → ListLines (lines_of text) others → names ≡ others
  one_list names others s t = same_names names others (sym s.written ∙ t.written)

  none_refused : {A : Type 0} (names : List (List ℕ)) {line : ℕ} → ListLines (lines_of text) names → IsRefusedAt IsList (lines_of text) line → A
  none_refused names {line} t r = absurd (unrefused IsList (lines_of text) line (names, t) r)

  from_long : {b : Result (List (List ℕ)) Refusal} → 16384 < length text → ReadsList text b → Err (Limit ListBytes 16385) ≡ b
  from_long h (TooLong k) = refl
  from_long h (NoList line k r) = absurd (omega (arith, h, k))
  from_long h (Taken names k t) = absurd (omega (arith, h, k))

  from_line : {b : Result (List (List ℕ)) Refusal} (line : ℕ) → length text ≤ 16384 → IsRefusedAt IsList (lines_of text) line → ReadsList text b →
      Err (ListLine line) ≡ b
  from_line line h r (TooLong k) = absurd (omega (arith, h, k))
  from_line line h r (NoList other k s) = ap (λ (n : ℕ). Err (ListLine n)) (one_line IsList (lines_of text) r s)
  from_line line h r (Taken names k t) = none_refused names t r

  from_list : {b : Result (List (List ℕ)) Refusal} (names : List (List ℕ)) → length text ≤ 16384 → ListLines (lines_of text) names →
      ReadsList text b → Ok names ≡ b
  from_list names h t (TooLong k) = absurd (omega (arith, h, k))
  from_list names h t (NoList line k r) = none_refused names t r
  from_list names h t (Taken others k s) = ap (λ (ns : List (List ℕ)). Ok ns) (one_list names others t s)

  pub lists_once : {a b : Result (List (List ℕ)) Refusal} → ReadsList text a → ReadsList text b → a ≡ b
  lists_once (TooLong h) r = from_long h r
  lists_once (NoList line h s) r = from_line line h s r
  lists_once (Taken names h t) r = from_list names h t r

-- ---- one after the other

module _ {N X E : Type 0} {R : ℕ → N → Result X E → Type 0} (once : (number : ℕ) (name : N) → Once (R number name)) where
  from_more : {number : ℕ} {name : N} {rest : List N} {b : Result (List X) E} (x : X) (xs : List X) → R number name (Ok x) →
      ((c : Result (List X) E) → EachInTurn R (suc number) rest c → Ok xs ≡ c) → EachInTurn R number (name ∷ rest) b → Ok (x ∷ xs) ≡ b
  from_more x xs h later (OneMore number name rest y ys k next) =
      let first : Ok x ≡ Ok y = once number name (Ok x) (Ok y) h k in
      let others : Ok xs ≡ Ok ys = later (Ok ys) next in
      ap₂ (λ (z : X) (zs : List X). Ok (z ∷ zs)) (cc first) (cc others)
  from_more x xs h later (OneRefused number name rest refusal k) =
      let clash : Ok x ≡ Err refusal = once number name (Ok x) (Err refusal) h k in absurd (cc clash)
  from_more x xs h later (LaterRefused number name rest y refusal k next) = let clash : Ok xs ≡ Err refusal = later (Err refusal) next in absurd (cc clash)

  from_one : {number : ℕ} {name : N} {rest : List N} {b : Result (List X) E} (refusal : E) → R number name (Err refusal) →
      EachInTurn R number (name ∷ rest) b → Err refusal ≡ b
  from_one refusal h (OneMore number name rest y ys k next) = let clash : Err refusal ≡ Ok y = once number name (Err refusal) (Ok y) h k in absurd (cc clash)
  from_one refusal h (OneRefused number name rest other k) =
      let same : Err refusal ≡ Err other = once number name (Err refusal) (Err other) h k in
      let one : refusal ≡ other = cc same in
      ap (λ (e : E). Err e) one
  from_one refusal h (LaterRefused number name rest y other k next) =
      let clash : Err refusal ≡ Ok y = once number name (Err refusal) (Ok y) h k in absurd (cc clash)

  from_later : {number : ℕ} {name : N} {rest : List N} {b : Result (List X) E} (x : X) (refusal : E) → R number name (Ok x) →
      ((c : Result (List X) E) → EachInTurn R (suc number) rest c → Err refusal ≡ c) → EachInTurn R number (name ∷ rest) b → Err refusal ≡ b
  from_later x refusal h later (OneMore number name rest y ys k next) = let clash : Err refusal ≡ Ok ys = later (Ok ys) next in absurd (cc clash)
  from_later x refusal h later (OneRefused number name rest other k) =
      let clash : Ok x ≡ Err other = once number name (Ok x) (Err other) h k in absurd (cc clash)
  from_later x refusal h later (LaterRefused number name rest y other k next) =
      let same : Err refusal ≡ Err other = later (Err other) next in
      let one : refusal ≡ other = cc same in
      ap (λ (e : E). Err e) one

  from_end : {number : ℕ} {b : Result (List X) E} → EachInTurn R number [] b → Ok [] ≡ b
  from_end (NoneLeft number) = refl

  pub in_turn_once : {number : ℕ} {names : List N} {a : Result (List X) E} → EachInTurn R number names a → (b : Result (List X) E) →
      EachInTurn R number names b → a ≡ b
  in_turn_once (NoneLeft number) b k = from_end k
  in_turn_once (OneMore number name rest x xs h later) b k = from_more x xs h (in_turn_once later) k
  in_turn_once (OneRefused number name rest refusal h) b k = from_one refusal h k
  in_turn_once (LaterRefused number name rest x refusal h later) b k = from_later x refusal h (in_turn_once later) k
