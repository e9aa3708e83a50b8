-- The clean iterations that weren't given yet.
use Rattle.std.proofs.Common.{◌≡◌, ◌&&◌, Bool, not, refl, sym, ap, ◌∙◌, arith, ℕ, zero, suc, ◌+◌, ◌-◌, ◌≤◌, List, [], ◌∷◌, ◌++◌, ℤ, length, take}
use Rattle.std.proofs.Common.{drop, sum_by, min, Result, Ok, Err, OnOk, Some, slice_get, drop-drop, inl, inr, nat_le, le-leb, leb-true}
use Rattle.std.proofs.lemmas.List.{take-append-le, drop-append-le, length-append, length-drop}
use Rattle.std.proofs.lemmas.List.Sums.{sum_by-cons}
use Rattle.std.proofs.lemmas.Bool.{cases_Bool, cases_lt}
use Rattle.std.proofs.Math.Seq.{take-length, drop-length}
use Rattle.std.proofs.Math.ListN.{drop_of_length-le}
use Rattle.dp_base.specs.declared.StoreOf.{StoreOf}
use Rattle.std.specs.List.{list_all}
use Rattle.std.proofs.lemmas.List.Folds.{list_all-append}
use Rattle.dp_lean_judge.specs.declared.collected.Collected.{Collected}
use Rattle.dp_judge.specs.Told.{goes_on_behind}
use Rattle.dp_judge.specs.declared.verdict.Verdict.{Verdict}
use Rattle.dp_judge.specs.declared.verdict.Verdict.TheVariants.{Clean}
use Rattle.dp_columns.proofs.Places.{rest_at}
use Rattle.dp_judge.specs.Decided.{cleans, cleans_from, end_verdicts, left_to_give}
use Rattle.dp_judge.specs.steps.Adding.{AddedTo, GrownTo, IsUngiven, none_closing}
use Rattle.dp_judge.specs.declared.told.Part.{Part}
use Rattle.dp_judge.specs.declared.told.ToldBatch.{ToldBatch}

-- where none was given, all are left
pub open_cleans : (t : ToldBatch) → IsUngiven t → cleans t ≡ cleans_from t.parts t.collected.stores t.collected.prints
open_cleans t whole =
    ap (λ (n : ℕ). cleans_from (drop n t.parts) (drop t.stores_given t.collected.stores) (drop t.prints_given t.collected.prints)) whole.given
    ∙ ap (λ (n : ℕ). cleans_from t.parts (drop n t.collected.stores) (drop t.prints_given t.collected.prints)) whole.stores_given
    ∙ ap (λ (n : ℕ). cleans_from t.parts t.collected.stores (drop n t.collected.prints)) whole.prints_given

-- so many are the parts' of stores, and of prints
abbrev stores_of : List Part → ℕ
stores_of parts = sum_by (λ (p : Part). p.stores) parts

abbrev prints_of : List Part → ℕ
prints_of parts = sum_by (λ (p : Part). p.prints) parts

-- the number of those that are left behind a front
front_low : (X : Type 0) (n rest : ℕ) (xs : List X) → n + rest ≡ length xs → n ≤ length xs
front_low X n rest xs all = omega (arith, all)

front_left : (X : Type 0) (n rest : ℕ) (xs : List X) → n + rest ≡ length xs → rest ≡ length (drop n xs)
front_left X n rest xs all = let left = length-drop n xs in omega (arith, all, left)

none_left : (X : Type 0) (xs : List X) → 0 ≡ length xs → xs ≡ []
none_left X [] none = refl
none_left X (x ∷ xs) none = absurd (omega (arith, none))

abbrev part : Part → List StoreOf → List ℤ → Verdict
part p stores prints = Clean (record { stores = stores; prints = prints; steps = p.steps; closing = p.closing })

-- what stands behind all stores and prints of the parts is no part's
pub front_cleans : (parts : List Part) (stores more : List StoreOf) (prints others : List ℤ) → stores_of parts ≡ length stores →
    prints_of parts ≡ length prints →
    cleans_from parts (stores ++ more) (prints ++ others) ≡ cleans_from parts stores prints
front_cleans [] stores more prints others all all_prints = refl
front_cleans (p ∷ rest) stores more prints others all all_prints =
    let first = sym (sum_by-cons (λ (q : Part). q.stores) p rest) ∙ all in
    let first_prints = sym (sum_by-cons (λ (q : Part). q.prints) p rest) ∙ all_prints in
    let low = front_low StoreOf p.stores (stores_of rest) stores first in
    let low_prints = front_low ℤ p.prints (prints_of rest) prints first_prints in
    let own = take-append-le p.stores stores more low in
    let own_prints = take-append-le p.prints prints others low_prints in
    let behind = drop-append-le p.stores stores more low in
    let behind_prints = drop-append-le p.prints prints others low_prints in
    (λ i. part p (own i) (own_prints i) ∷ cleans_from rest (behind i) (behind_prints i))
    ∙ ap (λ (vs : List Verdict). part p (take p.stores stores) (take p.prints prints) ∷ vs)
    (front_cleans rest (drop p.stores stores) more (drop p.prints prints) others
    (front_left StoreOf p.stores (stores_of rest) stores first) (front_left ℤ p.prints (prints_of rest) prints first_prints))

-- one part more has what stands there
pub more_cleans : (parts : List Part) (stores more : List StoreOf) (prints others : List ℤ) (last : Part) → last.stores ≡ length more →
    last.prints ≡ length others →
    stores_of parts ≡ length stores → prints_of parts ≡ length prints →
    cleans_from (parts ++ last ∷ []) (stores ++ more) (prints ++ others) ≡ cleans_from parts stores prints ++ part last more others ∷ []
more_cleans [] stores more prints others last is is_prints all all_prints =
    let own = ap (λ (n : ℕ). take n (stores ++ more)) is ∙ ap (λ (xs : List StoreOf). take (length more) (xs ++ more)) (none_left StoreOf stores all)
    ∙ take-length more in
    let own_prints = ap (λ (n : ℕ). take n (prints ++ others)) is_prints ∙ ap (λ (zs : List ℤ). take (length others) (zs ++ others))
    (none_left ℤ prints all_prints) ∙ take-length others in
    λ i. part last (own i) (own_prints i) ∷ []
more_cleans (p ∷ rest) stores more prints others last is is_prints all all_prints =
    let first = sym (sum_by-cons (λ (q : Part). q.stores) p rest) ∙ all in
    let first_prints = sym (sum_by-cons (λ (q : Part). q.prints) p rest) ∙ all_prints in
    let low = front_low StoreOf p.stores (stores_of rest) stores first in
    let low_prints = front_low ℤ p.prints (prints_of rest) prints first_prints in
    let own = take-append-le p.stores stores more low in
    let own_prints = take-append-le p.prints prints others low_prints in
    let behind = drop-append-le p.stores stores more low in
    let behind_prints = drop-append-le p.prints prints others low_prints in
    (λ i. part p (own i) (own_prints i) ∷ cleans_from (rest ++ last ∷ []) (behind i) (behind_prints i))
    ∙ ap (λ (vs : List Verdict). part p (take p.stores stores) (take p.prints prints) ∷ vs)
    (more_cleans rest (drop p.stores stores) more (drop p.prints prints) others last is is_prints
    (front_left StoreOf p.stores (stores_of rest) stores first) (front_left ℤ p.prints (prints_of rest) prints first_prints))

-- places past the last one are as the last one
drop_within : (X : Type 0) (xs : List X) (n : ℕ) → drop (min n (length xs)) xs ≡ drop n xs
drop_within X xs n = elim (cases_Bool (nat_le n (length xs))) [
  | inl within ↦ (
      let low : n ≤ length xs = leb-true n (length xs) within in
      let same : min n (length xs) ≡ n = omega (arith, low) in
      ap (λ (k : ℕ). drop k xs) same)
  | inr past ↦ (
      let high : length xs ≤ n = elim (cases_lt n (length xs)) [
        | inl less ↦ (let low : n ≤ length xs = omega (arith, less) in absurd (cc (sym past ∙ le-leb n (length xs) low)))
        | inr more ↦ more
      ] in
      let same : min n (length xs) ≡ length xs = omega (arith, high) in
      ap (λ (k : ℕ). drop k xs) same ∙ drop-length xs ∙ sym (drop_of_length-le xs high))
]

-- behind the next part the others are left
pub pass_cleans : (parts : List Part) (stores : List StoreOf) (prints : List ℤ) (given from from_prints given_new from_new from_prints_new : ℕ) (p : Part) →
    slice_get parts given ≡ Some p → given_new ≡ suc given → from_new ≡ min (from + p.stores) (length stores) →
    from_prints_new ≡ min (from_prints + p.prints) (length prints) →
    cleans_from (drop given parts) (drop from stores) (drop from_prints prints)
    ≡ part p (take p.stores (drop from stores)) (take p.prints (drop from_prints prints))
    ∷ cleans_from (drop given_new parts) (drop from_new stores) (drop from_prints_new prints)
pass_cleans parts stores prints given from from_prints given_new from_new from_prints_new p is given_is from_is from_prints_is =
    let behind = drop-drop p.stores from stores ∙ sym (drop_within StoreOf stores (from + p.stores)) ∙ ap (λ (n : ℕ). drop n stores) (sym from_is) in
    let behind_prints = drop-drop p.prints from_prints prints ∙ sym (drop_within ℤ prints (from_prints + p.prints))
    ∙ ap (λ (n : ℕ). drop n prints) (sym from_prints_is) in
    ap (λ (ps : List Part). cleans_from ps (drop from stores) (drop from_prints prints)) (rest_at parts given p is)
    ∙ (λ i. part p (take p.stores (drop from stores)) (take p.prints (drop from_prints prints)) ∷ cleans_from (drop (sym given_is i) parts)
    (behind i) (behind_prints i))

-- the parts' sum with one more is the length with what is behind
count_more : {X : Type 0} (f : Part → ℕ) (parts : List Part) (last : Part) (n : ℕ) → f last ≡ n → (xs more : List X) → sum_by f parts ≡ length xs →
    n ≡ length more → sum_by f (parts ++ last ∷ []) ≡ length (xs ++ more)
count_more f [] last n is xs more all many =
    let one = sum_by-cons f last [] in let both = length-append xs more in omega (arith, one, both, is, all, many)
count_more f (p ∷ parts) last n is xs more all many =
    let first = sum_by-cons f p (parts ++ last ∷ []) in
    let was = sum_by-cons f p parts in
    let rest = count_rest f parts last in
    let both = length-append xs more in
    omega (arith, first, was, rest, both, is, all, many)
  where
    count_rest : (f : Part → ℕ) (parts : List Part) (last : Part) → sum_by f (parts ++ last ∷ []) ≡ sum_by f parts + f last
    count_rest f [] last = let one = sum_by-cons f last [] in omega (arith, one)
    count_rest f (p ∷ parts) last =
        let first = sum_by-cons f p (parts ++ last ∷ []) in let was = sum_by-cons f p parts in let rest = count_rest f parts last in
        omega (arith, first, was, rest)

pub ok_then : {T E P Q : Type 0} (r : Result T E) → (P → Q) → OnOk r P → OnOk r Q
ok_then (Ok x) go p = go p
ok_then (Err e) go p = tt

-- so many more are behind
pub many_more : {X : Type 0} (xs more all : List X) (from : ℕ) → all ≡ xs ++ more → from ≡ length xs → length all - from ≡ length more
many_more xs more all from is begins = let both = length-append xs more in let whole = ap length is in omega (arith, both, whole, begins)

-- What stands behind those of a batch of which none was given yet is none's; and one part more has it.
module _ (t u : ToldBatch) (whole : IsUngiven t) (grown : GrownTo t u) where
  abbrev more : List StoreOf
  more = grown.grows.more

  abbrev others : List ℤ
  others = grown.grows.others

  opened : cleans u ≡ cleans_from u.parts (t.collected.stores ++ more) (t.collected.prints ++ others)
  opened =
      let none = grown.given ∙ whole.given in
      let no_stores = grown.stores_given ∙ whole.stores_given in
      let no_prints = grown.prints_given ∙ whole.prints_given in
      λ i. cleans_from (drop (none i) u.parts) (drop (no_stores i) (grown.grows.stores i)) (drop (no_prints i) (grown.grows.prints i))

  pub cleans_stay : cleans u ≡ cleans t
  cleans_stay =
      opened ∙ ap (λ (ps : List Part). cleans_from ps (t.collected.stores ++ more) (t.collected.prints ++ others)) grown.parts
      ∙ front_cleans t.parts t.collected.stores more t.collected.prints others whole.stores whole.prints ∙ sym (open_cleans t whole)

  module _ (new : ToldBatch) (given : new.given ≡ u.given) (stores_given : new.stores_given ≡ u.stores_given)
      (prints_given : new.prints_given ≡ u.prints_given) (same : new.collected ≡ u.collected)
      (last : Part) (is : last.stores ≡ length more) (is_prints : last.prints ≡ length others) (parts : new.parts ≡ u.parts ++ last ∷ []) where
    parts_are : new.parts ≡ t.parts ++ last ∷ []
    parts_are = parts ∙ ap (λ (ps : List Part). ps ++ last ∷ []) grown.parts

    stores_are : new.collected.stores ≡ t.collected.stores ++ more
    stores_are = ap (λ (c : Collected). c.stores) same ∙ grown.grows.stores

    prints_are : new.collected.prints ≡ t.collected.prints ++ others
    prints_are = ap (λ (c : Collected). c.prints) same ∙ grown.grows.prints

    grown_opened : cleans new ≡ cleans_from (t.parts ++ last ∷ []) (t.collected.stores ++ more) (t.collected.prints ++ others)
    grown_opened =
        let none = given ∙ grown.given ∙ whole.given in
        let no_stores = stores_given ∙ grown.stores_given ∙ whole.stores_given in
        let no_prints = prints_given ∙ grown.prints_given ∙ whole.prints_given in
        λ i. cleans_from (drop (none i) (parts_are i)) (drop (no_stores i) (stores_are i)) (drop (no_prints i) (prints_are i))

    pub cleans_grow : (steps : ℕ) (closing : Bool) → last.steps ≡ steps → last.closing ≡ closing → AddedTo t u grown steps closing new
    cleans_grow steps closing steps_are closes = record {
      ungiven = record {
        given = given ∙ grown.given ∙ whole.given;
        stores_given = stores_given ∙ grown.stores_given ∙ whole.stores_given;
        prints_given = prints_given ∙ grown.prints_given ∙ whole.prints_given;
        stores = ap stores_of parts_are ∙ count_more (λ (p : Part). p.stores) t.parts last (length more) is t.collected.stores more whole.stores refl
            ∙ ap length (sym stores_are);
        prints = ap prints_of parts_are ∙ count_more (λ (p : Part). p.prints) t.parts last (length others) is_prints t.collected.prints others whole.prints refl
            ∙ ap length (sym prints_are);
      };
      told = grown_opened ∙ more_cleans t.parts t.collected.stores more t.collected.prints others last is is_prints whole.stores whole.prints
          ∙ ap (λ (vs : List Verdict). vs ++ part last more others ∷ []) (sym (open_cleans t whole))
          ∙ (λ i. cleans t ++ Clean (record { stores = more; prints = others; steps = steps_are i; closing = closes i }) ∷ []);
    }

-- the next place
pub one_on : {X : Type 0} (xs : List X) (i : ℕ) (x : X) → slice_get xs i ≡ Some x → min (i + 1) (length xs) ≡ suc i
one_on [] i x is = absurd (cc is)
one_on (y ∷ ys) zero x is = omega arith
one_on (y ∷ ys) (suc i) x is = let low = one_on ys i x is in omega (arith, low)

-- behind the last part no clean iteration is left
pub none_clean : (t : ToldBatch) → length t.parts ≤ t.given → cleans t ≡ []
none_clean t past =
    ap (λ (ps : List Part). cleans_from ps (drop t.stores_given t.collected.stores) (drop t.prints_given t.collected.prints))
    (drop_of_length-le t.parts past)

cleans_go : (parts : List Part) (stores : List StoreOf) (prints : List ℤ) → list_all goes_on_behind (cleans_from parts stores prints) ≡ none_closing parts
cleans_go [] stores prints = refl
cleans_go (p ∷ rest) stores prints = ap (λ (t : Bool). not p.closing && t) (cleans_go rest (drop p.stores stores) (drop p.prints prints))

-- the epoch goes on behind what is left where no part closes and nothing stands behind them
pub goes_on_so : (t : ToldBatch) → (none_closing (drop t.given t.parts) && list_all goes_on_behind (end_verdicts t.end)) ≡ list_all
    goes_on_behind (left_to_give t)
goes_on_so t =
    ap (λ (test : Bool). test && list_all goes_on_behind (end_verdicts t.end))
    (sym (cleans_go (drop t.given t.parts) (drop t.stores_given t.collected.stores) (drop t.prints_given t.collected.prints)))
    ∙ sym (list_all-append goes_on_behind (cleans t) (end_verdicts t.end))
