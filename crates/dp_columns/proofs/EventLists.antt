-- Events as they are seen: more pairs, one event more, and the next one that is read.
use Rattle.std.proofs.Common.{◌≡◌, refl, sym, ap, subst, ◌∙◌, ℕ, suc, ◌+◌, ◌-◌, ◌≤◌, List, [], ◌∷◌, ◌++◌, length, take, drop, slice_get, Some, arith}
use Rattle.std.specs.List.{sum, sum_by}
use Rattle.std.proofs.lemmas.List.{drop-append-le, length-drop, take_all}
use Rattle.dp_tree.specs.Eval.{Load}
use Rattle.dp_columns.specs.declared.pairs.Part.{Part}
use Rattle.dp_columns.specs.declared.events.Mark.{Mark}
use Rattle.dp_columns.specs.Paired.{split_by, Grouped}
use Rattle.dp_columns.specs.Lent.{IsPart}
use Rattle.dp_columns.specs.Ahead.{IsReached, IsNextEvent}
use Rattle.dp_columns.proofs.PartLists.{parts_longer, parts_pushed, part_at, parts_before, sum_upto}

abbrev pub grouped : List ℕ → ℕ → List Load → Grouped
grouped counts settled pairs = record { ended = split_by counts pairs; unfinished = drop settled pairs }

drop_all : (xs : List Load) → drop (length xs) xs ≡ []
drop_all [] = refl
drop_all (x ∷ xs) = drop_all xs

module _ (counts : List ℕ) (settled : ℕ) (pairs : List Load) (old : Grouped) (seen : grouped counts settled pairs ≡ old)
    (within : (settled ≡ sum counts) × (settled ≤ length pairs)) where
  pub pairs_put : (new ls : List Load) → new ≡ pairs ++ ls → grouped counts settled new ≡ record { ended = old.ended; unfinished = old.unfinished ++ ls }
  pairs_put new ls e =
      let same : split_by counts new ≡ old.ended =
      ap (split_by counts) e ∙ parts_longer counts pairs ls (omega (arith, within.0, within.1)) ∙ ap (λ (g : Grouped). g.ended) seen in
      let more : drop settled new ≡ old.unfinished ++ ls =
      ap (drop settled) e ∙ drop-append-le settled pairs ls within.1 ∙ ap (λ (g : Grouped). g.unfinished ++ ls) seen in
      λ k. record { ended = same k; unfinished = more k }

  pub event_ended : (len : ℕ) (new : List ℕ) → len ≡ length pairs → new ≡ counts ++ (len - settled) ∷ [] →
      grouped new len pairs ≡ record { ended = old.ended ++ old.unfinished ∷ []; unfinished = [] }
  event_ended len new long e =
      let last : take (len - settled) (drop (sum counts) pairs) ≡ drop settled pairs =
      take_all (len - settled) (drop (sum counts) pairs) (omega (arith, long, within.0, length-drop (sum counts) pairs))
      ∙ ap (λ (k : ℕ). drop k pairs) (sym within.0) in
      let all : split_by new pairs ≡ old.ended ++ old.unfinished ∷ [] =
      ap (λ (ns : List ℕ). split_by ns pairs) e ∙ parts_pushed counts (len - settled) pairs
      ∙ ap (λ (ls : List Load). split_by counts pairs ++ ls ∷ []) last ∙ ap (λ (g : Grouped). g.ended ++ g.unfinished ∷ []) seen in
      let none : drop len pairs ≡ [] = ap (λ (n : ℕ). drop n pairs) long ∙ drop_all pairs in
      λ k. record { ended = all k; unfinished = none k }

  module _ (mark : Mark) (fits : IsReached old.ended mark) (n : ℕ) (found : slice_get counts mark.at ≡ Some n) where
    fitting : sum counts ≤ length pairs
    fitting = omega (arith, within.0, within.1)

    from_is : mark.from ≡ sum (take mark.at counts)
    from_is = fits ∙ ap (λ (g : Grouped). sum_by length (take mark.at g.ended)) (sym seen) ∙ parts_before counts mark.at pairs fitting

    pub next_within : mark.from + n ≤ settled
    next_within = omega (arith, from_is, (sum_upto counts mark.at n found).1, within.0)

    pub next_is : (to : ℕ) (p : Part) → to ≡ mark.from + n → IsPart (take (to - mark.from) (drop mark.from pairs)) p →
        IsNextEvent old.ended mark (record { part = p; behind = record { at = mark.at + 1; from = to } })
    next_is to p e is =
        let begin = sum (take mark.at counts) in
        let count : to - mark.from ≡ n = omega (arith, e) in
        let same : take (to - mark.from) (drop mark.from pairs) ≡ take n (drop begin pairs) = λ k. take (count k) (drop (from_is k) pairs) in
        let one : suc mark.at ≡ mark.at + 1 = omega arith in
        record {
          event = take n (drop begin pairs);
          found = ap (λ (g : Grouped). slice_get g.ended mark.at) (sym seen) ∙ part_at counts mark.at n pairs found;
          part = subst (λ (ls : List Load). IsPart ls p) same is;
          behind = sym one;
          fits = e ∙ (λ k. from_is k + n) ∙ sym (sum_upto counts mark.at n found).0 ∙ sym (parts_before counts (suc mark.at) pairs fitting)
              ∙ ap (λ (g : Grouped). sum_by length (take (suc mark.at) g.ended)) seen ∙ ap (λ (k : ℕ). sum_by length (take k old.ended)) one;
        }
