use Rattle.std.proofs.Common.{◌≡◌, ◌-◌, ◌++◌, [], ◌∷◌, ℕ, List, length, take, arith, subst, ap, ◌∙◌}
use Rattle.dp_units.proofs.LoopLemmas.{rest_at, rest_has}
use Rattle.dp_units.proofs.search.join_above.Goals as goal

pub loop-bottom-preserved : goal.loop-bottom-preserved
loop-bottom-preserved c =
    let bottoms : List ℕ = c.loop-bottom.bottoms.items in
    let rest : List ℕ = c.pop.new.self.items in
    let front : List ℕ = take (length bottoms - 1) bottoms in
    let is : bottoms ≡ front ++ c.in-Some.bottom ∷ [] = subst (λ (xs : List ℕ). xs ≡ take (length xs - 1) xs ++ c.in-Some.bottom ∷ []) c.as_slice.ensures.value
    c.in-Some.ensures.some in
    let left : rest ≡ take (length bottoms - 1) bottoms = c.pop.ensures.rest ∙ ap (λ k. take (k - 1) bottoms) c.loop-bottom.bottoms.ok.0 in
    let old = c.loop-bottom.invariant in
    record {
      rising = λ i j a b h ati atj. old.rising i j a b h (rest_at bottoms front rest c.in-Some.bottom is left i a ati)
          (rest_at bottoms front rest c.in-Some.bottom is left j b atj);
      kept = λ b has. old.kept b (has.0, rest_at bottoms front rest c.in-Some.bottom is left has.0 b has.1);
      all = λ b has low. rest_has bottoms front rest c.in-Some.bottom is left b (old.all b has low) (λ same. let high = c.if-bottom-place.false in
          omega (arith, same, low, high));
    }
