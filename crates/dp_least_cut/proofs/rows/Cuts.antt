-- What the definitions compute at small cuts.
use Rattle.std.proofs.Common.{◌≡◌, refl, inl, inr, arith, ℕ, zero, suc, true, false, List, [], ◌∷◌}
use Rattle.dp_least_cut.specs.declared.Stretch.{Stretch}
use Rattle.dp_least_cut.specs.Allowed.{AreStages, IsClear, bottleneck}
use Rattle.dp_least_cut.specs.Order.{IsBefore, places_from, replicated_count, kinds}
use Rattle.dp_least_cut.specs.Order.IsBefore.{by_bottleneck, by_places, by_count, by_kinds}

abbrev pub seq : ℕ → Stretch
seq units = record { units = units; replicated = false }

abbrev pub par : ℕ → Stretch
par units = record { units = units; replicated = true }

abbrev pipeline : List Stretch
pipeline = seq 1 ∷ seq 2 ∷ par 4 ∷ seq 2 ∷ []

abbrev weights : List ℕ
weights = 2 ∷ 1 ∷ 1 ∷ 1 ∷ 1 ∷ 1 ∷ 1 ∷ 1 ∷ 1 ∷ []

two_workers_halve : bottleneck weights 2 0 pipeline ≡ 2
two_workers_halve = refl

one_worker_does_not : bottleneck weights 1 0 pipeline ≡ 4
one_worker_does_not = refl

three_workers_round_up : bottleneck (2 ∷ 1 ∷ 1 ∷ 2 ∷ 2 ∷ 1 ∷ 2 ∷ 1 ∷ 1 ∷ []) 3 0 pipeline ≡ 3
three_workers_round_up = refl

units_before_each_cut : places_from 0 pipeline ≡ 1 ∷ 3 ∷ 7 ∷ []
units_before_each_cut = refl

one_is_replicated : replicated_count pipeline ≡ 1
one_is_replicated = refl

kinds_in_order : kinds pipeline ≡ false ∷ false ∷ true ∷ false ∷ []
kinds_in_order = refl

-- the units of a replicated stage have no carried edge between them; those into it and out of it may be there
clear : IsClear ((0, 1) ∷ (2, 3) ∷ []) 1 3
clear zero d lt inside = omega (arith, inside.0.0)
clear (suc zero) d lt inside = omega (arith, inside.1.1)
clear (suc (suc k)) d lt inside = omega (arith, lt)

sequential : false ≡ true → ⊥
sequential e = absurd (cc e)

edges_outside : AreStages ((0, 1) ∷ (2, 3) ∷ []) 4 true 0 (seq 1 ∷ par 2 ∷ seq 1 ∷ [])
edges_outside = (
  omega arith,
  λ (e : false ≡ true). absurd (sequential
      e),
  (omega arith, λ (e : true ≡ true). (refl, clear), (omega arith, λ (e : false ≡ true). absurd (sequential e), refl)),
)

edge_inside : AreStages ((2, 1) ∷ []) 4 true 0 (seq 1 ∷ par 2 ∷ seq 1 ∷ []) → ⊥
edge_inside stages = (stages.2.1 refl).1 0 (0, 0) (omega arith) ((omega arith, omega arith), (omega arith, omega arith))

-- of two cuts the one with the lesser bottleneck comes first, then the one that cuts at the earlier place, or sooner has no more cuts,
-- then the one with fewer replicated stages, and then the one with the earlier kinds
lesser_bottleneck : IsBefore (1 ∷ 1 ∷ 2 ∷ []) 1 (seq 2 ∷ seq 1 ∷ []) (seq 1 ∷ seq 2 ∷ [])
lesser_bottleneck = by_bottleneck (omega arith)

earlier_place : IsBefore (2 ∷ 0 ∷ 1 ∷ []) 1 (seq 1 ∷ seq 2 ∷ []) (seq 2 ∷ seq 1 ∷ [])
earlier_place = by_places refl (inl (omega arith))

fewer_cuts : IsBefore (2 ∷ 0 ∷ 1 ∷ []) 1 (seq 1 ∷ seq 2 ∷ []) (seq 1 ∷ seq 1 ∷ seq 1 ∷ [])
fewer_cuts = by_places refl (inr (refl, tt))

fewer_replicated : IsBefore (1 ∷ 1 ∷ 1 ∷ []) 1 (seq 1 ∷ seq 1 ∷ seq 1 ∷ []) (seq 1 ∷ par 1 ∷ seq 1 ∷ [])
fewer_replicated = by_count refl refl (omega arith)

later_replicated : IsBefore (1 ∷ 1 ∷ 1 ∷ 1 ∷ []) 1 (seq 1 ∷ seq 1 ∷ par 1 ∷ seq 1 ∷ []) (seq 1 ∷ par 1 ∷ seq 1 ∷ seq 1 ∷ [])
later_replicated = by_kinds refl refl refl (inr (refl, inl (refl, refl)))
